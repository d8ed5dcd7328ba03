-- The codes of a backend's faults. When each comes stands in docs/PROTOCOL.md, under its code.
use Rattle.std.specs.Prelude.{List, ℕ, codes}
use Rattle.pg_backend.specs.declared.fault.BackendFault.{BackendFault}
use Rattle.pg_backend.specs.declared.fault.BackendFault.TheVariants as backend

-- the code of a backend's fault, K1 to K4, in ASCII
abbrev pub backend_code : BackendFault → List ℕ
backend_code (backend.Wire fault) = codes "K1"
backend_code backend.Memory = codes "K2"
backend_code backend.Closed = codes "K3"
backend_code (backend.Unexpected tag) = codes "K4"
