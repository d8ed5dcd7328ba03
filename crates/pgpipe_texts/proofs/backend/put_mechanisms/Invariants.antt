use Rattle.std.proofs.Common.{◌≡◌, ◌++◌, take}
use Rattle.std.specs.List.{flat_map}
use Rattle.pgpipe_texts.specs.Backend.{of_mechanism}
use Rattle.pgpipe_texts.proofs.backend.put_mechanisms.Given as goal

abbrev pub invariant-loop-byte : goal.invariant-loop-byte
invariant-loop-byte l = l.line.items ≡ l.initial.line.items ++ flat_map of_mechanism (take l.byte-index l.names)
