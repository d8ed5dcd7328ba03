-- Words for the numbers of the protocol.
use Rattle.std.specs.Prelude.{ℕ, ℤ, pos, ◌==◌, if◌then◌else◌, List, Option, None, Some, codes, unwrap_or}
use Rattle.std.specs.Fmt.{decimal, signed_decimal}
use Rattle.std.specs.Ordering.{int_eq}
use Rattle.pg_wire.specs.value.Status.{Status}
use Rattle.pg_wire.specs.value.Status.TheVariants.{Idle, InBlock, Failed}
use Rattle.pg_wire.specs.value.Target.{Target}
use Rattle.pg_wire.specs.value.Target.TheVariants.{Statement, Portal}

-- ---- data types, by their object ids (the catalog pg_type)

-- the types of numbers, texts and bytes
unfoldable pub plain_type : ℕ → Option (List ℕ)
plain_type oid =
    if oid == 16 then Some (codes "bool")
    else if oid == 17 then Some (codes "bytea")
    else if oid == 19 then Some (codes "name")
    else if oid == 20 then Some (codes "int8")
    else if oid == 21 then Some (codes "int2")
    else if oid == 23 then Some (codes "int4")
    else if oid == 25 then Some (codes "text")
    else if oid == 26 then Some (codes "oid")
    else if oid == 700 then Some (codes "float4")
    else if oid == 701 then Some (codes "float8")
    else if oid == 1042 then Some (codes "bpchar")
    else if oid == 1043 then Some (codes "varchar")
    else if oid == 1700 then Some (codes "numeric")
    else None

-- the types of times, documents, addresses and what has no type of its own
unfoldable pub other_type : ℕ → Option (List ℕ)
other_type oid =
    if oid == 114 then Some (codes "json")
    else if oid == 142 then Some (codes "xml")
    else if oid == 705 then Some (codes "unknown")
    else if oid == 869 then Some (codes "inet")
    else if oid == 1082 then Some (codes "date")
    else if oid == 1083 then Some (codes "time")
    else if oid == 1114 then Some (codes "timestamp")
    else if oid == 1184 then Some (codes "timestamptz")
    else if oid == 1186 then Some (codes "interval")
    else if oid == 2249 then Some (codes "record")
    else if oid == 2278 then Some (codes "void")
    else if oid == 2950 then Some (codes "uuid")
    else if oid == 3802 then Some (codes "jsonb")
    else None

-- the types of arrays
unfoldable pub array_type : ℕ → Option (List ℕ)
array_type oid =
    if oid == 1000 then Some (codes "bool[]")
    else if oid == 1005 then Some (codes "int2[]")
    else if oid == 1007 then Some (codes "int4[]")
    else if oid == 1009 then Some (codes "text[]")
    else if oid == 1015 then Some (codes "varchar[]")
    else if oid == 1016 then Some (codes "int8[]")
    else if oid == 1022 then Some (codes "float8[]")
    else if oid == 1231 then Some (codes "numeric[]")
    else None

-- a type: its name where it is a usual one, and else its object id
unfoldable pub type_text : ℕ → List ℕ
type_text oid = unwrap_or (plain_type oid)
    (unwrap_or (other_type oid) (unwrap_or (array_type oid) (decimal oid)))

-- ---- formats, states and targets

-- the format of a value or of a column, by its code
unfoldable pub format_text : ℤ → List ℕ
format_text code =
    if int_eq code (pos 0) then codes "text"
    else if int_eq code (pos 1) then codes "binary"
    else signed_decimal code

-- the transaction status
abbrev pub status_text : Status → List ℕ
status_text Idle = codes "idle"
status_text InBlock = codes "in a transaction"
status_text Failed = codes "in a failed transaction"

-- what a Describe or a Close names
abbrev pub target_text : Target → List ℕ
target_text Statement = codes "statement "
target_text Portal = codes "portal "
