-- The codes of the faults that a client returns for calls and bytes. docs/PROTOCOL.md says when
-- each one comes.
use Rattle.std.specs.Prelude.{List, ℕ, codes}
use Rattle.pg_client.specs.declared.fault.CallFault.{CallFault}
use Rattle.pg_client.specs.declared.fault.CallFault.TheVariants as call
use Rattle.pg_client.specs.declared.fault.FeedFault.{FeedFault}
use Rattle.pg_client.specs.declared.fault.FeedFault.TheVariants as feed

-- The code of the fault with which a call is rejected.
abbrev pub call_code : CallFault → List ℕ
call_code (call.NotReady at) = codes "C1"
call_code (call.NotCopying at) = codes "C2"
call_code (call.Encode fault) = codes "C3"
call_code call.NoKey = codes "C4"

-- The code of the fault with which feed rejects bytes.
abbrev pub feed_code : FeedFault → List ℕ
feed_code (feed.Wire fault) = codes "F1"
feed_code (feed.Unexpected tag) = codes "F2"
feed_code (feed.UnsupportedAuth code) = codes "F3"
feed_code feed.PasswordWanted = codes "F4"
feed_code (feed.StartupError fields) = codes "F5"
feed_code (feed.ServerEnd fields) = codes "F6"
feed_code feed.Memory = codes "F7"
feed_code feed.Closed = codes "F8"
