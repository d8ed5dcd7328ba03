use Rattle.std.proofs.Common.{◌≡◌, ◌<◌, ◌+◌, ◌-◌, ◌*◌, length, take}
use Rattle.hex.specs.Hex.{encode_lower}
use Rattle.pgpipe_base.proofs.hexadecimal.write_hexadecimal.Given as goal

abbrev pub invariant-loop-at : goal.invariant-loop-at
invariant-loop-at l = (l.at < l.last + 16) × (length l.digits ≡ 2 * length l.bytes) × (take (2 * l.at) l.digits ≡ encode_lower (take l.at l.bytes))

abbrev pub decreases-loop-at : goal.decreases-loop-at
decreases-loop-at l = length l.bytes - l.at
