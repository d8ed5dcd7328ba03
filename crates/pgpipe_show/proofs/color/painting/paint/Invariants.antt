-- What stands in `out` and the coloured form of what is left are that of all.
use Rattle.std.proofs.Common.{◌≡◌, ◌≤◌, ◌*◌, ◌++◌, length, take, drop}
use Rattle.pgpipe_show.specs.ColoredPart.{colored, part_after}
use Rattle.pgpipe_show.proofs.color.painting.paint.Given as goal

abbrev pub invariant-loop-byte : goal.invariant-loop-byte
invariant-loop-byte l = record {
  room : l.at ≤ 10 * l.byte-index;
  size : length l.out ≡ length l.initial.out;
  colored : take l.at l.out ++ colored l.part (drop l.byte-index l.piece) ≡ colored l.fn.part l.piece;
  part : part_after l.part (drop l.byte-index l.piece) ≡ part_after l.fn.part l.piece;
}
