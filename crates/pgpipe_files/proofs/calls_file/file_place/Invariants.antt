use Rattle.std.proofs.Common.{◌≡◌, ◌+◌, drop}
use Rattle.pgpipe_files.specs.Private.Files.{file_place}
use Rattle.pgpipe_files.proofs.calls_file.file_place.Given as goal

abbrev pub invariant-loop-place : goal.invariant-loop-place
invariant-loop-place l = file_place l.fn.lines ≡ l.place + file_place (drop l.place l.fn.lines)
