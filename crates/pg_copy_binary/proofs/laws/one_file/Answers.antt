use Rattle.pg_copy_binary.proofs.BinaryFiles.{file-there, file-once}
use Rattle.pg_copy_binary.proofs.laws.one_file.Goals as goal

pub returns : goal.returns
returns c = record {
  there = λ columns limit bytes b. file-there columns limit bytes b.few b.short;
  one = λ columns limit bytes rows ending b. file-once columns limit bytes rows ending b.few b.short;
}
