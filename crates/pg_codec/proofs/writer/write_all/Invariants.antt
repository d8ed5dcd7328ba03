use Rattle.std.proofs.Common.{◌≡◌, ◌++◌, take}
use Rattle.std.specs.Prelude.{All}
use Rattle.pg_codec.specs.Field.{listed}
use Rattle.pg_codec.proofs.writer.write_all.Given as goal

abbrev pub invariant-loop-item : goal.invariant-loop-item
invariant-loop-item g l = record {
  before : l.out.before ≡ l.initial.out.before;
  added : l.out.added ≡ l.initial.out.added ++ (listed g.T.Field.layout (take l.item-index l.items)).bytes;
  of_type : All (λ x. (g.T.Field.layout x).IsOfType) (take l.item-index l.items);
}
