use Rattle.std.proofs.Common.{ℕ, List, subst}
use Rattle.std.specs.List.{FoldsTo}
use Rattle.pg_copy.specs.Text.{Options}
use Rattle.pgpipe_base.specs.Receiving.{IsSentAtOnce}
use Rattle.pgpipe_convert.specs.Convert.{file_with, writing_with, AreAllConverted}
use Rattle.pgpipe_convert.proofs.convert.convert.Goals as goal

pub returns-clause-at_once : goal.returns-clause-at_once
returns-clause-at_once g c = subst (λ (o : Options). (received : List (List ℕ)) × (sent : List (List ℕ)) × FoldsTo g.S.Source.gives c.args.source.now received c.convert_with.new.source × FoldsTo g.K.Sink.takes c.args.sink.now sent c.convert_with.new.sink × IsSentAtOnce (AreAllConverted (file_with o c.args.from c.args.columns) (writing_with o c.args.to)) received sent) c.default-options.ensures c.convert_with.ensures.at_once
