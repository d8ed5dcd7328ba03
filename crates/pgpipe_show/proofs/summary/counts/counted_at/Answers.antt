use Rattle.std.proofs.Common.{Option, ap, ◌∙◌}
use Rattle.std.specs.Prelude.{unwrap_or}
use Rattle.pgpipe_show.specs.declared.summary.counts.FrameCount.{FrameCount}
use Rattle.pgpipe_show.specs.Counts.{none_counted}
use Rattle.pgpipe_show.proofs.CountMaps.{row_found}
use Rattle.pgpipe_show.proofs.summary.counts.counted_at.Goals as goal

pub returns-in-Some : goal.returns-in-Some
returns-in-Some c = ap (λ (o : Option FrameCount). unwrap_or o none_counted) c.in-Some.ensures.value ∙ row_found c.args.label.now c.args.rows.now.entries

pub returns-in-None : goal.returns-in-None
returns-in-None c = c.none_counted.ensures ∙ ap (λ (o : Option FrameCount). unwrap_or o none_counted) c.in-None.ensures.value ∙ row_found c.args.label.now c.args.rows.now.entries
