use Rattle.std.proofs.Common.{◌∙◌}
use Rattle.pgpipe_loop.proofs.LineWriting.{whole_text}
use Rattle.pgpipe_loop.specs.contracts.lines.buffer.LineBuffer.{the_view}
use Rattle.pgpipe_loop.proofs.lines.buffer.LineBuffer.into_text.Goals as goal

pub returns : goal.returns
returns c rows e = whole_text c.fields_are_line.ensures c.text_round_trip.ensures.by_default (the_view c.self.inside) rows (c.self.view_is ∙ e)
