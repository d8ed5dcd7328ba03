use Rattle.std.proofs.Common.{◌≡◌, ℕ, List, ap, ◌∙◌, rules}
use Rattle.pgpipe_show.specs.Counts.{with_row}
use Rattle.pgpipe_show.specs.Private.CountMap.{rows_of}
use Rattle.pgpipe_show.proofs.CountMaps.{row_put}
use Rattle.pgpipe_show.proofs.summary.counts.put_row.Goals as goal

pub returns-clause-ok : goal.returns-clause-ok
returns-clause-ok c =
    let old = c.args.rows.now.entries in
    let copied : c.in_ok-name.name.items ≡ c.args.label.now = search rules in
    ap rows_of c.in_ok-insert.ensures.entries ∙ row_put old c.in_ok-name.name c.args.counted ∙ ap (λ (k : List ℕ). with_row k c.args.counted (rows_of old)) copied
