use Rattle.std.proofs.Common.{ℕ, ◌-◌, List, [], ◌++◌, ap, ◌∙◌}
use Rattle.pg_pair.specs.declared.carry.Way.TheVariants.{ToBackend, ToClient}
use Rattle.pgpipe_loop.specs.Private.Lines.{LineState, whole_lines, with_rows}
use Rattle.pgpipe_loop.specs.Trace.{reached_rows, sent_since}
use Rattle.pgpipe_loop.proofs.LineWriting.{four_put}
use Rattle.pgpipe_loop.proofs.run_loop.telling.moved_lines.Goals as goal

pub returns : goal.returns
returns g c =
    let b = c.args.before.now in
    let p = c.args.pair.now in
    let back = reached_rows ToBackend (p.to_backend.reached - b.to_backend.reached) in
    let client = reached_rows ToClient (p.to_client.reached - b.to_client.reached) in
    let to_backend = sent_since ToBackend b.to_backend.sent p.to_backend.sent in
    let to_client = sent_since ToClient b.to_client.sent p.to_client.sent in
    c.into_text.ensures (back ++ client ++ to_backend ++ to_client)
    (four_put (whole_lines []) c.put_reached.new.lines c.put_reached-2.new.lines c.put_sent.new.lines c.put_sent-2.new.lines back client to_backend to_client
    (c.in_ok-put_reached.ensures ∙ ap (λ (n : ℕ). with_rows c.new-lines.result (reached_rows ToBackend n)) (c.saturating_sub-to_backend.ensures ∙ ap (λ (n : ℕ). n - b.to_backend.reached) c.reached.ensures.value) ∙ ap (λ (s : LineState). with_rows s back) c.new-lines.ensures)
    (c.in_ok-put_reached-2.ensures ∙ ap (λ (n : ℕ). with_rows c.put_reached.new.lines (reached_rows ToClient n)) (c.saturating_sub-to_client.ensures ∙ ap (λ (n : ℕ). n - b.to_client.reached) c.reached-2.ensures.value))
    (c.in_ok-put_sent.ensures ∙ ap (λ (l : List ℕ). with_rows c.put_reached-2.new.lines (sent_since ToBackend b.to_backend.sent l)) c.sent.ensures)
    (c.in_ok-put_sent-2.ensures ∙ ap (λ (l : List ℕ). with_rows c.put_sent.new.lines (sent_since ToClient b.to_client.sent l)) c.sent-2.ensures))
