use Rattle.std.proofs.Common.{◌≡◌, ◌++◌, ◌∙◌, take, sym, arith}
use Rattle.std.proofs.lemmas.List.{length-take-le}
use Rattle.pgpipe_frames.specs.declared.next.NextFrame.TheVariants as next
use Rattle.pgpipe_show.proofs.Counting.{all_kept, passed_on, something_next, went_on}
use Rattle.pgpipe_show.proofs.summary.stream.Counting.count_piece.Goals as goal

pub returns-in-Nothing-clause-goes_on : goal.returns-in-Nothing-clause-goes_on
returns-in-Nothing-clause-goes_on c = λ bytes a.
    let s = c.args.self.now in
    let nothing : s.frames.next ≡ next.Nothing = sym c.upcoming.ensures ∙ c.in-Nothing.is in
    passed_on s.front bytes s.summary s.frames s.over c.saturating_add-self.result (take c.args.count s.into.items) nothing (omega (arith, c.saturating_add-self.ensures, length-take-le c.args.count s.into.items c.requires)) a

pub returns-in-Packet-clause-goes_on : goal.returns-in-Packet-clause-goes_on
returns-in-Packet-clause-goes_on c = λ bytes a.
    let s = c.args.self.now in
    let p = c.push_piece in
    let some : s.frames.next ≡ next.Nothing → ⊥ = λ e. something_next c.upcoming.result c.in-Packet.is (c.upcoming.ensures ∙ e) in
    let kept = all_kept s.front bytes s.summary s.frames s.over some a in
    went_on s.front (bytes ++ take c.args.count s.into.items) p.new.self.summary p.new.self.frames p.new.self.over (p.ensures.over ∙ kept.1) p.result (p.ensures.counts bytes kept.0)
