use Rattle.std.proofs.Common.{rules, ◌≡◌, ◌∷◌, [], ◌++◌, length, take, List, ℕ, refl, sym, ap, ◌∙◌, arith}
use Rattle.std.specs.Prelude.{option_copied}
use Rattle.std.proofs.lemmas.List.{take_all}
use Rattle.std.proofs.lemmas.Result.{err_from_is_err_and}
use Rattle.pg_copy_rows.specs.Row.{Row}
use Rattle.pg_copy_rows.specs.Private.Cuts.{last_cut}
use Rattle.pg_copy_rows.proofs.Cuts.{last-within, StandStill, stand-still, IsPushed, push-null, push-text}
use Rattle.pg_copy_rows.proofs.row.Row.push.Goals as goal
use Rattle.pg_copy_rows.proofs.row.Row.push.Goals.{After-put_text, After-push, in-None, in-Some+in_ok-put_text-in-Some}

behind-all : (start n : ℕ) (lent cuts : List ℕ) → start ≡ last_cut 0 (take n lent) → n ≡ length lent → lent ≡ cuts → start ≡ last_cut 0 cuts
behind-all start n lent cuts is all e = is ∙ ap (last_cut 0) (take_all n lent (omega (arith, all)) ∙ e)

pub put_text-requires : goal.put_text-requires
put_text-requires c =
    let is = behind-all c.start_of-start.result c.len.result c.as_slice.result.now c.self.inside.cuts.items c.start_of-start.ensures (c.len.ensures ∙ sym c.as_slice.ensures.len) c.as_slice.ensures.value in
    rw is (last-within 0 c.self.inside.cuts.items (length c.self.inside.bytes.items) (omega arith) c.self.invariant)

still : (c : After-put_text) → StandStill c.self.inside.cuts.items c.self.inside.bytes.items c.put_text.new.bytes.items
still c =
    let is = behind-all c.start_of-start.result c.len.result c.as_slice.result.now c.self.inside.cuts.items c.start_of-start.ensures (c.len.ensures ∙ sym c.as_slice.ensures.len) c.as_slice.ensures.value in
    stand-still c.self.inside.cuts.items c.self.inside.bytes.items c.put_text.new.bytes.items c.self.invariant (rw is at c.put_text.ensures.front) (rw is at c.put_text.ensures.in_range)

pub invariant_of-self : goal.invariant_of-self
invariant_of-self c = (still (goal.at.invariant_of-self c).After-put_text).cut

pub returns-in_err-put_text-in-Some-clause-err : goal.returns-in_err-put_text-in-Some-clause-err
returns-in_err-put_text-in-Some-clause-err c =
    let p = err_from_is_err_and c.from_residual.result c.from_residual.ensures.1 in
    rw p.1 ((still (goal.at.returns-in_err-put_text-in-Some-clause-err c).After-put_text).values ∙ c.self.view_is)

same-cuts : (c : After-push) → c.match-value.self-inside.cuts.items ≡ c.self.inside.cuts.items
same-cuts c = elim c.match-value.branch [ in-None w ↦ rw w.self-inside-is refl | in-Some+in_ok-put_text-in-Some w ↦ rw w.self-inside-is refl ]

stood : (c : After-push) → StandStill c.self.inside.cuts.items c.self.inside.bytes.items c.match-value.self-inside.bytes.items
stood c =
    let is = behind-all c.start_of-start.result c.len.result c.as_slice.result.now c.self.inside.cuts.items c.start_of-start.ensures (c.len.ensures ∙ sym c.as_slice.ensures.len) c.as_slice.ensures.value in
    elim c.match-value.branch [
      | in-None w ↦ rw w.self-inside-is (record { cut = c.self.invariant; values = refl })
      | in-Some+in_ok-put_text-in-Some w ↦ rw w.self-inside-is (stand-still c.self.inside.cuts.items c.self.inside.bytes.items w.put_text.new.bytes.items c.self.invariant (rw is at w.put_text.ensures.front) (rw is at w.put_text.ensures.in_range))
    ]

pushed : (c : After-push) → IsPushed c.self.inside.cuts.items c.self.inside.bytes.items c.match-value.self-inside.bytes.items c.match-value.end (option_copied c.args.value)
pushed c =
    let is = behind-all c.start_of-start.result c.len.result c.as_slice.result.now c.self.inside.cuts.items c.start_of-start.ensures (c.len.ensures ∙ sym c.as_slice.ensures.len) c.as_slice.ensures.value in
    elim c.match-value.branch [
      | in-None w ↦ rw (w.self-inside-is, w.end-is, w.in-None.is, is) (push-null c.self.inside.cuts.items c.self.inside.bytes.items c.self.invariant)
      | in-Some+in_ok-put_text-in-Some w ↦
          let size : w.len-end.result ≡ length w.put_text.new.bytes.items = search rules in
          rw (w.self-inside-is, w.end-is, w.in-Some.is, size) (push-text c.self.inside.cuts.items c.self.inside.bytes.items w.put_text.new.bytes.items w.in-Some.text.now c.self.invariant (rw is at w.put_text.ensures.front) (rw is at w.in_ok-put_text-in-Some.ensures.ok))
    ]

pub invariant_of-self-in_err-push : goal.invariant_of-self-in_err-push
invariant_of-self-in_err-push c =
    let at = (goal.at.invariant_of-self-in_err-push c).After-push in
    rw (c.in_err-push.ensures.items, same-cuts at) (stood at).cut

pub returns-in_err-push-clause-err : goal.returns-in_err-push-clause-err
returns-in_err-push-clause-err c =
    let at = (goal.at.returns-in_err-push-clause-err c).After-push in
    let p = err_from_is_err_and c.from_residual-in_err-push.result c.from_residual-in_err-push.ensures.1 in
    rw (p.1, c.in_err-push.ensures.items, same-cuts at) ((stood at).values ∙ c.self.view_is)

pub invariant_of-self-2 : goal.invariant_of-self-2
invariant_of-self-2 c =
    let at = (goal.at.invariant_of-self-2 c).After-push in
    rw (c.in_ok-push.ensures.items, same-cuts at) (pushed at).cut

pub returns-clause-ok : goal.returns-clause-ok
returns-clause-ok c =
    let at = (goal.at.returns-clause-ok c).After-push in
    rw (c.in_ok-push.ensures.items, same-cuts at) ((pushed at).values ∙ ap (λ (row : Row). row ++ option_copied c.args.value ∷ []) c.self.view_is)
