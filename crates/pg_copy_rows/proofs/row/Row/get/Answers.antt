use Rattle.std.proofs.Common.{◌≡◌, ◌≤◌, List, ℕ, length, get_or, sym, ap, ◌∙◌, arith}
use Rattle.std.specs.List.{slice_get}
use Rattle.std.proofs.lemmas.Bool.{ltb-false}
use Rattle.pg_copy_rows.specs.Row.{Row}
use Rattle.pg_copy_rows.proofs.Cuts.{IsValueAt, value-at, values-past}
use Rattle.pg_copy_rows.proofs.row.Row.get.Goals as goal
use Rattle.pg_copy_rows.proofs.row.Row.get.Goals.{After-start_of-start}

pub returns-in_err-cut : goal.returns-in_err-cut
returns-in_err-cut c =
    let past : length c.self.inside.cuts.items ≤ c.args.index = omega (arith, ap length c.deref.ensures.value, ltb-false _ _ (sym c.in_err-cut.ensures.lookup.0)) in
    rw c.from_residual.ensures (sym (values-past 0 c.self.inside.cuts.items c.self.inside.bytes.items c.args.index past) ∙ ap (λ (row : Row). slice_get row c.args.index) c.self.view_is)

found : (c : After-start_of-start) → IsValueAt 0 c.self.inside.cuts.items c.self.inside.bytes.items c.args.index
found c = value-at 0 c.self.inside.cuts.items c.self.inside.bytes.items c.args.index c.self.invariant (omega (arith, c.in_ok-cut.ensures.lookup.3.0, ap length c.deref.ensures.value))

cut : (c : After-start_of-start) → c.in_ok-cut.field-0.now ≡ get_or c.self.inside.cuts.items c.args.index 0
cut c = c.in_ok-cut.ensures.lookup.3.1 0 ∙ ap (λ (cuts : List ℕ). get_or cuts c.args.index 0) c.deref.ensures.value

pub value_by-requires-clause-in_order : goal.value_by-requires-clause-in_order
value_by-requires-clause-in_order c =
    let at = (goal.at.value_by-requires-clause-in_order c).After-start_of-start in
    rw (c.start_of-start.ensures, c.as_slice.ensures.value, cut at) (found at).order

pub value_by-requires-clause-in_range : goal.value_by-requires-clause-in_range
value_by-requires-clause-in_range c =
    let at = (goal.at.value_by-requires-clause-in_range c).After-start_of-start in
    rw (c.as_slice-2.ensures.value, cut at) (found at).within

pub returns : goal.returns
returns c =
    let at = (goal.at.returns c).After-start_of-start in
    rw (c.value_by.ensures, c.start_of-start.ensures, c.as_slice.ensures.value, c.as_slice-2.ensures.value, cut at) (sym (found at).is ∙ ap (λ (row : Row). slice_get row c.args.index) c.self.view_is)
