-- What is unfinished is a copy from the client exactly where its head came last.
use Rattle.std.proofs.Common.{◌≡◌, List, [], ◌∷◌, ◌++◌, Bool, true, false, Option, Some, sym, ap, ◌∙◌, arith}
use Rattle.std.specs.List.{flat_map}
use Rattle.pg_wire.specs.message.BackMessage.{BackMessage}
use Rattle.pg_wire.specs.message.BackMessage.TheVariants as back
use Rattle.pg_wire.specs.value.CopyHead.{CopyHead}
use Rattle.pg_wire.specs.Segment.{Asked, messages_of}
use Rattle.pg_response.specs.declared.mark.Mark.TheVariants as mark
use Rattle.pg_response.specs.declared.place.Open.{Open}
use Rattle.pg_response.specs.declared.place.Open.TheVariants as opened
use Rattle.pg_response.specs.declared.place.Place.{Place}
use Rattle.pg_response.specs.Place.{goes, goes_by, goes_all, start}
use Rattle.pg_response.specs.Collected.{come_of, CollectedView, HoldsBy}
use Rattle.pg_response.proofs.Holding.{goes_by-append, holds_after, some_before}

copy_in_leads : (a : Asked) (p q : Place) → goes a p mark.CopyIn ≡ Some q → q.opened ≡ opened.CopyIn
copy_in_leads a p q e = grind arith

-- what ends in a CopyInResponse leads to an open copy in
pub ends_open : (a : Asked) (core front : List BackMessage) (head : CopyHead) (p : Place) → core ≡ front ++ back.CopyIn head ∷ [] → goes_all a core ≡ Some p → p.opened ≡ opened.CopyIn
ends_open a core front head p e r =
    let there : goes_by a (goes_all a front) (back.CopyIn head ∷ []) ≡ Some p = sym (ap (goes_all a) e ∙ goes_by-append a (Some start) front (back.CopyIn head ∷ [])) ∙ r in
    let before = some_before a (goes_all a front) (back.CopyIn head ∷ []) p there in
    copy_in_leads a before.0 p (ap (λ (o : Option Place). goes_by a o (back.CopyIn head ∷ [])) (sym before.1) ∙ there)

-- and an open copy in ends in one
pub open_ends : (a : Asked) (core : List BackMessage) (p : Place) → goes_all a core ≡ Some p → p.opened ≡ opened.CopyIn → (front : List BackMessage) × (head : CopyHead) × (core ≡ front ++ back.CopyIn head ∷ [])
open_ends a core p e is =
    let held = holds_after a core p e in
    by held.0 p.failed held.1
  where
    by : (c : CollectedView) (failed : Bool) → HoldsBy failed a core p c → (front : List BackMessage) × (head : CopyHead) × (core ≡ front ++ back.CopyIn head ∷ [])
    by c true h = absurd (let k : opened.CopyIn ≡ opened.Nothing = sym is ∙ h.none_open in cc)
    by c false h = (flat_map messages_of c.parts, c.unfinished.head, h.messages ∙ ap (λ (o : Open). flat_map messages_of c.parts ++ come_of o c.unfinished) is)
