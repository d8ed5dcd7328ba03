-- What becomes of a piece.
use Rattle.std.specs.Prelude.{◌≡◌, ℕ, false, List, length, None, Result}
use Rattle.pg_pair.specs.declared.carry.CarryFault.{CarryFault}
use Rattle.pg_pair.specs.declared.carry.Way.{Way}
use Rattle.pg_pair.specs.declared.pair.carrying.Carried.{Carried}
use Rattle.pg_pair.specs.declared.pair.delivering.Moved.{Moved}
use Rattle.pg_pair.specs.Breaking.{BreaksIf, is_closed}
use Rattle.pg_pair.specs.Carrying.{Carrying, delivered, is_bad}
use Rattle.pg_pair.specs.Delivering.{ArrivesAt}
use Rattle.pg_pair.specs.View.{PairView}

-- The carrier carried the piece, and this came of it.
pub record IsCarried {C : Type 0} (carries : Carrying C)
    (w : Way) (old : C) (piece : List ℕ) (new : C) (c : Carried) : Type 0 where
  pub came : Result (List ℕ) CarryFault
  pub carried : carries old w piece came new
  pub given : c.given ≡ length (delivered piece came)
  pub bad : c.bad ≡ is_bad piece came

-- The carrier of a pair carried the piece, and nothing else changed.
pub record PairCarries {C : Type 0} (carries : Carrying C)
    (w : Way) (p : PairView C) (piece : List ℕ) (c : Carried) (q : PairView C) : Type 0 where
  pub carried : IsCarried carries w p.carrier piece q.carrier c
  pub rest : q ≡ record p { carrier = q.carrier }

-- The piece went, as far as the carrier brought it, and the way broke where the carrier failed or gave other bytes.
pub record MovesPiece {C : Type 0} (carries : Carrying C)
    (w : Way) (p : PairView C) (piece : List ℕ) (m : Moved) (q : PairView C) : Type 0 where
  pub came : Result (List ℕ) CarryFault
  pub carrier : C
  pub carried : carries p.carrier w piece came carrier
  pub taken : PairView C
  pub takes : ArrivesAt w (record p { carrier = carrier }) (delivered piece came) m.answer taken
  pub breaks : BreaksIf m.bad w taken q
  pub given : m.given ≡ length (delivered piece came)
  pub bad : m.bad ≡ is_bad piece came
  pub going : m.answer ≡ None → m.bad ≡ false → is_closed w q ≡ false
