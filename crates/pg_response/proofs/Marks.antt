-- What leads anywhere in a segment is a part of a response.
use Rattle.std.proofs.Common.{◌≡◌, Some, None, arith}
use Rattle.pg_wire.specs.message.BackMessage.{BackMessage}
use Rattle.pg_wire.specs.Segment.{aside_of, Asked, status_of}
use Rattle.pg_response.specs.declared.mark.Mark.TheVariants as mark
use Rattle.pg_response.specs.declared.place.Place.{Place}
use Rattle.pg_response.specs.Place.{goes, mark_of}

-- a message that is no part of a response leads nowhere
pub goes_nowhere : (a : Asked) (p : Place) → goes a p mark.Other ≡ None
goes_nowhere a p = grind arith

-- no other message leads anywhere
module _ (a : Asked) (p q : Place) where
  pub goes_no_aside : (m : BackMessage) → goes a p (mark_of m) ≡ Some q → aside_of m ≡ None
  goes_no_aside m e = grind (arith, goes_nowhere)

  pub goes_no_end : (m : BackMessage) → goes a p (mark_of m) ≡ Some q → status_of m ≡ None
  goes_no_end m e = grind (arith, goes_nowhere)
