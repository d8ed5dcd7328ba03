use Rattle.std.proofs.Common.{rules, ◌≡◌, None, refl, ap, ◌∙◌}
use Rattle.pg_client.specs.View.{View}
use Rattle.pg_client.specs.Private.Hearing.{Cuts}
use Rattle.pg_client.specs.Private.Inside.{view_of}
use Rattle.pg_client.proofs.Hearing.Messages.{held_cuts, IsNoRow, message_closes, message_found, other_cuts, other_is_no_row, owned_is_no_row, wire_closes}
use Rattle.pg_client.proofs.connection.Connection.hear_next.Goals.{in-Other, in-Held+in-Ok-Some}
use Rattle.pg_client.proofs.connection.Connection.hear_next.Goals as goal

pub returns-in-Err : goal.returns-in-Err
returns-in-Err g c =
    let v = view_of c.self.inside in
    let is_open : v.closed ≡ None = ap (λ (x : View g.row.K.Denot). x.closed) c.self.view_is ∙ c.requires in
    (wire_closes g.K.Keeper.way v c.self.inside.decoder c.next_lent.new.self refl c.self.invariant.0 c.args.self.now c.self.view_is c.in-Err.fault c.of_wire-fault.result c.cause-self-inside.result (c.self.invariant.1 is_open) c.in-Err.ensures.call c.of_wire-fault.ensures c.cause-self-inside.ensures, refl)

pub returns-in-Err-hear : goal.returns-in-Err-hear
returns-in-Err-hear g c =
    let v = view_of c.self.inside in
    let cuts : Cuts v c.match-cut.message c.next_lent.new.self.stream.kept = elim c.match-cut.branch [
      | in-Other w ↦ rw w.message-is (other_cuts g.K.Keeper.way v c.self.inside.decoder c.next_lent.new.self refl c.self.invariant.0 w.in-Other.message (search rules))
      | in-Held+in-Ok-Some w ↦
          rw w.message-is (held_cuts g.K.Keeper.way v c.self.inside.decoder c.next_lent.new.self refl c.self.invariant.0 c.args.lends w.in-Ok-Some.message (search rules) (rw (← w.in-Ok-Some.field-0-is) w.in-Ok-Some.ensures))
    ] in
    message_closes g.K.Keeper.way v c.args.self.now c.self.view_is c.match-cut.message c.next_lent.new.self.stream.kept c.in-Err-hear.fault c.close-in-Err-hear.result (record v { kept = c.next_lent.new.self.stream.kept; held = c.next_lent.new.self.held; known = c.hear.new.self }) c.close-in-Err-hear.new.self c.args.out.now.items c.hear.new.out.items cuts refl c.in-Err-hear.ensures c.close-in-Err-hear.ensures.fault c.close-in-Err-hear.ensures.closed

pub returns-in-Ok-hear : goal.returns-in-Ok-hear
returns-in-Ok-hear g c =
    let v = view_of c.self.inside in
    let new = c.next_lent.new.self in
    let cuts : Cuts v c.match-cut.message new.stream.kept = elim c.match-cut.branch [
      | in-Other w ↦ rw w.message-is (other_cuts g.K.Keeper.way v c.self.inside.decoder new refl c.self.invariant.0 w.in-Other.message (search rules))
      | in-Held+in-Ok-Some w ↦
          rw w.message-is (held_cuts g.K.Keeper.way v c.self.inside.decoder new refl c.self.invariant.0 c.args.lends w.in-Ok-Some.message (search rules) (rw (← w.in-Ok-Some.field-0-is) w.in-Ok-Some.ensures))
    ] in
    let no_row : IsNoRow c.args.lends c.match-cut.message new.held = elim c.match-cut.branch [
      | in-Other w ↦ rw w.message-is (other_is_no_row c.args.lends w.in-Other.message c.self.inside.decoder new (search rules))
      | in-Held+in-Ok-Some w ↦ rw w.message-is (owned_is_no_row c.args.lends w.in-Ok-Some.message new.held (rw (← w.in-Ok-Some.field-0-is) w.in-Ok-Some.ensures))
    ] in
    message_found g.K.Keeper.way c.args.lends v c.args.self.now c.self.view_is c.match-cut.message new.stream.kept new.held c.hear.new.self c.args.out.now.items c.hear.new.out.items cuts no_row c.in-Ok-hear.ensures
