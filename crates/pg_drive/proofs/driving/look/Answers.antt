use Rattle.std.proofs.Common.{rules, ◌≡◌, ◌∙◌, []}
use Rattle.std.specs.Prelude.{◌≢◌}
use Rattle.pg_client.specs.declared.phase.Phase.TheVariants as phase
use Rattle.pg_client.specs.View.{groups_waiting, phase_of}
use Rattle.pg_drive.proofs.Looking.{none_waits, not_both_phases}
use Rattle.pg_drive.proofs.driving.look.Goals as goal
use Rattle.pg_drive.proofs.driving.look.Goals.{in_default-via-in-Ready+else-eq, in_default-via-in_default}

pub returns-in-Ready : goal.returns-in-Ready
returns-in-Ready c =
    let none : groups_waiting c.args.client.now ≡ [] = none_waits (groups_waiting c.args.client.now) c.has_settled.result c.has_settled.ensures.1 c.if-has_settled.false in
    let started : c.args.began ≡ phase.Starting = search rules in
    let ready : phase_of c.args.client.now ≡ phase.Ready = search rules in
    (none, (started, ready))

pub returns-in-CopyingIn : goal.returns-in-CopyingIn
returns-in-CopyingIn c =
    let none : groups_waiting c.args.client.now ≡ [] = none_waits (groups_waiting c.args.client.now) c.has_settled.result c.has_settled.ensures.1 c.if-has_settled.false in
    let copying : phase_of c.args.client.now ≡ phase.CopyingIn = search rules in
    (none, copying)

pub returns-in_default : goal.returns-in_default
returns-in_default c =
    let none : groups_waiting c.args.client.now ≡ [] = none_waits (groups_waiting c.args.client.now) c.has_settled.result c.has_settled.ensures.1 c.if-has_settled.false in
    elim c.in_default.branch [
      | in_default-via-in-Ready+else-eq w ↦
          let other : c.args.began ≢ phase.Starting = search rules in
          record { none_waits = none; not_started = λ s. other s.0; no_copy = λ e. not_both_phases c.phase.result (phase_of c.args.client.now) c.phase.ensures w.in-Ready.is e }
      | in_default-via-in_default w ↦
          record { none_waits = none; not_started = λ s. w.in_default.not-Ready (c.phase.ensures ∙ s.1); no_copy = λ e. w.in_default.not-CopyingIn (c.phase.ensures ∙ e) }
    ]
