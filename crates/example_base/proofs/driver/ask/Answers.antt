use Rattle.std.proofs.Common.{refl, inl, inr, ◌∙◌}
use Rattle.pg_drive.specs.Drive.{connected}
use Rattle.example_base.proofs.Asking.{asked_so}
use Rattle.example_base.proofs.OwnGroup.{Laws}
use Rattle.example_base.proofs.driver.ask.Goals as goal

pub returns-in-Ok : goal.returns-in-Ok
returns-in-Ok g c =
    let laws : Laws = record {
      ready = c.requests_of_the_calls.ensures.ready;
      back = c.requests_of_the_calls.ensures.back;
      asked = c.requests_of_the_calls.ensures.asked;
      order = c.story_of_a_run.ensures.order;
      turns = c.answers_of_a_run.ensures;
    } in
    let old = c.args.session.now in
    let mid = c.request.new.self in
    let new = c.next.new.self in
    let first = connected old.link old.client old.out.items in
    let last = connected new.link new.client new.out.items in
    let made = c.in-Ok.ensures in
    let asked = asked_so g.L.Source.gives g.L.Sink.takes g.L.Source.has_ended g.L.Source.failures g.L.Sink.failures laws c.driving_goes_on.ensures.history c.driving_goes_on.ensures.left old.pieces c.args.request first mid.link mid.client mid.out.items mid.pieces c.next.result c.answer.result last c.requires made.ok.1 made.history
    made.others.0 made.others.1 c.answer.ensures c.next.ensures.gives in
    record { own = asked.1; again = asked.2; copy = asked.3; asks = inr asked.0; pieces = c.next.ensures.pieces ∙ made.others.1 }

pub returns-in-Err-clause-asks : goal.returns-in-Err-clause-asks
returns-in-Err-clause-asks g c =
    let refused = c.in-Err.ensures in
    inl (record { reason = c.in-Err.refused.1; is_fault = refl; refused = refused.refused.1; same = (refused.err.0, refused.err.1, refused.others.0) })
