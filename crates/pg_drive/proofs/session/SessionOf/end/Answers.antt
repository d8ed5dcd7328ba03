use Rattle.pg_drive.proofs.session.SessionOf.end.Goals as goal

pub returns-clause-ends : goal.returns-clause-ends
returns-clause-ends g c = record {
  client = c.terminate.new.self;
  put = c.terminate.new.out.items;
  was_open = c.in_ok-terminate.ensures.ok.0;
  ended = c.in_ok-terminate.ensures.ok.1;
  accepted = c.in_ok-terminate.ensures.history;
  answer = c.send_out.result;
  sent = c.send_out.ensures.sends;
  lost = c.lose.ensures;
}
