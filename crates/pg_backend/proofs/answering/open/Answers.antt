use Rattle.pg_backend.proofs.Machine.AnsweredAtOnce.{whole_decided, refused_decided, copy_undecided}
use Rattle.pg_backend.proofs.answering.open.Goals as goal

pub returns-in_ok-give_whole-in-Whole : goal.returns-in_ok-give_whole-in-Whole
returns-in_ok-give_whole-in-Whole c =
    let is = rw c.as_slice.ensures at c.in-Whole.ensures in
    let given = c.in_ok-give_whole-in-Whole.ensures in
    whole_decided c.args.request c.args.answer.now c.in_ok-give_whole-in-Whole.field-0 c.args.out.now.items c.give_whole.new.out.items is given.0 given.1

pub returns-in_ok-refuse-in-Some : goal.returns-in_ok-refuse-in-Some
returns-in_ok-refuse-in-Some c =
    let is = rw c.as_slice.ensures at c.in-Copies.ensures in
    let given = c.in_ok-refuse-in-Some.ensures in
    refused_decided c.args.request c.args.answer.now c.in-Copies.before.now c.in-Copies.head.now c.in-Copies.load.now _ c.in-Copies.field-3.now c.in_ok-refuse-in-Some.field-0 c.args.out.now.items c.refuse.new.out.items is c.in-Some.ensures given.0 given.1

pub returns-in_ok-begin_copy-in-None : goal.returns-in_ok-begin_copy-in-None
returns-in_ok-begin_copy-in-None c =
    let is = rw c.as_slice.ensures at c.in-Copies.ensures in
    let given = c.in_ok-begin_copy-in-None.ensures in
    copy_undecided c.args.request c.args.answer.now c.in-Copies.before.now c.in-Copies.head.now c.in-Copies.load.now c.in-Copies.field-3.now c.in_ok-begin_copy-in-None.field-0 c.args.out.now.items c.begin_copy.new.out.items is c.in-None.ensures given.0 given.1
