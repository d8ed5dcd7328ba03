use Rattle.std.proofs.Common.{◌++◌, map}
use Rattle.std.specs.List.{flat_map}
use Rattle.pg_backend.specs.Check.{answer_messages}
use Rattle.pg_backend.specs.Opening.{pair_message, key_messages}
use Rattle.pg_backend.proofs.Machine.Tellings.{tells_both, each_told}
use Rattle.pg_backend.proofs.check.tell_script.Goals as goal

pub returns : goal.returns
returns c =
    let s = c.args.script.now in
    let pairs = rw c.as_slice.ensures at c.tell_all-pairs.ensures in
    let answers = rw c.as_slice-2.ensures at c.tell_all.ensures in
    rw (c.both.ensures, c.both-so_far.ensures) (tells_both (map pair_message s.pairs) (key_messages s.key ++ flat_map answer_messages s.answers) _ _ _ _ _ (each_told pair_message s.pairs _ _ _ pairs)
    (tells_both (key_messages s.key) (flat_map answer_messages s.answers) _ _ _ _ _ c.tell_key-so_far.ensures answers))
