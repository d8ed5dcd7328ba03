use Rattle.std.proofs.Common.{◌≡◌, ◌++◌, ap, arith, length, length-append, refl, ◌∙◌}
use Rattle.std.proofs.Math.Logic.{∥∥₁_map}
use Rattle.pg_pair.specs.Calling.{handed_after}
use Rattle.pg_pair.specs.Private.Calling.{handed_by}
use Rattle.pg_pair.specs.Private.Chunks.{list_of}
use Rattle.pg_pair.specs.Private.Inside.{view_of}
use Rattle.pg_pair.proofs.Calling.{keeps_called}
use Rattle.pg_pair.proofs.Keeping.{kept_after, put_back}
use Rattle.pg_pair.proofs.Stored.{ok_of}
use Rattle.pg_pair.proofs.pair.Pair.call.Goals as goal

pub invariant_of-self-in-Ok : goal.invariant_of-self-in-Ok
invariant_of-self-in-Ok g c =
    let chunks = list_of c.make_room.new.chunks in
    let put = c.put_chunks.ensures ∙ ap (λ l. l ++ handed_by c.in-Ok.kept chunks) c.make_room.ensures.handed in
    let handed : c.put_chunks.new.handed.items ≡ handed_after c.args.call c.self.inside.handed.items =
    put_back c.args.call c.in-Ok.kept c.self.inside.handed.items c.take_chunks-chunks.new.handed.items (list_of c.take_chunks-chunks.result) chunks c.put_chunks.new.handed.items
    c.in-Ok.ensures.2 c.make_room.ensures.chunks c.take_chunks-chunks.ensures.after put in
    let room = (ok_of c.make_room.result c.if-is_err-2.ensures.value c.make_room.ensures.after).1 in
    let all = ap length c.put_chunks.ensures in
    let kept = ap length (kept_after c.args.call c.in-Ok.kept chunks chunks c.in-Ok.ensures.2 refl) in
    let counted = c.make_room.new.handed.ok.0 in (
      rw (handed, c.push_reserved.ensures.items, c.reserve.ensures.items, c.make_room.ensures.settled)
          (∥∥₁_map c.self.invariant.0 (keeps_called c.known.ensures (view_of c.self.inside) c.args.call c.call_client.new.client c.call_client.new.out.items c.in-Ok.ensures.0 c.in-Ok.ensures.1)),
      omega (arith, room, all, kept, counted, length-append c.make_room.new.handed.items (handed_by c.in-Ok.kept chunks)),
    )
