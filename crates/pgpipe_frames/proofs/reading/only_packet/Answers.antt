use Rattle.std.proofs.Common.{rules}
use Rattle.pgpipe_frames.proofs.Packets.{some_is, none_is, fault_is}
use Rattle.pgpipe_frames.proofs.reading.only_packet.Goals as goal

pub returns-in-Ok-Some : goal.returns-in-Ok-Some
returns-in-Ok-Some c = some_is c.args.decoder c.next.new.self c.in-Ok-Some.packet _ c.if_whole.result (rw c.in-Ok-Some.field-0-is at c.in-Ok-Some.ensures.call) (search rules) c.if_whole.ensures

pub returns-in-Ok-None : goal.returns-in-Ok-None
returns-in-Ok-None c = none_is c.args.decoder c.next.new.self c.requires.ended (rw c.in-Ok-None.field-0-is at c.in-Ok-None.ensures.call)

pub returns : goal.returns
returns c = fault_is c.args.decoder c.next.new.self c.in-Err.fault c.if_fault.result c.requires.fault c.in-Err.ensures.call c.if_fault.ensures
