use Rattle.std.proofs.Common.{rules, refl}
use Rattle.pg_wire.specs.message.FrontMessage.TheVariants.{CopyData}
use Rattle.pg_client.proofs.Calling.Encoded.{encoded}
use Rattle.pg_client.proofs.Calling.Accepting.{chunk_accepted}
use Rattle.pg_client.proofs.connection.Connection.copy_chunk.Goals as goal

pub returns-clause-history : goal.returns-clause-history
returns-clause-history g c =
    let e = encoded (CopyData c.args.bytes.now) c.args.out.now.items c.copy_data.new.buf.items c.in_ok-copy_data.ensures in
    chunk_accepted g.K.Keeper.way c.silent.ensures c.args.self.now c.args.self.now c.args.out.now.items c.copy_data.new.buf.items refl c.args.bytes.now (search rules) e.spelled e.put

pub returns-in_err-copy_data-clause-refused : goal.returns-in_err-copy_data-clause-refused
returns-in_err-copy_data-clause-refused g c = search rules
