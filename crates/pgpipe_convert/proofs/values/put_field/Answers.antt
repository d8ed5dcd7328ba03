use Rattle.std.specs.Option.{option_copied}
use Rattle.pgpipe_convert.proofs.Lent.{field_put}
use Rattle.pgpipe_convert.proofs.values.put_field.Goals as goal

pub returns-in-Written : goal.returns-in-Written
returns-in-Written c = record { goes_on = λ row start width s. rw c.progress_of.ensures (field_put c.args.options.now row start (option_copied c.args.value) c.args.writer.now c.field.new.self c.args.out.now.items c.args.so_far s c.field.result c.field.new.buf.items c.in-Written.is c.requires.few c.field.ensures.written c.field.ensures.ok c.field.ensures.err) }
