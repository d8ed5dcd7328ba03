use Rattle.pg_copy_text.proofs.TextReads.{HasReadText-none}
use Rattle.pg_copy_text.proofs.text_reader.TextReader.with_options.Goals as goal

pub returns-clause-read : goal.returns-clause-read
returns-clause-read c = HasReadText-none c.args.options c.args.columns _ c.new.result c.new.ensures
