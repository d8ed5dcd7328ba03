-- The look at the standard streams.
use Rattle.std.specs.Prelude.{Bool, true, false, Result, Ok, Err}
use Rattle.standard_streams.specs.declared.look.ClosedStream.{ClosedStream}
use Rattle.standard_streams.specs.declared.look.ClosedStream.TheVariants as closed

-- By what each stream says, whether it is open: all are, or this one is closed, and those that are
-- looked at before it are open. The output is looked at first, then the errors, then the input.
abbrev pub LooksAtAll : (input output errors : Bool → Type 0) → Result Unit ClosedStream → Type 0
LooksAtAll input output errors (Ok x) = output true × errors true × input true
LooksAtAll input output errors (Err closed.Output) = output false
LooksAtAll input output errors (Err closed.Errors) = output true × errors false
LooksAtAll input output errors (Err closed.Input) = output true × errors true × input false
