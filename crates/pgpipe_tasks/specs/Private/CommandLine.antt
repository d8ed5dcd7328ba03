-- A command as it is built.
use Rattle.std.specs.Prelude.{◌≡◌, false}
use Rattle.clap.specs.Words.{App, Rule, Shape, app_of, rule_of, shape_of}
use Rattle.clap.specs.declared.builder.arg.Arg.{Arg}
use Rattle.clap.specs.declared.builder.command.Command.{Command}
use Rattle.clap.specs.declared.builder.command.Command.TheViews.{out-Command}

-- the argument has this rule, and is one of its own command alone
pub record IsArg (rule : Rule) (arg : Arg) : Type 0 where
  pub has_rule : rule_of arg ≡ rule
  pub local : arg.global ≡ false

-- the command has this shape, and no argument that others have too
pub record IsCommand (shape : Shape) (command : Command) : Type 0 where
  pub has_shape : shape_of command ≡ shape
  pub local : (out-Command command).has_globals ≡ false

-- the command is this one with its subcommands, and has no argument that others have too
pub record IsProgram (app : App) (command : Command) : Type 0 where
  pub has_app : app_of command ≡ app
  pub local : (out-Command command).has_globals ≡ false
