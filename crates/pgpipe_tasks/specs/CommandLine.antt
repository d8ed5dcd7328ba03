-- The command line: its subcommands with their arguments, as clap reads them.
use Rattle.std.specs.Prelude.{◌≡◌, pos, true, [], ◌∷◌, map, Some, codes}
use Rattle.clap.specs.Words.{App, Rule, Shape, Text, new_app, new_rule, with_rule, with_subcommand}
use Rattle.clap.specs.declared.builder.action.ArgAction.TheVariants.{SetTrue}
use Rattle.clap.specs.declared.builder.value_parser.ValueParser.{ValueParser}
use Rattle.clap.specs.declared.builder.value_parser.ValueParser.TheVariants as parser

-- A parser of clap that takes the words `text` and `binary` and no other.
abbrev pub IsFormats : ValueParser → Type 0
IsFormats (parser.Names names) =
    map (λ name. name.now) names.now ≡ codes "text" ∷ codes "binary" ∷ []
IsFormats _ = ⊥

-- a flag, which stands without a value: `--name`
abbrev pub flag : Text → Rule
flag name = record (new_rule name) { long = Some name; action = Some SetTrue }

-- an option with one value, which may be any text: `--name VALUE`
abbrev pub text_option : Text → Rule
text_option name = record (new_rule name) { long = Some name; value_names = 1 }

-- an option with one value that this parser takes
abbrev pub option : Text → ValueParser → Rule
option name values = record (text_option name) { parser = Some values }

-- an argument that must be given
abbrev pub required : Rule → Rule
required rule = record rule { required = true }

-- a command that tells its version: `--version`
abbrev pub with_version : App → App
with_version app = record app { top = record app.top { has_version = true } }

-- the flag `--explain`
abbrev pub explain : Rule
explain = flag (codes "explain")

-- the flag `--progress`
abbrev pub progress : Rule
progress = flag (codes "progress")

-- the path FILE, which may be left out
abbrev pub file : Rule
file = new_rule (codes "FILE")

-- the subcommand `show`: the flags `--front`, `--frames`, `--decode`, `--json` and `--summary`, the
-- options `--front-file` and `--back-file`, the flags `--explain` and `--progress`, and the path FILE
abbrev pub show : Shape
show = (with_rule (with_rule (with_rule (with_rule (with_rule (with_rule (with_rule (with_rule
    (with_rule (with_rule (new_app (codes "show"))
    (flag (codes "front"))) (flag (codes "frames"))) (flag (codes "decode")))
    (flag (codes "json"))) (flag (codes "summary")))
    (text_option (codes "front-file"))) (text_option (codes "back-file"))) explain) progress)
    file).top

-- the option `--columns`, from 1 to 32,767
abbrev pub columns : Rule
columns = option (codes "columns") (parser.Signed (pos 1) (pos 32767))

-- the subcommand `convert`: `--from`, `--to` and `--columns`, which must all be given, the options of
-- COPY text, `--delimiter` and `--null`, which may be left out, the flags `--explain` and
-- `--progress`, and the path FILE
abbrev pub convert : ValueParser → Shape
convert formats = (with_rule (with_rule (with_rule
    (with_rule (with_rule (with_rule (with_rule (with_rule (new_app (codes "convert"))
    (required (option (codes "from") formats)))
    (required (option (codes "to") formats)))
    (required columns))
    (text_option (codes "delimiter"))) (text_option (codes "null"))) explain) progress) file).top

-- the option `--cut`, from 1 to 4,096
abbrev pub cut : Rule
cut = option (codes "cut") (parser.Signed (pos 1) (pos 4096))

-- the subcommand `loop`: the flags `--tcp`, `--break-everywhere`, `--trace` and `--comments`, the
-- option `--cut`, which may be left out, the flag `--explain`, and the paths SCRIPT and CALLS
abbrev pub loop : Shape
loop = (with_rule (with_rule (with_rule (with_rule (with_rule (with_rule (with_rule (with_rule
    (new_app (codes "loop")) (flag (codes "tcp"))) (flag (codes "break-everywhere")))
    (flag (codes "trace"))) (flag (codes "comments"))) cut) explain)
    (required (new_rule (codes "SCRIPT"))))
    (required (new_rule (codes "CALLS")))).top

-- the option `--port`, from 0 to 65,535
abbrev pub port : Rule
port = option (codes "port") (parser.Signed (pos 0) (pos 65535))

-- the option `--connections`, from 1 to 4,294,967,295
abbrev pub connections : Rule
connections = option (codes "connections") (parser.Signed (pos 1) (pos 4294967295))

-- the subcommand `serve`: `--port` and `--connections`, which may be left out, the flag `--explain`,
-- and the path SCRIPT
abbrev pub serve : Shape
serve = (with_rule (with_rule (with_rule (with_rule (new_app (codes "serve")) port) connections)
    explain) (required (new_rule (codes "SCRIPT")))).top

-- the program, which tells its version
abbrev pub program : App
program = with_version (new_app (codes "pgpipe"))

-- the command line without `serve`: the program with its three other subcommands
abbrev pub without_serve : ValueParser → App
without_serve formats =
    with_subcommand (with_subcommand (with_subcommand program show) (convert formats)) loop

-- the whole command line, with its four subcommands
abbrev pub command_line : ValueParser → App
command_line formats = with_subcommand (without_serve formats) serve
