-- Worked examples of words and their tasks, computed from the definitions alone.
use Rattle.std.proofs.Common.{◌≡◌, ℕ, rules, true, false, List, [], ◌∷◌, ◌++◌, Option, Some, None, option_map, codes, refl, arith, string_bytes}
use Rattle.clap.specs.Words.{Row, Text, fault_of, subcommand_of}
use Rattle.clap.specs.declared.builder.value_parser.ValueParser.TheVariants as parser
use Rattle.clap.specs.declared.error.kind.ErrorKind.TheVariants as kind
use Rattle.clap.proofs.OnLiterals.{clap_on_literals}
use Rattle.std.specs.Borrow.{Bor}
use Rattle.pgpipe_convert.specs.declared.format.Format.TheVariants as format
use Rattle.pgpipe_tasks.specs.declared.asked.Telling.{Telling}
use Rattle.pgpipe_tasks.specs.declared.tasks.Conversion.{Conversion}
use Rattle.pgpipe_show.specs.declared.form.Form.TheVariants as forms
use Rattle.pgpipe_tasks.specs.declared.showing.Showing.{Showing}
use Rattle.pgpipe_tasks.specs.declared.tasks.LoopTask.{LoopTask}
use Rattle.pgpipe_tasks.specs.declared.tasks.ServeTask.{ServeTask}
use Rattle.pgpipe_tasks.specs.declared.tasks.Task.{Task}
use Rattle.pgpipe_tasks.specs.declared.tasks.Task.TheVariants as task
use Rattle.pgpipe_tasks.specs.CommandLine.{command_line}
use Rattle.pgpipe_tasks.specs.Tasks.{IsAskedFor, IsTellingOf}

module _ (names : Bor (List (Bor (List ℕ)))) where
  -- the subcommand that the words name, with what was found for its arguments
  abbrev met : List Text → Option (Text × List Row)
  met words = subcommand_of (command_line (parser.Names names)) words

  abbrev shown : List Text → Showing → Type 0
  shown words showing = IsAskedFor (met words) (task.Show showing)

  pub no_words : (t : Task) → IsAskedFor (met (codes "pgpipe" ∷ [])) t → t ≡ task.Show (record { front = false; form = forms.Messages; summary = false; file = None; front_file = None; back_file = None })
  unfolding clap_on_literals
  no_words t asked = asked

  pub show_is_of_a_backend : (s : Showing) → shown (codes "pgpipe" ∷ codes "show" ∷ []) s → (s.front ≡ false) × (option_map string_bytes s.file ≡ None)
  unfolding clap_on_literals
  show_is_of_a_backend s asked = let named = asked.show refl in (named.front.if_false refl, named.file)

  pub front_is_of_a_client : (s : Showing) → shown (codes "pgpipe" ∷ codes "show" ∷ codes "--front" ∷ []) s → s.front ≡ true
  unfolding clap_on_literals
  front_is_of_a_client s asked = (asked.show refl).front.if_true refl

  pub a_file_is_shown : (s : Showing) → shown (codes "pgpipe" ∷ codes "show" ∷ codes "--decode" ∷ codes "f" ∷ []) s → option_map string_bytes s.file ≡ Some (codes "f")
  unfolding clap_on_literals
  a_file_is_shown s asked = (asked.show refl).file

  pub both_sides_are_shown : (s : Showing) → shown (codes "pgpipe" ∷ codes "show" ∷ codes "--front-file" ∷ codes "f" ∷ codes "--back-file" ∷ codes "b" ∷ []) s → (option_map string_bytes s.front_file ≡ Some (codes "f")) × (option_map string_bytes s.back_file ≡ Some (codes "b"))
  unfolding clap_on_literals
  both_sides_are_shown s asked = let named = asked.show refl in (named.front_file, named.back_file)

  abbrev conversion : List Text
  conversion = codes "pgpipe" ∷ codes "convert" ∷ codes "--from" ∷ codes "text" ∷ codes "--to" ∷ codes "binary" ∷ codes "--columns" ∷ codes "2" ∷ []

  pub a_conversion : (c : Conversion) → IsAskedFor (met conversion) (task.Convert c) → (c.from ≡ format.Text) × (c.to ≡ format.Binary) × (c.columns ≡ 2)
  unfolding clap_on_literals
  a_conversion c asked = let named = asked.convert refl in (named.from, named.to, named.columns 2 ((omega arith, search rules), refl) (omega arith) (omega arith))

  pub default_options : (c : Conversion) → IsAskedFor (met conversion) (task.Convert c) → (string_bytes c.delimiter ≡ 9 ∷ []) × (string_bytes c.null_mark ≡ codes "\\N")
  unfolding clap_on_literals
  default_options c asked = let named = asked.convert refl in (named.delimiter, named.null_mark)

  pub other_options : (c : Conversion) → IsAskedFor (met (conversion ++ codes "--delimiter" ∷ codes "," ∷ codes "--null" ∷ [] ∷ [])) (task.Convert c) → (string_bytes c.delimiter ≡ codes ",") × (string_bytes c.null_mark ≡ [])
  unfolding clap_on_literals
  other_options c asked = let named = asked.convert refl in (named.delimiter, named.null_mark)

  pub a_conversion_shows_nothing : (s : Showing) → shown conversion s → ⊥
  unfolding clap_on_literals
  a_conversion_shows_nothing s asked = asked.convert refl

  pub a_loop : (l : LoopTask) → IsAskedFor (met (codes "pgpipe" ∷ codes "loop" ∷ codes "s" ∷ codes "c" ∷ [])) (task.Loop l)
      → (l.tcp ≡ false) × (l.breaks ≡ false) × (l.trace ≡ false) × (l.comments ≡ false) × (string_bytes l.script ≡ codes "s") × (string_bytes l.calls ≡ codes "c") × (l.cut ≡ 4096)
  unfolding clap_on_literals
  a_loop l asked = let named = asked.loop refl in (named.tcp.if_false refl, named.breaks.if_false refl, named.trace.if_false refl, named.comments.if_false refl, named.script, named.calls, named.no_cut refl)

  pub a_loop_over_tcp : (l : LoopTask) → IsAskedFor (met (codes "pgpipe" ∷ codes "loop" ∷ codes "--tcp" ∷ codes "s" ∷ codes "c" ∷ [])) (task.Loop l) → l.tcp ≡ true
  unfolding clap_on_literals
  a_loop_over_tcp l asked = let named = asked.loop refl in named.tcp.if_true refl

  pub a_broken_loop : (l : LoopTask) → IsAskedFor (met (codes "pgpipe" ∷ codes "loop" ∷ codes "--break-everywhere" ∷ codes "s" ∷ codes "c" ∷ [])) (task.Loop l) → l.breaks ≡ true
  unfolding clap_on_literals
  a_broken_loop l asked = let named = asked.loop refl in named.breaks.if_true refl

  pub a_traced_loop : (l : LoopTask) → IsAskedFor (met (codes "pgpipe" ∷ codes "loop" ∷ codes "--trace" ∷ codes "s" ∷ codes "c" ∷ [])) (task.Loop l) → l.trace ≡ true
  unfolding clap_on_literals
  a_traced_loop l asked = let named = asked.loop refl in named.trace.if_true refl

  pub a_loop_with_comments : (l : LoopTask) → IsAskedFor (met (codes "pgpipe" ∷ codes "loop" ∷ codes "--comments" ∷ codes "s" ∷ codes "c" ∷ [])) (task.Loop l) → l.comments ≡ true
  unfolding clap_on_literals
  a_loop_with_comments l asked = let named = asked.loop refl in named.comments.if_true refl

  pub a_server : (s : ServeTask) → IsAskedFor (met (codes "pgpipe" ∷ codes "serve" ∷ codes "s" ∷ [])) (task.Serve s) → (string_bytes s.script ≡ codes "s") × (s.port ≡ 0) × (s.connections ≡ None)
  unfolding clap_on_literals
  a_server s asked = let named = asked.serve refl in (named.script, named.any_port refl, named.no_end refl)

  pub a_server_of_one : (s : ServeTask) → IsAskedFor (met (codes "pgpipe" ∷ codes "serve" ∷ codes "--connections" ∷ codes "1" ∷ codes "s" ∷ [])) (task.Serve s) → s.connections ≡ Some 1
  unfolding clap_on_literals
  a_server_of_one s asked = (asked.serve refl).connections 1 ((omega arith, search rules), refl) (omega arith) (omega arith)

  pub an_unknown_word : fault_of (command_line (parser.Names names)) (codes "pgpipe" ∷ codes "shown" ∷ []) ≡ kind.UnknownArgument ∷ kind.InvalidSubcommand ∷ []
  unfolding clap_on_literals
  an_unknown_word = refl

  pub a_cut_of_nothing : fault_of (command_line (parser.Names names)) (codes "pgpipe" ∷ codes "loop" ∷ codes "--cut" ∷ codes "0" ∷ codes "s" ∷ codes "c" ∷ []) ≡ kind.ValueValidation ∷ []
  unfolding clap_on_literals
  a_cut_of_nothing = refl

  pub a_fault_is_explained : (t : Telling) → IsTellingOf (met (codes "pgpipe" ∷ codes "show" ∷ codes "--explain" ∷ [])) t → (t.explain ≡ true) × (t.progress ≡ false)
  unfolding clap_on_literals
  a_fault_is_explained t told = (told.explain.if_true refl, told.progress.if_false refl)

  pub nothing_is_told : (t : Telling) → IsTellingOf (met (codes "pgpipe" ∷ [])) t → (t.explain ≡ false) × (t.progress ≡ false)
  unfolding clap_on_literals
  nothing_is_told t told = told

  pub the_version : fault_of (command_line (parser.Names names)) (codes "pgpipe" ∷ codes "--version" ∷ []) ≡ kind.DisplayVersion ∷ []
  unfolding clap_on_literals
  the_version = refl
