use Rattle.std.proofs.Common.{◌≡◌, ◌∙◌, List, Option, Err, [], ap, subst, sym, map, string_bytes, rules}
use Rattle.std.proofs.lemmas.Result.{err_from_is_err_and}
use Rattle.clap.specs.declared.parser.matches.ArgMatches.{ArgMatches}
use Rattle.clap.specs.Words.{App, FailsBy, Row, Text, app_of, fault_of, is_simple, is_simple_and_free, subcommand_of, subcommand_rows_of}
use Rattle.pgpipe_tasks.specs.CommandLine.{command_line}
use Rattle.pgpipe_tasks.specs.declared.asked.Asked.{Asked}
use Rattle.pgpipe_tasks.specs.Tasks.{IsAskedFor, IsTellingOf}
use Rattle.pgpipe_tasks.proofs.asked.asked_of.Goals as goal

pub returns : goal.returns
returns c =
    let formats = c.from.result in
    let words = map string_bytes c.args.words.now in
    let task = c.in_ok-named_task.field-0 in
    let telling = c.telling_of.result in
    let app_is : app_of c.in_ok-command.command ≡ command_line formats = search rules in
    let met : subcommand_rows_of c.in_ok-matches.matches ≡ subcommand_of (app_of c.in_ok-command.command) words = (c.in_ok-matches.ensures.matches (ap is_simple app_is)).1 in
    let same = met ∙ ap (λ (a : App). subcommand_of a words) app_is in
    let none : fault_of (app_of c.in_ok-command.command) words ≡ [] = c.in_ok-matches.ensures.kinds (ap is_simple_and_free app_is) in
    record {
      formats = formats;
      are_formats = search rules;
      asked_for = (
        search rules,
        subst (λ (o : Option (Text × List Row)). IsAskedFor o task) same c.in_ok-named_task.ensures.asked_for,
        subst (λ (o : Option (Text × List Row)). IsTellingOf o telling) same c.telling_of.ensures,
      );
      taken = sym (ap (λ (a : App). fault_of a words) app_is) ∙ none;
    }

pub returns-in_err-matches : goal.returns-in_err-matches
returns-in_err-matches c =
    let formats = c.from.result in
    let words = map string_bytes c.args.words.now in
    let error = c.in_err-matches.field-0.0 in
    let app_is : app_of c.in_ok-command.command ≡ command_line formats = search rules in
    let fails : FailsBy {T = ArgMatches} (fault_of (app_of c.in_ok-command.command) words) (Err error) = c.in_err-matches.ensures.kinds (ap is_simple_and_free app_is) in
    let p = err_from_is_err_and c.from_residual-in_err-matches.result c.from_residual-in_err-matches.ensures.1 in
    rw (p.1, p.2) (record {
      formats = formats;
      are_formats = search rules;
      asked_for = tt;
      taken = subst (λ (a : App). FailsBy {T = Asked} (fault_of a words) (Err error)) app_is fails;
    })
