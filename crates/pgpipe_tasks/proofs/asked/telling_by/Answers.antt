use Rattle.std.proofs.Common.{◌∙◌, codes}
use Rattle.clap.specs.Words.{found_of}
use Rattle.clap.proofs.WalkLemmas.{one_text-rows}
use Rattle.pgpipe_tasks.proofs.asked.telling_by.Goals as goal

pub returns : goal.returns
returns c =
    let found = found_of c.args.matches.now in
    let explain = one_text-rows found (codes "explain") in
    let progress = one_text-rows found (codes "progress") in
    record {
      explain = record {
        if_true = λ e. c.get_flag.ensures.value (explain ∙ e);
        if_false = λ e. c.get_flag.ensures.other (explain ∙ e);
        if_none = λ e. c.get_flag.ensures.none (explain ∙ e);
      };
      progress = record {
        if_true = λ e. c.get_flag-2.ensures.value (progress ∙ e);
        if_false = λ e. c.get_flag-2.ensures.other (progress ∙ e);
        if_none = λ e. c.get_flag-2.ensures.none (progress ∙ e);
      };
    }
