use Rattle.std.proofs.Common.{◌∙◌, codes}
use Rattle.clap.specs.Words.{found_of}
use Rattle.clap.proofs.WalkLemmas.{first_value-rows, one_text-rows}
use Rattle.pgpipe_tasks.proofs.showing.showing_of.Goals as goal

pub returns : goal.returns
returns c =
    let json = one_text-rows (found_of c.args.matches.now) (codes "json") in
    let decode = one_text-rows (found_of c.args.matches.now) (codes "decode") in
    let frames = one_text-rows (found_of c.args.matches.now) (codes "frames") in
    let front = one_text-rows (found_of c.args.matches.now) (codes "front") in
    let summary = one_text-rows (found_of c.args.matches.now) (codes "summary") in
    record {
      front = record {
        if_true = λ e. c.get_flag.ensures.value (front ∙ e);
        if_false = λ e. c.get_flag.ensures.other (front ∙ e);
        if_none = λ e. c.get_flag.ensures.none (front ∙ e);
      };
      form = (
        c.get_flag-json.result,
        c.get_flag-decode.result,
        c.get_flag-frames.result,
        record {
          if_true = λ e. c.get_flag-json.ensures.value (json ∙ e);
          if_false = λ e. c.get_flag-json.ensures.other (json ∙ e);
          if_none = λ e. c.get_flag-json.ensures.none (json ∙ e);
        },
        record {
          if_true = λ e. c.get_flag-decode.ensures.value (decode ∙ e);
          if_false = λ e. c.get_flag-decode.ensures.other (decode ∙ e);
          if_none = λ e. c.get_flag-decode.ensures.none (decode ∙ e);
        },
        record {
          if_true = λ e. c.get_flag-frames.ensures.value (frames ∙ e);
          if_false = λ e. c.get_flag-frames.ensures.other (frames ∙ e);
          if_none = λ e. c.get_flag-frames.ensures.none (frames ∙ e);
        },
        c.form_of.ensures,
      );
      summary = record {
        if_true = λ e. c.get_flag-2.ensures.value (summary ∙ e);
        if_false = λ e. c.get_flag-2.ensures.other (summary ∙ e);
        if_none = λ e. c.get_flag-2.ensures.none (summary ∙ e);
      };
      file = c.in_ok-file_of.ensures ∙ first_value-rows (found_of c.args.matches.now) (codes "FILE");
      front_file = c.in_ok-path_of.ensures ∙ first_value-rows (found_of c.args.matches.now) (codes "front-file");
      back_file = c.in_ok-path_of-2.ensures ∙ first_value-rows (found_of c.args.matches.now) (codes "back-file");
    }
