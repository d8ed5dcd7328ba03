use Rattle.std.proofs.Common.{◌≡◌, take, map, refl, ap, ◌∙◌, inl}
use Rattle.pg_copy_text.specs.Text.{field_value, parts}
use Rattle.pg_copy_text.specs.TextReader.{TextState}
use Rattle.pg_copy_text.specs.Private.TextLine.{let_go}
use Rattle.pg_copy_text.proofs.text_reader.TextReader.lend_line.Goals as goal

pub returns-in-Err : goal.returns-in-Err
returns-in-Err c =
    let old = c.args.self.now in
    let columns : c.self.inside.columns ≡ old.columns = ap (λ (s : TextState). s.columns) c.self.view_is in
    let options : c.self.inside.options ≡ old.options = ap (λ (s : TextState). s.options) c.self.view_is in
    let kept : c.kept.result.now ≡ old.kept = c.kept.ensures ∙ ap (λ (s : TextState). s.kept) c.self.view_is in
    let row = rw (options, columns, kept) at c.in-Row.ensures in
    let same : c.hold.new.self ≡ let_go old = c.in-Err.ensures.err in
    (inl (refl, ap let_go same, map (field_value old.options) (parts old.options.delimiter (take c.args.scan.at old.kept)), row.1), ap (λ (s : TextState). s.held) same)
