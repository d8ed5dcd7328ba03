use Rattle.std.proofs.Common.{◌≡◌, take, map, refl, ap, ◌∙◌, inl}
use Rattle.pg_copy_text.specs.Text.{field_value, parts}
use Rattle.pg_copy_text.specs.TextReader.{TextState}
use Rattle.pg_copy_text.proofs.text_reader.TextReader.take_line.Goals as goal

pub returns-in-Err : goal.returns-in-Err
returns-in-Err c =
    let columns : c.self.inside.columns ≡ c.args.self.now.columns = ap (λ (s : TextState). s.columns) c.self.view_is in
    let options : c.self.inside.options ≡ c.args.self.now.options = ap (λ (s : TextState). s.options) c.self.view_is in
    let kept : c.kept.result.now ≡ c.args.self.now.kept = c.kept.ensures ∙ ap (λ (s : TextState). s.kept) c.self.view_is in
    let row = rw (options, columns, kept) at c.in-Row.ensures in
    inl (refl, c.in-Err.ensures.err, map (field_value c.args.self.now.options) (parts c.args.self.now.options.delimiter (take c.args.scan.at c.args.self.now.kept)), row.1)
