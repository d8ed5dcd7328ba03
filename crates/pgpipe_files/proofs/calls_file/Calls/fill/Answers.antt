use Rattle.std.proofs.Common.{◌≡◌, ◌+◌, ℕ, List, ap, refl, ◌∙◌, length, Ok, arith}
use Rattle.std.specs.List.{splice}
use Rattle.std.proofs.lemmas.Iterator.Adapters.{YieldsList-from_vec, items_from_extend}
use Rattle.pgpipe_files.specs.declared.calls_file.Calls.{Calls}
use Rattle.pgpipe_files.specs.declared.calls_file.CallLine.{CallLine}
use Rattle.pgpipe_files.specs.Filling.{chunk_lines, files}
use Rattle.pgpipe_files.specs.Private.Files.{file_place}
use Rattle.pgpipe_files.proofs.Files.{one_fewer, put_in}
use Rattle.pgpipe_files.proofs.calls_file.Calls.fill.Goals as goal

pub returns-clause-ok : goal.returns-clause-ok
returns-clause-ok c =
    let given = c.in_ok-filled.ensures.items in
    let old : List CallLine = c.args.self.now.lines in
    let place : ℕ = c.file_place-place.result in
    let chunks : List CallLine = c.in_ok-chunks.chunks.items in
    let spliced : c.splice-filled.new.self.items ≡ splice c.into_vec-lines.result.items place (place + 1) chunks =
    items_from_extend {E = Unit {0}} {P = λ xs. c.splice-filled.new.self.items ≡ splice c.into_vec-lines.result.items place (place + 1) xs} {s = given.0} (Ok tt) (given.0, given.1, refl, given.4, given.3)
    (YieldsList-from_vec chunks given.2.0 (given.2.1 ∙ c.in_ok-chunks.chunks.ok.0)) in
    let lines_are : c.into_vec-lines.result.items ≡ old = grind arith in
    let place_is : place ≡ file_place old = grind arith in
    let chunks_are : chunks ≡ chunk_lines (length c.args.bytes.now) c.args.bytes.now = grind arith in
    let with_lines : List CallLine → Calls = λ ls. record { settings = c.args.self.now.settings; lines = ls } in
    ap with_lines
    (c.new-3.ensures ∙ spliced ∙ ap (λ (ls : List CallLine). splice ls place (place + 1) chunks) lines_are
    ∙ ap (λ (ls : List CallLine). splice old place (place + 1) ls) chunks_are
    ∙ ap (λ (k : ℕ). splice old k (place + 1) (chunk_lines (length c.args.bytes.now) c.args.bytes.now)) place_is
    ∙ put_in c.args.bytes.now old (place + 1) (ap (λ (k : ℕ). k + 1) place_is) c.requires)

pub returns-clause-fewer : goal.returns-clause-fewer
returns-clause-fewer c =
    ap (λ (calls : Calls). files calls.lines + 1) (returns-clause-ok c) ∙ one_fewer c.args.bytes.now c.args.self.now.lines c.requires
