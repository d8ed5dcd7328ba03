use Rattle.std.proofs.Common.{◌≡◌}
use Rattle.pgpipe_loop.specs.Lines.{error_fields}
use Rattle.pgpipe_loop.specs.Private.Lines.{with_fields}
use Rattle.pgpipe_loop.proofs.lines.short.put_error_fields.Given as goal

-- with the fields that are left, the line is that of all
abbrev pub invariant-fields : goal.invariant-fields
invariant-fields l = with_fields l.lines (error_fields l.field-iterator) ≡ with_fields l.initial.lines (error_fields l.fields)
