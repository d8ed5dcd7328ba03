use Rattle.std.proofs.Common.{◌≡◌}
use Rattle.pgpipe_loop.specs.Private.Lines.{with_fields}
use Rattle.pgpipe_loop.proofs.lines.short.put_values.Given as goal

-- with the values that are left, the line is that of all
abbrev pub invariant-values : goal.invariant-values
invariant-values l = with_fields l.lines l.value-iterator ≡ with_fields l.initial.lines l.values
