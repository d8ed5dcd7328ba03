use Rattle.std.proofs.Common.{◌∙◌, ap, refl}
use Rattle.std.specs.Int.{w32, from_be_bytes}
use Rattle.pg_values.proofs.Views.{begun_long, begun_null, begun_value}
use Rattle.pg_values.proofs.first.first_value.Goals as goal

pub split_at-requires : goal.split_at-requires
split_at-requires c = begun_long c.args.bytes.now c.requires

pub returns-then-len : goal.returns-then-len
returns-then-len c = begun_null c.args.bytes.now c.from_be_bytes-len.result c.split_at.result.1.now c.requires (c.from_be_bytes-len.ensures ∙ ap (from_be_bytes w32) c.split_at.ensures.front) c.split_at.ensures.back c.if-len.true

pub split_at-requires-2 : goal.split_at-requires-2
split_at-requires-2 c = (begun_value c.args.bytes.now c.from_be_bytes-len.result c.split_at.result.1.now c.requires (c.from_be_bytes-len.ensures ∙ ap (from_be_bytes w32) c.split_at.ensures.front) c.split_at.ensures.back c.if-len.false).0

pub returns : goal.returns
returns c =
    let read = (begun_value c.args.bytes.now c.from_be_bytes-len.result c.split_at.result.1.now c.requires (c.from_be_bytes-len.ensures ∙ ap (from_be_bytes w32) c.split_at.ensures.front) c.split_at.ensures.back c.if-len.false).1 in
    read ∙ rw (c.split_at-2.ensures.front, c.split_at-2.ensures.back) refl
