-- What was expected where each fault stands.
use Rattle.std.specs.Prelude.{ℕ, ℤ, pos, negsuc, ◌==◌, if◌then◌else◌}
use Rattle.pg_backend.specs.declared.script_fault.ScriptFault.{ScriptFault}
use Rattle.pg_backend.specs.declared.script_fault.ScriptFault.TheVariants as script
use Rattle.pg_copy.specs.fault.BinaryFault.{BinaryFault}
use Rattle.pg_copy.specs.fault.BinaryFault.TheVariants as binary
use Rattle.pg_copy.specs.fault.OptionFault.{OptionFault}
use Rattle.pg_copy.specs.fault.OptionFault.TheVariants as option
use Rattle.pg_copy.specs.fault.RowFault.{RowFault}
use Rattle.pg_copy.specs.fault.RowFault.TheVariants as row
use Rattle.pg_copy.specs.fault.TextFault.{TextFault}
use Rattle.pg_copy.specs.fault.TextFault.TheVariants as text
use Rattle.pg_wire.specs.declared.fault.WireFault.{WireFault}
use Rattle.pg_wire.specs.declared.fault.WireFault.TheVariants as wire
use Rattle.pgpipe_explain.specs.declared.rule.Rule.{Rule}
use Rattle.pgpipe_explain.specs.declared.rule.Rule.TheVariants as rule

-- a tag of no message of a server; three are of messages that are left out
abbrev pub back_tag_rule : ℕ → Rule
back_tag_rule tag =
    if tag == 86 then rule.FunctionCallResponse
    else if tag == 87 then rule.CopyBothResponse
    else if tag == 118 then rule.NegotiateProtocolVersion
    else rule.BackTag

-- what was expected of a message of a server
abbrev pub back_rule : WireFault → Rule
back_rule (wire.UnknownTag tag) = back_tag_rule tag
back_rule (wire.ShortLength n) = rule.LeastLength
back_rule (wire.LongLength n) = rule.MostLength
back_rule (wire.BadBody tag) = rule.Body
back_rule (wire.BadFirst code) = rule.FirstPacket
back_rule wire.Memory = rule.Memory

-- a code of no first packet; 196610 is protocol 3.2
abbrev pub first_code_rule : ℤ → Rule
first_code_rule (pos code) = if code == 196610 then rule.Protocol else rule.FirstPacket
first_code_rule (negsuc n) = rule.FirstPacket

-- what was expected of a message of a client, or of a first packet
abbrev pub front_rule : WireFault → Rule
front_rule (wire.UnknownTag tag) = if tag == 70 then rule.FunctionCall else rule.FrontTag
front_rule (wire.ShortLength n) = rule.LeastFrontLength
front_rule (wire.LongLength n) = rule.MostFrontLength
front_rule (wire.BadBody tag) = if tag == 112 then rule.Password else rule.Body
front_rule (wire.BadFirst code) = first_code_rule code
front_rule wire.Memory = rule.Memory

-- what was expected of a line of a text file; one field may be a line with another delimiter
abbrev pub text_rule : TextFault → Rule
text_rule text.RawReturn = rule.Return
text_rule text.RawNewline = rule.Newline
text_rule text.LoneBackslash = rule.Escape
text_rule (text.Columns n) = if n == 1 then rule.Delimited else rule.Columns
text_rule text.Memory = rule.Memory

-- what was expected of a part of a binary file
abbrev pub binary_rule : BinaryFault → Rule
binary_rule binary.Signature = rule.Signature
binary_rule (binary.Flags n) = rule.Flags
binary_rule (binary.Extension n) = rule.Extension
binary_rule (binary.FieldCount n) = rule.FieldCount
binary_rule (binary.FieldLength n) = rule.FieldLength
binary_rule binary.Truncated = rule.Trailer
binary_rule binary.AfterTrailer = rule.End
binary_rule binary.Memory = rule.Memory

-- what was expected of a row that is written
abbrev pub row_rule : RowFault → Rule
row_rule (row.Width n) = rule.Width
row_rule row.FieldLong = rule.WrittenLength
row_rule (row.LikeNull n) = rule.LikeNull
row_rule row.Memory = rule.Memory

-- what was expected of the options of a text file
abbrev pub option_rule : OptionFault → Rule
option_rule (option.Delimiter b) = rule.Delimiter
option_rule option.NullMark = rule.NullMark
option_rule option.Memory = rule.Memory

-- what was expected of a script
abbrev pub script_rule : ScriptFault → Rule
script_rule script.Copies = rule.Copies
script_rule script.Encode = rule.Spelling
script_rule script.Memory = rule.Memory
