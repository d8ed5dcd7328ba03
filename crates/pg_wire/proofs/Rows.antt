-- Worked examples, computed from the definitions alone but where a rest has to be judged.
use Rattle.std.proofs.Common.{◌≡◌, true, List, [], ◌∷◌, ◌++◌, codes, take, Option, Some, None, refl, sym, ap, subst, ◌∙◌, append_assoc, arith, lit≤, inl, inr}
use Rattle.std.specs.Prelude.{pos, negsuc}
use Rattle.std.specs.List.{flat_map}
use Rattle.std.proofs.lemmas.Int.{ints}
use Rattle.std.proofs.Math.Facts.{sfits_lit}
use Rattle.hex.specs.Hex.{encode_with}
use Rattle.md5.specs.Md5.{block_words, rounds, compress, hash_after, digest_bytes, md5}
use Rattle.pg_codec.specs.declared.fault.EncodeFault.TheVariants as faults
use Rattle.pg_wire.specs.declared.fault.WireFault.TheVariants as wire
use Rattle.pg_codec.specs.declared.value.Status.TheVariants.{Idle, InBlock}
use Rattle.pg_message.specs.declared.message.BackMessage.{BackMessage}
use Rattle.pg_message.specs.declared.message.BackMessage.TheVariants as back
use Rattle.pg_codec.specs.declared.value.CopyHead.{CopyHead}
use Rattle.pg_codec.specs.declared.value.Target.TheVariants.{Statement, Portal}
use Rattle.pg_wire.specs.declared.session.Aside.TheVariants as aside
use Rattle.pg_wire.specs.declared.session.ExecEnd.TheVariants as ends
use Rattle.pg_wire.specs.declared.session.Outcome.{Outcome}
use Rattle.pg_wire.specs.declared.session.Part.{Part}
use Rattle.pg_wire.specs.declared.session.Part.TheVariants as part
use Rattle.pg_wire.specs.declared.session.Request.TheVariants as asking
use Rattle.pg_wire.specs.declared.session.Step.{Step}
use Rattle.pg_wire.specs.declared.session.Step.TheVariants as step
use Rattle.pg_wire.specs.Segment.{Fields, Fits, Begins, Reads, Answers, IsDone, IsCutOff, Asked, Results, Steps, is_result, is_answer, messages_of, without_asides, segments}
use Rattle.pg_message.specs.declared.backend.kind.BackKind.TheVariants as kinds
use Rattle.pg_message.specs.declared.message.BackMessage.TheVariants.{AuthOk, AuthOther, Ready, RowDescription, DataRow, CommandComplete, ErrorResponse}
use Rattle.pg_message.specs.declared.message.FrontMessage.TheVariants.{Query, Bind, Password}
use Rattle.pg_message.specs.declared.message.First.TheVariants as first
use Rattle.pg_message.specs.Direction.{spelling, encode_fault}
use Rattle.pg_message.specs.Frontend.{frontend}
use Rattle.pg_wire.specs.First.{packet, packet_fault, IsBeginning, IsFaultyPacket}
use Rattle.pg_message.specs.Backend.{backend}
use Rattle.pg_wire.specs.Stream.{IsStream, IsFaulty, IsOpen}
use Rattle.pg_wire.specs.Password.{hex_digest, md5_text}
use Rattle.pg_wire.specs.declared.first.kind.FirstKind.TheVariants as packets
use Rattle.pg_codec.specs.Private.Reader.{counted_at, times_at, value_at}
use Rattle.pg_wire.proofs.Packets.{no_code, packet_bad}
use Rattle.pg_message.proofs.BackMessages.{is_tag, no_tag, read_none}
use Rattle.pg_wire.proofs.Rests.{short_open, partial_open, bad_fault}
use Rattle.pg_wire.proofs.Segments.{last_same, error_in, HasNone, part_some}

-- ---- spellings

auth_ok : spelling backend AuthOk ≡ 0x52 ∷ 0 ∷ 0 ∷ 0 ∷ 8 ∷ 0 ∷ 0 ∷ 0 ∷ 0 ∷ []
auth_ok = refl

row_of_one : spelling backend (DataRow (Some (0x31 ∷ []) ∷ [])) ≡ 0x44 ∷ 0 ∷ 0 ∷ 0 ∷ 0x0B ∷ 0 ∷ 1 ∷ 0 ∷ 0 ∷ 0 ∷ 1 ∷ 0x31 ∷ []
row_of_one = refl

command : spelling backend (CommandComplete (0x53 ∷ 0x45 ∷ 0x4C ∷ 0x45 ∷ 0x43 ∷ 0x54 ∷ 0x20 ∷ 0x31 ∷ [])) ≡ 0x43 ∷ 0 ∷ 0 ∷ 0 ∷ 0x0D ∷ 0x53 ∷ 0x45 ∷ 0x4C ∷ 0x45 ∷ 0x43 ∷ 0x54 ∷ 0x20 ∷ 0x31 ∷ 0 ∷ []
command = refl

null_and_empty : spelling backend (DataRow (None ∷ Some [] ∷ [])) ≡ 0x44 ∷ 0 ∷ 0 ∷ 0 ∷ 0x0E ∷ 0 ∷ 2 ∷ 0xFF ∷ 0xFF ∷ 0xFF ∷ 0xFF ∷ 0 ∷ 0 ∷ 0 ∷ 0 ∷ []
null_and_empty = refl

ready_idle : spelling backend (Ready Idle) ≡ 0x5A ∷ 0 ∷ 0 ∷ 0 ∷ 5 ∷ 0x49 ∷ []
ready_idle = refl

one_column : spelling backend (RowDescription (record { name = 0x6E ∷ []; table_oid = 0; attribute = pos 0; type_oid = 23; size = pos 4; modifier = negsuc 0; format = pos 0 } ∷ [])) ≡ 0x54 ∷ 0 ∷ 0 ∷ 0 ∷ 0x1A ∷ 0 ∷ 1 ∷ 0x6E ∷ 0 ∷ 0 ∷ 0 ∷ 0 ∷ 0 ∷ 0 ∷ 0 ∷ 0 ∷ 0 ∷ 0 ∷ 0x17 ∷ 0 ∷ 4 ∷ 0xFF ∷ 0xFF ∷ 0xFF ∷ 0xFF ∷ 0 ∷ 0 ∷ []
one_column = refl

canceled : spelling backend (ErrorResponse (record { code = 0x43; value = 0x35 ∷ 0x37 ∷ 0x30 ∷ 0x31 ∷ 0x34 ∷ [] } ∷ record { code = 0x4D; value = 0x6E ∷ 0x6F ∷ [] } ∷ [])) ≡ 0x45 ∷ 0 ∷ 0 ∷ 0 ∷ 0x10 ∷ 0x43 ∷ 0x35 ∷ 0x37 ∷ 0x30 ∷ 0x31 ∷ 0x34 ∷ 0 ∷ 0x4D ∷ 0x6E ∷ 0x6F ∷ 0 ∷ 0 ∷ []
canceled = refl

-- ---- what has no spelling

reserved : encode_fault backend (AuthOther (pos 3) []) ≡ Some faults.ReservedCode
reserved = refl

zero_in_text : encode_fault backend (CommandComplete (0 ∷ [])) ≡ Some faults.HasZero
zero_in_text = refl

-- ---- streams

two_messages : IsStream backend 64 (0x52 ∷ 0 ∷ 0 ∷ 0 ∷ 8 ∷ 0 ∷ 0 ∷ 0 ∷ 0 ∷ 0x5A ∷ 0 ∷ 0 ∷ 0 ∷ 5 ∷ 0x49 ∷ 0x5A ∷ 0 ∷ []) (AuthOk ∷ Ready Idle ∷ []) (0x5A ∷ 0 ∷ [])
two_messages = record {
  whole = refl;
  each = (record { spelled = record { of_type = sfits_lit tt; no_fault = refl }; limited = lit≤ tt }, (record { spelled = record { of_type = tt; no_fault = refl }; limited = lit≤ tt }, tt));
}

four_bytes : IsOpen backend 64 (0x21 ∷ 0 ∷ 0 ∷ 0 ∷ [])
four_bytes = short_open backend 64 (0x21 ∷ 0 ∷ 0 ∷ 0 ∷ []) (omega arith)

no_body_yet : IsOpen backend 64 (0x5A ∷ 0 ∷ 0 ∷ 0 ∷ 5 ∷ [])
no_body_yet = partial_open backend 64 (0x5A ∷ 0 ∷ 0 ∷ 0 ∷ 5 ∷ []) 90 5 (record { there = omega arith; tag_is = refl; length_is = refl }) (is_tag 90 kinds.Ready refl) (omega arith) (omega arith) (omega arith)

unknown_tag : IsFaulty backend 64 (0x21 ∷ 0 ∷ 0 ∷ 0 ∷ 4 ∷ []) (wire.UnknownTag 33)
unknown_tag = (pos 4, record { there = omega arith; tag_is = refl; length_is = refl }, no_tag 33 refl)

short_length : IsFaulty backend 64 (0x5A ∷ 0 ∷ 0 ∷ 0 ∷ 3 ∷ []) (wire.ShortLength (pos 3))
short_length = (90, record { there = omega arith; tag_is = refl; length_is = refl }, is_tag 90 kinds.Ready refl, omega (arith, ints))

long_length : IsFaulty backend 64 (0x44 ∷ 0 ∷ 0 ∷ 0 ∷ 0x41 ∷ []) (wire.LongLength (pos 65))
long_length = (68, record { there = omega arith; tag_is = refl; length_is = refl }, is_tag 68 kinds.DataRow refl, omega (arith, ints))

-- a whole message whose body no message of its tag has
bad_status : IsFaulty backend 64 (0x5A ∷ 0 ∷ 0 ∷ 0 ∷ 5 ∷ 0x58 ∷ []) (wire.BadBody 90)
bad_status = bad_fault backend 64 (0x5A ∷ 0 ∷ 0 ∷ 0 ∷ 5 ∷ 0x58 ∷ []) 90 5 1
    (record { head = record { there = omega arith; tag_is = refl; length_is = refl }; known = is_tag 90 kinds.Ready refl; not_short = omega arith; not_long = omega arith; there = omega arith })
    refl (read_none 90 kinds.Ready (0x58 ∷ []) refl refl)

byte_after : IsFaulty backend 64 (0x5A ∷ 0 ∷ 0 ∷ 0 ∷ 6 ∷ 0x49 ∷ 0x49 ∷ []) (wire.BadBody 90)
byte_after = bad_fault backend 64 (0x5A ∷ 0 ∷ 0 ∷ 0 ∷ 6 ∷ 0x49 ∷ 0x49 ∷ []) 90 6 2
    (record { head = record { there = omega arith; tag_is = refl; length_is = refl }; known = is_tag 90 kinds.Ready refl; not_short = omega arith; not_long = omega arith; there = omega arith })
    refl (read_none 90 kinds.Ready (0x49 ∷ 0x49 ∷ []) refl refl)

no_zero_byte : IsFaulty backend 64 (0x43 ∷ 0 ∷ 0 ∷ 0 ∷ 6 ∷ 0x4F ∷ 0x4B ∷ []) (wire.BadBody 67)
no_zero_byte = bad_fault backend 64 (0x43 ∷ 0 ∷ 0 ∷ 0 ∷ 6 ∷ 0x4F ∷ 0x4B ∷ []) 67 6 2
    (record { head = record { there = omega arith; tag_is = refl; length_is = refl }; known = is_tag 67 kinds.CommandComplete refl; not_short = omega arith; not_long = omega arith; there = omega arith })
    refl (read_none 67 kinds.CommandComplete (0x4F ∷ 0x4B ∷ []) refl refl)

below_null : IsFaulty backend 64 (0x44 ∷ 0 ∷ 0 ∷ 0 ∷ 0x0A ∷ 0 ∷ 1 ∷ 0xFF ∷ 0xFF ∷ 0xFF ∷ 0xFE ∷ []) (wire.BadBody 68)
unfolding counted_at times_at value_at
below_null = bad_fault backend 64 (0x44 ∷ 0 ∷ 0 ∷ 0 ∷ 0x0A ∷ 0 ∷ 1 ∷ 0xFF ∷ 0xFF ∷ 0xFF ∷ 0xFE ∷ []) 68 10 6
    (record { head = record { there = omega arith; tag_is = refl; length_is = refl }; known = is_tag 68 kinds.DataRow refl; not_short = omega arith; not_long = omega arith; there = omega arith })
    refl (read_none 68 kinds.DataRow (0 ∷ 1 ∷ 0xFF ∷ 0xFF ∷ 0xFF ∷ 0xFE ∷ []) refl refl)

-- ---- the frontend's messages and first packets

query : spelling frontend (Query (0x53 ∷ 0x45 ∷ 0x4C ∷ 0x45 ∷ 0x43 ∷ 0x54 ∷ 0x20 ∷ 0x31 ∷ [])) ≡ 0x51 ∷ 0 ∷ 0 ∷ 0 ∷ 0x0D ∷ 0x53 ∷ 0x45 ∷ 0x4C ∷ 0x45 ∷ 0x43 ∷ 0x54 ∷ 0x20 ∷ 0x31 ∷ 0 ∷ []
query = refl

one_null : spelling frontend (Bind [] [] [] (None ∷ []) []) ≡ 0x42 ∷ 0 ∷ 0 ∷ 0 ∷ 0x10 ∷ 0 ∷ 0 ∷ 0 ∷ 0 ∷ 0 ∷ 1 ∷ 0xFF ∷ 0xFF ∷ 0xFF ∷ 0xFF ∷ 0 ∷ 0 ∷ []
one_null = refl

user_u : packet (first.Startup ((0x75 ∷ 0x73 ∷ 0x65 ∷ 0x72 ∷ [], 0x75 ∷ []) ∷ [])) ≡ 0 ∷ 0 ∷ 0 ∷ 0x10 ∷ 0 ∷ 3 ∷ 0 ∷ 0 ∷ 0x75 ∷ 0x73 ∷ 0x65 ∷ 0x72 ∷ 0 ∷ 0x75 ∷ 0 ∷ 0 ∷ []
user_u = refl

cancel : packet (first.Cancel (pos 1) (pos 2)) ≡ 0 ∷ 0 ∷ 0 ∷ 0x10 ∷ 4 ∷ 0xD2 ∷ 0x16 ∷ 0x2E ∷ 0 ∷ 0 ∷ 0 ∷ 1 ∷ 0 ∷ 0 ∷ 0 ∷ 2 ∷ []
cancel = refl

ssl : packet first.Ssl ≡ 0 ∷ 0 ∷ 0 ∷ 8 ∷ 4 ∷ 0xD2 ∷ 0x16 ∷ 0x2F ∷ []
ssl = refl

empty_name : packet_fault (first.Startup (([], 0x75 ∷ []) ∷ [])) ≡ Some faults.EmptyName
empty_name = refl

zero_in_query : encode_fault frontend (Query (0x61 ∷ 0 ∷ [])) ≡ Some faults.HasZero
zero_in_query = refl

ssl_and_startup : IsBeginning (0 ∷ 0 ∷ 0 ∷ 8 ∷ 4 ∷ 0xD2 ∷ 0x16 ∷ 0x2F ∷ 0 ∷ 0 ∷ 0 ∷ 9 ∷ 0 ∷ 3 ∷ 0 ∷ 0 ∷ 0 ∷ 0x53 ∷ []) (first.Ssl ∷ first.Startup [] ∷ []) true (0x53 ∷ [])
ssl_and_startup = record {
  whole = refl;
  each = (record { of_type = tt; no_fault = refl }, (record { of_type = tt; no_fault = refl }, tt));
  last = (refl, refl);
}

short_packet : IsFaultyPacket (0 ∷ 0 ∷ 0 ∷ 7 ∷ []) (wire.ShortLength (pos 7))
short_packet = (record { there = omega arith; length_is = refl }, omega (arith, ints))

long_packet : IsFaultyPacket (0 ∷ 0 ∷ 0x27 ∷ 0x11 ∷ []) (wire.LongLength (pos 10001))
long_packet = (record { there = omega arith; length_is = refl }, omega (arith, ints))

other_version : IsFaultyPacket (0 ∷ 0 ∷ 0 ∷ 8 ∷ 0 ∷ 2 ∷ 0 ∷ 0 ∷ []) (wire.BadFirst (pos 131072))
other_version = (pos 8, record { there = omega arith; length_is = refl }, (omega (arith, ints), omega (arith, ints)), record { there = omega arith; code_is = refl }, no_code (pos 131072) refl)

ssl_with_content : IsFaultyPacket (0 ∷ 0 ∷ 0 ∷ 9 ∷ 4 ∷ 0xD2 ∷ 0x16 ∷ 0x2F ∷ 0 ∷ []) (wire.BadBody 0)
ssl_with_content = packet_bad (0 ∷ 0 ∷ 0 ∷ 9 ∷ 4 ∷ 0xD2 ∷ 0x16 ∷ 0x2F ∷ 0 ∷ []) packets.Ssl 9 1
    (record { head = record { there = omega arith; length_is = refl }; code = record { there = omega arith; code_is = refl }; known = (first.Ssl, refl); not_short = omega arith; not_long = omega arith; there = omega arith })
    refl refl

-- ---- the answer to an MD5 question

-- the digits that are hashed again with the salt
user_c_password_ab : hex_digest (codes "ab" ++ codes "c") ≡ codes "900150983cd24fb0d6963f7d28e17f72"
unfolding block_words rounds compress hash_after digest_bytes md5 encode_with
user_c_password_ab = refl

pub salted : md5_text (codes "c") (codes "ab") (1 ∷ 2 ∷ 3 ∷ 4 ∷ []) ≡ codes "md596838e208aad1ff8fc396693d03e488d"
unfolding block_words rounds compress hash_after digest_bytes md5 encode_with md5_text
salted = refl

salted_message : take 5 (spelling frontend (Password (md5_text (codes "c") (codes "ab") (1 ∷ 2 ∷ 3 ∷ 4 ∷ [])))) ≡ 0x70 ∷ 0 ∷ 0 ∷ 0 ∷ 0x28 ∷ []
salted_message = rw salted refl

-- ---- segments

abbrev head : CopyHead
head = record { binary = true; formats = pos 1 ∷ [] }

abbrev parse : Step
parse = step.Parse [] (0x3B ∷ []) []

-- a copy from the server, in two pieces
copied_out : Fits (asking.Query []) (back.CopyOut head ∷ back.CopyData (1 ∷ []) ∷ back.CopyData [] ∷ back.CopyDone ∷ CommandComplete (0x43 ∷ []) ∷ Ready Idle ∷ [])
    (record { parts = part.CopyOut head ((1 ∷ []) ∷ [] ∷ []) (0x43 ∷ []) ∷ []; error = None; status = Idle; asides = [] })
copied_out = record {
  body = back.CopyOut head ∷ back.CopyData (1 ∷ []) ∷ back.CopyData [] ∷ back.CopyDone ∷ CommandComplete (0x43 ∷ []) ∷ [];
  closed = refl;
  asides = refl;
  reads = (Results, (refl, refl), tt, refl);
}

-- a copy to the server, which the server may ask for
copied_in : Fits (asking.Query []) (back.CopyIn head ∷ CommandComplete (0x43 ∷ []) ∷ Ready Idle ∷ [])
    (record { parts = part.CopyIn head (0x43 ∷ []) ∷ []; error = None; status = Idle; asides = [] })
copied_in = record {
  body = back.CopyIn head ∷ CommandComplete (0x43 ∷ []) ∷ [];
  closed = refl;
  asides = refl;
  reads = (Results, (refl, refl), tt, refl);
}

copies_in : Begins (asking.Query []) (back.CopyIn head ∷ [])
copies_in = (CommandComplete (0x43 ∷ []) ∷ Ready Idle ∷ [], _, copied_in)

-- a group's answers, with asides among them
abbrev five_steps : List Step
five_steps = parse ∷ step.Bind [] [] [] [] [] ∷ step.Describe Statement [] ∷ step.Execute [] (pos 1) ∷ step.Close Statement [] ∷ []

answered : Fits (asking.Group five_steps)
    (back.ParseComplete ∷ back.NoticeResponse [] ∷ back.BindComplete ∷ back.ParameterDescription (23 ∷ []) ∷ back.ParameterStatus (0x61 ∷ []) [] ∷ back.NoData ∷ DataRow (None ∷ []) ∷ back.Notification (pos 1) [] [] ∷ back.PortalSuspended ∷ back.CloseComplete ∷ Ready InBlock ∷ [])
    (record {
      parts = part.Parsed ∷ part.Bound ∷ part.Described (Some (23 ∷ [])) None ∷ part.Executed ((None ∷ []) ∷ []) ends.Suspended ∷ part.Shut ∷ [];
      error = None;
      status = InBlock;
      asides = aside.Notice [] ∷ aside.Parameter (0x61 ∷ []) [] ∷ aside.Notification (pos 1) [] [] ∷ [];
    })
answered = record {
  body = back.ParseComplete ∷ back.NoticeResponse [] ∷ back.BindComplete ∷ back.ParameterDescription (23 ∷ []) ∷ back.ParameterStatus (0x61 ∷ []) [] ∷ back.NoData ∷ DataRow (None ∷ []) ∷ back.Notification (pos 1) [] [] ∷ back.PortalSuspended ∷ back.CloseComplete ∷ [];
  closed = refl;
  asides = refl;
  reads = (Steps [], (refl, (refl, (refl, (refl, (refl, refl))))), tt, refl);
}

-- an error cuts a Describe's answer off
cut_off : Fits (asking.Group five_steps) (back.ParseComplete ∷ back.BindComplete ∷ back.ParameterDescription (23 ∷ []) ∷ ErrorResponse [] ∷ Ready Idle ∷ [])
    (record { parts = part.Parsed ∷ part.Bound ∷ []; error = Some []; status = Idle; asides = [] })
cut_off = record {
  body = back.ParseComplete ∷ back.BindComplete ∷ back.ParameterDescription (23 ∷ []) ∷ ErrorResponse [] ∷ [];
  closed = refl;
  asides = refl;
  reads = (
    Steps (step.Describe Statement [] ∷ step.Execute [] (pos 1) ∷ step.Close Statement [] ∷ []),
    (refl, (refl, refl)),
    back.ParameterDescription (23 ∷ []) ∷ [],
    inr (part.Described (Some (23 ∷ [])) None, back.NoData, [], Steps (step.Execute [] (pos 1) ∷ step.Close Statement [] ∷ []), (refl, refl), refl),
    [],
    refl,
  );
}

-- ---- what doesn't fit

no_error_among : (ms xs w : List BackMessage) (fields : Fields) → HasNone ms → ms ≡ xs ++ ErrorResponse fields ∷ w → ⊥
no_error_among [] [] w fields h e = absurd cc
no_error_among [] (x ∷ xs) w fields h e = absurd cc
no_error_among (m ∷ ms) [] w fields h e =
    let first : ErrorResponse fields ≡ m = cc in
    let k : Some fields ≡ None = ap error_in first ∙ h.0 in
    absurd cc
no_error_among (m ∷ ms) (x ∷ xs) w fields h e =
    let tail : ms ≡ xs ++ ErrorResponse fields ∷ w = cc in
    no_error_among ms xs w fields h.1 tail

-- where there is no error message, there is no error
unfailed : (a : Asked) (ms : List BackMessage) (parts : List Part) (fields : Fields) → HasNone ms → Reads a ms parts (Some fields) → ⊥
unfailed a ms parts fields none r = no_error_among ms (flat_map messages_of parts ++ r.2) _ fields none (r.5 ∙ sym (append_assoc (flat_map messages_of parts) r.2 _))

nothing_before : (xs ys : List BackMessage) → [] ≡ xs ++ ys → xs ≡ []
nothing_before [] ys e = refl
nothing_before (x ∷ xs) ys e = absurd cc

-- a Parse without its answer
unanswered : (outcome : Outcome) → Fits (asking.Group (parse ∷ [])) (Ready Idle ∷ []) outcome → ⊥
unanswered outcome h = missing outcome.parts outcome.error (subst (λ (b : List BackMessage). Reads (Steps (parse ∷ [])) (without_asides b) outcome.parts outcome.error) (sym (last_same [] h.body (Ready Idle) (Ready outcome.status) h.closed).0) h.reads)
  where
    missing : (parts : List Part) (error : Option Fields) → Reads (Steps (parse ∷ [])) [] parts error → ⊥
    missing [] None r = subst IsDone r.1 r.2
    missing (p ∷ ps) None r = part_some p (nothing_before (messages_of p) (flat_map messages_of ps) r.3)
    missing parts (Some fields) r = unfailed (Steps (parse ∷ [])) [] parts fields tt r

-- columns without a tag after them
unfinished : (outcome : Outcome) → Fits (asking.Query []) (RowDescription [] ∷ Ready Idle ∷ []) outcome → ⊥
unfinished outcome h = missing outcome.parts outcome.error (subst (λ (b : List BackMessage). Reads Results (without_asides b) outcome.parts outcome.error) (sym (last_same (RowDescription [] ∷ []) h.body (Ready Idle) (Ready outcome.status) h.closed).0) h.reads)
  where
    half : (p : Part) (z : List BackMessage) → is_result p ≡ true → RowDescription [] ∷ [] ≡ messages_of p ++ z → ⊥
    half (part.Rows columns [] tag) z is e = absurd cc
    half (part.Rows columns (r ∷ rows) tag) z is e = absurd cc
    half (part.Command tag) z is e = absurd cc
    half part.Empty z is e = absurd cc
    half (part.CopyOut head chunks tag) z is e = absurd cc
    half (part.CopyIn head tag) z is e = absurd cc
    half part.Parsed z is e = absurd cc
    half part.Bound z is e = absurd cc
    half (part.Described parameters columns) z is e = absurd cc
    half (part.Executed rows end) z is e = absurd cc
    half part.Shut z is e = absurd cc

    missing : (parts : List Part) (error : Option Fields) → Reads Results (RowDescription [] ∷ []) parts error → ⊥
    missing [] None r = absurd (cc (r.3))
    missing (p ∷ ps) None r = half p (flat_map messages_of ps) r.1.0 r.3
    missing parts (Some fields) r = unfailed Results (RowDescription [] ∷ []) parts fields (refl, tt) r

-- the server asks for no copy within a group, whatever its steps are
uncopied : (steps : List Step) → Begins (asking.Group steps) (back.CopyIn head ∷ []) → ⊥
uncopied steps b = in_body b.2.body b.2.closed b.2.reads
  where
    no_answer : (s : Step) (p : Part) (y z : List BackMessage) → is_answer s p ≡ true → back.CopyIn head ∷ y ≡ messages_of p ++ z → ⊥
    no_answer (step.Parse name text types) (part.CopyIn head tag) y z is e = absurd cc
    no_answer (step.Bind portal statement formats values result_formats) (part.CopyIn head tag) y z is e = absurd cc
    no_answer (step.Describe Statement name) (part.CopyIn head tag) y z is e = absurd cc
    no_answer (step.Describe Portal name) (part.CopyIn head tag) y z is e = absurd cc
    no_answer (step.Execute portal most) (part.CopyIn head tag) y z is e = absurd cc
    no_answer (step.Close target name) (part.CopyIn head tag) y z is e = absurd cc
    no_answer s (part.Rows columns rows tag) y z is e = absurd cc
    no_answer s (part.Command tag) y z is e = absurd cc
    no_answer s part.Empty y z is e = absurd cc
    no_answer s (part.CopyOut head chunks tag) y z is e = absurd cc
    no_answer s part.Parsed y z is e = absurd cc
    no_answer s part.Bound y z is e = absurd cc
    no_answer s (part.Described (Some types) columns) y z is e = absurd cc
    no_answer s (part.Described None (Some columns)) y z is e = absurd cc
    no_answer s (part.Described None None) y z is e = absurd cc
    no_answer s (part.Executed [] (ends.Complete tag)) y z is e = absurd cc
    no_answer s (part.Executed [] ends.Empty) y z is e = absurd cc
    no_answer s (part.Executed [] ends.Suspended) y z is e = absurd cc
    no_answer s (part.Executed (r ∷ rows) end) y z is e = absurd cc
    no_answer s part.Shut y z is e = absurd cc

    no_part : (asked : List Step) (p : Part) (ps : List Part) (rest : Asked) (y z : List BackMessage) → Answers (Steps asked) (p ∷ ps) rest → back.CopyIn head ∷ y ≡ messages_of p ++ z → ⊥
    no_part [] p ps rest y z h e = h
    no_part (s ∷ ss) p ps rest y z h e = no_answer s p y z h.0 e

    no_cut : (a : Asked) (cut : List BackMessage) (fields : Fields) (y w : List BackMessage) → a ≡ Steps steps → IsCutOff a cut → back.CopyIn head ∷ y ≡ cut ++ ErrorResponse fields ∷ w → ⊥
    no_cut a [] fields y w is h e = absurd cc
    no_cut a (c ∷ cut) fields y w is (inl none) e = absurd cc
    no_cut a (c ∷ cut) fields y w is (inr k) e =
        let first : back.CopyIn head ≡ c = cc in
        no_part steps k.0 [] k.3 (cut ++ k.1 ∷ k.2) [] (subst (λ (x : Asked). Answers x (k.0 ∷ []) k.3) is k.4) (ap (λ (m : BackMessage). m ∷ cut ++ k.1 ∷ k.2) first ∙ sym k.5 ∙ sym (append_none (messages_of k.0)))
      where
        append_none : (xs : List BackMessage) → xs ++ [] ≡ xs
        append_none [] = refl
        append_none (x ∷ xs) = ap (λ (ys : List BackMessage). x ∷ ys) (append_none xs)

    read : (y : List BackMessage) (parts : List Part) (error : Option Fields) → Reads (Steps steps) (back.CopyIn head ∷ y) parts error → ⊥
    read y [] None r = absurd (cc (r.3))
    read y (p ∷ ps) None r = no_part steps p ps r.0 y (flat_map messages_of ps) r.1 r.3
    read y [] (Some fields) r = no_cut r.0 r.2 fields y _ r.1 r.3 r.5
    read y (p ∷ ps) (Some fields) r = no_part steps p ps r.0 y _ r.1 (r.5 ∙ append_assoc (messages_of p) (flat_map messages_of ps) _)

    in_body : (body : List BackMessage) → (back.CopyIn head ∷ []) ++ b.0 ≡ body ++ Ready b.1.status ∷ [] → Reads (Steps steps) (without_asides body) b.1.parts b.1.error → ⊥
    in_body [] e r = absurd cc
    in_body (m ∷ body) e r =
        let first : m ≡ back.CopyIn head = cc in
        read (without_asides body) b.1.parts b.1.error (subst (λ (x : BackMessage). Reads (Steps steps) (without_asides (x ∷ body)) b.1.parts b.1.error) first r)

-- ---- segments of a session

two_and_a_rest : segments (AuthOk ∷ Ready Idle ∷ back.NoticeResponse [] ∷ Ready InBlock ∷ ErrorResponse [] ∷ []) ≡ record { whole = (AuthOk ∷ Ready Idle ∷ []) ∷ (back.NoticeResponse [] ∷ Ready InBlock ∷ []) ∷ []; rest = ErrorResponse [] ∷ [] }
two_and_a_rest = refl
