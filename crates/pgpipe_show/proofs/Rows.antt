-- Worked examples of lines, computed from the definitions alone but for the decimal numbers, and of streams that are shown.
use Rattle.std.proofs.Common.{◌≡◌, ℕ, ◌<◌, ◌≤◌, ◌+◌, ◌/◌, ◌%◌, true, false, List, [], ◌∷◌, ◌++◌, Some, Ok, Err, refl, sym, ap, ◌∙◌, inl, append-nil, arith}
use Rattle.std.specs.Prelude.{pos, negsuc}
use Rattle.std.specs.Fmt.{decimal}
use Rattle.std.proofs.lemmas.Fmt.{decimal_digit, decimal_step}
use Rattle.std.proofs.lemmas.Int.{ints}
use Rattle.pgpipe_base.specs.Hex.{encode_with}
use Rattle.pg_wire.proofs.kind.BackKind.TheVariants as kinds
use Rattle.pg_wire.specs.declared.fault.WireFault.TheVariants as wire
use Rattle.pg_wire.specs.message.First.{First}
use Rattle.pg_wire.specs.message.FrontMessage.{FrontMessage}
use Rattle.pg_wire.specs.value.Status.TheVariants.{Idle}
use Rattle.pg_wire.specs.message.BackMessage.TheVariants.{AuthOk, Ready, RowDescription, DataRow, CommandComplete, CopyDone}
use Rattle.pg_wire.specs.message.FrontMessage.TheVariants.{Query}
use Rattle.pg_wire.specs.message.First.TheVariants as first
use Rattle.pg_wire.specs.Backend.{backend}
use Rattle.pg_wire.specs.Direction.{spelling}
use Rattle.pg_wire.specs.First.{packet}
use Rattle.pg_wire.specs.Frontend.{frontend}
use Rattle.pg_wire.specs.Stream.{IsFaulty}
use Rattle.pg_wire.proofs.BackMessages.{is_tag, no_tag}
use Rattle.pg_wire.proofs.Rests.{short_open, partial_open}
use Rattle.pgpipe_frames.specs.declared.next.NextFrame.TheVariants as next
use Rattle.pgpipe_show.specs.declared.show.Shown.TheVariants as shown
use Rattle.pgpipe_show.specs.Packets.{packet_line}
use Rattle.pgpipe_base.specs.declared.fault.ToolFault.TheVariants as fault
use Rattle.pgpipe_base.specs.Outbox.{body_text, line_of}
use Rattle.pgpipe_show.specs.Messages.{line}
use Rattle.pgpipe_show.specs.Way.{messages_of}
use Rattle.pgpipe_show.specs.Show.{length_limit, AreMessages, IsClientSide, AreShownBefore, ShowAnswers}

-- a line by the text of its length
by_length : (name : List ℕ) (n : ℕ) (bytes digits : List ℕ) → decimal n ≡ digits → line_of name n bytes ≡ name ++ (32 ∷ []) ++ digits ++ (32 ∷ []) ++ body_text bytes ++ (10 ∷ [])
by_length name n bytes digits e = ap (λ (t : List ℕ). name ++ (32 ∷ []) ++ t ++ (32 ∷ []) ++ body_text bytes ++ (10 ∷ [])) e

two_digits : (n : ℕ) → 10 ≤ n → n < 100 → decimal n ≡ (48 + n / 10) ∷ (48 + n % 10) ∷ []
two_digits n low high = decimal_step n low (omega arith) ∙ ap (λ (t : List ℕ). t ++ (48 + n % 10) ∷ []) (decimal_digit (n / 10) (omega arith))

-- R 8 00000000
pub auth_ok : line backend AuthOk ≡ 0x52 ∷ 0x20 ∷ 0x38 ∷ 0x20 ∷ 0x30 ∷ 0x30 ∷ 0x30 ∷ 0x30 ∷ 0x30 ∷ 0x30 ∷ 0x30 ∷ 0x30 ∷ 0x0A ∷ []
unfolding encode_with
auth_ok = by_length (0x52 ∷ []) 8 (0x00 ∷ 0x00 ∷ 0x00 ∷ 0x00 ∷ []) _ (decimal_digit 8 (omega arith))

-- T 26 00016e00000000000000000000170004ffffffff0000
pub one_column : line backend (RowDescription (record { name = 0x6E ∷ []; table_oid = 0; attribute = pos 0; type_oid = 23; size = pos 4; modifier = negsuc 0; format = pos 0 } ∷ [])) ≡ 0x54 ∷ 0x20 ∷ 0x32 ∷ 0x36 ∷ 0x20 ∷ 0x30 ∷ 0x30 ∷ 0x30 ∷ 0x31 ∷ 0x36 ∷ 0x65 ∷ 0x30 ∷ 0x30 ∷ 0x30 ∷ 0x30 ∷ 0x30 ∷ 0x30 ∷ 0x30 ∷ 0x30 ∷ 0x30 ∷ 0x30 ∷ 0x30 ∷ 0x30 ∷ 0x30 ∷ 0x30 ∷ 0x30 ∷ 0x30 ∷ 0x30 ∷ 0x30 ∷ 0x30 ∷ 0x30 ∷ 0x31 ∷ 0x37 ∷ 0x30 ∷ 0x30 ∷ 0x30 ∷ 0x34 ∷ 0x66 ∷ 0x66 ∷ 0x66 ∷ 0x66 ∷ 0x66 ∷ 0x66 ∷ 0x66 ∷ 0x66 ∷ 0x30 ∷ 0x30 ∷ 0x30 ∷ 0x30 ∷ 0x0A ∷ []
unfolding encode_with
one_column = by_length (0x54 ∷ []) 26 (0x00 ∷ 0x01 ∷ 0x6E ∷ 0x00 ∷ 0x00 ∷ 0x00 ∷ 0x00 ∷ 0x00 ∷ 0x00 ∷ 0x00 ∷ 0x00 ∷ 0x00 ∷ 0x00 ∷ 0x17 ∷ 0x00 ∷ 0x04 ∷ 0xFF ∷ 0xFF ∷ 0xFF ∷ 0xFF ∷ 0x00 ∷ 0x00 ∷ []) _ (two_digits 26 (omega arith) (omega arith))

-- D 11 00010000000131
pub row_of_one : line backend (DataRow (Some (0x31 ∷ []) ∷ [])) ≡ 0x44 ∷ 0x20 ∷ 0x31 ∷ 0x31 ∷ 0x20 ∷ 0x30 ∷ 0x30 ∷ 0x30 ∷ 0x31 ∷ 0x30 ∷ 0x30 ∷ 0x30 ∷ 0x30 ∷ 0x30 ∷ 0x30 ∷ 0x30 ∷ 0x31 ∷ 0x33 ∷ 0x31 ∷ 0x0A ∷ []
unfolding encode_with
row_of_one = by_length (0x44 ∷ []) 11 (0x00 ∷ 0x01 ∷ 0x00 ∷ 0x00 ∷ 0x00 ∷ 0x01 ∷ 0x31 ∷ []) _ (two_digits 11 (omega arith) (omega arith))

-- C 13 53454c454354203100
pub command : line backend (CommandComplete (0x53 ∷ 0x45 ∷ 0x4C ∷ 0x45 ∷ 0x43 ∷ 0x54 ∷ 0x20 ∷ 0x31 ∷ [])) ≡ 0x43 ∷ 0x20 ∷ 0x31 ∷ 0x33 ∷ 0x20 ∷ 0x35 ∷ 0x33 ∷ 0x34 ∷ 0x35 ∷ 0x34 ∷ 0x63 ∷ 0x34 ∷ 0x35 ∷ 0x34 ∷ 0x33 ∷ 0x35 ∷ 0x34 ∷ 0x32 ∷ 0x30 ∷ 0x33 ∷ 0x31 ∷ 0x30 ∷ 0x30 ∷ 0x0A ∷ []
unfolding encode_with
command = by_length (0x43 ∷ []) 13 (0x53 ∷ 0x45 ∷ 0x4C ∷ 0x45 ∷ 0x43 ∷ 0x54 ∷ 0x20 ∷ 0x31 ∷ 0x00 ∷ []) _ (two_digits 13 (omega arith) (omega arith))

-- Z 5 49
pub ready_idle : line backend (Ready Idle) ≡ 0x5A ∷ 0x20 ∷ 0x35 ∷ 0x20 ∷ 0x34 ∷ 0x39 ∷ 0x0A ∷ []
unfolding encode_with
ready_idle = by_length (0x5A ∷ []) 5 (0x49 ∷ []) _ (decimal_digit 5 (omega arith))

-- c 4 -
pub copy_done : line backend CopyDone ≡ 0x63 ∷ 0x20 ∷ 0x34 ∷ 0x20 ∷ 0x2D ∷ 0x0A ∷ []
copy_done = by_length (0x63 ∷ []) 4 ([]) _ (decimal_digit 4 (omega arith))

-- Q 13 53454c454354203100
pub query : line frontend (Query (0x53 ∷ 0x45 ∷ 0x4C ∷ 0x45 ∷ 0x43 ∷ 0x54 ∷ 0x20 ∷ 0x31 ∷ [])) ≡ 0x51 ∷ 0x20 ∷ 0x31 ∷ 0x33 ∷ 0x20 ∷ 0x35 ∷ 0x33 ∷ 0x34 ∷ 0x35 ∷ 0x34 ∷ 0x63 ∷ 0x34 ∷ 0x35 ∷ 0x34 ∷ 0x33 ∷ 0x35 ∷ 0x34 ∷ 0x32 ∷ 0x30 ∷ 0x33 ∷ 0x31 ∷ 0x30 ∷ 0x30 ∷ 0x0A ∷ []
unfolding encode_with
query = by_length (0x51 ∷ []) 13 (0x53 ∷ 0x45 ∷ 0x4C ∷ 0x45 ∷ 0x43 ∷ 0x54 ∷ 0x20 ∷ 0x31 ∷ 0x00 ∷ []) _ (two_digits 13 (omega arith) (omega arith))

-- ssl 8 04d2162f
pub ssl : packet_line first.Ssl ≡ 0x73 ∷ 0x73 ∷ 0x6C ∷ 0x20 ∷ 0x38 ∷ 0x20 ∷ 0x30 ∷ 0x34 ∷ 0x64 ∷ 0x32 ∷ 0x31 ∷ 0x36 ∷ 0x32 ∷ 0x66 ∷ 0x0A ∷ []
unfolding encode_with
ssl = by_length (0x73 ∷ 0x73 ∷ 0x6C ∷ []) 8 (0x04 ∷ 0xD2 ∷ 0x16 ∷ 0x2F ∷ []) _ (decimal_digit 8 (omega arith))

-- startup 16 000300007573657200750000
pub user_u : packet_line (first.Startup ((0x75 ∷ 0x73 ∷ 0x65 ∷ 0x72 ∷ [], 0x75 ∷ []) ∷ [])) ≡ 0x73 ∷ 0x74 ∷ 0x61 ∷ 0x72 ∷ 0x74 ∷ 0x75 ∷ 0x70 ∷ 0x20 ∷ 0x31 ∷ 0x36 ∷ 0x20 ∷ 0x30 ∷ 0x30 ∷ 0x30 ∷ 0x33 ∷ 0x30 ∷ 0x30 ∷ 0x30 ∷ 0x30 ∷ 0x37 ∷ 0x35 ∷ 0x37 ∷ 0x33 ∷ 0x36 ∷ 0x35 ∷ 0x37 ∷ 0x32 ∷ 0x30 ∷ 0x30 ∷ 0x37 ∷ 0x35 ∷ 0x30 ∷ 0x30 ∷ 0x30 ∷ 0x30 ∷ 0x0A ∷ []
unfolding encode_with
user_u = by_length (0x73 ∷ 0x74 ∷ 0x61 ∷ 0x72 ∷ 0x74 ∷ 0x75 ∷ 0x70 ∷ []) 16 (0x00 ∷ 0x03 ∷ 0x00 ∷ 0x00 ∷ 0x75 ∷ 0x73 ∷ 0x65 ∷ 0x72 ∷ 0x00 ∷ 0x75 ∷ 0x00 ∷ 0x00 ∷ []) _ (two_digits 16 (omega arith) (omega arith))

-- cancel 16 04d2162e0000000100000002
pub cancel : packet_line (first.Cancel (pos 1) (pos 2)) ≡ 0x63 ∷ 0x61 ∷ 0x6E ∷ 0x63 ∷ 0x65 ∷ 0x6C ∷ 0x20 ∷ 0x31 ∷ 0x36 ∷ 0x20 ∷ 0x30 ∷ 0x34 ∷ 0x64 ∷ 0x32 ∷ 0x31 ∷ 0x36 ∷ 0x32 ∷ 0x65 ∷ 0x30 ∷ 0x30 ∷ 0x30 ∷ 0x30 ∷ 0x30 ∷ 0x30 ∷ 0x30 ∷ 0x31 ∷ 0x30 ∷ 0x30 ∷ 0x30 ∷ 0x30 ∷ 0x30 ∷ 0x30 ∷ 0x30 ∷ 0x32 ∷ 0x0A ∷ []
unfolding encode_with
cancel = by_length (0x63 ∷ 0x61 ∷ 0x6E ∷ 0x63 ∷ 0x65 ∷ 0x6C ∷ []) 16 (0x04 ∷ 0xD2 ∷ 0x16 ∷ 0x2E ∷ 0x00 ∷ 0x00 ∷ 0x00 ∷ 0x01 ∷ 0x00 ∷ 0x00 ∷ 0x00 ∷ 0x02 ∷ []) _ (two_digits 16 (omega arith) (omega arith))

-- ---- streams that are shown

abbrev user : First
user = first.Startup ((0x75 ∷ 0x73 ∷ 0x65 ∷ 0x72 ∷ [], 0x75 ∷ []) ∷ [])

abbrev select : FrontMessage
select = Query (0x53 ∷ 0x45 ∷ 0x4C ∷ 0x45 ∷ 0x43 ∷ 0x54 ∷ 0x20 ∷ 0x31 ∷ [])

as_lists : (a b c : List ℕ) → a ++ b ++ c ≡ (a ++ (b ++ [])) ++ (c ++ [])
as_lists a b c = ap (λ (t : List ℕ). a ++ b ++ t) (sym (append-nil c)) ∙ ap (λ (t : List ℕ). a ++ t ++ (c ++ [])) (sym (append-nil b))

-- A client asks for encryption, starts and sends a query: a line each.
pub a_client : IsClientSide (packet first.Ssl ++ packet user ++ spelling frontend select) (packet_line first.Ssl ++ packet_line user ++ line frontend select) next.Message []
a_client = record {
  packets = first.Ssl ∷ user ∷ [];
  following = spelling frontend select;
  later = line frontend select ++ [];
  beginning = record { whole = refl; each = (record { of_type = tt; no_fault = refl }, (record { of_type = ((tt, tt), tt); no_fault = refl }, tt)); last = (refl, refl) };
  next_is = refl;
  follows = record { messages = select ∷ []; stream = record { whole = refl; each = (record { spelled = record { of_type = tt; no_fault = refl }; limited = omega arith }, tt) }; each_line = refl };
  each_line = as_lists (packet_line first.Ssl) (packet_line user) (line frontend select);
}

abbrev canceled : First
canceled = first.Cancel (pos 1) (pos 2)

-- after a Cancel, whatever comes is the rest
cancel_and : (rest : List ℕ) → IsClientSide (packet canceled ++ rest) (packet_line canceled) next.Nothing rest
cancel_and rest = record {
  packets = canceled ∷ [];
  following = rest;
  later = [];
  beginning = record { whole = refl; each = (record { of_type = (omega (arith, ints), omega (arith, ints)); no_fault = refl }, tt); last = refl };
  next_is = refl;
  follows = (refl, refl);
  each_line = sym (append-nil (packet_line canceled ++ []) ∙ append-nil (packet_line canceled));
}

pub a_cancel : ShowAnswers ⊥ ⊥ (messages_of true) (packet canceled) (packet_line canceled) (Ok shown.Whole)
a_cancel = (next.Nothing, cancel_and [])

pub byte_after_a_cancel : ShowAnswers ⊥ ⊥ (messages_of true) (packet canceled ++ 0 ∷ []) (packet_line canceled) (Ok (shown.Rest 1))
byte_after_a_cancel = (next.Nothing, 0 ∷ [], cancel_and (0 ∷ []), tt, refl, omega arith)

-- a ReadyForQuery, and what stands after it
ready_and : (rest : List ℕ) → AreMessages backend (spelling backend (Ready Idle) ++ rest) (line backend (Ready Idle)) rest
ready_and rest = record {
  messages = Ready Idle ∷ [];
  stream = record { whole = refl; each = (record { spelled = record { of_type = tt; no_fault = refl }; limited = omega arith }, tt) };
  each_line = sym (append-nil (line backend (Ready Idle)));
}

abbrev no_message : List ℕ
no_message = 0x21 ∷ 0 ∷ 0 ∷ 0 ∷ 4 ∷ []

unknown : IsFaulty backend length_limit no_message (wire.UnknownTag 33)
unknown = (pos 4, record { there = omega arith; tag_is = refl; length_is = refl }, no_tag 33 refl)

pub unknown_tag : ShowAnswers ⊥ ⊥ (messages_of false) (spelling backend (Ready Idle) ++ no_message) (line backend (Ready Idle)) (Ok (shown.Fault (wire.UnknownTag 33)))
unknown_tag = (next.Message, no_message, (refl, ready_and no_message), unknown)

-- a ReadyForQuery without its last byte
abbrev five_bytes : List ℕ
five_bytes = 0x5A ∷ 0 ∷ 0 ∷ 0 ∷ 5 ∷ []

pub cut_off : ShowAnswers ⊥ ⊥ (messages_of false) five_bytes [] (Ok (shown.Rest 5))
cut_off = (
  next.Message,
  five_bytes,
  (refl, record { messages = []; stream = record { whole = refl; each = tt }; each_line = refl }),
  partial_open backend length_limit five_bytes 90 5 (record { there = omega arith; tag_is = refl; length_is = refl }) (is_tag 90 kinds.Ready refl) (omega arith) (omega arith) (omega arith),
  refl,
  omega arith,
)

-- the sink failed at once: no more than a piece was received
pub broken_at_once : (broke : Type 0) → broke → ShowAnswers ⊥ broke (messages_of false) (spelling backend (Ready Idle)) [] (Err fault.Device)
broken_at_once broke is =
    let before : AreShownBefore (messages_of false) (spelling backend (Ready Idle)) [] = record {
      earlier = [];
      last = spelling backend (Ready Idle);
      whole = refl;
      a_piece = omega arith;
      shown = record {
        n = next.Message;
        rest = [];
        shown = (refl, record { messages = []; stream = record { whole = refl; each = tt }; each_line = refl });
        is_open = short_open backend length_limit [] (omega arith);
      };
    } in
    inl (is, (line backend (Ready Idle), [], next.Message, (refl, ready_and []), (line backend (Ready Idle), refl)), ([], before, omega arith))
