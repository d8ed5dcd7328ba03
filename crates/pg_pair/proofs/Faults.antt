-- What a client sends is never a faulty rest for the backend: a fault stays as bytes are added, and a faulty rest begins nothing.
use Rattle.std.proofs.Common.{◌≡◌, ◌≤◌, ◌+◌, ◌-◌, ℕ, ℤ, pos, List, [], ◌∷◌, ◌++◌, length, take, drop, refl, ap, sym, subst, ◌∙◌, arith, length-append}
use Rattle.std.specs.Prelude.{slice_index}
use Rattle.std.specs.Int.{w32, from_be_bytes, cast_signed}
use Rattle.std.proofs.lemmas.List.{take-append-le, drop-append-le, length-drop}
use Rattle.pg_wire.specs.declared.fault.WireFault.{WireFault}
use Rattle.pg_wire.specs.declared.fault.WireFault.TheVariants as wire
use Rattle.pg_wire.specs.Direction.{Direction}
use Rattle.pg_wire.specs.First.{PacketHead, PacketCode, NoPacket, IsFaultyPacket}
use Rattle.pg_wire.specs.Stream.{Head, IsWhole, IsFaulty, NoMessage}

-- a part of the front of a list is a part of the front of a longer one
part_stays : (n m : ℕ) (xs ys : List ℕ) → n + m ≤ length xs → take m (drop n (xs ++ ys)) ≡ take m (drop n xs)
part_stays n m xs ys h = ap (take m) (drop-append-le n xs ys (omega arith)) ∙ take-append-le m (drop n xs) ys (omega (arith, length-drop n xs))

longer : (n : ℕ) (xs ys : List ℕ) → n ≤ length xs → n ≤ length (xs ++ ys)
longer n xs ys h = omega (arith, length-append xs ys)

first_stays : (xs ys : List ℕ) → 5 ≤ length xs → slice_index (xs ++ ys) 0 ≡ slice_index xs 0
first_stays [] ys h = absurd (omega arith)
first_stays (x ∷ xs) ys h = refl

abbrev number : List ℕ → ℤ
number bytes = cast_signed w32 (from_be_bytes w32 bytes)

head_stays : (rest more : List ℕ) (t : ℕ) (n : ℤ) → Head rest t n → Head (rest ++ more) t n
head_stays rest more t n h = record {
  there = longer 5 rest more h.there;
  tag_is = first_stays rest more h.there ∙ h.tag_is;
  length_is = ap number (part_stays 1 4 rest more h.there) ∙ h.length_is;
}

whole_stays : {M : Type 0} (d : Direction M) (limit : ℕ) (rest more : List ℕ) (t len : ℕ) → IsWhole d limit rest t len → IsWhole d limit (rest ++ more) t len
whole_stays d limit rest more t len w = record {
  head = head_stays rest more t (pos len) w.head;
  known = w.known;
  not_short = w.not_short;
  not_long = w.not_long;
  there = longer (len + 1) rest more w.there;
}

-- a faulty rest of messages stays so
pub fault_stays : {M : Type 0} (d : Direction M) (limit : ℕ) (rest more : List ℕ) (f : WireFault) → IsFaulty d limit rest f → IsFaulty d limit (rest ++ more) f
fault_stays d limit rest more (wire.UnknownTag t) h = (h.0, head_stays rest more t h.0 h.1, h.2)
fault_stays d limit rest more (wire.ShortLength n) h = (h.0, head_stays rest more h.0 n h.1, h.2, h.3)
fault_stays d limit rest more (wire.LongLength n) h = (h.0, head_stays rest more h.0 n h.1, h.2, h.3)
fault_stays d limit rest more (wire.BadBody t) h =
    let n = h.1.there in
    let m = h.1.not_short in
    (h.0, whole_stays d limit rest more t h.0 h.1, subst (NoMessage d t) (sym (part_stays 5 (h.0 - 4) rest more (omega arith))) h.2)
fault_stays d limit rest more (wire.BadFirst c) h = absurd h
fault_stays d limit rest more wire.Memory h = absurd h

packet_head_stays : (rest more : List ℕ) (n : ℤ) → PacketHead rest n → PacketHead (rest ++ more) n
packet_head_stays rest more n h = record { there = longer 4 rest more h.there; length_is = ap number (take-append-le 4 rest more h.there) ∙ h.length_is }

packet_code_stays : (rest more : List ℕ) (c : ℤ) → PacketCode rest c → PacketCode (rest ++ more) c
packet_code_stays rest more c h = record { there = longer 8 rest more h.there; code_is = ap number (part_stays 4 4 rest more h.there) ∙ h.code_is }

-- so does a faulty rest of packets
pub packet_fault_stays : (rest more : List ℕ) (f : WireFault) → IsFaultyPacket rest f → IsFaultyPacket (rest ++ more) f
packet_fault_stays rest more (wire.UnknownTag t) h = absurd h
packet_fault_stays rest more (wire.ShortLength n) h = (packet_head_stays rest more n h.0, h.1)
packet_fault_stays rest more (wire.LongLength n) h = (packet_head_stays rest more n h.0, h.1)
packet_fault_stays rest more (wire.BadFirst c) h = (h.0, packet_head_stays rest more h.0 h.1, h.2, packet_code_stays rest more c h.3, h.4)
packet_fault_stays rest more (wire.BadBody t) h =
    let w = h.3 in (
      h.0,
      h.1,
      h.2,
      record { head = packet_head_stays rest more (pos h.2) w.head; code = packet_code_stays rest more h.1 w.code; known = w.known; not_short = w.not_short; not_long = w.not_long; there = longer h.2 rest more w.there },
      subst NoPacket (sym (take-append-le h.2 rest more w.there)) h.4,
    )
packet_fault_stays rest more wire.Memory h = absurd h

-- nothing is no faulty rest
pub no_fault_of_nothing : {M : Type 0} (d : Direction M) (limit : ℕ) (f : WireFault) → IsFaulty d limit [] f → ⊥
no_fault_of_nothing d limit (wire.UnknownTag t) h = absurd (let e = h.1.there in omega arith)
no_fault_of_nothing d limit (wire.ShortLength n) h = absurd (let e = h.1.there in omega arith)
no_fault_of_nothing d limit (wire.LongLength n) h = absurd (let e = h.1.there in omega arith)
no_fault_of_nothing d limit (wire.BadBody t) h = absurd (let e = h.1.there in omega arith)
no_fault_of_nothing d limit (wire.BadFirst c) h = h
no_fault_of_nothing d limit wire.Memory h = h

pub no_packet_fault_of_nothing : (f : WireFault) → IsFaultyPacket [] f → ⊥
no_packet_fault_of_nothing (wire.UnknownTag t) h = h
no_packet_fault_of_nothing (wire.ShortLength n) h = absurd (let e = h.0.there in omega arith)
no_packet_fault_of_nothing (wire.LongLength n) h = absurd (let e = h.0.there in omega arith)
no_packet_fault_of_nothing (wire.BadFirst c) h = absurd (let e = h.1.there in omega arith)
no_packet_fault_of_nothing (wire.BadBody t) h = absurd (let e = h.3.head.there in omega arith)
no_packet_fault_of_nothing wire.Memory h = h
