-- First packets: what is read is a packet, and what the head of a rest says of it.
use Rattle.std.proofs.Common.{◌≡◌, ℕ, zero, suc, ◌-◌, ◌^◌, ◌<◌, ◌≤◌, Bool, true, false, cond, eqb, ltb, List, [], ◌∷◌, ◌++◌, length, take, drop, Option, Some, None, Ok, Err, refl, sym, ap, subst, ◌∙◌, append_assoc, arith, length-append, lit<}
use Rattle.std.specs.Prelude.{ℤ, pos, negsuc, ◌<ℤ◌, ◌≤ℤ◌, IsSomeAnd}
use Rattle.std.specs.List.{flat_map, list_any, AllByRecursion}
use Rattle.std.specs.Int.{w32, to_be_bytes, from_be_bytes, cast_signed, cast_unsigned}
use Rattle.std.specs.Int.RustNames.{unsigned_abs as mag}
use Rattle.std.proofs.lemmas.Bool.{ltb-false, le-ltb, ne_eqb, or_parts, or_from}
use Rattle.std.proofs.lemmas.Int.{ints, of_z-to_z, to_z_pos}
use Rattle.std.proofs.lemmas.List.{append-nil, append_cancel_left, take_at, take-append-drop, length-take, length-drop, drop-drop}
use Rattle.std.proofs.lemmas.Nat.{be_bytes_4, from_be_bytes-to_be_bytes_4}
use Rattle.std.proofs.lemmas.Option.{none-some, same_Some}
use Rattle.pg_codec.specs.declared.fault.EncodeFault.{EncodeFault}
use Rattle.pg_codec.specs.declared.fault.EncodeFault.TheVariants as faults
use Rattle.pg_wire.specs.declared.fault.WireFault.{WireFault}
use Rattle.pg_wire.specs.declared.fault.WireFault.TheVariants as wire
use Rattle.pg_codec.specs.declared.fault.BodyFault.{BodyFault}
use Rattle.pg_codec.specs.declared.fault.BodyFault.TheVariants as body_faults
use Rattle.pg_message.specs.Private.Reading.{ReadsWhole}
use Rattle.pg_wire.specs.declared.first.kind.FirstKind.{FirstKind}
use Rattle.pg_wire.specs.declared.first.kind.FirstKind.TheVariants as kinds
use Rattle.pg_message.specs.declared.message.First.{First}
use Rattle.pg_message.specs.declared.message.First.TheVariants as first
use Rattle.pg_wire.specs.First.{parameter, code, content, packet_length, longest_packet, packet, packet_holds_list, has_no_name, packet_has_zero, packet_has_no_name, PacketIsOfType, IsPacket, is_last, EndsIn, IsBeginning, PacketHead, PacketCode, IsPacketCode, IsWholePacket, NoPacket, IsFaultyPacket, BeginsNoPacket, IsOpenPacket}
use Rattle.pg_wire.specs.Laws.{ReadsNoFurther, OneBeginning, PacketsAgain}
use Rattle.pg_codec.specs.Private.Reader.{pair_at, signed_at, terminated_at, parameter_at, whole}
use Rattle.pg_wire.specs.FirstDecoder.{FirstState, PacketFaultHolds, HasBegun, PacketWantsMemory}
use Rattle.pg_wire.specs.Private.FirstReader.{first_code, first_kind_of, first_of, FindsPacket}
use Rattle.pg_codec.proofs.Layouts.{IsBytes, IsBytes-take, wide32, bind_some, pair_reads, int32_reads}
use Rattle.pg_codec.proofs.Fields.{parameters_reads}
use Rattle.pg_message.proofs.Bodies.{passes, ended_some}
use Rattle.pg_wire.proofs.Rests.{IsBytes-drop, pos_same}

-- ---- which packets have a spelling

-- A packet with a spelling, but perhaps for its length.
pub record IsSpelledPacket (p : First) : Type 0 where
  pub of_type : PacketIsOfType p
  pub no_zero : packet_has_zero p ≡ false
  pub named : packet_has_no_name p ≡ false

pub packet_parts : (p : First) → IsPacket p → IsSpelledPacket p × (packet_length p ≤ longest_packet)
packet_parts p s =
    let long = ltb longest_packet (packet_length p) in
    let too_long : Option EncodeFault = cond long (Some faults.TooLong) None in
    let a = passes (packet_has_zero p) faults.HasZero (cond (packet_has_no_name p) (Some faults.EmptyName) too_long) s.no_fault in
    let b = passes (packet_has_no_name p) faults.EmptyName too_long a.1 in
    let c = passes long faults.TooLong None b.1 in
    (record { of_type = s.of_type; no_zero = a.0; named = b.0 }, ltb-false _ _ c.0)

packet_from : (p : First) → IsSpelledPacket p → packet_length p ≤ longest_packet → IsPacket p
packet_from p s short = record { of_type = s.of_type; no_fault = rw (s.no_zero, s.named, le-ltb _ _ short) refl }

-- ---- contents

kind : First → FirstKind
kind (first.Startup pairs) = kinds.Startup
kind (first.Cancel process secret) = kinds.Cancel
kind first.Ssl = kinds.Ssl
kind first.Gss = kinds.Gss

code_of_kind : (p : First) → first_code (kind p) ≡ code p
unfolding kind
code_of_kind (first.Startup pairs) = refl
code_of_kind (first.Cancel process secret) = refl
code_of_kind first.Ssl = refl
code_of_kind first.Gss = refl

kind_known : (p : First) → first_kind_of (pos (code p)) ≡ Some (kind p)
unfolding kind
kind_known (first.Startup pairs) = refl
kind_known (first.Cancel process secret) = refl
kind_known first.Ssl = refl
kind_known first.Gss = refl

has_packet : (k : FirstKind) → IsPacketCode (pos (first_code k))
has_packet kinds.Startup = (first.Startup [], refl)
has_packet kinds.Cancel = (first.Cancel (pos 0) (pos 0), refl)
has_packet kinds.Ssl = (first.Ssl, refl)
has_packet kinds.Gss = (first.Gss, refl)

code_known : (k : FirstKind) → first_kind_of (pos (first_code k)) ≡ Some k
code_known kinds.Startup = refl
code_known kinds.Cancel = refl
code_known kinds.Ssl = refl
code_known kinds.Gss = refl

pub no_code : (c : ℤ) → first_kind_of c ≡ None → IsPacketCode c → ⊥
no_code c e (p, is) = none-some (kind p) (sym (subst (λ (z : ℤ). first_kind_of z ≡ None) (sym is) e) ∙ kind_known p)

same_kind : (p : First) (k : FirstKind) → pos (code p) ≡ pos (first_code k) → kind p ≡ k
same_kind p k e = same_Some (kind p) k (sym (kind_known p) ∙ ap first_kind_of e ∙ code_known k)

-- the names of a list of parameters
named_all : (pairs : List (List ℕ × List ℕ)) → list_any has_no_name pairs ≡ false → AllByRecursion (λ p. (0 < length p.0) × Unit {0}) pairs
named_all [] e = tt
named_all (p ∷ ps) e = let s = or_parts (eqb (length p.0) 0) (list_any has_no_name ps) e in ((by_size (length p.0) s.0, tt), named_all ps s.1)
  where
    by_size : (n : ℕ) → eqb n 0 ≡ false → 0 < n
    by_size zero e = absurd cc
    by_size (suc n) e = omega arith

all_named : (pairs : List (List ℕ × List ℕ)) → AllByRecursion (λ p. (0 < length p.0) × Unit {0}) pairs → list_any has_no_name pairs ≡ false
all_named [] a = refl
all_named (p ∷ ps) a = or_from _ _ (ne_eqb _ _ (λ same. omega (arith, a.0.0))) (all_named ps a.1)

-- a parameter has no number
no_numbers : (pairs : List (List ℕ × List ℕ)) → AllByRecursion (λ p. (parameter p).IsOfType) pairs
no_numbers [] = tt
no_numbers (p ∷ ps) = ((tt, tt), no_numbers ps)

-- The packet has this kind and this content.
record IsContent (k : FirstKind) (bytes : List ℕ) (p : First) : Type 0 where
  code_is : code p ≡ first_code k
  content_is : content p ≡ bytes
  spelled : IsSpelledPacket p

first_sound : (k : FirstKind) (bytes : List ℕ) (p : First) → IsBytes bytes → first_of k bytes ≡ Some p → IsContent k bytes p
first_sound kinds.Startup bytes p fits e =
    let x = bind_some (terminated_at parameter_at bytes) (λ (a : List (List ℕ × List ℕ) × List ℕ). cond (eqb (length a.1) 0) (Some (first.Startup a.0)) None) p e in
    let g = ended_some x.0.1 (first.Startup x.0.0) p x.2 in
    let t = parameters_reads.sound bytes x.0.0 x.0.1 fits x.1 in
    let all : List ℕ = content (first.Startup x.0.0) in
    let is : bytes ≡ all = t.parts ∙ ap (λ (r : List ℕ). all ++ r) g.0 ∙ append-nil all in
    subst (IsContent kinds.Startup bytes) g.1 (record { code_is = refl; content_is = sym is; spelled = record { of_type = no_numbers x.0.0; no_zero = t.spelled.no_zero; named = all_named x.0.0 t.spelled.of_type } })
first_sound kinds.Cancel bytes p fits e =
    let reads = pair_reads _ _ _ _ int32_reads int32_reads in
    let x = bind_some (pair_at (signed_at w32) (signed_at w32) bytes) (λ (a : (ℤ × ℤ) × List ℕ). cond (eqb (length a.1) 0) (Some (first.Cancel a.0.0 a.0.1)) None) p e in
    let g = ended_some x.0.1 (first.Cancel x.0.0.0 x.0.0.1) p x.2 in
    let t = reads.sound bytes x.0.0 x.0.1 fits x.1 in
    let is : bytes ≡ content (first.Cancel x.0.0.0 x.0.0.1) = t.parts ∙ ap (λ (r : List ℕ). content (first.Cancel x.0.0.0 x.0.0.1) ++ r) g.0 ∙ append-nil (content (first.Cancel x.0.0.0 x.0.0.1)) in
    subst (IsContent kinds.Cancel bytes) g.1 (record { code_is = refl; content_is = sym is; spelled = record { of_type = t.spelled.of_type; no_zero = refl; named = refl } })
first_sound kinds.Ssl bytes p fits e =
    let g = ended_some bytes first.Ssl p e in
    subst (IsContent kinds.Ssl bytes) g.1 (record { code_is = refl; content_is = sym g.0; spelled = record { of_type = tt; no_zero = refl; named = refl } })
first_sound kinds.Gss bytes p fits e =
    let g = ended_some bytes first.Gss p e in
    subst (IsContent kinds.Gss bytes) g.1 (record { code_is = refl; content_is = sym g.0; spelled = record { of_type = tt; no_zero = refl; named = refl } })

first_again : (p : First) → IsPacket p → first_of (kind p) (content p) ≡ Some p
unfolding kind
first_again (first.Startup pairs) s =
    let q = packet_parts (first.Startup pairs) s in
    let bytes = content (first.Startup pairs) in
    let again = parameters_reads.again pairs [] (record { no_zero = q.0.no_zero; countable = refl; of_type = named_all pairs q.0.named }) (omega (arith, q.1)) in
    ap (λ (b : List ℕ). whole first.Startup (terminated_at parameter_at b)) (sym (append-nil bytes)) ∙ ap (λ (o : Option (List (List ℕ × List ℕ) × List ℕ)). whole first.Startup o) again
first_again (first.Cancel process secret) s =
    let q = packet_parts (first.Cancel process secret) s in
    let reads = pair_reads _ _ _ _ int32_reads int32_reads in
    let make : ℤ × ℤ → First = λ p. first.Cancel p.0 p.1 in
    let again = reads.again (process, secret) [] (record { no_zero = refl; countable = refl; of_type = q.0.of_type }) (lit< tt) in
    ap (λ (b : List ℕ). whole make (pair_at (signed_at w32) (signed_at w32) b)) (sym (append-nil (content (first.Cancel process secret)))) ∙ ap (λ (o : Option ((ℤ × ℤ) × List ℕ)). whole make o) again
first_again first.Ssl s = refl
first_again first.Gss s = refl

-- a kind and a content make at most one packet
one_to_one : (p q : First) → IsPacket p → IsPacket q → code p ≡ code q → content p ≡ content q → p ≡ q
one_to_one p q s t codes contents =
    let kinds_same : kind p ≡ kind q = same_kind p (kind q) (ap pos (codes ∙ sym (code_of_kind q))) in
    same_Some p q (sym (first_again p s) ∙ ap (λ k. first_of k (content p)) kinds_same ∙ ap (first_of (kind q)) contents ∙ first_again q t)

-- ---- heads

same_length : (rest : List ℕ) (y z : ℤ) → PacketHead rest y → PacketHead rest z → y ≡ z
same_length rest y z g h = sym g.length_is ∙ h.length_is

same_code : (rest : List ℕ) (y z : ℤ) → PacketCode rest y → PacketCode rest z → y ≡ z
same_code rest y z g h = sym g.code_is ∙ h.code_is

code_small : (p : First) → code p < 2 ^ 31
code_small (first.Startup pairs) = lit< tt
code_small (first.Cancel process secret) = lit< tt
code_small first.Ssl = lit< tt
code_small first.Gss = lit< tt

-- What a packet at the beginning says of the rest.
record Leads (rest : List ℕ) (p : First) : Type 0 where
  head : PacketHead rest (pos (packet_length p))
  code : PacketCode rest (pos (code p))
  there : packet_length p ≤ length rest
  bytes : take (packet_length p) rest ≡ packet p

leads : (rest : List ℕ) (p : First) (more : List ℕ) → IsPacket p → rest ≡ packet p ++ more → Leads rest p
leads rest p more s is = subst (λ (r : List ℕ). Leads r p) (sym is) (of_packet (packet_parts p s).1)
  where
    of_packet : packet_length p ≤ longest_packet → Leads (packet p ++ more) p
    of_packet short =
        let size : length (packet p) ≡ packet_length p = omega (arith, length-append (to_be_bytes w32 (packet_length p) ++ to_be_bytes w32 (code p)) (content p)) in
        record {
          head = record { there = omega arith; length_is = rw (from_be_bytes-to_be_bytes_4 (packet_length p) (omega arith)) (to_z_pos w32 (packet_length p) (omega arith)) };
          code = record { there = omega arith; code_is = rw (from_be_bytes-to_be_bytes_4 (code p) (omega (arith, code_small p))) (to_z_pos w32 (code p) (code_small p)) };
          there = omega (arith, length-append (packet p) more);
          bytes = take_at (packet p) more (packet_length p) size;
        }

-- ---- open rests

pub short_open : (rest : List ℕ) → length rest < 4 → IsOpenPacket rest
short_open rest short = record { no_packet = no_packet; no_fault = no_fault }
  where
    no_packet : BeginsNoPacket rest
    no_packet p more s is = let l = leads rest p more s is in omega (arith, l.head.there)

    no_fault : (f : WireFault) → IsFaultyPacket rest f → ⊥
    no_fault (wire.UnknownTag t) h = h
    no_fault (wire.ShortLength n) h = omega (arith, h.0.there)
    no_fault (wire.LongLength n) h = omega (arith, h.0.there)
    no_fault (wire.BadFirst c) h = omega (arith, h.1.there)
    no_fault (wire.BadBody t) h = omega (arith, h.3.head.there)
    no_fault wire.Memory h = h

pub no_code_open : (rest : List ℕ) (n : ℤ) → PacketHead rest n → pos 8 ≤ℤ n → n ≤ℤ pos longest_packet → length rest < 8 → IsOpenPacket rest
no_code_open rest n head low high short = record { no_packet = no_packet; no_fault = no_fault }
  where
    no_packet : BeginsNoPacket rest
    no_packet p more s is = let l = leads rest p more s is in omega (arith, l.code.there)

    no_fault : (f : WireFault) → IsFaultyPacket rest f → ⊥
    no_fault (wire.UnknownTag t) h = h
    no_fault (wire.ShortLength k) h = let e = same_length rest n k head h.0 in let lt = subst (λ (z : ℤ). z <ℤ pos 8) (sym e) h.1 in omega (arith, ints)
    no_fault (wire.LongLength k) h = let e = same_length rest n k head h.0 in let lt = subst (λ (z : ℤ). pos longest_packet <ℤ z) (sym e) h.1 in omega (arith, ints)
    no_fault (wire.BadFirst c) h = omega (arith, h.3.there)
    no_fault (wire.BadBody t) h = omega (arith, h.3.code.there)
    no_fault wire.Memory h = h

pub partial_open : (rest : List ℕ) (len : ℕ) (c : ℤ) → PacketHead rest (pos len) → PacketCode rest c → IsPacketCode c → 8 ≤ len → len ≤ longest_packet → length rest < len → IsOpenPacket rest
partial_open rest len c head code_there known low high part = record { no_packet = no_packet; no_fault = no_fault }
  where
    no_packet : BeginsNoPacket rest
    no_packet p more s is =
        let l = leads rest p more s is in
        let e = pos_same _ _ (same_length rest (pos len) (pos (packet_length p)) head l.head) in
        omega (arith, l.there)

    no_fault : (f : WireFault) → IsFaultyPacket rest f → ⊥
    no_fault (wire.UnknownTag t) h = h
    no_fault (wire.ShortLength k) h = let e = same_length rest (pos len) k head h.0 in let lt = subst (λ (z : ℤ). z <ℤ pos 8) (sym e) h.1 in omega (arith, ints)
    no_fault (wire.LongLength k) h = let e = same_length rest (pos len) k head h.0 in let lt = subst (λ (z : ℤ). pos longest_packet <ℤ z) (sym e) h.1 in omega (arith, ints)
    no_fault (wire.BadFirst d) h = h.4 (subst IsPacketCode (same_code rest c d code_there h.3) known)
    no_fault (wire.BadBody t) h = let e = pos_same _ _ (same_length rest (pos len) (pos h.2) head h.3.head) in omega (arith, h.3.there)
    no_fault wire.Memory h = h

-- ---- faulty rests

pub faulty_begins_none : (rest : List ℕ) (f : WireFault) → IsFaultyPacket rest f → BeginsNoPacket rest
faulty_begins_none rest (wire.UnknownTag t) h p more s is = h
faulty_begins_none rest (wire.ShortLength n) h p more s is =
    let l = leads rest p more s is in
    let e = same_length rest (pos (packet_length p)) n l.head h.0 in
    let lt = subst (λ (z : ℤ). z <ℤ pos 8) (sym e) h.1 in
    omega (arith, ints)
faulty_begins_none rest (wire.LongLength n) h p more s is =
    let l = leads rest p more s is in
    let e = same_length rest (pos (packet_length p)) n l.head h.0 in
    let lt = subst (λ (z : ℤ). pos longest_packet <ℤ z) (sym e) h.1 in
    omega (arith, ints, (packet_parts p s).1)
faulty_begins_none rest (wire.BadFirst c) h p more s is =
    let l = leads rest p more s is in
    h.4 (p, same_code rest (pos (code p)) c l.code h.3)
faulty_begins_none rest (wire.BadBody t) h p more s is =
    let l = leads rest p more s is in
    let e : packet_length p ≡ h.2 = pos_same _ _ (same_length rest (pos (packet_length p)) (pos h.2) l.head h.3.head) in
    h.4 p s (sym l.bytes ∙ ap (λ (n : ℕ). take n rest) e)
faulty_begins_none rest wire.Memory h p more s is = h

-- a length that is short isn't long, and neither is one that a packet may have
short_long : (n k : ℤ) → n ≡ k → n <ℤ pos 8 → pos longest_packet <ℤ k → ⊥
short_long n k e short long = let lt = subst (λ (z : ℤ). z <ℤ pos 8) e short in omega (arith, ints)

short_fits : (n k : ℤ) → n ≡ k → n <ℤ pos 8 → pos 8 ≤ℤ k → ⊥
short_fits n k e short low = let lt = subst (λ (z : ℤ). z <ℤ pos 8) e short in omega (arith, ints)

long_fits : (n k : ℤ) → n ≡ k → pos longest_packet <ℤ n → k ≤ℤ pos longest_packet → ⊥
long_fits n k e long high = let lt = subst (λ (z : ℤ). pos longest_packet <ℤ z) e long in omega (arith, ints)

whole_low : (len : ℕ) → 8 ≤ len → pos 8 ≤ℤ pos len
whole_low len h = omega (arith, ints)

whole_high : (len : ℕ) → len ≤ longest_packet → pos len ≤ℤ pos longest_packet
whole_high len h = omega (arith, ints)

pub one_fault : (rest : List ℕ) (f g : WireFault) → IsFaultyPacket rest f → IsFaultyPacket rest g → f ≡ g
one_fault rest (wire.ShortLength n) (wire.ShortLength k) p q = ap wire.ShortLength (same_length rest n k p.0 q.0)
one_fault rest (wire.ShortLength n) (wire.LongLength k) p q = absurd (short_long n k (same_length rest n k p.0 q.0) p.1 q.1)
one_fault rest (wire.ShortLength n) (wire.BadFirst c) p q = absurd (short_fits n q.0 (same_length rest n q.0 p.0 q.1) p.1 q.2.0)
one_fault rest (wire.ShortLength n) (wire.BadBody t) p q = absurd (short_fits n (pos q.2) (same_length rest n (pos q.2) p.0 q.3.head) p.1 (whole_low q.2 q.3.not_short))
one_fault rest (wire.LongLength n) (wire.ShortLength k) p q = absurd (short_long k n (same_length rest k n q.0 p.0) q.1 p.1)
one_fault rest (wire.LongLength n) (wire.LongLength k) p q = ap wire.LongLength (same_length rest n k p.0 q.0)
one_fault rest (wire.LongLength n) (wire.BadFirst c) p q = absurd (long_fits n q.0 (same_length rest n q.0 p.0 q.1) p.1 q.2.1)
one_fault rest (wire.LongLength n) (wire.BadBody t) p q = absurd (long_fits n (pos q.2) (same_length rest n (pos q.2) p.0 q.3.head) p.1 (whole_high q.2 q.3.not_long))
one_fault rest (wire.BadFirst c) (wire.ShortLength k) p q = absurd (short_fits k p.0 (same_length rest k p.0 q.0 p.1) q.1 p.2.0)
one_fault rest (wire.BadFirst c) (wire.LongLength k) p q = absurd (long_fits k p.0 (same_length rest k p.0 q.0 p.1) q.1 p.2.1)
one_fault rest (wire.BadFirst c) (wire.BadFirst d) p q = ap wire.BadFirst (same_code rest c d p.3 q.3)
one_fault rest (wire.BadFirst c) (wire.BadBody t) p q = absurd (p.4 (subst IsPacketCode (same_code rest q.1 c q.3.code p.3) q.3.known))
one_fault rest (wire.BadBody t) (wire.ShortLength k) p q = absurd (short_fits k (pos p.2) (same_length rest k (pos p.2) q.0 p.3.head) q.1 (whole_low p.2 p.3.not_short))
one_fault rest (wire.BadBody t) (wire.LongLength k) p q = absurd (long_fits k (pos p.2) (same_length rest k (pos p.2) q.0 p.3.head) q.1 (whole_high p.2 p.3.not_long))
one_fault rest (wire.BadBody t) (wire.BadFirst c) p q = absurd (q.4 (subst IsPacketCode (same_code rest p.1 c p.3.code q.3) p.3.known))
one_fault rest (wire.BadBody t) (wire.BadBody u) p q = ap wire.BadBody (p.0 ∙ sym q.0)
one_fault rest f (wire.UnknownTag t) p q = absurd q
one_fault rest f wire.Memory p q = absurd q
one_fault rest (wire.UnknownTag t) g p q = absurd p
one_fault rest wire.Memory g p q = absurd p

-- ---- whole packets

eight : (rest : List ℕ) → 8 ≤ length rest → rest ≡ (take 4 rest ++ take 4 (drop 4 rest)) ++ drop 8 rest
eight rest h = sym (take-append-drop 4 rest) ∙ ap (λ (t : List ℕ). take 4 rest ++ t) (sym (take-append-drop 4 (drop 4 rest)) ∙ ap (λ (t : List ℕ). take 4 (drop 4 rest) ++ t) (drop-drop 4 4 rest)) ∙ sym (append_assoc (take 4 rest) (take 4 (drop 4 rest)) (drop 8 rest))

-- four bytes are the spelling of the number that they are read as
number_again : (bytes : List ℕ) (n : ℕ) → length bytes ≡ 4 → IsBytes bytes → cast_signed w32 (from_be_bytes w32 bytes) ≡ pos n → bytes ≡ to_be_bytes w32 n
number_again bytes n four fits is =
    let number : n ≡ from_be_bytes w32 bytes = sym (ap (cast_unsigned w32) is) ∙ of_z-to_z w32 (from_be_bytes w32 bytes) (wide32.below bytes fits) in
    sym (be_bytes_4 bytes n four fits number)

pub packet_found : (rest : List ℕ) (k : FirstKind) (len n : ℕ) (p : First) → IsBytes rest → IsWholePacket rest (pos (first_code k)) len → n ≡ len - 8 → first_of k (take n (drop 8 rest)) ≡ Some p → (len ≤ length rest) × IsPacket p × (rest ≡ packet p ++ drop len rest)
packet_found rest k len n p fits w size e =
    let bytes = take n (drop 8 rest) in
    let found = first_sound k bytes p (IsBytes-take n (drop 8 rest) (IsBytes-drop 8 rest fits)) e in
    let content_len : length (content p) ≡ length bytes = ap length found.content_is in
    let lens : packet_length p ≡ len = omega (arith, length-take n (drop 8 rest), length-drop 8 rest, w.there, w.not_short) in
    let length_bytes : take 4 rest ≡ to_be_bytes w32 (packet_length p) = number_again (take 4 rest) len (omega (arith, length-take 4 rest, w.there, w.not_short)) (IsBytes-take 4 rest fits) w.head.length_is ∙ ap (to_be_bytes w32) (sym lens) in
    let code_bytes : take 4 (drop 4 rest) ≡ to_be_bytes w32 (code p) = number_again (take 4 (drop 4 rest)) (first_code k) (omega (arith, length-take 4 (drop 4 rest), length-drop 4 rest, w.there, w.not_short)) (IsBytes-take 4 (drop 4 rest) (IsBytes-drop 4 rest fits)) w.code.code_is ∙ ap (to_be_bytes w32) (sym found.code_is) in
    let after : drop n (drop 8 rest) ≡ drop len rest = drop-drop n 8 rest ∙ ap (λ (j : ℕ). drop j rest) (omega (arith, w.not_short)) in
    let back : drop 8 rest ≡ content p ++ drop len rest = sym (take-append-drop n (drop 8 rest)) ∙ ap (λ (u : List ℕ). u ++ drop n (drop 8 rest)) (sym found.content_is) ∙ ap (λ (u : List ℕ). content p ++ u) after in
    let head_bytes = to_be_bytes w32 (packet_length p) ++ to_be_bytes w32 (code p) in
    let parts : rest ≡ head_bytes ++ (content p ++ drop len rest) =
    eight rest (omega (arith, w.there, w.not_short)) ∙ ap (λ (u : List ℕ). (u ++ take 4 (drop 4 rest)) ++ drop 8 rest) length_bytes ∙ ap (λ (u : List ℕ). (to_be_bytes w32 (packet_length p) ++ u) ++ drop 8 rest) code_bytes ∙ ap (λ (u : List ℕ). head_bytes ++ u) back in
    (w.there, packet_from p found.spelled (omega (arith, w.not_long)), parts ∙ sym (append_assoc head_bytes (content p) (drop len rest)))

pub packet_wanted : (rest : List ℕ) (k : FirstKind) (len n : ℕ) → IsBytes rest → IsWholePacket rest (pos (first_code k)) len → n ≡ len - 8 → IsSomeAnd (first_of k (take n (drop 8 rest))) (λ p. packet_holds_list p ≡ true) → PacketWantsMemory rest
packet_wanted rest k len n fits whole size = by_packet (first_of k (take n (drop 8 rest))) refl
  where
    by_packet : (o : Option First) → first_of k (take n (drop 8 rest)) ≡ o → IsSomeAnd o (λ p. packet_holds_list p ≡ true) → PacketWantsMemory rest
    by_packet (Some p) e holds =
        let found = packet_found rest k len n p fits whole size e in
        (p, drop len rest, found.1, holds, found.2)
    by_packet None e holds = absurd holds

pub packet_bad : (rest : List ℕ) (k : FirstKind) (len n : ℕ) → IsWholePacket rest (pos (first_code k)) len → n ≡ len - 8 → first_of k (take n (drop 8 rest)) ≡ None → IsFaultyPacket rest (wire.BadBody 0)
packet_bad rest k len n w size none = (refl, pos (first_code k), len, w, no_packet)
  where
    no_packet : NoPacket (take len rest)
    no_packet p s is =
        let rest_is : rest ≡ packet p ++ drop len rest = sym (take-append-drop len rest) ∙ ap (λ (u : List ℕ). u ++ drop len rest) (sym is) in
        let l = leads rest p (drop len rest) s rest_is in
        let kinds_same : kind p ≡ k = same_kind p k (same_code rest (pos (code p)) (pos (first_code k)) l.code w.code) in
        let lens : packet_length p ≡ len = pos_same _ _ (same_length rest (pos (packet_length p)) (pos len) l.head w.head) in
        let after : drop 8 rest ≡ content p ++ drop len rest = ap (drop 8) rest_is in
        let bytes : take n (drop 8 rest) ≡ content p = ap (take n) after ∙ take_at (content p) (drop len rest) n (omega arith) in
        none-some p (sym none ∙ ap (first_of k) bytes ∙ ap (λ j. first_of j (content p)) (sym kinds_same) ∙ first_again p s)

-- ---- what a connection begins with

-- No packet begins another, and bytes spell at most one.
pub one_packet : (p q : First) (x y : List ℕ) → IsPacket p → IsPacket q → packet p ++ x ≡ packet q ++ y → (p ≡ q) × (x ≡ y)
one_packet p q x y s t e =
    let f = leads (packet p ++ x) p x s refl in
    let g = leads (packet p ++ x) q y t e in
    let lens : packet_length p ≡ packet_length q = pos_same _ _ (same_length (packet p ++ x) (pos (packet_length p)) (pos (packet_length q)) f.head g.head) in
    let codes : code p ≡ code q = pos_same _ _ (same_code (packet p ++ x) (pos (code p)) (pos (code q)) f.code g.code) in
    let after : content p ++ x ≡ content q ++ y = ap (drop 8) e in
    let contents : content p ≡ content q = sym (take_at (content p) x (length (content p)) refl) ∙ ap (take (length (content p))) after ∙ take_at (content q) y (length (content p)) (omega arith) in
    (one_to_one p q s t codes contents, append_cancel_left (content p) x y (after ∙ ap (λ (b : List ℕ). b ++ y) (sym contents)))

-- a packet more at the end
pub ends_more : (ps : List First) (p : First) → EndsIn ps false → EndsIn (ps ++ p ∷ []) (is_last p)
ends_more [] p e = refl
ends_more (q ∷ []) p e = (sym e, refl)
ends_more (q ∷ r ∷ ps) p e = (e.0, ends_more (r ∷ ps) p e.1)

all_more : (ps : List First) (p : First) → AllByRecursion IsPacket ps → IsPacket p → AllByRecursion IsPacket (ps ++ p ∷ [])
all_more [] p a s = (s, tt)
all_more (q ∷ ps) p a s = (a.0, all_more ps p a.1 s)

flat_map_one : (ps : List First) (p : First) → flat_map packet ps ++ packet p ≡ flat_map packet (ps ++ p ∷ [])
flat_map_one [] p = sym (append-nil (packet p))
flat_map_one (q ∷ ps) p = append_assoc (packet q) (flat_map packet ps) (packet p) ∙ ap (λ (r : List ℕ). packet q ++ r) (flat_map_one ps p)

pub begins_more : (bytes : List ℕ) (ps : List First) (ended : Bool) (rest : List ℕ) (p : First) (more : List ℕ) → IsBeginning bytes ps ended rest → ended ≡ false → IsPacket p → rest ≡ packet p ++ more → IsBeginning bytes (ps ++ p ∷ []) (is_last p) more
begins_more bytes ps ended rest p more b not_ended s is = record {
  whole = b.whole ∙ ap (λ (r : List ℕ). flat_map packet ps ++ r) is ∙ sym (append_assoc (flat_map packet ps) (packet p) more) ∙ ap (λ (r : List ℕ). r ++ more) (flat_map_one ps p);
  each = all_more ps p b.each s;
  last = ends_more ps p (subst (EndsIn ps) not_ended b.last);
}

-- the first of two lists of packets that spell the same
first_of_both : (p q : First) (ps qs : List First) (x y : List ℕ) → flat_map packet (p ∷ ps) ++ x ≡ flat_map packet (q ∷ qs) ++ y → IsPacket p → IsPacket q → (p ≡ q) × (flat_map packet ps ++ x ≡ flat_map packet qs ++ y)
first_of_both p q ps qs x y is s t = one_packet p q (flat_map packet ps ++ x) (flat_map packet qs ++ y) s t (sym (append_assoc (packet p) (flat_map packet ps) x) ∙ is ∙ append_assoc (packet q) (flat_map packet qs) y)

-- one reading
readings : (ps qs : List First) (e f : Bool) (x y : List ℕ) → flat_map packet ps ++ x ≡ flat_map packet qs ++ y → AllByRecursion IsPacket ps → AllByRecursion IsPacket qs → EndsIn ps e → EndsIn qs f → ReadsNoFurther f y
    → (later : List First) × (qs ≡ ps ++ later) × (x ≡ flat_map packet later ++ y)
readings [] qs e f x y is a b m n far = (qs, refl, is)
readings (p ∷ ps) [] e f x y is a b m n far = absurd (subst (λ (c : Bool). ReadsNoFurther c y) n far p (flat_map packet ps ++ x) a.0 (sym is ∙ append_assoc (packet p) (flat_map packet ps) x))
readings (p ∷ []) (q ∷ qs) e f x y is a b m n far =
    let g = first_of_both p q [] qs x y is a.0 b.0 in
    (qs, cc g.0, g.1)
readings (p ∷ r ∷ ps) (q ∷ []) e f x y is a b m n far =
    let g = first_of_both p q (r ∷ ps) [] x y is a.0 b.0 in
    let not_ended : f ≡ false = n ∙ sym (ap is_last g.0) ∙ m.0 in
    absurd (subst (λ (c : Bool). ReadsNoFurther c y) not_ended far r (flat_map packet ps ++ x) a.1.0 (sym g.1 ∙ append_assoc (packet r) (flat_map packet ps) x))
readings (p ∷ r ∷ ps) (q ∷ s ∷ qs) e f x y is a b m n far =
    let g = first_of_both p q (r ∷ ps) (s ∷ qs) x y is a.0 b.0 in
    let h = readings (r ∷ ps) (s ∷ qs) e f x y g.1 a.1 b.1 m.1 n.1 far in
    (h.0, cc (g.0, h.1), h.2)

pub one_beginning : OneBeginning
one_beginning bytes ps qs e f x y s t far = readings ps qs e f x y (sym s.whole ∙ t.whole) s.each t.each s.last t.last far

pub packets_again : PacketsAgain
packets_again ps given e f rest each last b =
    let g = readings given ps e f rest [] (sym b.whole ∙ sym (append-nil (flat_map packet ps))) b.each each b.last last (no_further f) in
    (g.0, g.1, g.2 ∙ append-nil (flat_map packet g.0))
  where
    no_further : (f : Bool) → ReadsNoFurther f []
    no_further true = tt
    no_further false = λ p more s is. let l = leads [] p more s is in omega (arith, l.head.there)

-- ---- for the code that judges a head

signed_number : (bytes : List ℕ) (z : ℤ) → IsBytes bytes → cast_signed w32 (from_be_bytes w32 bytes) ≡ z → cast_signed w32 (cast_unsigned w32 z) ≡ z
signed_number bytes z fits is =
    let back : cast_unsigned w32 (cast_signed w32 (from_be_bytes w32 bytes)) ≡ from_be_bytes w32 bytes = of_z-to_z w32 (from_be_bytes w32 bytes) (wide32.below bytes fits) in
    ap (λ (y : ℤ). cast_signed w32 (cast_unsigned w32 y)) (sym is) ∙ ap (cast_signed w32) back ∙ is

pub signed_length : (rest : List ℕ) (z : ℤ) → IsBytes rest → PacketHead rest z → cast_signed w32 (cast_unsigned w32 z) ≡ z
signed_length rest z fits head = signed_number (take 4 rest) z (IsBytes-take 4 rest fits) head.length_is

pub signed_code : (rest : List ℕ) (z : ℤ) → IsBytes rest → PacketCode rest z → cast_signed w32 (cast_unsigned w32 z) ≡ z
signed_code rest z fits c = signed_number (take 4 (drop 4 rest)) z (IsBytes-take 4 (drop 4 rest) (IsBytes-drop 4 rest fits)) c.code_is

pub judged_open : (rest : List ℕ) (k : FirstKind) (y z v w : ℤ) → y ≡ z → PacketHead rest z → v ≡ w → PacketCode rest w → v ≡ pos (first_code k) → pos 8 ≤ℤ y → y ≤ℤ pos longest_packet → length rest < mag y → IsOpenPacket rest × (length rest < longest_packet)
judged_open rest k (pos n) z v w same head same_c code_there is low high part =
    (partial_open rest n (pos (first_code k)) (subst (PacketHead rest) (sym same) head) (subst (PacketCode rest) (sym same_c ∙ is) code_there) (has_packet k) (omega (arith, ints)) (omega (arith, ints)) part, omega (arith, ints))
judged_open rest k (negsuc n) z v w same head same_c code_there is low high part = absurd (omega (arith, ints))

pub judged_whole : (rest : List ℕ) (k : FirstKind) (y z v w : ℤ) → y ≡ z → PacketHead rest z → v ≡ w → PacketCode rest w → v ≡ pos (first_code k) → pos 8 ≤ℤ y → y ≤ℤ pos longest_packet → mag y ≤ length rest → IsWholePacket rest (pos (first_code k)) (mag y)
judged_whole rest k (pos n) z v w same head same_c code_there is low high there = record {
  head = subst (PacketHead rest) (sym same) head;
  code = subst (PacketCode rest) (sym same_c ∙ is) code_there;
  known = has_packet k;
  not_short = omega (arith, ints);
  not_long = omega (arith, ints);
  there = there;
}
judged_whole rest k (negsuc n) z v w same head same_c code_there is low high there = absurd (omega (arith, ints))

pub no_packet : (f : BodyFault) (o : Option First) → f ≡ body_faults.Bad → ReadsWhole packet_holds_list (Err f) o → o ≡ None
no_packet body_faults.Memory o e h = absurd cc
no_packet body_faults.Bad None e h = refl
no_packet body_faults.Bad (Some p) e h = absurd cc

pub a_packet : (f : BodyFault) (o : Option First) → f ≡ body_faults.Memory → ReadsWhole packet_holds_list (Err f) o → IsSomeAnd o (λ p. packet_holds_list p ≡ true)
a_packet body_faults.Memory o e h = h
a_packet body_faults.Bad o e h = absurd cc

-- ---- for the decoder

pub next_begun : (old : FirstState) (slice rest : List ℕ) (ended : Bool) (fault : Option WireFault) (p : First) (len : ℕ) (rest' : List ℕ) (ended' : Bool) → record { kept = rest; ended = ended; fault = fault } ≡ old → ended ≡ false → fault ≡ None
    → FindsPacket slice (Ok (Some (p, len))) → slice ≡ rest → rest' ≡ drop len rest → ended' ≡ is_last p → (pushed : List ℕ) (given : List First) → HasBegun old pushed given → HasBegun (record { kept = rest'; ended = ended'; fault = fault }) pushed (given ++ p ∷ [])
next_begun old slice rest ended fault p len rest' ended' view not_ended no_fault found same less last pushed given h =
    let was : HasBegun (record { kept = rest; ended = ended; fault = fault }) pushed given = subst (λ (s : FirstState). HasBegun s pushed given) (sym view) h in
    let is : rest ≡ packet p ++ rest' = sym same ∙ found.2 ∙ ap (λ (r : List ℕ). packet p ++ drop len r) same ∙ ap (λ (r : List ℕ). packet p ++ r) (sym less) in
    let b = begins_more pushed given ended rest p rest' was.beginning not_ended found.1 is in
    record {
      beginning = subst (λ (e : Bool). IsBeginning pushed (given ++ p ∷ []) e rest') (sym last) b;
      fault = subst (PacketFaultHolds (record { kept = rest'; ended = ended'; fault = fault })) (sym no_fault) tt;
    }
