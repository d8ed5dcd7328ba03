-- What is shown has no float, and nests no deeper than four levels: so serde_json says which text it has, and that this reads back.
use Rattle.std.proofs.Common.{◌≡◌, ℕ, ◌+◌, ◌-◌, ◌≤◌, Bool, true, false, true≢false, List, [], ◌∷◌, length, drop, Option, Some, None, Ordering, Less, Equal, Greater, map, nat_cmp, refl, subst, sym, arith}
use Rattle.std.specs.Prelude.{ℤ, pos, negsuc, ◌==◌, ◌||◌, codes, slice_index, if◌then◌else◌}
use Rattle.std.specs.Cmp.Lexicographic.{slice_cmp}
use Rattle.std.specs.Ordering.{match_ordering}
use Rattle.pg_wire.specs.message.BackMessage.{BackMessage}
use Rattle.pg_wire.specs.message.BackMessage.TheVariants as back
use Rattle.pg_wire.specs.message.FrontMessage.{FrontMessage}
use Rattle.pg_wire.specs.message.FrontMessage.TheVariants as front
use Rattle.pg_wire.specs.message.First.{First}
use Rattle.pg_wire.specs.message.First.TheVariants as first
use Rattle.pg_wire.specs.value.Column.{Column}
use Rattle.pg_wire.specs.value.ErrorField.{ErrorField}
use Rattle.pgpipe_frames.specs.Other.{back_name, front_name}
use Rattle.pgpipe_frames.specs.Frames.{code}
use Rattle.pgpipe_frames.specs.declared.next.NextFrame.{NextFrame}
use Rattle.pgpipe_frames.specs.declared.next.NextFrame.TheVariants as next
use Rattle.serde_json.specs.Data.{Data, string, boolean, object, Members, no_members, member, put, depth, items_depth, members_depth}
use Rattle.serde_json.specs.View.{items_of}
use Rattle.serde_json.specs.Written.{has_float, items_have_float, members_have_float}
use Rattle.pgpipe_texts.specs.Json.Backend.{back_called, back_json, back_members, column_json, error_members, field_json, origin_members, request_more, type_members, type_name}
use Rattle.pgpipe_frames.specs.Json.Frame.{IsBackJson, IsFrontJson, IsJsonOf, IsPacketJson, json_or}
use Rattle.pgpipe_frames.specs.Json.Frontend.{front_called, front_json, front_members}
use Rattle.pgpipe_texts.specs.Json.Members.{Member, head_members, message_json, with_members}
use Rattle.pgpipe_frames.specs.Json.Other.{other_back, other_front, other_packet, other_members, other_packet_members, packet_name, shown_or_hidden}
use Rattle.pgpipe_texts.specs.Json.Packet.{packet_called, packet_json, packet_members, parameter_json}
use Rattle.pgpipe_texts.specs.Json.Values.{count_json, hex_json, hidden_json, list_json, signed_json, text_json, text_or_hex, text_or_null, utf8_text, word_or_null}

-- ---- members and items

-- a value without floats that nests no deeper than so many levels
pub record IsPlain (n : ℕ) (d : Data) : Type 0 where
  pub floatless : has_float d ≡ false
  pub flat : depth d ≤ n

-- members whose values are so
record ArePlain (n : ℕ) (ms : Members) : Type 0 where
  floatless : members_have_float ms ≡ false
  flat : members_depth ms ≤ n

-- members that are put among others
abbrev AllPlain : ℕ → List Member → Type 0
AllPlain n [] = Unit {0}
AllPlain n (m ∷ more) = IsPlain n m.1 × AllPlain n more

neither : (a b : Bool) → a ≡ false → b ≡ false → a || b ≡ false
neither false b p q = q
neither true b p q = absurd (true≢false p)

not_first : (a b : Bool) → a || b ≡ false → a ≡ false
not_first false b p = refl
not_first true b p = absurd (true≢false p)

not_second : (a b : Bool) → a || b ≡ false → b ≡ false
not_second false b p = p
not_second true b p = absurd (true≢false p)

none : (n : ℕ) → ArePlain n no_members
none n = record { floatless = refl; flat = omega arith }

one_more : (n : ℕ) (k : List ℕ) (d : Data) (ms : Members) → IsPlain n d → ArePlain n ms → ArePlain n (member k d ms)
one_more n k d ms p q = record { floatless = neither (has_float d) (members_have_float ms) p.floatless q.floatless; flat = omega (arith, p.flat, q.flat) }

first_of : (n : ℕ) (k : List ℕ) (d : Data) (ms : Members) → ArePlain n (member k d ms) → IsPlain n d
first_of n k d ms p = record { floatless = not_first (has_float d) (members_have_float ms) p.floatless; flat = omega (arith, p.flat) }

others_of : (n : ℕ) (k : List ℕ) (d : Data) (ms : Members) → ArePlain n (member k d ms) → ArePlain n ms
others_of n k d ms p = record { floatless = not_second (has_float d) (members_have_float ms) p.floatless; flat = omega (arith, p.flat) }

put_at : (n : ℕ) (o : Ordering) (k l : List ℕ) (d e : Data) (ms more : Members) → IsPlain n d → ArePlain n (member l e ms) → ArePlain n more → ArePlain n (match_ordering o (member k d (member l e ms)) (member l d ms) (member l e more))
put_at n Less k l d e ms more p q r = one_more n k d (member l e ms) p q
put_at n Equal k l d e ms more p q r = one_more n l d ms p (others_of n l e ms q)
put_at n Greater k l d e ms more p q r = one_more n l e more (first_of n l e ms q) r

put_plain : (n : ℕ) (k : List ℕ) (d : Data) (ms : Members) → IsPlain n d → ArePlain n ms → ArePlain n (put k d ms)
put_plain n k d no_members p q = one_more n k d no_members p q
put_plain n k d (member l e ms) p q = put_at n (slice_cmp nat_cmp k l) k l d e ms (put k d ms) p q (put_plain n k d ms p (others_of n l e ms q))

with_plain : (n : ℕ) (fs : List Member) (ms : Members) → AllPlain n fs → ArePlain n ms → ArePlain n (with_members fs ms)
with_plain n [] ms h p = p
with_plain n (f ∷ fs) ms h p = with_plain n fs (put f.0 f.1 ms) h.1 (put_plain n f.0 f.1 ms h.0 p)

items_floatless : {A : Type 0} (n : ℕ) (json : A → Data) (xs : List A) → ((x : A) → IsPlain n (json x)) → items_have_float (items_of (map json xs)) ≡ false
items_floatless n json [] h = refl
items_floatless n json (x ∷ xs) h = neither (has_float (json x)) (items_have_float (items_of (map json xs))) (h x).floatless (items_floatless n json xs h)

items_flat : {A : Type 0} (n : ℕ) (json : A → Data) (xs : List A) → ((x : A) → IsPlain n (json x)) → items_depth (items_of (map json xs)) ≤ n
items_flat n json [] h = omega arith
items_flat n json (x ∷ xs) h = omega (arith, (h x).flat, items_flat n json xs h)

list_plain : {A : Type 0} (n : ℕ) (json : A → Data) (xs : List A) → ((x : A) → IsPlain n (json x)) → IsPlain (n + 1) (list_json json xs)
list_plain n json xs h = record { floatless = items_floatless n json xs h; flat = omega (arith, items_flat n json xs h) }

object_plain : (n : ℕ) (ms : Members) → ArePlain n ms → IsPlain (n + 1) (object ms)
object_plain n ms p = record { floatless = p.floatless; flat = omega (arith, p.flat) }

-- ---- values

-- a value that nests no deeper than one level is plain at three
text_at : (bytes : List ℕ) (o : Option (List ℕ)) → IsPlain 1 (text_or_hex bytes o)
text_at bytes (Some text) = record { floatless = refl; flat = omega arith }
text_at bytes None = record { floatless = refl; flat = omega arith }

deeper : (n m : ℕ) (d : Data) → n ≤ m → IsPlain n d → IsPlain m d
deeper n m d le p = record { floatless = p.floatless; flat = omega (arith, le, p.flat) }

text_plain : (n : ℕ) (bytes : List ℕ) → 1 ≤ n → IsPlain n (text_json bytes)
text_plain n bytes le = deeper 1 n (text_json bytes) le (text_at bytes (utf8_text bytes))

text3 : (bytes : List ℕ) → IsPlain 3 (text_json bytes)
text3 bytes = text_plain 3 bytes (omega arith)

null1 : (o : Option (List ℕ)) → IsPlain 1 (text_or_null o)
null1 None = record { floatless = refl; flat = omega arith }
null1 (Some bytes) = text_plain 1 bytes (omega arith)

null3 : (o : Option (List ℕ)) → IsPlain 3 (text_or_null o)
null3 o = deeper 1 3 (text_or_null o) (omega arith) (null1 o)

word1 : (o : Option (List ℕ)) → IsPlain 1 (word_or_null o)
word1 None = record { floatless = refl; flat = omega arith }
word1 (Some word) = record { floatless = refl; flat = omega arith }

count1 : (n : ℕ) → IsPlain 1 (count_json n)
count1 n = record { floatless = refl; flat = omega arith }

signed1 : (z : ℤ) → IsPlain 1 (signed_json z)
signed1 (pos n) = record { floatless = refl; flat = omega arith }
signed1 (negsuc n) = record { floatless = refl; flat = omega arith }

signed3 : (z : ℤ) → IsPlain 3 (signed_json z)
signed3 z = deeper 1 3 (signed_json z) (omega arith) (signed1 z)

word_plain : (word : List ℕ) → IsPlain 3 (string word)
word_plain word = record { floatless = refl; flat = omega arith }

flag_plain : (b : Bool) → IsPlain 3 (boolean b)
flag_plain b = record { floatless = refl; flat = omega arith }

count3 : (n : ℕ) → IsPlain 3 (count_json n)
count3 n = record { floatless = refl; flat = omega arith }

hex3 : (bytes : List ℕ) → IsPlain 3 (hex_json bytes)
hex3 bytes = record { floatless = refl; flat = omega arith }

hidden3 : IsPlain 3 hidden_json
hidden3 = record { floatless = refl; flat = omega arith }

hide3 : (hidden : Bool) (bytes : List ℕ) → IsPlain 3 (shown_or_hidden hidden bytes)
hide3 true bytes = hidden3
hide3 false bytes = text3 bytes

-- a list of values that nest no deeper than one level or two
list3 : {A : Type 0} (json : A → Data) (xs : List A) → ((x : A) → IsPlain 1 (json x)) → IsPlain 3 (list_json json xs)
list3 json xs h = deeper 2 3 (list_json json xs) (omega arith) (list_plain 1 json xs h)

column2 : (c : Column) → IsPlain 2 (column_json c)
column2 c =
    object_plain 1 (with_members (type_members c) (with_members (origin_members c) no_members)) (with_plain 1 (type_members c) (with_members (origin_members c) no_members) (count1 c.type_oid, (word1 (type_name c.type_oid), (signed1 c.size, (signed1 c.modifier, (signed1 c.format, tt)))))
    (with_plain 1 (origin_members c) no_members (text_plain 1 c.name (omega arith), (count1 c.table_oid, (signed1 c.attribute, tt))) (none 1)))

field2 : (f : ErrorField) → IsPlain 2 (field_json f)
field2 f = object_plain 1 (with_members ((codes "code", text_json (f.code ∷ [])) ∷ (codes "value", text_json f.value) ∷ []) no_members) (with_plain 1 ((codes "code", text_json (f.code ∷ [])) ∷ (codes "value", text_json f.value) ∷ []) no_members (text_plain 1 (f.code ∷ []) (omega arith), (text_plain 1 f.value (omega arith), tt)) (none 1))

parameter2 : (p : List ℕ × List ℕ) → IsPlain 2 (parameter_json p)
parameter2 p = object_plain 1 (with_members ((codes "name", text_json p.0) ∷ (codes "value", text_json p.1) ∷ []) no_members) (with_plain 1 ((codes "name", text_json p.0) ∷ (codes "value", text_json p.1) ∷ []) no_members (text_plain 1 p.0 (omega arith), (text_plain 1 p.1 (omega arith), tt)) (none 1))

-- ---- messages

head_plain : (name : List ℕ) (size : ℕ) → ArePlain 3 (head_members name size)
unfolding head_members
head_plain name size = with_plain 3 ((codes "name", string name) ∷ (codes "length", count_json size) ∷ []) no_members (word_plain name, (count3 size, tt)) (none 3)

message_plain : (name : List ℕ) (size : ℕ) (fs : List Member) → AllPlain 3 fs → IsPlain 4 (message_json name size fs)
message_plain name size fs h = object_plain 3 (with_members fs (head_members name size)) (with_plain 3 fs (head_members name size) h (head_plain name size))

more_at : (a b : Bool) (rest : List ℕ) → AllPlain 3 (if a then [] else if b then (codes "mechanisms", text_json rest) ∷ [] else (codes "data", hidden_json) ∷ [])
more_at true b rest = tt
more_at false true rest = (text3 rest, tt)
more_at false false rest = (hidden3, tt)

more_plain : (code : ℤ) (rest : List ℕ) → AllPlain 3 (request_more code rest)
more_plain code rest = more_at _ _ rest

error_plain : (fields : List ErrorField) → AllPlain 3 (error_members fields)
error_plain fields = (null3 _, (null3 _, (null3 _, (list_plain 2 field_json fields field2, tt))))

back_plain : (m : BackMessage) → AllPlain 3 (back_members m)
back_plain back.AuthOk = tt
back_plain back.AuthCleartext = tt
back_plain (back.AuthMd5 salt) = (hex3 salt, tt)
back_plain (back.AuthOther code rest) = (signed3 code, more_plain code rest)
back_plain (back.KeyData process secret) = (signed3 process, (hidden3, tt))
back_plain (back.ParameterStatus name value) = (text3 name, (text3 value, tt))
back_plain (back.Ready status) = (word_plain _, tt)
back_plain (back.RowDescription columns) = (list_plain 2 column_json columns column2, tt)
back_plain (back.DataRow values) = (list3 text_or_null values null1, tt)
back_plain (back.CommandComplete tag) = (text3 tag, tt)
back_plain back.EmptyQuery = tt
back_plain back.ParseComplete = tt
back_plain back.BindComplete = tt
back_plain back.CloseComplete = tt
back_plain back.NoData = tt
back_plain back.PortalSuspended = tt
back_plain (back.ParameterDescription types) = (list3 count_json types count1, tt)
back_plain (back.ErrorResponse fields) = error_plain fields
back_plain (back.NoticeResponse fields) = error_plain fields
back_plain (back.Notification process channel payload) = (signed3 process, (text3 channel, (text3 payload, tt)))
back_plain (back.CopyIn head) = (flag_plain head.binary, (list3 signed_json head.formats signed1, tt))
back_plain (back.CopyOut head) = (flag_plain head.binary, (list3 signed_json head.formats signed1, tt))
back_plain (back.CopyData bytes) = (text3 bytes, tt)
back_plain back.CopyDone = tt

front_plain : (m : FrontMessage) → AllPlain 3 (front_members m)
front_plain (front.Query text) = (text3 text, tt)
front_plain (front.Parse name text types) = (text3 name, (text3 text, (list3 count_json types count1, tt)))
front_plain (front.Bind portal statement formats values result_formats) = (text3 portal, (text3 statement, (list3 signed_json formats signed1, (list3 text_or_null values null1, (list3 signed_json result_formats signed1, tt)))))
front_plain (front.Describe target name) = (text3 name, tt)
front_plain (front.Close target name) = (text3 name, tt)
front_plain (front.Execute portal max_rows) = (text3 portal, (signed3 max_rows, tt))
front_plain front.Sync = tt
front_plain front.Flush = tt
front_plain front.Terminate = tt
front_plain (front.CopyData bytes) = (text3 bytes, tt)
front_plain front.CopyDone = tt
front_plain (front.CopyFail reason) = (text3 reason, tt)
front_plain (front.Password password) = (hidden3, tt)

packet_plain : (p : First) → AllPlain 3 (packet_members p)
packet_plain (first.Startup parameters) = (list_plain 2 parameter_json parameters parameter2, tt)
packet_plain (first.Cancel process secret) = (signed3 process, (hidden3, tt))
packet_plain first.Ssl = tt
packet_plain first.Gss = tt

other_plain : (tag : ℕ) (hidden : Bool) (bytes : List ℕ) → AllPlain 3 (other_members tag hidden bytes)
other_plain tag hidden bytes = (flag_plain false, (text3 (tag ∷ []), (hide3 hidden bytes, tt)))

other_packet_plain : (c : ℕ) (hidden : Bool) (bytes : List ℕ) → AllPlain 3 (other_packet_members c hidden bytes)
other_packet_plain c hidden bytes = (flag_plain false, (count3 c, (hide3 hidden bytes, tt)))

-- ---- frames

read_plain : {M : Type 0} (json : M → Data) (other : Data) → ((m : M) → IsPlain 4 (json m)) → IsPlain 4 other → (o : Option M) → IsPlain 4 (json_or json other o)
read_plain json other h p (Some m) = h m
read_plain json other h p None = p

back_frame : (bytes : List ℕ) (d : Data) → IsBackJson bytes d → IsPlain 4 d
back_frame bytes d is = subst (IsPlain 4) (sym is.2) (read_plain (back_json (length bytes - 1)) (other_back bytes) (λ m. message_plain (back_called m) (length bytes - 1) (back_members m) (back_plain m)) (message_plain (back_name (slice_index bytes 0)) (length bytes - 1) (other_members (slice_index bytes 0) (slice_index bytes 0 == 75 || slice_index bytes 0 == 82) (drop 5 bytes)) (other_plain (slice_index bytes 0) (slice_index bytes 0 == 75 || slice_index bytes 0 == 82) (drop 5 bytes))) is.0)

front_frame : (bytes : List ℕ) (d : Data) → IsFrontJson bytes d → IsPlain 4 d
front_frame bytes d is = subst (IsPlain 4) (sym is.2) (read_plain (front_json (length bytes - 1)) (other_front bytes) (λ m. message_plain (front_called m) (length bytes - 1) (front_members m) (front_plain m)) (message_plain (front_name (slice_index bytes 0) (drop 5 bytes)) (length bytes - 1) (other_members (slice_index bytes 0) (slice_index bytes 0 == 112) (drop 5 bytes)) (other_plain (slice_index bytes 0) (slice_index bytes 0 == 112) (drop 5 bytes))) is.0)

packet_frame : (bytes : List ℕ) (d : Data) → IsPacketJson bytes d → IsPlain 4 d
packet_frame bytes d is = subst (IsPlain 4) (sym is.2) (read_plain (packet_json (length bytes)) (other_packet bytes) (λ p. message_plain (packet_called p) (length bytes) (packet_members p) (packet_plain p)) (message_plain (packet_name (code bytes)) (length bytes) (other_packet_members (code bytes) (code bytes == 80877102) (drop 8 bytes)) (other_packet_plain (code bytes) (code bytes == 80877102) (drop 8 bytes))) is.0)

-- the object of a frame
pub plain : (side : Bool) (kind : NextFrame) (bytes : List ℕ) (d : Data) → IsJsonOf side kind bytes d → IsPlain 4 d
plain side next.Packet bytes d is = packet_frame bytes d is
plain true next.Message bytes d is = front_frame bytes d is
plain false next.Message bytes d is = back_frame bytes d is
plain true next.Nothing bytes d is = front_frame bytes d is
plain false next.Nothing bytes d is = back_frame bytes d is
