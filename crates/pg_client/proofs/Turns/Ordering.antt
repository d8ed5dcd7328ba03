-- What happened has the calls and the messages that were heard.
use Rattle.std.proofs.Common.{◌≡◌, ℕ, ◌+◌, List, [], ◌∷◌, ◌++◌, length, map, refl, ap, ◌∙◌, arith}
use Rattle.std.proofs.lemmas.List.{append-nil, map-append}
use Rattle.std.proofs.lemmas.List.Elements.{filter_map-append}
use Rattle.pg_wire.specs.message.BackMessage.{BackMessage}
use Rattle.pg_wire.specs.message.FrontMessage.{FrontMessage}
use Rattle.pg_wire.specs.declared.session.Request.{Request}
use Rattle.pg_wire.specs.Backend.{backend}
use Rattle.pg_wire.specs.Direction.{spelling}
use Rattle.pg_client.specs.declared.call.Call.{Call}
use Rattle.pg_client.specs.declared.call.Call.TheVariants as call
use Rattle.pg_client.specs.Session.{Happening, Did, Came, messages_in, requests_in}
use Rattle.pg_client.specs.Client.{made_before, made_since, merged, with_ends, happenings, History}
use Rattle.pg_wire.specs.Turns.{Turn}
use Rattle.pg_client.specs.Turns.{copies_of, turns_of, call_of, calls_in}
use Rattle.pg_client.specs.Answering.{calls_of, turns_with, KeepsOrder}

pub messages_in-append : (hs more : List Happening) → messages_in (hs ++ more) ≡ messages_in hs ++ messages_in more
messages_in-append [] more = refl
messages_in-append (Did c ∷ hs) more = messages_in-append hs more
messages_in-append (Came m ∷ hs) more = ap (λ (ms : List BackMessage). m ∷ ms) (messages_in-append hs more)

pub calls_in-append : (hs more : List Happening) → calls_in (hs ++ more) ≡ calls_in hs ++ calls_in more
calls_in-append hs more = filter_map-append call_of hs more

-- ---- the calls

calls_cut : (end : ℕ) (cs : List (Call × ℕ)) → calls_in (made_before end cs) ++ calls_of (made_since end cs) ≡ calls_of cs
calls_cut end [] = refl
calls_cut end (c ∷ cs) = grind (arith, calls_cut end cs)

calls_alone : (cs : List (Call × ℕ)) → calls_in (map (λ c. Did c.0) cs) ≡ calls_of cs
calls_alone [] = refl
calls_alone (c ∷ cs) = ap (λ (xs : List Call). c.0 ∷ xs) (calls_alone cs)

calls_are : (cs : List (Call × ℕ)) (ms : List (BackMessage × ℕ)) → calls_in (merged cs ms) ≡ calls_of cs
calls_are cs [] = calls_alone cs
calls_are cs (m ∷ ms) = rw (calls_in-append (made_before m.1 cs) (Came m.0 ∷ merged (made_since m.1 cs) ms), calls_are (made_since m.1 cs) ms) (calls_cut m.1 cs)

-- ---- the messages

no_message : (end : ℕ) (cs : List (Call × ℕ)) → messages_in (made_before end cs) ≡ []
no_message end [] = refl
no_message end (c ∷ cs) = grind (arith, no_message end cs)

none_alone : (cs : List (Call × ℕ)) → messages_in (map (λ c. Did c.0) cs) ≡ []
none_alone [] = refl
none_alone (c ∷ cs) = none_alone cs

messages_are : (cs : List (Call × ℕ)) (ms : List (BackMessage × ℕ)) → messages_in (merged cs ms) ≡ map (λ m. m.0) ms
messages_are cs [] = none_alone cs
messages_are cs (m ∷ ms) = rw (messages_in-append (made_before m.1 cs) (Came m.0 ∷ merged (made_since m.1 cs) ms), no_message m.1 cs, messages_are (made_since m.1 cs) ms) refl

without_ends : (at : ℕ) (ms : List BackMessage) → map (λ m. m.0) (with_ends at ms) ≡ ms
without_ends at [] = refl
without_ends at (m ∷ ms) = ap (λ (xs : List BackMessage). m ∷ xs) (without_ends (at + length (spelling backend m)) ms)

-- ---- requests, and what is sent

pub requests_of_calls : (hs : List Happening) → requests_in hs ≡ map (λ t. t.request) (turns_of (calls_in hs))
requests_of_calls [] = refl
requests_of_calls (Did (call.Request r) ∷ hs) = ap (λ (rs : List Request). r ∷ rs) (requests_of_calls hs)
requests_of_calls (Did _ ∷ hs) = requests_of_calls hs
requests_of_calls (Came m ∷ hs) = requests_of_calls hs

-- ---- one call more

-- where no request is among them, what is called goes on with the copies of the one before
copies_more : (cs : List Call) (c : Call) → turns_of cs ≡ [] → copies_of (cs ++ c ∷ []) ≡ copies_of cs ++ copies_of (c ∷ [])
copies_more [] c e = refl
copies_more (call.Request r ∷ cs) c e = absurd cc
copies_more (call.Start ∷ cs) c e = copies_more cs c e
copies_more (call.Terminate ∷ cs) c e = copies_more cs c e
copies_more (d ∷ cs) c e = ap (λ (ms : List FrontMessage). copies_of (d ∷ []) ++ ms) (copies_more cs c e)

copies_same : (cs : List Call) (c : Call) (t : Turn) (ts : List Turn) → turns_of cs ≡ t ∷ ts → copies_of (cs ++ c ∷ []) ≡ copies_of cs
copies_same [] c t ts e = absurd cc
copies_same (call.Request r ∷ cs) c t ts e = refl
copies_same (call.Start ∷ cs) c t ts e = copies_same cs c t ts e
copies_same (call.Terminate ∷ cs) c t ts e = copies_same cs c t ts e
copies_same (d ∷ cs) c t ts e = ap (λ (ms : List FrontMessage). copies_of (d ∷ []) ++ ms) (copies_same cs c t ts e)

turn : Request → List FrontMessage → Turn
turn r copies = record { request = r; copies = copies }

first_turn : (r : Request) (copies : List FrontMessage) (c : Call) → turn r (copies ++ copies_of (c ∷ [])) ∷ turns_with [] c ≡ turns_with (turn r copies ∷ []) c
unfolding turn
first_turn r copies (call.Request q) = ap (λ (ms : List FrontMessage). turn r ms ∷ turn q [] ∷ []) (append-nil copies)
first_turn r copies call.Start = ap (λ (ms : List FrontMessage). turn r ms ∷ []) (append-nil copies)
first_turn r copies call.Terminate = ap (λ (ms : List FrontMessage). turn r ms ∷ []) (append-nil copies)
first_turn r copies _ = refl

later_turn : (s t : Turn) (ts : List Turn) (c : Call) → s ∷ turns_with (t ∷ ts) c ≡ turns_with (s ∷ t ∷ ts) c
later_turn s t ts c = grind arith

no_turn : (c : Call) → turns_of (c ∷ []) ≡ turns_with [] c
no_turn c = grind arith

pub turns_more : (cs : List Call) (c : Call) → turns_of (cs ++ c ∷ []) ≡ turns_with (turns_of cs) c
unfolding turn
turns_more [] c = no_turn c
turns_more (call.Request r ∷ cs) c = by (turns_of cs) refl (turns_more cs c)
  where
    by : (ts : List Turn) → turns_of cs ≡ ts → turns_of (cs ++ c ∷ []) ≡ turns_with (turns_of cs) c → turn r (copies_of (cs ++ c ∷ [])) ∷ turns_of (cs ++ c ∷ []) ≡ turns_with (turn r (copies_of cs) ∷ turns_of cs) c
    by [] e ih = rw (copies_more cs c e, ih, e) (first_turn r (copies_of cs) c)
    by (t ∷ ts) e ih = rw (copies_same cs c t ts e, ih, e) (later_turn (turn r (copies_of cs)) t ts c)
turns_more (_ ∷ cs) c = turns_more cs c

pub keeps_order : {G : Type 0} → (h : History G) → KeepsOrder h
keeps_order h = record {
  calls = calls_are h.calls (with_ends 0 h.heard);
  messages = messages_are h.calls (with_ends 0 h.heard) ∙ without_ends 0 h.heard;
  requests = requests_of_calls (happenings h) ∙ ap (λ (cs : List Call). map (λ t. t.request) (turns_of cs)) (calls_are h.calls (with_ends 0 h.heard));
}

pub one_more : (cs : List (Call × ℕ)) (c : Call) (place : ℕ) → turns_of (calls_of (cs ++ (c, place) ∷ [])) ≡ turns_with (turns_of (calls_of cs)) c
one_more cs c place = ap turns_of (map-append (λ (x : Call × ℕ). x.0) cs ((c, place) ∷ [])) ∙ turns_more (calls_of cs) c
