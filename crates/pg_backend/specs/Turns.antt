-- What a client sends that takes turns ("Message Flow"): a request and what it sends for that
-- request's copies, and the next request once this one is decided.
use Rattle.std.specs.Prelude.{ℕ, ◌≡◌, Bool, true, false, IsSome, List, [], ◌∷◌, Option, Some, None, length, map, take}
use Rattle.std.specs.List.{list_any}
use Rattle.pg_wire.specs.message.FrontMessage.{FrontMessage}
use Rattle.pg_wire.specs.declared.session.Part.{Part}
use Rattle.pg_wire.specs.declared.session.Part.TheVariants as whole
use Rattle.pg_wire.specs.Turns.{Turn, AreCopies}
use Rattle.pg_backend.specs.declared.script.Answer.{Answer}
use Rattle.pg_backend.specs.declared.script.Logged.{Logged}
use Rattle.pg_backend.specs.Fitting.{answer_for, others}
use Rattle.pg_backend.specs.Meaning.{in_copy}
use Rattle.pg_backend.specs.Replies.{Verdict, verdict}
use Rattle.pg_backend.specs.Session.{Exchange, exchange, Place, Between, copy_place}

-- The client takes turns: after each request it sends copy messages alone, and these decide the
-- request before it makes the next one.
abbrev pub InTurn : List Answer → List Turn → Type 0
InTurn answers [] = Unit {0}
InTurn answers (t ∷ []) = AreCopies t.copies
InTurn answers (t ∷ u ∷ ts) = AreCopies t.copies
    × IsSome (verdict (answer_for answers t.request) t.copies)
    × InTurn (others answers) (u ∷ ts)

-- the exchange of each turn's request, by its own copy messages and no later ones
abbrev pub turn_exchanges : List Answer → List Turn → List Exchange
turn_exchanges answers [] = []
turn_exchanges answers (t ∷ ts) =
    exchange t.request (answer_for answers t.request) t.copies ∷ turn_exchanges (others answers) ts

-- where a turn's messages end: between requests, once its request is decided (Some), and else in
-- its copy
abbrev pub one_place : Option Verdict → List FrontMessage → Place
one_place None ms = copy_place (map in_copy ms)
one_place (Some v) ms = Between

-- where the messages of these turns end: as those of the last one, or between requests without any
abbrev pub turn_place : List Answer → List Turn → Place
turn_place answers [] = Between
turn_place answers (t ∷ []) = one_place (verdict (answer_for answers t.request) t.copies) t.copies
turn_place answers (t ∷ u ∷ ts) = turn_place (others answers) (u ∷ ts)

-- ---- the data of copies

-- whether this part of an outcome is a copy from the client, which is always one that was accepted
abbrev pub is_copied_in : Part → Bool
is_copied_in (whole.CopyIn head tag) = true
is_copied_in p = false

-- Of one request: the chunks that the backend took are a prefix of those that the client handed
-- over, and all of them where its outcome has a copy from the client.
pub record Took (l : Logged) (handed : List (List ℕ)) : Type 0 where
  pub first : l.loaded ≡ take (length l.loaded) handed
  pub all : list_any is_copied_in l.outcome.parts ≡ true → l.loaded ≡ handed

-- Took holds of entry k of the log and list k of `handed`, for each entry. `handed` may have more
-- lists.
abbrev pub TookEach : List Logged → List (List (List ℕ)) → Type 0
TookEach [] handed = Unit {0}
TookEach (l ∷ ls) [] = ⊥
TookEach (l ∷ ls) (h ∷ hs) = Took l h × TookEach ls hs
