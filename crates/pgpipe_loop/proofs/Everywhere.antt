-- A loop that is run again for each byte.
use Rattle.std.proofs.Common.{◌≡◌, ◌<◌, ◌+◌, ℕ, zero, suc, Bool, false, IfOk, lit≤, List, [], ◌∷◌, ◌++◌, length, take, map, get_or, Option, Result, Ok, Err, refl, sym, ap, subst, ◌∙◌, arith}
use Rattle.std.proofs.lemmas.List.{append-nil, take_more}
use Rattle.std.specs.List.{FoldsTo, concat}
use mathlib.Core.List.{IsPrefix}
use Rattle.pg_wire.specs.Link.{HasRisen}
use Rattle.pg_wire.specs.Direction.{IsLimit}
use Rattle.pg_client.specs.declared.settings.Settings.{Settings}
use Rattle.pg_copy.specs.Row.{Row}
use Rattle.pg_pair.specs.Carrying.{Carrying}
use Rattle.pg_pair.specs.View.{PairView}
use Rattle.pg_backend.specs.declared.script.Script.{Script}
use Rattle.pg_backend.specs.Check.{IsChecked}
use Rattle.pgpipe_base.specs.declared.fault.ToolFault.{ToolFault}
use Rattle.pgpipe_base.specs.declared.fault.ToolFault.TheVariants as fault
use Rattle.pgpipe_base.specs.Receiving.{CountsNoFailure}
use Rattle.pgpipe_files.specs.declared.calls_file.Calls.{Calls}
use Rattle.pgpipe_files.specs.Filling.{filled}
use Rattle.pgpipe_loop.specs.declared.run_loop.everywhere.LoopFiles.{LoopFiles}
use Rattle.pgpipe_loop.specs.declared.run_loop.places.Broken.{Broken}
use Rattle.pgpipe_loop.specs.declared.run_loop.places.Place.{Place}
use Rattle.pgpipe_loop.specs.Everywhere.{FillsIn, nothing, one_more, Says, IsPlayable, IsLeftAt, AreBroken, in_one_more, IsBrokenEverywhere, broken_text, first_unseen, BreaksAnswer}
use Rattle.pgpipe_loop.specs.RunLoop.{PlannedEvent, Happened}
use Rattle.pgpipe_loop.specs.Private.Running.{Taking, at, DoesAll, HasDone, SendsLines}
use Rattle.pgpipe_loop.proofs.LoopEnds.{stands_first}

-- ---- what the files say

pub keeps_settings : (read calls : Calls) (named : List (List ℕ)) → FillsIn read named calls → calls.settings ≡ read.settings
keeps_settings read _ _ nothing = refl
keeps_settings read _ _ (one_more named calls bytes before) = keeps_settings read calls named before

-- one file more
pub fills_more : (read calls new : Calls) (named : List (List ℕ)) (i : ℕ) (bytes : List ℕ) → i < length named → bytes ≡ get_or named i bytes
    → FillsIn read (take i named) calls → new ≡ filled bytes calls → FillsIn read (take (i + 1) named) new
fills_more read calls new named i bytes lt is before e =
    let taken : take (i + 1) named ≡ take i named ++ bytes ∷ [] = take_more named i bytes lt ∙ ap (λ (b : List ℕ). take i named ++ b ∷ []) (sym is) in
    subst (λ (c : Calls). FillsIn read (take (i + 1) named) c) (sym e)
    (subst (λ (bs : List (List ℕ)). FillsIn read bs (filled bytes calls)) (sym taken) (one_more (take i named) calls bytes before))

ok_is : {A E : Type 0} (x y : A) → ◌≡◌ {A = Result A E} (Ok x) (Ok y) → x ≡ y
ok_is x y e = cc

-- the script that the files say is the one that was checked
pub checked : (files : LoopFiles) (script : Script) (calls : Calls) → IsPlayable files → Says files script calls → IsChecked script
checked files script calls p s = subst IsChecked (ok_is p.script script (sym p.says.script_is ∙ s.script_is)) p.checked

-- its client's limit is one that a client can have
pub limit_is : (files : LoopFiles) (script : Script) (calls : Calls) → Says files script calls → IsLimit calls.settings.limit
limit_is files script calls s = subst IsLimit (sym (ap (λ (t : Settings). t.limit) (keeps_settings s.read calls files.named s.fills_in) ∙ s.limit)) (lit≤ tt, lit≤ tt)

-- ---- the runs

-- all lines were done
pub all_done : {C K : Type 0} (carries : Carrying C) (takes : Taking K) (failures : K → ℕ) (start k : K) (begun p : PairView C) (failed : Bool) (all : List PlannedEvent)
    → DoesAll {A = Unit {0}} carries false takes failures all (at begun false start) (Ok tt) (at p failed k) → (rows : List Row) × Happened carries false begun all p [] rows failed
all_done carries takes failures start k begun p failed all d =
    let done = d start begun all [] (subst (HasDone carries false takes failures start begun all (at begun false start)) (sym (append-nil all)) (stands_first carries false takes failures start begun all)) in
    (done.rows, done.happened)

pub if_ok : {A E : Type 0} (P Q : A → Type 0) (r : Result A E) → IfOk r P → ((x : A) → P x → Q x) → IfOk r Q
if_ok P Q (Ok x) h f = f x h
if_ok P Q (Err e) h f = h

-- ---- the places

-- one place more
pub broken_more : (cut : ℕ) (files : LoopFiles) (places : List Place) (all new : List Broken) (i : ℕ) (place d : Place) (broken : Broken) → i < length places → place ≡ get_or places i d
    → AreBroken cut files (take i places) all → IsLeftAt cut files place broken → new ≡ all ++ broken ∷ [] → AreBroken cut files (take (i + 1) places) new
broken_more cut files places all new i place d broken lt is before left e =
    let taken : take (i + 1) places ≡ take i places ++ place ∷ [] = take_more places i d lt ∙ ap (λ (p : Place). take i places ++ p ∷ []) (sym is) in
    subst (λ (bs : List Broken). AreBroken cut files (take (i + 1) places) bs) (sym e)
    (subst (λ (ps : List Place). AreBroken cut files ps (all ++ broken ∷ [])) (sym taken) (in_one_more (take i places) all place broken before left))

-- ---- what is seen

module _ {X Y Z : Type 0} (f : X → Z) (g : Y → Z) where
  first_is : (z w : Z) (zs ws : List Z) → (z ∷ zs) ≡ (w ∷ ws) → z ≡ w
  first_is z w zs ws e = cc

  rest_is : (z w : Z) (zs ws : List Z) → (z ∷ zs) ≡ (w ∷ ws) → zs ≡ ws
  rest_is z w zs ws e = cc

  -- where one list is the beginning of another, their elements are the same in each place
  pub same_at : (xs : List X) (ys : List Y) (i : ℕ) (x d : X) (y : Y) → map f xs ≡ take (length xs) (map g ys) → i < length xs → x ≡ get_or xs i d → y ≡ get_or ys i y → f x ≡ g y
  same_at [] ys i x d y h lt is there = absurd (omega arith)
  same_at (a ∷ xs) [] i x d y h lt is there = absurd cc
  same_at (a ∷ xs) (b ∷ ys) zero x d y h lt is there = ap f is ∙ first_is (f a) (g b) (map f xs) (take (length xs) (map g ys)) h ∙ ap g (sym there)
  same_at (a ∷ xs) (b ∷ ys) (suc i) x d y h lt is there = same_at xs ys i x d y (rest_is (f a) (g b) (map f xs) (take (length xs) (map g ys)) h) (omega arith) is there

-- ---- what is sent

module _ {K : Type 0} (takes : Taking K) (failures : K → ℕ) (cut : ℕ) (files : LoopFiles) where
  -- what was sent, and the answer for it
  abbrev pub Tells : K → Result (Option Place) ToolFault → K → Type 0
  Tells start result k = (sent : List (List ℕ)) × FoldsTo takes start sent k × BreaksAnswer (HasRisen (failures start) (failures k)) cut files (concat sent) result

  pub tells_nothing : (start : K) → Tells start (Err fault.Memory) start
  tells_nothing start = ([], refl, refl)

  pub tells_all : (start k : K) (all : List Broken) (text : List ℕ) (unseen : Option Place) → IsBrokenEverywhere cut files all → text ≡ broken_text all → unseen ≡ first_unseen all
      → SendsLines takes failures start text (Ok tt) k → Tells start (Ok unseen) k
  tells_all start k all text unseen broken is first p = (p.pieces, p.calls, (all, broken, sym (p.sent ∙ append-nil (concat p.pieces)) ∙ is, first))

  pub tells_part : (start k : K) (all : List Broken) (text : List ℕ) (f : ToolFault) → IsBrokenEverywhere cut files all → text ≡ broken_text all
      → SendsLines takes failures start text (Err f) k → Tells start (Err f) k
  tells_part start k all text fault.Memory broken is p = absurd p
  tells_part start k all text fault.Device broken is p = (p.1.pieces, p.1.calls, (p.1.counted, (all, broken, subst (IsPrefix (concat p.1.pieces)) is p.1.sent)))

  pub counts_part : (start k : K) (text : List ℕ) (f : ToolFault) → SendsLines takes failures start text (Err f) k → CountsNoFailure {A = Option Place} (failures start) (Err f) (failures k)
  counts_part start k text fault.Memory p = absurd p
  counts_part start k text fault.Device p = tt
