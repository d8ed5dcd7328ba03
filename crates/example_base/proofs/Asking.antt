-- What `connect` and `ask` come to, by what driving the client comes to.
use Rattle.std.proofs.Common.{◌≡◌, ℕ, List, [], ◌∷◌, Option, Some, None, Result, Ok, Err, inl, inr, refl, sym, ap, subst, ◌∙◌}
use Rattle.std.specs.Prelude.{◌≢◌, IfOk, OnOk}
use Rattle.std.specs.List.{concat}
use Rattle.pg_wire.specs.declared.session.Request.{Request}
use Rattle.pg_client.specs.declared.call.Call.TheVariants as call
use Rattle.pg_client.specs.declared.phase.Cause.{Cause}
use Rattle.pg_client.specs.declared.phase.Phase.{Phase}
use Rattle.pg_client.specs.declared.phase.Phase.TheVariants as phase
use Rattle.pg_client.specs.declared.settled.Settled.{Settled}
use Rattle.pg_client.specs.Client.{Accepts, History, IsHistoryOf, with_call, IsLost}
use Rattle.pg_client.specs.View.{ClientView, groups_waiting, IsOpenPhase, phase_of, phase_with}
use Rattle.pg_client.specs.Keeping.{collecting}
use Rattle.pg_client.proofs.Histories.Unread.{carried}
use Rattle.pg_drive.specs.declared.answer.DriveFault.{DriveFault}
use Rattle.pg_drive.specs.declared.answer.Driven.{Driven}
use Rattle.pg_drive.specs.declared.answer.Driven.TheVariants as driven
use Rattle.pg_drive.specs.declared.event.GroupEvent.{GroupEvent}
use Rattle.pg_drive.specs.declared.event.GroupEvent.TheVariants as event
use Rattle.pg_drive.specs.declared.event.SessionFault.{SessionFault}
use Rattle.pg_drive.specs.declared.event.SessionFault.TheVariants as session
use Rattle.pg_drive.specs.Carried.{IsDrivenOn, IsLeftDriven, pieces_fed}
use Rattle.pg_drive.specs.Drive.{Answers, LinkedClient, Drives, TakesTurns, TurnsOn, client_kind, connected}
use Rattle.pg_drive.specs.Group.{GivesGroup, GroupStarts, GroupTells, TakesGroup, group_start_told}
use Rattle.pg_drive.specs.Session.{Begins, Tells, TellsCame}
use Rattle.example_base.specs.declared.driver.AskFault.{AskFault}
use Rattle.example_base.specs.declared.driver.AskFault.TheVariants as fault
use Rattle.example_base.specs.Driver.{AwaitsRequest, MakesRequest, OnCopyIn, next_result}
use Rattle.example_base.proofs.OwnGroup.{Laws, own_group}

-- a client in a phase between the start and the close is open
open_between : (client : ClientView) (p : Phase) → phase_of client ≡ p → IsOpenPhase p → client.closed ≡ None
open_between client p e between = by client.closed refl e
  where
    by : (o : Option Cause) → client.closed ≡ o → phase_with o client.known.stand ≡ p → client.closed ≡ None
    by None is k = is
    by (Some c) is k = absurd (subst IsOpenPhase (sym k) between)

-- ---- what driving came to

-- where `start` succeeds
ready_by : (came : Result Driven DriveFault) (client new : ClientView) (x : Unit {0}) → TellsCame group_start_told (IsLost collecting) came client (Ok x) new → (came ≡ Ok driven.Ready) × (new ≡ client)
ready_by (Ok driven.Settled) client new x t = absurd (let e : Ok x ≡ Err session.PiecesUsed = t.0 in cc)
ready_by (Ok driven.Ready) client new x t = (refl, t.1)
ready_by (Ok driven.CopyIn) client new x t = absurd (let e : Ok x ≡ Err session.PiecesUsed = t.0 in cc)
ready_by (Ok driven.TurnsUsed) client new x t = absurd (let e : Ok x ≡ Err session.PiecesUsed = t.0 in cc)
ready_by (Ok (driven.Lost loss)) client new x t = absurd (let e : Ok x ≡ Err (session.Lost loss) = t.0 in cc)
ready_by (Err f) client new x t = absurd (let e = t.1 in cc)

abbrev driven_to : GroupEvent → Driven
driven_to (event.Settled group) = driven.Settled
driven_to event.CopyIn = driven.CopyIn

-- where `next` gives an event
event_by : (came : Result Driven DriveFault) (client new : ClientView) (e : GroupEvent) → (came ≡ Ok driven.Settled → groups_waiting client ≢ []) → GroupTells came client (Ok e) new → came ≡ Ok (driven_to e)
event_by (Ok driven.Settled) client new e some t =
    let taken : TakesGroup client (Ok e) new = t (some refl) in
    let is : e ≡ event.Settled taken.group = (let k = taken.is_group in cc) in
    ap (λ (d : GroupEvent). Ok (driven_to d)) (sym is)
event_by (Ok driven.Ready) client new e some t = absurd (let k = t.0 in cc)
event_by (Ok driven.CopyIn) client new e some t =
    let is : e ≡ event.CopyIn = (let k = t.0 in cc) in
    ap (λ (d : GroupEvent). Ok (driven_to d)) (sym is)
event_by (Ok driven.TurnsUsed) client new e some t = absurd (let k = t.0 in cc)
event_by (Ok (driven.Lost loss)) client new e some t = absurd (let k = t.0 in cc)
event_by (Err f) client new e some t = absurd (let k = t.1 in cc)

-- ---- a session

module _ {L : Type 0} (gives takes : L → List ℕ → L → Type 0) (has_ended : L → Type 0) (receive_failures send_failures : L → ℕ) where
  abbrev Driving : ℕ → LinkedClient L → Result Driven DriveFault → LinkedClient L → Type 0
  Driving = Drives gives takes has_ended receive_failures send_failures

  abbrev Making : ℕ → Request → LinkedClient L → Result Settled AskFault → LinkedClient L → Type 0
  Making = MakesRequest gives takes has_ended receive_failures send_failures

  -- what the law driving_goes_on says
  abbrev pub GoesOn : Type 0
  GoesOn = (turns : ℕ) (old : LinkedClient L) (result : Result Driven DriveFault) (new : LinkedClient L) (h : History Settled) → IsHistoryOf collecting h old.client → old.client.closed ≡ None → (did : Driving turns old result new)
      → IsDrivenOn h (concat (pieces_fed gives takes has_ended receive_failures send_failures turns old result new did)) new.client

  abbrev pub Leaves : Type 0
  Leaves = (turns : ℕ) (old : LinkedClient L) (result : Result Driven DriveFault) (new : LinkedClient L) (h : History Settled) → IsHistoryOf collecting h old.client → old.client.closed ≡ None → Driving turns old result new → IsLeftDriven result new.client.closed

  -- something was answered in a turn
  turned : (most : ℕ) (old : LinkedClient L) (answer : Driven) (new : LinkedClient L) → Driving most old (Ok answer) new
      → TakesTurns client_kind gives takes has_ended receive_failures send_failures (TurnsOn gives takes has_ended receive_failures send_failures (phase_of old.client)) (Answers gives takes has_ended receive_failures send_failures (phase_of old.client) most) old (Ok answer) new
  turned most old answer new (inl failed) = absurd (let e = failed.is_fault in cc)
  turned most old answer new (inr did) = did

  came_to : (most : ℕ) (old : LinkedClient L) (came : Result Driven DriveFault) (answer : Driven) (new : LinkedClient L) → came ≡ Ok answer → Driving most old came new → Driving most old (Ok answer) new
  came_to most old came answer new is d = subst (λ (c : Result Driven DriveFault). Driving most old c new) is d

  some_by : (most : ℕ) (old : LinkedClient L) (came : Result Driven DriveFault) (new : LinkedClient L) → Driving most old came new → came ≡ Ok driven.Settled → groups_waiting new.client ≢ []
  some_by most old came new d is = (turned most old driven.Settled new (came_to most old came driven.Settled new is d)).answered.1.2

  -- ---- its start

  -- the client that is driven through the startup has a history, and is open
  begun : (h : History Settled) (old client : ClientView) (before after : List ℕ) → IsHistoryOf collecting h old → Begins collecting old client before after → (k : History Settled) × IsHistoryOf collecting k client × (client.closed ≡ None)
  begun h old client before after r (inl b) = (with_call old.settings call.Start h, carried collecting old client (with_call old.settings call.Start) b.2.history h r, open_between client phase.Starting b.1 tt)
  begun h old client before after r (inr b) = (h, subst (λ (v : ClientView). IsHistoryOf collecting h v) (sym b.1) r, open_between client phase.Starting (ap phase_of b.1 ∙ b.0) tt)

  pub starts_ready : GoesOn → (most : ℕ) (old : LinkedClient L) (result : Result Unit SessionFault) (new : LinkedClient L) (h : History Settled) → IsHistoryOf collecting h old.client → GroupStarts gives takes has_ended receive_failures send_failures most old result new → OnOk result (AwaitsRequest new.client)
  starts_ready law most old (Err f) new h r s = tt
  starts_ready law most old (Ok x) new h r (inl refused) = absurd (let e = refused.is_fault in cc)
  starts_ready law most old (Ok x) new h r (inr s) =
      let t = s.tells in
      let first : LinkedClient L = connected old.link s.client s.put in
      let last : LinkedClient L = connected new.link t.client new.out in
      let b = begun h old.client s.client old.out s.put r s.begun in
      let k = law most first t.came last b.0 b.1 b.2 t.driven in
      let is = ready_by t.came t.client new.client x t.tells in
      let seen = (turned most first driven.Ready last (came_to most first t.came driven.Ready last is.0 t.driven)).answered.1.2 in
      subst (λ (v : ClientView). AwaitsRequest v) (sym is.1) (record { history = k.history; is_its_own = k.is_its_own; ready = seen.1.1; none_waits = seen.0 })

  -- ---- a request

  -- no group waits and no copy's data is awaited: the client is driven
  drives_on : (most : ℕ) (old : LinkedClient L) (result : Result GroupEvent SessionFault) (new : LinkedClient L) → groups_waiting old.client ≡ [] → phase_of old.client ≡ phase.Busy → GivesGroup gives takes has_ended receive_failures send_failures most old result new → Tells (Driving most) GroupTells old result new
  drives_on most old result new none busy (inl w) =
      let t : TakesGroup old.client result new.client = w.0 in
      absurd (let e : [] ≡ t.group ∷ groups_waiting new.client = sym none ∙ t.oldest in cc)
  drives_on most old result new none busy (inr (inl w)) = absurd (let e : phase.Busy ≡ phase.CopyingIn = sym busy ∙ w.1 in cc)
  drives_on most old result new none busy (inr (inr w)) = w.2

  told_event : (most : ℕ) (old : LinkedClient L) (e : GroupEvent) (new : LinkedClient L) (t : Tells (Driving most) GroupTells old (Ok e) new) → t.came ≡ Ok (driven_to e)
  told_event most old e new t = event_by t.came t.client new.client e (some_by most old t.came (connected new.link t.client new.out) t.driven) t.tells

  told_taken : (most : ℕ) (old : LinkedClient L) (result : Result Settled AskFault) (new : LinkedClient L) (t : Tells (Driving most) GroupTells old (next_result result) new) → IfOk result (λ (group : Settled). TakesGroup t.client (Ok (event.Settled group)) new.client)
  told_taken most old (Err f) new t = tt
  told_taken most old (Ok group) new t =
      let is : t.came ≡ Ok driven.Settled = told_event most old (event.Settled group) new t in
      let tells : GroupTells (Ok driven.Settled) t.client (Ok (event.Settled group)) new.client = subst (λ (c : Result Driven DriveFault). GroupTells c t.client (Ok (event.Settled group)) new.client) is t.tells in
      tells (some_by most old t.came (connected new.link t.client new.out) t.driven is)

  -- The session that made the request has this link, client and output, and this number of pieces.
  made_so : GoesOn → (most : ℕ) (request : Request) (old : LinkedClient L) (link : L) (client : ClientView) (put : List ℕ) (pieces : ℕ) (told : Result GroupEvent SessionFault) (result : Result Settled AskFault) (new : LinkedClient L)
      → AwaitsRequest old.client → phase_of client ≡ phase.Busy → Accepts collecting (call.Request request) old.client client old.out put → link ≡ old.link → pieces ≡ most → told ≡ next_result result
      → GivesGroup gives takes has_ended receive_failures send_failures pieces (connected link client put) told new → Making most request old result new
  made_so law most request old link client put pieces told result new awaits busy made same_link same_pieces is given =
      let first : LinkedClient L = connected old.link client put in
      let none : groups_waiting client ≡ [] = ap groups_waiting made.others ∙ awaits.none_waits in
      let drives : Tells (Driving pieces) GroupTells (connected link client put) told new = drives_on pieces (connected link client put) told new none busy given in
      let so_many : Tells (Driving most) GroupTells (connected link client put) told new = subst (λ (n : ℕ). Tells (Driving n) GroupTells (connected link client put) told new) same_pieces drives in
      let over : Tells (Driving most) GroupTells first told new = subst (λ (l : L). Tells (Driving most) GroupTells (connected l client put) told new) same_link so_many in
      let t : Tells (Driving most) GroupTells first (next_result result) new = subst (λ (e : Result GroupEvent SessionFault). Tells (Driving most) GroupTells first e new) is over in
      record {
        client = client;
        put = put;
        made = made;
        told = t;
        history = λ h r. law most first t.came (connected new.link t.client new.out) (with_call old.client.settings (call.Request request) h) (carried collecting old.client client (with_call old.client.settings (call.Request request)) made.history h r) (open_between client phase.Busy busy tt) t.driven;
        taken = told_taken most first result new t;
      }

  -- what `ask` promises of the group and of the client
  left_so : Laws → Leaves → (most : ℕ) (request : Request) (old : LinkedClient L) (result : Result Settled AskFault) (new : LinkedClient L) → AwaitsRequest old.client → (m : Making most request old result new) → phase_of m.client ≡ phase.Busy
      → IfOk result (λ (group : Settled). group.request ≡ request) × OnOk result (AwaitsRequest new.client) × OnCopyIn result (phase_of new.client ≡ phase.CopyingIn)
  left_so laws law most request old (Err (fault.Session f)) new awaits m busy = (tt, tt, tt)
  left_so laws law most request old (Err fault.CopyIn) new awaits m busy =
      let t = m.told in
      let first : LinkedClient L = connected old.link m.client m.put in
      let last : LinkedClient L = connected new.link t.client new.out in
      let is : t.came ≡ Ok driven.CopyIn = told_event most first event.CopyIn new t in
      let tells : GroupTells (Ok driven.CopyIn) t.client (Ok event.CopyIn) new.client = subst (λ (c : Result Driven DriveFault). GroupTells c t.client (Ok event.CopyIn) new.client) is t.tells in
      (tt, tt, ap phase_of tells.1 ∙ (turned most first driven.CopyIn last (came_to most first t.came driven.CopyIn last is t.driven)).answered.1.2.1)
  left_so laws law most request old (Ok group) new awaits m busy =
      let t = m.told in
      let first : LinkedClient L = connected old.link m.client m.put in
      let last : LinkedClient L = connected new.link t.client new.out in
      let is : t.came ≡ Ok driven.Settled = told_event most first (event.Settled group) new t in
      let left : IsLeftDriven t.came t.client.closed = law most first t.came last (with_call old.client.settings (call.Request request) awaits.history) (carried collecting old.client m.client (with_call old.client.settings (call.Request request)) m.made.history awaits.history awaits.is_its_own) (open_between m.client phase.Busy busy tt) t.driven in
      let none : t.client.closed ≡ None = subst (λ (c : Result Driven DriveFault). IsLeftDriven c t.client.closed) is left in
      let own = own_group laws request _ old.client t.client new.client awaits (m.history awaits.history awaits.is_its_own) none group m.taken in
      (own.0, own.1, tt)

  -- What `ask` promises where the client made the request.
  pub asked_so : Laws → GoesOn → Leaves → (most : ℕ) (request : Request) (old : LinkedClient L) (link : L) (client : ClientView) (put : List ℕ) (pieces : ℕ) (told : Result GroupEvent SessionFault) (result : Result Settled AskFault) (new : LinkedClient L)
      → AwaitsRequest old.client → phase_of client ≡ phase.Busy → Accepts collecting (call.Request request) old.client client old.out put → link ≡ old.link → pieces ≡ most → told ≡ next_result result
      → GivesGroup gives takes has_ended receive_failures send_failures pieces (connected link client put) told new
      → Making most request old result new × IfOk result (λ (group : Settled). group.request ≡ request) × OnOk result (AwaitsRequest new.client) × OnCopyIn result (phase_of new.client ≡ phase.CopyingIn)
  unfolding made_so
  asked_so laws goes_on leaves most request old link client put pieces told result new awaits busy made same_link same_pieces is given =
      let m = made_so goes_on most request old link client put pieces told result new awaits busy made same_link same_pieces is given in
      let left = left_so laws leaves most request old result new awaits m busy in
      (m, left.0, left.1, left.2)
