-- How a loop ends, and what was sent by then.
use Rattle.std.proofs.Common.{◌≡◌, ℕ, Bool, false, inl, inr, List, [], ◌++◌, Result, Ok, Err, refl, sym, subst, ◌∙◌, append-nil}
use Rattle.std.specs.List.{FoldsTo, concat}
use Rattle.pg_wire.specs.Link.{HasRisen}
use Rattle.pg_pair.specs.Carrying.{Carrying}
use Rattle.pg_pair.specs.View.{PairView}
use Rattle.pgpipe_loop.specs.declared.run_loop.Ran.{Ran}
use Rattle.pgpipe_base.specs.declared.fault.ToolFault.{ToolFault}
use Rattle.pgpipe_base.specs.declared.fault.ToolFault.TheVariants as fault
use Rattle.pgpipe_loop.specs.Lines.{text_lines}
use Rattle.pgpipe_loop.specs.RunLoop.{PlannedEvent, Happened, nothing, ending_of, says_carrier_failed, LoopAnswers}
use Rattle.pgpipe_loop.specs.Private.Running.{Taking, At, at, Sends, HasDone, DoesAll, Closes, EndsLoop}
use Rattle.pgpipe_base.specs.Receiving.{CountsNoFailure}
use Rattle.pgpipe_loop.proofs.Loops.{sends_then}
use Rattle.pgpipe_base.proofs.Pieces.{puts_none}

module _ {C K : Type 0} (carries : Carrying C) (trace : Bool) (takes : Taking K) (failures : K → ℕ) where
  -- nothing has happened
  pub stands_first : (start : K) (begun : PairView C) (all : List PlannedEvent) → HasDone carries trace takes failures start begun all (at begun false start) all
  stands_first start begun all = record { rows = []; happened = nothing; sent = puts_none takes failures [] start }

  module _ (start : K) (begun : PairView C) (all next : List PlannedEvent) (old mid : At C K) (stands : HasDone carries trace takes failures start begun all old next) where
    before : HasDone carries trace takes failures start begun all old (next ++ [])
    before = subst (HasDone carries trace takes failures start begun all old) (sym (append-nil next)) stands

    pub not_done : (s : ToolFault) → DoesAll {A = Unit {0}} carries trace takes failures next old (Err s) mid → EndsLoop carries trace takes failures start begun all (Err s) mid.sink
    not_done fault.Memory d = d start begun all [] before
    not_done fault.Device d = inl (d start begun all [] before)

    pub not_closed : (s : ToolFault) (k : K) → DoesAll {A = Unit {0}} carries trace takes failures next old (Ok tt) mid → Closes takes failures mid.pair mid.sink (Err s) k → EndsLoop carries trace takes failures start begun all (Err s) k
    not_closed fault.Memory k d c = record { at = mid; left = []; stands = d start begun all [] before; sink_is = c }
    not_closed fault.Device k d c =
        let done = d start begun all [] before in
        inr (mid.failed, c.0, record { pair = mid.pair; rows = done.rows; happened = done.happened; sent = sends_then carries trace takes failures start mid.sink k done.rows (ending_of mid.pair) (Err c.0) done.sent c.1 })

    pub closed : (r : Ran) (k : K) → says_carrier_failed r ≡ mid.failed → DoesAll {A = Unit {0}} carries trace takes failures next old (Ok tt) mid → Closes takes failures mid.pair mid.sink (Ok tt) k → EndsLoop carries trace takes failures start begun all (Ok r) k
    closed r k e d c =
        let done = d start begun all [] before in
        record { pair = mid.pair; rows = done.rows; happened = subst (Happened carries trace begun all mid.pair [] done.rows) (sym e) done.happened; sent = sends_then carries trace takes failures start mid.sink k done.rows (ending_of mid.pair) (Ok tt) done.sent c }

  -- ---- what was sent

  -- what was sent, and the answer for it
  abbrev pub Tells : K → PairView C → List PlannedEvent → Result Ran ToolFault → K → Type 0
  Tells start begun all result k = (sent : List (List ℕ)) × FoldsTo takes start sent k × LoopAnswers (HasRisen (failures start) (failures k)) carries trace begun all (concat sent) result

  whole_text : (start k : K) (text : List ℕ) (p : Sends {A = Unit {0}} takes failures start text (Ok tt) k) → concat p.pieces ≡ text
  whole_text start k text p = sym (p.sent ∙ append-nil (concat p.pieces))

  tells_whole : (start : K) (begun : PairView C) (all : List PlannedEvent) (r : Ran) (k : K) → EndsLoop carries trace takes failures start begun all (Ok r) k → Tells start begun all (Ok r) k × (failures k ≡ failures start)
  tells_whole start begun all r k e = ((e.sent.pieces, e.sent.calls, record { pair = e.pair; rows = e.rows; happened = e.happened; text_is = whole_text start k _ e.sent }), e.sent.counted)

  tells_memory : (start : K) (begun : PairView C) (all : List PlannedEvent) (k : K) → EndsLoop carries trace takes failures start begun all (Err fault.Memory) k → Tells start begun all (Err fault.Memory) k × (failures k ≡ failures start)
  tells_memory start begun all k e =
      let s = e.stands in
      let all_of : Tells start begun all (Err fault.Memory) e.at.sink × (failures e.at.sink ≡ failures start) = ((s.sent.pieces, s.sent.calls, record { pair = e.at.pair; left = e.left; rows = s.rows; failed = e.at.failed; happened = s.happened; text_is = whole_text start e.at.sink _ s.sent }), s.sent.counted) in
      subst (λ (x : K). Tells start begun all (Err fault.Memory) x × (failures x ≡ failures start)) (sym e.sink_is) all_of

  tells_device : (start : K) (begun : PairView C) (all : List PlannedEvent) (k : K) → EndsLoop carries trace takes failures start begun all (Err fault.Device) k → Tells start begun all (Err fault.Device) k
  tells_device start begun all k (inl b) = (b.sent.pieces, b.sent.calls, (b.sent.counted, (text_lines b.rows, b.sent.sent, inl (record { pair = b.pair; left = b.left; rows = b.rows; failed = b.failed; happened = b.happened; text_is = refl }))))
  tells_device start begun all k (inr b) =
      let c = b.2 in
      (c.sent.pieces, c.sent.calls, (c.sent.counted, (text_lines (c.rows ++ ending_of c.pair), c.sent.sent, inr (b.0, record { pair = c.pair; rows = c.rows; happened = c.happened; text_is = refl }))))

  pub tells : (start : K) (begun : PairView C) (all : List PlannedEvent) (r : Result Ran ToolFault) (k : K) → EndsLoop carries trace takes failures start begun all r k → Tells start begun all r k
  tells start begun all (Ok r) k e = (tells_whole start begun all r k e).0
  tells start begun all (Err fault.Memory) k e = (tells_memory start begun all k e).0
  tells start begun all (Err fault.Device) k e = tells_device start begun all k e

  pub counts : (start : K) (begun : PairView C) (all : List PlannedEvent) (r : Result Ran ToolFault) (k : K) → EndsLoop carries trace takes failures start begun all r k → CountsNoFailure (failures start) r (failures k)
  counts start begun all (Ok r) k e = (tells_whole start begun all r k e).1
  counts start begun all (Err fault.Memory) k e = (tells_memory start begun all k e).1
  counts start begun all (Err fault.Device) k e = tt
