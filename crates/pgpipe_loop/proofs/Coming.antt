-- Clients, one after the other, and the lines that are sent for them.
use Rattle.std.proofs.Common.{◌≡◌, ◌⊎◌, ℕ, ◌+◌, ◌<◌, List, [], ◌∷◌, ◌++◌, Result, Ok, Err, inl, inr, refl, sym, subst}
use Rattle.pg_copy.specs.Row.{Row}
use Rattle.pg_backend.specs.declared.script.Script.{Script}
use Rattle.pgpipe_base.specs.declared.fault.ToolFault.{ToolFault}
use Rattle.pgpipe_base.specs.declared.fault.ToolFault.TheVariants as tool
use Rattle.pgpipe_files.specs.ScriptFile.{script_of}
use Rattle.pgpipe_loop.specs.Lines.{port_row}
use Rattle.pgpipe_loop.specs.Serving.{AreCutOff, AreSent, Serves}
use Rattle.pgpipe_loop.specs.Clients.{AreServed, IsNextSoFar, ServesAfter, ServesAll, none_yet, one_more}
use Rattle.pgpipe_loop.specs.Private.Turning.{ServesNext}
use Rattle.pgpipe_loop.proofs.Turning.{cut_then, none_sent, nothing_sent, sent_then}

module _ {L C K : Type 0} (gives takes : L → List ℕ → L → Type 0) (has_ended : L → Type 0) (receive_failures send_failures : L → ℕ) (brings : C → L → C → Type 0) (fails : C → C → Type 0) (sends : K → List ℕ → K → Type 0) (failures : K → ℕ) (bytes : List ℕ) where
  -- ---- the next client

  -- the next client has come, and was served so far as it was
  pub serves_next : (clients new : C) (link link' : L) (script : Script) (result : Result Unit ToolFault) (sink sink' : K) → brings clients link new → script_of bytes ≡ Ok script
      → Serves gives takes has_ended receive_failures send_failures sends failures script link sink result link' sink'
      → ServesNext gives takes has_ended receive_failures send_failures brings fails sends failures bytes clients sink result new sink'
  serves_next clients new link link' script (Ok x) sink sink' b is s = (link, link', script, s.0, b, is, s.1, s.2)
  serves_next clients new link link' script (Err tool.Memory) sink sink' b is s = (s.0, inr (link, new, script, b, is, s.1), s.2)
  serves_next clients new link link' script (Err tool.Device) sink sink' b is s = inr (s.0, (link, new, script, b, is, s.1), s.2)

  -- memory was refused for the script, and nothing was sent
  pub no_script : (clients new : C) (sink sink' : K) → sink' ≡ sink → ServesNext gives takes has_ended receive_failures send_failures brings fails sends failures bytes clients sink (Err tool.Memory) new sink'
  no_script clients new sink sink' same = ([], inl refl, nothing_sent sends failures sink sink' same)

  -- ---- one client after another

  module _ (count : ℕ) (start : C) (sink : K) where
    -- so many clients were served, and all their lines sent
    pub record HasServed (done : ℕ) (clients : C) (sink' : K) : Type 0 where
      pub rows : List Row
      pub served : AreServed gives takes has_ended receive_failures send_failures brings fails bytes start done clients rows
      pub sent : AreSent sends failures sink rows sink'

    pub served_none : HasServed 0 start sink
    served_none = record { rows = []; served = none_yet; sent = none_sent sends failures sink }

    -- one client more
    pub served_more : (done : ℕ) (clients clients' : C) (mid sink' : K) → HasServed done clients mid → ServesNext gives takes has_ended receive_failures send_failures brings fails sends failures bytes clients mid (Ok tt) clients' sink'
        → HasServed (done + 1) clients' sink'
    served_more done clients clients' mid sink' h s = record {
      rows = h.rows ++ s.3;
      served = one_more done clients clients' s.0 s.1 s.2 h.rows s.3 h.served s.4 s.5 s.6;
      sent = sent_then sends failures sink mid sink' h.rows s.3 h.sent s.7;
    }

    -- the next client couldn't be served, or not to the end
    pub next_fails : (done : ℕ) (clients clients' : C) (mid sink' : K) (f : ToolFault) → done < count → HasServed done clients mid
        → ServesNext gives takes has_ended receive_failures send_failures brings fails sends failures bytes clients mid (Err f) clients' sink'
        → ServesAfter gives takes has_ended receive_failures send_failures brings fails bytes sends failures [] count start sink (Err f) clients' sink'
    next_fails done clients clients' mid sink' tool.Memory fewer h s = record {
      done = done;
      fewer = fewer;
      clients = clients;
      before = h.rows;
      rows = s.0;
      served = h.served;
      next = s.1;
      sent = sent_then sends failures sink mid sink' h.rows s.0 h.sent s.2;
    }
    next_fails done clients clients' mid sink' tool.Device fewer h (inl failed) = record {
      done = done;
      fewer = fewer;
      clients = clients;
      before = h.rows;
      served = h.served;
      broke = inl (failed.0, subst (λ (k : K). AreSent sends failures sink h.rows k) (sym failed.1) h.sent);
    }
    next_fails done clients clients' mid sink' tool.Device fewer h (inr cut) = record {
      done = done;
      fewer = fewer;
      clients = clients;
      before = h.rows;
      served = h.served;
      broke = inr (cut.0, cut.1, cut_then sends failures sink mid sink' h.rows cut.0 h.sent cut.2);
    }

    -- all were served
    pub all_served : (done : ℕ) (clients' : C) (sink' : K) → done ≡ count → HasServed done clients' sink'
        → ServesAfter gives takes has_ended receive_failures send_failures brings fails bytes sends failures [] count start sink (Ok tt) clients' sink'
    all_served done clients' sink' all h =
        (h.rows, subst (λ (n : ℕ). AreServed gives takes has_ended receive_failures send_failures brings fails bytes start n clients' h.rows) all h.served, h.sent)

  -- ---- after the line of the port

  broke_after : (origin sink sink' : K) (first before : List Row) (clients clients' : C) → AreSent sends failures origin first sink
      → ((fails clients clients' × AreSent sends failures sink before sink')
      ⊎ ((rows : List Row) × IsNextSoFar gives takes has_ended receive_failures send_failures brings fails bytes clients rows × AreCutOff sends failures sink (before ++ rows) sink'))
      → ((fails clients clients' × AreSent sends failures origin (first ++ before) sink')
      ⊎ ((rows : List Row) × IsNextSoFar gives takes has_ended receive_failures send_failures brings fails bytes clients rows × AreCutOff sends failures origin (first ++ (before ++ rows)) sink'))
  broke_after origin sink sink' first before clients clients' h (inl failed) = inl (failed.0, sent_then sends failures origin sink sink' first before h failed.1)
  broke_after origin sink sink' first before clients clients' h (inr cut) = inr (cut.0, cut.1, cut_then sends failures origin sink sink' first (before ++ cut.0) h cut.2)

  -- what clients are served after no rows is what they are after any
  after_first : (count : ℕ) (start clients' : C) (origin sink sink' : K) (first : List Row) (result : Result Unit ToolFault) → AreSent sends failures origin first sink
      → ServesAfter gives takes has_ended receive_failures send_failures brings fails bytes sends failures [] count start sink result clients' sink'
      → ServesAfter gives takes has_ended receive_failures send_failures brings fails bytes sends failures first count start origin result clients' sink'
  after_first count start clients' origin sink sink' first (Ok x) h s = (s.0, s.1, sent_then sends failures origin sink sink' first s.0 h s.2)
  after_first count start clients' origin sink sink' first (Err tool.Memory) h s = record {
    done = s.done;
    fewer = s.fewer;
    clients = s.clients;
    before = s.before;
    rows = s.rows;
    served = s.served;
    next = s.next;
    sent = sent_then sends failures origin sink sink' first (s.before ++ s.rows) h s.sent;
  }
  after_first count start clients' origin sink sink' first (Err tool.Device) h s = record {
    done = s.done;
    fewer = s.fewer;
    clients = s.clients;
    before = s.before;
    served = s.served;
    broke = broke_after origin sink sink' first s.before s.clients clients' h s.broke;
  }

  -- the line of the port was sent first
  pub after_port : (port count : ℕ) (start clients' : C) (origin sink sink' : K) (result : Result Unit ToolFault) → AreSent sends failures origin (port_row port ∷ []) sink
      → ServesAfter gives takes has_ended receive_failures send_failures brings fails bytes sends failures [] count start sink result clients' sink'
      → ServesAll gives takes has_ended receive_failures send_failures brings fails bytes sends failures port count start origin result clients' sink'
  after_port port count start clients' origin sink sink' (Ok x) h s = after_first count start clients' origin sink sink' (port_row port ∷ []) (Ok x) h s
  after_port port count start clients' origin sink sink' (Err tool.Memory) h s = inr (after_first count start clients' origin sink sink' (port_row port ∷ []) (Err tool.Memory) h s)
  after_port port count start clients' origin sink sink' (Err tool.Device) h s = inr (after_first count start clients' origin sink sink' (port_row port ∷ []) (Err tool.Device) h s)
