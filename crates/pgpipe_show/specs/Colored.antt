-- What the sink does: the sink behind it takes the coloured form of what it takes.
use Rattle.std.specs.Prelude.{ℕ, ◌≡◌, ◌⊎◌, Bool, true, false, List, []}
use Rattle.pg_wire.specs.Sending.{FailsToSend, Sends}
use Rattle.pgpipe_show.specs.declared.color.part.LinePart.{LinePart}
use Rattle.pgpipe_show.specs.ColoredPart.{colored, part_after}

-- the sink behind, whether bytes are coloured, and the part of the line that the next byte is of
pub record Coloring (K : Type 0) : Type 0 where
  pub inner : K
  pub on : Bool
  pub part : LinePart

-- `takes` and `failures` are those of the sink behind.
module _ {K : Type 0} (takes : K → List ℕ → K → Type 0) (failures : K → ℕ) where
  -- Calls took the coloured form of these bytes, and none failed.
  pub record Paints (old : Coloring K) (bytes : List ℕ) (new : Coloring K) : Type 0 where
    pub sent : Sends takes failures old.inner (colored old.part bytes) new.inner
    pub part : new.part ≡ part_after old.part bytes

  -- A call failed within the coloured form of bytes that came, none of which counts as taken.
  pub record FailsToPaint (old : Coloring K) (bytes : List ℕ) (new : Coloring K) : Type 0 where
    pub none : bytes ≡ []
    pub came : List ℕ
    pub left : List ℕ
    pub sent : FailsToSend takes failures old.inner (colored old.part came) left new.inner
    pub part : new.part ≡ old.part

  -- What a call does, by whether it colours: where it doesn't, the bytes are passed on.
  abbrev pub TakesAs : Bool → Coloring K → List ℕ → Coloring K → Type 0
  TakesAs false old bytes new = takes old.inner bytes new.inner × (new.part ≡ old.part)
  TakesAs true old bytes new = Paints old bytes new ⊎ FailsToPaint old bytes new

  -- what a call does, which leaves the colours on or off
  abbrev pub Takes : Coloring K → List ℕ → Coloring K → Type 0
  Takes old bytes new = TakesAs old.on old bytes new × (new.on ≡ old.on)
