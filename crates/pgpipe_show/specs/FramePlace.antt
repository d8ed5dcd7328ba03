-- Where the frames of a stream begin.
use Rattle.std.specs.Prelude.{ℕ, ◌+◌, ◌-◌, ◌^◌, min}
use Rattle.pgpipe_show.specs.declared.both.place.FramePlace.{FramePlace}

-- where the first frame begins
abbrev pub first_place : FramePlace
first_place = record { number = 1; offset = 0 }

-- where the next frame begins, after one of so many bytes; no number passes 2^64 - 1
abbrev pub place_after : ℕ → FramePlace → FramePlace
place_after size place = record {
  number = min (place.number + 1) (2 ^ 64 - 1);
  offset = min (place.offset + size) (2 ^ 64 - 1);
}

-- where the same frame begins, after one more byte of no frame, as that which answers a request for
-- encryption is
abbrev pub place_past_byte : FramePlace → FramePlace
place_past_byte place = record place { offset = min (place.offset + 1) (2 ^ 64 - 1) }
