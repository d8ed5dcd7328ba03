-- The files that CALLS names, and the chunks that stand in their place once they are read.
use Rattle.std.specs.Prelude.{ℕ, zero, suc, List, [], ◌∷◌, ◌++◌, take, drop, length, Option, Some, None, string_bytes}
use Rattle.pg_client.specs.declared.call.Call.TheVariants as call
use Rattle.pg_pair.specs.declared.event.Event.TheVariants as event
use Rattle.pgpipe_files.specs.declared.calls_file.Calls.{Calls}
use Rattle.pgpipe_files.specs.declared.calls_file.CallLine.{CallLine}
use Rattle.pgpipe_files.specs.declared.calls_file.CallLine.TheVariants as line

-- the path of the first file that still stands among the lines
abbrev pub next_file : List CallLine → Option (List ℕ)
next_file [] = None
next_file (line.File path ∷ lines) = Some (string_bytes path)
next_file (_ ∷ lines) = next_file lines

-- how many files still stand among the lines
abbrev pub files : List CallLine → ℕ
files [] = 0
files (line.File path ∷ lines) = suc (files lines)
files (_ ∷ lines) = files lines

-- the most bytes of a chunk that a file is cut into
abbrev pub chunk_size : ℕ
chunk_size = 4096

-- the call that hands these bytes over as one chunk
abbrev pub chunk_line : List ℕ → CallLine
chunk_line bytes = line.Event (event.Call (call.Chunk bytes))

-- the bytes as chunks of 4,096, the last one with what is left. n only bounds the recursion: it is
-- at least the number of bytes.
abbrev pub chunk_lines : ℕ → List ℕ → List CallLine
chunk_lines zero bytes = []
chunk_lines (suc n) [] = []
chunk_lines (suc n) (b ∷ bs) =
    chunk_line (take chunk_size (b ∷ bs)) ∷ chunk_lines n (drop chunk_size (b ∷ bs))

-- the lines with these bytes, as chunks, in place of the first file
abbrev pub with_chunks : List ℕ → List CallLine → List CallLine
with_chunks bytes [] = []
with_chunks bytes (line.File path ∷ lines) = chunk_lines (length bytes) bytes ++ lines
with_chunks bytes (l ∷ lines) = l ∷ with_chunks bytes lines

-- the calls with these bytes, as chunks, in place of the first file
abbrev pub filled : List ℕ → Calls → Calls
filled bytes calls = record { settings = calls.settings; lines = with_chunks bytes calls.lines }
