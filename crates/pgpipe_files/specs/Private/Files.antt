-- Where calls name a file.
use Rattle.std.specs.Prelude.{ℕ, suc, List, [], ◌∷◌, Option, Some, None, string_bytes}
use Rattle.pgpipe_files.specs.declared.calls_file.CallLine.{CallLine}
use Rattle.pgpipe_files.specs.declared.calls_file.CallLine.TheVariants as line

-- the path of the file that a line names
abbrev pub path_of : CallLine → Option (List ℕ)
path_of (line.File path) = Some (string_bytes path)
path_of _ = None

-- how many lines stand before the first file
abbrev pub file_place : List CallLine → ℕ
file_place [] = 0
file_place (line.File path ∷ lines) = 0
file_place (_ ∷ lines) = suc (file_place lines)
