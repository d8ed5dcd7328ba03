-- What the frontend's messages are shown as.
use Rattle.std.specs.Prelude.{ℕ, ℤ, List, ◌++◌, Option, codes}
use Rattle.std.specs.Fmt.{signed_decimal}
use Rattle.pg_wire.specs.message.FrontMessage.{FrontMessage}
use Rattle.pg_wire.specs.message.FrontMessage.TheVariants.{Query, Parse, Bind, Describe, Close, Execute, Sync, Flush, Terminate, CopyData, CopyDone, CopyFail, Password}
use Rattle.pgpipe_texts.specs.Backend.{value_text}
use Rattle.pgpipe_texts.specs.Text.{listed, quoted, whole}
use Rattle.pgpipe_texts.specs.Words.{format_text, target_text, type_text}

-- a Bind: its portal and its statement, and the values of the parameters
unfoldable pub bind_text : List ℕ → List ℕ → List (Option (List ℕ)) → List ℕ
bind_text portal statement values = codes "Bind " ++ quoted portal ++ codes " to "
    ++ quoted statement ++ codes " " ++ listed value_text values

-- the formats of a Bind: of its values, and of the columns of the result
unfoldable pub formats_text : List ℤ → List ℤ → List ℕ
formats_text formats result_formats = codes " formats " ++ listed format_text formats
    ++ codes " results " ++ listed format_text result_formats

-- a message of the frontend; a password is hidden
abbrev pub front_text : FrontMessage → List ℕ
front_text (Query text) = codes "Query " ++ whole text
front_text (Parse name text types) = codes "Parse " ++ quoted name ++ codes " "
    ++ listed type_text types ++ codes " " ++ whole text
front_text (Bind portal statement formats values result_formats) =
    bind_text portal statement values ++ formats_text formats result_formats
front_text (Describe target name) = codes "Describe " ++ target_text target ++ quoted name
front_text (Close target name) = codes "Close " ++ target_text target ++ quoted name
front_text (Execute portal max_rows) = codes "Execute " ++ quoted portal ++ codes " rows "
    ++ signed_decimal max_rows
front_text Sync = codes "Sync"
front_text Flush = codes "Flush"
front_text Terminate = codes "Terminate"
front_text (CopyData bytes) = codes "CopyData " ++ quoted bytes
front_text CopyDone = codes "CopyDone"
front_text (CopyFail reason) = codes "CopyFail " ++ quoted reason
front_text (Password password) = codes "PasswordMessage (hidden)"
