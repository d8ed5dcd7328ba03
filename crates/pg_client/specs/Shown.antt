-- What `{:?}` writes of a client's settings. Of a password it is the same, whichever it is.
-- `++?` is std's operator: it joins two optional texts where both are there.
use Rattle.std.specs.Prelude.{ℕ, List, Option, Some, None, codes}
use Rattle.std.specs.Fmt.{◌++?◌, debug_list, debug_option, decimal}
use Rattle.pg_seq.specs.Text.{byte_text}
use Rattle.pg_wire.specs.Shown.{shown_pair}
use Rattle.pg_client.specs.declared.settings.Settings.{Settings}

-- what is written in a password's place
abbrev pub shown_password : Option (List ℕ) → List ℕ
shown_password None = codes "None"
shown_password (Some password) = codes "Some(Password(..))"

-- the settings, as `Settings { user: b"u", database: None, pairs: [], password: None, limit: 64 }`
abbrev pub shown_settings : Settings → Option (List ℕ)
shown_settings s = Some (codes "Settings { user: ") ++? Some (byte_text s.user)
    ++? Some (codes ", database: ") ++? debug_option (λ name. Some (byte_text name)) s.database
    ++? Some (codes ", pairs: ") ++? debug_list shown_pair s.pairs
    ++? Some (codes ", password: ") ++? Some (shown_password s.password)
    ++? Some (codes ", limit: ") ++? Some (decimal s.limit) ++? Some (codes " }")
