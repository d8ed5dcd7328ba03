-- What `{:?}` writes of a script and of the way in which it lets a client in: of each password the
-- same.
-- `++?` is std's operator: it joins two optional texts where both are there.
use Rattle.std.specs.Prelude.{ℕ, List, Option, Some, None, codes}
use Rattle.std.specs.Fmt.{◌++?◌, debug_list, debug_option, decimal}
use Rattle.pg_wire.specs.Shown.{shown_pair}
use Rattle.pg_backend.specs.declared.script.Auth.{Auth}
use Rattle.pg_backend.specs.declared.script.Auth.TheVariants.{Trust, Cleartext, Md5}
use Rattle.pg_backend.specs.declared.script.Script.{Script}

-- the way in, as `Cleartext(Password(..))`
abbrev pub shown_auth : Auth → Option (List ℕ)
shown_auth Trust = Some (codes "Trust")
shown_auth (Cleartext password) = Some (codes "Cleartext(Password(..))")
shown_auth (Md5 password salt) = Some (codes "Md5 { password: Password(..), salt: ")
    ++? debug_list (λ byte. Some (decimal byte)) salt ++? Some (codes " }")

-- a script; of one with a key or with answers nothing is claimed, since nothing is of theirs
abbrev pub shown_script : Script → Option (List ℕ)
shown_script s = Some (codes "Script { auth: ") ++? shown_auth s.auth
    ++? Some (codes ", pairs: ") ++? debug_list shown_pair s.pairs
    ++? Some (codes ", key: ") ++? debug_option (λ key. None) s.key
    ++? Some (codes ", answers: ") ++? debug_list (λ answer. None) s.answers
    ++? Some (codes " }")
