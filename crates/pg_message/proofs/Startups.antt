-- A startup packet whose parts were lent one by one.
use Rattle.std.proofs.Common.{◌≡◌, ◌∙◌, ℕ, ◌+◌, List, ◌∷◌, ◌++◌, [], length, codes, Some, Result, ap, sym, subst, append_assoc}
use Rattle.std.specs.List.{flat_map}
use Rattle.pg_codec.specs.declared.fault.EncodeFault.{EncodeFault}
use Rattle.pg_message.specs.declared.message.First.TheVariants.{Startup}
use Rattle.pg_codec.specs.Field.{◌⨾◌, terminated}
use Rattle.pg_message.specs.Appending.{packet_of}
use Rattle.pg_message.specs.First.{parameter, packet_fault_of, packet_has_zero, packet_has_no_name, PacketIsOfType, startup_parameters}
use Rattle.pg_message.specs.Encoder.{EncodesAs, EncodesPacket, AppendsPacket}

regrouped : (user database others end : List ℕ) → user ++ (database ++ (others ++ end)) ≡ (user ++ (database ++ others)) ++ end
regrouped user database others end = ap (λ (bs : List ℕ). user ++ bs) (sym (append_assoc database others end)) ∙ sym (append_assoc user (database ++ others) end)

pub with_database : (user name : List ℕ) (pairs : List (List ℕ × List ℕ)) (old : List ℕ) (r : Result Unit EncodeFault) (new : List ℕ)
    → AppendsPacket 196608 (packet_has_no_name (Startup (startup_parameters user (Some name) pairs))) (parameter (codes "user", user) ⨾ (parameter (codes "database", name) ⨾ terminated parameter pairs)) old r new
    → EncodesPacket (Startup (startup_parameters user (Some name) pairs)) old r new
with_database user name pairs old r new h =
    let all = Startup (startup_parameters user (Some name) pairs) in
    subst (λ (content : List ℕ). EncodesAs (PacketIsOfType all) (packet_fault_of (packet_has_zero all) (packet_has_no_name all) (8 + length content)) (packet_of 196608 content) old r new)
    (regrouped (parameter (codes "user", user)).bytes (parameter (codes "database", name)).bytes (flat_map (λ p. (parameter p).bytes) pairs) (0 ∷ [])) h
