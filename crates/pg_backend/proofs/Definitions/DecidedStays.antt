-- Messages after the one that decides a request change neither its verdict nor its reply.
use Rattle.std.proofs.Common.{◌≡◌, ℕ, zero, suc, List, [], ◌∷◌, ◌++◌, Option, Some, None, option_map, map, refl, ap, sym, ◌∙◌}
use Rattle.std.proofs.lemmas.List.{map-append}
use Rattle.pg_wire.specs.message.BackMessage.TheVariants as back
use Rattle.pg_wire.specs.value.ErrorField.{ErrorField}
use Rattle.pg_wire.specs.message.FrontMessage.{FrontMessage}
use Rattle.pg_backend.specs.declared.script.Answer.{Answer}
use Rattle.pg_backend.specs.declared.script.Load.{Load}
use Rattle.pg_backend.specs.declared.script.Load.TheVariants.{Accept, Refuse}
use Rattle.pg_backend.specs.declared.script.ScriptPart.{ScriptPart}
use Rattle.pg_backend.specs.Lists.{IsPrefix}
use Rattle.pg_backend.specs.declared.meaning.InCopy.{InCopy}
use Rattle.pg_backend.specs.declared.meaning.InCopy.TheVariants as copy
use Rattle.pg_backend.specs.Copies.{CopyEnd, with_chunk, with_wait, accepted, refused, copy_end}
use Rattle.pg_backend.specs.Meaning.{in_copy}
use Rattle.pg_backend.specs.Replies.{Shape, Whole, Copies, shape, Verdict, verdict, verdict_of, at_copy_end, aside_message, parts_sent, after_copy, reply, reply_of}
use Rattle.pg_backend.proofs.Beginnings.{begins_after, begins_cons, begins_nil, begins_same}

-- Where the first is Some, the second is the same.
abbrev pub KeepsSome : {A : Type 0} → Option A → Option A → Type 0
KeepsSome {A} o p = (x : A) → o ≡ Some x → p ≡ Some x

pub keeps_map : {A B : Type 0} (f : A → B) (o p : Option A) → KeepsSome o p → KeepsSome (option_map f o) (option_map f p)
keeps_map f None p h y e = cc
keeps_map f (Some x) p h y e = ap (option_map f) (h x refl) ∙ e

pub accepted_more : (tag : List ℕ) (ms more : List InCopy) → KeepsSome (accepted tag ms) (accepted tag (ms ++ more))
accepted_more tag [] more = λ e is. cc
accepted_more tag (copy.Chunk bytes ∷ ms) more = keeps_map (with_chunk bytes) (accepted tag ms) (accepted tag (ms ++ more)) (accepted_more tag ms more)
accepted_more tag (copy.Done ∷ ms) more = λ e is. is
accepted_more tag (copy.Fails reason ∷ ms) more = λ e is. is
accepted_more tag (copy.Strays ∷ ms) more = λ e is. is
accepted_more tag (copy.Waits ∷ ms) more = keeps_map with_wait (accepted tag ms) (accepted tag (ms ++ more)) (accepted_more tag ms more)
accepted_more tag (copy.Leaves ∷ ms) more = λ e is. is

pub refused_more : (fields : List ErrorField) (n : ℕ) (ms more : List InCopy) → KeepsSome (refused fields n ms) (refused fields n (ms ++ more))
refused_more fields zero ms more = λ e is. is
refused_more fields (suc n) [] more = λ e is. cc
refused_more fields (suc n) (copy.Chunk bytes ∷ ms) more = keeps_map (with_chunk bytes) (refused fields n ms) (refused fields n (ms ++ more)) (refused_more fields n ms more)
refused_more fields (suc n) (copy.Done ∷ ms) more = λ e is. is
refused_more fields (suc n) (copy.Fails reason ∷ ms) more = λ e is. is
refused_more fields (suc n) (copy.Strays ∷ ms) more = λ e is. is
refused_more fields (suc n) (copy.Waits ∷ ms) more = keeps_map with_wait (refused fields (suc n) ms) (refused fields (suc n) (ms ++ more)) (refused_more fields (suc n) ms more)
refused_more fields (suc n) (copy.Leaves ∷ ms) more = λ e is. is

-- a copy that has ended stays ended
pub copy_end_more : (load : Load) (ms more : List FrontMessage) → KeepsSome (copy_end load ms) (copy_end load (ms ++ more))
copy_end_more (Accept tag) ms more = rw (map-append in_copy ms more) (accepted_more tag (map in_copy ms) (map in_copy more))
copy_end_more (Refuse n fields) ms more = rw (map-append in_copy ms more) (refused_more fields n (map in_copy ms) (map in_copy more))

verdict_of_more : (a : Answer) (s : Shape) (ms more : List FrontMessage) → KeepsSome (verdict_of a s ms) (verdict_of a s (ms ++ more))
verdict_of_more a Whole ms more = λ v is. is
verdict_of_more a (Copies before head load after) ms more =
    keeps_map (at_copy_end a before) (copy_end load ms) (copy_end load (ms ++ more)) (copy_end_more load ms more)

-- a verdict stands, whatever comes after it
pub verdict_more : (a : Answer) (ms more : List FrontMessage) → KeepsSome (verdict a ms) (verdict a (ms ++ more))
verdict_more a ms more = verdict_of_more a (shape a.parts) ms more

after_copy_grows : (a : Answer) (after : List ScriptPart) (o p : Option CopyEnd) → KeepsSome o p → IsPrefix (after_copy a after o) (after_copy a after p)
after_copy_grows a after None p h = begins_nil (after_copy a after p)
after_copy_grows a after (Some e) p h = rw (h e refl) (begins_same (after_copy a after (Some e)))

reply_of_grows : (a : Answer) (s : Shape) (ms more : List FrontMessage) → IsPrefix (reply_of a s ms) (reply_of a s (ms ++ more))
reply_of_grows a Whole ms more = begins_same _
reply_of_grows a (Copies before head load after) ms more =
    begins_after (parts_sent before) _ _ (begins_cons (back.CopyIn head) _ _
    (after_copy_grows a after (copy_end load ms) (copy_end load (ms ++ more)) (copy_end_more load ms more)))

-- a reply grows at its end
pub reply_grows : (a : Answer) (ms more : List FrontMessage) → IsPrefix (reply a ms) (reply a (ms ++ more))
reply_grows a ms more = begins_after (map aside_message a.before) _ _ (reply_of_grows a (shape a.parts) ms more)

pub map_some : {A B : Type 0} (f : A → B) (o : Option A) (y : B) → option_map f o ≡ Some y → (x : A) × (o ≡ Some x)
map_some f None y e = cc
map_some f (Some x) y e = (x, refl)

reply_of_more : (a : Answer) (s : Shape) (ms more : List FrontMessage) (v : Verdict) → verdict_of a s ms ≡ Some v → reply_of a s (ms ++ more) ≡ reply_of a s ms
reply_of_more a Whole ms more v is = refl
reply_of_more a (Copies before head load after) ms more v is =
    let ended = map_some (at_copy_end a before) (copy_end load ms) v is in
    let same : copy_end load (ms ++ more) ≡ copy_end load ms = copy_end_more load ms more ended.0 ended.1 ∙ sym ended.1 in
    ap (λ o. parts_sent before ++ back.CopyIn head ∷ after_copy a after o) same

-- the reply to a request that is decided stands, whatever comes after
pub reply_more : (a : Answer) (ms more : List FrontMessage) (v : Verdict) → verdict a ms ≡ Some v → reply a (ms ++ more) ≡ reply a ms
reply_more a ms more v is = ap (λ l. map aside_message a.before ++ l) (reply_of_more a (shape a.parts) ms more v is)
