-- What a refusal says of what is read.
use Rattle.std.proofs.Common.{◌≡◌, Option, None}
use Rattle.pgpipe_lines.specs.declared.fault.Refusal.{Refusal}
use Rattle.pgpipe_lines.specs.declared.fault.Refusal.TheVariants.{Wrong, Memory}
use Rattle.pgpipe_lines.specs.Reads.{Fails}

-- where nothing is read, any refusal is right
pub fails : {A : Type 0} (e : Refusal) (read : Option A) → read ≡ None → Fails e read
fails Wrong read h = h
fails Memory read h = tt

-- where a part isn't read, all of it isn't
pub fails-by : {A B : Type 0} (e : Refusal) (part : Option A) (read : Option B) → (part ≡ None → read ≡ None) → Fails e part → Fails e read
fails-by Wrong part read f h = f h
fails-by Memory part read f h = tt
