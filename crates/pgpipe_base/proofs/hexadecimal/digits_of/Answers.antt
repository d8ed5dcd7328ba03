use Rattle.std.proofs.Common.{◌≡◌, ◌<◌, ◌+◌, ◌*◌, ◌/◌, ℕ, get_or, arith, refl, ap, ◌∙◌, w8}
use Rattle.std.proofs.lemmas.Simd.{length-swz_l, get_or-swz_l_below, SwzOk-from_below, Each1-from_get_or}
use Rattle.hex.specs.Hex.{lower_digits}
use Rattle.pgpipe_base.proofs.hexadecimal.digits_of.Goals as goal

pub swizzle : goal.swizzle
swizzle c = SwzOk-from_below w8 16 1 16 0 c.args.numbers refl (omega (arith, c.fits-numbers.0)) (Each1-from_get_or (λ (j : ℕ). j < 16) c.args.numbers 0 (λ i l. c.requires i (omega (arith, l, c.fits-numbers.0))))

pub returns-clause-long : goal.returns-clause-long
returns-clause-long c = length-swz_l w8 16 lower_digits 0 c.args.numbers ∙ c.fits-numbers.0

pub returns-clause-each : goal.returns-clause-each
returns-clause-each c k low =
    let first : 16 * ((0 + k) / 16) + get_or c.args.numbers k 0 ≡ get_or c.args.numbers k 0 = omega (arith, low) in
    get_or-swz_l_below w8 16 lower_digits 0 c.args.numbers k (omega (arith, low, c.fits-numbers.0)) (c.requires k low) ∙ ap (λ (j : ℕ). get_or lower_digits j 0) first
