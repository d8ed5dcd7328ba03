use Rattle.std.proofs.Common.{◌≤◌, ℕ, get_or, arith, ap, ◌∙◌}
use Rattle.std.proofs.lemmas.Simd.{Each1-get_or, bytes_below}
use Rattle.hex.specs.Hex.{lower_digits}
use Rattle.pgpipe_base.proofs.Hexadecimals.{high_bits, low_bits}
use Rattle.pgpipe_base.proofs.hexadecimal.two_digits_of.Goals as goal

pub digits_of-high-requires : goal.digits_of-high-requires
digits_of-high-requires c k low =
    let byte : get_or c.args.bytes k 0 ≤ 255 = Each1-get_or (λ a. a ≤ 255) c.args.bytes k 0 (omega (arith, low, c.fits-bytes.0)) (bytes_below c.args.bytes c.fits-bytes.1) in
    omega (arith, high_bits c.args.bytes k c.fits-bytes.0 low, byte)

pub digits_of-low-requires : goal.digits_of-low-requires
digits_of-low-requires c k low = omega (arith, low_bits c.args.bytes k c.fits-bytes.0 low)

pub returns-clause-high : goal.returns-clause-high
returns-clause-high c k low = c.digits_of-high.ensures.each k low ∙ ap (λ (j : ℕ). get_or lower_digits j 0) (high_bits c.args.bytes k c.fits-bytes.0 low)

pub returns-clause-low : goal.returns-clause-low
returns-clause-low c k low = c.digits_of-low.ensures.each k low ∙ ap (λ (j : ℕ). get_or lower_digits j 0) (low_bits c.args.bytes k c.fits-bytes.0 low)
