use Rattle.std.proofs.Common.{arith, ap, ◌∙◌, ◌^◌}
use Rattle.std.specs.Prelude.{◌*ℤ◌, FitsSigned}
use Rattle.std.proofs.Common.{to_z, of_z}
use Rattle.std.specs.Int.{w128}
use Rattle.std.proofs.lemmas.Int.{ints, to_z-of_z, fits_signed_mul}
use Rattle.pv_word.specs.Types.{wrap_of}
use Rattle.pv_word.proofs.TypeLaws.{value-within}
use Rattle.pv_word.proofs.arithmetic.mul.Goals as goal

pub returns-clause-value : goal.returns-clause-value
returns-clause-value c =
    let a = value-within c.args.ty c.args.a c.requires.a_in_range in
    let b = value-within c.args.ty c.args.b c.requires.b_in_range in
    let fits : FitsSigned w128 (c.args.a *ℤ c.args.b) = fits_signed_mul w128 c.args.a c.args.b (2 ^ 32) (2 ^ 32) (omega (arith, ints)) (omega (arith, ints)) (omega arith) in
    let first = to_z-of_z w128 c.args.a c.ranges.a in
    let second = to_z-of_z w128 c.args.b c.ranges.b in
    to_z-of_z w128 c.wrap.result (record { sfits = c.wrap.type_inv }) ∙ c.wrap.ensures.value
    ∙ ap (wrap_of c.args.ty) (ap (λ z. to_z w128 (of_z w128 z)) (λ i. first i *ℤ second i) ∙ to_z-of_z w128 (c.args.a *ℤ c.args.b) fits)
