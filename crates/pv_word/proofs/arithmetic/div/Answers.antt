use Rattle.std.proofs.Common.{arith, ap, ◌∙◌}
use Rattle.std.specs.Prelude.{FitsSigned}
use Rattle.std.specs.Int.{w128}
use Rattle.std.proofs.lemmas.Int.{ints, to_z-of_z, quot_is, fits_signed_from_abs}
use Rattle.pv_word.specs.Division.{quotient, remainder}
use Rattle.pv_word.specs.Types.{wrap_of}
use Rattle.pv_word.proofs.DivisionLaws.{division-is, quotient-within}
use Rattle.pv_word.proofs.TypeLaws.{value-within}
use Rattle.pv_word.proofs.arithmetic.div.Goals as goal

pub returns-clause-value : goal.returns-clause-value
returns-clause-value c =
    let a = value-within c.args.ty c.args.a c.requires.a_in_range in
    let fits : FitsSigned w128 (quotient c.args.a c.args.b) = fits_signed_from_abs w128 (quotient c.args.a c.args.b) (omega (arith, ints, quotient-within c.args.a c.args.b)) in
    to_z-of_z w128 c.wrap.result (record { sfits = c.wrap.type_inv }) ∙ c.wrap.ensures.value
    ∙ ap (wrap_of c.args.ty) (quot_is w128 c.args.a c.args.b c.ranges.a c.ranges.b fits)

pub returns-clause-divides : goal.returns-clause-divides
returns-clause-divides c =
    (quotient c.args.a c.args.b, remainder c.args.a c.args.b, division-is c.args.a c.args.b c.requires.nonzero, returns-clause-value c)
