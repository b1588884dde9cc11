use Rattle.std.proofs.Common.{refl, ◌∙◌, ap, sym, subst, arith, to_z, of_z}
use Rattle.std.specs.Int.{w64}
use Rattle.std.specs.Prelude.{pos, ◌-ℤ◌}
use Rattle.std.proofs.lemmas.Int.{ints, to_z-of_z, fits_signed_from_abs}
use Rattle.pv_word.specs.Types.{not_of}
use Rattle.pv_eval.specs.Operators.{IsBit}
use Rattle.pv_eval.proofs.BitWays.{not_bit}
use Rattle.pv_eval.proofs.operator.not.Goals as goal

pub returns-then-is_bit : goal.returns-then-is_bit
returns-then-is_bit c =
    let a = to_z-of_z w64 c.args.a c.ranges.a in
    let bit : IsBit c.args.a = subst IsBit a (c.if-is_bit.ensures refl) in
    ap (λ z. to_z w64 (of_z w64 (pos 1 -ℤ z))) a
    ∙ to_z-of_z w64 (pos 1 -ℤ c.args.a) (fits_signed_from_abs w64 (pos 1 -ℤ c.args.a) (omega (arith, ints, bit.from, bit.to)))
    ∙ not_bit c.args.a bit ∙ ap (λ ty. not_of ty c.args.a) (sym (c.if-is_bool.ensures refl))
