use Rattle.std.proofs.Common.{refl, ◌∙◌, ap, subst, to_z, of_z}
use Rattle.std.specs.Int.{w64}
use Rattle.std.proofs.lemmas.Int.{to_z-of_z}
use Rattle.pv_mean.specs.Values.{greater}
use Rattle.pv_eval.specs.Operators.{IsBit}
use Rattle.pv_eval.proofs.BitWays.{or_bits}
use Rattle.pv_eval.proofs.operator.or.Goals as goal

pub returns-then-is_bit-2 : goal.returns-then-is_bit-2
returns-then-is_bit-2 c =
    let a = to_z-of_z w64 c.args.a c.ranges.a in
    let b = to_z-of_z w64 c.args.b c.ranges.b in
    to_z-of_z w64 c.greater.result (record { sfits = c.greater.type_inv }) ∙ c.greater.ensures
    ∙ ap (λ x. greater x (to_z w64 (of_z w64 c.args.b))) a ∙ ap (greater c.args.a) b
    ∙ or_bits c.args.ty c.args.a c.args.b (subst IsBit a (c.if-is_bit.ensures refl)) (subst IsBit b (c.if-is_bit-2.ensures refl))
