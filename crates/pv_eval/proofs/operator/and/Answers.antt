use Rattle.std.proofs.Common.{refl, ◌∙◌, ap, subst, to_z, of_z}
use Rattle.std.specs.Int.{w64}
use Rattle.std.proofs.lemmas.Int.{to_z-of_z}
use Rattle.pv_mean.specs.Values.{lesser}
use Rattle.pv_eval.specs.Operators.{IsBit}
use Rattle.pv_eval.proofs.BitWays.{and_bits}
use Rattle.pv_eval.proofs.operator.and.Goals as goal

pub returns-then-is_bit-2 : goal.returns-then-is_bit-2
returns-then-is_bit-2 c =
    let a = to_z-of_z w64 c.args.a c.ranges.a in
    let b = to_z-of_z w64 c.args.b c.ranges.b in
    to_z-of_z w64 c.lesser.result (record { sfits = c.lesser.type_inv }) ∙ c.lesser.ensures
    ∙ ap (λ x. lesser x (to_z w64 (of_z w64 c.args.b))) a ∙ ap (lesser c.args.a) b
    ∙ and_bits c.args.ty c.args.a c.args.b (subst IsBit a (c.if-is_bit.ensures refl)) (subst IsBit b (c.if-is_bit-2.ensures refl))
