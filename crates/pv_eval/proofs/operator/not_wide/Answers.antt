use Rattle.std.proofs.Common.{◌≡◌, ◌-◌, ◌+◌, ◌^◌, ◌∙◌, ap, arith, pos}
use Rattle.std.specs.Int.{w64}
use Rattle.std.proofs.lemmas.Int.{to_z-of_z}
use Rattle.pv_word.specs.Types.{width_of, pattern_of, wrap_of}
use Rattle.pv_word.proofs.ForCallers.{pattern-lt}
use Rattle.pv_eval.proofs.operator.not_wide.Goals as goal

pub overflow_sub-modulus : goal.overflow_sub-modulus
overflow_sub-modulus c =
    let p : c.pattern.result ≡ pattern_of c.args.ty c.args.a = c.pattern.ensures.value ∙ ap (pattern_of c.args.ty) (to_z-of_z w64 c.args.a c.ranges.a) in
    let m : c.modulus.result ≡ 2 ^ width_of c.args.ty = c.modulus.ensures.value in
    omega (arith, p, m, pattern-lt (width_of c.args.ty) c.args.a)

pub returns : goal.returns
returns c =
    let p : c.pattern.result ≡ pattern_of c.args.ty c.args.a = c.pattern.ensures.value ∙ ap (pattern_of c.args.ty) (to_z-of_z w64 c.args.a c.ranges.a) in
    let m : c.modulus.result ≡ 2 ^ width_of c.args.ty = c.modulus.ensures.value in
    to_z-of_z w64 c.packed.result (record { sfits = c.packed.type_inv }) ∙ c.packed.ensures
    ∙ ap (λ n. wrap_of c.args.ty (pos (n - (c.pattern.result + 1)))) m
    ∙ ap (λ n. wrap_of c.args.ty (pos (2 ^ width_of c.args.ty - (n + 1)))) p
