use Rattle.std.proofs.Common.{◌≡◌, ◌^◌, ◌∙◌, sym, ap, arith, pos}
use Rattle.std.specs.Prelude.{◌+ℤ◌, unsigned_abs}
use Rattle.std.specs.Int.{w64}
use Rattle.std.proofs.lemmas.Int.{ints, to_z-of_z}
use Rattle.pv_word.specs.Types.{width_of, pattern_of}
use Rattle.pv_eval.proofs.OperatorLaws.{own_pattern, negative_pattern, pattern_short}
use Rattle.pv_eval.proofs.operator.bits_of.Goals as goal

pub overflow_cast-result-then-own-lt0 : goal.overflow_cast-result-then-own-lt0
overflow_cast-result-then-own-lt0 c =
    let e : pos (pattern_of c.args.ty c.args.own) ≡ c.args.own +ℤ pos (2 ^ width_of c.args.ty) = negative_pattern c.args.ty c.args.own c.requires (omega (arith, ints)) in
    let f : c.modulus.result ≡ 2 ^ width_of c.args.ty = c.modulus.ensures.value in
    omega (arith, ints, e, f, c.modulus.ensures.small, pattern_short c.args.ty c.args.own)

pub returns-then-own-lt0 : goal.returns-then-own-lt0
returns-then-own-lt0 c =
    let e : pos (pattern_of c.args.ty c.args.own) ≡ c.args.own +ℤ pos (2 ^ width_of c.args.ty) = negative_pattern c.args.ty c.args.own c.requires (omega (arith, ints)) in
    let f : c.modulus.result ≡ 2 ^ width_of c.args.ty = c.modulus.ensures.value in
    omega (arith, ints, e, f, c.modulus.ensures.small, pattern_short c.args.ty c.args.own)

pub returns-else-own-lt0 : goal.returns-else-own-lt0
returns-else-own-lt0 c = ap unsigned_abs (to_z-of_z w64 c.args.own c.ranges.own) ∙ sym (own_pattern c.args.ty c.args.own (omega (arith, ints)) c.requires)
