use Rattle.std.proofs.Common.{◌-◌, ◌*◌, ◌%◌, ◌^◌, ◌≤◌, arith, ap, ◌∙◌, bit_and, of_z}
use Rattle.std.specs.Int.{w128}
use Rattle.std.proofs.lemmas.Int.{to_z-of_z}
use Rattle.std.proofs.lemmas.Nat.{one_shl}
use Rattle.pv_word.specs.Types.{width_of}
use Rattle.pv_word.proofs.BitLaws.{pattern-lowest}
use Rattle.pv_word.proofs.TypeLaws.{narrow}
use Rattle.pv_word.proofs.wrapping.pattern.Goals as goal

pub returns : goal.returns
returns c =
    let few : width_of c.args.ty ≤ 32 = narrow c.args.ty in
    let n = c.cast_unsigned.ensures ∙ ap (of_z w128) (to_z-of_z w128 c.args.n c.ranges.n) in
    let ones = ap (λ k. 1 * 2 ^ k % 2 ^ 128 - 1) c.width.ensures ∙ ap (λ m. m - 1) (one_shl (width_of c.args.ty) 128 (omega arith)) in
    (λ i. bit_and (n i) (ones i)) ∙ pattern-lowest (width_of c.args.ty) c.args.n (omega arith) c.ranges.n
