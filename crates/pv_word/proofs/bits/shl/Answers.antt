use Rattle.std.proofs.Common.{◌≡◌, ◌+◌, ◌*◌, ◌%◌, ◌<◌, ◌≤◌, ◌^◌, arith, ap, ◌∙◌, sym, pos, to_z, of_z}
use Rattle.std.specs.Int.{w128}
use Rattle.std.proofs.lemmas.Int.{to_z-of_z, to_z_pos}
use Rattle.std.proofs.lemmas.Nat.{shl_whole, shl_below}
use Rattle.std.proofs.Math.Nat.{pow-le-pow_right}
use Rattle.pv_word.specs.Types.{width_of, pattern_of, wrap_of}
use Rattle.pv_word.proofs.BitLaws.{has_bits-along, has_bits-shl_of, shl_of-far, pattern-lt}
use Rattle.pv_word.proofs.TypeLaws.{narrow}
use Rattle.pv_word.proofs.bits.shl.Goals as goal

pub returns-then-n-width-clause-value : goal.returns-then-n-width-clause-value
returns-then-n-width-clause-value c =
    let p = pattern_of c.args.ty c.args.a in
    let n = c.args.n in
    let few : n < 32 = omega (arith, narrow c.args.ty) in
    let pattern : c.pattern.result ≡ p = c.pattern.ensures ∙ ap (pattern_of c.args.ty) (to_z-of_z w128 c.args.a c.ranges.a) in
    let low : 2 ^ width_of c.args.ty ≤ 2 ^ 32 = pow-le-pow_right (omega arith) (narrow c.args.ty) in
    let inside : p < 2 ^ 32 = omega (arith, pattern-lt (width_of c.args.ty) c.args.a) in
    let high : 2 ^ (32 + n) ≤ 2 ^ 64 = pow-le-pow_right (omega arith) {i = 32 + n} {j = 64} (omega arith) in
    let moved : to_z w128 ((p * 2 ^ n) % 2 ^ 128) ≡ pos (p * 2 ^ n) =
    ap (to_z w128) (shl_whole p 32 n 128 inside (omega arith)) ∙ to_z_pos w128 (p * 2 ^ n) (omega (arith, shl_below p 32 n inside)) in
    to_z-of_z w128 c.wrap.result (record { sfits = c.wrap.type_inv }) ∙ c.wrap.ensures.value
    ∙ ap (wrap_of c.args.ty) (ap (λ z. to_z w128 ((of_z w128 z * 2 ^ n) % 2 ^ 128)) (c.from.ensures ∙ ap pos pattern) ∙ moved)

pub returns-then-n-width-clause-bits : goal.returns-then-n-width-clause-bits
returns-then-n-width-clause-bits c = has_bits-along (has_bits-shl_of c.args.ty c.args.a c.args.n) (returns-then-n-width-clause-value c)

pub returns-else-n-width-clause-value : goal.returns-else-n-width-clause-value
returns-else-n-width-clause-value c = sym (shl_of-far c.args.ty c.args.a c.args.n (omega arith))

pub returns-else-n-width-clause-bits : goal.returns-else-n-width-clause-bits
returns-else-n-width-clause-bits c = has_bits-along (has_bits-shl_of c.args.ty c.args.a c.args.n) (returns-else-n-width-clause-value c)
