use Rattle.std.proofs.Common.{◌≡◌, arith, ap, ◌∙◌}
use Rattle.std.specs.Int.{w128}
use Rattle.std.proofs.lemmas.Int.{ints, to_z-of_z}
use Rattle.pv_word.specs.Types.{width_of, pattern_of, wrap_of}
use Rattle.pv_word.proofs.BitLaws.{has_bits-along, has_bits-not_of, pattern-lt}
use Rattle.pv_word.proofs.bits.not.Goals as goal

pub returns-clause-value : goal.returns-clause-value
returns-clause-value c =
    let pattern : c.pattern.result ≡ pattern_of c.args.ty c.args.a = c.pattern.ensures ∙ ap (pattern_of c.args.ty) (to_z-of_z w128 c.args.a c.ranges.a) in
    let inside = pattern-lt (width_of c.args.ty) c.args.a in
    let modulus = to_z-of_z w128 c.modulus.result (record { sfits = c.modulus.type_inv }) ∙ c.modulus.ensures in
    to_z-of_z w128 c.wrap.result (record { sfits = c.wrap.type_inv }) ∙ c.wrap.ensures.value ∙ ap (wrap_of c.args.ty) (omega (arith, ints))

pub returns-clause-bits : goal.returns-clause-bits
returns-clause-bits c = has_bits-along (has_bits-not_of c.args.ty c.args.a) (returns-clause-value c)
