use Rattle.std.proofs.Common.{arith, ◌∙◌, ap, pos}
use Rattle.std.specs.Int.{w128}
use Rattle.std.proofs.lemmas.Int.{ints, to_z-of_z}
use Rattle.pv_word.specs.Types.{is_signed_of, width_of, pattern_of}
use Rattle.pv_word.proofs.BitLaws.{wrap-low, wrap-high}
use Rattle.pv_word.proofs.TypeLaws.{wide}
use Rattle.pv_word.proofs.WrapLaws.{wrap-unique}
use Rattle.pv_word.proofs.wrapping.wrap.Goals as goal

pub returns-then-pattern-greatest-clause-one : goal.returns-then-pattern-greatest-clause-one
returns-then-pattern-greatest-clause-one c =
    let read = ap (pattern_of c.args.ty) (to_z-of_z w128 c.args.n c.ranges.n) in
    let pattern = to_z-of_z w128 c.from-pattern.result (record { sfits = c.from-pattern.type_inv }) ∙ c.from-pattern.ensures ∙ ap pos (c.pattern.ensures ∙ read) in
    let top = to_z-of_z w128 c.greatest.result (record { sfits = c.greatest.type_inv }) ∙ c.greatest.ensures in
    wrap-low (width_of c.args.ty) (is_signed_of c.args.ty) c.args.n _ (wide c.args.ty) pattern (omega (arith, ints))

pub returns-then-pattern-greatest-clause-value : goal.returns-then-pattern-greatest-clause-value
returns-then-pattern-greatest-clause-value c = wrap-unique (wide c.args.ty) (returns-then-pattern-greatest-clause-one c)

pub returns-else-pattern-greatest-clause-one : goal.returns-else-pattern-greatest-clause-one
returns-else-pattern-greatest-clause-one c =
    let read = ap (pattern_of c.args.ty) (to_z-of_z w128 c.args.n c.ranges.n) in
    let pattern = to_z-of_z w128 c.from-pattern.result (record { sfits = c.from-pattern.type_inv }) ∙ c.from-pattern.ensures ∙ ap pos (c.pattern.ensures ∙ read) in
    let top = to_z-of_z w128 c.greatest.result (record { sfits = c.greatest.type_inv }) ∙ c.greatest.ensures in
    let modulus = to_z-of_z w128 c.modulus.result (record { sfits = c.modulus.type_inv }) ∙ c.modulus.ensures in
    wrap-high (width_of c.args.ty) (is_signed_of c.args.ty) c.args.n _ (wide c.args.ty) (omega (arith, ints)) (omega (arith, ints))

pub returns-else-pattern-greatest-clause-in_range : goal.returns-else-pattern-greatest-clause-in_range
returns-else-pattern-greatest-clause-in_range c = (returns-else-pattern-greatest-clause-one c).in_range

pub returns-else-pattern-greatest-clause-value : goal.returns-else-pattern-greatest-clause-value
returns-else-pattern-greatest-clause-value c = wrap-unique (wide c.args.ty) (returns-else-pattern-greatest-clause-one c)
