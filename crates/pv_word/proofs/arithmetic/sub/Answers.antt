use Rattle.std.proofs.Common.{arith, ap, ◌∙◌}
use Rattle.std.specs.Int.{w128}
use Rattle.std.proofs.lemmas.Int.{ints, to_z-of_z}
use Rattle.pv_word.specs.Types.{wrap_of}
use Rattle.pv_word.proofs.TypeLaws.{value-within}
use Rattle.pv_word.proofs.arithmetic.sub.Goals as goal

pub returns-clause-value : goal.returns-clause-value
returns-clause-value c =
    let a = value-within c.args.ty c.args.a c.requires.a_in_range in
    let b = value-within c.args.ty c.args.b c.requires.b_in_range in
    to_z-of_z w128 c.wrap.result (record { sfits = c.wrap.type_inv }) ∙ c.wrap.ensures.value ∙ ap (wrap_of c.args.ty) (omega (arith, ints))
