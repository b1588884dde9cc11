use Rattle.std.proofs.Common.{◌≡◌, ◌∙◌, ap, arith}
use Rattle.std.specs.Int.{w64}
use Rattle.std.proofs.lemmas.Int.{to_z-of_z}
use Rattle.pv_word.specs.declared.types.Ty.TheVariants.{Byte}
use Rattle.pv_word.specs.Types.{pattern_of}
use Rattle.pv_word.proofs.ForCallers.{pattern-lt}
use Rattle.pv_eval.proofs.spot.byte_value.Goals as goal

pub returns-clause-short : goal.returns-clause-short
returns-clause-short c =
    let e : c.pattern.result ≡ pattern_of Byte c.visible_value.result = c.pattern.ensures.value ∙ ap (pattern_of Byte) (to_z-of_z w64 c.visible_value.result (record { sfits = c.visible_value.type_inv })) in
    omega (arith, e, pattern-lt 8 c.visible_value.result)
