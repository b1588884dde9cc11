use Rattle.std.proofs.Common.{◌∙◌}
use Rattle.pv_word.specs.Types.{width_of, is_signed_of}
use Rattle.pv_word.proofs.DivisionLaws.{least-by_minus_one}
use Rattle.pv_word.proofs.TypeLaws.{wide}
use Rattle.pv_word.proofs.WrapLaws.{wrap-congruent_same, wrap-own, least-in_range}
use Rattle.pv_word.proofs.laws.least_by_minus_one.Goals as goal

pub returns : goal.returns
returns c =
    let ty = c.args.ty in
    wrap-congruent_same (is_signed_of ty) (wide ty) (least-by_minus_one (width_of ty) (is_signed_of ty) (wide ty))
    ∙ wrap-own (wide ty) (least-in_range (width_of ty) (is_signed_of ty) (wide ty))
