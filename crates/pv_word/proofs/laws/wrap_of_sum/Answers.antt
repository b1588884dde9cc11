use Rattle.pv_word.specs.Types.{width_of, is_signed_of}
use Rattle.pv_word.proofs.TypeLaws.{wide}
use Rattle.pv_word.proofs.WrapLaws.{wrap-sum}
use Rattle.pv_word.proofs.laws.wrap_of_sum.Goals as goal

pub returns : goal.returns
returns c =
    let ty = c.args.ty in
    λ a b. wrap-sum (width_of ty) (is_signed_of ty) (is_signed_of ty) (is_signed_of ty) a b (wide ty)
