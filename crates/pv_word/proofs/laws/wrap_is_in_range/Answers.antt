use Rattle.pv_word.specs.Types.{width_of, is_signed_of}
use Rattle.pv_word.proofs.TypeLaws.{wide}
use Rattle.pv_word.proofs.WrapLaws.{wrap-in_range}
use Rattle.pv_word.proofs.laws.wrap_is_in_range.Goals as goal

pub returns : goal.returns
returns c = λ n. wrap-in_range (width_of c.args.ty) (is_signed_of c.args.ty) n (wide c.args.ty)
