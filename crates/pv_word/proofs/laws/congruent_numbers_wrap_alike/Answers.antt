use Rattle.pv_word.specs.Types.{is_signed_of}
use Rattle.pv_word.proofs.TypeLaws.{wide}
use Rattle.pv_word.proofs.WrapLaws.{wrap-congruent_same}
use Rattle.pv_word.proofs.laws.congruent_numbers_wrap_alike.Goals as goal

pub returns : goal.returns
returns c = λ a b h. wrap-congruent_same (is_signed_of c.args.ty) (wide c.args.ty) h
