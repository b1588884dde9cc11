use Rattle.pv_word.proofs.TypeLaws.{wide}
use Rattle.pv_word.proofs.WrapLaws.{wrap-own}
use Rattle.pv_word.proofs.laws.wrap_keeps_values.Goals as goal

pub returns : goal.returns
returns c = λ v h. wrap-own (wide c.args.ty) h
