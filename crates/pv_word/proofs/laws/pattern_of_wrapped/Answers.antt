use Rattle.pv_word.specs.Types.{width_of, is_signed_of}
use Rattle.pv_word.specs.Bits.{pattern_at}
use Rattle.pv_word.proofs.BitLaws.{pattern-wrap}
use Rattle.pv_word.proofs.TypeLaws.{wide}
use Rattle.pv_word.proofs.laws.pattern_of_wrapped.Goals as goal

pub returns : goal.returns
unfolding pattern_at
returns c = λ n. pattern-wrap (width_of c.args.ty) (is_signed_of c.args.ty) n (wide c.args.ty)
