use Rattle.pv_word.specs.Types.{width_of, is_signed_of}
use Rattle.pv_word.proofs.TypeLaws.{wide}
use Rattle.pv_word.proofs.WrapLaws.{wrap-wider}
use Rattle.pv_word.proofs.laws.wrap_of_wider.Goals as goal

pub returns : goal.returns
returns c =
    λ n h. wrap-wider (width_of c.args.ty) (width_of c.args.wider) (is_signed_of c.args.ty) (is_signed_of c.args.wider) n (wide c.args.ty) h
