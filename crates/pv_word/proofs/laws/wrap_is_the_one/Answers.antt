use Rattle.pv_word.specs.Types.{width_of, is_signed_of}
use Rattle.pv_word.proofs.TypeLaws.{wide}
use Rattle.pv_word.proofs.WrapLaws.{wrap-is_wrap, wrap-unique}
use Rattle.pv_word.proofs.laws.wrap_is_the_one.Goals as goal

pub returns : goal.returns
returns c =
    let ty = c.args.ty in
    record {
      found = λ n. wrap-is_wrap (width_of ty) (is_signed_of ty) n (wide ty);
      alone = λ n r h. wrap-unique (wide ty) h;
    }
