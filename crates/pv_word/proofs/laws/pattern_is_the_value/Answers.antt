use Rattle.std.proofs.Common.{◌∙◌}
use Rattle.pv_word.specs.Types.{width_of, is_signed_of}
use Rattle.pv_word.proofs.BitLaws.{pattern-congruent, pattern-lt, wrap-pattern}
use Rattle.pv_word.proofs.TypeLaws.{wide}
use Rattle.pv_word.proofs.WrapLaws.{wrap-own}
use Rattle.pv_word.proofs.laws.pattern_is_the_value.Goals as goal

pub returns : goal.returns
returns c =
    let ty = c.args.ty in
    record {
      congruent = λ v. pattern-congruent (width_of ty) v;
      short = λ v. pattern-lt (width_of ty) v;
      back = λ v h. wrap-pattern (width_of ty) (is_signed_of ty) v (wide ty) ∙ wrap-own (wide ty) h;
    }
