use Rattle.pv_word.specs.Types.{width_of, is_signed_of}
use Rattle.pv_word.proofs.PatternLaws.{pattern-not_negative, pattern-negative}
use Rattle.pv_word.proofs.TypeLaws.{wide}
use Rattle.pv_word.proofs.laws.value_by_pattern.Goals as goal

pub returns : goal.returns
returns c =
    let ty = c.args.ty in
    record {
      not_negative = λ v h k. pattern-not_negative (width_of ty) (is_signed_of ty) v (wide ty) h k;
      negative = λ v h k. pattern-negative (width_of ty) (is_signed_of ty) v (wide ty) h k;
    }
