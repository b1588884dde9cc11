use Rattle.std.proofs.Common.{subst}
use Rattle.pv_word.specs.Range.{IsInRange}
use Rattle.pv_word.specs.Types.{width_of}
use Rattle.pv_word.proofs.PatternLaws.{sign-not_negative, sign-negative}
use Rattle.pv_word.proofs.TypeLaws.{wide}
use Rattle.pv_word.proofs.laws.highest_bit_is_the_sign.Goals as goal

pub returns : goal.returns
returns c =
    let ty = c.args.ty in
    record {
      not_negative = λ v e h k. sign-not_negative (width_of ty) v (wide ty) (subst (λ s. IsInRange (width_of ty) s v) e h) k;
      negative = λ v e h k. sign-negative (width_of ty) v (wide ty) (subst (λ s. IsInRange (width_of ty) s v) e h) k;
    }
