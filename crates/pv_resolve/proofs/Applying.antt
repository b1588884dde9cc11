-- A function's node by the numbers of its arguments' nodes.
use Rattle.std.proofs.Common.{ℕ, ◌≤◌, List, [], ◌∷◌, length, get_or, refl, arith}
use Rattle.pv_word.specs.declared.types.Ty.{Ty}
use Rattle.pv_place.specs.declared.place.Place.{Place}
use Rattle.pv_eval.specs.declared.node.OneOp.{OneOp}
use Rattle.pv_eval.specs.declared.node.TwoOp.{TwoOp}
use Rattle.pv_eval.specs.declared.node.ThreeOp.{ThreeOp}
use Rattle.pv_eval.specs.declared.node.Node.TheVariants.{One, Two, Three}
use Rattle.pv_resolve.specs.Functions.{one_value, two_value, three_value, AppliesTo}

pub one_applies : (op : OneOp) (ty : Ty) (numbers : List ℕ) → 1 ≤ length numbers → AppliesTo numbers (One op ty (get_or numbers 0 0)) (one_value op ty)
one_applies op ty [] h = absurd (omega (arith, h))
one_applies op ty (a ∷ more) h = record {
  follows = λ before all. record { below = all 0 0 (omega arith); most = tt };
  value = λ first frame ws. refl;
}

pub two_applies : (op : TwoOp) (ty : Ty) (place : Place) (numbers : List ℕ) → 2 ≤ length numbers
    → AppliesTo numbers (Two op ty place (get_or numbers 0 0) (get_or numbers 1 0)) (two_value op ty place)
two_applies op ty place [] h = absurd (omega (arith, h))
two_applies op ty place (a ∷ []) h = absurd (omega (arith, h))
two_applies op ty place (a ∷ b ∷ more) h = record {
  follows = λ before all. record { below = (all 0 0 (omega arith), all 1 0 (omega arith)); most = tt };
  value = λ first frame ws. refl;
}

pub three_applies : (op : ThreeOp) (numbers : List ℕ) → 3 ≤ length numbers
    → AppliesTo numbers (Three op (get_or numbers 0 0) (get_or numbers 1 0) (get_or numbers 2 0)) (three_value op)
three_applies op [] h = absurd (omega (arith, h))
three_applies op (a ∷ []) h = absurd (omega (arith, h))
three_applies op (a ∷ b ∷ []) h = absurd (omega (arith, h))
three_applies op (a ∷ b ∷ c ∷ more) h = record {
  follows = λ before all. record { below = (all 0 0 (omega arith), all 1 0 (omega arith), all 2 0 (omega arith)); most = tt };
  value = λ first frame ws. refl;
}
