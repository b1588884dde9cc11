-- Ranges of whole numbers: the values that one place of a state, an input or a list of parameters may have. A parameter that is
-- bound has a range of one value.
use Rattle.std.specs.Prelude.{List, [], ◌∷◌, ℤ, ◌≤ℤ◌, ⊤}
use Rattle.pv_word.specs.declared.types.Ty.{Ty}
use Rattle.pv_word.specs.Types.{least_of, greatest_of}

pub record Range : Type 0 where
  pub least : ℤ
  pub greatest : ℤ

-- the values of a type
abbrev pub range_of : Ty → Range
range_of ty = record { least = least_of ty; greatest = greatest_of ty }

-- one value alone
abbrev pub range_at : ℤ → Range
range_at v = record { least = v; greatest = v }

-- v lies in the range, its ends included
pub record IsWithin (range : Range) (v : ℤ) : Type 0 where
  pub from : range.least ≤ℤ v
  pub to : v ≤ℤ range.greatest

-- one value of each range, in order
abbrev pub AreWithin : List Range → List ℤ → Type 0
AreWithin [] [] = ⊤
AreWithin [] (v ∷ vs) = ⊥
AreWithin (range ∷ ranges) [] = ⊥
AreWithin (range ∷ ranges) (v ∷ vs) = IsWithin range v × AreWithin ranges vs
