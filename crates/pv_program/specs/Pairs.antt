-- Two lists whose elements stand to one another, one by one.
use Rattle.std.specs.Prelude.{List, [], ◌∷◌}

pub data Pairs {C T : Type 0} (R : C → T → Type 0) : List C → List T → Type 0 where
  no_pair : Pairs R [] []
  pair_then : {c : C} {t : T} {cs : List C} {ts : List T} → R c t → Pairs R cs ts
      → Pairs R (c ∷ cs) (t ∷ ts)
