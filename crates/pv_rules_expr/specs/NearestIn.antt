-- The nearest of the places that the elements of a list give.
use Rattle.std.specs.Prelude.{List, [], ◌∷◌, Option}
use Rattle.pv_place.specs.declared.place.Place.{Place}
use Rattle.pv_rules_expr.specs.Nearest.{nearer_of}

abbrev pub nearest_in : {X : Type 0} → (X → Option Place) → List X → Option Place → Option Place
nearest_in f [] nearest = nearest
nearest_in f (x ∷ xs) nearest = nearest_in f xs (nearer_of nearest (f x))
