-- The code's arguments of a function.
use Rattle.std.specs.Prelude.{◌≡◌, List, [], ◌∷◌}
use Rattle.pv_flow.specs.declared.term.Node.{Node}
use Rattle.pv_terms.specs.declared.function.Given.{Given}
use Rattle.pv_terms.specs.Forms.{Typed}
use Rattle.pv_terms.specs.Pushed.{IsAt}

-- each is the number of its term, with its type
abbrev pub AreGiven : List Node → List Given → List Typed → Type 0
AreGiven nodes [] [] = Unit {0}
AreGiven nodes [] (t ∷ ts) = ⊥
AreGiven nodes (g ∷ gs) [] = ⊥
AreGiven nodes (g ∷ gs) (t ∷ ts) = (g.ty ≡ t.ty) × IsAt nodes g.term t.term × AreGiven nodes gs ts
