-- The code's indexes, and what its writes put.
use Rattle.std.specs.Prelude.{◌≡◌, ℕ, List, [], ◌∷◌}
use Rattle.pv_flow.specs.declared.term.Node.{Node}
use Rattle.pv_flow.specs.Terms.{Term}
use Rattle.pv_terms.specs.Pushed.{IsAt}
use Rattle.pv_access.specs.declared.access.Move.{Move as CodeMove}
use Rattle.pv_access.specs.declared.access.Writing.{Writing as CodeWriting}
use Rattle.pv_access.specs.declared.access.Writing.TheVariants.{Assign, Where}
use Rattle.pv_access.specs.Accesses.{Move, Writing, assigning, choosing}

pub record IsMove (nodes : List Node) (code : CodeMove) (m : Move) : Type 0 where
  pub index : IsAt nodes code.index m.index
  pub low : code.low ≡ m.low
  pub high : code.high ≡ m.high
  pub stride : code.stride ≡ m.stride

abbrev pub AreMoves : List Node → List CodeMove → List Move → Type 0
AreMoves nodes [] [] = Unit {0}
AreMoves nodes [] (m ∷ ms) = ⊥
AreMoves nodes (c ∷ codes) [] = ⊥
AreMoves nodes (c ∷ codes) (m ∷ ms) = IsMove nodes c m × AreMoves nodes codes ms

-- these terms are put
pub record Assigns (nodes : List Node) (n : ℕ) (w : Writing) : Type 0 where
  pub term : Term
  pub at : IsAt nodes n term
  pub is : w ≡ assigning term

pub record Chooses (nodes : List Node) (on n : ℕ) (w : Writing) : Type 0 where
  pub condition : Term
  pub term : Term
  pub holds : IsAt nodes on condition
  pub at : IsAt nodes n term
  pub is : w ≡ choosing condition term

abbrev pub IsWriting : List Node → CodeWriting → Writing → Type 0
IsWriting nodes (Assign n) w = Assigns nodes n w
IsWriting nodes (Where on n) w = Chooses nodes on n w
