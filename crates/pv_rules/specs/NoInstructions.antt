-- Blocks that are none of instructions.
use Rattle.std.specs.Prelude.{◌≡◌, List, [], ◌∷◌, Bool as Truth, true, false, Contains}
use Rattle.pv_tree.specs.Tree.{BlockTree}
use Rattle.pv_tree.specs.Scopes.{ProjectTree}
use Rattle.pv_tree.specs.Parts.{instructions_of}

-- no block has a body of STL
abbrev pub ArePlain : List BlockTree → Type 0
ArePlain blocks = (b : BlockTree) → Contains blocks b → instructions_of b.body ≡ []

abbrev pub HasNoInstructions : ProjectTree → Type 0
HasNoInstructions project = ArePlain project.blocks

abbrev pub is_none : {X : Type 0} → List X → Truth
is_none [] = true
is_none (x ∷ xs) = false

abbrev pub is_plain : BlockTree → Truth
is_plain b = is_none (instructions_of b.body)
