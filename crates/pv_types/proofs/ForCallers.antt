-- What proofs of the crates above take from here.
use Rattle.std.specs.Prelude.{◌≡◌, List, [], ◌∷◌, refl}
use Rattle.std.proofs.Common.{ap}
use Rattle.pv_types.specs.Tree.{VarTree, VarTrees, no_vars, _then_}
use Rattle.pv_types.specs.View.{listed, fields_of}
-- what a type, and a variable, of the code is as plain data, form by form
pub use Rattle.pv_types.proofs.Trees.{tree-array, tree-structure, array_seen, structure_seen, var_seen, vars_seen}
-- variables that are declared at once, one by one, and how many they are
pub use Rattle.pv_types.proofs.Words.{vars_from, mapped_from, counted, nameless, has_names, pushed, alike, word_in}
-- leaves: how many there are, what they start with, that their paths differ, and those of a named type
pub use Rattle.pv_types.proofs.Counting.{counted_leaves}
pub use Rattle.pv_types.proofs.Starting.{leaves_start}
pub use Rattle.pv_types.proofs.Differing.{paths_differ}
pub use Rattle.pv_types.proofs.Grounded.{named_laid_out, ranked_nests}

pub fields-of-listed : (vars : List VarTree) → fields_of (listed vars) ≡ vars
fields-of-listed [] = refl
fields-of-listed (x ∷ xs) = ap (λ l. x ∷ l) (fields-of-listed xs)

pub listed-fields : (fields : VarTrees) → listed (fields_of fields) ≡ fields
listed-fields no_vars = refl
listed-fields (_then_ x xs) = ap (λ l. _then_ x l) (listed-fields xs)
