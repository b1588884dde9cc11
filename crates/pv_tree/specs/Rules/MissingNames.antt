-- A name is not declared, or a field is missing. The place is that of the name, without a `#` before it.
use Rattle.std.specs.Prelude.{◌≡◌, ◌⊎◌, false, List, [], ◌∷◌, ◌++◌, flat_map, Any, option_to_list}
use Rattle.pv_place.specs.declared.place.Place.{Place}
use Rattle.pv_tree.specs.declared.stmt.Choice.{Choice}
use Rattle.pv_tree.specs.declared.stmt.Choice.TheVariants.{Lit, Const}
use Rattle.pv_tree.specs.Tree.{PlacedName, Choices, StmtTree, case_, for_, BranchTrees, no_branches, branches, BlockTree}
use Rattle.pv_tree.specs.Scopes.{ProjectTree, Scope}
use Rattle.pv_tree.specs.Things.{no_name, thing_of_word}
use Rattle.pv_tree.specs.Callees.{not_declared, callee_of}
use Rattle.pv_tree.specs.Parts.{Path, thing_of_path, paths_of, spots_of_body, calls_of}

-- the values of CASE: of each range both ends
abbrev pub values_of_choices : Choices → List Choice
values_of_choices choices = flat_map (λ c. c.0 ∷ option_to_list c.1) choices

abbrev pub values_of_branches : BranchTrees → List Choice
values_of_branches no_branches = []
values_of_branches (branches values body more) = values_of_choices values ++ values_of_branches more

abbrev pub values_of_case : StmtTree → List Choice
values_of_case (case_ selector choices other place) = values_of_branches choices
values_of_case s = []

abbrev pub name_of_choice : Choice → List PlacedName
name_of_choice (Lit l) = []
name_of_choice (Const name place) = (name, place) ∷ []

-- the variable of a FOR
abbrev pub counter_of : StmtTree → List PlacedName
counter_of (for_ name place first last by body at) = (name, place) ∷ []
counter_of s = []

-- the words that a statement names by itself: the variable of a FOR, and the constants among the values of a CASE
abbrev pub words_of : StmtTree → List PlacedName
words_of s = counter_of s ++ flat_map name_of_choice (values_of_case s)

-- a path of names comes to one that isn't there
abbrev pub MissesName : Scope → List Path → Place → Type 0
MissesName scope paths place = Any (λ p. thing_of_path scope p ≡ no_name place) paths

abbrev pub IsMissingIn : ProjectTree → Place → BlockTree → Type 0
IsMissingIn project place block =
    MissesName scope (paths_of project block) place
    ⊎ (Any (λ s. callee_of scope s ≡ not_declared place) (calls_of block)
    ⊎ Any (λ s. Any (λ n. thing_of_word scope n.0.key false n.1 ≡ no_name place) (words_of s.stmt))
    (spots_of_body block.body))
  where
    scope : Scope
    scope = record { project = project; block = block }

abbrev pub IsMissingName : ProjectTree → Place → Type 0
IsMissingName project place = Any (IsMissingIn project place) project.blocks
