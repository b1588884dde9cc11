-- Parts of cells in a row, as they are laid out: among which cells one lies, and that two have none in common.
use Rattle.std.specs.Prelude.{◌≡◌, ◌⊎◌, ◌≤◌, ℕ, ◌+◌, Any, true, is_some, ⊤}
use Rattle.pv_types.specs.Tree.{TypeTree}
use Rattle.pv_types.specs.Named.{AllNamed}
use Rattle.pv_tree.specs.Tree.{field, index, StepTrees, no_steps, steps}
use Rattle.pv_tree.specs.Scopes.{ProjectTree}
use Rattle.pv_tree.specs.Types.{literal_of}
use Rattle.pv_tree.specs.Rules.MissingTypes.{named_types}
use Rattle.pv_mean.specs.Layout.{Laid, size_in}

-- all cells of the part are among so many from one on
pub record LiesIn (project : ProjectTree) (first count : ℕ) (laid : Laid) : Type 0 where
  pub from : first ≤ laid.first
  pub to : laid.first + size_in project laid.ty ≤ first + count

-- one ends before the other begins
abbrev pub AreApart : ProjectTree → Laid → Laid → Type 0
AreApart project a b =
    (a.first + size_in project a.ty ≤ b.first) ⊎ (b.first + size_in project b.ty ≤ a.first)

-- each type that is named in it is one that a block of the project names
abbrev pub NamesTypesOf : ProjectTree → TypeTree → Type 0
NamesTypesOf project ty =
    AllNamed (λ key. Any (λ b. Any (λ n. n.0.key ≡ key) (named_types b)) project.blocks) ty

-- each index is a literal
abbrev pub HasLiteralIndexes : StepTrees → Type 0
HasLiteralIndexes no_steps = ⊤
HasLiteralIndexes (steps (field name place) more) = HasLiteralIndexes more
HasLiteralIndexes (steps (index e place) more) =
    (is_some (literal_of e) ≡ true) × HasLiteralIndexes more
