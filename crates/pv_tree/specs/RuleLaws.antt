-- What follows of the rules for a project that keeps them.
use Rattle.std.specs.Prelude.{◌≢◌, length, is_some, None, Contains, IsTrue, ⊤}
use Rattle.std.specs.List.{AllByRecursion}
use Rattle.pv_place.specs.declared.place.Place.{Place}
use Rattle.pv_types.specs.Named.{NestsWithin, AreGrounded}
use Rattle.pv_tree.specs.Tree.{PlacedName, ExprTree, BlockTree}
use Rattle.pv_tree.specs.LiteralTypes.{Want, nothing}
use Rattle.pv_tree.specs.Sorts.{taken, own_type}
use Rattle.pv_tree.specs.Scopes.{ProjectTree, Scope, type_named}
use Rattle.pv_tree.specs.NamedTypes.{types_of_project}
use Rattle.pv_tree.specs.Types.{sort_of, type_of, is_index_type, lies_in}
use Rattle.pv_tree.specs.Callees.{CallSite, Callee, runs, not_declared, not_callable, unknown, callee_of}
use Rattle.pv_tree.specs.Parts.{Part, parts_of, parts_of_block, Path, IndexAt, paths_of, indexes_of, calls_of}
use Rattle.pv_tree.specs.Rules.{Rule, BreaksInPattern}
use Rattle.pv_tree.specs.Rules.MissingTypes.{named_types, Holds}
use Rattle.pv_tree.specs.Rules.Chains.{Runs, LeadsTo, EndsChain}

-- each type that a block names is there, and doesn't contain itself
pub record TypesAreGrounded (project : ProjectTree) : Type 0 where
  pub there : (block : BlockTree) (name : PlacedName) → Contains project.blocks block → Contains
      (named_types block) name → type_named project name.0.key ≢ None
  pub ends : (block : BlockTree) (name : PlacedName) → Contains project.blocks block → Contains
      (named_types block) name → Holds project name.0.key name.0.key → ⊥

-- so declarations can be laid out: the types that a block's declarations name are there, and no more of them stand inside each
-- other than there are, nor in the type that a data block is of
pub record TypesNest (project : ProjectTree) : Type 0 where
  pub vars : (block : BlockTree) → Contains project.blocks block → AreGrounded
      (types_of_project project) block.vars
  pub named : (block : BlockTree) (name : PlacedName) → Contains project.blocks block → Contains
      (named_types block) name
      → NestsWithin (types_of_project project) (length (types_of_project project)) name.0.key

-- each call runs a block
abbrev pub RunsOne : Callee → Type 0
RunsOne (runs block) = ⊤
RunsOne (not_declared place) = ⊥
RunsOne (not_callable place) = ⊥
RunsOne unknown = ⊥

pub record CallsRun (project : ProjectTree) : Type 0 where
  pub runs_one : (block : BlockTree) (s : CallSite) → Contains project.blocks block → Contains
      (calls_of block) s → RunsOne (callee_of (record { project = project; block = block }) s)

-- no block is reached again from a call in it, and no chain of calls has a ninth block
pub record CallsAreBounded (project : ProjectTree) : Type 0 where
  pub no_return : (caller callee : BlockTree) (s : CallSite) → Contains project.blocks caller
      → Contains (calls_of caller) s → Runs project caller callee s → LeadsTo project callee caller
      → ⊥
  pub no_ninth : (block : BlockTree) → EndsChain project 8 block → ⊥

-- an index of a block that is an INT or a DINT lies in the bounds where it is a literal
abbrev pub IndexesLie : ProjectTree → Type 0
IndexesLie project = (block : BlockTree) (p : Path) (i : IndexAt)
    → Contains project.blocks block → Contains (paths_of project block) p → Contains (indexes_of
    (record { project = project; block = block }) p) i
    → IsTrue (is_index_type (own_type (taken nothing (sort_of
    (record { project = project; block = block }) i.index))))
    → IsTrue (lies_in i.within (sort_of (record { project = project; block = block }) i.index))

-- an expression has a type by what is wanted of it
abbrev pub HasType : Scope → Part → Type 0
HasType scope p = IsTrue (is_some (type_of scope p.want p.expr))

-- where an expression has a type, so has each expression in it, in its indexes too, by what is wanted of that one
abbrev pub PartsHaveTypes : Type 0
PartsHaveTypes = (scope : Scope) (want : Want) (e : ExprTree) → HasType scope
    (record { want = want; expr = e }) → AllByRecursion (HasType scope) (parts_of scope want e)

-- each expression of a block has a type by what is wanted of it
abbrev pub EachHasType : ProjectTree → Type 0
EachHasType project = (block : BlockTree) (p : Part) → Contains project.blocks block → Contains
    (parts_of_block project block) p → HasType (record { project = project; block = block }) p

-- a pattern's expression over the names of a block has a type, where it breaks no rule
abbrev pub PatternsHaveTypes : ProjectTree → Type 0
PatternsHaveTypes project = (block : BlockTree) (e : ExprTree) → Contains project.blocks block
    → ((rule : Rule) (at : Place) → BreaksInPattern rule (record {
      project = project;
      block = block;
    }) e at → ⊥)
    → HasType (record { project = project; block = block }) (record { want = nothing; expr = e })
