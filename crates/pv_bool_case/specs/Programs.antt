-- The Boolean program of a block with a pattern, as an answer, and of which texts it is made.
use Rattle.std.specs.Prelude.{◌≡◌, ◌↔◌, ℕ, List, All, Option, Some, IsSome, IfSome, slice_get}
use Rattle.pv_tree.specs.Tree.{ExprTree, OperandTree, BlockTree}
use Rattle.pv_tree.specs.Scopes.{ProjectTree}
use Rattle.pv_bool.specs.declared.program.Program.{Program}
use Rattle.pv_bool.specs.Programs.{program_tree}
use Rattle.pv_bool_form.specs.FirstForm.{IsFirstBlock, IsFirstOperand, IsFirstPattern}
use Rattle.pv_bool_form.specs.Programs.{first_source, pattern_program}
use Rattle.pv_case.specs.declared.case.PatternKind.{PatternKind}
use Rattle.pv_pattern.specs.Patterns.{Pattern}
use Rattle.pv_pattern.specs.Texts.{Says}
use Rattle.pv_pattern_read.specs.Kinds.{IsReadPattern}

-- the texts are a pattern of this kind over the names of the block of this number
pub record AreAPattern (project : ProjectTree) (entry : ℕ) (kind : PatternKind) (texts : List (List ℕ)) : Type 0 where
  pub entered : BlockTree
  pub there : slice_get project.blocks entry ≡ Some entered
  pub pattern : Pattern
  pub reads : IsReadPattern (record { project = project; block = entered }) kind texts pattern

-- the text says something of a scan over these names
pub record IsSaid (project : ProjectTree) (entry : ℕ) (text : List ℕ) : Type 0 where
  pub entered : BlockTree
  pub there : slice_get project.blocks entry ≡ Some entered
  pub e : ExprTree
  pub says : Says (record { project = project; block = entered }) text e

-- a program is there exactly where the block and the pattern are of the form, and it is theirs, whichever of the block's words patterns
-- name besides and whatever the bound of loops
pub record IsMadeOf (block : BlockTree) (p : Pattern) (made : Option Program) : Type 0 where
  pub is_first : IsSome made ↔ (IsFirstBlock block × IsFirstPattern block.vars p)
  pub program : IfSome made (λ program. (patterns : List OperandTree) (bound : ℕ)
      → All (IsFirstOperand block.vars) patterns
      → program_tree program ≡ pattern_program (first_source block patterns bound) p)
