-- What is run of a case of the first form.
use Rattle.std.specs.Prelude.{◌≡◌, ℕ, List, [], slice_get, Some}
use Rattle.pv_tree.specs.Tree.{OperandTree, BlockTree}
use Rattle.pv_tree.specs.Scopes.{ProjectTree}
use Rattle.pv_mean.specs.Cells.{View}
use Rattle.pv_mean.specs.Sources.{Source}
use Rattle.pv_pattern.specs.Patterns.{Pattern, expressions_of}
use Rattle.pv_pattern.specs.Texts.{AreNamed, Say}
use Rattle.pv_bool_form.specs.FirstForm.{IsFirstPattern}
use Rattle.pv_bool_form.specs.Programs.{first_source}
use Rattle.pv_bool_form.specs.Machines.{IsOfSource}
use Rattle.pv_bool_case.specs.Forms.{IsFirstAlone}

-- a project without symbols that is one block of the form, which is entered and of whose cells a case says nothing; the texts are a
-- pattern of the form over it, and name these addresses
pub record IsOneBlock (project : ProjectTree) (entered : BlockTree) (named : List OperandTree) (view : View) (texts : List (List ℕ))
    (p : Pattern) : Type 0 where
  pub alone : IsFirstAlone project.blocks
  pub symbols : project.symbols ≡ []
  pub number : ℕ
  pub is_entered : slice_get project.blocks number ≡ Some entered
  pub params : view.params ≡ []
  pub bound : view.bound ≡ []
  pub pattern : IsFirstPattern entered.vars p
  pub say : Say (record { project = project; block = entered }) texts (expressions_of p)
  pub are_named : AreNamed texts named

-- a source is that of the block alone, and its machine with the pattern does what that of the Boolean program does
pub record IsSourceOf (block : BlockTree) (turns : ℕ) (p : Pattern) (source : Source) : Type 0 where
  pub same : source ≡ first_source block [] turns
  pub machines : IsOfSource source p
