-- What is made of a tree and put behind a program: it means the tree wherever it stands behind that.
use Rattle.std.specs.Prelude.{length}
use Rattle.pv_tree.specs.declared.stmt.Choice as tree
use Rattle.pv_tree.specs.Tree.{ExprTree, Choices, StmtTree, StmtTrees, ElseTree, BlockTree}
use Rattle.std.specs.Prelude.{Option}
use Rattle.pv_mean.specs.Sources.{Source}
use Rattle.pv_run.specs.declared.program.List as code
use Rattle.pv_run.specs.declared.program.Stmt.{Stmt}
use Rattle.pv_run.specs.declared.program.Arm.{Arm}
use Rattle.pv_run.specs.declared.program.Branch.{Branch}
use Rattle.pv_run.specs.declared.program.Choice.{Choice}
use Rattle.pv_run.specs.declared.program.Program.{Program}
use Rattle.pv_run.specs.Code.{IsValue, IsStmt, IsBody, IsElse, IsChoiceTo, AreChoices}

-- a statement that may stand behind those of the program
abbrev pub IsNext : Source → BlockTree → Program → Stmt → StmtTree → Type 0
IsNext source block p c s = IsStmt source block p (length p.stmts.items) c s

-- a list among the statements of the program
abbrev pub IsList : Source → BlockTree → Program → code.List → StmtTrees → Type 0
IsList source block p l trees = IsBody source block p (length p.stmts.items) l trees

abbrev pub IsOther : Source → BlockTree → Program → code.List → ElseTree → Type 0
IsOther source block p l other = IsElse source block p (length p.stmts.items) l other

pub record IsArm (source : Source) (block : BlockTree) (p : Program) (a : Arm)
    (t : ExprTree × StmtTrees) : Type 0 where
  pub condition : IsValue source block p a.condition t.0
  pub body : IsList source block p a.body t.1

pub record IsBranch (source : Source) (block : BlockTree) (p : Program) (b : Branch)
    (t : Choices × StmtTrees) : Type 0 where
  pub choices : AreChoices block p b.choices.first b.choices.end t.0
  pub body : IsList source block p b.body t.1

abbrev pub IsRange : BlockTree → Choice → tree.Choice × Option tree.Choice → Type 0
IsRange block c t = IsChoiceTo block c t.0 t.1
