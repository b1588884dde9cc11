-- What a program's arrays mean: values, targets, statements, calls and blocks.
use Rattle.std.specs.Prelude.{◌≡◌, ℕ, ◌+◌, ◌<◌, ◌≤◌, List, [], ◌∷◌, length, slice_get, slice_index_or, Option, Some, None}
use Rattle.pv_place.specs.declared.place.Place.{Place}
use Rattle.pv_types.specs.declared.name.Name.{Name}
use Rattle.pv_types.specs.declared.declaration.Literal.{Literal}
use Rattle.pv_tree.specs.declared.stmt.Choice as tree
use Rattle.pv_tree.specs.Tree.{ExprTree, OperandTree, CallPlain, ArgTree, Choices, StmtTree, assign, assign_call, if_, case_, for_, while_, repeat_, exit_, continue_, return_, call_, empty_, StmtTrees, no_stmts, stmts, ArmTrees, no_arms, arms, BranchTrees, no_branches, branches, ElseTree, no_else, else_, InstrTree, BodyTree, scl, stl, starts, BlockTree}
use Rattle.pv_tree.specs.Callees.{as_statement, as_value, CallSite, Callee, runs, not_declared, not_callable, unknown, callee_of}
use Rattle.pv_tree.specs.Parts.{operand_of}
use Rattle.std.specs.List.{between}
use Rattle.pv_mean.specs.Sources.{Source}
use Rattle.pv_mean.specs.Spots as m
use Rattle.pv_mean.specs.Activations.{value_number, brief_count}
use Rattle.pv_mean.specs.Statements.{choice_value, step_of, counter}
use Rattle.pv_mean.specs.Calls.{instance_first}
use Rattle.pv_mean.specs.Instructions.{site_of}
use Rattle.pv_eval.specs.declared.expression.Expression.{Expression}
use Rattle.pv_eval.specs.declared.target.Target.{Target}
use Rattle.pv_eval.specs.Means.{activation}
use Rattle.pv_eval.specs.Ready.{Evaluates, Locates}
use Rattle.pv_eval.specs.Writes.{TypesOf}
use Rattle.pv_stl_run.specs.declared.instr.Instr.{Instr}
use Rattle.pv_stl_run.specs.declared.instr.Action.TheVariants as action
use Rattle.pv_stl_run.specs.Going.{AreInstrs, ranges_in}
use Rattle.pv_run.specs.declared.program.Span.{Span}
use Rattle.pv_run.specs.declared.program.List as code
use Rattle.pv_run.specs.declared.program.Stmt.{Stmt}
use Rattle.pv_run.specs.declared.program.Stmt.TheVariants as stmt
use Rattle.pv_run.specs.declared.program.Arm.{Arm}
use Rattle.pv_run.specs.declared.program.Branch.{Branch}
use Rattle.pv_run.specs.declared.program.Choice.{Choice}
use Rattle.pv_run.specs.declared.program.Counting.{Counting}
use Rattle.pv_run.specs.declared.program.First.{First}
use Rattle.pv_run.specs.declared.program.First.TheVariants as from
use Rattle.pv_run.specs.declared.program.Slot.{Slot}
use Rattle.pv_run.specs.declared.program.Slot.TheVariants as slot
use Rattle.pv_run.specs.declared.program.Inward.{Inward}
use Rattle.pv_run.specs.declared.program.Outward.{Outward}
use Rattle.pv_run.specs.declared.program.Called.{Called}
use Rattle.pv_run.specs.declared.program.Body.{Body}
use Rattle.pv_run.specs.declared.program.Body.TheVariants as body
use Rattle.pv_run.specs.declared.program.Code.{Code}
use Rattle.pv_run.specs.declared.program.Program.{Program}
use Rattle.pv_run.specs.Handing.{Handed, handed_in, handed_out, argument_of}

-- the code of the block of this number, if there is one
abbrev pub code_at : Program → ℕ → Option Code
code_at p n = slice_index_or p.blocks.items n None

-- ---- expressions and operands

-- the value of this number is the expression's, in each activation of the block
pub record IsValue (source : Source) (block : BlockTree) (p : Program) (n : ℕ)
    (e : ExprTree) : Type 0 where
  pub expression : Expression
  pub at : slice_get p.values.items n ≡ Some expression
  pub fits : expression.count ≤ p.scratch
  pub means : Evaluates source block expression e

pub record IsTarget (source : Source) (block : BlockTree) (p : Program) (n : ℕ)
    (o : OperandTree) : Type 0 where
  pub target : Target
  pub at : slice_get p.targets.items n ≡ Some target
  pub fits : target.count ≤ p.scratch
  pub locates : Locates source block target o

-- ---- the values of a CASE's branches

-- the ends of a choice; of one value both are it
pub record IsChoice (block : BlockTree) (c : Choice) (lo hi : tree.Choice) : Type 0 where
  pub low : (first : ℕ) → c.low ≡ choice_value (activation block first) lo
  pub high : (first : ℕ) → c.high ≡ choice_value (activation block first) hi

abbrev pub IsChoiceTo : BlockTree → Choice → tree.Choice → Option tree.Choice → Type 0
IsChoiceTo block c low None = IsChoice block c low low
IsChoiceTo block c low (Some high) = IsChoice block c low high

pub data AreChoices (block : BlockTree) (p : Program) : ℕ → ℕ → Choices → Type 0 where
  no_choice : {n : ℕ} → AreChoices block p n n []
  choice_then : {n m : ℕ} {low : tree.Choice} {high : Option tree.Choice} {more : Choices}
      (c : Choice)
      → slice_get p.choices.items n ≡ Some c → n < m → IsChoiceTo block c low high
      → AreChoices block p (n + 1) m more
      → AreChoices block p n m ((low, high) ∷ more)

-- ---- calls

abbrev pub first_of : ℕ → First → ℕ
first_of first (from.Own n) = first + n
first_of first (from.At n) = n

abbrev pub slot_spot : ℕ → Slot → m.Spot
slot_spot first (slot.Own n) = m.visible (first + n)
slot_spot first (slot.Brief ty n) = m.brief ty n
slot_spot first slot.Nowhere = m.nowhere

pub data AreInward (source : Source) (block : BlockTree) (p : Program) (site : CallSite)
    (callee : BlockTree) : ℕ → ℕ → List Handed → Type 0 where
  none_in : {n : ℕ} → AreInward source block p site callee n n []
  not_given : {n m : ℕ} {h : Handed} {more : List Handed} → argument_of site callee h ≡ None
      → AreInward source block p site callee n m more
      → AreInward source block p site callee n m (h ∷ more)
  given : {n m : ℕ} {h : Handed} {more : List Handed} (c : Inward) (arg : ArgTree)
      → slice_get p.inward.items n ≡ Some c → n < m → argument_of site callee h ≡ Some arg
      → IsValue source block p c.value arg.value
      → ((first : ℕ) → slot_spot first c.to ≡ h.spot first)
      → AreInward source block p site callee (n + 1) m more
      → AreInward source block p site callee n m (h ∷ more)

-- where a parameter goes, if its argument is an operand
abbrev pub GoesTo : Source → BlockTree → Program → Option ℕ → Option OperandTree → Type 0
GoesTo source block p None None = Unit {0}
GoesTo source block p None (Some o) = ⊥
GoesTo source block p (Some n) None = ⊥
GoesTo source block p (Some n) (Some o) = IsTarget source block p n o

pub data AreOutward (source : Source) (block : BlockTree) (p : Program) (site : CallSite)
    (callee : BlockTree) : ℕ → ℕ → List Handed → Type 0 where
  none_out : {n : ℕ} → AreOutward source block p site callee n n []
  not_taken : {n m : ℕ} {h : Handed} {more : List Handed} → argument_of site callee h ≡ None
      → AreOutward source block p site callee n m more
      → AreOutward source block p site callee n m (h ∷ more)
  taken : {n m : ℕ} {h : Handed} {more : List Handed} (c : Outward) (arg : ArgTree)
      → slice_get p.outward.items n ≡ Some c → n < m → argument_of site callee h ≡ Some arg
      → GoesTo source block p c.to (operand_of arg.value)
      → ((first : ℕ) → slot_spot first c.from ≡ h.spot first)
      → AreOutward source block p site callee (n + 1) m more
      → AreOutward source block p site callee n m (h ∷ more)

-- a call that runs a block of the project, of which there is code
pub record RunsBlock (source : Source) (block : BlockTree) (p : Program) (call : Called)
    (site : CallSite) (n : ℕ) (callee : BlockTree) : Type 0 where
  pub number : slice_get source.project.blocks n ≡ Some callee
  pub made : (c : Code) × (code_at p n ≡ Some c)
  pub first : (k : ℕ) → first_of k call.first ≡ instance_first source (activation block k) site.call
  pub inward : AreInward source block p site callee call.inward.first call.inward.end
      (handed_in source callee)
  pub outward : AreOutward source block p site callee call.outward.first call.outward.end
      (handed_out source site.how callee)
  pub place : call.place ≡ site.call.place

-- what a call comes to, and the number of the block, if there is one
abbrev pub RunsSo : Source → BlockTree → Program → Called → CallSite → Option ℕ → Callee → Type 0
RunsSo source block p call site None (runs callee) = ⊥
RunsSo source block p call site None (not_declared place) = Unit {0}
RunsSo source block p call site None (not_callable place) = Unit {0}
RunsSo source block p call site None unknown = Unit {0}
RunsSo source block p call site (Some n) (runs callee) = RunsBlock source block p call site n callee
RunsSo source block p call site (Some n) (not_declared place) = ⊥
RunsSo source block p call site (Some n) (not_callable place) = ⊥
RunsSo source block p call site (Some n) unknown = ⊥

pub record IsCall (source : Source) (block : BlockTree) (p : Program) (c : ℕ)
    (site : CallSite) : Type 0 where
  pub call : Called
  pub at : slice_get p.calls.items c ≡ Some call
  pub runs : RunsSo source block p call site call.block
      (callee_of (record { project = source.project; block = block }) site)

-- ---- statements

-- a FOR's counting
pub record Counts (source : Source) (block : BlockTree) (p : Program) (c : Counting) (name : Name)
    (at : Place) (a b : ExprTree) (step : Option Literal) : Type 0 where
  pub first : IsValue source block p c.first a
  pub last : IsValue source block p c.last b
  pub variable : IsTarget source block p c.variable (counter name at)
  pub place : c.variable_place ≡ at
  pub by : c.by ≡ step_of step

mutual
  -- the statement of this number
  pub data IsStmt (source : Source) (block : BlockTree) (p : Program) : ℕ → Stmt → StmtTree
      → Type 0 where
    assigns : {k v t : ℕ} {target : OperandTree} {place : Place} {e : ExprTree}
        → IsValue source block p v e → IsTarget source block p t target
        → IsStmt source block p k (stmt.Assign v t) (assign target place e)
    assigns_call : {k c t : ℕ} {target : OperandTree} {place : Place} {call : CallPlain}
        → IsCall source block p c (record { how = as_value; call = call })
        → IsTarget source block p t target
        → IsStmt source block p k (stmt.AssignCall c t call.place) (assign_call target place call)
    decides : {k : ℕ} {a : Span} {other : code.List} {conditions : ArmTrees} {els : ElseTree} {place
        : Place}
        → AreArms source block p k a.first a.end conditions → IsElse source block p k other els
        → IsStmt source block p k (stmt.If a other) (if_ conditions els place)
    selects : {k s : ℕ} {b : Span} {other : code.List} {selector : ExprTree} {choices : BranchTrees}
        {els : ElseTree} {place : Place}
        → IsValue source block p s selector → AreBranches source block p k b.first b.end choices
        → IsElse source block p k other els
        → IsStmt source block p k (stmt.Case s b other) (case_ selector choices els place)
    counts : {k : ℕ} {c : Counting} {body : code.List} {name : Name} {name_place : Place} {first
        last : ExprTree} {by : Option Literal} {trees : StmtTrees} {place : Place}
        → Counts source block p c name name_place first last by → IsBody source block p k body trees
        → IsStmt source block p k (stmt.For c body place)
        (for_ name name_place first last by trees place)
    goes_while : {k c : ℕ} {body : code.List} {condition : ExprTree} {trees : StmtTrees} {place :
        Place}
        → IsValue source block p c condition → IsBody source block p k body trees
        → IsStmt source block p k (stmt.While c body place) (while_ condition trees place)
    repeats : {k c : ℕ} {body : code.List} {condition : ExprTree} {trees : StmtTrees} {place :
        Place}
        → IsBody source block p k body trees → IsValue source block p c condition
        → IsStmt source block p k (stmt.Repeat body c place) (repeat_ trees condition place)
    exits : {k : ℕ} {place : Place} → IsStmt source block p k stmt.Exit (exit_ place)
    continues : {k : ℕ} {place : Place} → IsStmt source block p k stmt.Continue (continue_ place)
    returns : {k : ℕ} {place : Place} → IsStmt source block p k stmt.Return (return_ place)
    calls : {k c : ℕ} {call : CallPlain} → IsCall source block p c
        (record { how = as_statement; call = call })
        → IsStmt source block p k (stmt.Call c) (call_ call)
    nothing : {k : ℕ} {place : Place} → IsStmt source block p k stmt.Empty (empty_ place)

  -- the statements from a number up to before another
  pub data AreStmts (source : Source) (block : BlockTree) (p : Program) : ℕ → ℕ → StmtTrees
      → Type 0 where
    no_stmt : {n : ℕ} → AreStmts source block p n n no_stmts
    stmt_then : {n m : ℕ} {s : StmtTree} {more : StmtTrees} (c : Stmt)
        → slice_get p.stmts.items n ≡ Some c → n < m
        → IsStmt source block p n c s → AreStmts source block p (n + 1) m more
        → AreStmts source block p n m (stmts s more)

  -- a list that stands before a statement
  pub data IsBody (source : Source) (block : BlockTree) (p : Program) : ℕ → code.List → StmtTrees
      → Type 0 where
    body_before : {k : ℕ} {l : code.List} {trees : StmtTrees} → l.end ≤ k
        → AreStmts source block p l.first l.end trees
        → IsBody source block p k l trees

  pub data IsElse (source : Source) (block : BlockTree) (p : Program) : ℕ → code.List → ElseTree
      → Type 0 where
    nothing_else : {k : ℕ} {l : code.List} → IsBody source block p k l no_stmts
        → IsElse source block p k l no_else
    something_else : {k : ℕ} {l : code.List} {trees : StmtTrees} → IsBody source block p k l trees
        → IsElse source block p k l (else_ trees)

  pub data AreArms (source : Source) (block : BlockTree) (p : Program) : ℕ → ℕ → ℕ → ArmTrees
      → Type 0 where
    no_arm : {k n : ℕ} → AreArms source block p k n n no_arms
    arm_then : {k n m : ℕ} {condition : ExprTree} {body : StmtTrees} {more : ArmTrees} (a : Arm)
        → slice_get p.arms.items n ≡ Some a → n < m
        → IsValue source block p a.condition condition → IsBody source block p k a.body body
        → AreArms source block p k (n + 1) m more
        → AreArms source block p k n m (arms condition body more)

  pub data AreBranches (source : Source) (block : BlockTree) (p : Program) : ℕ → ℕ → ℕ → BranchTrees
      → Type 0 where
    no_branch : {k n : ℕ} → AreBranches source block p k n n no_branches
    branch_then : {k n m : ℕ} {choices : Choices} {body : StmtTrees} {more : BranchTrees}
        (b : Branch) → slice_get p.branches.items n ≡ Some b → n < m
        → AreChoices block p b.choices.first b.choices.end choices
        → IsBody source block p k b.body body
        → AreBranches source block p k (n + 1) m more
        → AreBranches source block p k n m (branches choices body more)

-- ---- blocks

-- where a body's statements end, if it has any
abbrev pub statements_end : Body → ℕ
statements_end (body.Statements l) = l.end
statements_end (body.Instructions s) = 0

abbrev pub instrs_in : Program → Span → List Instr
instrs_in p s = between s.first s.end p.instrs.items

-- a part of the instructions: each is what its code says, and the number of a call is that of the call that it makes
pub record HasInstrs (source : Source) (block : BlockTree) (p : Program) (s : Span)
    (all : List InstrTree) : Type 0 where
  pub ordered : s.first ≤ s.end
  pub within : s.end ≤ length p.instrs.items
  pub are : AreInstrs source block p.targets.items p.scratch (instrs_in p s) all
  pub ranges : ranges_in (instrs_in p s) ≤ p.ranges
  pub calls : (k c : ℕ) (code : Instr) (i : InstrTree) (call : CallPlain)
      → slice_get (instrs_in p s) k ≡ Some code → slice_get all k ≡ Some i
      → code.action ≡ action.Call c → i.call ≡ Some call
      → IsCall source block p c (site_of i call)

-- a body: statements of SCL, or instructions of STL
abbrev pub RunsBody : Source → BlockTree → Program → Body → BodyTree → Type 0
RunsBody source block p (body.Statements l) (scl trees) =
    AreStmts source block p l.first l.end trees
RunsBody source block p (body.Statements l) (stl instructions) = ⊥
RunsBody source block p (body.Statements l) (starts values) = l.first ≡ l.end
RunsBody source block p (body.Instructions s) (scl trees) = ⊥
RunsBody source block p (body.Instructions s) (stl instructions) =
    HasInstrs source block p s instructions
RunsBody source block p (body.Instructions s) (starts values) = ⊥

pub record IsCode (source : Source) (p : Program) (block : BlockTree) (c : Code) : Type 0 where
  pub brief : c.brief ≡ brief_count source block
  pub widest : c.brief ≤ p.widest
  pub within : statements_end c.body ≤ length p.stmts.items
  pub value : c.value ≡ value_number source block
  pub body : RunsBody source block p c.body block.body

-- the program of a source: of the block that is entered there is code, and where there is code of a block it is that block's
pub record IsProgram (source : Source) (p : Program) : Type 0 where
  pub types : TypesOf source p.types.items
  pub bound : source.bound ≡ p.bound
  pub entry : slice_get source.project.blocks p.entry ≡ Some source.entry
  pub entered : (c : Code) × (code_at p p.entry ≡ Some c)
  pub code : (n : ℕ) (block : BlockTree) (c : Code) → slice_get source.project.blocks n ≡ Some block
      → code_at p n ≡ Some c → IsCode source p block c
