-- The places that a block's statements and instructions keep, with those of the blocks that its calls run; and where what can trap stops.
use Rattle.std.specs.Prelude.{◌≡◌, ◌⊎◌, ⊤, ℕ, zero, suc, List, [], ◌∷◌, IsSomeAnd}
use Rattle.pv_place.specs.declared.place.Place.{Place}
use Rattle.pv_tree.specs.Tree.{ExprTree, lit, read, unary, binary, std, paren, ExprTrees, no_exprs, exprs, OperandTree, operand, StepTree, field, index, StepTrees, no_steps, steps, ArgTree, CallPlain, InstrTree, StmtTree, assign, assign_call, if_, case_, for_, while_, repeat_, exit_, continue_, return_, call_, empty_, StmtTrees, no_stmts, stmts, ArmTrees, no_arms, arms, BranchTrees, no_branches, branches, ElseTree, no_else, else_, BodyTree, scl, stl, starts, BlockTree}
use Rattle.pv_tree.specs.Scopes.{ProjectTree}
use Rattle.pv_tree.specs.Callees.{as_statement, as_value, CallSite, Callee, runs, not_declared, not_callable, unknown, callee_of}
use Rattle.pv_mean.specs.Placed.{call_placed}
use Rattle.pv_mean.specs.Instructions.{site_of}
use Rattle.pv_mean.specs.Endings.{Ended, ended, trapped, over}

-- ---- places of expressions, operands and calls

abbrev mutual
  pub InExpr : Place → ExprTree → Type 0
  InExpr p (lit ty value place) = p ≡ place
  InExpr p (read o) = InOperand p o
  InExpr p (unary op place arg) = (p ≡ place) ⊎ InExpr p arg
  InExpr p (binary op place left right) = (p ≡ place) ⊎ (InExpr p left ⊎ InExpr p right)
  InExpr p (std function place args) = (p ≡ place) ⊎ InExprs p args
  InExpr p (paren place inner) = (p ≡ place) ⊎ InExpr p inner

  pub InExprs : Place → ExprTrees → Type 0
  InExprs p no_exprs = ⊥
  InExprs p (exprs e more) = InExpr p e ⊎ InExprs p more

  pub InOperand : Place → OperandTree → Type 0
  InOperand p (operand root more place) = (p ≡ place) ⊎ InSteps p more

  pub InSteps : Place → StepTrees → Type 0
  InSteps p no_steps = ⊥
  InSteps p (steps step more) = InStep p step ⊎ InSteps p more

  pub InStep : Place → StepTree → Type 0
  InStep p (field name place) = p ≡ place
  InStep p (index e place) = (p ≡ place) ⊎ InExpr p e

abbrev pub InArgs : Place → List ArgTree → Type 0
InArgs p [] = ⊥
InArgs p (arg ∷ more) = InExpr p arg.value ⊎ InArgs p more

abbrev pub InCall : Place → CallPlain → Type 0
InCall p call = (p ≡ call.place) ⊎ InArgs p call.args

-- ---- places of statements, by what is one of a call's besides its own

abbrev pub Besides : Type 1
Besides = CallSite → Place → Type 0

abbrev mutual
  pub InStmt : Besides → Place → StmtTree → Type 0
  InStmt C p (assign target place value) = (p ≡ place) ⊎ (InOperand p target ⊎ InExpr p value)
  InStmt C p (assign_call target place call) = (p ≡ place) ⊎ (InOperand p target
      ⊎ (InCall p call ⊎ C (record { how = as_value; call = call }) p))
  InStmt C p (if_ conditions other place) =
      (p ≡ place) ⊎ (InArms C p conditions ⊎ InElse C p other)
  InStmt C p (case_ selector choices other place) =
      (p ≡ place) ⊎ (InExpr p selector ⊎ (InBranches C p choices ⊎ InElse C p other))
  InStmt C p (for_ name name_place first last by body place) =
      (p ≡ place) ⊎ ((p ≡ name_place) ⊎ (InExpr p first ⊎ (InExpr p last ⊎ InStmts C p body)))
  InStmt C p (while_ condition body place) =
      (p ≡ place) ⊎ (InExpr p condition ⊎ InStmts C p body)
  InStmt C p (repeat_ body condition place) =
      (p ≡ place) ⊎ (InStmts C p body ⊎ InExpr p condition)
  InStmt C p (exit_ place) = p ≡ place
  InStmt C p (continue_ place) = p ≡ place
  InStmt C p (return_ place) = p ≡ place
  InStmt C p (call_ call) = InCall p call ⊎ C (record { how = as_statement; call = call }) p
  InStmt C p (empty_ place) = p ≡ place

  pub InStmts : Besides → Place → StmtTrees → Type 0
  InStmts C p no_stmts = ⊥
  InStmts C p (stmts s more) = InStmt C p s ⊎ InStmts C p more

  pub InArms : Besides → Place → ArmTrees → Type 0
  InArms C p no_arms = ⊥
  InArms C p (arms condition body more) =
      InExpr p condition ⊎ (InStmts C p body ⊎ InArms C p more)

  pub InBranches : Besides → Place → BranchTrees → Type 0
  InBranches C p no_branches = ⊥
  InBranches C p (branches choices body more) = InStmts C p body ⊎ InBranches C p more

  pub InElse : Besides → Place → ElseTree → Type 0
  InElse C p no_else = ⊥
  InElse C p (else_ body) = InStmts C p body

-- ---- places of instructions: the word, the label where a turn too many would begin, and the call as it is made

abbrev pub InInstruction : Besides → Place → InstrTree → Type 0
InInstruction C p i = (p ≡ i.place) ⊎ (IsSomeAnd i.label (λ l. p ≡ l.1)
    ⊎ IsSomeAnd i.call (λ call. InCall p (call_placed call) ⊎ C (site_of i call) p))

abbrev pub InInstructions : Besides → Place → List InstrTree → Type 0
InInstructions C p [] = ⊥
InInstructions C p (i ∷ more) = InInstruction C p i ⊎ InInstructions C p more

-- ---- places of a block and of those that calls lead to

-- values of a data block aren't run
abbrev pub InBody : Besides → Place → BodyTree → Type 0
InBody C p (scl statements) = InStmts C p statements
InBody C p (stl instructions) = InInstructions C p instructions
InBody C p (starts values) = ⊥

abbrev pub InCallee : (BlockTree → Type 0) → Callee → Type 0
InCallee P (runs block) = P block
InCallee P (not_declared place) = ⊥
InCallee P (not_callable place) = ⊥
InCallee P unknown = ⊥

-- a place of the block's statements, or of a block to which at most so many calls lead from it
abbrev pub IsPlaceWithin : ProjectTree → ℕ → BlockTree → Place → Type 0
IsPlaceWithin project zero block p = InBody (λ site q. ⊥) p block.body
IsPlaceWithin project (suc n) block p =
    InBody (λ site q. InCallee (λ b. IsPlaceWithin project n b q)
    (callee_of (record { project = project; block = block }) site)) p block.body

-- ---- where something stops

-- it ends, or stops at such a place: by a trap, or where a loop would take one turn too many
abbrev pub StopsIn : {A : Type 0} → (Place → Type 0) → Ended A → Type 0
StopsIn P (ended a) = ⊤
StopsIn P (trapped kind place) = P place
StopsIn P (over place) = P place
