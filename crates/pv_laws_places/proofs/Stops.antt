-- A scan stops at a place of the project's blocks: each place that is listed of a block's statements and of those that its calls run is so
-- where each that the blocks keep is so.
use Rattle.std.proofs.Common.{◌≡◌, ◌⊎◌, inl, inr, ℕ, zero, suc, List, [], ◌∷◌, map, Option, Some, None, refl, sym, subst}
use Rattle.std.specs.Prelude.{Contains, IsSomeAnd}
use Rattle.std.specs.List.{AllByRecursion}
use Rattle.pv_place.specs.declared.place.Place.{Place}
use Rattle.pv_tree.specs.Tree.{PlacedName, ExprTree, lit, read, unary, binary, std, paren, ExprTrees, no_exprs, exprs, OperandTree, operand, StepTree, field, index, StepTrees, no_steps, steps, ArgTree, CallPlain, InstrTree, StmtTree, assign, assign_call, if_, case_, for_, while_, repeat_, exit_, continue_, return_, call_, empty_, StmtTrees, no_stmts, stmts, ArmTrees, no_arms, arms, BranchTrees, no_branches, branches, ElseTree, no_else, else_, BodyTree, scl, stl, starts, BlockTree}
use Rattle.pv_tree.specs.Scopes.{ProjectTree, Scope}
use Rattle.pv_tree.specs.Callees.{CallSite, Callee, runs, not_declared, not_callable, unknown, callee_of}
use Rattle.pv_tree.proofs.ForCallers.{run_block_in}
use Rattle.pv_mean.specs.Placed.{placed, all_placed, placed_operand, step_placed, steps_placed, arg_placed, call_placed}
use Rattle.pv_mean.specs.Instructions.{site_of}
use Rattle.pv_mean.specs.Endings.{Ended, ended, trapped, over}
use Rattle.pv_mean.specs.Sources.{Source}
use Rattle.pv_mean.specs.Frames.{Image, Input}
use Rattle.pv_mean.specs.Cells.{most_calls}
use Rattle.pv_mean.specs.Scans.{ScanEnd, scan, next_image}
use Rattle.pv_mean.specs.Runs.{after, run_from}
use Rattle.pv_laws_scans.specs.Places.{InExpr, InExprs, InOperand, InSteps, InStep, InArgs, InCall, Besides, InStmt, InStmts, InArms, InBranches, InElse, InInstruction, InInstructions, InBody, InCallee, IsPlaceWithin, StopsIn}
use Rattle.pv_laws_places.specs.Kept.{EachOfName, EachOfExpr, EachOfExprs, EachOfOperand, EachOfSteps, EachOfStep, EachOfArg, EachOfCall, EachOfCallOption, EachOfStmt, EachOfStmts, EachOfArms, EachOfBranches, EachOfElse, EachOfInstr, EachOfBody, EachOfBlock, EachOfBlocks}
use Rattle.pv_laws_places.proofs.Lists.{each-contained}

-- ---- expressions and calls

mutual
  expr-at : (P : Place → Type 0) (p : Place) (e : ExprTree) → EachOfExpr P e → InExpr p e → P p
  expr-at P p (lit ty value place) a i = subst P (sym i) a
  expr-at P p (read o) a i = operand-at P p o a i
  expr-at P p (unary op place arg) a (inl i) = subst P (sym i) a.0
  expr-at P p (unary op place arg) a (inr i) = expr-at P p arg a.1 i
  expr-at P p (binary op place left right) a (inl i) = subst P (sym i) a.0
  expr-at P p (binary op place left right) a (inr (inl i)) = expr-at P p left a.1.0 i
  expr-at P p (binary op place left right) a (inr (inr i)) = expr-at P p right a.1.1 i
  expr-at P p (std function place args) a (inl i) = subst P (sym i) a.0
  expr-at P p (std function place args) a (inr i) = exprs-at P p args a.1 i
  expr-at P p (paren place inner) a (inl i) = subst P (sym i) a.0
  expr-at P p (paren place inner) a (inr i) = expr-at P p inner a.1 i

  exprs-at : (P : Place → Type 0) (p : Place) (es : ExprTrees) → EachOfExprs P es → InExprs p es → P p
  exprs-at P p no_exprs a i = absurd i
  exprs-at P p (exprs e more) a (inl i) = expr-at P p e a.0 i
  exprs-at P p (exprs e more) a (inr i) = exprs-at P p more a.1 i

  operand-at : (P : Place → Type 0) (p : Place) (o : OperandTree) → EachOfOperand P o → InOperand p o → P p
  operand-at P p (operand root more place) a (inl i) = subst P (sym i) a.0
  operand-at P p (operand root more place) a (inr i) = steps-at P p more a.1.1 i

  steps-at : (P : Place → Type 0) (p : Place) (more : StepTrees) → EachOfSteps P more → InSteps p more → P p
  steps-at P p no_steps a i = absurd i
  steps-at P p (steps step more) a (inl i) = step-at P p step a.0 i
  steps-at P p (steps step more) a (inr i) = steps-at P p more a.1 i

  step-at : (P : Place → Type 0) (p : Place) (step : StepTree) → EachOfStep P step → InStep p step → P p
  step-at P p (field name place) a i = subst P (sym i) a
  step-at P p (index e place) a (inl i) = subst P (sym i) a.0
  step-at P p (index e place) a (inr i) = expr-at P p e a.1 i

args-at : (P : Place → Type 0) (p : Place) (args : List ArgTree) → AllByRecursion (EachOfArg P) args → InArgs p args → P p
args-at P p [] a i = absurd i
args-at P p (arg ∷ more) a (inl i) = expr-at P p arg.value a.0.its_value i
args-at P p (arg ∷ more) a (inr i) = args-at P p more a.1 i

call-at : (P : Place → Type 0) (p : Place) (call : CallPlain) → EachOfCall P call → InCall p call → P p
call-at P p call a (inl i) = subst P (sym i) a.its_own
call-at P p call a (inr i) = args-at P p call.args a.its_args i

-- a call as STL makes it has one place alone
mutual
  placed-at : (at p : Place) (e : ExprTree) → InExpr p (placed at e) → p ≡ at
  placed-at at p (lit ty value place) i = i
  placed-at at p (read o) i = placed-operand at p o i
  placed-at at p (unary op place arg) (inl i) = i
  placed-at at p (unary op place arg) (inr i) = placed-at at p arg i
  placed-at at p (binary op place left right) (inl i) = i
  placed-at at p (binary op place left right) (inr (inl i)) = placed-at at p left i
  placed-at at p (binary op place left right) (inr (inr i)) = placed-at at p right i
  placed-at at p (std function place args) (inl i) = i
  placed-at at p (std function place args) (inr i) = placed-exprs at p args i
  placed-at at p (paren place inner) (inl i) = i
  placed-at at p (paren place inner) (inr i) = placed-at at p inner i

  placed-exprs : (at p : Place) (es : ExprTrees) → InExprs p (all_placed at es) → p ≡ at
  placed-exprs at p no_exprs i = absurd i
  placed-exprs at p (exprs e more) (inl i) = placed-at at p e i
  placed-exprs at p (exprs e more) (inr i) = placed-exprs at p more i

  placed-operand : (at p : Place) (o : OperandTree) → InOperand p (placed_operand at o) → p ≡ at
  placed-operand at p (operand root more place) (inl i) = i
  placed-operand at p (operand root more place) (inr i) = placed-steps at p more i

  placed-steps : (at p : Place) (more : StepTrees) → InSteps p (steps_placed at more) → p ≡ at
  placed-steps at p no_steps i = absurd i
  placed-steps at p (steps step more) (inl i) = placed-step at p step i
  placed-steps at p (steps step more) (inr i) = placed-steps at p more i

  placed-step : (at p : Place) (step : StepTree) → InStep p (step_placed at step) → p ≡ at
  placed-step at p (field name place) i = i
  placed-step at p (index e place) (inl i) = i
  placed-step at p (index e place) (inr i) = placed-at at p e i

placed-args : (at p : Place) (args : List ArgTree) → InArgs p (map (arg_placed at) args) → p ≡ at
placed-args at p [] i = absurd i
placed-args at p (arg ∷ more) (inl i) = placed-at at p arg.value i
placed-args at p (arg ∷ more) (inr i) = placed-args at p more i

placed-call : (p : Place) (call : CallPlain) → InCall p (call_placed call) → p ≡ call.place
placed-call p call (inl i) = i
placed-call p call (inr i) = placed-args call.place p call.args i

-- ---- statements and instructions, where what is one of a call's besides its own is so

mutual
  stmt-at : (P : Place → Type 0) (C : Besides) → ((s : CallSite) (q : Place) → C s q → P q) → (p : Place) (s : StmtTree) → EachOfStmt P s
      → InStmt C p s → P p
  stmt-at P C known p (assign target place value) a (inl i) = subst P (sym i) a.0
  stmt-at P C known p (assign target place value) a (inr (inl i)) = operand-at P p target a.1.0 i
  stmt-at P C known p (assign target place value) a (inr (inr i)) = expr-at P p value a.1.1 i
  stmt-at P C known p (assign_call target place call) a (inl i) = subst P (sym i) a.0
  stmt-at P C known p (assign_call target place call) a (inr (inl i)) = operand-at P p target a.1.0 i
  stmt-at P C known p (assign_call target place call) a (inr (inr (inl i))) = call-at P p call a.1.1 i
  stmt-at P C known p (assign_call target place call) a (inr (inr (inr i))) = known _ p i
  stmt-at P C known p (if_ conditions other place) a (inl i) = subst P (sym i) a.0
  stmt-at P C known p (if_ conditions other place) a (inr (inl i)) = arms-at P C known p conditions a.1.0 i
  stmt-at P C known p (if_ conditions other place) a (inr (inr i)) = else-at P C known p other a.1.1 i
  stmt-at P C known p (case_ selector choices other place) a (inl i) = subst P (sym i) a.0
  stmt-at P C known p (case_ selector choices other place) a (inr (inl i)) = expr-at P p selector a.1.0 i
  stmt-at P C known p (case_ selector choices other place) a (inr (inr (inl i))) = branches-at P C known p choices a.1.1.0 i
  stmt-at P C known p (case_ selector choices other place) a (inr (inr (inr i))) = else-at P C known p other a.1.1.1 i
  stmt-at P C known p (for_ name name_place first last by body place) a (inl i) = subst P (sym i) a.0
  stmt-at P C known p (for_ name name_place first last by body place) a (inr (inl i)) = subst P (sym i) a.1.0
  stmt-at P C known p (for_ name name_place first last by body place) a (inr (inr (inl i))) = expr-at P p first a.1.1.0 i
  stmt-at P C known p (for_ name name_place first last by body place) a (inr (inr (inr (inl i)))) = expr-at P p last a.1.1.1.0 i
  stmt-at P C known p (for_ name name_place first last by body place) a (inr (inr (inr (inr i)))) = stmts-at P C known p body a.1.1.1.1.1 i
  stmt-at P C known p (while_ condition body place) a (inl i) = subst P (sym i) a.0
  stmt-at P C known p (while_ condition body place) a (inr (inl i)) = expr-at P p condition a.1.0 i
  stmt-at P C known p (while_ condition body place) a (inr (inr i)) = stmts-at P C known p body a.1.1 i
  stmt-at P C known p (repeat_ body condition place) a (inl i) = subst P (sym i) a.0
  stmt-at P C known p (repeat_ body condition place) a (inr (inl i)) = stmts-at P C known p body a.1.0 i
  stmt-at P C known p (repeat_ body condition place) a (inr (inr i)) = expr-at P p condition a.1.1 i
  stmt-at P C known p (exit_ place) a i = subst P (sym i) a
  stmt-at P C known p (continue_ place) a i = subst P (sym i) a
  stmt-at P C known p (return_ place) a i = subst P (sym i) a
  stmt-at P C known p (call_ call) a (inl i) = call-at P p call a i
  stmt-at P C known p (call_ call) a (inr i) = known _ p i
  stmt-at P C known p (empty_ place) a i = subst P (sym i) a

  stmts-at : (P : Place → Type 0) (C : Besides) → ((s : CallSite) (q : Place) → C s q → P q) → (p : Place) (list : StmtTrees)
      → EachOfStmts P list → InStmts C p list → P p
  stmts-at P C known p no_stmts a i = absurd i
  stmts-at P C known p (stmts s more) a (inl i) = stmt-at P C known p s a.0 i
  stmts-at P C known p (stmts s more) a (inr i) = stmts-at P C known p more a.1 i

  arms-at : (P : Place → Type 0) (C : Besides) → ((s : CallSite) (q : Place) → C s q → P q) → (p : Place) (list : ArmTrees)
      → EachOfArms P list → InArms C p list → P p
  arms-at P C known p no_arms a i = absurd i
  arms-at P C known p (arms condition body more) a (inl i) = expr-at P p condition a.0 i
  arms-at P C known p (arms condition body more) a (inr (inl i)) = stmts-at P C known p body a.1.0 i
  arms-at P C known p (arms condition body more) a (inr (inr i)) = arms-at P C known p more a.1.1 i

  branches-at : (P : Place → Type 0) (C : Besides) → ((s : CallSite) (q : Place) → C s q → P q) → (p : Place) (list : BranchTrees)
      → EachOfBranches P list → InBranches C p list → P p
  branches-at P C known p no_branches a i = absurd i
  branches-at P C known p (branches choices body more) a (inl i) = stmts-at P C known p body a.1.0 i
  branches-at P C known p (branches choices body more) a (inr i) = branches-at P C known p more a.1.1 i

  else-at : (P : Place → Type 0) (C : Besides) → ((s : CallSite) (q : Place) → C s q → P q) → (p : Place) (other : ElseTree)
      → EachOfElse P other → InElse C p other → P p
  else-at P C known p no_else a i = absurd i
  else-at P C known p (else_ body) a i = stmts-at P C known p body a i

instr-at : (P : Place → Type 0) (C : Besides) → ((s : CallSite) (q : Place) → C s q → P q) → (p : Place) (i : InstrTree) → EachOfInstr P i
    → InInstruction C p i → P p
instr-at P C known p i a (inl e) = subst P (sym e) a.its_own
instr-at P C known p i a (inr (inl e)) = lead i.label a.its_label e
  where
    lead : (o : Option PlacedName) → EachOfName P o → IsSomeAnd o (λ l. p ≡ l.1) → P p
    lead None b x = absurd x
    lead (Some l) b x = subst P (sym x) b
instr-at P C known p i a (inr (inr e)) = lead i.call a.its_call e
  where
    lead : (o : Option CallPlain) → EachOfCallOption P o → IsSomeAnd o (λ call. InCall p (call_placed call) ⊎ C (site_of i call) p) → P p
    lead None b x = absurd x
    lead (Some call) b (inl x) = subst P (sym (placed-call p call x)) b.its_own
    lead (Some call) b (inr x) = known _ p x

instrs-at : (P : Place → Type 0) (C : Besides) → ((s : CallSite) (q : Place) → C s q → P q) → (p : Place) (list : List InstrTree)
    → AllByRecursion (EachOfInstr P) list → InInstructions C p list → P p
instrs-at P C known p [] a i = absurd i
instrs-at P C known p (one ∷ more) a (inl i) = instr-at P C known p one a.0 i
instrs-at P C known p (one ∷ more) a (inr i) = instrs-at P C known p more a.1 i

body-at : (P : Place → Type 0) (C : Besides) → ((s : CallSite) (q : Place) → C s q → P q) → (p : Place) (body : BodyTree) → EachOfBody P body
    → InBody C p body → P p
body-at P C known p (scl statements) a i = stmts-at P C known p statements a i
body-at P C known p (stl instructions) a i = instrs-at P C known p instructions a i
body-at P C known p (starts values) a i = absurd i

-- ---- blocks

-- what is so of a block that a call runs
callee-at : (P : Place → Type 0) (Q : BlockTree → Type 0) (q : Place) (callee : Callee) → ((b : BlockTree) → callee ≡ runs b → Q b → P q)
    → InCallee Q callee → P q
callee-at P Q q (runs b) known i = known b refl i
callee-at P Q q (not_declared place) known i = absurd i
callee-at P Q q (not_callable place) known i = absurd i
callee-at P Q q unknown known i = absurd i

within-at : (P : Place → Type 0) (project : ProjectTree) → EachOfBlocks P project.blocks → (n : ℕ) (block : BlockTree) (p : Place)
    → EachOfBlock P block → IsPlaceWithin project n block p → P p
within-at P project all zero block p a i = body-at P (λ site q. ⊥) (λ s q x. absurd x) p block.body a.its_body i
within-at P project all (suc n) block p a i =
    let scope : Scope = record { project = project; block = block } in
    body-at P (λ site q. InCallee (λ b. IsPlaceWithin project n b q) (callee_of scope site))
    (λ s q x. callee-at P (λ b. IsPlaceWithin project n b q) q (callee_of scope s)
    (λ b e y. within-at P project all n b q (each-contained (EachOfBlock P) project.blocks b all (run_block_in scope s b e)) y) x)
    p block.body a.its_body i

-- it ends, or stops at a place that is so
pub stops-at : {A : Type 0} (P : Place → Type 0) (project : ProjectTree) → EachOfBlocks P project.blocks → (n : ℕ) (block : BlockTree)
    → Contains project.blocks block → (end : Ended A) → StopsIn (IsPlaceWithin project n block) end → StopsIn P end
stops-at P project all n block is (ended a) s = tt
stops-at P project all n block is (trapped kind place) s =
    within-at P project all n block place (each-contained (EachOfBlock P) project.blocks block all is) s
stops-at P project all n block is (over place) s =
    within-at P project all n block place (each-contained (EachOfBlock P) project.blocks block all is) s

-- ---- scans and runs

-- a scan stops within the entered block and those that its calls run
abbrev pub StopsWithin : Type 0
StopsWithin = (source : Source) (image : Image) (input : Input)
    → StopsIn (IsPlaceWithin source.project most_calls source.entry) (scan source image input).end

pub scan-stops : StopsWithin → (P : Place → Type 0) (source : Source) → EachOfBlocks P source.project.blocks
    → Contains source.project.blocks source.entry → (image : Image) (input : Input) → StopsIn P (scan source image input).end
scan-stops law P source all is image input =
    stops-at P source.project all most_calls source.entry is (scan source image input).end (law source image input)

pub run-stops : StopsWithin → (P : Place → Type 0) (source : Source) → EachOfBlocks P source.project.blocks
    → Contains source.project.blocks source.entry → (image : Image) (inputs : List Input)
    → AllByRecursion (λ s. StopsIn P s.end) (run_from source image inputs)
run-stops law P source all is image [] = tt
run-stops law P source all is image (input ∷ inputs) = (
  scan-stops law P source all is image input,
  behind (scan source image input).end (λ next. run-stops law P source all is next inputs),
)
  where
    behind : (end : ScanEnd) → ((next : Image) → AllByRecursion (λ s. StopsIn P s.end) (run_from source next inputs))
        → AllByRecursion (λ s. StopsIn P s.end) (after source (scan source image input).beginning end (λ next. run_from source next inputs))
    behind (ended values) more = more (next_image source (scan source image input).beginning values)
    behind (trapped kind place) more = tt
    behind (over place) more = tt
