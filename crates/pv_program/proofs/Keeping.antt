-- What was made means the same in a program that has more.
use Rattle.std.proofs.Common.{◌≡◌, ℕ, ◌≤◌, List, Option, Some, None, refl, sym, subst, arith}
use Rattle.std.specs.Prelude.{slice_get}
use Rattle.pv_place.specs.declared.place.Place.{Place}
use Rattle.pv_types.specs.declared.name.Name.{Name}
use Rattle.pv_types.specs.declared.declaration.Literal.{Literal}
use Rattle.pv_tree.specs.Tree.{ExprTree, OperandTree, Choices, StmtTree, StmtTrees, ArmTrees, BranchTrees, ElseTree, CallPlain, InstrTree, BodyTree, scl, stl, starts, BlockTree}
use Rattle.pv_tree.specs.Callees.{CallSite, Callee, runs, not_declared, not_callable, unknown, callee_of}
use Rattle.pv_tree.specs.Parts.{operand_of}
use Rattle.pv_mean.specs.Sources.{Source}
use Rattle.pv_mean.specs.Instructions.{site_of}
use Rattle.pv_stl_run.specs.declared.instr.Action.{Action}
use Rattle.pv_stl_run.specs.declared.instr.Action.TheVariants as action
use Rattle.pv_stl_run.specs.declared.instr.Instr.{Instr}
use Rattle.pv_stl_run.specs.Code as stl
use Rattle.pv_stl_run.specs.Code.{IsAction, changes, joins, writes, finds_edge, loads, transfers, jumps, ends, ends_where}
use Rattle.pv_stl_run.specs.Going.{Does, IsInstr, AreInstrs, ranges_in}
use Rattle.pv_run.specs.declared.program.Span.{Span}
use Rattle.pv_run.specs.declared.program.Body.{Body}
use Rattle.pv_run.specs.declared.program.Body.TheVariants as flat
use Rattle.pv_run.specs.declared.program.List as code
use Rattle.pv_run.specs.declared.program.Stmt.{Stmt}
use Rattle.pv_run.specs.declared.program.Arm.{Arm}
use Rattle.pv_run.specs.declared.program.Branch.{Branch}
use Rattle.pv_run.specs.declared.program.Counting.{Counting}
use Rattle.pv_run.specs.declared.program.Called.{Called}
use Rattle.pv_run.specs.declared.program.Code.{Code}
use Rattle.pv_run.specs.declared.program.Program.{Program}
use Rattle.pv_run.specs.Handing.{Handed}
use Rattle.pv_run.specs.Code.{IsValue, IsTarget, AreChoices, no_choice, choice_then, AreInward, none_in, not_given, given, GoesTo, AreOutward, none_out, not_taken, taken, RunsBlock, RunsSo, IsCall, Counts, IsStmt, assigns, assigns_call, decides, selects, counts, goes_while, repeats, exits, continues, returns, calls, nothing, AreStmts, no_stmt, stmt_then, IsBody, body_before, IsElse, nothing_else, something_else, AreArms, no_arm, arm_then, AreBranches, no_branch, branch_then, instrs_in, HasInstrs, RunsBody, IsCode}
use Rattle.pv_program.specs.Growth.{HasCode, Extends}
use Rattle.pv_program.specs.Made.{IsArm, IsBranch}
use Rattle.pv_program.specs.Bodies.{CallsSo, AreMadeInstrs}
use Rattle.pv_program.proofs.Growing.{part-stays, part-within}

pub value-kept : {source : Source} {block : BlockTree} {p q : Program} {n : ℕ} {e : ExprTree} → Extends p q → IsValue source block p n e
    → IsValue source block q n e
value-kept {n = n} x v = record {
  expression = v.expression;
  at = x.values.at n v.expression v.at;
  fits = omega (arith, v.fits, x.scratch);
  means = v.means;
}

pub target-kept : {source : Source} {block : BlockTree} {p q : Program} {n : ℕ} {o : OperandTree} → Extends p q → IsTarget source block p n o
    → IsTarget source block q n o
target-kept {n = n} x t = record {
  target = t.target;
  at = x.targets.at n t.target t.at;
  fits = omega (arith, t.fits, x.scratch);
  locates = t.locates;
}

pub choices-kept : {block : BlockTree} {p q : Program} {n m : ℕ} {cs : Choices} → Extends p q → AreChoices block p n m cs → AreChoices block q n m cs
choices-kept x no_choice = no_choice
choices-kept x (choice_then {n = n} c at lt is rest) = choice_then c (x.choices.at n c at) lt is (choices-kept x rest)

-- ---- calls

pub inward-kept : {source : Source} {block : BlockTree} {p q : Program} {site : CallSite} {callee : BlockTree} {n m : ℕ} {hs : List Handed} → Extends p q
    → AreInward source block p site callee n m hs → AreInward source block q site callee n m hs
inward-kept x none_in = none_in
inward-kept x (not_given without rest) = not_given without (inward-kept x rest)
inward-kept x (given {n = n} c arg at lt held is goes rest) =
    given c arg (x.inward.at n c at) lt held (value-kept x is) goes (inward-kept x rest)

pub goes-kept : (source : Source) (block : BlockTree) {p q : Program} (to : Option ℕ) (o : Option OperandTree) → Extends p q
    → GoesTo source block p to o → GoesTo source block q to o
goes-kept source block None None x g = g
goes-kept source block None (Some o) x g = g
goes-kept source block (Some n) None x g = g
goes-kept source block (Some n) (Some o) x g = target-kept x g

pub outward-kept : {source : Source} {block : BlockTree} {p q : Program} {site : CallSite} {callee : BlockTree} {n m : ℕ} {hs : List Handed} → Extends p q
    → AreOutward source block p site callee n m hs → AreOutward source block q site callee n m hs
outward-kept x none_out = none_out
outward-kept x (not_taken without rest) = not_taken without (outward-kept x rest)
outward-kept {source = source} {block = block} x (taken {n = n} c arg at lt held to comes rest) =
    taken c arg (x.outward.at n c at) lt held (goes-kept source block c.to (operand_of arg.value) x to) comes (outward-kept x rest)

block-kept : {source : Source} {block : BlockTree} {p q : Program} {call : Called} {site : CallSite} {n : ℕ} {callee : BlockTree} → Extends p q
    → HasCode q n → RunsBlock source block p call site n callee → RunsBlock source block q call site n callee
block-kept x has r = record {
  number = r.number;
  made = has;
  first = r.first;
  inward = inward-kept x r.inward;
  outward = outward-kept x r.outward;
  place = r.place;
}

runs-kept : (source : Source) (block : BlockTree) (c : ℕ) (site : CallSite) {p q : Program} {call : Called} (n : Option ℕ) (callee : Callee)
    → Extends p q → slice_get p.calls.items c ≡ Some call → call.block ≡ n → RunsSo source block p call site n callee
    → RunsSo source block q call site n callee
runs-kept source block c site None (runs b) x at number r = r
runs-kept source block c site None (not_declared place) x at number r = r
runs-kept source block c site None (not_callable place) x at number r = r
runs-kept source block c site None unknown x at number r = r
runs-kept source block c site {call = call} (Some n) (runs b) x at number r = block-kept x (x.coded c call n at number r.made) r
runs-kept source block c site (Some n) (not_declared place) x at number r = r
runs-kept source block c site (Some n) (not_callable place) x at number r = r
runs-kept source block c site (Some n) unknown x at number r = r

pub call-kept : {source : Source} {block : BlockTree} {p q : Program} {c : ℕ} {site : CallSite} → Extends p q → IsCall source block p c site
    → IsCall source block q c site
call-kept {source = source} {block = block} {c = c} {site = site} x k = record {
  call = k.call;
  at = x.calls.at c k.call k.at;
  runs = runs-kept source block c site k.call.block (callee_of (record { project = source.project; block = block }) site) x k.at refl k.runs;
}

-- ---- statements

pub counts-kept : {source : Source} {block : BlockTree} {p q : Program} {c : Counting} {name : Name} {at : Place} {a b : ExprTree}
    {step : Option Literal} → Extends p q → Counts source block p c name at a b step → Counts source block q c name at a b step
counts-kept x k = record {
  first = value-kept x k.first;
  last = value-kept x k.last;
  variable = target-kept x k.variable;
  place = k.place;
  by = k.by;
}

mutual
  pub stmt-kept : {source : Source} {block : BlockTree} {p q : Program} {k j : ℕ} {c : Stmt} {s : StmtTree} → Extends p q → k ≤ j
      → IsStmt source block p k c s → IsStmt source block q j c s
  stmt-kept x le (assigns v t) = assigns (value-kept x v) (target-kept x t)
  stmt-kept x le (assigns_call c t) = assigns_call (call-kept x c) (target-kept x t)
  stmt-kept x le (decides a o) = decides (arms-kept x le a) (else-kept x le o)
  stmt-kept x le (selects v b o) = selects (value-kept x v) (branches-kept x le b) (else-kept x le o)
  stmt-kept x le (counts c b) = counts (counts-kept x c) (body-kept x le b)
  stmt-kept x le (goes_while v b) = goes_while (value-kept x v) (body-kept x le b)
  stmt-kept x le (repeats b v) = repeats (body-kept x le b) (value-kept x v)
  stmt-kept x le exits = exits
  stmt-kept x le continues = continues
  stmt-kept x le returns = returns
  stmt-kept x le (calls c) = calls (call-kept x c)
  stmt-kept x le nothing = nothing

  pub stmts-kept : {source : Source} {block : BlockTree} {p q : Program} {n m : ℕ} {trees : StmtTrees} → Extends p q
      → AreStmts source block p n m trees → AreStmts source block q n m trees
  stmts-kept x no_stmt = no_stmt
  stmts-kept x (stmt_then {n = n} c at lt is rest) =
      stmt_then c (x.stmts.at n c at) lt (stmt-kept x (omega arith) is) (stmts-kept x rest)

  pub body-kept : {source : Source} {block : BlockTree} {p q : Program} {k j : ℕ} {l : code.List} {trees : StmtTrees} → Extends p q → k ≤ j
      → IsBody source block p k l trees → IsBody source block q j l trees
  body-kept x le (body_before end are) = body_before (omega (arith, le, end)) (stmts-kept x are)

  pub else-kept : {source : Source} {block : BlockTree} {p q : Program} {k j : ℕ} {l : code.List} {other : ElseTree} → Extends p q → k ≤ j
      → IsElse source block p k l other → IsElse source block q j l other
  else-kept x le (nothing_else b) = nothing_else (body-kept x le b)
  else-kept x le (something_else b) = something_else (body-kept x le b)

  pub arms-kept : {source : Source} {block : BlockTree} {p q : Program} {k j n m : ℕ} {trees : ArmTrees} → Extends p q → k ≤ j
      → AreArms source block p k n m trees → AreArms source block q j n m trees
  arms-kept x le no_arm = no_arm
  arms-kept x le (arm_then {n = n} a at lt is inner rest) =
      arm_then a (x.arms.at n a at) lt (value-kept x is) (body-kept x le inner) (arms-kept x le rest)

  pub branches-kept : {source : Source} {block : BlockTree} {p q : Program} {k j n m : ℕ} {trees : BranchTrees} → Extends p q → k ≤ j
      → AreBranches source block p k n m trees → AreBranches source block q j n m trees
  branches-kept x le no_branch = no_branch
  branches-kept x le (branch_then {n = n} b at lt is inner rest) =
      branch_then b (x.branches.at n b at) lt (choices-kept x is) (body-kept x le inner) (branches-kept x le rest)

-- ---- what is gathered apart

pub arm-kept : {source : Source} {block : BlockTree} {p q : Program} {a : Arm} {t : ExprTree × StmtTrees} → Extends p q
    → IsArm source block p a t → IsArm source block q a t
arm-kept x is = record { condition = value-kept x is.condition; body = body-kept x x.longer is.body }

pub branch-kept : {source : Source} {block : BlockTree} {p q : Program} {b : Branch} {t : Choices × StmtTrees} → Extends p q
    → IsBranch source block p b t → IsBranch source block q b t
branch-kept x is = record { choices = choices-kept x is.choices; body = body-kept x x.longer is.body }

-- ---- instructions

taken-kept : {source : Source} {block : BlockTree} {p q : Program} {n : ℕ} {o : OperandTree} → Extends p q
    → stl.IsTarget source block p.targets.items p.scratch n o → stl.IsTarget source block q.targets.items q.scratch n o
taken-kept {n = n} x t = record {
  target = t.target;
  at = x.targets.at n t.target t.at;
  fits = omega (arith, t.fits, x.scratch);
  locates = t.locates;
}

pub action-kept : {source : Source} {block : BlockTree} {p q : Program} {d : Action} {i : InstrTree} → Extends p q
    → IsAction source block p.targets.items p.scratch d i → IsAction source block q.targets.items q.scratch d i
action-kept x (changes row) = changes row
action-kept x (joins o e t row) = joins o e (taken-kept x t) row
action-kept x (writes o e t row) = writes o e (taken-kept x t) row
action-kept x (finds_edge o e t row) = finds_edge o e (taken-kept x t) row
action-kept x (loads o e none t ty row) = loads o e none (taken-kept x t) ty row
action-kept x (transfers o e t ty row) = transfers o e (taken-kept x t) ty row
action-kept x (jumps row) = jumps row
action-kept x (ends row) = ends row
action-kept x (ends_where row) = ends_where row

pub does-kept : (source : Source) (block : BlockTree) (i : InstrTree) (d : Action) {p q : Program} → Extends p q
    → Does source block p.targets.items p.scratch d i → Does source block q.targets.items q.scratch d i
does-kept source block i (action.Change c) x h = (h.0, action-kept x h.1)
does-kept source block i (action.Join j n) x h = (h.0, action-kept x h.1)
does-kept source block i (action.Write w n) x h = (h.0, action-kept x h.1)
does-kept source block i (action.Edge rising n) x h = (h.0, action-kept x h.1)
does-kept source block i (action.Load ty n) x h = (h.0, action-kept x h.1)
does-kept source block i (action.Transfer ty n) x h = (h.0, action-kept x h.1)
does-kept source block i (action.Jump w goal) x h = (h.0, action-kept x h.1)
does-kept source block i action.End x h = (h.0, action-kept x h.1)
does-kept source block i action.EndWhere x h = (h.0, action-kept x h.1)
does-kept source block i (action.Call n) x h = h

pub calls-kept : (source : Source) (block : BlockTree) (i : InstrTree) (d : Action) {p q : Program} → Extends p q
    → CallsSo source block p i d → CallsSo source block q i d
calls-kept source block i (action.Change c) x h = h
calls-kept source block i (action.Join j n) x h = h
calls-kept source block i (action.Write w n) x h = h
calls-kept source block i (action.Edge rising n) x h = h
calls-kept source block i (action.Load ty n) x h = h
calls-kept source block i (action.Transfer ty n) x h = h
calls-kept source block i (action.Jump w goal) x h = h
calls-kept source block i action.End x h = h
calls-kept source block i action.EndWhere x h = h
calls-kept source block i (action.Call n) x h = λ call e. call-kept x (h call e)

pub instr-kept : {source : Source} {block : BlockTree} {p q : Program} {all : List InstrTree} {code : List Instr} {k : ℕ} {c : Instr}
    {i : InstrTree} → Extends p q → IsInstr source block p.targets.items p.scratch all code k c i
    → IsInstr source block q.targets.items q.scratch all code k c i
instr-kept {source} {block} {p} {q} {all} {code} {k} {c} {i} x h = record {
  place = h.place;
  does = does-kept source block i c.action x h.does;
  range = h.range;
  jumps = h.jumps;
  nests = h.nests;
}

pub made-kept : {source : Source} {block : BlockTree} {p q : Program} {all : List InstrTree} {code : List Instr} → Extends p q
    → AreMadeInstrs source block p all code → AreMadeInstrs source block q all code
made-kept {source} {block} x h = λ k c i at is. record {
  is = instr-kept x (h k c i at is).is;
  calls = calls-kept source block i c.action x (h k c i at is).calls;
}

are-kept : {source : Source} {block : BlockTree} {p q : Program} {all : List InstrTree} {code : List Instr} → Extends p q
    → AreInstrs source block p.targets.items p.scratch code all → AreInstrs source block q.targets.items q.scratch code all
are-kept x h = record {
  same = h.same;
  each = λ k c i at is. instr-kept x (h.each k c i at is);
}

instrs-kept : {source : Source} {block : BlockTree} {p q : Program} {s : Span} {all : List InstrTree} → Extends p q
    → HasInstrs source block p s all → HasInstrs source block q s all
instrs-kept {source = source} {block = block} {p = p} {q = q} {s = s} {all = all} x h =
    let same : instrs_in p s ≡ instrs_in q s = sym (part-stays p.instrs.items q.instrs.items s.first s.end x.instrs h.ordered h.within) in
    record {
      ordered = h.ordered;
      within = part-within p.instrs.items q.instrs.items s.end x.instrs h.within;
      are = subst (λ l. AreInstrs source block q.targets.items q.scratch l all) same (are-kept x h.are);
      ranges = subst (λ l. ranges_in l ≤ q.ranges) same (omega (arith, h.ranges, x.ranges));
      calls = subst (λ l. (k c : ℕ) (code : Instr) (i : InstrTree) (call : CallPlain) → slice_get l k ≡ Some code → slice_get all k ≡ Some i
          → code.action ≡ action.Call c → i.call ≡ Some call → IsCall source block q c (site_of i call)) same
          (λ k c code i call at is makes of. call-kept x (h.calls k c code i call at is makes of));
    }

-- ---- blocks

pub runs-body-kept : (source : Source) (block : BlockTree) (b : Body) {p q : Program} (body : BodyTree) → Extends p q
    → RunsBody source block p b body → RunsBody source block q b body
runs-body-kept source block (flat.Statements l) (scl trees) x r = stmts-kept x r
runs-body-kept source block (flat.Statements l) (stl instructions) x r = r
runs-body-kept source block (flat.Statements l) (starts values) x r = r
runs-body-kept source block (flat.Instructions s) (scl trees) x r = r
runs-body-kept source block (flat.Instructions s) (stl instructions) x r = instrs-kept x r
runs-body-kept source block (flat.Instructions s) (starts values) x r = r

pub code-kept : {source : Source} {p q : Program} {block : BlockTree} {c : Code} → Extends p q → IsCode source p block c → IsCode source q block c
code-kept {source = source} {block = block} {c = c} x k = record {
  brief = k.brief;
  widest = omega (arith, k.widest, x.widest);
  within = omega (arith, k.within, x.longer);
  value = k.value;
  body = runs-body-kept source block c.body block.body x k.body;
}
