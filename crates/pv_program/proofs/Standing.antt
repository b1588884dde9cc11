-- What was gathered apart and put behind a program means what it was made of.
use Rattle.std.proofs.Common.{ℕ, ◌≤◌, List, length, Option, arith}
use Rattle.pv_tree.specs.declared.stmt.Choice as tree
use Rattle.pv_tree.specs.Tree.{ExprTree, Choices, StmtTree, StmtTrees, BlockTree}
use Rattle.pv_tree.specs.Callees.{CallSite}
use Rattle.pv_tree.specs.View.{stmts_of, arms_of, branches_of}
use Rattle.pv_mean.specs.Sources.{Source}
use Rattle.pv_run.specs.declared.program.Stmt.{Stmt}
use Rattle.pv_run.specs.declared.program.Arm.{Arm}
use Rattle.pv_run.specs.declared.program.Branch.{Branch}
use Rattle.pv_run.specs.declared.program.Choice.{Choice}
use Rattle.pv_run.specs.declared.program.Inward.{Inward}
use Rattle.pv_run.specs.declared.program.Outward.{Outward}
use Rattle.pv_run.specs.declared.program.Program.{Program}
use Rattle.pv_run.specs.Handing.{Handed}
use Rattle.pv_run.specs.Code.{IsStmt, AreStmts, no_stmt, stmt_then, AreArms, no_arm, arm_then, AreBranches, no_branch, branch_then, AreChoices, no_choice, choice_then, AreInward, none_in, not_given, given, AreOutward, none_out, not_taken, taken}
use Rattle.pv_program.specs.Growth.{Stands, none_stands, stands_then}
use Rattle.pv_program.specs.Pairs.{Pairs, no_pair, pair_then}
use Rattle.pv_program.specs.Made.{IsArm, IsBranch, IsRange}
use Rattle.pv_program.specs.Handed.{AreGiven, none_given, left_out, one_given, AreTaken, none_taken, passed_over, one_taken}
use Rattle.pv_program.proofs.Growing.{extends-same, stands-within}
use Rattle.pv_program.proofs.Keeping.{stmt-kept}

pub are-stmts : {source : Source} {block : BlockTree} {p : Program} (k : ℕ) {n m : ℕ} {cs : List Stmt} {ts : List StmtTree} → k ≤ n
    → Stands p.stmts.items n m cs → Pairs (λ c s. IsStmt source block p k c s) cs ts → AreStmts source block p n m (stmts_of ts)
are-stmts k le none_stands no_pair = no_stmt
are-stmts {p = p} k le (stands_then {a = a} at rest) (pair_then is more) =
    stmt_then a at (omega (arith, stands-within rest)) (stmt-kept (extends-same p) le is) (are-stmts k (omega (arith, le)) rest more)

pub are-arms : {source : Source} {block : BlockTree} {p : Program} {n m : ℕ} {cs : List Arm} {ts : List (ExprTree × StmtTrees)}
    → Stands p.arms.items n m cs → Pairs (IsArm source block p) cs ts → AreArms source block p (length p.stmts.items) n m (arms_of ts)
are-arms none_stands no_pair = no_arm
are-arms (stands_then {a = a} at rest) (pair_then is more) =
    arm_then a at (omega (arith, stands-within rest)) is.condition is.body (are-arms rest more)

pub are-branches : {source : Source} {block : BlockTree} {p : Program} {n m : ℕ} {cs : List Branch} {ts : List (Choices × StmtTrees)}
    → Stands p.branches.items n m cs → Pairs (IsBranch source block p) cs ts
    → AreBranches source block p (length p.stmts.items) n m (branches_of ts)
are-branches none_stands no_pair = no_branch
are-branches (stands_then {a = a} at rest) (pair_then is more) =
    branch_then a at (omega (arith, stands-within rest)) is.choices is.body (are-branches rest more)

pub are-choices : {block : BlockTree} {p : Program} {n m : ℕ} {cs : List Choice} {ts : List (tree.Choice × Option tree.Choice)}
    → Stands p.choices.items n m cs → Pairs (IsRange block) cs ts → AreChoices block p n m ts
are-choices none_stands no_pair = no_choice
are-choices (stands_then {a = a} at rest) (pair_then {t = t} is more) =
    choice_then {low = t.0} {high = t.1} a at (omega (arith, stands-within rest)) is (are-choices rest more)

pub are-inward : {source : Source} {block : BlockTree} {p : Program} {site : CallSite} {callee : BlockTree} {cs : List Inward} {hs : List Handed}
    → AreGiven source block p site callee cs hs → {n m : ℕ} → Stands p.inward.items n m cs → AreInward source block p site callee n m hs
are-inward none_given none_stands = none_in
are-inward (left_out without rest) s = not_given without (are-inward rest s)
are-inward (one_given arg held is goes rest) (stands_then {a = a} at more) =
    given a arg at (omega (arith, stands-within more)) held is goes (are-inward rest more)

pub are-outward : {source : Source} {block : BlockTree} {p : Program} {site : CallSite} {callee : BlockTree} {cs : List Outward}
    {hs : List Handed} → AreTaken source block p site callee cs hs → {n m : ℕ} → Stands p.outward.items n m cs
    → AreOutward source block p site callee n m hs
are-outward none_taken none_stands = none_out
are-outward (passed_over without rest) s = not_taken without (are-outward rest s)
are-outward (one_taken arg held to comes rest) (stands_then {a = a} at more) =
    taken a arg at (omega (arith, stands-within more)) held to comes (are-outward rest more)
