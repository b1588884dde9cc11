-- Which statements of an IF or a CASE run, told apart from their run; and the same along the arrays.
use Rattle.std.proofs.Common.{◌≡◌, ℤ, Option, Some, None, Bool, true, false, refl}
use Rattle.pv_tree.specs.Tree.{StmtTrees, ArmTrees, no_arms, arms, BranchTrees, no_branches, branches}
use Rattle.pv_mean.specs.Sources.{Source}
use Rattle.pv_mean.specs.Frames.{Frame}
use Rattle.pv_mean.specs.Endings.{Tried, got, trap, Value, and_then, Ending, when_got}
use Rattle.pv_mean.specs.Activations.{Activation}
use Rattle.pv_mean.specs.Values.{is_true, value}
use Rattle.pv_mean.specs.Statements.{Calls, is_chosen, run_stmts, run_arms, run_branches}
use Rattle.pv_run.specs.Choosing.{arm_chosen, branch_chosen}

-- what runs by what was chosen
abbrev pub by_choice : (StmtTrees → Ending) → Ending → Option StmtTrees → Ending
by_choice run other None = other
by_choice run other (Some body) = run body

either : (b : Bool) (run : StmtTrees → Ending) (other rest : Ending) (body : StmtTrees) (chosen : Tried (Option StmtTrees))
    → rest ≡ when_got chosen (by_choice run other)
    → elim b [
      | true ↦ run body
      | false ↦ rest
    ] ≡ when_got (elim b [
      | true ↦ got (Some body)
      | false ↦ chosen
    ]) (by_choice run other)
either true run other rest body chosen p = refl
either false run other rest body chosen p = p

one_arm : (t : Value) (run : StmtTrees → Ending) (other rest : Ending) (body : StmtTrees) (chosen : Tried (Option StmtTrees))
    → rest ≡ when_got chosen (by_choice run other)
    → when_got t (λ v. elim (is_true v) [
      | true ↦ run body
      | false ↦ rest
    ]) ≡ when_got (and_then t (λ v. elim (is_true v) [
      | true ↦ got (Some body)
      | false ↦ chosen
    ])) (by_choice run other)
one_arm (got v) run other rest body chosen p = either (is_true v) run other rest body chosen p
one_arm (trap kind place) run other rest body chosen p = refl

pub arms_by_choice : (source : Source) (calls : Calls) (act : Activation) (otherwise : Frame → Ending) (trees : ArmTrees) (frame : Frame)
    → run_arms source calls act otherwise trees frame
    ≡ when_got (arm_chosen source act frame trees) (by_choice (λ body. run_stmts source calls act body frame) (otherwise frame))
arms_by_choice source calls act otherwise no_arms frame = refl
arms_by_choice source calls act otherwise (arms condition body more) frame =
    one_arm (value source act frame condition) (λ b. run_stmts source calls act b frame) (otherwise frame)
    (run_arms source calls act otherwise more frame) body (arm_chosen source act frame more)
    (arms_by_choice source calls act otherwise more frame)

one_branch : (b : Bool) (run : StmtTrees → Ending) (other rest : Ending) (body : StmtTrees) (chosen : Option StmtTrees)
    → rest ≡ by_choice run other chosen
    → elim b [
      | true ↦ run body
      | false ↦ rest
    ] ≡ by_choice run other (elim b [
      | true ↦ Some body
      | false ↦ chosen
    ])
one_branch true run other rest body chosen p = refl
one_branch false run other rest body chosen p = p

pub branches_by_choice : (source : Source) (calls : Calls) (act : Activation) (v : ℤ) (otherwise : Frame
    → Ending) (trees : BranchTrees) (frame : Frame)
    → run_branches source calls act v otherwise trees frame
    ≡ by_choice (λ body. run_stmts source calls act body frame) (otherwise frame) (branch_chosen act v trees)
branches_by_choice source calls act v otherwise no_branches frame = refl
branches_by_choice source calls act v otherwise (branches choices body more) frame =
    one_branch (is_chosen act v choices) (λ b. run_stmts source calls act b frame) (otherwise frame)
    (run_branches source calls act v otherwise more frame) body (branch_chosen act v more)
    (branches_by_choice source calls act v otherwise more frame)
