-- What is left of a part of an array at a turn of a loop, and that what is meant goes on there.
use Rattle.std.proofs.Common.{◌≡◌, ℕ, ◌+◌, ◌<◌, ℤ, List, Option, Some, None, Ok, Err, true, false, refl, sym, ap, ◌∙◌, arith}
use Rattle.std.proofs.lemmas.Int.{ints}
use Rattle.std.specs.Prelude.{Bool as Truth, slice_get, int_le, ◌&&◌, ◌||◌}
use Rattle.std.specs.Ordering.{int_eq}
use Rattle.pv_tree.specs.declared.stmt.Choice as tree
use Rattle.pv_tree.specs.Tree.{Choices, ArmTrees, BranchTrees, StmtTree, StmtTrees, BlockTree}
use Rattle.pv_tree.specs.Callees.{CallSite}
use Rattle.pv_mean.specs.Sources.{Source}
use Rattle.pv_mean.specs.Frames.{Frame}
use Rattle.pv_mean.specs.Endings.{Ending, normal, go_on, Tried, got, trap, Value, Ended, ended, trapped, over, end_of, and_then}
use Rattle.pv_mean.specs.Values.{value, is_true}
use Rattle.pv_mean.specs.Statements.{Calls, choice_value, is_chosen_by, is_chosen, run_stmt, run_stmts}
use Rattle.pv_mean.specs.Calls.{Linked}
use Rattle.pv_eval.specs.Means.{activation}
use Rattle.pv_run.specs.declared.program.Arm.{Arm}
use Rattle.pv_run.specs.declared.program.Branch.{Branch}
use Rattle.pv_run.specs.declared.program.Choice.{Choice}
use Rattle.pv_run.specs.declared.program.Stmt.{Stmt}
use Rattle.pv_run.specs.declared.stop.Flow.{Flow}
use Rattle.pv_run.specs.declared.stop.Flow.TheVariants as flow
use Rattle.pv_run.specs.declared.program.Program.{Program}
use Rattle.pv_run.specs.declared.stop.Stop.{Stop}
use Rattle.pv_run.specs.declared.stop.Stop.TheVariants as stop
use Rattle.pv_run.specs.Ends.{stop_end, stop_ending, flow_ending, is_normal}
use Rattle.pv_run.specs.Runs.{Tests, Chooses, ChoosesBranch}
use Rattle.pv_run.specs.Choosing.{arm_chosen, branch_chosen}
use Rattle.pv_run.specs.Handing.{Handed}
use Rattle.pv_run.specs.Code.{AreChoices, IsChoiceTo, AreArms, AreBranches, IsStmt, AreStmts, AreInward, AreOutward}
use Rattle.pv_run.proofs.Endings.{ended_value, tested}
use Rattle.pv_run.proofs.Lists.{NextStmt, next_stmt, no_next_stmt, last_stmt, next_choice, no_next_choice, last_choice, next_arm, no_next_arm, last_arm, next_branch, no_next_branch, last_branch}
use Rattle.pv_run.proofs.Handing.{all_in, all_out}

pub record ChoicesLeft (block : BlockTree) (p : Program) (first : ℕ) (v : ℤ) (n m : ℕ) (trees : Choices) : Type 0 where
  pub rest : Choices
  pub are : AreChoices block p n m rest
  pub same : is_chosen (activation block first) v trees ≡ is_chosen (activation block first) v rest

pub record ArmsLeft (source : Source) (block : BlockTree) (p : Program) (k first : ℕ) (frame : Frame) (n m : ℕ)
    (trees : ArmTrees) : Type 0 where
  pub rest : ArmTrees
  pub are : AreArms source block p k n m rest
  pub same : arm_chosen source (activation block first) frame trees ≡ arm_chosen source (activation block first) frame rest

pub record BranchesLeft (source : Source) (block : BlockTree) (p : Program) (k first : ℕ) (v : ℤ) (n m : ℕ)
    (trees : BranchTrees) : Type 0 where
  pub rest : BranchTrees
  pub are : AreBranches source block p k n m rest
  pub same : branch_chosen (activation block first) v trees ≡ branch_chosen (activation block first) v rest

pub record StmtsLeft (source : Source) (calls : Calls) (block : BlockTree) (p : Program) (first n m : ℕ) (trees : StmtTrees)
    (before now : Frame) : Type 0 where
  pub rest : StmtTrees
  pub are : AreStmts source block p n m rest
  pub same : run_stmts source calls (activation block first) trees before ≡ run_stmts source calls (activation block first) rest now

pub record InLeft (source : Source) (block : BlockTree) (p : Program) (site : CallSite) (callee : BlockTree) (caller_first first n m : ℕ)
    (handed : List Handed) (before now : Linked) : Type 0 where
  pub rest : List Handed
  pub are : AreInward source block p site callee n m rest
  pub same : all_in source (activation block caller_first) site callee first handed before
      ≡ all_in source (activation block caller_first) site callee first rest now

pub record OutLeft (source : Source) (block : BlockTree) (p : Program) (site : CallSite) (callee : BlockTree) (caller_first first n m : ℕ)
    (handed : List Handed) (before now : Linked) : Type 0 where
  pub rest : List Handed
  pub are : AreOutward source block p site callee n m rest
  pub same : all_out source (activation block caller_first) site callee first handed before
      ≡ all_out source (activation block caller_first) site callee first rest now

-- ---- choices

both_ends : (v x : ℤ) → int_le x v && int_le v x ≡ int_eq v x
both_ends v x = grind (arith, ints)

within_ends : (block : BlockTree) (first : ℕ) (v : ℤ) (c : Choice) (low : tree.Choice) (high : Option tree.Choice)
    → IsChoiceTo block c low high
    → is_chosen_by (activation block first) v low high ≡ int_le c.low v && int_le v c.high
within_ends block first v c low None is =
    sym (ap (λ x. int_le x v && int_le v c.high) (is.low first)
    ∙ ap (λ y. int_le (choice_value (activation block first) low) v && int_le v y) (is.high first)
    ∙ both_ends v (choice_value (activation block first) low))
within_ends block first v c low (Some high) is =
    sym (ap (λ x. int_le x v && int_le v c.high) (is.low first)
    ∙ ap (λ y. int_le (choice_value (activation block first) low) v && int_le v y) (is.high first))

pub choices_none : {block : BlockTree} {p : Program} {first : ℕ} {v : ℤ} {n m : ℕ} {trees : Choices} → ChoicesLeft block p first v n m trees
    → n < m → slice_get p.choices.items n ≡ None → ⊥
choices_none l lt e = no_next_choice l.are lt e

pub choices_here : {block : BlockTree} {p : Program} {first : ℕ} {v : ℤ} {n m : ℕ} {trees : Choices} → ChoicesLeft block p first v n m trees
    → n < m → (c : Choice) → slice_get p.choices.items n ≡ Some c → int_le c.low v && int_le v c.high ≡ true
    → true ≡ is_chosen (activation block first) v trees
choices_here {block} {p} {first} {v} l lt c at held =
    let next = next_choice l.are lt c at in
    sym (l.same ∙ ap (λ t. is_chosen (activation block first) v t) next.are
    ∙ ap (λ b. b || is_chosen (activation block first) v next.more) (within_ends block first v c next.low next.high next.is ∙ held))

pub choices_later : {block : BlockTree} {p : Program} {first : ℕ} {v : ℤ} {n m : ℕ} {trees : Choices}
    → ChoicesLeft block p first v n m trees
    → n < m → (c : Choice) → slice_get p.choices.items n ≡ Some c → int_le c.low v && int_le v c.high ≡ false
    → ChoicesLeft block p first v (n + 1) m trees
choices_later {block} {p} {first} {v} l lt c at not_here =
    let next = next_choice l.are lt c at in record {
      rest = next.more;
      are = next.rest;
      same = l.same ∙ ap (λ t. is_chosen (activation block first) v t) next.are
          ∙ ap (λ b. b || is_chosen (activation block first) v next.more) (within_ends block first v c next.low next.high next.is
          ∙ not_here);
    }

pub choices_over : {block : BlockTree} {p : Program} {first : ℕ} {v : ℤ} {n m : ℕ} {trees : Choices} → ChoicesLeft block p first v n m trees
    → (n < m → ⊥) → false ≡ is_chosen (activation block first) v trees
choices_over {block} {p} {first} {v} l e =
    sym (l.same ∙ ap (λ t. is_chosen (activation block first) v t) (last_choice l.are e))

-- ---- arms

pub arms_none : {source : Source} {block : BlockTree} {p : Program} {k first : ℕ} {frame : Frame} {n m : ℕ} {trees : ArmTrees}
    → ArmsLeft source block p k first frame n m trees → n < m → slice_get p.arms.items n ≡ None → ⊥
arms_none l lt e = no_next_arm l.are lt e

abbrev pub arm_next : Source → BlockTree → ℕ → Frame → StmtTrees → ArmTrees → Truth → Tried (Option StmtTrees)
arm_next source block first frame body more b = elim b [
  | true ↦ got (Some body)
  | false ↦ arm_chosen source (activation block first) frame more
]

by_test : (t : Value) (b : Truth) → tested t ≡ ended b → (next : Truth → Tried (Option StmtTrees))
    → and_then t (λ v. next (is_true v)) ≡ next b
by_test (got v) b p next = ap next (ap (ended_value b) p)
by_test (trap kind place) b p next = absurd (cc)

by_stop : (t : Value) (s : Stop) → tested t ≡ stop_end s → (next : ℤ → Tried (Option StmtTrees)) → end_of (and_then t next) ≡ stop_end s
by_stop (got v) (stop.Trap u) p next = absurd (cc)
by_stop (got v) (stop.Over place) p next = absurd (cc)
by_stop (trap kind place) (stop.Trap u) p next = ap again p
  where
    again : Ended Truth → Ended (Option StmtTrees)
    again e = elim e [
      | ended a ↦ trapped kind place
      | trapped x q ↦ trapped x q
      | over q ↦ over q
    ]
by_stop (trap kind place) (stop.Over at) p next = absurd (cc)

pub arms_here : {source : Source} {block : BlockTree} {p : Program} {k first : ℕ} {frame : Frame} {n m : ℕ} {trees : ArmTrees}
    → ArmsLeft source block p k first frame n m trees → n < m → (a : Arm) → slice_get p.arms.items n ≡ Some a
    → Tests p a.condition first frame (Ok true) → Chooses source block p k (Ok (Some a.body)) (arm_chosen source
    (activation block first) frame trees)
arms_here {source} {block} {p} {k} {first} {frame} l lt a at test =
    let next = next_arm l.are lt a at in (
      next.body,
      l.same ∙ ap (λ t. arm_chosen source (activation block first) frame t) next.are
          ∙ by_test (value source (activation block first) frame next.condition) true (test source block next.condition next.is)
          (arm_next source block first frame next.body next.more),
      next.runs,
    )

pub arms_later : {source : Source} {block : BlockTree} {p : Program} {k first : ℕ} {frame : Frame} {n m : ℕ} {trees : ArmTrees}
    → ArmsLeft source block p k first frame n m trees → n < m → (a : Arm) → slice_get p.arms.items n ≡ Some a
    → Tests p a.condition first frame (Ok false) → ArmsLeft source block p k first frame (n + 1) m trees
arms_later {source} {block} {p} {k} {first} {frame} l lt a at test =
    let next = next_arm l.are lt a at in record {
      rest = next.more;
      are = next.rest;
      same = l.same ∙ ap (λ t. arm_chosen source (activation block first) frame t) next.are
          ∙ by_test (value source (activation block first) frame next.condition) false (test source block next.condition next.is)
          (arm_next source block first frame next.body next.more);
    }

pub arms_stop : {source : Source} {block : BlockTree} {p : Program} {k first : ℕ} {frame : Frame} {n m : ℕ} {trees : ArmTrees}
    → ArmsLeft source block p k first frame n m trees → n < m → (a : Arm) → slice_get p.arms.items n ≡ Some a
    → (s : Stop) → Tests p a.condition first frame (Err s)
    → end_of (arm_chosen source (activation block first) frame trees) ≡ stop_end s
arms_stop {source} {block} {p} {k} {first} {frame} l lt a at s test =
    let next = next_arm l.are lt a at in
    ap end_of (l.same ∙ ap (λ t. arm_chosen source (activation block first) frame t) next.are)
    ∙ by_stop (value source (activation block first) frame next.condition) s (test source block next.condition next.is)
    (λ v. arm_next source block first frame next.body next.more (is_true v))

pub arms_over : {source : Source} {block : BlockTree} {p : Program} {k first : ℕ} {frame : Frame} {n m : ℕ} {trees : ArmTrees}
    → ArmsLeft source block p k first frame n m trees → (n < m → ⊥) → arm_chosen source (activation block first) frame trees ≡ got None
arms_over {source} {block} {p} {k} {first} {frame} l e =
    l.same ∙ ap (λ t. arm_chosen source (activation block first) frame t) (last_arm l.are e)

-- ---- branches

abbrev pub branch_next : BlockTree → ℕ → ℤ → StmtTrees → BranchTrees → Truth → Option StmtTrees
branch_next block first v body more b = elim b [
  | true ↦ Some body
  | false ↦ branch_chosen (activation block first) v more
]

pub branches_none : {source : Source} {block : BlockTree} {p : Program} {k first : ℕ} {v : ℤ} {n m : ℕ} {trees : BranchTrees}
    → BranchesLeft source block p k first v n m trees → n < m → slice_get p.branches.items n ≡ None → ⊥
branches_none l lt e = no_next_branch l.are lt e

pub branches_here : {source : Source} {block : BlockTree} {p : Program} {k first : ℕ} {v : ℤ} {n m : ℕ} {trees : BranchTrees}
    → BranchesLeft source block p k first v n m trees → n < m → (b : Branch) → slice_get p.branches.items n ≡ Some b
    → ((x : Choices) → AreChoices block p b.choices.first b.choices.end x → true ≡ is_chosen (activation block first) v x)
    → ChoosesBranch source block p k (Some b.body) (branch_chosen (activation block first) v trees)
branches_here {source} {block} {p} {k} {first} {v} l lt b at test =
    let next = next_branch l.are lt b at in (
      next.body,
      l.same ∙ ap (λ t. branch_chosen (activation block first) v t) next.are
          ∙ ap (branch_next block first v next.body next.more) (sym (test next.choices next.is)),
      next.runs,
    )

pub branches_later : {source : Source} {block : BlockTree} {p : Program} {k first : ℕ} {v : ℤ} {n m : ℕ} {trees : BranchTrees}
    → BranchesLeft source block p k first v n m trees → n < m → (b : Branch) → slice_get p.branches.items n ≡ Some b
    → ((x : Choices) → AreChoices block p b.choices.first b.choices.end x → false ≡ is_chosen (activation block first) v x)
    → BranchesLeft source block p k first v (n + 1) m trees
branches_later {source} {block} {p} {k} {first} {v} l lt b at test =
    let next = next_branch l.are lt b at in record {
      rest = next.more;
      are = next.rest;
      same = l.same ∙ ap (λ t. branch_chosen (activation block first) v t) next.are
          ∙ ap (branch_next block first v next.body next.more) (sym (test next.choices next.is));
    }

pub branches_over : {source : Source} {block : BlockTree} {p : Program} {k first : ℕ} {v : ℤ} {n m : ℕ} {trees : BranchTrees}
    → BranchesLeft source block p k first v n m trees → (n < m → ⊥) → branch_chosen (activation block first) v trees ≡ None
branches_over {source} {block} {p} {k} {first} {v} l e =
    l.same ∙ ap (λ t. branch_chosen (activation block first) v t) (last_branch l.are e)

-- ---- statements

pub stmts_none : {source : Source} {calls : Calls} {block : BlockTree} {p : Program} {first n m : ℕ} {trees : StmtTrees} {before now :
    Frame}
    → StmtsLeft source calls block p first n m trees before now → n < m → slice_get p.stmts.items n ≡ None → ⊥
stmts_none l lt e = no_next_stmt l.are lt e

goes_behind : (f : Flow) (frame : Frame) (next : Frame → Ending) → is_normal f ≡ true → go_on (flow_ending f frame) next ≡ next frame
goes_behind flow.Normal frame next e = refl
goes_behind flow.Exit frame next e = absurd (cc)
goes_behind flow.Continue frame next e = absurd (cc)
goes_behind flow.Return frame next e = absurd (cc)

goes_away : (f : Flow) (frame : Frame) (next : Frame → Ending) → is_normal f ≡ false
    → go_on (flow_ending f frame) next ≡ flow_ending f frame
goes_away flow.Normal frame next e = absurd (cc)
goes_away flow.Exit frame next e = refl
goes_away flow.Continue frame next e = refl
goes_away flow.Return frame next e = refl

stops_there : (s : Stop) (next : Frame → Ending) → go_on (stop_ending s) next ≡ stop_ending s
stops_there (stop.Trap t) next = refl
stops_there (stop.Over place) next = refl

abbrev pub DoesNext : Source → Calls → BlockTree → Program → ℕ → ℕ → Stmt → Frame → Ending → Type 0
DoesNext source calls block p first n c now r =
    (tree : StmtTree) → IsStmt source block p n c tree → r ≡ run_stmt source calls (activation block first) tree now

did_next : {source : Source} {calls : Calls} {block : BlockTree} {p : Program} {first n m : ℕ} {trees : StmtTrees} {before now : Frame}
    → (l : StmtsLeft source calls block p first n m trees before now) → (c : Stmt) → (next : NextStmt source block p n m c l.rest)
    → (r : Ending)
    → DoesNext source calls block p first n c now r
    → run_stmts source calls (activation block first) trees before
    ≡ go_on r (λ f. run_stmts source calls (activation block first) next.more f)
did_next {source} {calls} {block} {p} {first} {n} {m} {trees} {before} {now} l c next r does =
    let act = activation block first in
    l.same ∙ ap (λ t. run_stmts source calls act t now) next.are
    ∙ ap (λ e. go_on e (λ f. run_stmts source calls act next.more f)) (sym (does next.stmt next.is))

pub stmts_go_on : {source : Source} {calls : Calls} {block : BlockTree} {p : Program} {first n m : ℕ} {trees : StmtTrees} {before now :
    Frame}
    → StmtsLeft source calls block p first n m trees before now → n < m → (c : Stmt) → slice_get p.stmts.items n ≡ Some c
    → (f : Flow) (after : Frame) → DoesNext source calls block p first n c now (flow_ending f after) → is_normal f ≡ true
    → StmtsLeft source calls block p first (n + 1) m trees before after
stmts_go_on {source} {calls} {block} {p} {first} {n} {m} {trees} {before} {now} l lt c at f after does held =
    let next = next_stmt l.are lt c at in record {
      rest = next.more;
      are = next.rest;
      same = did_next l c next (flow_ending f after) does
          ∙ goes_behind f after (λ g. run_stmts source calls (activation block first) next.more g) held;
    }

pub stmts_leave : {source : Source} {calls : Calls} {block : BlockTree} {p : Program} {first n m : ℕ} {trees : StmtTrees} {before now :
    Frame}
    → StmtsLeft source calls block p first n m trees before now → n < m → (c : Stmt) → slice_get p.stmts.items n ≡ Some c
    → (f : Flow) (after : Frame) → DoesNext source calls block p first n c now (flow_ending f after) → is_normal f ≡ false
    → flow_ending f after ≡ run_stmts source calls (activation block first) trees before
stmts_leave {source} {calls} {block} {p} {first} {n} {m} {trees} {before} {now} l lt c at f after does not_so =
    let next = next_stmt l.are lt c at in
    sym (did_next l c next (flow_ending f after) does
    ∙ goes_away f after (λ g. run_stmts source calls (activation block first) next.more g) not_so)

pub stmts_stop : {source : Source} {calls : Calls} {block : BlockTree} {p : Program} {first n m : ℕ} {trees : StmtTrees} {before now :
    Frame}
    → StmtsLeft source calls block p first n m trees before now → n < m → (c : Stmt) → slice_get p.stmts.items n ≡ Some c
    → (s : Stop) → DoesNext source calls block p first n c now (stop_ending s)
    → stop_ending s ≡ run_stmts source calls (activation block first) trees before
stmts_stop {source} {calls} {block} {p} {first} {n} {m} {trees} {before} {now} l lt c at s does =
    let next = next_stmt l.are lt c at in
    sym (did_next l c next (stop_ending s) does
    ∙ stops_there s (λ g. run_stmts source calls (activation block first) next.more g))

pub stmts_over : {source : Source} {calls : Calls} {block : BlockTree} {p : Program} {first n m : ℕ} {trees : StmtTrees} {before now :
    Frame}
    → StmtsLeft source calls block p first n m trees before now → (n < m → ⊥)
    → normal now ≡ run_stmts source calls (activation block first) trees before
stmts_over {source} {calls} {block} {p} {first} {now = now} l e =
    sym (l.same ∙ ap (λ t. run_stmts source calls (activation block first) t now) (last_stmt l.are e))
