-- Each statement of the code does what the statement that it stands for does.
use Rattle.std.proofs.Common.{◌≡◌, ℕ, ◌≤◌, ℤ, Option, Some, None, Ok, refl, sym, ap, subst, ◌∙◌}
use Rattle.pv_place.specs.declared.place.Place.{Place}
use Rattle.pv_types.specs.declared.name.Name.{Name}
use Rattle.pv_types.specs.declared.declaration.Literal.{Literal}
use Rattle.pv_tree.specs.Tree.{ExprTree, StmtTree, for_, StmtTrees, ArmTrees, BranchTrees, ElseTree, BlockTree}
use Rattle.pv_mean.specs.Sources.{Source}
use Rattle.pv_mean.specs.Frames.{Frame}
use Rattle.pv_mean.specs.Endings.{Tried, got, trap, ended, end_of, and_then, Ending, normal, when_got, when_ended}
use Rattle.pv_mean.specs.Spots.{write_spot}
use Rattle.pv_mean.specs.Activations.{Activation}
use Rattle.pv_mean.specs.Values.{value, locate}
use Rattle.pv_tree.specs.Callees.{as_statement, CallSite}
use Rattle.pv_run.specs.declared.stop.Stop.TheVariants as stop
use Rattle.pv_mean.specs.Statements.{Calls, Returned, counter, while_turns, repeat_turns, for_turns, step_of, run_stmt, run_stmts, run_branches, run_else}
use Rattle.pv_eval.specs.Means.{activation}
use Rattle.pv_eval.specs.Operands.{spot_of}
use Rattle.pv_run.specs.declared.program.Span.{Span}
use Rattle.pv_run.specs.declared.program.List as code
use Rattle.pv_run.specs.declared.program.Stmt.TheVariants as stmt
use Rattle.pv_run.specs.declared.program.Counting as declared
use Rattle.pv_run.specs.declared.program.Program.{Program}
use Rattle.pv_run.specs.declared.counting.Begun.{Begun}
use Rattle.pv_run.specs.declared.stop.Stop.{Stop}
use Rattle.pv_run.specs.Ends.{stop_ending, stop_end}
use Rattle.pv_run.specs.Choosing.{arm_chosen, branch_chosen}
use Rattle.pv_run.specs.Turns.{Beginning, for_begin}
use Rattle.pv_run.specs.Code.{IsValue, Counts, IsCall, IsStmt, decides, selects, counts, goes_while, repeats, AreStmts, IsBody, body_before, IsElse, nothing_else, something_else, AreArms, AreBranches}
use Rattle.pv_run.specs.Code as spec
use Rattle.pv_run.specs.Runs.{Chooses, ChoosesBranch, counting_of}
use Rattle.pv_run.proofs.Endings.{goes_on_by, stops_by}
use Rattle.pv_run.proofs.Choosing.{by_choice, arms_by_choice, branches_by_choice}

-- a list that is run as far as it stands before the statement
abbrev pub Ran : Source → BlockTree → Program → Calls → Activation → Frame → code.List → Ending → Type 0
Ran source block p calls act frame l r = (trees : StmtTrees) → AreStmts source block p l.first l.end trees
    → r ≡ run_stmts source calls act trees frame

pub body_run : {source : Source} {block : BlockTree} {p : Program} {k : ℕ} {l : code.List} {trees : StmtTrees}
    → IsBody source block p k l trees
    → (calls : Calls) (act : Activation) (frame : Frame) (r : Ending) (cut : code.List) → (l.end ≤ k → cut ≡ l)
    → Ran source block p calls act frame cut r → r ≡ run_stmts source calls act trees frame
body_run {source} {block} {p} {trees = trees} (body_before le are) calls act frame r cut same runs =
    runs trees (subst (λ x. AreStmts source block p x.first x.end trees) (sym (same le)) are)

else_run : {source : Source} {block : BlockTree} {p : Program} {k : ℕ} {l : code.List} {els : ElseTree} → IsElse source block p k l els
    → (calls : Calls) (act : Activation) (frame : Frame) (r : Ending) (cut : code.List) → (l.end ≤ k → cut ≡ l)
    → Ran source block p calls act frame cut r → r ≡ run_else source calls act els frame
else_run (nothing_else body) calls act frame r cut same runs = body_run body calls act frame r cut same runs
else_run (something_else body) calls act frame r cut same runs = body_run body calls act frame r cut same runs

-- ---- IF

abbrev pub ArmsChoose : Source → BlockTree → Program → ℕ → Span → Activation → Frame → Option code.List → Type 0
ArmsChoose source block p k a act frame o =
    (trees : ArmTrees) → AreArms source block p k a.first a.end trees → Chooses source block p k (Ok o) (arm_chosen source act frame trees)

pub if_runs_arm : {source : Source} {block : BlockTree} {p : Program} {k : ℕ} {a : Span} {other : code.List} {tree : StmtTree}
    → IsStmt source block p k (stmt.If a other) tree → (calls : Calls) (act : Activation) (frame : Frame) (l : code.List)
    → ArmsChoose source block p k a act frame (Some l) → (r : Ending) (cut : code.List) → (l.end ≤ k → cut ≡ l)
    → Ran source block p calls act frame cut r → r ≡ run_stmt source calls act tree frame
if_runs_arm {source} {block} {p} {k} (decides {conditions = c} {els = e} are els) calls act frame l chooses r cut same runs =
    let chosen = chooses c are in
    body_run chosen.2 calls act frame r cut same runs
    ∙ sym (arms_by_choice source calls act (λ f. run_else source calls act e f) c frame
    ∙ ap (λ t. when_got t (by_choice (λ body. run_stmts source calls act body frame) (run_else source calls act e frame))) chosen.1)

pub if_runs_other : {source : Source} {block : BlockTree} {p : Program} {k : ℕ} {a : Span} {other : code.List} {tree : StmtTree}
    → IsStmt source block p k (stmt.If a other) tree → (calls : Calls) (act : Activation) (frame : Frame)
    → ArmsChoose source block p k a act frame None → (r : Ending) (cut : code.List) → (other.end ≤ k → cut ≡ other)
    → Ran source block p calls act frame cut r → r ≡ run_stmt source calls act tree frame
if_runs_other {source} {block} {p} {k} (decides {conditions = c} {els = e} are els) calls act frame chooses r cut same runs =
    else_run els calls act frame r cut same runs
    ∙ sym (arms_by_choice source calls act (λ f. run_else source calls act e f) c frame
    ∙ ap (λ t. when_got t (by_choice (λ body. run_stmts source calls act body frame) (run_else source calls act e frame))) (chooses c are))

pub if_stops : {source : Source} {block : BlockTree} {p : Program} {k : ℕ} {a : Span} {other : code.List} {tree : StmtTree}
    → IsStmt source block p k (stmt.If a other) tree → (calls : Calls) (act : Activation) (frame : Frame) (s : Stop)
    → ((trees : ArmTrees) → AreArms source block p k a.first a.end trees → end_of (arm_chosen source act frame trees) ≡ stop_end s)
    → stop_ending s ≡ run_stmt source calls act tree frame
if_stops {source} {block} {p} {k} (decides {conditions = c} {els = e} are els) calls act frame s stops =
    sym (arms_by_choice source calls act (λ f. run_else source calls act e f) c frame
    ∙ stops_by (arm_chosen source act frame c) s (sym (stops c are))
    (by_choice (λ body. run_stmts source calls act body frame) (run_else source calls act e frame)))

-- ---- CASE

pub case_runs_branch : {source : Source} {block : BlockTree} {p : Program} {k s first : ℕ} {b : Span} {other : code.List} {tree : StmtTree}
    → IsStmt source block p k (stmt.Case s b other) tree → (calls : Calls) (frame : Frame) (v : ℤ) (l : code.List)
    → ((e : ExprTree) → IsValue source block p s e → ended v ≡ end_of (value source (activation block first) frame e))
    → ((trees : BranchTrees) → AreBranches source block p k b.first b.end trees
    → ChoosesBranch source block p k (Some l) (branch_chosen (activation block first) v trees))
    → (r : Ending) (cut : code.List) → (l.end ≤ k → cut ≡ l)
    → Ran source block p calls (activation block first) frame cut r → r ≡ run_stmt source calls (activation block first) tree frame
case_runs_branch {source} {block} {p} {k} {first = first} (selects {selector = e} {choices = c} {els = els} is are other) calls frame v l
    gives chooses r cut same runs =
    let act = activation block first in
    let chosen = chooses c are in
    body_run chosen.2 calls act frame r cut same runs
    ∙ sym (goes_on_by (value source act frame e) v (gives e is) (λ w. run_branches source calls act w
    (λ f. run_else source calls act els f) c frame)
    ∙ branches_by_choice source calls act v (λ f. run_else source calls act els f) c frame
    ∙ ap (by_choice (λ body. run_stmts source calls act body frame) (run_else source calls act els frame)) chosen.1)

pub case_runs_other : {source : Source} {block : BlockTree} {p : Program} {k s first : ℕ} {b : Span} {other : code.List} {tree : StmtTree}
    → IsStmt source block p k (stmt.Case s b other) tree → (calls : Calls) (frame : Frame) (v : ℤ)
    → ((e : ExprTree) → IsValue source block p s e → ended v ≡ end_of (value source (activation block first) frame e))
    → ((trees : BranchTrees) → AreBranches source block p k b.first b.end trees
    → ChoosesBranch source block p k None (branch_chosen (activation block first) v trees))
    → (r : Ending) (cut : code.List) → (other.end ≤ k → cut ≡ other)
    → Ran source block p calls (activation block first) frame cut r → r ≡ run_stmt source calls (activation block first) tree frame
case_runs_other {source} {block} {p} {k} {first = first} (selects {selector = e} {choices = c} {els = els} is are other) calls frame v gives
    chooses r cut same runs =
    let act = activation block first in
    else_run other calls act frame r cut same runs
    ∙ sym (goes_on_by (value source act frame e) v (gives e is) (λ w. run_branches source calls act w
    (λ f. run_else source calls act els f) c frame)
    ∙ branches_by_choice source calls act v (λ f. run_else source calls act els f) c frame
    ∙ ap (by_choice (λ body. run_stmts source calls act body frame) (run_else source calls act els frame)) (chooses c are))

pub case_stops : {source : Source} {block : BlockTree} {p : Program} {k s first : ℕ} {b : Span} {other : code.List} {tree : StmtTree}
    → IsStmt source block p k (stmt.Case s b other) tree → (calls : Calls) (frame : Frame) (t : Stop)
    → ((e : ExprTree) → IsValue source block p s e → stop_end t ≡ end_of (value source (activation block first) frame e))
    → stop_ending t ≡ run_stmt source calls (activation block first) tree frame
case_stops {source} {block} {p} {k} {first = first} (selects {selector = e} {choices = c} {els = els} is are other) calls frame t stops =
    let act = activation block first in
    sym (stops_by (value source act frame e) t (stops e is) (λ w. run_branches source calls act w
    (λ f. run_else source calls act els f) c frame))

-- ---- loops

pub while_runs : {source : Source} {block : BlockTree} {p : Program} {k c : ℕ} {l : code.List} {place : Place} {tree : StmtTree}
    → IsStmt source block p k (stmt.While c l place) tree → (calls : Calls) (act : Activation) (frame : Frame) (r : Ending)
    (cut : code.List)
    → (l.end ≤ k → cut ≡ l)
    → ((e : ExprTree) (trees : StmtTrees) → IsValue source block p c e → AreStmts source block p cut.first cut.end trees
    → r ≡ while_turns (λ f. value source act f e) (λ f. run_stmts source calls act trees f) place source.bound frame)
    → r ≡ run_stmt source calls act tree frame
while_runs {source} {block} {p} (goes_while {condition = e} {trees = trees} is (body_before le are)) calls act frame r cut same runs =
    runs e trees is (subst (λ x. AreStmts source block p x.first x.end trees) (sym (same le)) are)

pub repeat_runs : {source : Source} {block : BlockTree} {p : Program} {k c : ℕ} {l : code.List} {place : Place} {tree : StmtTree}
    → IsStmt source block p k (stmt.Repeat l c place) tree → (calls : Calls) (act : Activation) (frame : Frame) (r : Ending)
    (cut : code.List)
    → (l.end ≤ k → cut ≡ l)
    → ((e : ExprTree) (trees : StmtTrees) → IsValue source block p c e → AreStmts source block p cut.first cut.end trees
    → r ≡ repeat_turns (λ f. value source act f e) (λ f. run_stmts source calls act trees f) place source.bound frame)
    → r ≡ run_stmt source calls act tree frame
repeat_runs {source} {block} {p} (repeats {condition = e} {trees = trees} (body_before le are) is) calls act frame r cut same runs =
    runs e trees is (subst (λ x. AreStmts source block p x.first x.end trees) (sym (same le)) are)

-- ---- FOR

abbrev pub for_on : Source → Calls → Activation → StmtTrees → Place → Option Literal → Place → Beginning → Ending
for_on source calls act trees name_place by place b = for_turns source (record {
  variable = b.spot;
  variable_place = name_place;
  by = step_of by;
  last = b.last;
  place = place;
}) (λ f. run_stmts source calls act trees f) source.bound b.count b.frame

-- the three parts of the beginning as one
for_as_one : {A : Type 0} (x y : Tried ℤ) (z : Tried A) (f : ℤ → ℤ → A → Beginning) (next : Beginning → Ending)
    → when_got x (λ v. when_got y (λ w. when_got z (λ spot. next (f v w spot))))
    ≡ when_got (and_then x (λ v. and_then y (λ w. and_then z (λ spot. got (f v w spot))))) next
for_as_one (got v) (got w) (got spot) f next = refl
for_as_one (got v) (got w) (trap kind place) f next = refl
for_as_one (got v) (trap kind place) z f next = refl
for_as_one (trap kind place) y z f next = refl

for_begun : (source : Source) (calls : Calls) (act : Activation) (name : Name) (name_place : Place) (a b : ExprTree) (by : Option Literal)
    (trees : StmtTrees)
    (place : Place) (frame : Frame)
    → run_stmt source calls act (for_ name name_place a b by trees place) frame
    ≡ when_got (for_begin source act frame name name_place a b) (for_on source calls act trees name_place by place)
for_begun source calls act name name_place a b by trees place frame =
    for_as_one (value source act frame a) (value source act frame b) (locate source act frame (counter name name_place))
    (λ v w spot. record {
      spot = spot;
      count = v;
      last = w;
      frame = write_spot source frame spot v;
    }) (for_on source calls act trees name_place by place)

pub for_runs : {source : Source} {block : BlockTree} {p : Program} {k first : ℕ} {c : declared.Counting} {l : code.List} {place : Place}
    {tree : StmtTree}
    → IsStmt source block p k (stmt.For c l place) tree → (calls : Calls) (frame after : Frame) (begun : Begun)
    → ((name : Name) (at : Place) (a b : ExprTree) (by : Option Literal) → Counts source block p c name at a b by
    → ended (record { spot = spot_of begun.spot; count = begun.count; last = begun.last; frame = after })
    ≡ end_of (for_begin source (activation block first) frame name at a b))
    → (r : Ending) (cut : code.List) → (l.end ≤ k → cut ≡ l)
    → ((trees : StmtTrees) → AreStmts source block p cut.first cut.end trees
    → r ≡ for_turns source (counting_of begun c.variable_place c.by place) (λ f. run_stmts source calls
    (activation block first) trees f) source.bound
    begun.count after)
    → r ≡ run_stmt source calls (activation block first) tree frame
for_runs {source} {block} {p} {first = first} {c = c} {place = place}
    (counts {name = name} {name_place = at} {first = a} {last = b} {by = by} {trees = trees} is (body_before le are))
    calls frame after begun gives r cut same runs =
    let act = activation block first in
    let x : Beginning = record { spot = spot_of begun.spot; count = begun.count; last = begun.last; frame = after } in
    runs trees (subst (λ y. AreStmts source block p y.first y.end trees) (sym (same le)) are)
    ∙ ap (λ q. for_turns source (counting_of begun q c.by place)
    (λ f. run_stmts source calls act trees f) source.bound begun.count after) is.place
    ∙ ap (λ q. for_turns source (counting_of begun at q place) (λ f. run_stmts source calls act trees f) source.bound begun.count after)
    is.by
    ∙ sym (for_begun source calls act name at a b by trees place frame
    ∙ goes_on_by (for_begin source act frame name at a b) x (gives name at a b by is) (for_on source calls act trees at by place))

pub for_unbegun : {source : Source} {block : BlockTree} {p : Program} {k first : ℕ} {c : declared.Counting} {l : code.List} {place : Place}
    {tree : StmtTree}
    → IsStmt source block p k (stmt.For c l place) tree → (calls : Calls) (frame : Frame) (s : Stop)
    → ((name : Name) (at : Place) (a b : ExprTree) (by : Option Literal) → Counts source block p c name at a b by
    → stop_end s ≡ end_of (for_begin source (activation block first) frame name at a b))
    → stop_ending s ≡ run_stmt source calls (activation block first) tree frame
for_unbegun {source} {block} {p} {first = first} {place = place}
    (counts {name = name} {name_place = at} {first = a} {last = b} {by = by} {trees = trees} is body)
    calls frame s stops =
    let act = activation block first in
    sym (for_begun source calls act name at a b by trees place frame
    ∙ stops_by (for_begin source act frame name at a b) s (stops name at a b by is) (for_on source calls act trees at by place))

-- ---- calls

stopped_when : (s : Stop) (next : Returned → Ending) → when_ended (stop_end s) next ≡ stop_ending s
stopped_when (stop.Trap t) next = refl
stopped_when (stop.Over place) next = refl

pub call_stops : {source : Source} {block : BlockTree} {p : Program} {k c : ℕ} {tree : StmtTree}
    → IsStmt source block p k (stmt.Call c) tree → (made : Calls) (act : Activation) (frame : Frame) (s : Stop)
    → ((site : CallSite) → IsCall source block p c site → stop_end s ≡ made act site frame)
    → stop_ending s ≡ run_stmt source made act tree frame
call_stops (spec.calls {call = call} is) made act frame s stops =
    sym (ap (λ e. when_ended e (λ back. normal back.frame)) (sym (stops (record { how = as_statement; call = call }) is))
    ∙ stopped_when s (λ back. normal back.frame))
