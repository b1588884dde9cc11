-- How many calls may stand behind one another doesn't matter where chains of calls end before. Two ways of making calls that agree
-- on each call of some statements give these statements one run.
use Rattle.std.proofs.Common.{◌≡◌, ◌≤◌, ℕ, zero, suc, List, ℤ, true, false, refl, ap, ◌∙◌, arith}
use Rattle.std.proofs.Math.Path.{fun_ext}
use Rattle.std.specs.Prelude.{⊤}
use Rattle.pv_tree.specs.Tree.{StmtTree, assign, assign_call, if_, case_, for_, while_, repeat_, exit_, continue_, return_, call_, empty_, StmtTrees, no_stmts, stmts, ArmTrees, no_arms, arms, BranchTrees, no_branches, branches, ElseTree, no_else, else_, BodyTree, scl, stl, starts, BlockTree}
use Rattle.pv_tree.specs.Callees.{CallSite, Callee, runs, not_declared, not_callable, unknown, callee_of}
use Rattle.pv_mean.specs.Sources.{Source}
use Rattle.pv_mean.specs.Frames.{Frame}
use Rattle.pv_mean.specs.Endings.{Ended, ended, Ending, normal, go_on, when_got, when_ended, body_end, and_end, end_of}
use Rattle.pv_mean.specs.Spots.{told, write_spot}
use Rattle.pv_mean.specs.Activations.{Activation, scope_in}
use Rattle.pv_mean.specs.Values.{is_true, value, locate}
use Rattle.pv_mean.specs.Statements.{Calls, is_chosen, while_turns, repeat_turns, for_turns, counter, step_of, store, run_stmt, run_stmts, run_arms, run_branches, run_else}
use Rattle.pv_mean.specs.Calls.{inside, with_inside, passed_in, passed_out, copy_all_in, copy_all_out, returned, linked, run_call, run_code, run_body, not_made, run_callee, calls_within, instance_first}
use Rattle.pv_mean.specs.Scans.{scan_from, entry_activation, entry_frame, visible_end, Scan}
use Rattle.pv_mean.specs.Doings.{EachDoing, EachInList, EachInArms, EachInBranches, EachInElse}
use Rattle.pv_mean.specs.Chains.{EachCallOf, RunsSuch, EndsWithin}
use Rattle.pv_mean.proofs.Passing.{passed}
use Rattle.pv_mean.proofs.Instructing.{Agree, same-stl, passed-instructions}

two : {A B C : Type 0} (f : A → B → C) {a x : A} {b y : B} → a ≡ x → b ≡ y → f a b ≡ f x y
two f {a} {x} {b} {y} p q = ap (λ z. f z b) p ∙ ap (λ z. f x z) q

mutual
  pub same-stmt : (source : Source) (c d : Calls) (act : Activation) (s : StmtTree) → EachDoing (λ o. ⊤) (Agree c d act) s
      → (frame : Frame) → run_stmt source c act s frame ≡ run_stmt source d act s frame
  same-stmt source c d act (assign target place e) each frame = refl
  same-stmt source c d act (assign_call target place call) each frame =
      ap (λ e. when_ended e (λ back. when_got (told back.value call.place) (λ v. store source act target back.frame v))) (each.1 frame)
  same-stmt source c d act (if_ conditions other place) each frame =
      same-arms source c d act (λ f. run_else source c act other f) (λ f. run_else source d act other f)
      (λ f. same-else source c d act other each.1 f) conditions each.0 frame
  same-stmt source c d act (case_ selector choices other place) each frame =
      ap (λ (next : ℤ → Ending). when_got (value source act frame selector) next) (fun_ext (λ v. same-branches source c d act v
      (λ f. run_else source c act other f) (λ f. run_else source d act other f)
      (λ f. same-else source c d act other each.1 f) choices each.0 frame))
  same-stmt source c d act (for_ name name_place first last by body place) each frame =
      ap (λ (run : Frame → Ending). when_got (value source act frame first) (λ v. when_got (value source act frame last)
      (λ end. when_got (locate source act frame (counter name name_place)) (λ spot. for_turns source
      (record { variable = spot; variable_place = name_place; by = step_of by; last = end; place = place })
      run source.bound v (write_spot source frame spot v)))))
      (fun_ext (λ f. same-stmts source c d act body each.1 f))
  same-stmt source c d act (while_ condition body place) each frame =
      ap (λ (run : Frame → Ending). while_turns (λ f. value source act f condition) run place source.bound frame)
      (fun_ext (λ f. same-stmts source c d act body each f))
  same-stmt source c d act (repeat_ body condition place) each frame =
      ap (λ (run : Frame → Ending). repeat_turns (λ f. value source act f condition) run place source.bound frame)
      (fun_ext (λ f. same-stmts source c d act body each f))
  same-stmt source c d act (exit_ place) each frame = refl
  same-stmt source c d act (continue_ place) each frame = refl
  same-stmt source c d act (return_ place) each frame = refl
  same-stmt source c d act (call_ call) each frame = ap (λ e. when_ended e (λ back. normal back.frame)) (each frame)
  same-stmt source c d act (empty_ place) each frame = refl

  pub same-stmts : (source : Source) (c d : Calls) (act : Activation) (ss : StmtTrees) → EachInList (λ o. ⊤) (Agree c d act) ss
      → (frame : Frame) → run_stmts source c act ss frame ≡ run_stmts source d act ss frame
  same-stmts source c d act no_stmts each frame = refl
  same-stmts source c d act (stmts s more) each frame =
      two (λ (e : Ending) (next : Frame → Ending). go_on e next) (same-stmt source c d act s each.0 frame)
      (fun_ext (λ f. same-stmts source c d act more each.1 f))

  pub same-arms : (source : Source) (c d : Calls) (act : Activation) (o p : Frame → Ending) → ((f : Frame) → o f ≡ p f)
      → (conditions : ArmTrees) → EachInArms (λ o. ⊤) (Agree c d act) conditions
      → (frame : Frame) → run_arms source c act o conditions frame ≡ run_arms source d act p conditions frame
  same-arms source c d act o p same no_arms each frame = same frame
  same-arms source c d act o p same (arms condition body more) each frame =
      two (λ x y. when_got (value source act frame condition) (λ v. elim (is_true v) [
        | true ↦ x
        | false ↦ y
      ])) (same-stmts source c d act body each.0 frame) (same-arms source c d act o p same more each.1 frame)

  pub same-branches : (source : Source) (c d : Calls) (act : Activation) (v : ℤ) (o p : Frame → Ending) → ((f : Frame) → o f ≡ p f)
      → (choices : BranchTrees) → EachInBranches (λ o. ⊤) (Agree c d act) choices
      → (frame : Frame) → run_branches source c act v o choices frame ≡ run_branches source d act v p choices frame
  same-branches source c d act v o p same no_branches each frame = same frame
  same-branches source c d act v o p same (branches choices body more) each frame =
      two (λ x y. elim (is_chosen act v choices) [
        | true ↦ x
        | false ↦ y
      ]) (same-stmts source c d act body each.0 frame) (same-branches source c d act v o p same more each.1 frame)

  pub same-else : (source : Source) (c d : Calls) (act : Activation) (other : ElseTree) → EachInElse (λ o. ⊤) (Agree c d act) other
      → (frame : Frame) → run_else source c act other frame ≡ run_else source d act other frame
  same-else source c d act no_else each frame = refl
  same-else source c d act (else_ body) each frame = same-stmts source c d act body each frame

-- ---- bodies and calls

same-code : (source : Source) (c d : Calls) (act : Activation) (body : BodyTree) → EachCallOf (Agree c d act) body → (frame : Frame)
    → run_code source c act body frame ≡ run_code source d act body frame
same-code source c d act (scl statements) each frame = ap body_end (same-stmts source c d act statements each frame)
same-code source c d act (stl instructions) each frame = same-stl source c d act instructions each frame
same-code source c d act (starts values) each frame = refl

more-code : (C D : CallSite → Type 0) → ((s : CallSite) → C s → D s) → (body : BodyTree) → EachCallOf C body → EachCallOf D body
more-code C D f (scl statements) is = passed (λ o. ⊤) (λ o. ⊤) (λ o is'. tt) C D f statements is
more-code C D f (stl instructions) is = passed-instructions (λ o. ⊤) (λ o. ⊤) (λ o x. tt) C D f instructions is
more-code C D f (starts values) is = tt

same-call : (source : Source) (x y : Activation → Frame → Ended Frame) (caller : Activation) (site : CallSite) (callee : Activation)
    → ((f : Frame) → x callee f ≡ y callee f) → (frame : Frame)
    → run_call source x caller site callee frame ≡ run_call source y caller site callee frame
same-call source x y caller site callee same frame =
    ap (λ (run : Frame → Ended Frame). and_end (end_of (copy_all_in source caller site callee (passed_in source callee)
    (linked source callee.block frame))) (λ l. and_end (run (inside l))
    (λ f. and_end (end_of (copy_all_out source caller site callee (passed_out source site.how callee) (with_inside l f)))
    (λ m. ended (returned source callee.block m))))) (fun_ext same)

same-callee : (source : Source) (x y : Activation → Frame → Ended Frame) (caller : Activation) (site : CallSite) (callee : Callee)
    → RunsSuch (λ b. (first : ℕ) (f : Frame) → x (record { block = b; first = first }) f ≡ y (record { block = b; first = first }) f) callee
    → (frame : Frame) → run_callee source x caller site callee frame ≡ run_callee source y caller site callee frame
same-callee source x y caller site (runs b) same frame =
    same-call source x y caller site (record { block = b; first = instance_first source caller site.call })
    (λ f. same (instance_first source caller site.call) f) frame
same-callee source x y caller site (not_declared place) same frame = refl
same-callee source x y caller site (not_callable place) same frame = refl
same-callee source x y caller site unknown same frame = refl

weaker : (P R : BlockTree → Type 0) → ((b : BlockTree) → P b → R b) → (callee : Callee) → RunsSuch P callee → RunsSuch R callee
weaker P R f (runs b) is = f b is
weaker P R f (not_declared place) is = tt
weaker P R f (not_callable place) is = tt
weaker P R f unknown is = tt

none-made : (source : Source) (x : Activation → Frame → Ended Frame) (caller : Activation) (site : CallSite) (callee : Callee)
    → RunsSuch (λ b. ⊥) callee → (frame : Frame) → run_callee source x caller site callee frame ≡ not_made frame
none-made source x caller site (runs b) is frame = absurd is
none-made source x caller site (not_declared place) is frame = refl
none-made source x caller site (not_callable place) is frame = refl
none-made source x caller site unknown is frame = refl

-- ---- more calls than a chain has change nothing

pub fuel-body : (source : Source) (n k : ℕ) → n ≤ k → (act : Activation) → EndsWithin source.project n act.block → (frame : Frame)
    → run_body source (calls_within source k) act frame ≡ run_body source (calls_within source n) act frame
fuel-body source zero zero le act ends frame = refl
fuel-body source zero (suc k) le act ends frame =
    same-code source (calls_within source (suc k)) (calls_within source zero) act act.block.body
    (more-code (λ s. RunsSuch (λ b. ⊥) (callee_of (scope_in source act) s)) (Agree (calls_within source (suc k)) (calls_within source zero) act)
    (λ s is f. none-made source (λ callee g. run_body source (calls_within source k) callee g) act s (callee_of (scope_in source act) s) is f)
    act.block.body ends) frame
fuel-body source (suc n) zero le act ends frame = absurd (omega arith)
fuel-body source (suc n) (suc k) le act ends frame =
    same-code source (calls_within source (suc k)) (calls_within source (suc n)) act act.block.body
    (more-code (λ s. RunsSuch (λ b. EndsWithin source.project n b) (callee_of (scope_in source act) s))
    (Agree (calls_within source (suc k)) (calls_within source (suc n)) act)
    (λ s is f. same-callee source (λ callee g. run_body source (calls_within source k) callee g)
    (λ callee g. run_body source (calls_within source n) callee g) act s (callee_of (scope_in source act) s)
    (weaker (λ b. EndsWithin source.project n b) (λ b. (first : ℕ) (g : Frame)
    → run_body source (calls_within source k) (record { block = b; first = first }) g
    ≡ run_body source (calls_within source n) (record { block = b; first = first }) g)
    (λ b e first g. fuel-body source n k (omega arith) (record { block = b; first = first }) e g) (callee_of (scope_in source act) s) is) f)
    act.block.body ends) frame

pub fuel-scan : (source : Source) (n k : ℕ) (values : List ℤ) → n ≤ k → EndsWithin source.project n source.entry
    → scan_from source k values ≡ scan_from source n values
fuel-scan source n k values le ends =
    ap (λ (e : Ended Frame). let s : Scan = record { beginning = values; end = visible_end e } in s)
    (fuel-body source n k le (entry_activation source) ends (entry_frame source values))
