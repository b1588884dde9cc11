-- Where statements stop: at one of their places, or at one of what their calls run.
use Rattle.std.proofs.Common.{◌≡◌, ◌⊎◌, ℕ, zero, suc, ℤ, ◌+ℤ◌, inl, inr, refl, subst, sym}
use Rattle.pv_place.specs.declared.place.Place.{Place}
use Rattle.pv_tree.specs.Tree.{OperandTree, StmtTree, assign, assign_call, if_, case_, for_, while_, repeat_, exit_, continue_, return_, call_, empty_, StmtTrees, no_stmts, stmts, ArmTrees, no_arms, arms, BranchTrees, no_branches, branches, ElseTree, no_else, else_}
use Rattle.pv_tree.specs.Callees.{as_statement, as_value, CallSite}
use Rattle.pv_mean.specs.Sources.{Source}
use Rattle.pv_mean.specs.Frames.{Frame}
use Rattle.pv_mean.specs.Endings.{Value, Ending, normal, by_over, when_got}
use Rattle.pv_mean.specs.Spots.{Spot, told, read_spot, write_spot}
use Rattle.pv_mean.specs.Activations.{Activation}
use Rattle.pv_mean.specs.Values.{is_true, value, locate}
use Rattle.pv_mean.specs.Statements.{Returned, Calls, is_chosen, after_turn, while_turns, repeat_turns, Counting, is_on_the_way, for_turns, counter, step_of, store, run_stmt, run_stmts, run_arms, run_branches, run_else}
use Rattle.pv_laws_scans.specs.Places.{InExpr, InOperand, InCall, Besides, InStmt, InStmts, InArms, InBranches, InElse, StopsIn}
use Rattle.pv_laws_scans.proofs.Stopping.{TrapsIn, EndsIn, traps_wider, ends_wider, stops_wider, ends_got, ends_ended, ends_on, ends_turn, ends_either}
use Rattle.pv_laws_scans.proofs.Values.{told_at, read_at, value_in, located_in}

-- each call of the activation stops at a place of its own or at one besides
abbrev pub CallsStopIn : Calls → Activation → Besides → Type 0
CallsStopIn calls act C = (site : CallSite) (frame : Frame) → StopsIn (λ p. InCall p site.call ⊎ C site p) (calls act site frame)

-- ---- loops

while_in : (P : Place → Type 0) (condition : Frame → Value) (body : Frame → Ending) (place : Place) (n : ℕ) (frame : Frame)
    → ((f : Frame) → TrapsIn P (condition f)) → ((f : Frame) → EndsIn P (body f)) → P place → EndsIn P (while_turns condition body place n frame)
while_in P condition body place zero frame conditions bodies here =
    ends_got P (condition frame) _ (conditions frame) (λ v. ends_either P (is_true v) (by_over place) (normal frame) here tt)
while_in P condition body place (suc n) frame conditions bodies here =
    ends_got P (condition frame) _ (conditions frame) (λ v. ends_either P (is_true v) (after_turn (body frame) (λ f. while_turns condition body place n f)) (normal frame)
    (ends_turn P (body frame) (λ f. while_turns condition body place n f) (bodies frame) (λ f. while_in P condition body place n f conditions bodies here)) tt)

repeat_in : (P : Place → Type 0) (condition : Frame → Value) (body : Frame → Ending) (place : Place) (n : ℕ) (frame : Frame)
    → ((f : Frame) → TrapsIn P (condition f)) → ((f : Frame) → EndsIn P (body f)) → P place → EndsIn P (repeat_turns condition body place n frame)
repeat_in P condition body place zero frame conditions bodies here = here
repeat_in P condition body place (suc n) frame conditions bodies here =
    ends_turn P (body frame) _ (bodies frame) (λ f. ends_got P (condition f) _ (conditions f)
    (λ v. ends_either P (is_true v) (normal f) (repeat_turns condition body place n f) tt (repeat_in P condition body place n f conditions bodies here)))

for_in : (P : Place → Type 0) (source : Source) (loop : Counting) (body : Frame → Ending) (n : ℕ) (count : ℤ) (frame : Frame)
    → ((f : Frame) → EndsIn P (body f)) → P loop.place → P loop.variable_place → EndsIn P (for_turns source loop body n count frame)
for_in P source loop body zero count frame bodies here there =
    ends_either P (is_on_the_way loop.by count loop.last) (by_over loop.place) (normal frame) here tt
for_in P source loop body (suc n) count frame bodies here there =
    let next : Frame → ℤ → Ending = λ f v. for_turns source loop body n (v +ℤ loop.by) (write_spot source f loop.variable (v +ℤ loop.by)) in
    let turn : Frame → Ending = λ f. when_got (read_spot f loop.variable_place loop.variable) (λ v. next f v) in
    let P_at : (f : Frame) → TrapsIn P (read_spot f loop.variable_place loop.variable) = λ f.
    traps_wider (λ p. p ≡ loop.variable_place) P (read_spot f loop.variable_place loop.variable) (λ p e. moved p e) (read_at f loop.variable_place loop.variable) in
    ends_either P (is_on_the_way loop.by count loop.last) (after_turn (body frame) turn) (normal frame)
    (ends_turn P (body frame) turn (bodies frame) (λ f. ends_got P (read_spot f loop.variable_place loop.variable) (λ v. next f v) (P_at f)
    (λ v. for_in P source loop body n (v +ℤ loop.by) (write_spot source f loop.variable (v +ℤ loop.by)) bodies here there))) tt
  where
    moved : (p : Place) → p ≡ loop.variable_place → P p
    moved p e = subst P (sym e) there

-- ---- statements

store_in : (P : Place → Type 0) (source : Source) (act : Activation) (target : OperandTree) (frame : Frame) (v : ℤ)
    → ((p : Place) → InOperand p target → P p) → EndsIn P (store source act target frame v)
store_in P source act target frame v wider =
    ends_got P (locate source act frame target) (λ spot. normal (write_spot source frame spot v))
    (traps_wider (λ p. InOperand p target) P (locate source act frame target) wider (located_in source act frame target)) (λ spot. tt)

mutual
  stmt_in : (source : Source) (calls : Calls) (act : Activation) (C : Besides) → CallsStopIn calls act C → (s : StmtTree) (frame : Frame)
      → EndsIn (λ p. InStmt C p s) (run_stmt source calls act s frame)
  stmt_in source calls act C stop (assign target place e) frame =
      let P : Place → Type 0 = λ p. InStmt C p (assign target place e) in
      ends_got P (value source act frame e) (λ v. store source act target frame v)
      (traps_wider (λ p. InExpr p e) P (value source act frame e) (λ p is. inr (inr is)) (value_in source act frame e))
      (λ v. store_in P source act target frame v (λ p is. inr (inl is)))
  stmt_in source calls act C stop (assign_call target place call) frame =
      let P : Place → Type 0 = λ p. InStmt C p (assign_call target place call) in
      let site : CallSite = record { how = as_value; call = call } in
      let next : Returned → Ending = λ back. when_got (told back.value call.place) (λ v. store source act target back.frame v) in
      ends_ended P (calls act site frame) next
      (stops_wider (λ p. InCall p call ⊎ C site p) P (calls act site frame) (λ p is. inr (inr is)) (stop site frame))
      (λ back. ends_got P (told back.value call.place) (λ v. store source act target back.frame v)
      (traps_wider (λ p. p ≡ call.place) P (told back.value call.place) (λ p e. inr (inr (inl (inl e)))) (told_at back.value call.place))
      (λ v. store_in P source act target back.frame v (λ p is. inr (inl is))))
  stmt_in source calls act C stop (if_ conditions other place) frame =
      ends_wider (λ p. InArms C p conditions ⊎ InElse C p other) (λ p. InStmt C p (if_ conditions other place))
      (run_arms source calls act (λ f. run_else source calls act other f) conditions frame) (λ p is. inr is)
      (arms_in source calls act C stop (λ p. InElse C p other) (λ f. run_else source calls act other f) (λ f. else_in source calls act C stop other f) conditions frame)
  stmt_in source calls act C stop (case_ selector choices other place) frame =
      let P : Place → Type 0 = λ p. InStmt C p (case_ selector choices other place) in
      let next : ℤ → Ending = λ v. run_branches source calls act v (λ f. run_else source calls act other f) choices frame in
      ends_got P (value source act frame selector) next
      (traps_wider (λ p. InExpr p selector) P (value source act frame selector) (λ p is. inr (inl is)) (value_in source act frame selector))
      (λ v. ends_wider (λ p. InBranches C p choices ⊎ InElse C p other) P (next v) (λ p is. inr (inr is))
      (branches_in source calls act C stop (λ p. InElse C p other) v (λ f. run_else source calls act other f) (λ f. else_in source calls act C stop other f) choices frame))
  stmt_in source calls act C stop (for_ name name_place first last by body place) frame =
      let P : Place → Type 0 = λ p. InStmt C p (for_ name name_place first last by body place) in
      let loop : Spot → ℤ → Counting = λ spot end. record { variable = spot; variable_place = name_place; by = step_of by; last = end; place = place } in
      let turns : ℤ → ℤ → Spot → Ending = λ v end spot. for_turns source (loop spot end) (λ f. run_stmts source calls act body f) source.bound v (write_spot source frame spot v) in
      let variable = counter name name_place in
      ends_got P (value source act frame first) (λ v. when_got (value source act frame last) (λ end. when_got (locate source act frame variable) (λ spot. turns v end spot)))
      (traps_wider (λ p. InExpr p first) P (value source act frame first) (λ p is. inr (inr (inl is))) (value_in source act frame first))
      (λ v. ends_got P (value source act frame last) (λ end. when_got (locate source act frame variable) (λ spot. turns v end spot))
      (traps_wider (λ p. InExpr p last) P (value source act frame last) (λ p is. inr (inr (inr (inl is)))) (value_in source act frame last))
      (λ end. ends_got P (locate source act frame variable) (λ spot. turns v end spot)
      (traps_wider (λ p. InOperand p variable) P (locate source act frame variable) (λ p is. elim is [ inl e ↦ inr (inl e) | inr none ↦ absurd none ])
      (located_in source act frame variable))
      (λ spot. for_in P source (loop spot end) (λ f. run_stmts source calls act body f) source.bound v (write_spot source frame spot v)
      (λ f. ends_wider (λ p. InStmts C p body) P (run_stmts source calls act body f) (λ p is. inr (inr (inr (inr is)))) (stmts_in source calls act C stop body f))
      (inl refl) (inr (inl refl)))))
  stmt_in source calls act C stop (while_ condition body place) frame =
      let P : Place → Type 0 = λ p. InStmt C p (while_ condition body place) in
      while_in P (λ f. value source act f condition) (λ f. run_stmts source calls act body f) place source.bound frame
      (λ f. traps_wider (λ p. InExpr p condition) P (value source act f condition) (λ p is. inr (inl is)) (value_in source act f condition))
      (λ f. ends_wider (λ p. InStmts C p body) P (run_stmts source calls act body f) (λ p is. inr (inr is)) (stmts_in source calls act C stop body f)) (inl refl)
  stmt_in source calls act C stop (repeat_ body condition place) frame =
      let P : Place → Type 0 = λ p. InStmt C p (repeat_ body condition place) in
      repeat_in P (λ f. value source act f condition) (λ f. run_stmts source calls act body f) place source.bound frame
      (λ f. traps_wider (λ p. InExpr p condition) P (value source act f condition) (λ p is. inr (inr is)) (value_in source act f condition))
      (λ f. ends_wider (λ p. InStmts C p body) P (run_stmts source calls act body f) (λ p is. inr (inl is)) (stmts_in source calls act C stop body f)) (inl refl)
  stmt_in source calls act C stop (exit_ place) frame = tt
  stmt_in source calls act C stop (continue_ place) frame = tt
  stmt_in source calls act C stop (return_ place) frame = tt
  stmt_in source calls act C stop (call_ call) frame =
      let site : CallSite = record { how = as_statement; call = call } in
      ends_ended (λ p. InCall p call ⊎ C site p) (calls act site frame) (λ back. normal back.frame) (stop site frame) (λ back. tt)
  stmt_in source calls act C stop (empty_ place) frame = tt

  pub stmts_in : (source : Source) (calls : Calls) (act : Activation) (C : Besides) → CallsStopIn calls act C → (ss : StmtTrees) (frame : Frame)
      → EndsIn (λ p. InStmts C p ss) (run_stmts source calls act ss frame)
  stmts_in source calls act C stop no_stmts frame = tt
  stmts_in source calls act C stop (stmts s more) frame =
      let P : Place → Type 0 = λ p. InStmt C p s ⊎ InStmts C p more in
      ends_on P (run_stmt source calls act s frame) (λ f. run_stmts source calls act more f)
      (ends_wider (λ p. InStmt C p s) P (run_stmt source calls act s frame) (λ p is. inl is) (stmt_in source calls act C stop s frame))
      (λ f. ends_wider (λ p. InStmts C p more) P (run_stmts source calls act more f) (λ p is. inr is) (stmts_in source calls act C stop more f))

  arms_in : (source : Source) (calls : Calls) (act : Activation) (C : Besides) → CallsStopIn calls act C → (Q : Place → Type 0) (otherwise : Frame → Ending)
      → ((f : Frame) → EndsIn Q (otherwise f)) → (as_ : ArmTrees) (frame : Frame)
      → EndsIn (λ p. InArms C p as_ ⊎ Q p) (run_arms source calls act otherwise as_ frame)
  arms_in source calls act C stop Q otherwise else_ends no_arms frame =
      ends_wider Q (λ p. InArms C p no_arms ⊎ Q p) (otherwise frame) (λ p is. inr is) (else_ends frame)
  arms_in source calls act C stop Q otherwise else_ends (arms condition body more) frame =
      let P : Place → Type 0 = λ p. InArms C p (arms condition body more) ⊎ Q p in
      ends_got P (value source act frame condition) _
      (traps_wider (λ p. InExpr p condition) P (value source act frame condition) (λ p is. inl (inl is)) (value_in source act frame condition))
      (λ v. ends_either P (is_true v) (run_stmts source calls act body frame) (run_arms source calls act otherwise more frame)
      (ends_wider (λ p. InStmts C p body) P (run_stmts source calls act body frame) (λ p is. inl (inr (inl is))) (stmts_in source calls act C stop body frame))
      (ends_wider (λ p. InArms C p more ⊎ Q p) P (run_arms source calls act otherwise more frame)
      (λ p is. elim is [ inl a ↦ inl (inr (inr a)) | inr q ↦ inr q ]) (arms_in source calls act C stop Q otherwise else_ends more frame)))

  branches_in : (source : Source) (calls : Calls) (act : Activation) (C : Besides) → CallsStopIn calls act C → (Q : Place → Type 0) (v : ℤ) (otherwise : Frame → Ending)
      → ((f : Frame) → EndsIn Q (otherwise f)) → (bs : BranchTrees) (frame : Frame)
      → EndsIn (λ p. InBranches C p bs ⊎ Q p) (run_branches source calls act v otherwise bs frame)
  branches_in source calls act C stop Q v otherwise else_ends no_branches frame =
      ends_wider Q (λ p. InBranches C p no_branches ⊎ Q p) (otherwise frame) (λ p is. inr is) (else_ends frame)
  branches_in source calls act C stop Q v otherwise else_ends (branches choices body more) frame =
      let P : Place → Type 0 = λ p. InBranches C p (branches choices body more) ⊎ Q p in
      ends_either P (is_chosen act v choices) (run_stmts source calls act body frame) (run_branches source calls act v otherwise more frame)
      (ends_wider (λ p. InStmts C p body) P (run_stmts source calls act body frame) (λ p is. inl (inl is)) (stmts_in source calls act C stop body frame))
      (ends_wider (λ p. InBranches C p more ⊎ Q p) P (run_branches source calls act v otherwise more frame)
      (λ p is. elim is [ inl a ↦ inl (inr a) | inr q ↦ inr q ]) (branches_in source calls act C stop Q v otherwise else_ends more frame))

  else_in : (source : Source) (calls : Calls) (act : Activation) (C : Besides) → CallsStopIn calls act C → (other : ElseTree) (frame : Frame)
      → EndsIn (λ p. InElse C p other) (run_else source calls act other frame)
  else_in source calls act C stop no_else frame = tt
  else_in source calls act C stop (else_ body) frame = stmts_in source calls act C stop body frame
