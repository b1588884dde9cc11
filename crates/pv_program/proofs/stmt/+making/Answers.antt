use Rattle.std.proofs.Common.{refl, ap, sym, ◌∙◌, ◌+◌, ◌*◌, ◌<◌, subst, arith, map}
use Rattle.std.specs.Prelude.{option_map, Vec}
use Rattle.std.specs.declared.alloc.Global.{Global}
use Rattle.pv_tree.specs.declared.stmt.Stmt.{Stmt, size-Stmt}
use Rattle.pv_tree.specs.Tree.{assign, assign_call, case_, for_, while_, repeat_, call_}
use Rattle.pv_tree.specs.View.{expr_tree, operand_tree, call_tree, stmt_tree, stmt_trees, branches_of, else_of}
use Rattle.pv_tree.proofs.ForCallers.{stmt-for, stmt-if, stmt-case}
use Rattle.pv_resolve.specs.Contexts.{block_in}
use Rattle.pv_run.specs.Code.{AreChoices, decides, selects, counts, goes_while, repeats, exits, continues, returns, nothing}
use Rattle.pv_program.specs.Made.{IsNext, IsArm, IsBranch}
use Rattle.pv_tree.specs.View.{arms_of, branches_of}
use Rattle.std.proofs.Common.{sym, map}
use Rattle.std.proofs.lemmas.Result.{on_ok_weaker}
use Rattle.pv_resolve.proofs.ForCallers.{failed}
use Rattle.pv_laws_room.specs.Bodies.{FitsChoices, FitsStmt, FitsStmts, FitsArms, FitsBranches, FitsElse}
use Rattle.pv_program.specs.Led.{CallsLed, AllLed, ArmsLed, BranchesLed, ElseLed}
use Rattle.pv_program.proofs.Leading.{led_same, stmt_fits, stmt_led, arm_fits, arm_led, branch_fits, branch_led, other-part}
use Rattle.pv_program.proofs.Measuring.{of_branches, of_other, branches_deeper, other_deeper, max_less}
use Rattle.pv_program.proofs.Growing.{extends-same, extends-then}
use Rattle.pv_program.proofs.Keeping.{value-kept, choices-kept, counts-kept, stmt-kept, body-kept, arms-kept, branches-kept, arm-kept, branch-kept}
use Rattle.pv_program.proofs.Pairing.{pairs-none, pairs-map, pairs-grown, gathered}
use Rattle.pv_program.proofs.Standing.{are-arms, are-branches}
use Rattle.pv_program.proofs.Making.{list-made, list-as, other-as, no-other, next-as, is-next-as, arm_of, branch_of}
use Rattle.pv_program.proofs.Forms.{stmt-assign, stmt-assign_call, stmt-while, stmt-repeat, stmt-exit, stmt-continue, stmt-return, stmt-call, stmt-empty}
use Rattle.pv_program.proofs.stmt.+making.Goals as goal

pub make_arms-loop-arm-init : goal.make_arms-loop-arm-init
make_arms-loop-arm-init t c = record {
  grows = extends-same c.args.program.now;
  are = λ source is.
      pairs-none (IsArm source (block_in c.args.context.now) c.args.program.now) arm_of c.deref-arm-items.result.now c.new-made.result.items c.new-made.ensures.items;
  led = λ source is led before. before;
}

pub make_arms-loop-arm-preserved : goal.make_arms-loop-arm-preserved
make_arms-loop-arm-preserved t c =
    let grown = extends-then _ _ _ c.in_ok-condition.ensures.grows c.in_ok-body.ensures.grows in
    record {
      grows = extends-then _ _ _ c.loop-arm.invariant.grows grown;
      are = λ source is.
          pairs-grown (IsArm source (block_in c.args.context.now) c.make_list.new.program) arm_of c.deref-arm-items.result.now
          c.loop-arm.arm-index _ c.arm-item.result c.loop-arm.made.items c.push.new.self.items _ c.loop-arm-test.true c.arm-item.is
          refl c.in_ok-push.ensures.items
          (record {
            condition = value-kept c.in_ok-body.ensures.grows (c.in_ok-condition.ensures.means source is);
            body = list-as _ _ c.as_slice.ensures.value (c.in_ok-body.ensures.is source is);
          })
          (pairs-map _ _ (λ x y r. arm-kept grown r) (c.loop-arm.invariant.are source is));
      led = λ source is led before.
          c.in_ok-body.ensures.led source is (subst (λ l. AllLed source (block_in c.args.context.now) (stmt_trees l)) (sym c.as_slice.ensures.value) (arm_led source (block_in c.args.context.now) arm_of c.deref-arm-items.result.now c.loop-arm.arm-index c.arm-item.result c.loop-arm-test.true c.arm-item.is
          (subst (λ l. ArmsLed source (block_in c.args.context.now) (arms_of (map arm_of l))) (sym c.deref-arm-items.ensures.value) led)))
          (led_same c.in_ok-condition.ensures.calls (c.loop-arm.invariant.led source is led before));
    }

pub make_arms-returns : goal.make_arms-returns
make_arms-returns t c = record {
  grows = extends-then _ _ _ c.loop-arm.invariant.grows c.in_ok-span.ensures.grows;
  are = λ source is.
      are-arms c.in_ok-span.ensures.stands
      (gathered (IsArm source (block_in c.args.context.now) _) arm_of c.deref-arm-items.result.now c.args.arms.now.items
      c.loop-arm.arm-index c.loop-arm.made.items _ (omega arith) c.deref-arm-items.ensures.value c.as_slice-2.ensures.value
      (pairs-map _ _ (λ x y r. arm-kept c.in_ok-span.ensures.grows r) (c.loop-arm.invariant.are source is)));
  room = λ source is h fits led. tt;
  led = λ source is led before. led_same c.in_ok-span.ensures.calls (c.loop-arm.invariant.led source is led before);
}

pub make_branches-loop-branch-init : goal.make_branches-loop-branch-init
make_branches-loop-branch-init t c = record {
  grows = extends-same c.args.program.now;
  are = λ source is.
      pairs-none (IsBranch source (block_in c.args.context.now) c.args.program.now) branch_of c.deref-branch-items.result.now c.new-made.result.items c.new-made.ensures.items;
  led = λ source is led before. before;
}

pub make_branches-loop-branch-preserved : goal.make_branches-loop-branch-preserved
make_branches-loop-branch-preserved t c =
    let grown = extends-then _ _ _ c.in_ok-choices.ensures.grows c.in_ok-body.ensures.grows in
    record {
      grows = extends-then _ _ _ c.loop-branch.invariant.grows grown;
      are = λ source is.
          pairs-grown (IsBranch source (block_in c.args.context.now) c.make_list.new.program) branch_of c.deref-branch-items.result.now
          c.loop-branch.branch-index _ c.branch-item.result c.loop-branch.made.items c.push.new.self.items _ c.loop-branch-test.true c.branch-item.is
          refl c.in_ok-push.ensures.items
          (record {
            choices = choices-kept c.in_ok-body.ensures.grows (subst (λ l. AreChoices (block_in c.args.context.now) c.add_choices.new.program c.in_ok-choices.choices.first c.in_ok-choices.choices.end l) c.as_slice.ensures.value c.in_ok-choices.ensures.are);
            body = list-as _ _ c.as_slice-in-loop-branch.ensures.value (c.in_ok-body.ensures.is source is);
          })
          (pairs-map _ _ (λ x y r. branch-kept grown r) (c.loop-branch.invariant.are source is));
      led = λ source is led before.
          c.in_ok-body.ensures.led source is (subst (λ l. AllLed source (block_in c.args.context.now) (stmt_trees l)) (sym c.as_slice-in-loop-branch.ensures.value) (branch_led source (block_in c.args.context.now) branch_of c.deref-branch-items.result.now c.loop-branch.branch-index c.branch-item.result c.loop-branch-test.true c.branch-item.is
          (subst (λ l. BranchesLed source (block_in c.args.context.now) (branches_of (map branch_of l))) (sym c.deref-branch-items.ensures.value) led)))
          (led_same c.in_ok-choices.ensures.calls (c.loop-branch.invariant.led source is led before));
    }

pub make_branches-returns : goal.make_branches-returns
make_branches-returns t c = record {
  grows = extends-then _ _ _ c.loop-branch.invariant.grows c.in_ok-span.ensures.grows;
  are = λ source is.
      are-branches c.in_ok-span.ensures.stands
      (gathered (IsBranch source (block_in c.args.context.now) _) branch_of c.deref-branch-items.result.now c.args.branches.now.items
      c.loop-branch.branch-index c.loop-branch.made.items _ (omega arith) c.deref-branch-items.ensures.value c.as_slice-2.ensures.value
      (pairs-map _ _ (λ x y r. branch-kept c.in_ok-span.ensures.grows r) (c.loop-branch.invariant.are source is)));
  room = λ source is h fits led. tt;
  led = λ source is led before. led_same c.in_ok-span.ensures.calls (c.loop-branch.invariant.led source is led before);
}

pub make_other-returns-in-Some : goal.make_other-returns-in-Some
make_other-returns-in-Some t c = record {
  grows = c.make_list.ensures.grows;
  is = λ source is. other-as source (block_in c.args.context.now) _ c.make_list.result _ _ _ c.in-Some.is (c.as_slice.ensures.value ∙ ap (λ (v : Vec Stmt Global). v.items) c.deref.ensures)
      (c.make_list.ensures.is source is);
  room = λ source is h fits led.
      c.make_list.ensures.room source is h (subst (λ l. FitsStmts (stmt_trees l)) (sym (c.as_slice.ensures.value ∙ ap (λ (v : Vec Stmt Global). v.items) c.deref.ensures)) (other-part FitsElse FitsStmts (λ l f. f) _ _ c.in-Some.is fits))
      (subst (λ l. AllLed source (block_in c.args.context.now) (stmt_trees l)) (sym (c.as_slice.ensures.value ∙ ap (λ (v : Vec Stmt Global). v.items) c.deref.ensures)) (other-part (ElseLed source (block_in c.args.context.now)) (AllLed source (block_in c.args.context.now)) (λ l f. f) _ _ c.in-Some.is led));
  led = λ source is led before.
      c.make_list.ensures.led source is
      (subst (λ l. AllLed source (block_in c.args.context.now) (stmt_trees l)) (sym (c.as_slice.ensures.value ∙ ap (λ (v : Vec Stmt Global). v.items) c.deref.ensures)) (other-part (ElseLed source (block_in c.args.context.now)) (AllLed source (block_in c.args.context.now)) (λ l f. f) _ _ c.in-Some.is led)) before;
}

pub make_other-returns-in-None : goal.make_other-returns-in-None
make_other-returns-in-None t c = record { grows = extends-same c.args.program.now; is = λ source is. no-other c.in-None.is; room = λ source is h fits led. tt; led = λ source is led before. before }

pub make_if-returns : goal.make_if-returns
make_if-returns t c = record {
  grows = extends-then _ _ _ c.in_ok-span.ensures.grows c.in_ok-list.ensures.grows;
  means = λ source place is.
      decides (arms-kept c.in_ok-list.ensures.grows c.in_ok-list.ensures.grows.longer (c.in_ok-span.ensures.are source is))
      (c.in_ok-list.ensures.is source is);
  room = λ source is h fits others led more. tt;
  led = λ source is led more before. c.in_ok-list.ensures.led source is more (c.in_ok-span.ensures.led source is led before);
}

pub make_case-returns : goal.make_case-returns
make_case-returns t c =
    let behind = extends-then _ _ _ c.in_ok-span.ensures.grows c.in_ok-list.ensures.grows in
    record {
      grows = extends-then _ _ _ c.in_ok-value.ensures.grows behind;
      means = λ source place is.
          selects (value-kept behind (c.in_ok-value.ensures.means source is))
          (branches-kept c.in_ok-list.ensures.grows c.in_ok-list.ensures.grows.longer (c.in_ok-span.ensures.are source is))
          (c.in_ok-list.ensures.is source is);
      room = λ source is h value fits others led more. tt;
      led = λ source is led more before. c.in_ok-list.ensures.led source is more (c.in_ok-span.ensures.led source is led (led_same c.in_ok-value.ensures.calls before));
    }

pub make_for-returns : goal.make_for-returns
make_for-returns t c = record {
  grows = extends-then _ _ _ c.in_ok-count.ensures.grows c.in_ok-list.ensures.grows;
  means = λ source is. counts (counts-kept c.in_ok-list.ensures.grows (c.in_ok-count.ensures.counts source is))
      (list-as _ _ c.as_slice.ensures.value (c.in_ok-list.ensures.is source is));
  room = λ source is h first last by fits led. tt;
  led = λ source is led before. c.in_ok-list.ensures.led source is (subst (λ l. AllLed source (block_in c.args.context.now) (stmt_trees l)) (sym c.as_slice.ensures.value) led) (led_same c.in_ok-count.ensures.calls before);
}

pub make_while-returns : goal.make_while-returns
make_while-returns t c = record {
  grows = extends-then _ _ _ c.in_ok-test.ensures.grows c.in_ok-list.ensures.grows;
  means = λ source is.
      goes_while (value-kept c.in_ok-list.ensures.grows (c.in_ok-test.ensures.means source is))
      (list-as _ _ c.as_slice.ensures.value (c.in_ok-list.ensures.is source is));
  room = λ source is h test fits led. tt;
  led = λ source is led before. c.in_ok-list.ensures.led source is (subst (λ l. AllLed source (block_in c.args.context.now) (stmt_trees l)) (sym c.as_slice.ensures.value) led) (led_same c.in_ok-test.ensures.calls before);
}

pub make_repeat-returns : goal.make_repeat-returns
make_repeat-returns t c = record {
  grows = extends-then _ _ _ c.in_ok-list.ensures.grows c.in_ok-test.ensures.grows;
  means = λ source is.
      repeats (body-kept c.in_ok-test.ensures.grows c.in_ok-test.ensures.grows.longer
      (list-as _ _ c.as_slice.ensures.value (c.in_ok-list.ensures.is source is)))
      (c.in_ok-test.ensures.means source is);
  room = λ source is h test fits led. tt;
  led = λ source is led before. led_same c.in_ok-test.ensures.calls (c.in_ok-list.ensures.led source is (subst (λ l. AllLed source (block_in c.args.context.now) (stmt_trees l)) (sym c.as_slice.ensures.value) led) before);
}

pub make_list-loop-stmt-init : goal.make_list-loop-stmt-init
make_list-loop-stmt-init t c = record {
  grows = extends-same c.args.program.now;
  are = λ source is.
      pairs-none (IsNext source (block_in c.args.context.now) c.args.program.now) stmt_tree c.args.list.now c.new-made.result.items
      c.new-made.ensures.items;
  led = λ source is led before. before;
}

pub make_list-loop-stmt-preserved : goal.make_list-loop-stmt-preserved
make_list-loop-stmt-preserved t c = record {
  grows = extends-then _ _ _ c.loop-stmt.invariant.grows c.in_ok-next.ensures.grows;
  are = λ source is.
      pairs-grown (IsNext source (block_in c.args.context.now) c.make_stmt.new.program) stmt_tree c.args.list.now c.loop-stmt.stmt-index _
      c.stmt-item.result c.loop-stmt.made.items c.push.new.self.items c.in_ok-next.next c.loop-stmt-test.true c.stmt-item.is refl
      c.in_ok-push.ensures.items (c.in_ok-next.ensures.means source is)
      (pairs-map _ _ (λ x y r. stmt-kept c.in_ok-next.ensures.grows c.in_ok-next.ensures.grows.longer r) (c.loop-stmt.invariant.are source is));
  led = λ source is led before.
      c.in_ok-next.ensures.led source is (stmt_led source (block_in c.args.context.now) stmt_tree c.args.list.now c.loop-stmt.stmt-index c.stmt-item.result c.loop-stmt-test.true c.stmt-item.is led)
      (c.loop-stmt.invariant.led source is led before);
}

pub make_list-returns : goal.make_list-returns
make_list-returns t c = record {
  grows = extends-then _ _ _ c.loop-stmt.invariant.grows c.in_ok-all.ensures.grows;
  is = λ source is.
      list-made c.args.list.now c.loop-stmt.stmt-index c.loop-stmt.made.items _ c.in_ok-all.all c.in_ok-all.ensures.grows c.in_ok-all.ensures.stands
      c.in_ok-all.ensures.first c.in_ok-all.ensures.end (omega arith) c.as_slice.ensures.value (c.loop-stmt.invariant.are source is);
  room = λ source is h fits led. tt;
  led = λ source is led before. led_same c.in_ok-all.ensures.calls (c.loop-stmt.invariant.led source is led before);
}

pub make_stmt-returns-in-Assign : goal.make_stmt-returns-in-Assign
make_stmt-returns-in-Assign t c = record {
  grows = c.make_assign.ensures.grows;
  means = λ source is. next-as source (block_in c.args.context.now) _ c.make_assign.result _ _ (ap stmt_tree c.in-Assign.is ∙ stmt-assign c.in-Assign.target c.in-Assign.place c.in-Assign.value
      ∙ ap (λ x. assign (operand_tree c.in-Assign.target) c.in-Assign.place (expr_tree x)) (sym c.deref.ensures)) (c.make_assign.ensures.means source c.in-Assign.place is);
  room = λ source is h fits led. let f = (subst FitsStmt (ap stmt_tree c.in-Assign.is ∙ stmt-assign c.in-Assign.target c.in-Assign.place c.in-Assign.value ∙ ap (λ x. assign (operand_tree c.in-Assign.target) c.in-Assign.place (expr_tree x)) (sym c.deref.ensures)) fits) in c.make_assign.ensures.room source is h.own f.0 f.1;
  led = λ source is led before. on_ok_weaker c.make_assign.result (λ same. led_same same before) c.make_assign.ensures.calls;
}

pub make_stmt-returns-in-AssignCall : goal.make_stmt-returns-in-AssignCall
make_stmt-returns-in-AssignCall t c = record {
  grows = c.make_assign_call.ensures.grows;
  means = λ source is. next-as source (block_in c.args.context.now) _ c.make_assign_call.result _ _ (ap stmt_tree c.in-AssignCall.is ∙ stmt-assign_call c.in-AssignCall.target c.in-AssignCall.place c.in-AssignCall.call
      ∙ ap (λ x. assign_call (operand_tree c.in-AssignCall.target) c.in-AssignCall.place (call_tree x)) (sym c.deref-in-AssignCall.ensures)) (c.make_assign_call.ensures.means source c.in-AssignCall.place is);
  room = λ source is h fits led. let f = (subst FitsStmt (ap stmt_tree c.in-AssignCall.is ∙ stmt-assign_call c.in-AssignCall.target c.in-AssignCall.place c.in-AssignCall.call ∙ ap (λ x. assign_call (operand_tree c.in-AssignCall.target) c.in-AssignCall.place (call_tree x)) (sym c.deref-in-AssignCall.ensures)) fits) in let l = (subst (CallsLed source (block_in c.args.context.now)) (ap stmt_tree c.in-AssignCall.is ∙ stmt-assign_call c.in-AssignCall.target c.in-AssignCall.place c.in-AssignCall.call ∙ ap (λ x. assign_call (operand_tree c.in-AssignCall.target) c.in-AssignCall.place (call_tree x)) (sym c.deref-in-AssignCall.ensures)) led) in c.make_assign_call.ensures.room source is h f.0 f.1 l;
  led = λ source is led before. let l = (subst (CallsLed source (block_in c.args.context.now)) (ap stmt_tree c.in-AssignCall.is ∙ stmt-assign_call c.in-AssignCall.target c.in-AssignCall.place c.in-AssignCall.call ∙ ap (λ x. assign_call (operand_tree c.in-AssignCall.target) c.in-AssignCall.place (call_tree x)) (sym c.deref-in-AssignCall.ensures)) led) in c.make_assign_call.ensures.led source is l before;
}

pub make_stmt-returns-in-If : goal.make_stmt-returns-in-If
make_stmt-returns-in-If t c = record {
  grows = c.make_if.ensures.grows;
  means = λ source is. next-as source (block_in c.args.context.now) _ c.make_if.result _ _ (ap stmt_tree c.in-If.is ∙ stmt-if c.in-If.arms c.in-If.other c.in-If.place) (c.make_if.ensures.means source c.in-If.place is);
  room = λ source is h fits led. let f = (subst FitsStmt (ap stmt_tree c.in-If.is ∙ stmt-if c.in-If.arms c.in-If.other c.in-If.place) fits) in let l = (subst (CallsLed source (block_in c.args.context.now)) (ap stmt_tree c.in-If.is ∙ stmt-if c.in-If.arms c.in-If.other c.in-If.place) led) in c.make_if.ensures.room source is h f.0 f.1 l.0 l.1;
  led = λ source is led before. let l = (subst (CallsLed source (block_in c.args.context.now)) (ap stmt_tree c.in-If.is ∙ stmt-if c.in-If.arms c.in-If.other c.in-If.place) led) in c.make_if.ensures.led source is l.0 l.1 before;
}

pub make_stmt-make_case-requires : goal.make_stmt-make_case-requires
make_stmt-make_case-requires t c =
    let size = ap size-Stmt c.in-Case.is in
    let above = branches_deeper c.in-Case.selector c.in-Case.branches c.in-Case.other c.in-Case.place in
    let behind = other_deeper c.in-Case.selector c.in-Case.branches c.in-Case.other c.in-Case.place in
    let branches : 4 * of_branches c.in-Case.branches.items + 3 < t = omega (arith, above, size, c.decreases) in
    let other : 4 * of_other c.in-Case.other + 3 < t = omega (arith, behind, size, c.decreases) in
    (max_less _ _ _ branches other, tt)

pub make_stmt-returns-in-Case : goal.make_stmt-returns-in-Case
make_stmt-returns-in-Case t c = record {
  grows = c.make_case.ensures.grows;
  means = λ source is. next-as source (block_in c.args.context.now) _ c.make_case.result _ _ (ap stmt_tree c.in-Case.is ∙ stmt-case c.in-Case.selector c.in-Case.branches c.in-Case.other c.in-Case.place
      ∙ ap (λ x. case_ (expr_tree x) (branches_of (map (λ b. (b.0.items, stmt_trees b.1.items)) c.in-Case.branches.items))
      (else_of (option_map (λ o. stmt_trees o.value.items) c.in-Case.other)) c.in-Case.place) (sym c.deref-in-Case.ensures)) (c.make_case.ensures.means source c.in-Case.place is);
  room = λ source is h fits led. let f = (subst FitsStmt (ap stmt_tree c.in-Case.is ∙ stmt-case c.in-Case.selector c.in-Case.branches c.in-Case.other c.in-Case.place ∙ ap (λ x. case_ (expr_tree x) (branches_of (map (λ b. (b.0.items, stmt_trees b.1.items)) c.in-Case.branches.items)) (else_of (option_map (λ o. stmt_trees o.value.items) c.in-Case.other)) c.in-Case.place) (sym c.deref-in-Case.ensures)) fits) in let l = (subst (CallsLed source (block_in c.args.context.now)) (ap stmt_tree c.in-Case.is ∙ stmt-case c.in-Case.selector c.in-Case.branches c.in-Case.other c.in-Case.place ∙ ap (λ x. case_ (expr_tree x) (branches_of (map (λ b. (b.0.items, stmt_trees b.1.items)) c.in-Case.branches.items)) (else_of (option_map (λ o. stmt_trees o.value.items) c.in-Case.other)) c.in-Case.place) (sym c.deref-in-Case.ensures)) led) in c.make_case.ensures.room source is h f.0 f.1.0 f.1.1 l.0 l.1;
  led = λ source is led before. let l = (subst (CallsLed source (block_in c.args.context.now)) (ap stmt_tree c.in-Case.is ∙ stmt-case c.in-Case.selector c.in-Case.branches c.in-Case.other c.in-Case.place ∙ ap (λ x. case_ (expr_tree x) (branches_of (map (λ b. (b.0.items, stmt_trees b.1.items)) c.in-Case.branches.items)) (else_of (option_map (λ o. stmt_trees o.value.items) c.in-Case.other)) c.in-Case.place) (sym c.deref-in-Case.ensures)) led) in c.make_case.ensures.led source is l.0 l.1 before;
}

pub make_stmt-returns-in-For : goal.make_stmt-returns-in-For
make_stmt-returns-in-For t c = record {
  grows = c.make_for.ensures.grows;
  means = λ source is. next-as source (block_in c.args.context.now) _ c.make_for.result _ _ (ap stmt_tree c.in-For.is ∙ stmt-for c.in-For.head c.in-For.body c.in-For.place
      ∙ ap (λ h. for_ h.var h.var_place (expr_tree h.first) (expr_tree h.last) h.by (stmt_trees c.in-For.body.items) c.in-For.place) (sym c.deref-in-For.ensures)) (c.make_for.ensures.means source is);
  room = λ source is h fits led. let f = (subst FitsStmt (ap stmt_tree c.in-For.is ∙ stmt-for c.in-For.head c.in-For.body c.in-For.place ∙ ap (λ h. for_ h.var h.var_place (expr_tree h.first) (expr_tree h.last) h.by (stmt_trees c.in-For.body.items) c.in-For.place) (sym c.deref-in-For.ensures)) fits) in let l = (subst (CallsLed source (block_in c.args.context.now)) (ap stmt_tree c.in-For.is ∙ stmt-for c.in-For.head c.in-For.body c.in-For.place ∙ ap (λ h. for_ h.var h.var_place (expr_tree h.first) (expr_tree h.last) h.by (stmt_trees c.in-For.body.items) c.in-For.place) (sym c.deref-in-For.ensures)) led) in c.make_for.ensures.room source is h f.0 f.1.0 f.1.1.0 f.1.1.1 l;
  led = λ source is led before. let l = (subst (CallsLed source (block_in c.args.context.now)) (ap stmt_tree c.in-For.is ∙ stmt-for c.in-For.head c.in-For.body c.in-For.place ∙ ap (λ h. for_ h.var h.var_place (expr_tree h.first) (expr_tree h.last) h.by (stmt_trees c.in-For.body.items) c.in-For.place) (sym c.deref-in-For.ensures)) led) in c.make_for.ensures.led source is l before;
}

pub make_stmt-returns-in-While : goal.make_stmt-returns-in-While
make_stmt-returns-in-While t c = record {
  grows = c.make_while.ensures.grows;
  means = λ source is. next-as source (block_in c.args.context.now) _ c.make_while.result _ _ (ap stmt_tree c.in-While.is ∙ stmt-while c.in-While.cond c.in-While.body c.in-While.place
      ∙ ap (λ x. while_ (expr_tree x) (stmt_trees c.in-While.body.items) c.in-While.place) (sym c.deref-in-While.ensures)) (c.make_while.ensures.means source is);
  room = λ source is h fits led. let f = (subst FitsStmt (ap stmt_tree c.in-While.is ∙ stmt-while c.in-While.cond c.in-While.body c.in-While.place ∙ ap (λ x. while_ (expr_tree x) (stmt_trees c.in-While.body.items) c.in-While.place) (sym c.deref-in-While.ensures)) fits) in let l = (subst (CallsLed source (block_in c.args.context.now)) (ap stmt_tree c.in-While.is ∙ stmt-while c.in-While.cond c.in-While.body c.in-While.place ∙ ap (λ x. while_ (expr_tree x) (stmt_trees c.in-While.body.items) c.in-While.place) (sym c.deref-in-While.ensures)) led) in c.make_while.ensures.room source is h f.0 f.1 l;
  led = λ source is led before. let l = (subst (CallsLed source (block_in c.args.context.now)) (ap stmt_tree c.in-While.is ∙ stmt-while c.in-While.cond c.in-While.body c.in-While.place ∙ ap (λ x. while_ (expr_tree x) (stmt_trees c.in-While.body.items) c.in-While.place) (sym c.deref-in-While.ensures)) led) in c.make_while.ensures.led source is l before;
}

pub make_stmt-returns-in-Repeat : goal.make_stmt-returns-in-Repeat
make_stmt-returns-in-Repeat t c = record {
  grows = c.make_repeat.ensures.grows;
  means = λ source is. next-as source (block_in c.args.context.now) _ c.make_repeat.result _ _ (ap stmt_tree c.in-Repeat.is ∙ stmt-repeat c.in-Repeat.body c.in-Repeat.cond c.in-Repeat.place
      ∙ ap (λ x. repeat_ (stmt_trees c.in-Repeat.body.items) (expr_tree x) c.in-Repeat.place) (sym c.deref-in-Repeat.ensures)) (c.make_repeat.ensures.means source is);
  room = λ source is h fits led. let f = (subst FitsStmt (ap stmt_tree c.in-Repeat.is ∙ stmt-repeat c.in-Repeat.body c.in-Repeat.cond c.in-Repeat.place ∙ ap (λ x. repeat_ (stmt_trees c.in-Repeat.body.items) (expr_tree x) c.in-Repeat.place) (sym c.deref-in-Repeat.ensures)) fits) in let l = (subst (CallsLed source (block_in c.args.context.now)) (ap stmt_tree c.in-Repeat.is ∙ stmt-repeat c.in-Repeat.body c.in-Repeat.cond c.in-Repeat.place ∙ ap (λ x. repeat_ (stmt_trees c.in-Repeat.body.items) (expr_tree x) c.in-Repeat.place) (sym c.deref-in-Repeat.ensures)) led) in c.make_repeat.ensures.room source is h f.0 f.1 l;
  led = λ source is led before. let l = (subst (CallsLed source (block_in c.args.context.now)) (ap stmt_tree c.in-Repeat.is ∙ stmt-repeat c.in-Repeat.body c.in-Repeat.cond c.in-Repeat.place ∙ ap (λ x. repeat_ (stmt_trees c.in-Repeat.body.items) (expr_tree x) c.in-Repeat.place) (sym c.deref-in-Repeat.ensures)) led) in c.make_repeat.ensures.led source is l before;
}

pub make_stmt-returns-in-Exit : goal.make_stmt-returns-in-Exit
make_stmt-returns-in-Exit t c = record {
  grows = extends-same c.args.program.now;
  means = λ source is. is-next-as _ _ (ap stmt_tree c.in-Exit.is ∙ stmt-exit c.in-Exit.field-0) exits;
  room = λ source is h fits led. tt;
  led = λ source is led before. before;
}

pub make_stmt-returns-in-Continue : goal.make_stmt-returns-in-Continue
make_stmt-returns-in-Continue t c = record {
  grows = extends-same c.args.program.now;
  means = λ source is. is-next-as _ _ (ap stmt_tree c.in-Continue.is ∙ stmt-continue c.in-Continue.field-0) continues;
  room = λ source is h fits led. tt;
  led = λ source is led before. before;
}

pub make_stmt-returns-in-Return : goal.make_stmt-returns-in-Return
make_stmt-returns-in-Return t c = record {
  grows = extends-same c.args.program.now;
  means = λ source is. is-next-as _ _ (ap stmt_tree c.in-Return.is ∙ stmt-return c.in-Return.field-0) returns;
  room = λ source is h fits led. tt;
  led = λ source is led before. before;
}

pub make_stmt-returns-in-Empty : goal.make_stmt-returns-in-Empty
make_stmt-returns-in-Empty t c = record {
  grows = extends-same c.args.program.now;
  means = λ source is. is-next-as _ _ (ap stmt_tree c.in-Empty.is ∙ stmt-empty c.in-Empty.field-0) nothing;
  room = λ source is h fits led. tt;
  led = λ source is led before. before;
}

pub make_stmt-returns-in-Call : goal.make_stmt-returns-in-Call
make_stmt-returns-in-Call t c = record {
  grows = c.make_called.ensures.grows;
  means = λ source is. next-as source (block_in c.args.context.now) _ c.make_called.result _ _ (ap stmt_tree c.in-Call.is ∙ stmt-call c.in-Call.call ∙ ap (λ x. call_ (call_tree x)) (sym c.deref-in-Call.ensures)) (c.make_called.ensures.means source is);
  room = λ source is h fits led. let f = (subst FitsStmt (ap stmt_tree c.in-Call.is ∙ stmt-call c.in-Call.call ∙ ap (λ x. call_ (call_tree x)) (sym c.deref-in-Call.ensures)) fits) in let l = (subst (CallsLed source (block_in c.args.context.now)) (ap stmt_tree c.in-Call.is ∙ stmt-call c.in-Call.call ∙ ap (λ x. call_ (call_tree x)) (sym c.deref-in-Call.ensures)) led) in c.make_called.ensures.room source is h f l;
  led = λ source is led before. let l = (subst (CallsLed source (block_in c.args.context.now)) (ap stmt_tree c.in-Call.is ∙ stmt-call c.in-Call.call ∙ ap (λ x. call_ (call_tree x)) (sym c.deref-in-Call.ensures)) led) in c.make_called.ensures.led source is l before;
}

pub make_arms-returns-in_err-condition-clause-room : goal.make_arms-returns-in_err-condition-clause-room
make_arms-returns-in_err-condition-clause-room t c = λ source is h fits led.
    failed _ _ c.from_residual.ensures.1 (c.in_err-condition.ensures.room source is h.own (arm_fits arm_of c.deref-arm-items.result.now c.loop-arm.arm-index c.arm-item.result c.loop-arm-test.true c.arm-item.is
    (subst (λ l. FitsArms (arms_of (map arm_of l))) (sym c.deref-arm-items.ensures.value) fits)).0)

pub make_arms-returns-in_err-body-clause-room : goal.make_arms-returns-in_err-body-clause-room
make_arms-returns-in_err-body-clause-room t c = λ source is h fits led.
    failed _ _ c.from_residual-in_err-body.ensures.1 (c.in_err-body.ensures.room source is h (subst (λ l. FitsStmts (stmt_trees l)) (sym c.as_slice.ensures.value) (arm_fits arm_of c.deref-arm-items.result.now c.loop-arm.arm-index c.arm-item.result c.loop-arm-test.true c.arm-item.is
    (subst (λ l. FitsArms (arms_of (map arm_of l))) (sym c.deref-arm-items.ensures.value) fits)).1) (subst (λ l. AllLed source (block_in c.args.context.now) (stmt_trees l)) (sym c.as_slice.ensures.value) (arm_led source (block_in c.args.context.now) arm_of c.deref-arm-items.result.now c.loop-arm.arm-index c.arm-item.result c.loop-arm-test.true c.arm-item.is
    (subst (λ l. ArmsLed source (block_in c.args.context.now) (arms_of (map arm_of l))) (sym c.deref-arm-items.ensures.value) led))))

pub make_arms-returns-in_err-span-clause-room : goal.make_arms-returns-in_err-span-clause-room
make_arms-returns-in_err-span-clause-room t c = λ source is h fits led.
    failed _ _ c.from_residual-in_err-span.ensures.1 (c.in_err-span.ensures.memory)

pub make_branches-returns-in_err-choices-clause-room : goal.make_branches-returns-in_err-choices-clause-room
make_branches-returns-in_err-choices-clause-room t c = λ source is h fits led.
    failed _ _ c.from_residual.ensures.1 (c.in_err-choices.ensures.room source h.own (subst FitsChoices (sym c.as_slice.ensures.value) (branch_fits branch_of c.deref-branch-items.result.now c.loop-branch.branch-index c.branch-item.result c.loop-branch-test.true c.branch-item.is
    (subst (λ l. FitsBranches (branches_of (map branch_of l))) (sym c.deref-branch-items.ensures.value) fits)).0))

pub make_branches-returns-in_err-body-clause-room : goal.make_branches-returns-in_err-body-clause-room
make_branches-returns-in_err-body-clause-room t c = λ source is h fits led.
    failed _ _ c.from_residual-in_err-body.ensures.1 (c.in_err-body.ensures.room source is h (subst (λ l. FitsStmts (stmt_trees l)) (sym c.as_slice-in-loop-branch.ensures.value) (branch_fits branch_of c.deref-branch-items.result.now c.loop-branch.branch-index c.branch-item.result c.loop-branch-test.true c.branch-item.is
    (subst (λ l. FitsBranches (branches_of (map branch_of l))) (sym c.deref-branch-items.ensures.value) fits)).1) (subst (λ l. AllLed source (block_in c.args.context.now) (stmt_trees l)) (sym c.as_slice-in-loop-branch.ensures.value) (branch_led source (block_in c.args.context.now) branch_of c.deref-branch-items.result.now c.loop-branch.branch-index c.branch-item.result c.loop-branch-test.true c.branch-item.is
    (subst (λ l. BranchesLed source (block_in c.args.context.now) (branches_of (map branch_of l))) (sym c.deref-branch-items.ensures.value) led))))

pub make_branches-returns-in_err-span-clause-room : goal.make_branches-returns-in_err-span-clause-room
make_branches-returns-in_err-span-clause-room t c = λ source is h fits led.
    failed _ _ c.from_residual-in_err-span.ensures.1 (c.in_err-span.ensures.memory)

pub make_if-returns-in_err-span-clause-room : goal.make_if-returns-in_err-span-clause-room
make_if-returns-in_err-span-clause-room t c = λ source is h fits others led more.
    failed _ _ c.from_residual.ensures.1 (c.in_err-span.ensures.room source is h fits led)

pub make_if-returns-in_err-list-clause-room : goal.make_if-returns-in_err-list-clause-room
make_if-returns-in_err-list-clause-room t c = λ source is h fits others led more.
    failed _ _ c.from_residual-in_err-list.ensures.1 (c.in_err-list.ensures.room source is h others more)

pub make_case-returns-in_err-value-clause-room : goal.make_case-returns-in_err-value-clause-room
make_case-returns-in_err-value-clause-room t c = λ source is h value fits others led more.
    failed _ _ c.from_residual.ensures.1 (c.in_err-value.ensures.room source is h.own value)

pub make_case-returns-in_err-span-clause-room : goal.make_case-returns-in_err-span-clause-room
make_case-returns-in_err-span-clause-room t c = λ source is h value fits others led more.
    failed _ _ c.from_residual-in_err-span.ensures.1 (c.in_err-span.ensures.room source is h fits led)

pub make_case-returns-in_err-list-clause-room : goal.make_case-returns-in_err-list-clause-room
make_case-returns-in_err-list-clause-room t c = λ source is h value fits others led more.
    failed _ _ c.from_residual-in_err-list.ensures.1 (c.in_err-list.ensures.room source is h others more)

pub make_for-returns-in_err-count-clause-room : goal.make_for-returns-in_err-count-clause-room
make_for-returns-in_err-count-clause-room t c = λ source is h first last by fits led.
    failed _ _ c.from_residual.ensures.1 (c.in_err-count.ensures.room source is h.own first last by)

pub make_for-returns-in_err-list-clause-room : goal.make_for-returns-in_err-list-clause-room
make_for-returns-in_err-list-clause-room t c = λ source is h first last by fits led.
    failed _ _ c.from_residual-in_err-list.ensures.1 (c.in_err-list.ensures.room source is h (subst (λ l. FitsStmts (stmt_trees l)) (sym c.as_slice.ensures.value) fits) (subst (λ l. AllLed source (block_in c.args.context.now) (stmt_trees l)) (sym c.as_slice.ensures.value) led))

pub make_while-returns-in_err-test-clause-room : goal.make_while-returns-in_err-test-clause-room
make_while-returns-in_err-test-clause-room t c = λ source is h test fits led.
    failed _ _ c.from_residual.ensures.1 (c.in_err-test.ensures.room source is h.own test)

pub make_while-returns-in_err-list-clause-room : goal.make_while-returns-in_err-list-clause-room
make_while-returns-in_err-list-clause-room t c = λ source is h test fits led.
    failed _ _ c.from_residual-in_err-list.ensures.1 (c.in_err-list.ensures.room source is h (subst (λ l. FitsStmts (stmt_trees l)) (sym c.as_slice.ensures.value) fits) (subst (λ l. AllLed source (block_in c.args.context.now) (stmt_trees l)) (sym c.as_slice.ensures.value) led))

pub make_repeat-returns-in_err-list-clause-room : goal.make_repeat-returns-in_err-list-clause-room
make_repeat-returns-in_err-list-clause-room t c = λ source is h test fits led.
    failed _ _ c.from_residual.ensures.1 (c.in_err-list.ensures.room source is h (subst (λ l. FitsStmts (stmt_trees l)) (sym c.as_slice.ensures.value) fits) (subst (λ l. AllLed source (block_in c.args.context.now) (stmt_trees l)) (sym c.as_slice.ensures.value) led))

pub make_repeat-returns-in_err-test-clause-room : goal.make_repeat-returns-in_err-test-clause-room
make_repeat-returns-in_err-test-clause-room t c = λ source is h test fits led.
    failed _ _ c.from_residual-in_err-test.ensures.1 (c.in_err-test.ensures.room source is h.own test)

pub make_list-returns-in_err-next-clause-room : goal.make_list-returns-in_err-next-clause-room
make_list-returns-in_err-next-clause-room t c = λ source is h fits led.
    failed _ _ c.from_residual.ensures.1 (c.in_err-next.ensures.room source is h
    (stmt_fits stmt_tree c.args.list.now c.loop-stmt.stmt-index c.stmt-item.result c.loop-stmt-test.true c.stmt-item.is fits)
    (stmt_led source (block_in c.args.context.now) stmt_tree c.args.list.now c.loop-stmt.stmt-index c.stmt-item.result c.loop-stmt-test.true c.stmt-item.is led))

pub make_list-returns-in_err-all-clause-room : goal.make_list-returns-in_err-all-clause-room
make_list-returns-in_err-all-clause-room t c = λ source is h fits led.
    failed _ _ c.from_residual-in_err-all.ensures.1 (c.in_err-all.ensures.memory)
