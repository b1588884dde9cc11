use Rattle.std.proofs.Common.{◌≡◌, ◌+◌, ◌-◌, ◌*◌, ◌<◌, ◌^◌, true, false, Some, None, Ok, Err, rules, arith, sym, ap, subst, refl, ◌∙◌}
use Rattle.std.specs.Prelude.{FitsSigned}
use Rattle.std.specs.Int.{w64, w128}
use Rattle.std.proofs.lemmas.Int.{to_z-of_z}
use Rattle.std.proofs.Math.ListN.{replicate}
use Rattle.pv_mean.specs.Calls.{calls_within}
use Rattle.pv_eval.specs.Means.{activation}
use Rattle.pv_run.specs.Code.{IsStmt}
use Rattle.pv_mean.specs.Statements.{for_turns}
use Rattle.pv_run.specs.Choosing.{arm_chosen, branch_chosen}
use Rattle.pv_run.specs.Runs.{frame_in, body_of, counting_of, linked_in, Tests, Chooses, ChoosesBranch}
use Rattle.pv_run.proofs.Lists.{missing_at, found_at}
use Rattle.pv_run.proofs.Left.{stmts_none, stmts_go_on, stmts_leave, stmts_stop, stmts_over}
use Rattle.pv_run.proofs.Statements.{if_runs_arm, if_runs_other, if_stops, case_runs_branch, case_runs_other, case_stops, for_runs, for_unbegun, while_runs, repeat_runs, call_stops}
use Rattle.pv_run.proofs.Turning.{while_false, while_stop, while_next, while_left, while_stopped, while_past, repeat_next, repeat_done, repeat_stop, repeat_left, repeat_stopped, repeat_past, for_next, for_unmade, for_left, for_stopped}
use Rattle.pv_run.proofs.Loops.{for_ends}
use Rattle.pv_mean.specs.Registers.{fresh}
use Rattle.pv_mean.specs.Instructions.{site_of}
use Rattle.pv_stl_run.specs.Code.{working}
use Rattle.pv_run.specs.Code.{statements_end}
use Rattle.pv_run.proofs.Blocks.{block_stops_in, block_stops, block_stops_out, block_done, room_left, list_done, list_stops, instrs_run}
use Rattle.pv_run.proofs.Instrs.{coded, are_at, typed, has_ranges, whole_of, stops_so, at_start, at_end, at_stop, at_call, stops_at_call, call_made, behind_on, behind_off, behind_stop, up_to, gone_end, up_most, fewer, room_own, room_under, room_next, turns_own}
use Rattle.pv_run.proofs.program.Program.+run.Goals as goal

pub run_list-returns-in_default : goal.run_list-returns-in_default
run_list-returns-in_default t c =
    λ source block trees program are. absurd (stmts_none (c.loop-k.invariant source block trees program are) c.loop-k-test.true
    (missing_at c.deref.result.now c.args.self.now.stmts.items c.loop-k.k c.deref.ensures.value (omega
    (arith, c.in_default.ensures.lookup.3))))

pub run_list-returns-then-not-is_normal : goal.run_list-returns-then-not-is_normal
run_list-returns-then-not-is_normal t c =
    λ source block trees program are. stmts_leave (c.loop-k.invariant source block trees program are) c.loop-k-test.true c.in-Some.stmt.now
    (found_at c.deref.result.now c.args.self.now.stmts.items c.loop-k.k c.in-Some.stmt.now c.deref.ensures.value (search rules)
    (search rules))
    c.in-Ok.flow (frame_in c.run_stmt.new.visible c.run_stmt.new.own) (λ tree is. c.in-Ok.ensures source block tree program is)
    (search rules)

pub run_list-returns-in-Err : goal.run_list-returns-in-Err
run_list-returns-in-Err t c =
    λ source block trees program are. stmts_stop (c.loop-k.invariant source block trees program are) c.loop-k-test.true c.in-Some.stmt.now
    (found_at c.deref.result.now c.args.self.now.stmts.items c.loop-k.k c.in-Some.stmt.now c.deref.ensures.value (search rules)
    (search rules))
    c.in-Err.stop (λ tree is. c.in-Err.ensures source block tree program is)

pub run_list-loop-k-preserved : goal.run_list-loop-k-preserved
run_list-loop-k-preserved t c =
    λ source block trees program are. stmts_go_on (c.loop-k.invariant source block trees program are) c.loop-k-test.true c.in-Some.stmt.now
    (found_at c.deref.result.now c.args.self.now.stmts.items c.loop-k.k c.in-Some.stmt.now c.deref.ensures.value (search rules)
    (search rules))
    c.in-Ok.flow (frame_in c.run_stmt.new.visible c.run_stmt.new.own) (λ tree is. c.in-Ok.ensures source block tree program is)
    (search rules)

pub run_list-returns : goal.run_list-returns
run_list-returns t c =
    λ source block trees program are. stmts_over (c.loop-k.invariant source block trees program are) (λ lt. omega arith)

pub run_while-returns-in-Ok-false : goal.run_while-returns-in-Ok-false
run_while-returns-in-Ok-false t c =
    λ source block e trees program value are.
    sym (c.loop-turn.invariant source block e trees program value are
    ∙ while_false source block c.args.self.now c.args.condition c.args.at.first (c.args.self.now.bound - c.loop-turn.turn) e
    (body_of source c.args.at block trees) c.args.place (frame_in c.loop-turn.visible c.loop-turn.own) value
    (let x : Tests c.args.self.now c.args.condition c.args.at.first (frame_in c.loop-turn.visible c.loop-turn.own)
    (Ok false) = search rules in x))

pub run_while-returns-in-Err : goal.run_while-returns-in-Err
run_while-returns-in-Err t c =
    λ source block e trees program value are.
    sym (c.loop-turn.invariant source block e trees program value are
    ∙ while_stop source block c.args.self.now c.args.condition c.args.at.first (c.args.self.now.bound - c.loop-turn.turn) e
    (body_of source c.args.at block trees) c.args.place (frame_in c.loop-turn.visible c.loop-turn.own) c.in-Err.stop value
    (let x : Tests c.args.self.now c.args.condition c.args.at.first (frame_in c.loop-turn.visible c.loop-turn.own)
    (Err c.in-Err.stop) = search rules in x))

pub run_while-returns-in-Some : goal.run_while-returns-in-Some
run_while-returns-in-Some t c =
    λ source block e trees program value are.
    sym (c.loop-turn.invariant source block e trees program value are
    ∙ while_left source block c.args.self.now c.args.condition c.args.at.first c.args.self.now.bound c.loop-turn.turn e
    (body_of source c.args.at block trees) c.args.place (frame_in c.loop-turn.visible c.loop-turn.own)
    (frame_in c.run_list.new.visible c.run_list.new.own)
    c.in-Ok.flow c.in-Some.end c.loop-turn-test.true value (let x : Tests c.args.self.now c.args.condition c.args.at.first
    (frame_in c.loop-turn.visible c.loop-turn.own) (Ok true) = search rules in x)
    (c.in-Ok.ensures source block trees program are) (sym c.behind_turn.ensures ∙ c.in-Some.is))

pub run_while-returns-in-Err-run_list : goal.run_while-returns-in-Err-run_list
run_while-returns-in-Err-run_list t c =
    λ source block e trees program value are.
    sym (c.loop-turn.invariant source block e trees program value are
    ∙ while_stopped source block c.args.self.now c.args.condition c.args.at.first c.args.self.now.bound c.loop-turn.turn e
    (body_of source c.args.at block trees) c.args.place (frame_in c.loop-turn.visible c.loop-turn.own) c.in-Err-run_list.stop
    c.loop-turn-test.true value (let x : Tests c.args.self.now c.args.condition c.args.at.first
    (frame_in c.loop-turn.visible c.loop-turn.own) (Ok true) = search rules in x)
    (c.in-Err-run_list.ensures source block trees program are))

pub run_while-loop-turn-preserved : goal.run_while-loop-turn-preserved
run_while-loop-turn-preserved t c =
    λ source block e trees program value are.
    c.loop-turn.invariant source block e trees program value are
    ∙ while_next source block c.args.self.now c.args.condition c.args.at.first c.args.self.now.bound c.loop-turn.turn e
    (body_of source c.args.at block trees) c.args.place (frame_in c.loop-turn.visible c.loop-turn.own)
    (frame_in c.run_list.new.visible c.run_list.new.own)
    c.in-Ok.flow c.loop-turn-test.true value (let x : Tests c.args.self.now c.args.condition c.args.at.first
    (frame_in c.loop-turn.visible c.loop-turn.own) (Ok true) = search rules in x)
    (c.in-Ok.ensures source block trees program are) (sym c.behind_turn.ensures ∙ c.in_default.is)

pub run_while-returns-in-Ok-true-holds : goal.run_while-returns-in-Ok-true-holds
run_while-returns-in-Ok-true-holds t c =
    λ source block e trees program value are.
    sym (c.loop-turn.invariant source block e trees program value are
    ∙ while_past source block c.args.self.now c.args.condition c.args.at.first c.args.self.now.bound c.loop-turn.turn e
    (body_of source c.args.at block trees) c.args.place (frame_in c.loop-turn.visible c.loop-turn.own) (omega arith) value
    (let x : Tests c.args.self.now c.args.condition c.args.at.first (frame_in c.loop-turn.visible c.loop-turn.own)
    (Ok true) = search rules in x))

pub run_while-returns-in-Ok-false-holds : goal.run_while-returns-in-Ok-false-holds
run_while-returns-in-Ok-false-holds t c =
    λ source block e trees program value are.
    sym (c.loop-turn.invariant source block e trees program value are
    ∙ while_false source block c.args.self.now c.args.condition c.args.at.first (c.args.self.now.bound - c.loop-turn.turn) e
    (body_of source c.args.at block trees) c.args.place (frame_in c.loop-turn.visible c.loop-turn.own) value
    (let x : Tests c.args.self.now c.args.condition c.args.at.first (frame_in c.loop-turn.visible c.loop-turn.own)
    (Ok false) = search rules in x))

pub run_while-returns-in-Err-holds : goal.run_while-returns-in-Err-holds
run_while-returns-in-Err-holds t c =
    λ source block e trees program value are.
    sym (c.loop-turn.invariant source block e trees program value are
    ∙ while_stop source block c.args.self.now c.args.condition c.args.at.first (c.args.self.now.bound - c.loop-turn.turn) e
    (body_of source c.args.at block trees) c.args.place (frame_in c.loop-turn.visible c.loop-turn.own) c.in-Err-holds.stop value
    (let x : Tests c.args.self.now c.args.condition c.args.at.first (frame_in c.loop-turn.visible c.loop-turn.own)
    (Err c.in-Err-holds.stop) = search rules in x))

pub run_repeat-returns-in-Some : goal.run_repeat-returns-in-Some
run_repeat-returns-in-Some t c =
    λ source block e trees program value are.
    sym (c.loop-turn.invariant source block e trees program value are
    ∙ repeat_left source block c.args.at.first c.args.self.now.bound c.loop-turn.turn e
    (body_of source c.args.at block trees) c.args.place (frame_in c.loop-turn.visible c.loop-turn.own)
    (frame_in c.run_list.new.visible c.run_list.new.own)
    c.in-Ok.flow c.in-Some.end c.loop-turn-test.true (c.in-Ok.ensures source block trees program are) (sym c.behind_turn.ensures
    ∙ c.in-Some.is))

pub run_repeat-returns-in-Err : goal.run_repeat-returns-in-Err
run_repeat-returns-in-Err t c =
    λ source block e trees program value are.
    sym (c.loop-turn.invariant source block e trees program value are
    ∙ repeat_stopped source block c.args.at.first c.args.self.now.bound c.loop-turn.turn e
    (body_of source c.args.at block trees) c.args.place (frame_in c.loop-turn.visible c.loop-turn.own) c.in-Err.stop
    c.loop-turn-test.true (c.in-Err.ensures source block trees program are))

pub run_repeat-returns-in-Ok-true : goal.run_repeat-returns-in-Ok-true
run_repeat-returns-in-Ok-true t c =
    λ source block e trees program value are.
    sym (c.loop-turn.invariant source block e trees program value are
    ∙ repeat_done source block c.args.self.now c.args.condition c.args.at.first c.args.self.now.bound c.loop-turn.turn e
    (body_of source c.args.at block trees) c.args.place (frame_in c.loop-turn.visible c.loop-turn.own)
    (frame_in c.run_list.new.visible c.run_list.new.own)
    c.in-Ok.flow c.loop-turn-test.true value (c.in-Ok.ensures source block trees program are) (sym c.behind_turn.ensures ∙ c.in_default.is)
    (let x : Tests c.args.self.now c.args.condition c.args.at.first (frame_in c.run_list.new.visible c.run_list.new.own)
    (Ok true) = search rules in x))

pub run_repeat-returns-in-Err-holds : goal.run_repeat-returns-in-Err-holds
run_repeat-returns-in-Err-holds t c =
    λ source block e trees program value are.
    sym (c.loop-turn.invariant source block e trees program value are
    ∙ repeat_stop source block c.args.self.now c.args.condition c.args.at.first c.args.self.now.bound c.loop-turn.turn e
    (body_of source c.args.at block trees) c.args.place (frame_in c.loop-turn.visible c.loop-turn.own)
    (frame_in c.run_list.new.visible c.run_list.new.own)
    c.in-Ok.flow c.in-Err-holds.stop c.loop-turn-test.true value (c.in-Ok.ensures source block trees program are) (sym c.behind_turn.ensures
    ∙ c.in_default.is)
    (let x : Tests c.args.self.now c.args.condition c.args.at.first (frame_in c.run_list.new.visible c.run_list.new.own)
    (Err c.in-Err-holds.stop) = search rules in x))

pub run_repeat-loop-turn-preserved : goal.run_repeat-loop-turn-preserved
run_repeat-loop-turn-preserved t c =
    λ source block e trees program value are.
    c.loop-turn.invariant source block e trees program value are
    ∙ repeat_next source block c.args.self.now c.args.condition c.args.at.first c.args.self.now.bound c.loop-turn.turn e
    (body_of source c.args.at block trees) c.args.place (frame_in c.loop-turn.visible c.loop-turn.own)
    (frame_in c.run_list.new.visible c.run_list.new.own)
    c.in-Ok.flow c.loop-turn-test.true value (c.in-Ok.ensures source block trees program are) (sym c.behind_turn.ensures ∙ c.in_default.is)
    (let x : Tests c.args.self.now c.args.condition c.args.at.first (frame_in c.run_list.new.visible c.run_list.new.own)
    (Ok false) = search rules in x)

pub run_repeat-returns : goal.run_repeat-returns
run_repeat-returns t c =
    λ source block e trees program value are.
    sym (c.loop-turn.invariant source block e trees program value are
    ∙ repeat_past source block c.args.at.first c.args.self.now.bound c.loop-turn.turn e
    (body_of source c.args.at block trees) c.args.place (frame_in c.loop-turn.visible c.loop-turn.own) (omega arith))

pub run_for-returns-then-not-is_on_the_way : goal.run_for-returns-then-not-is_on_the_way
run_for-returns-then-not-is_on_the_way t c =
    λ source block trees program are.
    sym (c.loop-turn.invariant source block trees program are ∙ for_ends source
    (counting_of c.args.begun.now c.args.counting.now.variable_place c.args.counting.now.by c.args.place)
    (body_of source c.args.at block trees) (c.args.self.now.bound - c.loop-turn.turn) _ (frame_in c.loop-turn.visible c.loop-turn.own)
    (sym c.is_on_the_way.ensures ∙ c.if-not-is_on_the_way.true))

pub run_for-returns-in-Some : goal.run_for-returns-in-Some
run_for-returns-in-Some t c =
    λ source block trees program are.
    sym (c.loop-turn.invariant source block trees program are ∙ for_left source
    (counting_of c.args.begun.now c.args.counting.now.variable_place c.args.counting.now.by c.args.place)
    (body_of source c.args.at block trees) c.args.self.now.bound c.loop-turn.turn _ (frame_in c.loop-turn.visible c.loop-turn.own)
    (frame_in c.run_list.new.visible c.run_list.new.own)
    c.in-Ok.flow c.in-Some.end c.loop-turn-test.true (sym c.is_on_the_way.ensures
    ∙ c.if-not-is_on_the_way.false) (c.in-Ok.ensures source block trees program are) (sym c.behind_turn.ensures ∙ c.in-Some.is))

pub run_for-returns-in-Err : goal.run_for-returns-in-Err
run_for-returns-in-Err t c =
    λ source block trees program are.
    sym (c.loop-turn.invariant source block trees program are ∙ for_stopped source
    (counting_of c.args.begun.now c.args.counting.now.variable_place c.args.counting.now.by c.args.place)
    (body_of source c.args.at block trees) c.args.self.now.bound c.loop-turn.turn _
    (frame_in c.loop-turn.visible c.loop-turn.own) c.in-Err.stop
    c.loop-turn-test.true (sym c.is_on_the_way.ensures ∙ c.if-not-is_on_the_way.false) (c.in-Err.ensures source block trees program are))

pub run_for-returns-in-Err-step : goal.run_for-returns-in-Err-step
run_for-returns-in-Err-step t c =
    λ source block trees program are.
    sym (c.loop-turn.invariant source block trees program are ∙ for_unmade source
    (counting_of c.args.begun.now c.args.counting.now.variable_place c.args.counting.now.by c.args.place)
    (body_of source c.args.at block trees) c.args.self.now.bound c.loop-turn.turn _ (frame_in c.loop-turn.visible c.loop-turn.own)
    (frame_in c.run_list.new.visible c.run_list.new.own)
    c.in-Ok.flow c.in-Err-step.stop c.loop-turn-test.true (sym c.is_on_the_way.ensures
    ∙ c.if-not-is_on_the_way.false) (c.in-Ok.ensures source block trees program are) (sym c.behind_turn.ensures ∙ c.in_default.is)
    (c.in-Err-step.ensures source program.types))

pub run_for-loop-turn-preserved : goal.run_for-loop-turn-preserved
run_for-loop-turn-preserved t c =
    λ source block trees program are.
    let fits : FitsSigned w128 c.in-Ok-step.next = search rules in
    let stepped = frame_in c.step.new.visible c.step.new.brief in
    c.loop-turn.invariant source block trees program are ∙ for_next source
    (counting_of c.args.begun.now c.args.counting.now.variable_place c.args.counting.now.by c.args.place)
    (body_of source c.args.at block trees) c.args.self.now.bound c.loop-turn.turn _ c.in-Ok-step.next
    (frame_in c.loop-turn.visible c.loop-turn.own) (frame_in c.run_list.new.visible c.run_list.new.own) stepped
    c.in-Ok.flow c.loop-turn-test.true (sym c.is_on_the_way.ensures
    ∙ c.if-not-is_on_the_way.false) (c.in-Ok.ensures source block trees program are) (sym c.behind_turn.ensures
    ∙ c.in_default.is) (c.in-Ok-step.ensures source program.types)
    ∙ ap (λ n. for_turns source (counting_of c.args.begun.now c.args.counting.now.variable_place c.args.counting.now.by c.args.place)
    (body_of source c.args.at block trees) (c.args.self.now.bound - (c.loop-turn.turn + 1)) n stepped) (sym
    (to_z-of_z w128 c.in-Ok-step.next fits))

pub run_if-returns-in-Ok-Some : goal.run_if-returns-in-Ok-Some
run_if-returns-in-Ok-Some t c =
    λ source block tree program is.
    if_runs_arm is (calls_within source c.args.at.calls)
    (activation block c.args.at.first) (frame_in c.args.visible.now c.args.own.now) c.in-Ok-Some.body
    (λ trees are. subst (λ o. Chooses source block c.args.self.now c.args.k (Ok o) (arm_chosen source (activation block c.args.at.first)
    (frame_in c.args.visible.now c.args.own.now) trees))
    c.in-Ok-Some.field-0-is (c.in-Ok-Some.ensures source block c.args.k trees are)) _ c.before-body.result c.before-body.ensures.same
    (λ trees are. c.run_list.ensures source block trees program are)

pub run_if-returns-in-Ok-None : goal.run_if-returns-in-Ok-None
run_if-returns-in-Ok-None t c =
    λ source block tree program is.
    if_runs_other is (calls_within source c.args.at.calls)
    (activation block c.args.at.first) (frame_in c.args.visible.now c.args.own.now)
    (λ trees are. subst (λ o. Chooses source block c.args.self.now c.args.k (Ok o) (arm_chosen source (activation block c.args.at.first)
    (frame_in c.args.visible.now c.args.own.now) trees))
    c.in-Ok-None.field-0-is (c.in-Ok-None.ensures source block c.args.k trees are)) _ c.before-body-in-Ok-None.result
    c.before-body-in-Ok-None.ensures.same
    (λ trees are. c.run_list-in-Ok-None.ensures source block trees program are)

pub run_if-returns-in-Err : goal.run_if-returns-in-Err
run_if-returns-in-Err t c =
    λ source block tree program is.
    if_stops is (calls_within source c.args.at.calls)
    (activation block c.args.at.first) (frame_in c.args.visible.now c.args.own.now) c.in-Err.stop
    (λ trees are. c.in-Err.ensures source block c.args.k trees are)

pub run_case-returns-in-Some : goal.run_case-returns-in-Some
run_case-returns-in-Some t c =
    λ source block tree program is.
    let fits : FitsSigned w64 c.in-Ok.v = search rules in
    case_runs_branch is (calls_within source c.args.at.calls) (frame_in c.args.visible.now c.args.own.now) c.in-Ok.v c.in-Some.body
    (λ e value. c.in-Ok.ensures source block e value) (λ trees are. subst (λ x. ChoosesBranch source block c.args.self.now c.args.k
    (Some c.in-Some.body)
    (branch_chosen (activation block c.args.at.first) x trees)) (to_z-of_z w64 c.in-Ok.v fits)
    (c.in-Some.ensures source block c.args.k c.args.at.first trees are)) _ c.before-body.result c.before-body.ensures.same
    (λ trees are. c.run_list.ensures source block trees program are)

pub run_case-returns-in-None : goal.run_case-returns-in-None
run_case-returns-in-None t c =
    λ source block tree program is.
    let fits : FitsSigned w64 c.in-Ok.v = search rules in
    case_runs_other is (calls_within source c.args.at.calls) (frame_in c.args.visible.now c.args.own.now) c.in-Ok.v
    (λ e value. c.in-Ok.ensures source block e value) (λ trees are. subst (λ x. branch_chosen
    (activation block c.args.at.first) x trees ≡ None) (to_z-of_z w64 c.in-Ok.v fits)
    (c.in-None.ensures source block c.args.k c.args.at.first trees are)) _ c.before-body-in-None.result c.before-body-in-None.ensures.same
    (λ trees are. c.run_list-in-None.ensures source block trees program are)

pub run_case-returns-in-Err : goal.run_case-returns-in-Err
run_case-returns-in-Err t c =
    λ source block tree program is.
    case_stops is (calls_within source c.args.at.calls)
    (frame_in c.args.visible.now c.args.own.now) c.in-Err.stop (λ e value. c.in-Err.ensures source block e value)

pub run_counted-returns-in-Ok : goal.run_counted-returns-in-Ok
run_counted-returns-in-Ok t c =
    λ source block tree program is.
    for_runs is (calls_within source c.args.at.calls)
    (frame_in c.args.visible.now c.args.own.now) (frame_in c.begin.new.visible c.begin.new.brief) c.in-Ok.begun
    (λ name at a b by counts. c.in-Ok.ensures.value source block name at a b by program.types counts) _ c.before-body.result
    c.before-body.ensures.same
    (λ trees are. c.run_for.ensures source block trees program are)

pub run_counted-returns-in-Err : goal.run_counted-returns-in-Err
run_counted-returns-in-Err t c =
    λ source block tree program is.
    for_unbegun is (calls_within source c.args.at.calls)
    (frame_in c.args.visible.now c.args.own.now) c.in-Err.stop
    (λ name at a b by counts. c.in-Err.ensures.value source block name at a b by program.types counts)

pub run_called-returns-in-Err : goal.run_called-returns-in-Err
run_called-returns-in-Err t c =
    λ k source block tree program is.
    call_stops is (calls_within source c.args.at.calls)
    (activation block c.args.at.first) (frame_in c.args.visible.now c.args.own.now) c.in-Err.stop
    (λ site called. c.in-Err.ensures source block site program called)

pub run_other-returns-in-AssignCall : goal.run_other-returns-in-AssignCall
run_other-returns-in-AssignCall t c =
    λ source block tree program is.
    c.run_assigned.ensures c.args.k source block tree program (subst (λ x. IsStmt source block c.args.self.now c.args.k x tree) c.in-AssignCall.is is)

pub run_other-returns-in-If : goal.run_other-returns-in-If
run_other-returns-in-If t c =
    λ source block tree program is.
    c.run_if.ensures source block tree program (subst (λ x. IsStmt source block c.args.self.now c.args.k x tree) c.in-If.is is)

pub run_other-returns-in-Case : goal.run_other-returns-in-Case
run_other-returns-in-Case t c =
    λ source block tree program is.
    c.run_case.ensures source block tree program (subst (λ x. IsStmt source block c.args.self.now c.args.k x tree) c.in-Case.is is)

pub run_other-returns-in-For : goal.run_other-returns-in-For
run_other-returns-in-For t c =
    λ source block tree program is.
    c.run_counted.ensures source block tree program (subst (λ x. IsStmt source block c.args.self.now c.args.k x tree) c.in-For.is is)

pub run_other-returns-in-Call : goal.run_other-returns-in-Call
run_other-returns-in-Call t c =
    λ source block tree program is.
    c.run_called.ensures c.args.k source block tree program (subst (λ x. IsStmt source block c.args.self.now c.args.k x tree) c.in-Call.is is)

pub run_other-returns-in-While : goal.run_other-returns-in-While
run_other-returns-in-While t c =
    λ source block tree program is.
    while_runs (subst (λ x. IsStmt source block c.args.self.now c.args.k x tree) c.in-While.is is) (calls_within source c.args.at.calls)
    (activation block c.args.at.first) (frame_in c.args.visible.now c.args.own.now) _ c.before-body.result
    c.before-body.ensures.same
    (λ e trees value are. c.run_while.ensures source block e trees program value are)

pub run_other-returns-in-Repeat : goal.run_other-returns-in-Repeat
run_other-returns-in-Repeat t c =
    λ source block tree program is.
    repeat_runs (subst (λ x. IsStmt source block c.args.self.now c.args.k x tree) c.in-Repeat.is is) (calls_within source c.args.at.calls)
    (activation block c.args.at.first) (frame_in c.args.visible.now c.args.own.now) _ c.before-body-in-Repeat.result
    c.before-body-in-Repeat.ensures.same
    (λ e trees value are. c.run_repeat.ensures source block e trees program value are)

pub run_block-returns-in-Err : goal.run_block-returns-in-Err
run_block-returns-in-Err t c =
    λ source block site program b.
    block_stops_in source block c.args.self.now c.args.at site c.args.started.now b program c.args.visible.now c.args.own.now
    c.clear.new.cells (linked_in c.hand_in.new.visible c.args.own.now c.hand_in.new.inner) c.in-Err.stop
    (c.clear.ensures ∙ ap (λ n. replicate n None) (c.split_at_mut-inner.ensures.front_len
    ∙ c.width.ensures.same b.code.widest)) c.in-Err.ensures

pub run_block-run_body-requires : goal.run_block-run_body-requires
run_block-run_body-requires t c =
    let back = c.split_at_mut-inner.ensures.back_len in
    let width = c.width.ensures.within in
    let most = c.requires.room.below in
    let less : c.args.started.now.at.calls * 2 ^ 70 + 8 * statements_end c.args.started.now.code.body + 4 < t = omega
    (arith, c.requires.calls, c.requires.short, c.decreases) in
    let turns = room_next c.args.started.now.at.calls c.args.at.calls c.args.self.now.ranges _ c.requires.calls c.requires.room.ranges in (
      less,
      (
        record {
          below = room_left c.args.started.now.at.calls c.args.at.calls c.args.self.now.widest _ _ c.width.result c.requires.calls most
              width back;
          ranges = room_under c.args.started.now.at.calls c.args.self.now.ranges _ turns;
          scratch = omega (arith, c.requires.room.scratch, c.hand_in.auto.scratch);
          first = c.requires.first;
        },
        turns,
      ),
    )

pub run_block-returns-in-Err-run_body : goal.run_block-returns-in-Err-run_body
run_block-returns-in-Err-run_body t c =
    λ source block site program b.
    block_stops source block c.args.self.now c.args.at site c.args.started.now b program c.args.visible.now c.args.own.now c.clear.new.cells
    (linked_in c.hand_in.new.visible c.args.own.now c.hand_in.new.inner) c.in-Err-run_body.stop
    (c.clear.ensures ∙ ap (λ n. replicate n None) (c.split_at_mut-inner.ensures.front_len
    ∙ c.width.ensures.same b.code.widest)) c.in-Ok.ensures
    (λ callee tree is. c.in-Err-run_body.ensures source callee tree program is)

pub run_block-returns-in-Err-hand_out : goal.run_block-returns-in-Err-hand_out
run_block-returns-in-Err-hand_out t c =
    λ source block site program b.
    block_stops_out source block c.args.self.now c.args.at site c.args.started.now b program c.args.visible.now c.args.own.now
    c.clear.new.cells (linked_in c.hand_in.new.visible c.args.own.now c.hand_in.new.inner)
    (linked_in c.hand_out.new.visible c.hand_out.new.outer c.run_body.new.own)
    (frame_in c.run_body.new.visible c.run_body.new.own) c.in-Err-hand_out.stop
    (c.clear.ensures ∙ ap (λ n. replicate n None) (c.split_at_mut-inner.ensures.front_len
    ∙ c.width.ensures.same b.code.widest)) c.in-Ok.ensures
    (λ callee tree is. c.in-Ok-run_body.ensures source callee tree program is) c.in-Err-hand_out.ensures

pub run_block-returns-in-Ok-hand_out : goal.run_block-returns-in-Ok-hand_out
run_block-returns-in-Ok-hand_out t c =
    λ source block site program b.
    block_done source block c.args.self.now c.args.at site c.args.started.now b program c.args.visible.now c.args.own.now c.clear.new.cells
    (linked_in c.hand_in.new.visible c.args.own.now c.hand_in.new.inner)
    (linked_in c.hand_out.new.visible c.hand_out.new.outer c.run_body.new.own)
    (frame_in c.run_body.new.visible c.run_body.new.own) c.value_at.result
    (c.clear.ensures ∙ ap (λ n. replicate n None) (c.split_at_mut-inner.ensures.front_len
    ∙ c.width.ensures.same b.code.widest)) c.in-Ok.ensures
    (λ callee tree is. c.in-Ok-run_body.ensures source callee tree program is) c.in-Ok-hand_out.ensures c.value_at.ensures

-- ---- a body

pub run_body-run_list-requires : goal.run_body-run_list-requires
run_body-run_list-requires t c =
    let end : statements_end c.args.body ≡ c.in-Statements.list.end = ap statements_end c.in-Statements.is in
    let less : c.args.at.calls * 2 ^ 70 + 8 * c.in-Statements.list.end < t = omega (arith, end, c.decreases) in
    (less, c.requires.room)

pub run_body-returns-in-Ok : goal.run_body-returns-in-Ok
run_body-returns-in-Ok t c =
    λ source block tree program is.
    list_done source (calls_within source c.args.at.calls) c.args.self.now block c.args.at.first c.args.body c.in-Statements.list tree
    (frame_in c.args.visible.now c.args.own.now) (frame_in c.run_list.new.visible c.run_list.new.own) c.in-Ok.field-0 c.in-Statements.is is
    (λ trees are. c.in-Ok.ensures source block trees program are)

pub run_body-returns-in-Err : goal.run_body-returns-in-Err
run_body-returns-in-Err t c =
    λ source block tree program is.
    list_stops source (calls_within source c.args.at.calls) c.args.self.now block c.args.at.first c.args.body c.in-Statements.list tree
    (frame_in c.args.visible.now c.args.own.now) c.in-Err.stop c.in-Statements.is is
    (λ trees are. c.in-Err.ensures source block trees program are)

pub run_body-returns-in-Instructions : goal.run_body-returns-in-Instructions
run_body-returns-in-Instructions t c =
    λ source block tree program is.
    instrs_run source (calls_within source c.args.at.calls) c.args.self.now block c.args.at.first c.args.body c.in-Instructions.span tree
    (frame_in c.args.visible.now c.args.own.now) _ c.in-Instructions.is is
    (λ all has. c.run_instrs.ensures source block all program has)

-- ---- instructions

pub run_instrs-returns-in-Err : goal.run_instrs-returns-in-Err
run_instrs-returns-in-Err t c =
    λ source block all program has.
    let own = turns_own c.args.self.now.ranges _ c.own_turns.result _ c.own_turns.ensures.same
    (room_own c.args.at.calls c.args.self.now.ranges _ c.requires.turns) c.split_at_mut-its.ensures.front_len in
    let k = coded has c.instrs_in-code.result.now (c.instrs_in-code.ensures has.ordered has.within) _ own in
    let frame = frame_in c.args.visible.now c.args.own.now in
    stops_so c.of.result c.in-Err.stop
    (whole_of source (calls_within source c.args.at.calls) (activation block c.args.at.first) all frame) c.of.ensures
    (c.in-Err.ensures.same source (calls_within source c.args.at.calls) (activation block c.args.at.first) all
    (record { registers = fresh; frame = frame }) program.bound (has_ranges k) k.ranges)

pub run_instrs-loop-call-init : goal.run_instrs-loop-call-init
run_instrs-loop-call-init t c =
    let own = turns_own c.args.self.now.ranges _ c.own_turns.result _ c.own_turns.ensures.same
    (room_own c.args.at.calls c.args.self.now.ranges _ c.requires.turns) c.split_at_mut-its.ensures.front_len in record {
      within = c.in-Ok.ensures.within;
      enough = omega (arith, own);
      room = record {
        below = c.requires.room.below;
        ranges = room_left c.args.at.calls (c.args.at.calls + 1) c.args.self.now.ranges _ _ c.own_turns.result refl c.requires.turns
            c.own_turns.ensures.few c.split_at_mut-its.ensures.back_len;
        scratch = c.requires.room.scratch;
        first = c.requires.room.first;
      };
      work = λ source block all program has.
          let k = coded has c.instrs_in-code.result.now (c.instrs_in-code.ensures has.ordered has.within) _ own in
          let g = c.in-Ok.going in
          let frame = frame_in c.args.visible.now c.args.own.now in
          at_start source (calls_within source c.args.at.calls) (activation block c.args.at.first) all c.instrs_in-code.result.now
          c.begin.new.turns g.entered g.at g.registers frame
          (c.in-Ok.ensures.same source (calls_within source c.args.at.calls) (activation block c.args.at.first) all
          (working g.registers frame) program.bound (has_ranges k) k.ranges) c.in-Ok.ensures.registers c.in-Ok.ensures.nested;
    }

pub run_instrs-returns-in-Ok-None : goal.run_instrs-returns-in-Ok-None
run_instrs-returns-in-Ok-None t c =
    λ source block all program has.
    let s = c.loop-call in
    let k = coded has c.instrs_in-code.result.now (c.instrs_in-code.ensures has.ordered has.within) _ s.invariant.enough in
    let w = s.invariant.work source block all program has in
    at_end source (calls_within source c.args.at.calls) (activation block c.args.at.first) all c.instrs_in-code.result.now
    s.its s.going.entered s.going.at s.going.registers (frame_in s.visible s.own) (frame_in c.go.new.visible c.go.new.own) _ w
    (gone_end c.in-Ok-None.field-0 _ _ _ c.in-Ok-None.field-0-is
    (c.in-Ok-None.ensures.same source (calls_within source c.args.at.calls) block c.args.self.now.scratch all program.bound
    (typed program c.as_slice-types.result.now c.as_slice-types.ensures.value) s.invariant.room.scratch
    (are_at k c.as_slice-targets.result.now c.as_slice-targets.ensures.value) w.nested k.ranges w.depth_is))

pub run_instrs-returns-in-Err-go : goal.run_instrs-returns-in-Err-go
run_instrs-returns-in-Err-go t c =
    λ source block all program has.
    let s = c.loop-call in
    let k = coded has c.instrs_in-code.result.now (c.instrs_in-code.ensures has.ordered has.within) _ s.invariant.enough in
    let w = s.invariant.work source block all program has in
    at_stop source (calls_within source c.args.at.calls) (activation block c.args.at.first) all c.instrs_in-code.result.now
    s.its s.going.entered s.going.at s.going.registers (frame_in s.visible s.own) c.of-in-Err-go.result c.in-Err-go.stop _ w c.of-in-Err-go.ensures
    (c.in-Err-go.ensures.same source (calls_within source c.args.at.calls) block c.args.self.now.scratch all program.bound
    (typed program c.as_slice-types.result.now c.as_slice-types.ensures.value) s.invariant.room.scratch
    (are_at k c.as_slice-targets.result.now c.as_slice-targets.ensures.value) w.nested k.ranges w.depth_is)

pub run_instrs-returns-in-Err-run_call : goal.run_instrs-returns-in-Err-run_call
run_instrs-returns-in-Err-run_call t c =
    λ source block all program has.
    let s = c.loop-call in
    let k = coded has c.instrs_in-code.result.now (c.instrs_in-code.ensures has.ordered has.within) _ s.invariant.enough in
    let w = s.invariant.work source block all program has in
    let g = c.go.new.self in
    let up = up_to c.in-Ok-Some.field-0 c.in-Ok-Some.call _ _ _ c.in-Ok-Some.field-0-is
    (c.in-Ok-Some.ensures.same source (calls_within source c.args.at.calls) block c.args.self.now.scratch all program.bound
    (typed program c.as_slice-types.result.now c.as_slice-types.ensures.value) s.invariant.room.scratch
    (are_at k c.as_slice-targets.result.now c.as_slice-targets.ensures.value) w.nested k.ranges w.depth_is) in
    let its = at_call k g.at c.in-Ok-Some.call up.call up.at_call up.is in
    stops_at_call source (calls_within source c.args.at.calls) (activation block c.args.at.first) all c.instrs_in-code.result.now
    c.go.new.turns g.entered g.at g.registers (frame_in c.go.new.visible c.go.new.own) _ its.tree its.call c.in-Err-run_call.stop
    (up.same ∙ w.same) its.is its.its (c.in-Err-run_call.ensures source block (site_of its.tree its.call) program its.means)

pub run_instrs-returns-in-Ok-false : goal.run_instrs-returns-in-Ok-false
run_instrs-returns-in-Ok-false t c =
    λ source block all program has.
    let s = c.loop-call in
    let k = coded has c.instrs_in-code.result.now (c.instrs_in-code.ensures has.ordered has.within) _ s.invariant.enough in
    let w = s.invariant.work source block all program has in
    let g = c.go.new.self in
    let now = c.behind_call.new.self in
    let act = activation block c.args.at.first in
    let calls = calls_within source c.args.at.calls in
    let frame = frame_in c.run_call.new.visible c.run_call.new.own in
    let up = up_to c.in-Ok-Some.field-0 c.in-Ok-Some.call _ _ _ c.in-Ok-Some.field-0-is
    (c.in-Ok-Some.ensures.same source calls block c.args.self.now.scratch all program.bound
    (typed program c.as_slice-types.result.now c.as_slice-types.ensures.value) s.invariant.room.scratch
    (are_at k c.as_slice-targets.result.now c.as_slice-targets.ensures.value) w.nested k.ranges w.depth_is) in
    let its = at_call k g.at c.in-Ok-Some.call up.call up.at_call up.is in
    let made = call_made source calls act all c.go.new.turns g.entered g.at g.registers (frame_in c.go.new.visible c.go.new.own) frame
    c.in-Ok-run_call.field-0 its.tree its.call its.is its.its (c.in-Ok-run_call.ensures source block (site_of its.tree its.call) program its.means) in
    behind_off source calls act all c.go.new.turns c.behind_call.new.turns g.entered g.at now.entered now.at now.registers frame _
    c.in-Ok-false.field-0 c.in-Ok-false.field-0-test c.in-Ok-false.ensures.registers (sym made ∙ up.same ∙ w.same)
    (c.in-Ok-false.ensures.same source calls act all (working now.registers frame) program.bound (has_ranges k) up.nested
    (omega (arith, k.ranges)))

pub run_instrs-returns-in-Err-behind_call : goal.run_instrs-returns-in-Err-behind_call
run_instrs-returns-in-Err-behind_call t c =
    λ source block all program has.
    let s = c.loop-call in
    let k = coded has c.instrs_in-code.result.now (c.instrs_in-code.ensures has.ordered has.within) _ s.invariant.enough in
    let w = s.invariant.work source block all program has in
    let g = c.go.new.self in
    let now = c.behind_call.new.self in
    let act = activation block c.args.at.first in
    let calls = calls_within source c.args.at.calls in
    let frame = frame_in c.run_call.new.visible c.run_call.new.own in
    let up = up_to c.in-Ok-Some.field-0 c.in-Ok-Some.call _ _ _ c.in-Ok-Some.field-0-is
    (c.in-Ok-Some.ensures.same source calls block c.args.self.now.scratch all program.bound
    (typed program c.as_slice-types.result.now c.as_slice-types.ensures.value) s.invariant.room.scratch
    (are_at k c.as_slice-targets.result.now c.as_slice-targets.ensures.value) w.nested k.ranges w.depth_is) in
    let its = at_call k g.at c.in-Ok-Some.call up.call up.at_call up.is in
    let made = call_made source calls act all c.go.new.turns g.entered g.at g.registers (frame_in c.go.new.visible c.go.new.own) frame
    c.in-Ok-run_call.field-0 its.tree its.call its.is its.its (c.in-Ok-run_call.ensures source block (site_of its.tree its.call) program its.means) in
    behind_stop source calls act all c.go.new.turns g.entered g.at now.registers frame _ c.of-in-Err-behind_call.result c.in-Err-behind_call.stop
    c.of-in-Err-behind_call.ensures c.in-Err-behind_call.ensures.registers (sym made ∙ up.same ∙ w.same)
    (c.in-Err-behind_call.ensures.same source calls act all (working now.registers frame) program.bound (has_ranges k)
    up.nested (omega (arith, k.ranges)))

pub run_instrs-loop-call-preserved : goal.run_instrs-loop-call-preserved
run_instrs-loop-call-preserved t c =
    let s = c.loop-call in record {
      within = c.in-Ok-true.ensures.within;
      enough = omega (arith, s.invariant.enough);
      room = record {
        below = omega (arith, s.invariant.room.below);
        ranges = omega (arith, s.invariant.room.ranges);
        scratch = omega (arith, s.invariant.room.scratch);
        first = s.invariant.room.first;
      };
      work = λ source block all program has.
          let k = coded has c.instrs_in-code.result.now (c.instrs_in-code.ensures has.ordered has.within) _ s.invariant.enough in
          let w = s.invariant.work source block all program has in
          let g = c.go.new.self in
          let now = c.behind_call.new.self in
          let act = activation block c.args.at.first in
          let calls = calls_within source c.args.at.calls in
          let frame = frame_in c.run_call.new.visible c.run_call.new.own in
          let up = up_to c.in-Ok-Some.field-0 c.in-Ok-Some.call _ _ _ c.in-Ok-Some.field-0-is
          (c.in-Ok-Some.ensures.same source calls block c.args.self.now.scratch all program.bound
          (typed program c.as_slice-types.result.now c.as_slice-types.ensures.value) s.invariant.room.scratch
          (are_at k c.as_slice-targets.result.now c.as_slice-targets.ensures.value) w.nested k.ranges w.depth_is) in
          let its = at_call k g.at c.in-Ok-Some.call up.call up.at_call up.is in
          let made = call_made source calls act all c.go.new.turns g.entered g.at g.registers (frame_in c.go.new.visible c.go.new.own) frame
          c.in-Ok-run_call.field-0 its.tree its.call its.is its.its (c.in-Ok-run_call.ensures source block (site_of its.tree its.call) program its.means) in
          behind_on source calls act all c.instrs_in-code.result.now c.go.new.turns c.behind_call.new.turns g.entered g.at now.entered now.at
          now.registers frame _ c.in-Ok-true.field-0 c.in-Ok-true.field-0-test c.in-Ok-true.ensures.registers (sym made ∙ up.same ∙ w.same)
          (c.in-Ok-true.ensures.same source calls act all (working now.registers frame) program.bound (has_ranges k) up.nested
          (omega (arith, k.ranges))) (c.in-Ok-true.ensures.nested up.nested);
    }

pub run_instrs-loop-call-smaller : goal.run_instrs-loop-call-smaller
run_instrs-loop-call-smaller t c =
    fewer _ _ _ _ c.in-Ok-true.field-0-test c.in-Ok-true.ensures.most
    (up_most c.in-Ok-Some.field-0 c.in-Ok-Some.call _ _ c.in-Ok-Some.field-0-is c.in-Ok-Some.ensures.most)
