use Rattle.std.proofs.Common.{◌+◌, ◌*◌, [], ◌∷◌, ◌++◌, refl, sym, ap, ◌∙◌, arith}
use Rattle.std.proofs.lemmas.Result.{on_ok_weaker}
use Rattle.pv_access.specs.Accesses.{is_at, width_of, element_sets}
use Rattle.pv_access.proofs.Pushing.{sets_then, sets_say, sets_behind, no_sets, all_keep, all_same, all_and, writing_keeps, moves_keep, move_keeps, no_moves, split_moves}
use Rattle.pv_access.proofs.Steps.{sets_at, steps_same, further_same, each_next, each_all, popped}
use Rattle.pv_access.proofs.writing.+sets.Goals as goal

pub set_elements-returns-in-None-clause-sets : goal.set_elements-returns-in-None-clause-sets
set_elements-returns-in-None-clause-sets t c = λ w cs ms table is are moves.
    on_ok_weaker c.set_cell.result
    (λ z. sets_say _ _ _ _ _ _ (ap (λ l. element_sets c.args.target.paired c.args.target.ty w cs l c.args.n)
    (sym (no_moves _ c.args.moves.now ms c.in-None.ensures.cases moves))) z)
    (c.set_cell.ensures w cs table is (all_same _ _ _ cs c.as_slice.ensures.value are))

pub set_elements-returns-in-Some-clause-sets : goal.set_elements-returns-in-Some-clause-sets
set_elements-returns-in-Some-clause-sets t c = λ w cs ms table is are moves.
    let s = split_moves _ c.args.moves.now c.in-Some.m.now c.in-Some.more.now ms c.in-Some.ensures.cases.0 moves in
    on_ok_weaker c.set_each.result
    (λ z. sets_say _ _ _ _ _ _ (ap (λ l. element_sets c.args.target.paired c.args.target.ty w cs l c.args.n) (sym s.is)) z)
    (c.set_each.ensures.sets w cs s.first s.rest table is are s.move s.moves)

pub set_each-loop-k-init : goal.set_each-loop-k-init
set_each-loop-k-init t c = record { same = refl; sets = λ w cs first ms table is are move moves. no_sets _ _ table }

pub set_each-loop-k-preserved : goal.set_each-loop-k-preserved
set_each-loop-k-preserved t c = record {
  same = c.in_ok-set_element.ensures.same ∙ c.loop-k.invariant.same;
  sets = λ w cs first ms table is are move moves.
      let x = c.loop-k.invariant.sets w cs first ms table is are move moves in
      sets_say _ _ _ _ _ _ (each_next (sets_at c.args.target.paired c.args.target.ty w cs first ms c.args.n) c.loop-k.k (c.loop-k.k + 1) refl)
      (sets_then _ _ _ _ _ _ _ _ x
      (c.in_ok-set_element.ensures.sets w cs first ms x.grows.table (writing_keeps _ _ c.args.target.writing w x.grows is)
      (all_same _ _ _ cs c.loop-k.invariant.same (all_keep _ _ c.args.conditions.now.items cs x.grows are))
      (move_keeps _ _ c.args.m.now first x.grows move) (moves_keep _ _ c.args.more.now ms x.grows moves)));
}

pub set_each-returns : goal.set_each-returns
set_each-returns t c = record {
  same = c.loop-k.invariant.same;
  sets = λ w cs first ms table is are move moves.
      sets_say _ _ _ _ _ _ (each_all c.args.target.paired c.args.target.ty w cs first ms c.args.n c.loop-k.k c.in_ok-steps.steps
      (omega arith) (steps_same _ c.args.m.now first c.in_ok-steps.steps move c.in_ok-steps.ensures))
      (c.loop-k.invariant.sets w cs first ms table is are move moves);
}

pub set_element-returns : goal.set_element-returns
set_element-returns t c = record {
  same = popped c.args.conditions.now.items _ _ _ _ (c.in_ok-set_elements.ensures.same ∙ c.in_ok-push.ensures.items) c.set_elements.new.conditions.ok.0 c.pop.ensures.rest;
  sets = λ w cs first ms table is are move moves.
      let x = c.in_ok-at.ensures first table move in
      let all = all_and _ _ cs _ _ (all_keep _ _ c.args.conditions.now.items cs x.grows are) x.at in
      sets_behind _ _ _ _ _ _ x.grows
      (sets_say _ _ _ _ _ _ (ap (element_sets c.args.target.paired c.args.target.ty w (cs ++ is_at first c.args.k ∷ []) ms)
      (further_same _ c.args.m.now first c.args.n c.args.k (width_of c.args.target.paired) c.in_ok-first.first move
      (c.in_ok-first.ensures ∙ ap (λ v. c.args.n + c.args.k * (c.args.m.now.stride * v)) c.width_of.ensures)))
      (c.in_ok-set_elements.ensures.sets w (cs ++ is_at first c.args.k ∷ []) ms x.grows.table
      (writing_keeps _ _ c.args.target.writing w x.grows is) (all_same _ _ _ (cs ++ is_at first c.args.k ∷ []) c.in_ok-push.ensures.items all)
      (moves_keep _ _ c.args.more.now ms x.grows moves)));
}
