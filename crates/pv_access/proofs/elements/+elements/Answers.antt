use Rattle.std.proofs.Common.{◌≡◌, ◌+◌, refl, sym, ap, ◌∙◌, arith}
use Rattle.std.proofs.lemmas.Result.{IfOk-weaker}
use Rattle.pv_flow.specs.Terms.{select}
use Rattle.pv_terms.proofs.ForCallers.{keeps, grows_then, puts_then}
use Rattle.pv_access.specs.Accesses.{is_at, element_term}
use Rattle.pv_access.proofs.Pushing.{says, moves_keep, move_keeps, no_moves, split_moves}
use Rattle.pv_access.proofs.Steps.{steps_same, further_same, chosen_first, chosen_next, chosen_all}
use Rattle.pv_access.proofs.elements.+elements.Goals as goal

pub push_element-returns-in-None : goal.push_element-returns-in-None
push_element-returns-in-None t c = λ ms table are.
    IfOk-weaker c.push_variable.result _ _
    (λ r z. says _ _ r _ _ (ap (λ l. element_term c.args.cells.ty c.args.cells.width l c.args.n)
    (sym (no_moves _ c.args.moves.now ms c.in-None.ensures.cases are))) z)
    (c.push_variable.ensures table)

pub push_element-returns-in-Some : goal.push_element-returns-in-Some
push_element-returns-in-Some t c = λ ms table are.
    let s = split_moves _ c.args.moves.now c.in-Some.m.now c.in-Some.more.now ms c.in-Some.ensures.cases.0 are in
    IfOk-weaker c.push_choices.result _ _
    (λ r z. says _ _ r _ _ (ap (λ l. element_term c.args.cells.ty c.args.cells.width l c.args.n) (sym s.is)) z)
    (c.push_choices.ensures s.first s.rest table s.move s.moves)

pub push_choices-loop-k-init : goal.push_choices-loop-k-init
push_choices-loop-k-init t c = λ first ms table is are.
    says _ _ _ _ _ (chosen_first c.args.cells.ty c.args.cells.width first ms c.args.n) (c.in_ok-found.ensures ms table are)

pub push_choices-loop-k-preserved : goal.push_choices-loop-k-preserved
push_choices-loop-k-preserved t c = λ first ms table is are.
    let x = c.loop-k.invariant first ms table is are in
    puts_then _ _ _ _ _ x.grows
    (says _ _ _ _ _ (chosen_next c.args.cells.ty c.args.cells.width first ms c.args.n c.loop-k.k (c.loop-k.k + 1) refl)
    (c.in_ok-found-2.ensures first ms _ x.grows.table (move_keeps _ _ c.args.m.now first x.grows is)
    (moves_keep _ _ c.args.more.now ms x.grows are) x.at))

pub push_choices-returns : goal.push_choices-returns
push_choices-returns t c = λ first ms table is are.
    let all : c.loop-k.k ≡ c.in_ok-steps.steps = omega arith in
    says _ _ _ _ _ (chosen_all c.args.cells.ty c.args.cells.width first ms c.args.n c.loop-k.k
    (all ∙ steps_same _ c.args.m.now first c.in_ok-steps.steps is c.in_ok-steps.ensures))
    (c.loop-k.invariant first ms table is are)

pub push_choice-returns : goal.push_choice-returns
push_choice-returns t c = λ first ms s table is are at.
    let x = c.in_ok-at.ensures first table is in
    let y = c.in_ok-element.ensures ms x.grows.table (moves_keep _ _ c.args.more.now ms x.grows are) in
    let both = grows_then _ _ _ x.grows y.grows in
    IfOk-weaker c.push_select.result _ _
    (λ r z. puts_then _ _ _ r _ both
    (says _ _ r _ _ (ap (λ v. select c.args.cells.ty (is_at first c.args.k) (element_term c.args.cells.ty c.args.cells.width ms v) s)
    (further_same _ c.args.m.now first c.args.n c.args.k c.args.cells.width c.in_ok-first.first is c.in_ok-first.ensures)) z))
    (c.push_select.ensures _ _ _ y.grows.table (keeps _ _ _ _ y.grows x.at) y.at (keeps _ _ _ s both at))
