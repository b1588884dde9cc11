use Rattle.std.proofs.Common.{inl, inr, ap, ◌∙◌, sym, map, refl}
use Rattle.std.specs.Prelude.{option_map}
use Rattle.pv_tree.specs.Tree.{if_, case_, for_, while_, repeat_, call_}
use Rattle.pv_tree.specs.Callees.{as_statement}
use Rattle.pv_tree.specs.Parts.{parts_of_call, site}
use Rattle.pv_tree.specs.View.{call_tree, expr_tree, stmt_tree, stmts_of, arms_of, branches_of, else_of}
use Rattle.pv_names.specs.InScope.{scope_of}
use Rattle.pv_rules_expr.specs.Near.{near_at}
use Rattle.pv_rules_code.specs.Nears.{near_aim, near_count, near_stride, near_pick}
use Rattle.pv_rules_code.specs.Sites.{site_place}
use Rattle.pv_rules_code.specs.Spots.{loop_tree, spot}
use Rattle.pv_tree.proofs.ForCallers.{stmt-for, stmt-if, stmt-case}
use Rattle.pv_rules_code.proofs.Nears.{all_sites, at_arms, at_repeat, at_while, both_ok, by_form, not_left, one_list, kept}
use Rattle.pv_rules_code.proofs.StmtSeen.{conditions_seen, stmt-call, stmt-repeat, stmt-while}
use Rattle.pv_rules_code.proofs.sites.add_sites.Goals as goal

pub returns-in-If : goal.returns-in-If
returns-in-If c =
    let scope = scope_of c.args.scope.now in
    let loops = map loop_tree c.args.loops.now in
    let near = c.args.near.now in
    let all = arms_of (map (λ a. (expr_tree a.0, stmts_of (map stmt_tree a.1.items))) c.in-If.arms.items) in
    let other = else_of (option_map (λ o. stmts_of (map stmt_tree o.value.items)) c.in-If.other) in
    by_form c.add_arms.result scope loops (stmt_tree c.args.stmt.now) (if_ all other c.in-If.place) near _
    (ap stmt_tree c.in-If.is ∙ stmt-if c.in-If.arms c.in-If.other c.in-If.place)
    (both_ok c.add_arms.result (at_arms scope loops (map (λ a. expr_tree a.0) c.in-If.arms.items) all other c.in-If.place near c.add_arms.new.near
    c.add_arms.new.condition (conditions_seen (λ a. (expr_tree a.0, stmts_of (map stmt_tree a.1.items))) c.in-If.arms.items))
    c.add_arms.ensures.parts c.add_arms.ensures.condition)

pub returns-in-Case : goal.returns-in-Case
returns-in-Case c =
    let all = branches_of (map (λ b. (b.0.items, stmts_of (map stmt_tree b.1.items))) c.in-Case.branches.items) in
    let other = else_of (option_map (λ o. stmts_of (map stmt_tree o.value.items)) c.in-Case.other) in
    by_form c.add_case.result (scope_of c.args.scope.now) (map loop_tree c.args.loops.now) (stmt_tree c.args.stmt.now)
    (case_ (expr_tree c.deref-in-Case.result.now) all other c.in-Case.place) c.args.near.now c.add_case.new.near
    (ap stmt_tree c.in-Case.is ∙ stmt-case c.in-Case.selector c.in-Case.branches c.in-Case.other c.in-Case.place
    ∙ ap (λ e. case_ (expr_tree e) all other c.in-Case.place) (sym c.deref-in-Case.ensures))
    (c.add_case.ensures (map loop_tree c.args.loops.now) other c.in-Case.place)

pub returns-in-For : goal.returns-in-For
returns-in-For c =
    let h = c.deref-in-For.result.now in
    let body = stmts_of (map stmt_tree c.in-For.body.items) in
    by_form c.add_head.result (scope_of c.args.scope.now) (map loop_tree c.args.loops.now) (stmt_tree c.args.stmt.now)
    (for_ h.var h.var_place (expr_tree h.first) (expr_tree h.last) h.by body c.in-For.place) c.args.near.now c.add_head.new.near
    (ap stmt_tree c.in-For.is ∙ stmt-for c.in-For.head c.in-For.body c.in-For.place
    ∙ ap (λ h. for_ h.var h.var_place (expr_tree h.first) (expr_tree h.last) h.by body c.in-For.place) (sym c.deref-in-For.ensures))
    (c.add_head.ensures body c.in-For.place)

pub returns-in-Call : goal.returns-in-Call
returns-in-Call c =
    let scope = scope_of c.args.scope.now in
    let loops = map loop_tree c.args.loops.now in
    let near = c.args.near.now in
    let call = call_tree c.deref-in-Call.result.now in
    by_form c.add_call.result scope loops (stmt_tree c.args.stmt.now) (call_ call) near _
    (ap stmt_tree c.in-Call.is ∙ stmt-call c.in-Call.call ∙ ap (λ k. call_ (call_tree k)) (sym c.deref-in-Call.ensures))
    (both_ok c.add_call.result (λ parts asks.
    all_sites (λ what. site_place what scope (spot loops (call_ call))) near _
    (λ what. one_list what scope (parts_of_call scope (site as_statement call)) (near_at what near.parts) (near_at what c.add_call.new.near) (parts what))
    (λ what. kept (near_aim what near.aims)) (kept near.counted) asks (λ what. kept (near_count what near.counts))
    (λ what. kept (near_stride what near.strides)) (λ what. kept (near_pick what near.picks)) (kept near.misfit) (kept near.selector)
    (kept near.condition) (not_left near.leave loops (call_ call) refl)) c.add_call.ensures.parts c.add_call.ensures.asks)

pub returns-in-While : goal.returns-in-While
returns-in-While c =
    let scope = scope_of c.args.scope.now in
    let loops = map loop_tree c.args.loops.now in
    let near = c.args.near.now in
    let e = expr_tree c.deref-in-While.result.now in
    let parts = c.add_condition.ensures.parts in
    let condition = c.add_condition.ensures.condition in
    elim c.in-While.is [
      | inl w ↦ let body = stmts_of (map stmt_tree w.0.items) in
          by_form c.add_condition.result scope loops (stmt_tree c.args.stmt.now) (while_ e body w.1) near _
          (ap stmt_tree w.2 ∙ stmt-while c.in-While.cond w.0 w.1 ∙ ap (λ k. while_ (expr_tree k) body w.1) (sym c.deref-in-While.ensures))
          (both_ok c.add_condition.result (at_while scope loops e body w.1 near c.add_condition.new.near c.add_condition.new.condition) parts condition)
      | inr w ↦ let body = stmts_of (map stmt_tree w.0.items) in
          by_form c.add_condition.result scope loops (stmt_tree c.args.stmt.now) (repeat_ body e w.1) near _
          (ap stmt_tree w.2 ∙ stmt-repeat w.0 c.in-While.cond w.1 ∙ ap (λ k. repeat_ body (expr_tree k) w.1) (sym c.deref-in-While.ensures))
          (both_ok c.add_condition.result (at_repeat scope loops e body w.1 near c.add_condition.new.near c.add_condition.new.condition) parts condition)
    ]
