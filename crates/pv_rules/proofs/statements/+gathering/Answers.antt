use denote.Param.Weighed.{most}
use Rattle.std.proofs.Common.{refl, ap, ◌∙◌, map, max, ◌++◌, arith}
use Rattle.std.specs.Prelude.{option_map}
use Rattle.std.proofs.lemmas.Result.{on_ok_weaker}
use Rattle.pv_tree.specs.Tree.{if_, case_, for_, while_, repeat_}
use Rattle.pv_tree.specs.View.{expr_tree, stmt_tree, stmt_trees, stmts_of, arms_of, branches_of, else_of}
use Rattle.pv_tree.proofs.ForCallers.{stmt-if, stmt-case, stmt-for}
use Rattle.pv_rules.specs.Statements.{all_in, all_of, all_of_arms, all_of_branches, all_of_else}
use Rattle.pv_tree.specs.declared.stmt.Stmt.TheViews as form
use Rattle.pv_rules_call.proofs.ForCallers.{case_falls, stmt-repeat, stmt-while, under_most}
use Rattle.pv_rules.proofs.Gathering.{begun, ended, formed}
use Rattle.pv_rules.proofs.statements.+gathering.Goals as goal

pub add_statement-loop-arm-init : goal.add_statement-loop-arm-init
add_statement-loop-arm-init t c =
    let all = arms_of (map (λ a. (expr_tree a.0, stmts_of (map stmt_tree a.1.items))) c.in-If.arms.items) in
    let other = else_of (option_map (λ o. stmts_of (map stmt_tree o.value.items)) c.in-If.other) in
    ap (λ l. map (λ s. stmt_tree s.now) c.add_one.new.all.items ++ (all_of_arms (arms_of (map (λ a. (expr_tree a.0, stmts_of (map stmt_tree a.1.items))) l)) ++ all_of_else other)) c.deref-arm-items.ensures.value
    ∙ begun _ _ (all_of_arms all ++ all_of_else other) (stmt_tree c.args.stmt.now) (all_in (stmt_tree c.args.stmt.now)) c.in_ok-add_one.ensures
    (formed (stmt_tree c.args.stmt.now) (if_ all other c.in-If.place) (all_of_arms all ++ all_of_else other)
    (ap stmt_tree c.in-If.is ∙ stmt-if c.in-If.arms c.in-If.other c.in-If.place) refl)

pub add_statement-loop-branch-init : goal.add_statement-loop-branch-init
add_statement-loop-branch-init t c =
    let all = branches_of (map (λ b. (b.0.items, stmts_of (map stmt_tree b.1.items))) c.in-Case.branches.items) in
    let other = else_of (option_map (λ o. stmts_of (map stmt_tree o.value.items)) c.in-Case.other) in
    ap (λ l. map (λ s. stmt_tree s.now) c.add_one.new.all.items ++ (all_of_branches (branches_of (map (λ b. (b.0.items, stmts_of (map stmt_tree b.1.items))) l)) ++ all_of_else other)) c.deref-branch-items.ensures.value
    ∙ begun _ _ (all_of_branches all ++ all_of_else other) (stmt_tree c.args.stmt.now) (all_in (stmt_tree c.args.stmt.now)) c.in_ok-add_one.ensures
    (formed (stmt_tree c.args.stmt.now) (case_ (expr_tree c.in-Case.selector.value) all other c.in-Case.place) (all_of_branches all ++ all_of_else other)
    (ap stmt_tree c.in-Case.is ∙ stmt-case c.in-Case.selector c.in-Case.branches c.in-Case.other c.in-Case.place) refl)

pub add_statement-returns-in-For : goal.add_statement-returns-in-For
add_statement-returns-in-For t c =
    let body = stmt_trees c.in-For.body.items in
    on_ok_weaker c.add_statements-in-For.result
    (λ e. ended _ _ (all_of body) (stmt_tree c.args.stmt.now) (all_in (stmt_tree c.args.stmt.now)) _ c.in_ok-add_one.ensures
    (formed (stmt_tree c.args.stmt.now) (for_ c.in-For.head.value.var c.in-For.head.value.var_place (expr_tree c.in-For.head.value.first)
    (expr_tree c.in-For.head.value.last) c.in-For.head.value.by body c.in-For.place) (all_of body) (ap stmt_tree c.in-For.is ∙ stmt-for c.in-For.head c.in-For.body c.in-For.place) refl)
    (e ∙ ap (λ l. map (λ s. stmt_tree s.now) c.add_one.new.all.items ++ all_of (stmt_trees l)) c.as_slice-in-For.ensures.value))
    c.add_statements-in-For.ensures

pub add_statement-returns-in-While : goal.add_statement-returns-in-While
add_statement-returns-in-While t c =
    let body = stmt_trees c.in-While.body.items in
    on_ok_weaker c.add_statements-in-While.result
    (λ e. ended _ _ (all_of body) (stmt_tree c.args.stmt.now) (all_in (stmt_tree c.args.stmt.now)) _ c.in_ok-add_one.ensures
    (formed (stmt_tree c.args.stmt.now) (while_ (expr_tree c.in-While.cond.value) body c.in-While.place) (all_of body) (ap stmt_tree c.in-While.is ∙ stmt-while c.in-While.cond c.in-While.body c.in-While.place) refl)
    (e ∙ ap (λ l. map (λ s. stmt_tree s.now) c.add_one.new.all.items ++ all_of (stmt_trees l)) c.as_slice-in-While.ensures.value))
    c.add_statements-in-While.ensures

pub add_statement-returns-in-Repeat : goal.add_statement-returns-in-Repeat
add_statement-returns-in-Repeat t c =
    let body = stmt_trees c.in-Repeat.body.items in
    on_ok_weaker c.add_statements-in-Repeat.result
    (λ e. ended _ _ (all_of body) (stmt_tree c.args.stmt.now) (all_in (stmt_tree c.args.stmt.now)) _ c.in_ok-add_one.ensures
    (formed (stmt_tree c.args.stmt.now) (repeat_ body (expr_tree c.in-Repeat.cond.value) c.in-Repeat.place) (all_of body) (ap stmt_tree c.in-Repeat.is ∙ stmt-repeat c.in-Repeat.body c.in-Repeat.cond c.in-Repeat.place) refl)
    (e ∙ ap (λ l. map (λ s. stmt_tree s.now) c.add_one.new.all.items ++ all_of (stmt_trees l)) c.as_slice-in-Repeat.ensures.value))
    c.add_statements-in-Repeat.ensures

pub add_statement-add_statements-requires-in-loop-branch : goal.add_statement-add_statements-requires-in-loop-branch
add_statement-add_statements-requires-in-loop-branch t c =
    let low = under_most form.size-Stmt (λ b. b.1.items) c.deref-branch-items.result.now c.loop-branch.branch-index c.branch-item.result
    c.as_slice-in-loop-branch.result.now c.loop-branch-test.true c.branch-item.is c.as_slice-in-loop-branch.ensures.value in
    let same = ap (λ l. most (λ b. max 0 (most form.size-Stmt b.1.items)) l) c.deref-branch-items.ensures.value in
    let size = ap form.size-Stmt c.in-Case.is in
    let begun = c.decreases in
    let falls = case_falls c.in-Case.selector c.in-Case.branches c.in-Case.other c.in-Case.place in
    (omega (arith, low, same, size, begun, falls), tt)
