use Rattle.std.proofs.Common.{◌≡◌, ◌++◌, map, drop}
use Rattle.std.specs.Prelude.{option_map}
use Rattle.pv_tree.specs.View.{expr_tree, stmt_tree, stmt_trees, stmts_of, arms_of, branches_of, else_of}
use Rattle.pv_rules.specs.Statements.{all_in, all_of, all_of_arms, all_of_branches, all_of_else}
use Rattle.pv_rules.proofs.statements.+gathering.Given as goal

abbrev pub invariant-add_statement-loop-arm : goal.invariant-add_statement-loop-arm
invariant-add_statement-loop-arm l =
    map (λ s. stmt_tree s.now) l.all.items
    ++ (all_of_arms (arms_of (map (λ a. (expr_tree a.0, stmts_of (map stmt_tree a.1.items))) (drop l.arm-index l.arm-items)))
    ++ all_of_else (else_of (option_map (λ o. stmts_of (map stmt_tree o.value.items)) l.other)))
    ≡ map (λ s. stmt_tree s.now) l.fn.all.items ++ all_in (stmt_tree l.fn.stmt)

abbrev pub invariant-add_statement-loop-branch : goal.invariant-add_statement-loop-branch
invariant-add_statement-loop-branch l =
    map (λ s. stmt_tree s.now) l.all.items
    ++ (all_of_branches (branches_of (map (λ b. (b.0.items, stmts_of (map stmt_tree b.1.items))) (drop l.branch-index l.branch-items)))
    ++ all_of_else (else_of (option_map (λ o. stmts_of (map stmt_tree o.value.items)) l.other)))
    ≡ map (λ s. stmt_tree s.now) l.fn.all.items ++ all_in (stmt_tree l.fn.stmt)

abbrev pub invariant-add_statements-loop-stmt : goal.invariant-add_statements-loop-stmt
invariant-add_statements-loop-stmt l =
    map (λ s. stmt_tree s.now) l.all.items ++ all_of (stmt_trees (drop l.stmt-index l.list))
    ≡ map (λ s. stmt_tree s.now) l.fn.all.items ++ all_of (stmt_trees l.fn.list)
