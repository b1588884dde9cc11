use Rattle.std.proofs.Common.{◌≡◌, map, drop}
use Rattle.std.specs.Prelude.{option_map}
use Rattle.pv_tree.specs.View.{expr_tree, stmt_tree, stmts_of, arms_of, branches_of, else_of}
use Rattle.pv_bytes.specs.Statements.{within, listed, within_arms, within_branches, within_else}
use Rattle.pv_bytes.proofs.statements.+listing.Given as goal

abbrev pub invariant-push_within-loop-arm : goal.invariant-push_within-loop-arm
invariant-push_within-loop-arm l =
    within_else (within_arms (map (λ s. stmt_tree s.now) l.list.items)
    (arms_of (map (λ a. (expr_tree a.0, stmts_of (map stmt_tree a.1.items))) (drop l.arm-index l.arm-items))))
    (else_of (option_map (λ o. stmts_of (map stmt_tree o.value.items)) l.other))
    ≡ within (map (λ s. stmt_tree s.now) l.fn.list.items) (stmt_tree l.fn.stmt)

abbrev pub invariant-push_within-loop-branch : goal.invariant-push_within-loop-branch
invariant-push_within-loop-branch l =
    within_else (within_branches (map (λ s. stmt_tree s.now) l.list.items)
    (branches_of (map (λ b. (b.0.items, stmts_of (map stmt_tree b.1.items))) (drop l.branch-index l.branch-items))))
    (else_of (option_map (λ o. stmts_of (map stmt_tree o.value.items)) l.other))
    ≡ within (map (λ s. stmt_tree s.now) l.fn.list.items) (stmt_tree l.fn.stmt)

abbrev pub invariant-push_statements-loop-stmt : goal.invariant-push_statements-loop-stmt
invariant-push_statements-loop-stmt l =
    listed (map (λ s. stmt_tree s.now) l.list.items) (stmts_of (map stmt_tree (drop l.stmt-index l.stmts)))
    ≡ listed (map (λ s. stmt_tree s.now) l.fn.list.items) (stmts_of (map stmt_tree l.stmts))
