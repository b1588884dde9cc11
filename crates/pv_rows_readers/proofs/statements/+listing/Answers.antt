use Rattle.std.proofs.Common.{ap, max, arith}
use denote.Param.Weighed.{most}
use Rattle.pv_tree.specs.declared.stmt.Stmt.TheViews as form
use Rattle.pv_rows_readers.proofs.Branches.{under_most, case_falls}
use Rattle.pv_rows_readers.proofs.statements.+listing.Goals as goal

pub tell_stmt-tell_list-requires-in-loop-branch : goal.tell_stmt-tell_list-requires-in-loop-branch
tell_stmt-tell_list-requires-in-loop-branch t c =
    let low = under_most form.size-Stmt (λ b. b.1.items) c.deref-branch-items.result.now c.loop-branch.branch-index c.branch-item.result
    c.as_slice-in-loop-branch.result.now c.loop-branch-test.true c.branch-item.is c.as_slice-in-loop-branch.ensures.value in
    let same = ap (λ l. most (λ b. max 0 (most form.size-Stmt b.1.items)) l) c.deref-branch-items.ensures.value in
    let size = ap form.size-Stmt c.in-Case.is in
    let begun = c.decreases in
    let falls = case_falls c.in-Case.selector c.in-Case.branches c.in-Case.other c.in-Case.place in
    (omega (arith, low, same, size, begun, falls), tt)
