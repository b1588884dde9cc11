use Rattle.std.proofs.Common.{refl, map}
use Rattle.std.specs.Prelude.{flat_map}
use Rattle.pv_tree.specs.Parts.{calls_of_stmt}
use Rattle.pv_tree.specs.View.{operand_tree, stmt_tree}
use Rattle.pv_names.specs.InScope.{scope_of}
use Rattle.pv_rules.specs.Outputs.{call_writes}
use Rattle.pv_rules.proofs.Walks.{found_at, left_of}
use Rattle.pv_rules.proofs.outputs.statements_write.Goals as goal

pub returns-then-stmt_writes : goal.returns-then-stmt_writes
returns-then-stmt_writes c =
    found_at (call_writes (scope_of c.args.scope.now) (operand_tree c.args.operand.now)) (λ s. calls_of_stmt (stmt_tree s.now))
    (λ l. flat_map calls_of_stmt (map (λ s. stmt_tree s.now) l)) (λ x l. refl) c.args.statements.now c.loop-stmt.stmt-index c.stmt-item.result
    c.stmt_writes.result _ c.loop-stmt-test.true c.stmt-item.is c.stmt_writes.ensures c.if-stmt_writes.true c.loop-stmt.invariant

pub loop-stmt-preserved : goal.loop-stmt-preserved
loop-stmt-preserved c =
    left_of (call_writes (scope_of c.args.scope.now) (operand_tree c.args.operand.now)) (λ s. calls_of_stmt (stmt_tree s.now))
    (λ l. flat_map calls_of_stmt (map (λ s. stmt_tree s.now) l)) (λ x l. refl) c.args.statements.now c.loop-stmt.stmt-index _ c.stmt-item.result
    c.stmt_writes.result _ c.loop-stmt-test.true c.stmt-item.is refl c.stmt_writes.ensures c.if-stmt_writes.false c.loop-stmt.invariant
