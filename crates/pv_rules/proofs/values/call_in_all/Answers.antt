use Rattle.std.proofs.Common.{refl, map}
use Rattle.std.specs.Prelude.{flat_map}
use Rattle.pv_tree.specs.Parts.{calls_of_stmt}
use Rattle.pv_tree.specs.View.{stmt_tree}
use Rattle.pv_names.specs.InScope.{scope_of}
use Rattle.pv_rules.specs.Values.{call_at}
use Rattle.pv_rules.proofs.Walks.{next_of}
use Rattle.pv_rules.proofs.values.call_in_all.Goals as goal

pub loop-stmt-preserved : goal.loop-stmt-preserved
loop-stmt-preserved c =
    next_of (call_at (scope_of c.args.scope.now)) (λ s. calls_of_stmt (stmt_tree s.now)) (λ l. flat_map calls_of_stmt (map (λ s. stmt_tree s.now) l))
    (λ s l. refl) c.args.statements.now c.loop-stmt.stmt-index _ c.stmt-item.result c.loop-stmt.best c.call_in_stmt-best.result _ c.loop-stmt-test.true
    c.stmt-item.is refl c.call_in_stmt-best.ensures c.loop-stmt.invariant
