use Rattle.std.proofs.Common.{◌≡◌, map, drop}
use Rattle.std.specs.Prelude.{flat_map}
use Rattle.pv_tree.specs.Parts.{calls_of_stmt}
use Rattle.pv_tree.specs.View.{stmt_tree}
use Rattle.pv_names.specs.InScope.{scope_of}
use Rattle.pv_rules.specs.Values.{calls_in}
use Rattle.pv_rules.proofs.values.call_in_all.Given as goal

abbrev pub invariant-loop-stmt : goal.invariant-loop-stmt
invariant-loop-stmt l =
    calls_in (scope_of l.scope) (flat_map calls_of_stmt (map (λ s. stmt_tree s.now) (drop l.stmt-index l.statements))) l.best
    ≡ calls_in (scope_of l.scope) (flat_map calls_of_stmt (map (λ s. stmt_tree s.now) l.statements)) l.fn.nearest
