use Rattle.std.proofs.Common.{◌≡◌, ◌++◌, map, drop}
use Rattle.std.specs.Prelude.{flat_map}
use Rattle.pv_tree.specs.View.{stmt_tree}
use Rattle.pv_tree.specs.Parts.{calls_of_stmt}
use Rattle.pv_cells.specs.Calls.{made_tree}
use Rattle.pv_cells.proofs.calls.push_stmts.Given as goal

abbrev pub invariant-loop-stmt : goal.invariant-loop-stmt
invariant-loop-stmt l = map made_tree l.calls.items ++ flat_map (λ s. calls_of_stmt (stmt_tree s.now)) (drop l.stmt-index l.stmts)
    ≡ map made_tree l.initial.calls.items ++ flat_map (λ s. calls_of_stmt (stmt_tree s.now)) l.stmts
