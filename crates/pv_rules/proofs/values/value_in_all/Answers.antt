use Rattle.std.proofs.Common.{◌≡◌, refl, ap, ◌∙◌, [], map}
use Rattle.std.proofs.lemmas.List.{append-nil}
use Rattle.std.specs.Prelude.{flat_map}
use Rattle.pv_tree.specs.Parts.{calls_of_instruction, calls_of_stmt}
use Rattle.pv_tree.specs.View.{instr_tree, stmt_tree}
use Rattle.pv_names.specs.InScope.{scope_of}
use Rattle.pv_rules_expr.specs.NearestIn.{nearest_in}
use Rattle.pv_rules_expr.proofs.ForCallers.{has_front}
use Rattle.pv_rules.specs.Reads.{reads_of_stmt}
use Rattle.pv_rules.specs.Values.{value_at}
use Rattle.pv_rules.proofs.Walks.{among, next_of}
use Rattle.pv_rules.proofs.values.value_in_all.Goals as goal

pub value_in_stmt-best-requires : goal.value_in_stmt-best-requires
value_in_stmt-best-requires c =
    let list = c.args.statements.now in
    λ s h. has_front (λ k. k ≡ s) (flat_map calls_of_stmt (map (λ s. stmt_tree s.now) list)) (flat_map calls_of_instruction (map instr_tree []))
    (among (λ k. k ≡ s) (λ s. calls_of_stmt (stmt_tree s.now)) (λ l. flat_map calls_of_stmt (map (λ s. stmt_tree s.now) l)) (λ x l. refl) list
    c.loop-stmt.stmt-index c.stmt-item.result c.loop-stmt-test.true c.stmt-item.is h)

pub loop-stmt-preserved : goal.loop-stmt-preserved
loop-stmt-preserved c =
    let calls = flat_map calls_of_stmt (map (λ s. stmt_tree s.now) c.args.statements.now) in
    next_of (value_at (scope_of c.args.scope.now) calls) (λ s. reads_of_stmt (stmt_tree s.now))
    (λ l. flat_map reads_of_stmt (map (λ s. stmt_tree s.now) l)) (λ s l. refl) c.args.statements.now c.loop-stmt.stmt-index _ c.stmt-item.result
    c.loop-stmt.best c.value_in_stmt-best.result _ c.loop-stmt-test.true c.stmt-item.is refl
    (c.value_in_stmt-best.ensures ∙ ap (λ l. nearest_in (value_at (scope_of c.args.scope.now) l) (reads_of_stmt (stmt_tree c.stmt-item.result.now)) c.loop-stmt.best)
    (append-nil calls)) c.loop-stmt.invariant
