use Rattle.std.proofs.Common.{◌∙◌, ap, sym, refl, List, ◌++◌}
use Rattle.pv_bool_form.specs.Wording.{words_of}
use Rattle.pv_tree.specs.View.{stmt_tree}
use Rattle.pv_bool.specs.Tree.{AssignmentTree}
use Rattle.pv_bool_form.specs.Programs.{assignments_of_stmt}
use Rattle.pv_bool_form.specs.Numbering.{place_among}
use Rattle.pv_bool_form.proofs.Places.{stmts_grown}
use Rattle.pv_bool_form.proofs.first.assignments.Goals as goal

pub loop-statement-preserved : goal.loop-statement-preserved
loop-statement-preserved c =
    let number = place_among (words_of c.args.words.now) in
    c.in_ok-push_assignment.ensures
    ∙ ap (λ (l : List AssignmentTree). l ++ assignments_of_stmt number (stmt_tree c.statement-item.result)) c.loop-statement.invariant
    ∙ sym (stmts_grown number c.args.statements.now c.loop-statement.statement-index _ c.statement-item.result c.loop-statement-test.true c.statement-item.is refl)
