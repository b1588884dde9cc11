use Rattle.std.proofs.Common.{map, ap, sym, ◌∙◌, ◌++◌}
use Rattle.std.specs.Prelude.{flat_map}
use Rattle.std.proofs.lemmas.List.Folds.{flat_map-map}
use Rattle.pv_tree.specs.Parts.{calls_of_stmt, calls_of_instruction, instructions_of, spots_of_body}
use Rattle.pv_tree.specs.View.{stmt_tree, body_tree}
use Rattle.pv_cells.specs.Calls.{made_tree}
use Rattle.pv_cells.proofs.calls.calls_of_block.Goals as goal

pub returns : goal.returns
returns c =
    let body = body_tree c.args.block.now.body in
    let own = flat_map calls_of_instruction (instructions_of body) in
    c.in_ok-push_body.ensures
    ∙ ap (λ l. l ++ own) (c.in_ok-push_stmts.ensures
    ∙ ap (λ l. map made_tree l ++ flat_map (λ s. calls_of_stmt (stmt_tree s.now)) c.as_slice.result.now) c.new-calls.ensures.items
    ∙ ap (flat_map (λ s. calls_of_stmt (stmt_tree s.now))) c.as_slice.ensures.value
    ∙ sym (flat_map-map calls_of_stmt (λ s. stmt_tree s.now) c.in_ok-stmts.stmts.items)
    ∙ ap (flat_map calls_of_stmt) c.in_ok-stmts.ensures
    ∙ flat_map-map calls_of_stmt (λ s. s.stmt) (spots_of_body body))
