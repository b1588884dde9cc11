use Rattle.std.proofs.Common.{◌<◌, map, ◌++◌, length, sym, subst, ap, ◌∙◌}
use Rattle.pv_types.specs.Leaves.{leaves_of}
use Rattle.pv_tree.specs.View.{block_tree}
use Rattle.pv_mean.specs.Cells.{leaves_of_block}
use Rattle.pv_mean.specs.declared.count.TheConstants.{BEYOND}
use Rattle.pv_resolve.specs.Rooms.{HasRoom}
use Rattle.pv_resolve.proofs.ForCallers.{failed}
use Rattle.pv_flow.specs.View.{variable_of as view}
use Rattle.pv_variables.specs.Variables.{variables_of}
use Rattle.pv_variables.proofs.list.variables_of.Goals as goal

pub returns-clause-variables : goal.returns-clause-variables
returns-clause-variables c = λ source is typed entry same.
    let block = block_tree c.block-block.result.now in
    c.in_ok-push_all.ensures.adds source is entry same
    (c.as_slice.ensures ∙ c.in_ok-leaves.ensures.leaves ∙ ap (λ t. leaves_of t block.vars) typed)
    ∙ ap (λ l. map view l ++ variables_of source block) c.new-vars.ensures.items
    ∙ ap (λ b. variables_of source b) c.block-block.ensures

pub returns-in_err-leaves-clause-room : goal.returns-in_err-leaves-clause-room
returns-in_err-leaves-clause-room c = λ source is typed h few.
    failed _ _ c.from_residual.ensures.1 (c.in_err-leaves.ensures.room
    (subst (λ t. length (leaves_of t (block_tree c.block-block.result.now).vars) < BEYOND) (sym typed)
    (subst (λ b. length (leaves_of_block source.project b) < BEYOND) (sym c.block-block.ensures) few)))

pub returns-in_err-push_all-clause-room : goal.returns-in_err-push_all-clause-room
returns-in_err-push_all-clause-room c = λ source is typed h few.
    failed _ _ c.from_residual-in_err-push_all.ensures.1 (c.in_err-push_all.ensures.room source is
    (subst (HasRoom source) (sym c.block-block.ensures) h))
