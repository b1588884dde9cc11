use Rattle.std.proofs.Common.{ap, ◌∙◌}
use Rattle.std.specs.Prelude.{Err}
use Rattle.pv_tree.specs.View.{block_tree}
use Rattle.pv_tree.specs.Rules.Chains.{here}
use Rattle.pv_mean.specs.Sized.{sized_project}
use Rattle.pv_program.proofs.Reached.{entry_near}
use Rattle.pv_program.proofs.project.program_in.Goals as goal

pub returns-clause-is : goal.returns-clause-is
returns-clause-is c = λ source project sizes entry at bytes cells bound.
    let is = c.in_ok-context.ensures.context source project sizes (c.block.ensures ∙ entry) bytes in
    c.program_with.ensures.is source (c.with_firsts-context.ensures.is source is (c.in_ok-firsts.ensures source is)) at cells bound

pub returns-clause-room : goal.returns-clause-room
returns-clause-room c = λ source project sizes entry at bytes ready.
    let is = c.in_ok-context.ensures.context source project sizes (c.block.ensures ∙ entry) bytes in
    c.program_with.ensures.room source (c.with_firsts-context.ensures.is source is (c.in_ok-firsts.ensures source is)) at ready

pub returns-in_err-context-clause-room : goal.returns-in_err-context-clause-room
returns-in_err-context-clause-room c = λ source project sizes entry at bytes ready.
    absurd (entry_near source (sized_project c.args.sizes.now) (block_tree c.block.result.now) (ready.room source.entry here) sizes (c.block.ensures ∙ entry)
    (c.in_err-context.ensures.too_large.0 (ap (λ e. Err e) c.in_err-context.ensures.fault)))
