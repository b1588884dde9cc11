use Rattle.std.proofs.Common.{refl, ◌∙◌}
use Rattle.std.proofs.lemmas.Result.{IfOk-weaker}
use Rattle.pv_tree.specs.View.{block_tree}
use Rattle.pv_resolve.specs.Begins.{begin_at}
use Rattle.pv_resolve.proofs.Naming.{brief_cells, own_cells}
use Rattle.pv_resolve.specs.Contexts.{block_in}
use Rattle.pv_resolve.proofs.Nears.{roomy_near}
use Rattle.pv_resolve.proofs.Roots.{brief_var_roomy, own_roomy}
use Rattle.pv_resolve.proofs.context.Context.cells_of.Goals as goal

pub returns-then-has-clause-value : goal.returns-then-has-clause-value
returns-then-has-clause-value c =
    λ source first is. IfOk-weaker c.brief.result _ _ (λ b e.
    brief_cells c.args.self.now source first c.args.name.now.key c.args.section (block_tree c.block-block.result.now) c.has.result
    (begin_at b first) c.block-block.ensures
    (c.has.ensures ∙ c.activation_part.ensures (block_tree c.block-block.result.now) c.args.section refl) c.if-has.true e)
    (c.brief.ensures.value source first is)

pub returns-else-has-clause-value : goal.returns-else-has-clause-value
returns-else-has-clause-value c =
    λ source first is. IfOk-weaker c.own.result _ _ (λ b e.
    own_cells c.args.self.now source first c.args.name.now.key c.args.section (block_tree c.block-block.result.now) c.has.result
    (begin_at b first) c.block-block.ensures
    (c.has.ensures ∙ c.activation_part.ensures (block_tree c.block-block.result.now) c.args.section refl) c.if-has.false e)
    (c.own.ensures.value source first is)

pub returns-then-has-clause-room : goal.returns-then-has-clause-room
returns-then-has-clause-room c =
    λ source is h. c.brief.ensures.near source is (roomy_near source.project 0 _ (brief_var_roomy source (block_in c.args.self.now) h c.args.name.now.key))

pub returns-else-has-clause-room : goal.returns-else-has-clause-room
returns-else-has-clause-room c =
    λ source is h. c.own.ensures.near source is (roomy_near source.project 0 _ (own_roomy source (block_in c.args.self.now) h c.args.name.now.key))
