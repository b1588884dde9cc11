use Rattle.std.proofs.Common.{refl, ap, ◌∙◌, option_map}
use Rattle.std.proofs.Math.Path.{fun_ext}
use Rattle.pv_tree.specs.Tree.{BlockTree}
use Rattle.pv_tree.specs.View.{block_tree}
use Rattle.pv_mean.specs.Layout as layout
use Rattle.pv_mean.specs.LaidOut.{capped_laid}
use Rattle.pv_resolve.specs.Contexts.{block_in}
use Rattle.pv_resolve.proofs.context.Context.brief_found.Goals as goal

pub returns : goal.returns
returns c = λ source is.
    let block = block_in c.args.self.now in
    let seen = block_tree c.block.result.now in
    c.variable_in.ensures source is is.number
    ∙ ap (λ t. option_map capped_laid (layout.laid_among source.project t block.vars c.args.name.now.key 0))
    (fun_ext (λ s. c.activation_part-part.ensures seen s refl ∙ ap (λ (b : BlockTree). layout.is_brief_in b s) c.block.ensures))
