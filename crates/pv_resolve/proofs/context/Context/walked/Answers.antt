use Rattle.std.proofs.Common.{ap, ◌∙◌, option_map}
use Rattle.pv_types.specs.View.{var_trees}
use Rattle.pv_tree.specs.Tree.{BlockTree}
use Rattle.pv_names.specs.Entries.{block_of}
use Rattle.pv_mean.specs.Layout as layout
use Rattle.pv_mean.specs.LaidOut.{capped_laid, test_of}
use Rattle.pv_mean.specs.Sized.{sized_project}
use Rattle.pv_resolve.proofs.context.Context.walked.Goals as goal

pub returns : goal.returns
returns c = λ source is.
    let s = c.args.self.now in
    let key = c.args.name.now.key in
    c.variable.ensures
    ∙ ap (λ vs. option_map capped_laid (layout.laid_among (sized_project s.sizes.now) (test_of c.args.part) (var_trees vs) key 0)) c.as_slice-vars.ensures.value
    ∙ ap (λ (b : BlockTree). option_map capped_laid (layout.laid_among (sized_project s.sizes.now) (test_of c.args.part) b.vars key 0)) c.block.ensures
    ∙ ap (λ p. option_map capped_laid (layout.laid_among p (test_of c.args.part) (block_of c.args.entry.now).vars key 0)) is.sizes
