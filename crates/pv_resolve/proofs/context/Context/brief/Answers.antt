use Rattle.std.proofs.Common.{ap, ◌∙◌}
use Rattle.pv_mean.specs.Activations.{brief_where}
use Rattle.pv_mean.specs.Layout as layout
use Rattle.pv_resolve.specs.Contexts.{block_in}
use Rattle.std.proofs.lemmas.Bool.{false≢true}
use Rattle.pv_resolve.proofs.context.Context.brief.Goals as goal

pub returns-clause-value : goal.returns-clause-value
returns-clause-value c = λ source first is.
    let block = block_in c.args.self.now in
    c.begin_with.ensures.value first
    ∙ ap brief_where (c.in_ok-found.ensures.value (layout.laid_among source.project (layout.is_brief_in block) block.vars c.args.name.now.key 0)
    (c.brief_found.ensures source is))

pub returns-in_err-found-clause-near : goal.returns-in_err-found-clause-near
returns-in_err-found-clause-near c =
    λ source is near. let block = block_in c.args.self.now in
    absurd (false≢true (c.in_err-found.ensures.near (layout.laid_among source.project (layout.is_brief_in block) block.vars c.args.name.now.key 0)
    (c.brief_found.ensures source is) near))
