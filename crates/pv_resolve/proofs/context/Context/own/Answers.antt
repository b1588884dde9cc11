use Rattle.std.proofs.Common.{◌∙◌, option_map}
use Rattle.pv_tree.specs.Scopes.{is_of_instance}
use Rattle.pv_mean.specs.Layout as layout
use Rattle.pv_resolve.specs.Contexts.{block_in}
use Rattle.pv_resolve.specs.Laying.{laid_tree}
use Rattle.pv_resolve.proofs.Naming.{own_begins}
use Rattle.std.proofs.lemmas.Bool.{false≢true}
use Rattle.pv_resolve.proofs.context.Context.own.Goals as goal

pub returns-clause-value : goal.returns-clause-value
returns-clause-value c = λ source first is.
    let block = block_in c.args.self.now in
    let key = c.args.name.now.key in
    c.begin_with.ensures.value first
    ∙ own_begins source.project block.vars key first (option_map laid_tree c.in_ok-found.found)
    (c.in_ok-found.ensures.value (layout.laid_among source.project is_of_instance block.vars key 0) (c.own_found.ensures source is))

pub returns-in_err-found-clause-near : goal.returns-in_err-found-clause-near
returns-in_err-found-clause-near c =
    λ source is near. let block = block_in c.args.self.now in
    absurd (false≢true (c.in_err-found.ensures.near (layout.laid_among source.project is_of_instance block.vars c.args.name.now.key 0)
    (c.own_found.ensures source is) near))
