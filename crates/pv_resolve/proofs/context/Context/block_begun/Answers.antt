use Rattle.std.proofs.Common.{ap, ◌∙◌, sym}
use Rattle.pv_mean.specs.Activations.{root_begins}
use Rattle.pv_eval.specs.Means.{activation}
use Rattle.pv_resolve.specs.Contexts.{block_in}
use Rattle.pv_resolve.proofs.context.Context.block_begun.Goals as goal

pub returns-in-Local : goal.returns-in-Local
returns-in-Local c = λ source begin is e.
    c.block_of_word.ensures source begin is (e
    ∙ ap (root_begins source (activation (block_in c.args.self.now) 0)) (sym c.deref.ensures ∙ c.in-Local.is))

pub returns-in-Named : goal.returns-in-Named
returns-in-Named c = λ source begin is e.
    c.block_of_name.ensures source begin is (e
    ∙ ap (root_begins source (activation (block_in c.args.self.now) 0)) (sym c.deref.ensures ∙ c.in-Named.is))
