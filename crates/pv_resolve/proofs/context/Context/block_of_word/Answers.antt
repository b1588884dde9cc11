use Rattle.std.proofs.Common.{◌≡◌, ap, ◌∙◌, subst, false}
use Rattle.pv_tree.specs.Tree.{BlockTree}
use Rattle.pv_tree.specs.View.{block_tree}
use Rattle.pv_tree.specs.Scopes.{own_value}
use Rattle.pv_mean.specs.Activations.{word_begins}
use Rattle.pv_eval.specs.Means.{activation}
use Rattle.pv_resolve.specs.Contexts.{block_in}
use Rattle.pv_resolve.specs.Begins.{begin_at}
use Rattle.pv_resolve.proofs.Holding.{word_holds}
use Rattle.pv_resolve.proofs.context.Context.block_of_word.Goals as goal

pub returns-in-None-own_value : goal.returns-in-None-own_value
returns-in-None-own_value c = λ source begin is e.
    word_holds c.args.self.now source c.args.name.now.key begin c.number_of.result is c.in-None.ensures
    (c.in-None-own_value.ensures ∙ ap (own_value (block_tree c.block.result.now) c.args.name.now.key) c.if-hash.false
    ∙ ap (λ (b : BlockTree). own_value b c.args.name.now.key false) c.block.ensures)
    c.number_of.ensures
    (subst (λ h. begin_at begin 0 ≡ word_begins source (activation (block_in c.args.self.now) 0) c.args.name.now.key h) c.if-hash.false e)
