use Rattle.std.proofs.Common.{ap, ◌∙◌}
use Rattle.pv_tree.specs.Tree.{BlockTree}
use Rattle.pv_tree.specs.Things.{quoted_value}
use Rattle.pv_resolve.proofs.Holding.{name_holds}
use Rattle.pv_resolve.proofs.context.Context.block_of_name.Goals as goal

pub returns-in-None : goal.returns-in-None
returns-in-None c = λ source begin is e.
    name_holds c.args.self.now source c.args.name.now.key begin c.number_of.result _ is
    (c.in-None.ensures ∙ ap (λ (b : BlockTree). quoted_value b c.args.name.now.key) c.block.ensures)
    c.number_of.ensures e
