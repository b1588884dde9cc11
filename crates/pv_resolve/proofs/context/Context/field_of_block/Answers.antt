use Rattle.std.proofs.Common.{ap, sym, refl, option_map, subst}
use Rattle.std.specs.Prelude.{IfSome}
use Rattle.std.proofs.lemmas.Result.{IfOk-weaker}
use Rattle.pv_names.specs.Views.{held_tree}
use Rattle.pv_names.specs.Entries.{block_of}
use Rattle.pv_resolve.specs.Laying.{laid_tree}
use Rattle.pv_resolve.proofs.Holding.{data_field}
use Rattle.pv_resolve.proofs.Nears.{IsNear}
use Rattle.pv_resolve.proofs.context.Context.field_of_block.Goals as goal

pub returns-in-Struct-clause-value : goal.returns-in-Struct-clause-value
returns-in-Struct-clause-value c = λ source is at holds.
    IfOk-weaker c.variable_from.result _ _ (λ o e.
    data_field source.project c.args.laid (block_of c.args.entry.now) _ c.args.name.now.key (option_map laid_tree o)
    (ap held_tree c.in-Struct.is) holds e)
    (c.variable_from.ensures.value source is at)

pub returns-in-Struct-clause-near : goal.returns-in-Struct-clause-near
returns-in-Struct-clause-near c = λ source is at holds near.
    c.variable_from.ensures.near source is at (subst (λ o. IfSome o IsNear)
    (sym (data_field source.project c.args.laid (block_of c.args.entry.now) _ c.args.name.now.key _
    (ap held_tree c.in-Struct.is) holds refl)) near)
