use Rattle.std.proofs.Common.{ap, ◌∙◌, option_map, true}
use Rattle.std.proofs.lemmas.Result.{IfOk-weaker}
use Rattle.pv_types.specs.View.{var_trees}
use Rattle.pv_names.specs.Views.{held_tree}
use Rattle.pv_resolve.specs.Laying.{laid_tree}
use Rattle.pv_mean.specs.Layout as layout
use Rattle.pv_resolve.proofs.Naming.{field_of_struct, field_of_type}
use Rattle.std.proofs.Common.{refl, sym, subst}
use Rattle.std.specs.Prelude.{IfSome}
use Rattle.pv_resolve.proofs.Nears.{IsNear}
use Rattle.pv_resolve.proofs.context.Context.field_laid.Goals as goal

pub returns-in-Struct-clause-value : goal.returns-in-Struct-clause-value
returns-in-Struct-clause-value c =
    λ source is. IfOk-weaker c.among.result _ _ (λ o e.
    field_of_struct source.project (held_tree c.args.laid.ty) (var_trees c.in-Struct.vars.now) c.args.name.now.key c.args.laid.first
    (option_map laid_tree o) (ap held_tree c.in-Struct.is)
    (e ∙ ap (λ p. layout.laid_among p (λ s. true) (var_trees c.in-Struct.vars.now) c.args.name.now.key c.args.laid.first) is.sizes))
    c.among.ensures.value

pub returns-in-Named-clause-value : goal.returns-in-Named-clause-value
returns-in-Named-clause-value c =
    λ source is. IfOk-weaker c.field_of_named.result _ _ (λ o e.
    field_of_type source.project (held_tree c.args.laid.ty) c.in-Named.ty.now c.in-Named.field-1 c.args.name.now.key c.args.laid.first
    (option_map laid_tree o) (ap held_tree c.in-Named.is) e)
    (c.field_of_named.ensures.value source is)

pub returns-in-Struct-clause-near : goal.returns-in-Struct-clause-near
returns-in-Struct-clause-near c =
    λ source is near. c.among.ensures.near (subst (λ o. IfSome o IsNear)
    (sym (field_of_struct source.project (held_tree c.args.laid.ty) (var_trees c.in-Struct.vars.now) c.args.name.now.key c.args.laid.first _
    (ap held_tree c.in-Struct.is)
    (ap (λ p. layout.laid_among p (λ s. true) (var_trees c.in-Struct.vars.now) c.args.name.now.key c.args.laid.first) is.sizes))) near)

pub returns-in-Named-clause-near : goal.returns-in-Named-clause-near
returns-in-Named-clause-near c =
    λ source is near. c.field_of_named.ensures.near source is (subst (λ o. IfSome o IsNear)
    (sym (field_of_type source.project (held_tree c.args.laid.ty) c.in-Named.ty.now c.in-Named.field-1 c.args.name.now.key c.args.laid.first _
    (ap held_tree c.in-Named.is) refl)) near)
