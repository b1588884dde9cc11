use Rattle.std.proofs.Common.{ap, sym, ◌∙◌, option_map}
use Rattle.pv_types.specs.View.{type_tree}
use Rattle.pv_types.proofs.ForCallers.{array_seen}
use Rattle.pv_mean.specs.Layout.{size_in, element_from}
use Rattle.pv_mean.specs.Counts.{capped}
use Rattle.pv_mean.specs.Sized.{sized_project}
use Rattle.pv_mean.specs.LaidOut.{capped_laid}
use Rattle.pv_mean.proofs.LaidVariables.{element_counted}
use Rattle.pv_mean.proofs.sizes.Sizes.element.Goals as goal

pub returns : goal.returns
returns c =
    let project = sized_project c.args.self.now in
    let inner = c.deref-2.result.now in
    element_counted project c.in-Array.low c.in-Array.high c.args.index.now (type_tree inner) c.in-Array.place c.args.laid.now.first
    c.sum.result c.distance.result c.of_type.result c.product-behind.result (sym c.lies_between.ensures ∙ c.if-not-lies_between.false)
    c.distance.ensures
    (c.of_type.ensures ∙ ap (λ d. capped (size_in project (type_tree d))) (c.deref.ensures ∙ sym c.deref-2.ensures))
    c.product-behind.ensures c.sum.ensures
    ∙ ap (λ t. option_map capped_laid (element_from project t c.args.laid.now.first c.args.index.now))
    (sym (array_seen c.args.laid.now.ty.now c.in-Array.low c.in-Array.high c.in-Array.of c.in-Array.place inner c.in-Array.is
    c.deref-2.ensures))
