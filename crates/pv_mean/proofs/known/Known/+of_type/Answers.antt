use Rattle.std.proofs.Common.{◌*◌, length, refl, ap, sym, ◌∙◌}
use Rattle.pv_types.specs.View.{type_tree, vars_tree, var_trees, listed}
use Rattle.pv_types.specs.Leaves.{count_between}
use Rattle.pv_types.specs.Sizes.{size_of_type, size_of_fields}
use Rattle.pv_types.proofs.ForCallers.{array_seen, structure_seen, counted}
use Rattle.pv_mean.specs.Counts.{capped, size_known}
use Rattle.pv_mean.proofs.Capping.{product_of_capped}
use Rattle.pv_mean.proofs.Countings.{times_on, stays_within, fields_from, all_counted}
use Rattle.pv_mean.proofs.known.Known.+of_type.Goals as goal

pub returns-in-Array : goal.returns-in-Array
returns-in-Array t c =
    product_of_capped c.product.result c.count_between.result c.of_type.result (count_between c.in-Array.low c.in-Array.high)
    (size_of_type (size_known c.args.self.now) (type_tree c.deref.result.now)) c.product.ensures c.count_between.ensures c.of_type.ensures
    ∙ ap (λ t. capped (size_of_type (size_known c.args.self.now) t)) (sym (array_seen c.args.ty.now c.in-Array.low c.in-Array.high
    c.in-Array.of c.in-Array.place c.deref.result.now c.in-Array.is c.deref.ensures))

pub loop-of-preserved : goal.loop-of-preserved
loop-of-preserved t c =
    let known = size_known c.args.self.now in
    let vars = c.deref-of-items.result.now in
    let v = c.of-item.result in
    let count = length (vars_tree v) in
    let size = size_of_type known (type_tree v.ty) in
    let more = fields_from known vars c.loop-of.of-index v c.loop-of-test.true c.of-item.is in
    record {
      within = stays_within c.sum-total.result _ c.sum-total.ensures;
      total = times_on c.sum-total.result c.loop-of.total c.product-in-loop-of.result c.count_of.result c.of_type-in-loop-of.result
          (count * size) _ (size_of_fields known (listed (var_trees vars))) _ count size c.sum-total.ensures c.product-in-loop-of.ensures
          (c.count_of.ensures ∙ ap capped (sym (counted v))) c.of_type-in-loop-of.ensures refl more c.loop-of.invariant.total;
    }

pub returns-after-loop-of : goal.returns-after-loop-of
returns-after-loop-of t c =
    let known = size_known c.args.self.now in
    let vars = c.deref-of-items.result.now in
    all_counted known vars c.loop-of.of-index c.loop-of.total (size_of_fields known (listed (var_trees vars))) c.loop-of-test.false
    c.loop-of.invariant.within c.loop-of.invariant.total
    ∙ ap (λ t. capped (size_of_type known t))
    (sym (structure_seen c.args.ty.now c.in-Struct.vars vars c.in-Struct.is c.deref-of-items.ensures.value))
