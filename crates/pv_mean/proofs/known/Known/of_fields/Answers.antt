use Rattle.std.proofs.Common.{◌*◌, length, refl, ap, sym, ◌∙◌}
use Rattle.pv_types.specs.View.{type_tree, vars_tree, var_trees, listed}
use Rattle.pv_types.proofs.ForCallers.{counted}
use Rattle.pv_types.specs.Sizes.{size_of_type, size_of_fields}
use Rattle.pv_mean.specs.Counts.{capped, size_known}
use Rattle.pv_mean.proofs.Countings.{times_on, stays_within, fields_from}
use Rattle.pv_mean.proofs.known.Known.of_fields.Goals as goal

pub loop-of-preserved : goal.loop-of-preserved
loop-of-preserved c =
    let known = size_known c.args.self.now in
    let vars = c.args.vars.now in
    let v = c.of-item.result in
    let count = length (vars_tree v) in
    let size = size_of_type known (type_tree v.ty) in
    let more = fields_from known vars c.loop-of.of-index v c.loop-of-test.true c.of-item.is in
    record {
      within = stays_within c.sum-total.result _ c.sum-total.ensures;
      total = times_on c.sum-total.result c.loop-of.total c.product.result c.count_of.result c.of_type.result (count * size) _
          (size_of_fields known (listed (var_trees vars))) _ count size c.sum-total.ensures c.product.ensures (c.count_of.ensures ∙ ap capped (sym (counted v)))
          c.of_type.ensures refl more c.loop-of.invariant.total;
    }
