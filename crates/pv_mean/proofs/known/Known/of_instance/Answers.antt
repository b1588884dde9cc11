use Rattle.pv_types.specs.declared.declaration.Section.TheVariants.{Static}
use Rattle.pv_types.specs.View.{var_trees, listed}
use Rattle.pv_types.specs.Leaves.{instance}
use Rattle.pv_types.specs.Sizes.{size_of_vars}
use Rattle.pv_mean.specs.Counts.{size_known}
use Rattle.pv_mean.proofs.Countings.{goes_on, stays_within, parts_from}
use Rattle.pv_mean.proofs.known.Known.of_instance.Goals as goal

pub loop-of-preserved : goal.loop-of-preserved
loop-of-preserved c =
    let known = size_known c.args.self.now in
    let vars = c.args.vars.now in
    let more = parts_from known vars c.loop-of.of-index c.of-item.result c.loop-of-test.true c.of-item.is in
    record {
      within = stays_within c.sum-total.result _ c.sum-total.ensures;
      total = goes_on c.sum-total.result c.loop-of.total c.of_part.result _ _
          (size_of_vars known (instance Static) (listed (var_trees vars))) _ c.sum-total.ensures c.of_part.ensures more
          c.loop-of.invariant.total;
    }
