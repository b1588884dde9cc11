use Rattle.pv_types.specs.View.{var_trees}
use Rattle.pv_mean.specs.Layout.{size_among}
use Rattle.pv_mean.specs.Sized.{sized_project}
use Rattle.pv_mean.specs.LaidOut.{test_of}
use Rattle.pv_mean.proofs.Countings.{goes_on, stays_within}
use Rattle.pv_mean.proofs.LaidVariables.{among_from}
use Rattle.pv_mean.proofs.sizes.Sizes.of_variables.Goals as goal

pub loop-of-preserved : goal.loop-of-preserved
loop-of-preserved c =
    let project = sized_project c.args.self.now in
    let test = test_of c.args.part in
    let vars = c.args.vars.now in
    let more = among_from project test vars c.loop-of.of-index c.of-item.result c.loop-of-test.true c.of-item.is in
    record {
      within = stays_within c.sum-total.result _ c.sum-total.ensures;
      total = goes_on c.sum-total.result c.loop-of.total c.of_declared.result _ _ (size_among project test (var_trees vars)) _
          c.sum-total.ensures c.of_declared.ensures more c.loop-of.invariant.total;
    }
