use Rattle.std.proofs.Common.{refl, ap, map}
use Rattle.pv_tree.specs.View.{arg_tree}
use Rattle.pv_names.specs.Entries.{block_of}
use Rattle.pv_names.specs.InScope.{scope_of}
use Rattle.pv_names.specs.Callees.{how_tree}
use Rattle.pv_sizes.specs.Sizes.{size_of_args}
use Rattle.pv_sizes.proofs.Adding.{goes_on, stays_within, left_from}
use Rattle.pv_sizes.proofs.calls.args_size.Goals as goal

pub loop-arg-preserved : goal.loop-arg-preserved
loop-arg-preserved c =
    let here = scope_of c.args.scope.now in
    let how = how_tree c.args.how in
    let callee = block_of c.args.callee.now in
    let all = c.args.args.now in
    let more = ap (λ l. size_of_args here how callee (map arg_tree l))
    (left_from all c.loop-arg.arg-index _ c.arg-item.result c.loop-arg-test.true c.arg-item.is refl) in
    record {
      within = stays_within c.sum-total.result _ c.sum-total.ensures;
      total = goes_on c.sum-total.result c.loop-arg.total c.arg_size.result _ _ (size_of_args here how callee (map arg_tree all)) _
          c.sum-total.ensures c.arg_size.ensures more c.loop-arg.invariant.total;
    }
