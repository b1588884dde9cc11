use Rattle.std.proofs.Common.{refl, get_or}
use Rattle.pv_cells.proofs.Pushing.{read_same}
use Rattle.std.specs.Prelude.{option_to_list}
use Rattle.std.specs.List.{slice_get}
use Rattle.pv_cells.specs.Below.{at_numbers, size_of_paths}
use Rattle.pv_cells.proofs.Sums.{sum-goes_on, sum-within}
use Rattle.pv_cells.proofs.Graphing.{calls-split, calls-done}
use Rattle.pv_cells.proofs.graph.size_of_calls.Goals as goal

pub loop-number-preserved : goal.loop-number-preserved
loop-number-preserved c =
    let number = get_or c.args.calls.now c.loop-number.number-index 0 in record {
      within = sum-within c.sum-total.result _ c.sum-total.ensures;
      total = λ project n are is.
          sum-goes_on c.sum-total.result c.loop-number.total c.size_at.result (size_of_paths project n (option_to_list (slice_get project.blocks number)))
          _ (size_of_paths project n (at_numbers project.blocks c.args.calls.now)) _ c.sum-total.ensures (c.size_at.ensures project n are is)
          (calls-split project n c.args.calls.now c.loop-number.number-index _ number c.loop-number-test.true (read_same c.args.calls.now c.loop-number.number-index 0 number c.loop-number-test.true) refl)
          (c.loop-number.invariant.total project n are is);
    }

pub returns : goal.returns
returns c = λ project n are is.
    calls-done project n c.args.calls.now c.loop-number.number-index c.loop-number.total (size_of_paths project n (at_numbers project.blocks c.args.calls.now))
    c.loop-number-test.false c.loop-number.invariant.within (c.loop-number.invariant.total project n are is)
