use Rattle.std.proofs.Common.{◌≡◌, length, drop}
use Rattle.pv_mean.specs.Cells.{with_params, with_bindings}
use Rattle.pv_mean.proofs.view.set_params.Given as goal

-- what is left to do makes of the cells what all makes of them as they were
abbrev pub invariant-loop-n : goal.invariant-loop-n
invariant-loop-n l = record {
  long : length l.cells ≡ length l.fn.cells;
  left : with_params (drop l.n-index l.view.params.items) l.cells ≡ with_params l.view.params.items l.fn.cells;
}

abbrev pub invariant-loop-n-2 : goal.invariant-loop-n-2
invariant-loop-n-2 l = record {
  long : length l.cells ≡ length l.fn.cells;
  left : with_bindings (drop l.n-index l.view.bound.items) l.cells
      ≡ with_bindings l.view.bound.items (with_params l.view.params.items l.fn.cells);
}
