use Rattle.std.proofs.Common.{take}
use Rattle.pv_types.specs.View.{var_trees, listed}
use Rattle.pv_types.specs.Named.{AllNamedIn}
use Rattle.pv_mean.specs.Visits.{visits_of, enters_in_vars, AddsEnters}
use Rattle.pv_mean.proofs.sizing.+naming.Given as goal

abbrev pub invariant-add_names_of-loop-of : goal.invariant-add_names_of-loop-of
invariant-add_names_of-loop-of l =
    AddsEnters (visits_of l.fn.tasks.items) (visits_of l.tasks.items)
    (λ P. AllNamedIn P (listed (var_trees (take l.of-index l.vars))))
    (enters_in_vars (listed (var_trees (take l.of-index l.vars))))
