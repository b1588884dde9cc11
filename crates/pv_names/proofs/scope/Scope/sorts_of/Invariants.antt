use Rattle.std.proofs.Common.{◌≡◌, map, take}
use Rattle.pv_tree.specs.View.{expr_tree}
use Rattle.pv_tree.specs.Types.{sort_of}
use Rattle.pv_names.specs.InScope.{scope_of}
use Rattle.pv_names.specs.Sorts.{sort_tree}
use Rattle.pv_names.proofs.scope.Scope.sorts_of.Given as goal

abbrev pub invariant-loop-arg : goal.invariant-loop-arg
invariant-loop-arg l =
    map sort_tree l.parts.items ≡ map (λ e. sort_of (scope_of l.self) (expr_tree e)) (take l.arg-index l.args)
