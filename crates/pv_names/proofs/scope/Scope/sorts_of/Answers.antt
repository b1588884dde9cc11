use Rattle.std.proofs.Common.{ap, ◌∙◌, map, arith}
use Rattle.std.proofs.lemmas.List.{take_all}
use Rattle.pv_tree.specs.View.{expr_tree}
use Rattle.pv_tree.specs.Types.{sort_of}
use Rattle.pv_names.specs.InScope.{scope_of}
use Rattle.pv_names.proofs.Steps.{sorts_mapped}
use Rattle.pv_names.proofs.scope.Scope.sorts_of.Goals as goal

pub returns : goal.returns
returns c =
    c.loop-arg.invariant
    ∙ ap (map (λ e. sort_of (scope_of c.args.self.now) (expr_tree e))) (take_all c.loop-arg.arg-index c.args.args.now (omega arith))
    ∙ sorts_mapped (scope_of c.args.self.now) c.args.args.now
