use Rattle.std.proofs.Common.{map, subst, Some, ◌≡◌}
use Rattle.std.specs.Prelude.{IfSome}
use Rattle.pv_types.specs.View.{var_tree}
use Rattle.pv_mean.specs.LaidOut.{test_of, laid_tree}
use Rattle.pv_resolve.specs.Firsts.{laid_nth}
use Rattle.pv_resolve.proofs.firsts.BlockFirsts.nth.Goals as goal

pub returns-in-Some : goal.returns-in-Some
returns-in-Some c = λ project has.
    subst (λ p. IfSome c.nth.result (λ laid. laid_nth project (test_of p) (map var_tree c.args.vars.now) c.args.number 0 ≡ Some (laid_tree laid)))
    c.in-Some.ensures.part (c.nth.ensures project (c.in-Some.ensures.fronts project _ has))
