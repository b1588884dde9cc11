use Rattle.std.proofs.Common.{sym, subst, ◌≡◌, option_map}
use Rattle.pv_mean.specs.Activations.{at}
use Rattle.pv_mean.specs.Spots.{nowhere}
use Rattle.pv_resolve.specs.Begins.{begins_in, begins_found}
use Rattle.pv_resolve.specs.Laying.{laid_tree}
use Rattle.pv_resolve.proofs.Naming.{found_begin, nothing_found}
use Rattle.pv_resolve.proofs.begin.begin_with.Goals as goal

pub returns-in-Some-clause-value : goal.returns-in-Some-clause-value
returns-in-Some-clause-value c =
    λ first. subst (λ o. begins_in c.args.part first (laid_tree c.in-Some.laid) ≡ begins_found c.args.part first (option_map laid_tree o))
    (sym c.in-Some.is) (found_begin c.args.part first (laid_tree c.in-Some.laid))

pub returns-in-None-clause-value : goal.returns-in-None-clause-value
returns-in-None-clause-value c =
    λ first. subst (λ o. at nowhere ≡ begins_found c.args.part first (option_map laid_tree o)) (sym c.in-None.is)
    (nothing_found c.args.part first)
