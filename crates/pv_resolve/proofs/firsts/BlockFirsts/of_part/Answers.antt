use Rattle.std.proofs.Common.{subst}
use Rattle.std.specs.Prelude.{IfSome}
use Rattle.pv_resolve.specs.Firsts.{HasFronts}
use Rattle.pv_resolve.proofs.firsts.BlockFirsts.of_part.Goals as goal

pub returns-then-eq-clause-fronts : goal.returns-then-eq-clause-fronts
returns-then-eq-clause-fronts c = λ project vars has. has.main

pub returns-then-eq-2-clause-fronts : goal.returns-then-eq-2-clause-fronts
returns-then-eq-2-clause-fronts c = λ project vars has.
    subst (λ o. IfSome o (HasFronts project vars)) c.in-Some.is has.temporary
