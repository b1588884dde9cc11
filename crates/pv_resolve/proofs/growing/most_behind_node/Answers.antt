use Rattle.std.proofs.Common.{subst}
use Rattle.std.specs.Prelude.{IfSome}
use Rattle.pv_eval.specs.Operands.{span}
use Rattle.pv_eval.specs.Order.{IsMost}
use Rattle.std.proofs.Common.{◌∙◌}
use Rattle.std.proofs.lemmas.Option.{none-some}
use Rattle.pv_resolve.proofs.Nears.{behind_most, behind_is}
use Rattle.pv_resolve.proofs.growing.most_behind_node.Goals as goal

pub returns-in-Some-clause-most : goal.returns-in-Some-clause-most
returns-in-Some-clause-most c =
    let e = c.args.elements.now in
    subst (λ o. IfSome c.most_behind.result (IsMost o (span e.low e.high e.stride))) c.in-Some.ensures
    (behind_most c.most_behind.result c.in-Some.before (span e.low e.high e.stride) c.most_behind.ensures.is)

pub returns-in-Some-clause-is : goal.returns-in-Some-clause-is
returns-in-Some-clause-is c =
    let e = c.args.elements.now in
    λ b is lt. behind_is c.most_behind.result c.in-Some.before b (span e.low e.high e.stride) (c.in-Some.ensures ∙ is) c.most_behind.ensures.is
    c.most_behind.ensures.none lt

pub returns-in-None-clause-is : goal.returns-in-None-clause-is
returns-in-None-clause-is c =
    λ b is lt. absurd (none-some b (c.in-None.ensures ∙ is))
