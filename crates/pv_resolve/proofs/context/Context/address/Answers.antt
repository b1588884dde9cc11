use Rattle.std.proofs.lemmas.Result.{IfOk-weaker}
use Rattle.pv_eval.specs.Operands.{spot_of}
use Rattle.pv_resolve.proofs.Naming.{address_found}
use Rattle.std.proofs.lemmas.Bool.{false≢true}
use Rattle.std.proofs.Common.{subst}
use Rattle.pv_resolve.specs.Rooms.{FitsRoot}
use Rattle.pv_resolve.proofs.context.Context.address.Goals as goal

pub returns-in_ok-number-in-Area-clause-value : goal.returns-in_ok-number-in-Area-clause-value
returns-in_ok-number-in-Area-clause-value c =
    λ source is. IfOk-weaker c.address_spot.result _ _ (λ s e.
    address_found source c.args.ty c.in-Area.area c.in-Area.bits c.in-Area.byte c.in-Area.bit c.in_ok-number-in-Area.number c.args.at.now (spot_of s) c.in-Area.is
    (c.in_ok-number-in-Area.ensures.value source is) e)
    c.address_spot.ensures.value

pub returns-in_err-number-in-Area-clause-room : goal.returns-in_err-number-in-Area-clause-room
returns-in_err-number-in-Area-clause-room c =
    λ source is h fits. absurd (false≢true (c.in_err-number-in-Area.ensures.room source is h))

pub returns-in_ok-number-in-Area-clause-room : goal.returns-in_ok-number-in-Area-clause-room
returns-in_ok-number-in-Area-clause-room c =
    λ source is h fits. c.address_spot.ensures.short (subst FitsRoot c.in-Area.is fits)
