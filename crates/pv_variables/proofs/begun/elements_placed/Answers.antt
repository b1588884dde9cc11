use Rattle.std.proofs.Common.{subst}
use Rattle.pv_resolve.specs.Begins.{begin_at}
use Rattle.pv_resolve.specs.Rooms.{BeginsRoomy}
use Rattle.pv_variables.proofs.begun.elements_placed.Goals as goal

pub returns-in-In-clause-room : goal.returns-in-In-clause-room
returns-in-In-clause-room c = λ source more is h.
    c.elements_in.ensures.room source more is (subst (λ b. BeginsRoomy source.project more (begin_at b 0)) c.in-In.is h)
