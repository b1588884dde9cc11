use Rattle.std.proofs.Common.{sym, subst, arith}
use Rattle.std.specs.Prelude.{IfOk}
use Rattle.pv_resolve.specs.Walks.{GoesOn}
use Rattle.pv_resolve.proofs.Elements.{goes_nowhere}
use Rattle.std.proofs.Common.{refl}
use Rattle.pv_resolve.specs.Begins.{begin_at}
use Rattle.pv_resolve.specs.Rooms.{BeginsRoomy}
use Rattle.pv_resolve.proofs.context.Context.element.Goals as goal

pub returns-in-In-clause-goes : goal.returns-in-In-clause-goes
returns-in-In-clause-goes c =
    λ source base values is m. subst (λ b. IfOk c.part_element.result (λ w. GoesOn source base c.part_element.new.nodes.items b w c.args.place values))
    (sym c.in-In.is) (c.part_element.ensures.goes source base values is m)

pub returns-in-At-clause-grows : goal.returns-in-At-clause-grows
returns-in-At-clause-grows c =
    record { ordered = c.requires.ordered; longer = omega arith; same_most = λ k m is. is }

pub returns-in-At-clause-goes : goal.returns-in-At-clause-goes
returns-in-At-clause-goes c =
    λ source base values is m. goes_nowhere source base _ c.args.begin c.args.from c.args.index c.args.place values _ c.in-At.is m

pub returns-in-In-clause-room : goal.returns-in-In-clause-room
returns-in-In-clause-room c =
    λ source more is most h. c.part_element.ensures.room source more is most
    (subst (λ b. BeginsRoomy source.project more (begin_at b 0)) c.in-In.is h)

pub returns-in-At-clause-room : goal.returns-in-At-clause-room
returns-in-At-clause-room c =
    λ source more is most h. (tt, record { most = 0; is_most = refl; roomy = tt; holds = tt })
