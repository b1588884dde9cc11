use Rattle.std.proofs.Common.{false, sym, subst}
use Rattle.std.proofs.lemmas.Bool.{false≢true}
use Rattle.pv_resolve.specs.Contexts.{block_in}
use Rattle.pv_resolve.specs.Rooms.{BeginsRoomy}
use Rattle.pv_program.proofs.Slots.{called_roomy}
use Rattle.pv_program.proofs.instance.instance_of.Goals as goal

pub returns-in_err-begin-in-None-clause-room : goal.returns-in_err-begin-in-None-clause-room
returns-in_err-begin-in-None-clause-room c = λ source is h. absurd (false≢true (c.in_err-begin-in-None.ensures.room source is h))

pub returns-in_ok-begin-in-None-clause-room : goal.returns-in_ok-begin-in-None-clause-room
returns-in_ok-begin-in-None-clause-room c = λ source is h.
    c.first_of.ensures.room source.project (subst (BeginsRoomy source.project 0) (sym (c.in_ok-begin-in-None.ensures.begins source 0 is))
    (called_roomy source (block_in c.args.context.now) h c.args.call.now.name c.args.call.now.hash c.args.call.now.place))

pub returns-in_err-begin-in-Some-clause-room : goal.returns-in_err-begin-in-Some-clause-room
returns-in_err-begin-in-Some-clause-room c = λ source is h. absurd (false≢true (c.in_err-begin-in-Some.ensures.room source is h))

pub returns-in_ok-begin-in-Some-clause-room : goal.returns-in_ok-begin-in-Some-clause-room
returns-in_ok-begin-in-Some-clause-room c = λ source is h.
    c.first_of-in-Some.ensures.room source.project (subst (BeginsRoomy source.project 0) (sym (c.in_ok-begin-in-Some.ensures.begins source 0 is))
    (called_roomy source (block_in c.args.context.now) h c.in-Some.name false c.args.call.now.place))
