use Rattle.std.proofs.Common.{None, sym, subst, ap, ◌∙◌}
use Rattle.std.specs.Prelude.{pos}
use Rattle.std.proofs.lemmas.Result.{IfOk-weaker}
use Rattle.pv_mean.specs.Values.{field_begins}
use Rattle.pv_resolve.specs.Begins.{begin_at}
use Rattle.pv_resolve.specs.Rooms.{BeginsRoomy}
use Rattle.pv_resolve.proofs.ForCallers.{begins_field}
use Rattle.pv_variables.specs.Begun.{origin_of}
use Rattle.pv_variables.specs.Origins.{field_placed}
use Rattle.pv_variables.proofs.Placing.{fields_are_placed}
use Rattle.pv_variables.proofs.Finding.{told, begin-is}
use Rattle.pv_variables.proofs.Roomy.{ok_and}
use Rattle.pv_variables.proofs.begun.field_placed.Goals as goal

pub returns-clause-value : goal.returns-clause-value
returns-clause-value c = λ source is.
    IfOk-weaker c.field.result _ _
    (λ b e. told b (field_placed source.project (origin_of c.args.begin) c.args.name.now.key)
    (λ first. e None (pos 0) first
    ∙ ap (λ x. field_begins source x c.args.name.now.key) (begin-is c.args.begin first)
    ∙ sym (fields_are_placed source first (origin_of c.args.begin) c.args.name.now.key)))
    (c.field.ensures.value source is)

pub returns-clause-room : goal.returns-clause-room
returns-clause-room c = λ source more is keeps h.
    ok_and c.field.result _ (c.field.ensures.room source more is keeps h)
    (IfOk-weaker c.field.result _ _
    (λ b e. subst (BeginsRoomy source.project more) (sym (e None (pos 0) 0))
    (begins_field source keeps more (begin_at c.args.begin 0) c.args.name.now.key h))
    (c.field.ensures.value source is))
