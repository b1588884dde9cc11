use Rattle.pv_resolve.proofs.context.Context.field.Goals as goal

pub returns-clause-value : goal.returns-clause-value
returns-clause-value c = λ source is. c.field_behind.ensures.value source is tt

pub returns-clause-room : goal.returns-clause-room
returns-clause-room c = λ source more is keeps h. c.field_behind.ensures.room source more is tt keeps h
