use Rattle.std.proofs.Common.{sym, ◌∙◌}
use Rattle.pv_variables.proofs.begun.element_among.Goals as goal

pub returns-then-lies_between-clause-room : goal.returns-then-lies_between-clause-room
returns-then-lies_between-clause-room c = λ project more h.
    c.element_in.ensures.room project more h (sym c.lies_between.ensures ∙ c.if-lies_between.true)
