use Rattle.pv_variables.specs.Begun.{origin_of}
use Rattle.pv_variables.proofs.begun.element_placed.Goals as goal

pub returns-clause-value : goal.returns-clause-value
returns-clause-value c = λ source is.
    c.element_of.ensures.value source.project (origin_of c.args.begin) (c.in_ok-found.ensures.value source is)

pub returns-in_err-found-clause-room : goal.returns-in_err-found-clause-room
returns-in_err-found-clause-room c = λ source more is h. absurd (c.in_err-found.ensures.room source more is h)

pub returns-clause-room : goal.returns-clause-room
returns-clause-room c = λ source more is h. c.element_of.ensures.room source.project more (c.in_ok-found.ensures.room source more is h)
