use Rattle.std.proofs.Common.{sym, ap, subst, ◌∙◌}
use Rattle.std.specs.Prelude.{option_map}
use Rattle.std.proofs.lemmas.Bool.{false≢true}
use Rattle.pv_laws_room.specs.Bodies.{FitsLiteral}
use Rattle.pv_program.proofs.action.given.Goals as goal

pub returns-in_err-v-in-Some-clause-fits : goal.returns-in_err-v-in-Some-clause-fits
returns-in_err-v-in-Some-clause-fits c = λ h. absurd (false≢true (c.in_err-v-in-Some.ensures.fits
    (subst FitsLiteral (sym c.literal.ensures ∙ ap (option_map (λ l. l.now)) c.in-Some.is) h)))
