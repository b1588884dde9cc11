use Rattle.std.proofs.Common.{Option, sym, ap, subst, ◌∙◌}
use Rattle.std.specs.Prelude.{option_map, pos, unsigned_abs, unwrap_or}
use Rattle.std.proofs.lemmas.Result.{IfOk-weaker}
use Rattle.pv_types.specs.declared.declaration.Literal.{Literal}
use Rattle.pv_program.specs.Ready.{FitsCount}
use Rattle.pv_program.proofs.action.places.Goals as goal

pub returns-in-Some : goal.returns-in-Some
returns-in-Some c = record {
  value = IfOk-weaker c.count_of.result _ _
      (λ n e. e ∙ ap (λ (o : Option Literal). unsigned_abs (unwrap_or (option_map (λ l. l.value) o) (pos 0))) (sym (sym c.literal.ensures ∙ ap (option_map (λ l. l.now)) c.in-Some.is)))
      c.count_of.ensures.value;
  fits = λ h. c.count_of.ensures.fits (subst FitsCount (sym c.literal.ensures ∙ ap (option_map (λ l. l.now)) c.in-Some.is) h);
}
