use Rattle.std.proofs.Common.{refl, sym, ap, ◌∙◌, option_map}
use Rattle.serde_json.specs.View.{view}
use Rattle.pv_case.proofs.LeastStrays.{none_stray, least_found}
use Rattle.pv_case.proofs.strays.known.Goals as goal

pub returns-in-None : goal.returns-in-None
returns-in-None c = none_stray (view c.args.d.now) (sym c.least_stray.ensures ∙ ap (option_map (λ t. t.now)) c.in-None.is)

pub returns-in-Some : goal.returns-in-Some
returns-in-Some c =
    (refl, least_found (view c.args.d.now) c.in-Some.field.now (sym c.least_stray.ensures ∙ ap (option_map (λ t. t.now)) c.in-Some.is))
