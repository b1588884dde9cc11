use Rattle.std.proofs.Common.{◌∙◌, sym}
use Rattle.pv_bool_form.proofs.Places.{steps_none}
use Rattle.pv_bool_form.proofs.form.is_none.Goals as goal

pub returns : goal.returns
returns c =
    let seen = steps_none c.args.steps.now in
    (λ h. seen.0 (sym c.is_empty.ensures ∙ h), λ h. c.is_empty.ensures ∙ seen.1 h)
