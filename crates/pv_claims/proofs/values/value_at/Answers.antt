use Rattle.std.proofs.Common.{◌∙◌, ◌++◌, ap}
use Rattle.std.specs.Prelude.{codes}
use Rattle.pv_claims.proofs.ValueLaws.{no-value}
use Rattle.pv_claims.proofs.values.value_at.Goals as goal

pub returns-in_err-v-clause-none : goal.returns-in_err-v-clause-none
returns-in_err-v-clause-none c =
    let cut = c.in_ok-rest.ensures.found ∙ ap (λ t. codes " " ++ t) c.cut_word.ensures.cut in
    rw c.from_residual-in_err-v.ensures
    (no-value c.args.text.now c.cut_word.result.0.now c.cut_word.result.1.now c.cut_word.ensures.word c.cut_word.ensures.ends cut c.in_err-v.ensures.none)
