use Rattle.std.proofs.Common.{refl, Some, None}
use Rattle.std.proofs.lemmas.Slice.Eq.{strip_prefix_is}
use Rattle.std.proofs.lemmas.Bool.Decides.{Decides-eqb}
use Rattle.pv_recheck.proofs.form.begins_with.Goals as goal

pub returns-in-Some : goal.returns-in-Some
returns-in-Some c = (
  (λ h. (
    c.in-Some.field-0.now,
    strip_prefix_is Decides-eqb c.args.text.now c.args.prefix.now
        (Some c.in-Some.field-0) c.in-Some.ensures.cases,
  )),
  (λ h. refl),
)

pub returns-in-None : goal.returns-in-None
returns-in-None c = (
  (λ h. absurd cc),
  (λ k. absurd (strip_prefix_is Decides-eqb c.args.text.now c.args.prefix.now None
      c.in-None.ensures.cases k.0 k.1)),
)
