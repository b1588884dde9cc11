use Rattle.std.proofs.Common.{◌≡◌, ℕ, Option, Some, None, refl}
use Rattle.std.proofs.lemmas.Option.{none-some}
use Rattle.pv_resolve.proofs.ForCallers.{failed}
use Rattle.pv_program.proofs.Leading.{led_more}
use Rattle.pv_program.proofs.Making.{call-idle}
use Rattle.pv_program.proofs.call.add_idle.Goals as goal

none-runs : {X : Type 0} (n : ℕ) → (let o : Option ℕ = None in o) ≡ Some n → X
none-runs n e = absurd (none-some n e)

pub returns : goal.returns
returns c = record {
  grows = c.in_ok-made.ensures.grows;
  means = λ source block at none. call-idle c.in_ok-made.made _ at c.in_ok-made.ensures.at refl none;
  memory = tt;
  led = λ source before. led_more source _ _ _ c.in_ok-made.ensures.pushed (λ n none. none-runs n none) before;
}

pub returns-in_err-made-clause-memory : goal.returns-in_err-made-clause-memory
returns-in_err-made-clause-memory c = failed _ _ c.from_residual.ensures.1 c.in_err-made.ensures.memory
