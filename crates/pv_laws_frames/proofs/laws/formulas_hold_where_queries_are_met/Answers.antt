use Rattle.pv_laws_frames.proofs.MachineRuns.{base-stands, step-stands, base-satisfied, step-satisfied}
use Rattle.pv_laws_frames.proofs.laws.formulas_hold_where_queries_are_met.Goals as goal

pub returns-clause-base : goal.returns-clause-base
returns-clause-base c = λ m form start circuit k is steps asks.
    (λ some. (base-stands m form start circuit k some.values is steps asks some.holds).meets, base-satisfied m form start circuit k is steps)

pub returns-clause-step : goal.returns-clause-step
returns-clause-step c = λ m form start circuit k is steps asks.
    (λ some. (step-stands m form start circuit k some.values is steps asks some.holds).meets, step-satisfied m form start circuit k is steps)
