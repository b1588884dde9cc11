use Rattle.pv_resolve.proofs.ForCallers.{failed}
use Rattle.pv_program.proofs.value.add_value.Goals as goal

pub returns : goal.returns
returns c = record {
  grows = c.in_ok-n.ensures.grows;
  means = λ source is. record {
    expression = c.in_ok-value.value;
    at = c.in_ok-n.ensures.at;
    fits = c.in_ok-n.ensures.fits;
    means = c.in_ok-value.ensures.evaluates source is;
  };
  calls = c.in_ok-n.ensures.calls;
  room = λ source is h fits. tt;
}

pub returns-in_err-value-clause-room : goal.returns-in_err-value-clause-room
returns-in_err-value-clause-room c =
    λ source is h fits. failed _ _ c.from_residual.ensures.1 (c.in_err-value.ensures.room source is h fits)

pub returns-in_err-n-clause-room : goal.returns-in_err-n-clause-room
returns-in_err-n-clause-room c =
    λ source is h fits. failed _ _ c.from_residual-in_err-n.ensures.1 c.in_err-n.ensures.memory
