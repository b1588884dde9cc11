use Rattle.std.proofs.Common.{length, refl}
use Rattle.pv_machine.proofs.Induction.{none_fails}
use Rattle.pv_machine.proofs.laws.no_run_fails.Goals as goal

pub returns : goal.returns
returns c = λ m never params inputs are all. none_fails m (m.start params) inputs all
    (λ others inside f. never (length others) (record {
      params = params;
      inputs = others;
      are_params = are;
      are_inputs = inside;
      count = refl;
      fails = f;
    }))
