use Rattle.pv_pattern.specs.Sources.{machine_of}
use Rattle.pv_lift.proofs.Deciding.{says}
use Rattle.pv_lift.proofs.laws.decisions_are_of_the_source.Goals as goal

pub returns : goal.returns
returns c = λ source p m circuit start first last limits proofs end law same decided.
    says source p m law same (c.no_run_fails_early.ensures (machine_of source p)) (c.no_base_is_satisfied.ensures source p).0
    circuit start first last limits proofs end decided
