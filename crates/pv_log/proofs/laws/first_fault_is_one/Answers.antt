use Rattle.pv_log.specs.Newness.{FollowsNew, new_fault_of}
use Rattle.pv_log.proofs.FollowLaws.{follows-not-fails, fails-once}
use Rattle.pv_log.proofs.LineByLine.{all-not-first, first-once}
use Rattle.pv_log.proofs.NewLaws.{new-decides}
use Rattle.pv_log.proofs.laws.first_fault_is_one.Goals as goal

pub returns-clause-one : goal.returns-clause-one
returns-clause-one c = fails-once

pub returns-clause-none : goal.returns-clause-none
returns-clause-none c = follows-not-fails

pub returns-clause-one_new : goal.returns-clause-one_new
returns-clause-one_new c = λ variables. first-once (new_fault_of variables)

pub returns-clause-none_new : goal.returns-clause-none_new
returns-clause-none_new c = λ variables. all-not-first (FollowsNew variables) (new_fault_of variables) (new-decides variables)
