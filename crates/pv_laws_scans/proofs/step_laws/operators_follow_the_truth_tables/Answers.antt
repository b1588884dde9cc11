use Rattle.std.proofs.Common.{refl}
use Rattle.pv_word.specs.Wrap.{wrap_at}
use Rattle.pv_word.specs.Bits.{pattern_at}
use Rattle.pv_laws_scans.proofs.step_laws.operators_follow_the_truth_tables.Goals as goal

pub returns-clause-not_false : goal.returns-clause-not_false
unfolding wrap_at pattern_at
returns-clause-not_false c = refl

pub returns-clause-not_true : goal.returns-clause-not_true
unfolding wrap_at pattern_at
returns-clause-not_true c = refl

pub returns-clause-and_false_false : goal.returns-clause-and_false_false
unfolding wrap_at pattern_at
returns-clause-and_false_false c = λ place. refl

pub returns-clause-and_false_true : goal.returns-clause-and_false_true
unfolding wrap_at pattern_at
returns-clause-and_false_true c = λ place. refl

pub returns-clause-and_true_false : goal.returns-clause-and_true_false
unfolding wrap_at pattern_at
returns-clause-and_true_false c = λ place. refl

pub returns-clause-and_true_true : goal.returns-clause-and_true_true
unfolding wrap_at pattern_at
returns-clause-and_true_true c = λ place. refl

pub returns-clause-or_false_false : goal.returns-clause-or_false_false
unfolding wrap_at pattern_at
returns-clause-or_false_false c = λ place. refl

pub returns-clause-or_false_true : goal.returns-clause-or_false_true
unfolding wrap_at pattern_at
returns-clause-or_false_true c = λ place. refl

pub returns-clause-or_true_false : goal.returns-clause-or_true_false
unfolding wrap_at pattern_at
returns-clause-or_true_false c = λ place. refl

pub returns-clause-or_true_true : goal.returns-clause-or_true_true
unfolding wrap_at pattern_at
returns-clause-or_true_true c = λ place. refl

pub returns-clause-xor_false_false : goal.returns-clause-xor_false_false
unfolding wrap_at pattern_at
returns-clause-xor_false_false c = λ place. refl

pub returns-clause-xor_false_true : goal.returns-clause-xor_false_true
unfolding wrap_at pattern_at
returns-clause-xor_false_true c = λ place. refl

pub returns-clause-xor_true_false : goal.returns-clause-xor_true_false
unfolding wrap_at pattern_at
returns-clause-xor_true_false c = λ place. refl

pub returns-clause-xor_true_true : goal.returns-clause-xor_true_true
unfolding wrap_at pattern_at
returns-clause-xor_true_true c = λ place. refl
