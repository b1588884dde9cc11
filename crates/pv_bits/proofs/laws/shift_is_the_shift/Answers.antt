use Rattle.pv_bits.proofs.WordLaws.{left_words, right_words}
use Rattle.pv_bits.proofs.laws.shift_is_the_shift.Goals as goal

pub returns : goal.returns
returns c = record {
  left = λ inputs nodes a v n net p. left_words n net p;
  right = λ inputs nodes a v n net p. right_words n net p;
}
