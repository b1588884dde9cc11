use Rattle.pv_bool.proofs.Lengths.{state_of-begin, input_of-begin}
use Rattle.pv_bool.proofs.laws.scans_begin_with_state_and_input.Goals as goal

pub returns : goal.returns
returns c = λ bits state input s i. record { has_state = state_of-begin bits state input s; has_input = input_of-begin bits state input i }
