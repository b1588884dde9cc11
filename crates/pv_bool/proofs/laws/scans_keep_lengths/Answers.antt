use Rattle.pv_bool.proofs.Lengths.{length-start, length-begin, length-scan_end, length-next_state, length-state_of, length-input_of}
use Rattle.pv_bool.proofs.laws.scans_keep_lengths.Goals as goal

pub returns-clause-scans : goal.returns-clause-scans
returns-clause-scans c = λ program. record {
  starts = length-start program.bits;
  begins = length-begin program.bits;
  ends = length-scan_end program;
  goes_on = length-next_state program;
}

pub returns-clause-parts : goal.returns-clause-parts
returns-clause-parts c = λ bits frame. record { state = length-state_of bits frame; input = length-input_of bits frame }
