use Rattle.std.proofs.Common.{length, ◌∙◌, ap}
use Rattle.pv_circuit.specs.Circuits.{Circuit}
use Rattle.pv_rows_queries.proofs.Widths.{words_input, words_state}
use Rattle.pv_rows_queries.proofs.numbers.tell_read.Goals as goal

pub read-requires-clause-state : goal.read-requires-clause-state
read-requires-clause-state c = ap (λ (made : Circuit). length made.state_in) c.requires.built.circuit ∙ words_state

pub read-requires-clause-input : goal.read-requires-clause-input
read-requires-clause-input c = ap (λ (made : Circuit). length made.input) c.requires.built.circuit ∙ words_input
