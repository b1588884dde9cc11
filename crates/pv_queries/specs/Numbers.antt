-- Bits as numbers of their types, the least bit of each first.
use Rattle.std.specs.Prelude.{ℤ, pos, Bool, List, [], ◌∷◌, map, take, drop}
use Rattle.pv_word.specs.declared.types.Ty.{Ty}
use Rattle.pv_word.specs.Types.{width_of, wrap_of}
use Rattle.pv_bits.specs.Words.{number_of}
use Rattle.pv_circuit.specs.Steps.{Form}
use Rattle.pv_frames.specs.Runs.{BitRun}
use Rattle.pv_queries.specs.declared.numbers.NumberRun.{NumberRun}

-- the value of the type with these bits: the number that they have, wrapped into the type's range
abbrev pub value_of_bits : Ty → List Bool → ℤ
value_of_bits ty bits = wrap_of ty (pos (number_of bits))

-- the values of these types, whose bits stand one after another
abbrev pub values_of_bits : List Ty → List Bool → List ℤ
values_of_bits [] bits = []
values_of_bits (ty ∷ tys) bits = value_of_bits ty (take (width_of ty) bits) ∷ values_of_bits tys (drop (width_of ty) bits)

-- states and inputs of these types
abbrev pub form_with : List Ty → List Ty → Form
form_with state input = record { state = state; input = input }

-- a run of bits as numbers
abbrev pub numbers_of : Form → BitRun → NumberRun
numbers_of form run = record {
  state = values_of_bits form.state run.state;
  inputs = map (values_of_bits form.input) run.inputs;
}
