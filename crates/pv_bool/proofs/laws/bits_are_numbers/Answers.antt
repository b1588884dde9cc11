use Rattle.std.proofs.Common.{length, refl, ◌∙◌}
use Rattle.std.proofs.lemmas.List.{length-map}
use Rattle.pv_bool.specs.Machine.{bit_of}
use Rattle.pv_bool.proofs.Numbers.{length-within, numbers_within, bits_of-numbers_of, numbers_of-bits_of}
use Rattle.pv_bool.proofs.laws.bits_are_numbers.Goals as goal

pub returns-clause-numbers : goal.returns-clause-numbers
returns-clause-numbers c = λ bits. record { within = numbers_within (length bits) bits refl; back = bits_of-numbers_of bits }

pub returns-clause-bits : goal.returns-clause-bits
returns-clause-bits c = λ n values h. record {
  count = length-map values bit_of ∙ length-within n values h;
  back = numbers_of-bits_of n values h;
}
