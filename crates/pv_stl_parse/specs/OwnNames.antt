-- The names of STL's grammar behind those that SCL shares, by their numbers.
-- Written by tools/grammar_files.py from crates/pv_stl_parse/grammar/stl.txt.
use Rattle.std.specs.Prelude.{ℕ}

abbrev pub new_code : ℕ
new_code = 78

abbrev pub instructions : ℕ
instructions = 79

abbrev pub instruction : ℕ
instruction = 80

abbrev pub no_label : ℕ
no_label = 81

abbrev pub labelled : ℕ
labelled = 82

abbrev pub label : ℕ
label = 83

abbrev pub after_bit_op : ℕ
after_bit_op = 84

abbrev pub after_or_op : ℕ
after_or_op = 85

abbrev pub after_value_op : ℕ
after_value_op = 86

abbrev pub after_free_op : ℕ
after_free_op = 87

abbrev pub operation : ℕ
operation = 88

abbrev pub firm_operation : ℕ
firm_operation = 89

abbrev pub bit_operand : ℕ
bit_operand = 90

abbrev pub or_operand : ℕ
or_operand = 91

abbrev pub opening : ℕ
opening = 92

abbrev pub maybe_value : ℕ
maybe_value = 93

abbrev pub value : ℕ
value = 94

abbrev pub operand : ℕ
operand = 95

abbrev pub hashed_word : ℕ
hashed_word = 96

abbrev pub number_value : ℕ
number_value = 97

abbrev pub called_name : ℕ
called_name = 98

abbrev pub plain_called : ℕ
plain_called = 99

abbrev pub hashed_name : ℕ
hashed_name = 100

abbrev pub hashed_prefix : ℕ
hashed_prefix = 101

abbrev pub base : ℕ
base = 102

abbrev pub base_name : ℕ
base_name = 103

abbrev pub call_arguments : ℕ
call_arguments = 104

abbrev pub bare_call : ℕ
bare_call = 105
