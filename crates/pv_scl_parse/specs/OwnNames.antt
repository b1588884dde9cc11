-- The names of SCL's grammar behind those that STL shares, by their numbers.
-- Written by tools/grammar_files.py from crates/pv_scl_parse/grammar/scl.txt.
use Rattle.std.specs.Prelude.{ℕ}

abbrev pub list : ℕ
list = 78

abbrev pub new_list : ℕ
new_list = 79

abbrev pub items : ℕ
items = 80

abbrev pub item : ℕ
item = 81

abbrev pub firm_item : ℕ
firm_item = 82

abbrev pub word_item : ℕ
word_item = 83

abbrev pub other_statement : ℕ
other_statement = 84

abbrev pub first_arm : ℕ
first_arm = 85

abbrev pub elsifs : ℕ
elsifs = 86

abbrev pub elsif : ℕ
elsif = 87

abbrev pub maybe_else : ℕ
maybe_else = 88

abbrev pub maybe_by : ℕ
maybe_by = 89

abbrev pub branches : ℕ
branches = 90

abbrev pub new_branches : ℕ
new_branches = 91

abbrev pub label : ℕ
label = 92

abbrev pub label_rest : ℕ
label_rest = 93

abbrev pub first_range : ℕ
first_range = 94

abbrev pub more_choices : ℕ
more_choices = 95

abbrev pub next_choice : ℕ
next_choice = 96

abbrev pub next_range : ℕ
next_range = 97

abbrev pub choice : ℕ
choice = 98

abbrev pub literal_choice : ℕ
literal_choice = 99

abbrev pub word_choice : ℕ
word_choice = 100

abbrev pub case_items : ℕ
case_items = 101

abbrev pub case_item : ℕ
case_item = 102

abbrev pub after_case_word : ℕ
after_case_word = 103

abbrev pub case_else : ℕ
case_else = 104

abbrev pub maybe_colon : ℕ
maybe_colon = 105

abbrev pub after_word : ℕ
after_word = 106

abbrev pub after_dot : ℕ
after_dot = 107

abbrev pub after_prefix : ℕ
after_prefix = 108

abbrev pub after_second : ℕ
after_second = 109

abbrev pub after_hash : ℕ
after_hash = 110

abbrev pub after_hash_prefix : ℕ
after_hash_prefix = 111

abbrev pub assignment : ℕ
assignment = 112

abbrev pub maybe_index : ℕ
maybe_index = 113

abbrev pub first_index : ℕ
first_index = 114

abbrev pub plain_second : ℕ
plain_second = 115

abbrev pub quoted_second : ℕ
quoted_second = 116

abbrev pub numbered_second : ℕ
numbered_second = 117

abbrev pub called : ℕ
called = 118

abbrev pub second_name : ℕ
second_name = 119

abbrev pub second_number : ℕ
second_number = 120

abbrev pub call_arguments : ℕ
call_arguments = 121

abbrev pub arguments : ℕ
arguments = 122

abbrev pub after_argument_word : ℕ
after_argument_word = 123

abbrev pub value : ℕ
value = 124

abbrev pub value_after_word : ℕ
value_after_word = 125

abbrev pub value_after_dot : ℕ
value_after_dot = 126

abbrev pub value_after_prefix : ℕ
value_after_prefix = 127

abbrev pub value_after_second : ℕ
value_after_second = 128

abbrev pub value_after_hash : ℕ
value_after_hash = 129

abbrev pub value_after_hash_prefix : ℕ
value_after_hash_prefix = 130

abbrev pub first_read : ℕ
first_read = 131

abbrev pub second_read : ℕ
second_read = 132

abbrev pub chain : ℕ
chain = 133
