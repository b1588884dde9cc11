-- The number and the body of each alternative of STL's grammar behind those that SCL shares.
-- Written by tools/grammar_files.py from crates/pv_stl_parse/grammar/stl.txt.
use Rattle.std.specs.Prelude.{ℕ, List, [], ◌∷◌}
use Rattle.pv_ll.specs.declared.table.Symbol.{Symbol}
use Rattle.pv_ll.specs.declared.table.Symbol.TheVariants.{Token, Name}

-- body = begin_word new_code instructions
abbrev pub body_1 : ℕ
body_1 = 143

abbrev pub body_1_body : List Symbol
body_1_body = Token 62 ∷ Name 78 ∷ Name 79 ∷ []

-- data_body = data_head data_values
abbrev pub data_body_1 : ℕ
data_body_1 = 144

abbrev pub data_body_1_body : List Symbol
data_body_1_body = Name 64 ∷ Name 65 ∷ []

-- new_code =
abbrev pub new_code_1 : ℕ
new_code_1 = 145

abbrev pub new_code_1_body : List Symbol
new_code_1_body = []

-- instructions = instruction instructions
abbrev pub instructions_1 : ℕ
instructions_1 = 146

abbrev pub instructions_1_body : List Symbol
instructions_1_body = Name 80 ∷ Name 79 ∷ []

-- instructions =
abbrev pub instructions_2 : ℕ
instructions_2 = 147

abbrev pub instructions_2_body : List Symbol
instructions_2_body = []

-- instruction = network_word
abbrev pub instruction_1 : ℕ
instruction_1 = 148

abbrev pub instruction_1_body : List Symbol
instruction_1_body = Token 91 ∷ []

-- instruction = no_label labelled semicolon
abbrev pub instruction_2 : ℕ
instruction_2 = 149

abbrev pub instruction_2_body : List Symbol
instruction_2_body = Name 81 ∷ Name 82 ∷ Token 30 ∷ []

-- no_label =
abbrev pub no_label_1 : ℕ
no_label_1 = 150

abbrev pub no_label_1_body : List Symbol
no_label_1_body = []

-- labelled = label_word label operation
abbrev pub labelled_1 : ℕ
labelled_1 = 151

abbrev pub labelled_1_body : List Symbol
labelled_1_body = Name 1 ∷ Name 83 ∷ Name 88 ∷ []

-- labelled = bit_op after_bit_op
abbrev pub labelled_2 : ℕ
labelled_2 = 152

abbrev pub labelled_2_body : List Symbol
labelled_2_body = Token 17 ∷ Name 84 ∷ []

-- labelled = or_op after_or_op
abbrev pub labelled_3 : ℕ
labelled_3 = 153

abbrev pub labelled_3_body : List Symbol
labelled_3_body = Token 18 ∷ Name 85 ∷ []

-- labelled = value_op after_value_op
abbrev pub labelled_4 : ℕ
labelled_4 = 154

abbrev pub labelled_4_body : List Symbol
labelled_4_body = Token 19 ∷ Name 86 ∷ []

-- labelled = free_op after_free_op
abbrev pub labelled_5 : ℕ
labelled_5 = 155

abbrev pub labelled_5_body : List Symbol
labelled_5_body = Token 20 ∷ Name 87 ∷ []

-- labelled = firm_operation
abbrev pub labelled_6 : ℕ
labelled_6 = 156

abbrev pub labelled_6_body : List Symbol
labelled_6_body = Name 89 ∷ []

-- label = colon
abbrev pub label_1 : ℕ
label_1 = 157

abbrev pub label_1_body : List Symbol
label_1_body = Token 29 ∷ []

-- after_bit_op = label operation
abbrev pub after_bit_op_1 : ℕ
after_bit_op_1 = 158

abbrev pub after_bit_op_1_body : List Symbol
after_bit_op_1_body = Name 83 ∷ Name 88 ∷ []

-- after_bit_op = bit_operand
abbrev pub after_bit_op_2 : ℕ
after_bit_op_2 = 159

abbrev pub after_bit_op_2_body : List Symbol
after_bit_op_2_body = Name 90 ∷ []

-- after_or_op = label operation
abbrev pub after_or_op_1 : ℕ
after_or_op_1 = 160

abbrev pub after_or_op_1_body : List Symbol
after_or_op_1_body = Name 83 ∷ Name 88 ∷ []

-- after_or_op = or_operand
abbrev pub after_or_op_2 : ℕ
after_or_op_2 = 161

abbrev pub after_or_op_2_body : List Symbol
after_or_op_2_body = Name 91 ∷ []

-- after_value_op = label operation
abbrev pub after_value_op_1 : ℕ
after_value_op_1 = 162

abbrev pub after_value_op_1_body : List Symbol
after_value_op_1_body = Name 83 ∷ Name 88 ∷ []

-- after_value_op = value
abbrev pub after_value_op_2 : ℕ
after_value_op_2 = 163

abbrev pub after_value_op_2_body : List Symbol
after_value_op_2_body = Name 94 ∷ []

-- after_free_op = label operation
abbrev pub after_free_op_1 : ℕ
after_free_op_1 = 164

abbrev pub after_free_op_1_body : List Symbol
after_free_op_1_body = Name 83 ∷ Name 88 ∷ []

-- after_free_op = maybe_value
abbrev pub after_free_op_2 : ℕ
after_free_op_2 = 165

abbrev pub after_free_op_2_body : List Symbol
after_free_op_2_body = Name 93 ∷ []

-- operation = bit_op bit_operand
abbrev pub operation_1 : ℕ
operation_1 = 166

abbrev pub operation_1_body : List Symbol
operation_1_body = Token 17 ∷ Name 90 ∷ []

-- operation = or_op or_operand
abbrev pub operation_2 : ℕ
operation_2 = 167

abbrev pub operation_2_body : List Symbol
operation_2_body = Token 18 ∷ Name 91 ∷ []

-- operation = value_op value
abbrev pub operation_3 : ℕ
operation_3 = 168

abbrev pub operation_3_body : List Symbol
operation_3_body = Token 19 ∷ Name 94 ∷ []

-- operation = free_op maybe_value
abbrev pub operation_4 : ℕ
operation_4 = 169

abbrev pub operation_4_body : List Symbol
operation_4_body = Token 20 ∷ Name 93 ∷ []

-- operation = firm_operation
abbrev pub operation_5 : ℕ
operation_5 = 170

abbrev pub operation_5_body : List Symbol
operation_5_body = Name 89 ∷ []

-- firm_operation = equals value
abbrev pub firm_operation_1 : ℕ
firm_operation_1 = 171

abbrev pub firm_operation_1_body : List Symbol
firm_operation_1_body = Token 39 ∷ Name 94 ∷ []

-- firm_operation = stl_sign maybe_value
abbrev pub firm_operation_2 : ℕ
firm_operation_2 = 172

abbrev pub firm_operation_2_body : List Symbol
firm_operation_2_body = Token 21 ∷ Name 93 ∷ []

-- firm_operation = paren_close maybe_value
abbrev pub firm_operation_3 : ℕ
firm_operation_3 = 173

abbrev pub firm_operation_3_body : List Symbol
firm_operation_3_body = Token 26 ∷ Name 93 ∷ []

-- firm_operation = not_word maybe_value
abbrev pub firm_operation_4 : ℕ
firm_operation_4 = 174

abbrev pub firm_operation_4_body : List Symbol
firm_operation_4_body = Token 44 ∷ Name 93 ∷ []

-- firm_operation = mod_word maybe_value
abbrev pub firm_operation_5 : ℕ
firm_operation_5 = 175

abbrev pub firm_operation_5_body : List Symbol
firm_operation_5_body = Token 37 ∷ Name 93 ∷ []

-- firm_operation = call_word called_name base call_arguments
abbrev pub firm_operation_6 : ℕ
firm_operation_6 = 176

abbrev pub firm_operation_6_body : List Symbol
firm_operation_6_body = Token 92 ∷ Name 98 ∷ Name 102 ∷ Name 104 ∷ []

-- firm_operation = uc_word plain_called bare_call
abbrev pub firm_operation_7 : ℕ
firm_operation_7 = 177

abbrev pub firm_operation_7_body : List Symbol
firm_operation_7_body = Token 93 ∷ Name 99 ∷ Name 105 ∷ []

-- bit_operand = opening
abbrev pub bit_operand_1 : ℕ
bit_operand_1 = 178

abbrev pub bit_operand_1_body : List Symbol
bit_operand_1_body = Name 92 ∷ []

-- bit_operand = value
abbrev pub bit_operand_2 : ℕ
bit_operand_2 = 179

abbrev pub bit_operand_2_body : List Symbol
bit_operand_2_body = Name 94 ∷ []

-- or_operand = opening
abbrev pub or_operand_1 : ℕ
or_operand_1 = 180

abbrev pub or_operand_1_body : List Symbol
or_operand_1_body = Name 92 ∷ []

-- or_operand = maybe_value
abbrev pub or_operand_2 : ℕ
or_operand_2 = 181

abbrev pub or_operand_2_body : List Symbol
or_operand_2_body = Name 93 ∷ []

-- opening = paren_open
abbrev pub opening_1 : ℕ
opening_1 = 182

abbrev pub opening_1_body : List Symbol
opening_1_body = Token 25 ∷ []

-- maybe_value = value
abbrev pub maybe_value_1 : ℕ
maybe_value_1 = 183

abbrev pub maybe_value_1_body : List Symbol
maybe_value_1_body = Name 94 ∷ []

-- maybe_value =
abbrev pub maybe_value_2 : ℕ
maybe_value_2 = 184

abbrev pub maybe_value_2_body : List Symbol
maybe_value_2_body = []

-- value = operand
abbrev pub value_1 : ℕ
value_1 = 185

abbrev pub value_1_body : List Symbol
value_1_body = Name 95 ∷ []

-- value = number_value
abbrev pub value_2 : ℕ
value_2 = 186

abbrev pub value_2_body : List Symbol
value_2_body = Name 97 ∷ []

-- operand = word steps
abbrev pub operand_1 : ℕ
operand_1 = 187

abbrev pub operand_1_body : List Symbol
operand_1_body = Name 0 ∷ Name 31 ∷ []

-- operand = hash hashed_word steps
abbrev pub operand_2 : ℕ
operand_2 = 188

abbrev pub operand_2_body : List Symbol
operand_2_body = Token 33 ∷ Name 96 ∷ Name 31 ∷ []

-- operand = firm_name steps
abbrev pub operand_3 : ℕ
operand_3 = 189

abbrev pub operand_3_body : List Symbol
operand_3_body = Name 2 ∷ Name 31 ∷ []

-- operand = area steps
abbrev pub operand_4 : ℕ
operand_4 = 190

abbrev pub operand_4_body : List Symbol
operand_4_body = Name 33 ∷ Name 31 ∷ []

-- hashed_word = free_word plain_hash
abbrev pub hashed_word_1 : ℕ
hashed_word_1 = 191

abbrev pub hashed_word_1_body : List Symbol
hashed_word_1_body = Token 6 ∷ Name 69 ∷ []

-- hashed_word = free_prefix plain_hash
abbrev pub hashed_word_2 : ℕ
hashed_word_2 = 192

abbrev pub hashed_word_2_body : List Symbol
hashed_word_2_body = Token 7 ∷ Name 69 ∷ []

-- number_value = number
abbrev pub number_value_1 : ℕ
number_value_1 = 193

abbrev pub number_value_1_body : List Symbol
number_value_1_body = Token 2 ∷ []

-- number_value = minus number
abbrev pub number_value_2 : ℕ
number_value_2 = 194

abbrev pub number_value_2_body : List Symbol
number_value_2_body = Token 35 ∷ Token 2 ∷ []

-- number_value = truth
abbrev pub number_value_3 : ℕ
number_value_3 = 195

abbrev pub number_value_3_body : List Symbol
number_value_3_body = Token 45 ∷ []

-- called_name = plain_called
abbrev pub called_name_1 : ℕ
called_name_1 = 196

abbrev pub called_name_1_body : List Symbol
called_name_1_body = Name 99 ∷ []

-- called_name = hash hashed_name
abbrev pub called_name_2 : ℕ
called_name_2 = 197

abbrev pub called_name_2_body : List Symbol
called_name_2_body = Token 33 ∷ Name 100 ∷ []

-- plain_called = word
abbrev pub plain_called_1 : ℕ
plain_called_1 = 198

abbrev pub plain_called_1_body : List Symbol
plain_called_1_body = Name 0 ∷ []

-- plain_called = firm_name
abbrev pub plain_called_2 : ℕ
plain_called_2 = 199

abbrev pub plain_called_2_body : List Symbol
plain_called_2_body = Name 2 ∷ []

-- hashed_name = free_word plain_hash
abbrev pub hashed_name_1 : ℕ
hashed_name_1 = 200

abbrev pub hashed_name_1_body : List Symbol
hashed_name_1_body = Token 6 ∷ Name 69 ∷ []

-- hashed_name = free_prefix hashed_prefix
abbrev pub hashed_name_2 : ℕ
hashed_name_2 = 201

abbrev pub hashed_name_2_body : List Symbol
hashed_name_2_body = Token 7 ∷ Name 101 ∷ []

-- hashed_name = free_numbered plain_hash
abbrev pub hashed_name_3 : ℕ
hashed_name_3 = 202

abbrev pub hashed_name_3_body : List Symbol
hashed_name_3_body = Token 8 ∷ Name 69 ∷ []

-- hashed_name = quoted quoted_hash
abbrev pub hashed_name_4 : ℕ
hashed_name_4 = 203

abbrev pub hashed_name_4_body : List Symbol
hashed_name_4_body = Token 1 ∷ Name 70 ∷ []

-- hashed_prefix = numbered_hash
abbrev pub hashed_prefix_1 : ℕ
hashed_prefix_1 = 204

abbrev pub hashed_prefix_1_body : List Symbol
hashed_prefix_1_body = Name 71 ∷ []

-- hashed_prefix = plain_hash
abbrev pub hashed_prefix_2 : ℕ
hashed_prefix_2 = 205

abbrev pub hashed_prefix_2_body : List Symbol
hashed_prefix_2_body = Name 69 ∷ []

-- base = base_name
abbrev pub base_1 : ℕ
base_1 = 206

abbrev pub base_1_body : List Symbol
base_1_body = Name 103 ∷ []

-- base =
abbrev pub base_2 : ℕ
base_2 = 207

abbrev pub base_2_body : List Symbol
base_2_body = []

-- base_name = comma plain_called
abbrev pub base_name_1 : ℕ
base_name_1 = 208

abbrev pub base_name_1_body : List Symbol
base_name_1_body = Token 31 ∷ Name 99 ∷ []

-- call_arguments = paren_open word first_argument more_arguments paren_close
abbrev pub call_arguments_1 : ℕ
call_arguments_1 = 209

abbrev pub call_arguments_1_body : List Symbol
call_arguments_1_body = Token 25 ∷ Name 0 ∷ Name 72 ∷ Name 74 ∷ Token 26 ∷ []

-- call_arguments = bare_call
abbrev pub call_arguments_2 : ℕ
call_arguments_2 = 210

abbrev pub call_arguments_2_body : List Symbol
call_arguments_2_body = Name 105 ∷ []

-- bare_call =
abbrev pub bare_call_1 : ℕ
bare_call_1 = 211

abbrev pub bare_call_1_body : List Symbol
bare_call_1_body = []
