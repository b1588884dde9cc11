-- The number and the body of each alternative of SCL's grammar behind those that STL shares.
-- Written by tools/grammar_files.py from crates/pv_scl_parse/grammar/scl.txt.
use Rattle.std.specs.Prelude.{ℕ, List, [], ◌∷◌}
use Rattle.pv_ll.specs.declared.table.Symbol.{Symbol}
use Rattle.pv_ll.specs.declared.table.Symbol.TheVariants.{Token, Name}

-- body = begin_word list
abbrev pub body_1 : ℕ
body_1 = 143

abbrev pub body_1_body : List Symbol
body_1_body = Token 62 ∷ Name 78 ∷ []

-- body = list
abbrev pub body_2 : ℕ
body_2 = 144

abbrev pub body_2_body : List Symbol
body_2_body = Name 78 ∷ []

-- data_body = data_head data_values
abbrev pub data_body_1 : ℕ
data_body_1 = 145

abbrev pub data_body_1_body : List Symbol
data_body_1_body = Name 64 ∷ Name 65 ∷ []

-- data_body =
abbrev pub data_body_2 : ℕ
data_body_2 = 146

abbrev pub data_body_2_body : List Symbol
data_body_2_body = []

-- list = new_list items
abbrev pub list_1 : ℕ
list_1 = 147

abbrev pub list_1_body : List Symbol
list_1_body = Name 79 ∷ Name 80 ∷ []

-- new_list =
abbrev pub new_list_1 : ℕ
new_list_1 = 148

abbrev pub new_list_1_body : List Symbol
new_list_1_body = []

-- items = item items
abbrev pub items_1 : ℕ
items_1 = 149

abbrev pub items_1_body : List Symbol
items_1_body = Name 81 ∷ Name 80 ∷ []

-- items =
abbrev pub items_2 : ℕ
items_2 = 150

abbrev pub items_2_body : List Symbol
items_2_body = []

-- item = firm_item
abbrev pub item_1 : ℕ
item_1 = 151

abbrev pub item_1_body : List Symbol
item_1_body = Name 82 ∷ []

-- item = word word_item
abbrev pub item_2 : ℕ
item_2 = 152

abbrev pub item_2_body : List Symbol
item_2_body = Name 0 ∷ Name 83 ∷ []

-- firm_item = semicolon
abbrev pub firm_item_1 : ℕ
firm_item_1 = 153

abbrev pub firm_item_1_body : List Symbol
firm_item_1_body = Token 30 ∷ []

-- firm_item = other_statement semicolon
abbrev pub firm_item_2 : ℕ
firm_item_2 = 154

abbrev pub firm_item_2_body : List Symbol
firm_item_2_body = Name 84 ∷ Token 30 ∷ []

-- word_item = after_word semicolon
abbrev pub word_item_1 : ℕ
word_item_1 = 155

abbrev pub word_item_1_body : List Symbol
word_item_1_body = Name 106 ∷ Token 30 ∷ []

-- other_statement = hash after_hash
abbrev pub other_statement_1 : ℕ
other_statement_1 = 156

abbrev pub other_statement_1_body : List Symbol
other_statement_1_body = Token 33 ∷ Name 110 ∷ []

-- other_statement = firm_name after_word
abbrev pub other_statement_2 : ℕ
other_statement_2 = 157

abbrev pub other_statement_2_body : List Symbol
other_statement_2_body = Name 2 ∷ Name 106 ∷ []

-- other_statement = area steps assignment
abbrev pub other_statement_3 : ℕ
other_statement_3 = 158

abbrev pub other_statement_3_body : List Symbol
other_statement_3_body = Name 33 ∷ Name 31 ∷ Name 112 ∷ []

-- other_statement = if_word first_arm elsifs maybe_else end_if
abbrev pub other_statement_4 : ℕ
other_statement_4 = 159

abbrev pub other_statement_4_body : List Symbol
other_statement_4_body = Token 73 ∷ Name 85 ∷ Name 86 ∷ Name 88 ∷ Token 77 ∷ []

-- other_statement = case_word expression of_word branches case_else end_case
abbrev pub other_statement_5 : ℕ
other_statement_5 = 160

abbrev pub other_statement_5_body : List Symbol
other_statement_5_body = Token 78 ∷ Name 4 ∷ Token 55 ∷ Name 90 ∷ Name 104 ∷ Token 79 ∷ []

-- other_statement = for_word word assign expression to_word expression maybe_by do_word list end_for
abbrev pub other_statement_6 : ℕ
other_statement_6 = 161

abbrev pub other_statement_6_body : List Symbol
other_statement_6_body = Token 80 ∷ Name 0 ∷ Token 22 ∷ Name 4 ∷ Token 81 ∷ Name 4 ∷ Name 89 ∷ Token 83 ∷ Name 78 ∷ Token 84 ∷ []

-- other_statement = while_word expression do_word list end_while
abbrev pub other_statement_7 : ℕ
other_statement_7 = 162

abbrev pub other_statement_7_body : List Symbol
other_statement_7_body = Token 85 ∷ Name 4 ∷ Token 83 ∷ Name 78 ∷ Token 86 ∷ []

-- other_statement = repeat_word list until_word expression end_repeat
abbrev pub other_statement_8 : ℕ
other_statement_8 = 163

abbrev pub other_statement_8_body : List Symbol
other_statement_8_body = Token 87 ∷ Name 78 ∷ Token 88 ∷ Name 4 ∷ Token 89 ∷ []

-- other_statement = single_word
abbrev pub other_statement_9 : ℕ
other_statement_9 = 164

abbrev pub other_statement_9_body : List Symbol
other_statement_9_body = Token 90 ∷ []

-- first_arm = expression then_word list
abbrev pub first_arm_1 : ℕ
first_arm_1 = 165

abbrev pub first_arm_1_body : List Symbol
first_arm_1_body = Name 4 ∷ Token 74 ∷ Name 78 ∷ []

-- elsifs = elsif elsifs
abbrev pub elsifs_1 : ℕ
elsifs_1 = 166

abbrev pub elsifs_1_body : List Symbol
elsifs_1_body = Name 87 ∷ Name 86 ∷ []

-- elsifs =
abbrev pub elsifs_2 : ℕ
elsifs_2 = 167

abbrev pub elsifs_2_body : List Symbol
elsifs_2_body = []

-- elsif = elsif_word expression then_word list
abbrev pub elsif_1 : ℕ
elsif_1 = 168

abbrev pub elsif_1_body : List Symbol
elsif_1_body = Token 75 ∷ Name 4 ∷ Token 74 ∷ Name 78 ∷ []

-- maybe_else = else_word list
abbrev pub maybe_else_1 : ℕ
maybe_else_1 = 169

abbrev pub maybe_else_1_body : List Symbol
maybe_else_1_body = Token 76 ∷ Name 78 ∷ []

-- maybe_else =
abbrev pub maybe_else_2 : ℕ
maybe_else_2 = 170

abbrev pub maybe_else_2_body : List Symbol
maybe_else_2_body = []

-- maybe_by = by_word literal
abbrev pub maybe_by_1 : ℕ
maybe_by_1 = 171

abbrev pub maybe_by_1_body : List Symbol
maybe_by_1_body = Token 82 ∷ Name 61 ∷ []

-- maybe_by =
abbrev pub maybe_by_2 : ℕ
maybe_by_2 = 172

abbrev pub maybe_by_2_body : List Symbol
maybe_by_2_body = []

-- branches = new_branches label case_items
abbrev pub branches_1 : ℕ
branches_1 = 173

abbrev pub branches_1_body : List Symbol
branches_1_body = Name 91 ∷ Name 92 ∷ Name 101 ∷ []

-- branches =
abbrev pub branches_2 : ℕ
branches_2 = 174

abbrev pub branches_2_body : List Symbol
branches_2_body = []

-- new_branches =
abbrev pub new_branches_1 : ℕ
new_branches_1 = 175

abbrev pub new_branches_1_body : List Symbol
new_branches_1_body = []

-- label = choice label_rest
abbrev pub label_1 : ℕ
label_1 = 176

abbrev pub label_1_body : List Symbol
label_1_body = Name 98 ∷ Name 93 ∷ []

-- label_rest = first_range more_choices colon
abbrev pub label_rest_1 : ℕ
label_rest_1 = 177

abbrev pub label_rest_1_body : List Symbol
label_rest_1_body = Name 94 ∷ Name 95 ∷ Token 29 ∷ []

-- first_range = dots choice
abbrev pub first_range_1 : ℕ
first_range_1 = 178

abbrev pub first_range_1_body : List Symbol
first_range_1_body = Token 24 ∷ Name 98 ∷ []

-- first_range =
abbrev pub first_range_2 : ℕ
first_range_2 = 179

abbrev pub first_range_2_body : List Symbol
first_range_2_body = []

-- more_choices = next_choice more_choices
abbrev pub more_choices_1 : ℕ
more_choices_1 = 180

abbrev pub more_choices_1_body : List Symbol
more_choices_1_body = Name 96 ∷ Name 95 ∷ []

-- more_choices =
abbrev pub more_choices_2 : ℕ
more_choices_2 = 181

abbrev pub more_choices_2_body : List Symbol
more_choices_2_body = []

-- next_choice = comma choice next_range
abbrev pub next_choice_1 : ℕ
next_choice_1 = 182

abbrev pub next_choice_1_body : List Symbol
next_choice_1_body = Token 31 ∷ Name 98 ∷ Name 97 ∷ []

-- next_range = dots choice
abbrev pub next_range_1 : ℕ
next_range_1 = 183

abbrev pub next_range_1_body : List Symbol
next_range_1_body = Token 24 ∷ Name 98 ∷ []

-- next_range =
abbrev pub next_range_2 : ℕ
next_range_2 = 184

abbrev pub next_range_2_body : List Symbol
next_range_2_body = []

-- choice = literal_choice
abbrev pub choice_1 : ℕ
choice_1 = 185

abbrev pub choice_1_body : List Symbol
choice_1_body = Name 99 ∷ []

-- choice = word word_choice
abbrev pub choice_2 : ℕ
choice_2 = 186

abbrev pub choice_2_body : List Symbol
choice_2_body = Name 0 ∷ Name 100 ∷ []

-- literal_choice = literal
abbrev pub literal_choice_1 : ℕ
literal_choice_1 = 187

abbrev pub literal_choice_1_body : List Symbol
literal_choice_1_body = Name 61 ∷ []

-- word_choice =
abbrev pub word_choice_1 : ℕ
word_choice_1 = 188

abbrev pub word_choice_1_body : List Symbol
word_choice_1_body = []

-- case_items = case_item case_items
abbrev pub case_items_1 : ℕ
case_items_1 = 189

abbrev pub case_items_1_body : List Symbol
case_items_1_body = Name 102 ∷ Name 101 ∷ []

-- case_items =
abbrev pub case_items_2 : ℕ
case_items_2 = 190

abbrev pub case_items_2_body : List Symbol
case_items_2_body = []

-- case_item = firm_item
abbrev pub case_item_1 : ℕ
case_item_1 = 191

abbrev pub case_item_1_body : List Symbol
case_item_1_body = Name 82 ∷ []

-- case_item = literal_choice label_rest
abbrev pub case_item_2 : ℕ
case_item_2 = 192

abbrev pub case_item_2_body : List Symbol
case_item_2_body = Name 99 ∷ Name 93 ∷ []

-- case_item = word after_case_word
abbrev pub case_item_3 : ℕ
case_item_3 = 193

abbrev pub case_item_3_body : List Symbol
case_item_3_body = Name 0 ∷ Name 103 ∷ []

-- after_case_word = word_choice label_rest
abbrev pub after_case_word_1 : ℕ
after_case_word_1 = 194

abbrev pub after_case_word_1_body : List Symbol
after_case_word_1_body = Name 100 ∷ Name 93 ∷ []

-- after_case_word = word_item
abbrev pub after_case_word_2 : ℕ
after_case_word_2 = 195

abbrev pub after_case_word_2_body : List Symbol
after_case_word_2_body = Name 83 ∷ []

-- case_else = else_word maybe_colon list
abbrev pub case_else_1 : ℕ
case_else_1 = 196

abbrev pub case_else_1_body : List Symbol
case_else_1_body = Token 76 ∷ Name 105 ∷ Name 78 ∷ []

-- case_else =
abbrev pub case_else_2 : ℕ
case_else_2 = 197

abbrev pub case_else_2_body : List Symbol
case_else_2_body = []

-- maybe_colon = colon
abbrev pub maybe_colon_1 : ℕ
maybe_colon_1 = 198

abbrev pub maybe_colon_1_body : List Symbol
maybe_colon_1_body = Token 29 ∷ []

-- maybe_colon =
abbrev pub maybe_colon_2 : ℕ
maybe_colon_2 = 199

abbrev pub maybe_colon_2_body : List Symbol
maybe_colon_2_body = []

-- after_word = call_arguments
abbrev pub after_word_1 : ℕ
after_word_1 = 200

abbrev pub after_word_1_body : List Symbol
after_word_1_body = Name 121 ∷ []

-- after_word = dot after_dot
abbrev pub after_word_2 : ℕ
after_word_2 = 201

abbrev pub after_word_2_body : List Symbol
after_word_2_body = Token 32 ∷ Name 107 ∷ []

-- after_word = maybe_index assignment
abbrev pub after_word_3 : ℕ
after_word_3 = 202

abbrev pub after_word_3_body : List Symbol
after_word_3_body = Name 113 ∷ Name 112 ∷ []

-- after_dot = free_word plain_second after_second
abbrev pub after_dot_1 : ℕ
after_dot_1 = 203

abbrev pub after_dot_1_body : List Symbol
after_dot_1_body = Token 6 ∷ Name 115 ∷ Name 109 ∷ []

-- after_dot = free_prefix after_prefix
abbrev pub after_dot_2 : ℕ
after_dot_2 = 204

abbrev pub after_dot_2_body : List Symbol
after_dot_2_body = Token 7 ∷ Name 108 ∷ []

-- after_dot = free_numbered plain_second call_arguments
abbrev pub after_dot_3 : ℕ
after_dot_3 = 205

abbrev pub after_dot_3_body : List Symbol
after_dot_3_body = Token 8 ∷ Name 115 ∷ Name 121 ∷ []

-- after_dot = quoted quoted_second call_arguments
abbrev pub after_dot_4 : ℕ
after_dot_4 = 206

abbrev pub after_dot_4_body : List Symbol
after_dot_4_body = Token 1 ∷ Name 116 ∷ Name 121 ∷ []

-- after_prefix = numbered_second call_arguments
abbrev pub after_prefix_1 : ℕ
after_prefix_1 = 207

abbrev pub after_prefix_1_body : List Symbol
after_prefix_1_body = Name 117 ∷ Name 121 ∷ []

-- after_prefix = plain_second after_second
abbrev pub after_prefix_2 : ℕ
after_prefix_2 = 208

abbrev pub after_prefix_2_body : List Symbol
after_prefix_2_body = Name 115 ∷ Name 109 ∷ []

-- after_second = call_arguments
abbrev pub after_second_1 : ℕ
after_second_1 = 209

abbrev pub after_second_1_body : List Symbol
after_second_1_body = Name 121 ∷ []

-- after_second = steps assignment
abbrev pub after_second_2 : ℕ
after_second_2 = 210

abbrev pub after_second_2_body : List Symbol
after_second_2_body = Name 31 ∷ Name 112 ∷ []

-- after_hash = free_word plain_hash after_word
abbrev pub after_hash_1 : ℕ
after_hash_1 = 211

abbrev pub after_hash_1_body : List Symbol
after_hash_1_body = Token 6 ∷ Name 69 ∷ Name 106 ∷ []

-- after_hash = free_prefix after_hash_prefix
abbrev pub after_hash_2 : ℕ
after_hash_2 = 212

abbrev pub after_hash_2_body : List Symbol
after_hash_2_body = Token 7 ∷ Name 111 ∷ []

-- after_hash = free_numbered plain_hash called
abbrev pub after_hash_3 : ℕ
after_hash_3 = 213

abbrev pub after_hash_3_body : List Symbol
after_hash_3_body = Token 8 ∷ Name 69 ∷ Name 118 ∷ []

-- after_hash = quoted quoted_hash called
abbrev pub after_hash_4 : ℕ
after_hash_4 = 214

abbrev pub after_hash_4_body : List Symbol
after_hash_4_body = Token 1 ∷ Name 70 ∷ Name 118 ∷ []

-- after_hash_prefix = numbered_hash called
abbrev pub after_hash_prefix_1 : ℕ
after_hash_prefix_1 = 215

abbrev pub after_hash_prefix_1_body : List Symbol
after_hash_prefix_1_body = Name 71 ∷ Name 118 ∷ []

-- after_hash_prefix = plain_hash after_word
abbrev pub after_hash_prefix_2 : ℕ
after_hash_prefix_2 = 216

abbrev pub after_hash_prefix_2_body : List Symbol
after_hash_prefix_2_body = Name 69 ∷ Name 106 ∷ []

-- assignment = assign value
abbrev pub assignment_1 : ℕ
assignment_1 = 217

abbrev pub assignment_1_body : List Symbol
assignment_1_body = Token 22 ∷ Name 124 ∷ []

-- maybe_index = first_index steps
abbrev pub maybe_index_1 : ℕ
maybe_index_1 = 218

abbrev pub maybe_index_1_body : List Symbol
maybe_index_1_body = Name 114 ∷ Name 31 ∷ []

-- maybe_index =
abbrev pub maybe_index_2 : ℕ
maybe_index_2 = 219

abbrev pub maybe_index_2_body : List Symbol
maybe_index_2_body = []

-- first_index = bracket_open expression bracket_close
abbrev pub first_index_1 : ℕ
first_index_1 = 220

abbrev pub first_index_1_body : List Symbol
first_index_1_body = Token 27 ∷ Name 4 ∷ Token 28 ∷ []

-- plain_second =
abbrev pub plain_second_1 : ℕ
plain_second_1 = 221

abbrev pub plain_second_1_body : List Symbol
plain_second_1_body = []

-- quoted_second =
abbrev pub quoted_second_1 : ℕ
quoted_second_1 = 222

abbrev pub quoted_second_1_body : List Symbol
quoted_second_1_body = []

-- numbered_second = number
abbrev pub numbered_second_1 : ℕ
numbered_second_1 = 223

abbrev pub numbered_second_1_body : List Symbol
numbered_second_1_body = Token 2 ∷ []

-- called = call_arguments
abbrev pub called_1 : ℕ
called_1 = 224

abbrev pub called_1_body : List Symbol
called_1_body = Name 121 ∷ []

-- called = dot second_name call_arguments
abbrev pub called_2 : ℕ
called_2 = 225

abbrev pub called_2_body : List Symbol
called_2_body = Token 32 ∷ Name 119 ∷ Name 121 ∷ []

-- second_name = free_word plain_second
abbrev pub second_name_1 : ℕ
second_name_1 = 226

abbrev pub second_name_1_body : List Symbol
second_name_1_body = Token 6 ∷ Name 115 ∷ []

-- second_name = free_prefix second_number
abbrev pub second_name_2 : ℕ
second_name_2 = 227

abbrev pub second_name_2_body : List Symbol
second_name_2_body = Token 7 ∷ Name 120 ∷ []

-- second_name = free_numbered plain_second
abbrev pub second_name_3 : ℕ
second_name_3 = 228

abbrev pub second_name_3_body : List Symbol
second_name_3_body = Token 8 ∷ Name 115 ∷ []

-- second_name = quoted quoted_second
abbrev pub second_name_4 : ℕ
second_name_4 = 229

abbrev pub second_name_4_body : List Symbol
second_name_4_body = Token 1 ∷ Name 116 ∷ []

-- second_number = numbered_second
abbrev pub second_number_1 : ℕ
second_number_1 = 230

abbrev pub second_number_1_body : List Symbol
second_number_1_body = Name 117 ∷ []

-- second_number = plain_second
abbrev pub second_number_2 : ℕ
second_number_2 = 231

abbrev pub second_number_2_body : List Symbol
second_number_2_body = Name 115 ∷ []

-- call_arguments = paren_open arguments paren_close
abbrev pub call_arguments_1 : ℕ
call_arguments_1 = 232

abbrev pub call_arguments_1_body : List Symbol
call_arguments_1_body = Token 25 ∷ Name 122 ∷ Token 26 ∷ []

-- arguments = word after_argument_word
abbrev pub arguments_1 : ℕ
arguments_1 = 233

abbrev pub arguments_1_body : List Symbol
arguments_1_body = Name 0 ∷ Name 123 ∷ []

-- arguments = other_factor chain
abbrev pub arguments_2 : ℕ
arguments_2 = 234

abbrev pub arguments_2_body : List Symbol
arguments_2_body = Name 27 ∷ Name 133 ∷ []

-- arguments =
abbrev pub arguments_3 : ℕ
arguments_3 = 235

abbrev pub arguments_3_body : List Symbol
arguments_3_body = []

-- after_argument_word = first_argument more_arguments
abbrev pub after_argument_word_1 : ℕ
after_argument_word_1 = 236

abbrev pub after_argument_word_1_body : List Symbol
after_argument_word_1_body = Name 72 ∷ Name 74 ∷ []

-- after_argument_word = second_read chain
abbrev pub after_argument_word_2 : ℕ
after_argument_word_2 = 237

abbrev pub after_argument_word_2_body : List Symbol
after_argument_word_2_body = Name 132 ∷ Name 133 ∷ []

-- value = word value_after_word
abbrev pub value_1 : ℕ
value_1 = 238

abbrev pub value_1_body : List Symbol
value_1_body = Name 0 ∷ Name 125 ∷ []

-- value = hash value_after_hash
abbrev pub value_2 : ℕ
value_2 = 239

abbrev pub value_2_body : List Symbol
value_2_body = Token 33 ∷ Name 129 ∷ []

-- value = firm_name value_after_word
abbrev pub value_3 : ℕ
value_3 = 240

abbrev pub value_3_body : List Symbol
value_3_body = Name 2 ∷ Name 125 ∷ []

-- value = firm_factor chain
abbrev pub value_4 : ℕ
value_4 = 241

abbrev pub value_4_body : List Symbol
value_4_body = Name 29 ∷ Name 133 ∷ []

-- value_after_word = call_arguments
abbrev pub value_after_word_1 : ℕ
value_after_word_1 = 242

abbrev pub value_after_word_1_body : List Symbol
value_after_word_1_body = Name 121 ∷ []

-- value_after_word = dot value_after_dot
abbrev pub value_after_word_2 : ℕ
value_after_word_2 = 243

abbrev pub value_after_word_2_body : List Symbol
value_after_word_2_body = Token 32 ∷ Name 126 ∷ []

-- value_after_word = first_read chain
abbrev pub value_after_word_3 : ℕ
value_after_word_3 = 244

abbrev pub value_after_word_3_body : List Symbol
value_after_word_3_body = Name 131 ∷ Name 133 ∷ []

-- value_after_dot = free_word plain_second value_after_second
abbrev pub value_after_dot_1 : ℕ
value_after_dot_1 = 245

abbrev pub value_after_dot_1_body : List Symbol
value_after_dot_1_body = Token 6 ∷ Name 115 ∷ Name 128 ∷ []

-- value_after_dot = free_prefix value_after_prefix
abbrev pub value_after_dot_2 : ℕ
value_after_dot_2 = 246

abbrev pub value_after_dot_2_body : List Symbol
value_after_dot_2_body = Token 7 ∷ Name 127 ∷ []

-- value_after_dot = free_numbered plain_second call_arguments
abbrev pub value_after_dot_3 : ℕ
value_after_dot_3 = 247

abbrev pub value_after_dot_3_body : List Symbol
value_after_dot_3_body = Token 8 ∷ Name 115 ∷ Name 121 ∷ []

-- value_after_dot = quoted quoted_second call_arguments
abbrev pub value_after_dot_4 : ℕ
value_after_dot_4 = 248

abbrev pub value_after_dot_4_body : List Symbol
value_after_dot_4_body = Token 1 ∷ Name 116 ∷ Name 121 ∷ []

-- value_after_prefix = numbered_second call_arguments
abbrev pub value_after_prefix_1 : ℕ
value_after_prefix_1 = 249

abbrev pub value_after_prefix_1_body : List Symbol
value_after_prefix_1_body = Name 117 ∷ Name 121 ∷ []

-- value_after_prefix = plain_second value_after_second
abbrev pub value_after_prefix_2 : ℕ
value_after_prefix_2 = 250

abbrev pub value_after_prefix_2_body : List Symbol
value_after_prefix_2_body = Name 115 ∷ Name 128 ∷ []

-- value_after_second = call_arguments
abbrev pub value_after_second_1 : ℕ
value_after_second_1 = 251

abbrev pub value_after_second_1_body : List Symbol
value_after_second_1_body = Name 121 ∷ []

-- value_after_second = second_read chain
abbrev pub value_after_second_2 : ℕ
value_after_second_2 = 252

abbrev pub value_after_second_2_body : List Symbol
value_after_second_2_body = Name 132 ∷ Name 133 ∷ []

-- value_after_hash = free_word plain_hash value_after_word
abbrev pub value_after_hash_1 : ℕ
value_after_hash_1 = 253

abbrev pub value_after_hash_1_body : List Symbol
value_after_hash_1_body = Token 6 ∷ Name 69 ∷ Name 125 ∷ []

-- value_after_hash = free_prefix value_after_hash_prefix
abbrev pub value_after_hash_2 : ℕ
value_after_hash_2 = 254

abbrev pub value_after_hash_2_body : List Symbol
value_after_hash_2_body = Token 7 ∷ Name 130 ∷ []

-- value_after_hash = free_numbered plain_hash called
abbrev pub value_after_hash_3 : ℕ
value_after_hash_3 = 255

abbrev pub value_after_hash_3_body : List Symbol
value_after_hash_3_body = Token 8 ∷ Name 69 ∷ Name 118 ∷ []

-- value_after_hash = quoted quoted_hash called
abbrev pub value_after_hash_4 : ℕ
value_after_hash_4 = 256

abbrev pub value_after_hash_4_body : List Symbol
value_after_hash_4_body = Token 1 ∷ Name 70 ∷ Name 118 ∷ []

-- value_after_hash_prefix = numbered_hash called
abbrev pub value_after_hash_prefix_1 : ℕ
value_after_hash_prefix_1 = 257

abbrev pub value_after_hash_prefix_1_body : List Symbol
value_after_hash_prefix_1_body = Name 71 ∷ Name 118 ∷ []

-- value_after_hash_prefix = plain_hash value_after_word
abbrev pub value_after_hash_prefix_2 : ℕ
value_after_hash_prefix_2 = 258

abbrev pub value_after_hash_prefix_2_body : List Symbol
value_after_hash_prefix_2_body = Name 69 ∷ Name 125 ∷ []

-- first_read = maybe_index
abbrev pub first_read_1 : ℕ
first_read_1 = 259

abbrev pub first_read_1_body : List Symbol
first_read_1_body = Name 113 ∷ []

-- second_read = steps
abbrev pub second_read_1 : ℕ
second_read_1 = 260

abbrev pub second_read_1_body : List Symbol
second_read_1_body = Name 31 ∷ []

-- chain = product_tail sum_tail compare_tail equal_tail and_tail xor_tail or_tail
abbrev pub chain_1 : ℕ
chain_1 = 261

abbrev pub chain_1_body : List Symbol
chain_1_body = Name 23 ∷ Name 20 ∷ Name 17 ∷ Name 14 ∷ Name 11 ∷ Name 8 ∷ Name 5 ∷ []
