-- The number and the body of each alternative of the grammar that SCL and STL share.
-- Written by tools/grammar_files.py from crates/pv_scl_parse/grammar/scl.txt.
use Rattle.std.specs.Prelude.{ℕ, List, [], ◌∷◌}
use Rattle.pv_ll.specs.declared.table.Symbol.{Symbol}
use Rattle.pv_ll.specs.declared.table.Symbol.TheVariants.{Token, Name}

-- word = label_word
abbrev pub word_1 : ℕ
word_1 = 0

abbrev pub word_1_body : List Symbol
word_1_body = Name 1 ∷ []

-- word = bit_op
abbrev pub word_2 : ℕ
word_2 = 1

abbrev pub word_2_body : List Symbol
word_2_body = Token 17 ∷ []

-- word = or_op
abbrev pub word_3 : ℕ
word_3 = 2

abbrev pub word_3_body : List Symbol
word_3_body = Token 18 ∷ []

-- word = value_op
abbrev pub word_4 : ℕ
word_4 = 3

abbrev pub word_4_body : List Symbol
word_4_body = Token 19 ∷ []

-- word = free_op
abbrev pub word_5 : ℕ
word_5 = 4

abbrev pub word_5_body : List Symbol
word_5_body = Token 20 ∷ []

-- label_word = plain
abbrev pub label_word_1 : ℕ
label_word_1 = 5

abbrev pub label_word_1_body : List Symbol
label_word_1_body = Token 0 ∷ []

-- label_word = in_word
abbrev pub label_word_2 : ℕ
label_word_2 = 6

abbrev pub label_word_2_body : List Symbol
label_word_2_body = Token 9 ∷ []

-- label_word = in0_word
abbrev pub label_word_3 : ℕ
label_word_3 = 7

abbrev pub label_word_3_body : List Symbol
label_word_3_body = Token 10 ∷ []

-- label_word = in1_word
abbrev pub label_word_4 : ℕ
label_word_4 = 8

abbrev pub label_word_4_body : List Symbol
label_word_4_body = Token 11 ∷ []

-- label_word = in2_word
abbrev pub label_word_5 : ℕ
label_word_5 = 9

abbrev pub label_word_5_body : List Symbol
label_word_5_body = Token 12 ∷ []

-- label_word = mn_word
abbrev pub label_word_6 : ℕ
label_word_6 = 10

abbrev pub label_word_6_body : List Symbol
label_word_6_body = Token 13 ∷ []

-- label_word = mx_word
abbrev pub label_word_7 : ℕ
label_word_7 = 11

abbrev pub label_word_7_body : List Symbol
label_word_7_body = Token 14 ∷ []

-- label_word = g_word
abbrev pub label_word_8 : ℕ
label_word_8 = 12

abbrev pub label_word_8_body : List Symbol
label_word_8_body = Token 15 ∷ []

-- label_word = n_word
abbrev pub label_word_9 : ℕ
label_word_9 = 13

abbrev pub label_word_9_body : List Symbol
label_word_9_body = Token 16 ∷ []

-- firm_name = quoted
abbrev pub firm_name_1 : ℕ
firm_name_1 = 14

abbrev pub firm_name_1_body : List Symbol
firm_name_1_body = Token 1 ∷ []

-- firm_name = number_prefix number
abbrev pub firm_name_2 : ℕ
firm_name_2 = 15

abbrev pub firm_name_2_body : List Symbol
firm_name_2_body = Token 4 ∷ Token 2 ∷ []

-- firm_name = numbered
abbrev pub firm_name_3 : ℕ
firm_name_3 = 16

abbrev pub firm_name_3_body : List Symbol
firm_name_3_body = Token 5 ∷ []

-- field = free_word
abbrev pub field_1 : ℕ
field_1 = 17

abbrev pub field_1_body : List Symbol
field_1_body = Token 6 ∷ []

-- field = free_prefix
abbrev pub field_2 : ℕ
field_2 = 18

abbrev pub field_2_body : List Symbol
field_2_body = Token 7 ∷ []

-- expression = xor_chain or_tail
abbrev pub expression_1 : ℕ
expression_1 = 19

abbrev pub expression_1_body : List Symbol
expression_1_body = Name 7 ∷ Name 5 ∷ []

-- or_tail = or_link or_tail
abbrev pub or_tail_1 : ℕ
or_tail_1 = 20

abbrev pub or_tail_1_body : List Symbol
or_tail_1_body = Name 6 ∷ Name 5 ∷ []

-- or_tail =
abbrev pub or_tail_2 : ℕ
or_tail_2 = 21

abbrev pub or_tail_2_body : List Symbol
or_tail_2_body = []

-- or_link = or_word xor_chain
abbrev pub or_link_1 : ℕ
or_link_1 = 22

abbrev pub or_link_1_body : List Symbol
or_link_1_body = Token 43 ∷ Name 7 ∷ []

-- xor_chain = and_chain xor_tail
abbrev pub xor_chain_1 : ℕ
xor_chain_1 = 23

abbrev pub xor_chain_1_body : List Symbol
xor_chain_1_body = Name 10 ∷ Name 8 ∷ []

-- xor_tail = xor_link xor_tail
abbrev pub xor_tail_1 : ℕ
xor_tail_1 = 24

abbrev pub xor_tail_1_body : List Symbol
xor_tail_1_body = Name 9 ∷ Name 8 ∷ []

-- xor_tail =
abbrev pub xor_tail_2 : ℕ
xor_tail_2 = 25

abbrev pub xor_tail_2_body : List Symbol
xor_tail_2_body = []

-- xor_link = xor_word and_chain
abbrev pub xor_link_1 : ℕ
xor_link_1 = 26

abbrev pub xor_link_1_body : List Symbol
xor_link_1_body = Token 42 ∷ Name 10 ∷ []

-- and_chain = equal_chain and_tail
abbrev pub and_chain_1 : ℕ
and_chain_1 = 27

abbrev pub and_chain_1_body : List Symbol
and_chain_1_body = Name 13 ∷ Name 11 ∷ []

-- and_tail = and_link and_tail
abbrev pub and_tail_1 : ℕ
and_tail_1 = 28

abbrev pub and_tail_1_body : List Symbol
and_tail_1_body = Name 12 ∷ Name 11 ∷ []

-- and_tail =
abbrev pub and_tail_2 : ℕ
and_tail_2 = 29

abbrev pub and_tail_2_body : List Symbol
and_tail_2_body = []

-- and_link = and_word equal_chain
abbrev pub and_link_1 : ℕ
and_link_1 = 30

abbrev pub and_link_1_body : List Symbol
and_link_1_body = Token 41 ∷ Name 13 ∷ []

-- equal_chain = compare_chain equal_tail
abbrev pub equal_chain_1 : ℕ
equal_chain_1 = 31

abbrev pub equal_chain_1_body : List Symbol
equal_chain_1_body = Name 16 ∷ Name 14 ∷ []

-- equal_tail = equal_link equal_tail
abbrev pub equal_tail_1 : ℕ
equal_tail_1 = 32

abbrev pub equal_tail_1_body : List Symbol
equal_tail_1_body = Name 15 ∷ Name 14 ∷ []

-- equal_tail =
abbrev pub equal_tail_2 : ℕ
equal_tail_2 = 33

abbrev pub equal_tail_2_body : List Symbol
equal_tail_2_body = []

-- equal_link = equals compare_chain
abbrev pub equal_link_1 : ℕ
equal_link_1 = 34

abbrev pub equal_link_1_body : List Symbol
equal_link_1_body = Token 39 ∷ Name 16 ∷ []

-- equal_link = unequal compare_chain
abbrev pub equal_link_2 : ℕ
equal_link_2 = 35

abbrev pub equal_link_2_body : List Symbol
equal_link_2_body = Token 40 ∷ Name 16 ∷ []

-- compare_chain = sum_chain compare_tail
abbrev pub compare_chain_1 : ℕ
compare_chain_1 = 36

abbrev pub compare_chain_1_body : List Symbol
compare_chain_1_body = Name 19 ∷ Name 17 ∷ []

-- compare_tail = compare_link compare_tail
abbrev pub compare_tail_1 : ℕ
compare_tail_1 = 37

abbrev pub compare_tail_1_body : List Symbol
compare_tail_1_body = Name 18 ∷ Name 17 ∷ []

-- compare_tail =
abbrev pub compare_tail_2 : ℕ
compare_tail_2 = 38

abbrev pub compare_tail_2_body : List Symbol
compare_tail_2_body = []

-- compare_link = compare_sign sum_chain
abbrev pub compare_link_1 : ℕ
compare_link_1 = 39

abbrev pub compare_link_1_body : List Symbol
compare_link_1_body = Token 38 ∷ Name 19 ∷ []

-- sum_chain = product_chain sum_tail
abbrev pub sum_chain_1 : ℕ
sum_chain_1 = 40

abbrev pub sum_chain_1_body : List Symbol
sum_chain_1_body = Name 22 ∷ Name 20 ∷ []

-- sum_tail = sum_link sum_tail
abbrev pub sum_tail_1 : ℕ
sum_tail_1 = 41

abbrev pub sum_tail_1_body : List Symbol
sum_tail_1_body = Name 21 ∷ Name 20 ∷ []

-- sum_tail =
abbrev pub sum_tail_2 : ℕ
sum_tail_2 = 42

abbrev pub sum_tail_2_body : List Symbol
sum_tail_2_body = []

-- sum_link = plus product_chain
abbrev pub sum_link_1 : ℕ
sum_link_1 = 43

abbrev pub sum_link_1_body : List Symbol
sum_link_1_body = Token 34 ∷ Name 22 ∷ []

-- sum_link = minus product_chain
abbrev pub sum_link_2 : ℕ
sum_link_2 = 44

abbrev pub sum_link_2_body : List Symbol
sum_link_2_body = Token 35 ∷ Name 22 ∷ []

-- product_chain = factor product_tail
abbrev pub product_chain_1 : ℕ
product_chain_1 = 45

abbrev pub product_chain_1_body : List Symbol
product_chain_1_body = Name 25 ∷ Name 23 ∷ []

-- product_tail = product_link product_tail
abbrev pub product_tail_1 : ℕ
product_tail_1 = 46

abbrev pub product_tail_1_body : List Symbol
product_tail_1_body = Name 24 ∷ Name 23 ∷ []

-- product_tail =
abbrev pub product_tail_2 : ℕ
product_tail_2 = 47

abbrev pub product_tail_2_body : List Symbol
product_tail_2_body = []

-- product_link = times factor
abbrev pub product_link_1 : ℕ
product_link_1 = 48

abbrev pub product_link_1_body : List Symbol
product_link_1_body = Token 36 ∷ Name 25 ∷ []

-- product_link = mod_word factor
abbrev pub product_link_2 : ℕ
product_link_2 = 49

abbrev pub product_link_2_body : List Symbol
product_link_2_body = Token 37 ∷ Name 25 ∷ []

-- factor = word_read
abbrev pub factor_1 : ℕ
factor_1 = 50

abbrev pub factor_1_body : List Symbol
factor_1_body = Name 26 ∷ []

-- factor = other_factor
abbrev pub factor_2 : ℕ
factor_2 = 51

abbrev pub factor_2_body : List Symbol
factor_2_body = Name 27 ∷ []

-- word_read = word steps
abbrev pub word_read_1 : ℕ
word_read_1 = 52

abbrev pub word_read_1_body : List Symbol
word_read_1_body = Name 0 ∷ Name 31 ∷ []

-- other_factor = name_read
abbrev pub other_factor_1 : ℕ
other_factor_1 = 53

abbrev pub other_factor_1_body : List Symbol
other_factor_1_body = Name 28 ∷ []

-- other_factor = firm_factor
abbrev pub other_factor_2 : ℕ
other_factor_2 = 54

abbrev pub other_factor_2_body : List Symbol
other_factor_2_body = Name 29 ∷ []

-- name_read = hash field steps
abbrev pub name_read_1 : ℕ
name_read_1 = 55

abbrev pub name_read_1_body : List Symbol
name_read_1_body = Token 33 ∷ Name 3 ∷ Name 31 ∷ []

-- name_read = firm_name steps
abbrev pub name_read_2 : ℕ
name_read_2 = 56

abbrev pub name_read_2_body : List Symbol
name_read_2_body = Name 2 ∷ Name 31 ∷ []

-- firm_factor = area steps
abbrev pub firm_factor_1 : ℕ
firm_factor_1 = 57

abbrev pub firm_factor_1_body : List Symbol
firm_factor_1_body = Name 33 ∷ Name 31 ∷ []

-- firm_factor = number
abbrev pub firm_factor_2 : ℕ
firm_factor_2 = 58

abbrev pub firm_factor_2_body : List Symbol
firm_factor_2_body = Token 2 ∷ []

-- firm_factor = truth
abbrev pub firm_factor_3 : ℕ
firm_factor_3 = 59

abbrev pub firm_factor_3_body : List Symbol
firm_factor_3_body = Token 45 ∷ []

-- firm_factor = paren_open expression paren_close
abbrev pub firm_factor_4 : ℕ
firm_factor_4 = 60

abbrev pub firm_factor_4_body : List Symbol
firm_factor_4_body = Token 25 ∷ Name 4 ∷ Token 26 ∷ []

-- firm_factor = function
abbrev pub firm_factor_5 : ℕ
firm_factor_5 = 61

abbrev pub firm_factor_5_body : List Symbol
firm_factor_5_body = Name 30 ∷ []

-- firm_factor = plus factor
abbrev pub firm_factor_6 : ℕ
firm_factor_6 = 62

abbrev pub firm_factor_6_body : List Symbol
firm_factor_6_body = Token 34 ∷ Name 25 ∷ []

-- firm_factor = minus factor
abbrev pub firm_factor_7 : ℕ
firm_factor_7 = 63

abbrev pub firm_factor_7_body : List Symbol
firm_factor_7_body = Token 35 ∷ Name 25 ∷ []

-- firm_factor = not_word factor
abbrev pub firm_factor_8 : ℕ
firm_factor_8 = 64

abbrev pub firm_factor_8_body : List Symbol
firm_factor_8_body = Token 44 ∷ Name 25 ∷ []

-- function = one_function paren_open expression paren_close
abbrev pub function_1 : ℕ
function_1 = 65

abbrev pub function_1_body : List Symbol
function_1_body = Token 46 ∷ Token 25 ∷ Name 4 ∷ Token 26 ∷ []

-- function = two_function paren_open in1_word assign expression comma in2_word assign expression paren_close
abbrev pub function_2 : ℕ
function_2 = 66

abbrev pub function_2_body : List Symbol
function_2_body = Token 47 ∷ Token 25 ∷ Token 11 ∷ Token 22 ∷ Name 4 ∷ Token 31 ∷ Token 12 ∷ Token 22 ∷ Name 4 ∷ Token 26 ∷ []

-- function = limit_function paren_open mn_word assign expression comma in_word assign expression comma mx_word assign expression paren_close
abbrev pub function_3 : ℕ
function_3 = 67

abbrev pub function_3_body : List Symbol
function_3_body = Token 48 ∷ Token 25 ∷ Token 13 ∷ Token 22 ∷ Name 4 ∷ Token 31 ∷ Token 9 ∷ Token 22 ∷ Name 4 ∷ Token 31 ∷ Token 14 ∷ Token 22 ∷ Name 4 ∷ Token 26 ∷ []

-- function = sel_function paren_open g_word assign expression comma in0_word assign expression comma in1_word assign expression paren_close
abbrev pub function_4 : ℕ
function_4 = 68

abbrev pub function_4_body : List Symbol
function_4_body = Token 49 ∷ Token 25 ∷ Token 15 ∷ Token 22 ∷ Name 4 ∷ Token 31 ∷ Token 10 ∷ Token 22 ∷ Name 4 ∷ Token 31 ∷ Token 11 ∷ Token 22 ∷ Name 4 ∷ Token 26 ∷ []

-- function = shift_function paren_open in_word assign expression comma n_word assign expression paren_close
abbrev pub function_5 : ℕ
function_5 = 69

abbrev pub function_5_body : List Symbol
function_5_body = Token 50 ∷ Token 25 ∷ Token 9 ∷ Token 22 ∷ Name 4 ∷ Token 31 ∷ Token 16 ∷ Token 22 ∷ Name 4 ∷ Token 26 ∷ []

-- steps = step steps
abbrev pub steps_1 : ℕ
steps_1 = 70

abbrev pub steps_1_body : List Symbol
steps_1_body = Name 32 ∷ Name 31 ∷ []

-- steps =
abbrev pub steps_2 : ℕ
steps_2 = 71

abbrev pub steps_2_body : List Symbol
steps_2_body = []

-- step = dot field
abbrev pub step_1 : ℕ
step_1 = 72

abbrev pub step_1_body : List Symbol
step_1_body = Token 32 ∷ Name 3 ∷ []

-- step = bracket_open expression bracket_close
abbrev pub step_2 : ℕ
step_2 = 73

abbrev pub step_2_body : List Symbol
step_2_body = Token 27 ∷ Name 4 ∷ Token 28 ∷ []

-- area = address
abbrev pub area_1 : ℕ
area_1 = 74

abbrev pub area_1_body : List Symbol
area_1_body = Token 3 ∷ []

-- source = new_source blocks
abbrev pub source_1 : ℕ
source_1 = 75

abbrev pub source_1_body : List Symbol
source_1_body = Name 35 ∷ Name 36 ∷ []

-- new_source =
abbrev pub new_source_1 : ℕ
new_source_1 = 76

abbrev pub new_source_1_body : List Symbol
new_source_1_body = []

-- blocks = block blocks
abbrev pub blocks_1 : ℕ
blocks_1 = 77

abbrev pub blocks_1_body : List Symbol
blocks_1_body = Name 37 ∷ Name 36 ∷ []

-- blocks =
abbrev pub blocks_2 : ℕ
blocks_2 = 78

abbrev pub blocks_2_body : List Symbol
blocks_2_body = []

-- block = function_block block_name sections body end_function_block
abbrev pub block_1 : ℕ
block_1 = 79

abbrev pub block_1_body : List Symbol
block_1_body = Token 63 ∷ Name 38 ∷ Name 41 ∷ Name 76 ∷ Token 64 ∷ []

-- block = function_word block_name colon value_type sections body end_function
abbrev pub block_2 : ℕ
block_2 = 80

abbrev pub block_2_body : List Symbol
block_2_body = Token 65 ∷ Name 38 ∷ Token 29 ∷ Name 40 ∷ Name 41 ∷ Name 76 ∷ Token 66 ∷ []

-- block = organization_block block_name sections body end_organization_block
abbrev pub block_3 : ℕ
block_3 = 81

abbrev pub block_3_body : List Symbol
block_3_body = Token 67 ∷ Name 38 ∷ Name 41 ∷ Name 76 ∷ Token 68 ∷ []

-- block = data_block block_name data_type data_body end_data_block
abbrev pub block_4 : ℕ
block_4 = 82

abbrev pub block_4_body : List Symbol
block_4_body = Token 69 ∷ Name 38 ∷ Name 63 ∷ Name 77 ∷ Token 70 ∷ []

-- block = type_word block_name own_fields end_type
abbrev pub block_5 : ℕ
block_5 = 83

abbrev pub block_5_body : List Symbol
block_5_body = Token 71 ∷ Name 38 ∷ Name 57 ∷ Token 72 ∷ []

-- block_name = name
abbrev pub block_name_1 : ℕ
block_name_1 = 84

abbrev pub block_name_1_body : List Symbol
block_name_1_body = Name 39 ∷ []

-- name = word
abbrev pub name_1 : ℕ
name_1 = 85

abbrev pub name_1_body : List Symbol
name_1_body = Name 0 ∷ []

-- name = firm_name
abbrev pub name_2 : ℕ
name_2 = 86

abbrev pub name_2_body : List Symbol
name_2_body = Name 2 ∷ []

-- value_type = simple_type
abbrev pub value_type_1 : ℕ
value_type_1 = 87

abbrev pub value_type_1_body : List Symbol
value_type_1_body = Token 51 ∷ []

-- value_type = void_word
abbrev pub value_type_2 : ℕ
value_type_2 = 88

abbrev pub value_type_2_body : List Symbol
value_type_2_body = Token 53 ∷ []

-- sections = section sections
abbrev pub sections_1 : ℕ
sections_1 = 89

abbrev pub sections_1_body : List Symbol
sections_1_body = Name 42 ∷ Name 41 ∷ []

-- sections =
abbrev pub sections_2 : ℕ
sections_2 = 90

abbrev pub sections_2_body : List Symbol
sections_2_body = []

-- section = section_head declarations end_var
abbrev pub section_1 : ℕ
section_1 = 91

abbrev pub section_1_body : List Symbol
section_1_body = Name 43 ∷ Name 47 ∷ Token 59 ∷ []

-- section = const_head constants end_const
abbrev pub section_2 : ℕ
section_2 = 92

abbrev pub section_2_body : List Symbol
section_2_body = Name 44 ∷ Name 45 ∷ Token 61 ∷ []

-- section_head = section_word
abbrev pub section_head_1 : ℕ
section_head_1 = 93

abbrev pub section_head_1_body : List Symbol
section_head_1_body = Token 58 ∷ []

-- const_head = const_word
abbrev pub const_head_1 : ℕ
const_head_1 = 94

abbrev pub const_head_1_body : List Symbol
const_head_1_body = Token 60 ∷ []

-- constants = constant constants
abbrev pub constants_1 : ℕ
constants_1 = 95

abbrev pub constants_1_body : List Symbol
constants_1_body = Name 46 ∷ Name 45 ∷ []

-- constants =
abbrev pub constants_2 : ℕ
constants_2 = 96

abbrev pub constants_2_body : List Symbol
constants_2_body = []

-- constant = word assign literal semicolon
abbrev pub constant_1 : ℕ
constant_1 = 97

abbrev pub constant_1_body : List Symbol
constant_1_body = Name 0 ∷ Token 22 ∷ Name 61 ∷ Token 30 ∷ []

-- declarations = first_word declared_words
abbrev pub declarations_1 : ℕ
declarations_1 = 98

abbrev pub declarations_1_body : List Symbol
declarations_1_body = Name 48 ∷ Name 49 ∷ []

-- declarations =
abbrev pub declarations_2 : ℕ
declarations_2 = 99

abbrev pub declarations_2_body : List Symbol
declarations_2_body = []

-- first_word = word
abbrev pub first_word_1 : ℕ
first_word_1 = 100

abbrev pub first_word_1_body : List Symbol
first_word_1_body = Name 0 ∷ []

-- declared_words = next_word declared_words
abbrev pub declared_words_1 : ℕ
declared_words_1 = 101

abbrev pub declared_words_1_body : List Symbol
declared_words_1_body = Name 50 ∷ Name 49 ∷ []

-- declared_words = declared declarations
abbrev pub declared_words_2 : ℕ
declared_words_2 = 102

abbrev pub declared_words_2_body : List Symbol
declared_words_2_body = Name 51 ∷ Name 47 ∷ []

-- next_word = comma word
abbrev pub next_word_1 : ℕ
next_word_1 = 103

abbrev pub next_word_1_body : List Symbol
next_word_1_body = Token 31 ∷ Name 0 ∷ []

-- declared = type_head declared_type start_value semicolon
abbrev pub declared_1 : ℕ
declared_1 = 104

abbrev pub declared_1_body : List Symbol
declared_1_body = Name 52 ∷ Name 53 ∷ Name 59 ∷ Token 30 ∷ []

-- type_head = colon
abbrev pub type_head_1 : ℕ
type_head_1 = 105

abbrev pub type_head_1_body : List Symbol
type_head_1_body = Token 29 ∷ []

-- declared_type = simple_type
abbrev pub declared_type_1 : ℕ
declared_type_1 = 106

abbrev pub declared_type_1_body : List Symbol
declared_type_1_body = Token 51 ∷ []

-- declared_type = date_and_time
abbrev pub declared_type_2 : ℕ
declared_type_2 = 107

abbrev pub declared_type_2_body : List Symbol
declared_type_2_body = Token 52 ∷ []

-- declared_type = name
abbrev pub declared_type_3 : ℕ
declared_type_3 = 108

abbrev pub declared_type_3_body : List Symbol
declared_type_3_body = Name 39 ∷ []

-- declared_type = struct
abbrev pub declared_type_4 : ℕ
declared_type_4 = 109

abbrev pub declared_type_4_body : List Symbol
declared_type_4_body = Name 55 ∷ []

-- declared_type = array_head declared_type
abbrev pub declared_type_5 : ℕ
declared_type_5 = 110

abbrev pub declared_type_5_body : List Symbol
declared_type_5_body = Name 54 ∷ Name 53 ∷ []

-- array_head = array_word bracket_open integer dots integer bracket_close of_word
abbrev pub array_head_1 : ℕ
array_head_1 = 111

abbrev pub array_head_1_body : List Symbol
array_head_1_body = Token 54 ∷ Token 27 ∷ Name 62 ∷ Token 24 ∷ Name 62 ∷ Token 28 ∷ Token 55 ∷ []

-- struct = struct_head declarations end_struct
abbrev pub struct_1 : ℕ
struct_1 = 112

abbrev pub struct_1_body : List Symbol
struct_1_body = Name 56 ∷ Name 47 ∷ Token 57 ∷ []

-- struct_head = struct_word
abbrev pub struct_head_1 : ℕ
struct_head_1 = 113

abbrev pub struct_head_1_body : List Symbol
struct_head_1_body = Token 56 ∷ []

-- own_fields = own_head declarations end_struct maybe_semicolon
abbrev pub own_fields_1 : ℕ
own_fields_1 = 114

abbrev pub own_fields_1_body : List Symbol
own_fields_1_body = Name 58 ∷ Name 47 ∷ Token 57 ∷ Name 60 ∷ []

-- own_head = struct_word
abbrev pub own_head_1 : ℕ
own_head_1 = 115

abbrev pub own_head_1_body : List Symbol
own_head_1_body = Token 56 ∷ []

-- start_value = assign literal
abbrev pub start_value_1 : ℕ
start_value_1 = 116

abbrev pub start_value_1_body : List Symbol
start_value_1_body = Token 22 ∷ Name 61 ∷ []

-- start_value =
abbrev pub start_value_2 : ℕ
start_value_2 = 117

abbrev pub start_value_2_body : List Symbol
start_value_2_body = []

-- maybe_semicolon = semicolon
abbrev pub maybe_semicolon_1 : ℕ
maybe_semicolon_1 = 118

abbrev pub maybe_semicolon_1_body : List Symbol
maybe_semicolon_1_body = Token 30 ∷ []

-- maybe_semicolon =
abbrev pub maybe_semicolon_2 : ℕ
maybe_semicolon_2 = 119

abbrev pub maybe_semicolon_2_body : List Symbol
maybe_semicolon_2_body = []

-- literal = integer
abbrev pub literal_1 : ℕ
literal_1 = 120

abbrev pub literal_1_body : List Symbol
literal_1_body = Name 62 ∷ []

-- literal = truth
abbrev pub literal_2 : ℕ
literal_2 = 121

abbrev pub literal_2_body : List Symbol
literal_2_body = Token 45 ∷ []

-- integer = minus number
abbrev pub integer_1 : ℕ
integer_1 = 122

abbrev pub integer_1_body : List Symbol
integer_1_body = Token 35 ∷ Token 2 ∷ []

-- integer = number
abbrev pub integer_2 : ℕ
integer_2 = 123

abbrev pub integer_2_body : List Symbol
integer_2_body = Token 2 ∷ []

-- data_type = name
abbrev pub data_type_1 : ℕ
data_type_1 = 124

abbrev pub data_type_1_body : List Symbol
data_type_1_body = Name 39 ∷ []

-- data_type = own_fields
abbrev pub data_type_2 : ℕ
data_type_2 = 125

abbrev pub data_type_2_body : List Symbol
data_type_2_body = Name 57 ∷ []

-- data_head = begin_word
abbrev pub data_head_1 : ℕ
data_head_1 = 126

abbrev pub data_head_1_body : List Symbol
data_head_1_body = Token 62 ∷ []

-- data_values = data_value data_values
abbrev pub data_values_1 : ℕ
data_values_1 = 127

abbrev pub data_values_1_body : List Symbol
data_values_1_body = Name 66 ∷ Name 65 ∷ []

-- data_values =
abbrev pub data_values_2 : ℕ
data_values_2 = 128

abbrev pub data_values_2_body : List Symbol
data_values_2_body = []

-- data_value = word path_steps assign literal semicolon
abbrev pub data_value_1 : ℕ
data_value_1 = 129

abbrev pub data_value_1_body : List Symbol
data_value_1_body = Name 0 ∷ Name 67 ∷ Token 22 ∷ Name 61 ∷ Token 30 ∷ []

-- path_steps = path_step path_steps
abbrev pub path_steps_1 : ℕ
path_steps_1 = 130

abbrev pub path_steps_1_body : List Symbol
path_steps_1_body = Name 68 ∷ Name 67 ∷ []

-- path_steps =
abbrev pub path_steps_2 : ℕ
path_steps_2 = 131

abbrev pub path_steps_2_body : List Symbol
path_steps_2_body = []

-- path_step = dot field
abbrev pub path_step_1 : ℕ
path_step_1 = 132

abbrev pub path_step_1_body : List Symbol
path_step_1_body = Token 32 ∷ Name 3 ∷ []

-- path_step = bracket_open integer bracket_close
abbrev pub path_step_2 : ℕ
path_step_2 = 133

abbrev pub path_step_2_body : List Symbol
path_step_2_body = Token 27 ∷ Name 62 ∷ Token 28 ∷ []

-- plain_hash =
abbrev pub plain_hash_1 : ℕ
plain_hash_1 = 134

abbrev pub plain_hash_1_body : List Symbol
plain_hash_1_body = []

-- quoted_hash =
abbrev pub quoted_hash_1 : ℕ
quoted_hash_1 = 135

abbrev pub quoted_hash_1_body : List Symbol
quoted_hash_1_body = []

-- numbered_hash = number
abbrev pub numbered_hash_1 : ℕ
numbered_hash_1 = 136

abbrev pub numbered_hash_1_body : List Symbol
numbered_hash_1_body = Token 2 ∷ []

-- first_argument = argument_value
abbrev pub first_argument_1 : ℕ
first_argument_1 = 137

abbrev pub first_argument_1_body : List Symbol
first_argument_1_body = Name 73 ∷ []

-- argument_value = assign expression
abbrev pub argument_value_1 : ℕ
argument_value_1 = 138

abbrev pub argument_value_1_body : List Symbol
argument_value_1_body = Token 22 ∷ Name 4 ∷ []

-- argument_value = arrow expression
abbrev pub argument_value_2 : ℕ
argument_value_2 = 139

abbrev pub argument_value_2_body : List Symbol
argument_value_2_body = Token 23 ∷ Name 4 ∷ []

-- more_arguments = next_argument more_arguments
abbrev pub more_arguments_1 : ℕ
more_arguments_1 = 140

abbrev pub more_arguments_1_body : List Symbol
more_arguments_1_body = Name 75 ∷ Name 74 ∷ []

-- more_arguments =
abbrev pub more_arguments_2 : ℕ
more_arguments_2 = 141

abbrev pub more_arguments_2_body : List Symbol
more_arguments_2_body = []

-- next_argument = comma word argument_value
abbrev pub next_argument_1 : ℕ
next_argument_1 = 142

abbrev pub next_argument_1_body : List Symbol
next_argument_1_body = Token 31 ∷ Name 0 ∷ Name 73 ∷ []
