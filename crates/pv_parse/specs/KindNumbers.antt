-- The kinds of tokens that the grammars of SCL and STL tell apart, by their numbers: one list for
-- both. Written by tools/grammar_files.py from crates/pv_scl_parse/grammar/scl.txt.
use Rattle.std.specs.Prelude.{ℕ}

-- names and literals
abbrev pub plain : ℕ
plain = 0

abbrev pub quoted : ℕ
quoted = 1

abbrev pub number : ℕ
number = 2

abbrev pub address : ℕ
address = 3

-- OB FB FC DB UDT (a Number stands behind), and such a word with its digits in it
abbrev pub number_prefix : ℕ
number_prefix = 4

abbrev pub numbered : ℕ
numbered = 5

-- the same three, directly behind `#` or `.`: there any word is a name
abbrev pub free_word : ℕ
free_word = 6

abbrev pub free_prefix : ℕ
free_prefix = 7

abbrev pub free_numbered : ℕ
free_numbered = 8

-- the fixed words of the standard functions' arguments; words like any other elsewhere
abbrev pub in_word : ℕ
in_word = 9

abbrev pub in0_word : ℕ
in0_word = 10

abbrev pub in1_word : ℕ
in1_word = 11

abbrev pub in2_word : ℕ
in2_word = 12

abbrev pub mn_word : ℕ
mn_word = 13

abbrev pub mx_word : ℕ
mx_word = 14

abbrev pub g_word : ℕ
g_word = 15

abbrev pub n_word : ℕ
n_word = 16

-- STL instructions, by what may stand behind them; words like any other elsewhere
abbrev pub bit_op : ℕ
bit_op = 17

abbrev pub or_op : ℕ
or_op = 18

abbrev pub value_op : ℕ
value_op = 19

abbrev pub free_op : ℕ
free_op = 20

-- STL instructions that are signs: ==I .. /D
abbrev pub stl_sign : ℕ
stl_sign = 21

-- signs
abbrev pub assign : ℕ
assign = 22

abbrev pub arrow : ℕ
arrow = 23

abbrev pub dots : ℕ
dots = 24

abbrev pub paren_open : ℕ
paren_open = 25

abbrev pub paren_close : ℕ
paren_close = 26

abbrev pub bracket_open : ℕ
bracket_open = 27

abbrev pub bracket_close : ℕ
bracket_close = 28

abbrev pub colon : ℕ
colon = 29

abbrev pub semicolon : ℕ
semicolon = 30

abbrev pub comma : ℕ
comma = 31

abbrev pub dot : ℕ
dot = 32

abbrev pub hash : ℕ
hash = 33

-- operators
abbrev pub plus : ℕ
plus = 34

abbrev pub minus : ℕ
minus = 35

abbrev pub times : ℕ
times = 36

abbrev pub mod_word : ℕ
mod_word = 37

abbrev pub compare_sign : ℕ
compare_sign = 38

abbrev pub equals : ℕ
equals = 39

abbrev pub unequal : ℕ
unequal = 40

abbrev pub and_word : ℕ
and_word = 41

abbrev pub xor_word : ℕ
xor_word = 42

abbrev pub or_word : ℕ
or_word = 43

abbrev pub not_word : ℕ
not_word = 44

abbrev pub truth : ℕ
truth = 45

abbrev pub one_function : ℕ
one_function = 46

abbrev pub two_function : ℕ
two_function = 47

abbrev pub limit_function : ℕ
limit_function = 48

abbrev pub sel_function : ℕ
sel_function = 49

abbrev pub shift_function : ℕ
shift_function = 50

-- declarations
abbrev pub simple_type : ℕ
simple_type = 51

abbrev pub date_and_time : ℕ
date_and_time = 52

abbrev pub void_word : ℕ
void_word = 53

abbrev pub array_word : ℕ
array_word = 54

abbrev pub of_word : ℕ
of_word = 55

abbrev pub struct_word : ℕ
struct_word = 56

abbrev pub end_struct : ℕ
end_struct = 57

abbrev pub section_word : ℕ
section_word = 58

abbrev pub end_var : ℕ
end_var = 59

abbrev pub const_word : ℕ
const_word = 60

abbrev pub end_const : ℕ
end_const = 61

abbrev pub begin_word : ℕ
begin_word = 62

abbrev pub function_block : ℕ
function_block = 63

abbrev pub end_function_block : ℕ
end_function_block = 64

abbrev pub function_word : ℕ
function_word = 65

abbrev pub end_function : ℕ
end_function = 66

abbrev pub organization_block : ℕ
organization_block = 67

abbrev pub end_organization_block : ℕ
end_organization_block = 68

abbrev pub data_block : ℕ
data_block = 69

abbrev pub end_data_block : ℕ
end_data_block = 70

abbrev pub type_word : ℕ
type_word = 71

abbrev pub end_type : ℕ
end_type = 72

-- statements
abbrev pub if_word : ℕ
if_word = 73

abbrev pub then_word : ℕ
then_word = 74

abbrev pub elsif_word : ℕ
elsif_word = 75

abbrev pub else_word : ℕ
else_word = 76

abbrev pub end_if : ℕ
end_if = 77

abbrev pub case_word : ℕ
case_word = 78

abbrev pub end_case : ℕ
end_case = 79

abbrev pub for_word : ℕ
for_word = 80

abbrev pub to_word : ℕ
to_word = 81

abbrev pub by_word : ℕ
by_word = 82

abbrev pub do_word : ℕ
do_word = 83

abbrev pub end_for : ℕ
end_for = 84

abbrev pub while_word : ℕ
while_word = 85

abbrev pub end_while : ℕ
end_while = 86

abbrev pub repeat_word : ℕ
repeat_word = 87

abbrev pub until_word : ℕ
until_word = 88

abbrev pub end_repeat : ℕ
end_repeat = 89

abbrev pub single_word : ℕ
single_word = 90

-- STL
abbrev pub network_word : ℕ
network_word = 91

abbrev pub call_word : ℕ
call_word = 92

abbrev pub uc_word : ℕ
uc_word = 93

-- what stands in no text: a Real, `**`
abbrev pub outside : ℕ
outside = 94
