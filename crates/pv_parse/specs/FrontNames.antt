-- The names of the grammar that SCL and STL share, by their numbers; the last two have bodies of each
-- language's own. Written by tools/grammar_files.py from crates/pv_scl_parse/grammar/scl.txt.
use Rattle.std.specs.Prelude.{ℕ}

abbrev pub word : ℕ
word = 0

abbrev pub label_word : ℕ
label_word = 1

abbrev pub firm_name : ℕ
firm_name = 2

abbrev pub field : ℕ
field = 3

abbrev pub expression : ℕ
expression = 4

abbrev pub or_tail : ℕ
or_tail = 5

abbrev pub or_link : ℕ
or_link = 6

abbrev pub xor_chain : ℕ
xor_chain = 7

abbrev pub xor_tail : ℕ
xor_tail = 8

abbrev pub xor_link : ℕ
xor_link = 9

abbrev pub and_chain : ℕ
and_chain = 10

abbrev pub and_tail : ℕ
and_tail = 11

abbrev pub and_link : ℕ
and_link = 12

abbrev pub equal_chain : ℕ
equal_chain = 13

abbrev pub equal_tail : ℕ
equal_tail = 14

abbrev pub equal_link : ℕ
equal_link = 15

abbrev pub compare_chain : ℕ
compare_chain = 16

abbrev pub compare_tail : ℕ
compare_tail = 17

abbrev pub compare_link : ℕ
compare_link = 18

abbrev pub sum_chain : ℕ
sum_chain = 19

abbrev pub sum_tail : ℕ
sum_tail = 20

abbrev pub sum_link : ℕ
sum_link = 21

abbrev pub product_chain : ℕ
product_chain = 22

abbrev pub product_tail : ℕ
product_tail = 23

abbrev pub product_link : ℕ
product_link = 24

abbrev pub factor : ℕ
factor = 25

abbrev pub word_read : ℕ
word_read = 26

abbrev pub other_factor : ℕ
other_factor = 27

abbrev pub name_read : ℕ
name_read = 28

abbrev pub firm_factor : ℕ
firm_factor = 29

abbrev pub function : ℕ
function = 30

abbrev pub steps : ℕ
steps = 31

abbrev pub step : ℕ
step = 32

abbrev pub area : ℕ
area = 33

abbrev pub source : ℕ
source = 34

abbrev pub new_source : ℕ
new_source = 35

abbrev pub blocks : ℕ
blocks = 36

abbrev pub block : ℕ
block = 37

abbrev pub block_name : ℕ
block_name = 38

abbrev pub name : ℕ
name = 39

abbrev pub value_type : ℕ
value_type = 40

abbrev pub sections : ℕ
sections = 41

abbrev pub section : ℕ
section = 42

abbrev pub section_head : ℕ
section_head = 43

abbrev pub const_head : ℕ
const_head = 44

abbrev pub constants : ℕ
constants = 45

abbrev pub constant : ℕ
constant = 46

abbrev pub declarations : ℕ
declarations = 47

abbrev pub first_word : ℕ
first_word = 48

abbrev pub declared_words : ℕ
declared_words = 49

abbrev pub next_word : ℕ
next_word = 50

abbrev pub declared : ℕ
declared = 51

abbrev pub type_head : ℕ
type_head = 52

abbrev pub declared_type : ℕ
declared_type = 53

abbrev pub array_head : ℕ
array_head = 54

abbrev pub struct : ℕ
struct = 55

abbrev pub struct_head : ℕ
struct_head = 56

abbrev pub own_fields : ℕ
own_fields = 57

abbrev pub own_head : ℕ
own_head = 58

abbrev pub start_value : ℕ
start_value = 59

abbrev pub maybe_semicolon : ℕ
maybe_semicolon = 60

abbrev pub literal : ℕ
literal = 61

abbrev pub integer : ℕ
integer = 62

abbrev pub data_type : ℕ
data_type = 63

abbrev pub data_head : ℕ
data_head = 64

abbrev pub data_values : ℕ
data_values = 65

abbrev pub data_value : ℕ
data_value = 66

abbrev pub path_steps : ℕ
path_steps = 67

abbrev pub path_step : ℕ
path_step = 68

abbrev pub plain_hash : ℕ
plain_hash = 69

abbrev pub quoted_hash : ℕ
quoted_hash = 70

abbrev pub numbered_hash : ℕ
numbered_hash = 71

abbrev pub first_argument : ℕ
first_argument = 72

abbrev pub argument_value : ℕ
argument_value = 73

abbrev pub more_arguments : ℕ
more_arguments = 74

abbrev pub next_argument : ℕ
next_argument = 75

abbrev pub body : ℕ
body = 76

abbrev pub data_body : ℕ
data_body = 77
