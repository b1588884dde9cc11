-- The grammar that SCL and STL share, as LL(1) productions: expressions, then blocks and declarations.
-- A chain of operators of one priority is its first operand and a tail of links.
-- Written by tools/grammar_files.py from crates/pv_scl_parse/grammar/scl.txt.
use Rattle.std.specs.Prelude.{[], ◌∷◌, ◌++◌}
use Rattle.pv_ll.specs.declared.table.Symbol.TheVariants.{Token, Name}
use Rattle.pv_ll.specs.Grammar.{Grammar, ◌⟶◌}
use Rattle.pv_parse.specs.KindNumbers.{plain, quoted, number, address, number_prefix, numbered, free_word, free_prefix, in_word, in0_word, in1_word, in2_word, mn_word, mx_word, g_word, n_word, bit_op, or_op, value_op, free_op, assign, arrow, dots, paren_open, paren_close, bracket_open, bracket_close, colon, semicolon, comma, dot, hash, plus, minus, times, mod_word, compare_sign, equals, unequal, and_word, xor_word, or_word, not_word, truth, one_function, two_function, limit_function, sel_function, shift_function, simple_type, date_and_time, void_word, array_word, of_word, struct_word, end_struct, section_word, end_var, const_word, end_const, begin_word, function_block, end_function_block, function_word, end_function, organization_block, end_organization_block, data_block, end_data_block, type_word, end_type}
use Rattle.pv_parse.specs.FrontNames.{word, label_word, firm_name, field, expression, or_tail, or_link, xor_chain, xor_tail, xor_link, and_chain, and_tail, and_link, equal_chain, equal_tail, equal_link, compare_chain, compare_tail, compare_link, sum_chain, sum_tail, sum_link, product_chain, product_tail, product_link, factor, word_read, other_factor, name_read, firm_factor, function, steps, step, area, source, new_source, blocks, block, block_name, name, value_type, sections, section, section_head, const_head, constants, constant, declarations, first_word, declared_words, next_word, declared, type_head, declared_type, array_head, struct, struct_head, own_fields, own_head, start_value, maybe_semicolon, literal, integer, data_type, data_head, data_values, data_value, path_steps, path_step, plain_hash, quoted_hash, numbered_hash, first_argument, argument_value, more_arguments, next_argument, body, data_body}

-- expressions and operands
abbrev pub expression_productions : Grammar
expression_productions =
    (word ⟶ Name label_word ∷ []) ∷
    (word ⟶ Token bit_op ∷ []) ∷
    (word ⟶ Token or_op ∷ []) ∷
    (word ⟶ Token value_op ∷ []) ∷
    (word ⟶ Token free_op ∷ []) ∷
    (label_word ⟶ Token plain ∷ []) ∷
    (label_word ⟶ Token in_word ∷ []) ∷
    (label_word ⟶ Token in0_word ∷ []) ∷
    (label_word ⟶ Token in1_word ∷ []) ∷
    (label_word ⟶ Token in2_word ∷ []) ∷
    (label_word ⟶ Token mn_word ∷ []) ∷
    (label_word ⟶ Token mx_word ∷ []) ∷
    (label_word ⟶ Token g_word ∷ []) ∷
    (label_word ⟶ Token n_word ∷ []) ∷
    (firm_name ⟶ Token quoted ∷ []) ∷
    (firm_name ⟶ Token number_prefix ∷ Token number ∷ []) ∷
    (firm_name ⟶ Token numbered ∷ []) ∷
    (field ⟶ Token free_word ∷ []) ∷
    (field ⟶ Token free_prefix ∷ []) ∷
    (expression ⟶ Name xor_chain ∷ Name or_tail ∷ []) ∷
    (or_tail ⟶ Name or_link ∷ Name or_tail ∷ []) ∷
    (or_tail ⟶ []) ∷
    (or_link ⟶ Token or_word ∷ Name xor_chain ∷ []) ∷
    (xor_chain ⟶ Name and_chain ∷ Name xor_tail ∷ []) ∷
    (xor_tail ⟶ Name xor_link ∷ Name xor_tail ∷ []) ∷
    (xor_tail ⟶ []) ∷
    (xor_link ⟶ Token xor_word ∷ Name and_chain ∷ []) ∷
    (and_chain ⟶ Name equal_chain ∷ Name and_tail ∷ []) ∷
    (and_tail ⟶ Name and_link ∷ Name and_tail ∷ []) ∷
    (and_tail ⟶ []) ∷
    (and_link ⟶ Token and_word ∷ Name equal_chain ∷ []) ∷
    (equal_chain ⟶ Name compare_chain ∷ Name equal_tail ∷ []) ∷
    (equal_tail ⟶ Name equal_link ∷ Name equal_tail ∷ []) ∷
    (equal_tail ⟶ []) ∷
    (equal_link ⟶ Token equals ∷ Name compare_chain ∷ []) ∷
    (equal_link ⟶ Token unequal ∷ Name compare_chain ∷ []) ∷
    (compare_chain ⟶ Name sum_chain ∷ Name compare_tail ∷ []) ∷
    (compare_tail ⟶ Name compare_link ∷ Name compare_tail ∷ []) ∷
    (compare_tail ⟶ []) ∷
    (compare_link ⟶ Token compare_sign ∷ Name sum_chain ∷ []) ∷
    (sum_chain ⟶ Name product_chain ∷ Name sum_tail ∷ []) ∷
    (sum_tail ⟶ Name sum_link ∷ Name sum_tail ∷ []) ∷
    (sum_tail ⟶ []) ∷
    (sum_link ⟶ Token plus ∷ Name product_chain ∷ []) ∷
    (sum_link ⟶ Token minus ∷ Name product_chain ∷ []) ∷
    (product_chain ⟶ Name factor ∷ Name product_tail ∷ []) ∷
    (product_tail ⟶ Name product_link ∷ Name product_tail ∷ []) ∷
    (product_tail ⟶ []) ∷
    (product_link ⟶ Token times ∷ Name factor ∷ []) ∷
    (product_link ⟶ Token mod_word ∷ Name factor ∷ []) ∷
    (factor ⟶ Name word_read ∷ []) ∷
    (factor ⟶ Name other_factor ∷ []) ∷
    (word_read ⟶ Name word ∷ Name steps ∷ []) ∷
    (other_factor ⟶ Name name_read ∷ []) ∷
    (other_factor ⟶ Name firm_factor ∷ []) ∷
    (name_read ⟶ Token hash ∷ Name field ∷ Name steps ∷ []) ∷
    (name_read ⟶ Name firm_name ∷ Name steps ∷ []) ∷
    (firm_factor ⟶ Name area ∷ Name steps ∷ []) ∷
    (firm_factor ⟶ Token number ∷ []) ∷
    (firm_factor ⟶ Token truth ∷ []) ∷
    (firm_factor ⟶ Token paren_open ∷ Name expression ∷ Token paren_close ∷ []) ∷
    (firm_factor ⟶ Name function ∷ []) ∷
    (firm_factor ⟶ Token plus ∷ Name factor ∷ []) ∷
    (firm_factor ⟶ Token minus ∷ Name factor ∷ []) ∷
    (firm_factor ⟶ Token not_word ∷ Name factor ∷ []) ∷
    (function ⟶ Token one_function ∷ Token paren_open ∷ Name expression ∷ Token paren_close ∷ []) ∷
    (function ⟶ Token two_function ∷ Token paren_open ∷ Token in1_word ∷ Token assign ∷ Name expression ∷ Token comma ∷ Token in2_word ∷ Token assign ∷ Name expression ∷ Token paren_close ∷ []) ∷
    (function ⟶ Token limit_function ∷ Token paren_open ∷ Token mn_word ∷ Token assign ∷ Name expression ∷ Token comma ∷ Token in_word ∷ Token assign ∷ Name expression ∷ Token comma ∷ Token mx_word ∷ Token assign ∷ Name expression ∷ Token paren_close ∷ []) ∷
    (function ⟶ Token sel_function ∷ Token paren_open ∷ Token g_word ∷ Token assign ∷ Name expression ∷ Token comma ∷ Token in0_word ∷ Token assign ∷ Name expression ∷ Token comma ∷ Token in1_word ∷ Token assign ∷ Name expression ∷ Token paren_close ∷ []) ∷
    (function ⟶ Token shift_function ∷ Token paren_open ∷ Token in_word ∷ Token assign ∷ Name expression ∷ Token comma ∷ Token n_word ∷ Token assign ∷ Name expression ∷ Token paren_close ∷ []) ∷
    (steps ⟶ Name step ∷ Name steps ∷ []) ∷
    (steps ⟶ []) ∷
    (step ⟶ Token dot ∷ Name field ∷ []) ∷
    (step ⟶ Token bracket_open ∷ Name expression ∷ Token bracket_close ∷ []) ∷
    (area ⟶ Token address ∷ []) ∷
    []

-- blocks, declarations, values of data blocks, and what calls share
abbrev pub declaration_productions : Grammar
declaration_productions =
    (source ⟶ Name new_source ∷ Name blocks ∷ []) ∷
    (new_source ⟶ []) ∷
    (blocks ⟶ Name block ∷ Name blocks ∷ []) ∷
    (blocks ⟶ []) ∷
    (block ⟶ Token function_block ∷ Name block_name ∷ Name sections ∷ Name body ∷ Token end_function_block ∷ []) ∷
    (block ⟶ Token function_word ∷ Name block_name ∷ Token colon ∷ Name value_type ∷ Name sections ∷ Name body ∷ Token end_function ∷ []) ∷
    (block ⟶ Token organization_block ∷ Name block_name ∷ Name sections ∷ Name body ∷ Token end_organization_block ∷ []) ∷
    (block ⟶ Token data_block ∷ Name block_name ∷ Name data_type ∷ Name data_body ∷ Token end_data_block ∷ []) ∷
    (block ⟶ Token type_word ∷ Name block_name ∷ Name own_fields ∷ Token end_type ∷ []) ∷
    (block_name ⟶ Name name ∷ []) ∷
    (name ⟶ Name word ∷ []) ∷
    (name ⟶ Name firm_name ∷ []) ∷
    (value_type ⟶ Token simple_type ∷ []) ∷
    (value_type ⟶ Token void_word ∷ []) ∷
    (sections ⟶ Name section ∷ Name sections ∷ []) ∷
    (sections ⟶ []) ∷
    (section ⟶ Name section_head ∷ Name declarations ∷ Token end_var ∷ []) ∷
    (section ⟶ Name const_head ∷ Name constants ∷ Token end_const ∷ []) ∷
    (section_head ⟶ Token section_word ∷ []) ∷
    (const_head ⟶ Token const_word ∷ []) ∷
    (constants ⟶ Name constant ∷ Name constants ∷ []) ∷
    (constants ⟶ []) ∷
    (constant ⟶ Name word ∷ Token assign ∷ Name literal ∷ Token semicolon ∷ []) ∷
    (declarations ⟶ Name first_word ∷ Name declared_words ∷ []) ∷
    (declarations ⟶ []) ∷
    (first_word ⟶ Name word ∷ []) ∷
    (declared_words ⟶ Name next_word ∷ Name declared_words ∷ []) ∷
    (declared_words ⟶ Name declared ∷ Name declarations ∷ []) ∷
    (next_word ⟶ Token comma ∷ Name word ∷ []) ∷
    (declared ⟶ Name type_head ∷ Name declared_type ∷ Name start_value ∷ Token semicolon ∷ []) ∷
    (type_head ⟶ Token colon ∷ []) ∷
    (declared_type ⟶ Token simple_type ∷ []) ∷
    (declared_type ⟶ Token date_and_time ∷ []) ∷
    (declared_type ⟶ Name name ∷ []) ∷
    (declared_type ⟶ Name struct ∷ []) ∷
    (declared_type ⟶ Name array_head ∷ Name declared_type ∷ []) ∷
    (array_head ⟶ Token array_word ∷ Token bracket_open ∷ Name integer ∷ Token dots ∷ Name integer ∷ Token bracket_close ∷ Token of_word ∷ []) ∷
    (struct ⟶ Name struct_head ∷ Name declarations ∷ Token end_struct ∷ []) ∷
    (struct_head ⟶ Token struct_word ∷ []) ∷
    (own_fields ⟶ Name own_head ∷ Name declarations ∷ Token end_struct ∷ Name maybe_semicolon ∷ []) ∷
    (own_head ⟶ Token struct_word ∷ []) ∷
    (start_value ⟶ Token assign ∷ Name literal ∷ []) ∷
    (start_value ⟶ []) ∷
    (maybe_semicolon ⟶ Token semicolon ∷ []) ∷
    (maybe_semicolon ⟶ []) ∷
    (literal ⟶ Name integer ∷ []) ∷
    (literal ⟶ Token truth ∷ []) ∷
    (integer ⟶ Token minus ∷ Token number ∷ []) ∷
    (integer ⟶ Token number ∷ []) ∷
    (data_type ⟶ Name name ∷ []) ∷
    (data_type ⟶ Name own_fields ∷ []) ∷
    (data_head ⟶ Token begin_word ∷ []) ∷
    (data_values ⟶ Name data_value ∷ Name data_values ∷ []) ∷
    (data_values ⟶ []) ∷
    (data_value ⟶ Name word ∷ Name path_steps ∷ Token assign ∷ Name literal ∷ Token semicolon ∷ []) ∷
    (path_steps ⟶ Name path_step ∷ Name path_steps ∷ []) ∷
    (path_steps ⟶ []) ∷
    (path_step ⟶ Token dot ∷ Name field ∷ []) ∷
    (path_step ⟶ Token bracket_open ∷ Name integer ∷ Token bracket_close ∷ []) ∷
    (plain_hash ⟶ []) ∷
    (quoted_hash ⟶ []) ∷
    (numbered_hash ⟶ Token number ∷ []) ∷
    (first_argument ⟶ Name argument_value ∷ []) ∷
    (argument_value ⟶ Token assign ∷ Name expression ∷ []) ∷
    (argument_value ⟶ Token arrow ∷ Name expression ∷ []) ∷
    (more_arguments ⟶ Name next_argument ∷ Name more_arguments ∷ []) ∷
    (more_arguments ⟶ []) ∷
    (next_argument ⟶ Token comma ∷ Name word ∷ Name argument_value ∷ []) ∷
    []

-- the productions that have the same numbers in both languages
abbrev pub front : Grammar
front = expression_productions ++ declaration_productions
