-- The grammar of SCL, as LL(1) productions: the front that STL shares, then bodies and statements.
-- Written by tools/grammar_files.py from crates/pv_scl_parse/grammar/scl.txt.
use Rattle.std.specs.Prelude.{[], ◌∷◌, ◌++◌}
use Rattle.pv_ll.specs.declared.table.Symbol.TheVariants.{Token, Name}
use Rattle.pv_ll.specs.Grammar.{Grammar, ◌⟶◌}
use Rattle.pv_parse.specs.KindNumbers.{quoted, number, free_word, free_prefix, free_numbered, assign, dots, paren_open, paren_close, bracket_open, bracket_close, colon, semicolon, comma, dot, hash, of_word, begin_word, if_word, then_word, elsif_word, else_word, end_if, case_word, end_case, for_word, to_word, by_word, do_word, end_for, while_word, end_while, repeat_word, until_word, end_repeat, single_word}
use Rattle.pv_parse.specs.FrontNames.{word, firm_name, expression, or_tail, xor_tail, and_tail, equal_tail, compare_tail, sum_tail, product_tail, other_factor, firm_factor, steps, area, literal, data_head, data_values, plain_hash, quoted_hash, numbered_hash, first_argument, more_arguments, body, data_body}
use Rattle.pv_scl_parse.specs.OwnNames.{list, new_list, items, item, firm_item, word_item, other_statement, first_arm, elsifs, elsif, maybe_else, maybe_by, branches, new_branches, label, label_rest, first_range, more_choices, next_choice, next_range, choice, literal_choice, word_choice, case_items, case_item, after_case_word, case_else, maybe_colon, after_word, after_dot, after_prefix, after_second, after_hash, after_hash_prefix, assignment, maybe_index, first_index, plain_second, quoted_second, numbered_second, called, second_name, second_number, call_arguments, arguments, after_argument_word, value, value_after_word, value_after_dot, value_after_prefix, value_after_second, value_after_hash, value_after_hash_prefix, first_read, second_read, chain}
use Rattle.pv_parse.specs.Front.{front}

-- bodies, statements and calls
abbrev pub statement_productions : Grammar
statement_productions =
    (body ⟶ Token begin_word ∷ Name list ∷ []) ∷
    (body ⟶ Name list ∷ []) ∷
    (data_body ⟶ Name data_head ∷ Name data_values ∷ []) ∷
    (data_body ⟶ []) ∷
    (list ⟶ Name new_list ∷ Name items ∷ []) ∷
    (new_list ⟶ []) ∷
    (items ⟶ Name item ∷ Name items ∷ []) ∷
    (items ⟶ []) ∷
    (item ⟶ Name firm_item ∷ []) ∷
    (item ⟶ Name word ∷ Name word_item ∷ []) ∷
    (firm_item ⟶ Token semicolon ∷ []) ∷
    (firm_item ⟶ Name other_statement ∷ Token semicolon ∷ []) ∷
    (word_item ⟶ Name after_word ∷ Token semicolon ∷ []) ∷
    (other_statement ⟶ Token hash ∷ Name after_hash ∷ []) ∷
    (other_statement ⟶ Name firm_name ∷ Name after_word ∷ []) ∷
    (other_statement ⟶ Name area ∷ Name steps ∷ Name assignment ∷ []) ∷
    (other_statement ⟶ Token if_word ∷ Name first_arm ∷ Name elsifs ∷ Name maybe_else ∷ Token end_if ∷ []) ∷
    (other_statement ⟶ Token case_word ∷ Name expression ∷ Token of_word ∷ Name branches ∷ Name case_else ∷ Token end_case ∷ []) ∷
    (other_statement ⟶ Token for_word ∷ Name word ∷ Token assign ∷ Name expression ∷ Token to_word ∷ Name expression ∷ Name maybe_by ∷ Token do_word ∷ Name list ∷ Token end_for ∷ []) ∷
    (other_statement ⟶ Token while_word ∷ Name expression ∷ Token do_word ∷ Name list ∷ Token end_while ∷ []) ∷
    (other_statement ⟶ Token repeat_word ∷ Name list ∷ Token until_word ∷ Name expression ∷ Token end_repeat ∷ []) ∷
    (other_statement ⟶ Token single_word ∷ []) ∷
    (first_arm ⟶ Name expression ∷ Token then_word ∷ Name list ∷ []) ∷
    (elsifs ⟶ Name elsif ∷ Name elsifs ∷ []) ∷
    (elsifs ⟶ []) ∷
    (elsif ⟶ Token elsif_word ∷ Name expression ∷ Token then_word ∷ Name list ∷ []) ∷
    (maybe_else ⟶ Token else_word ∷ Name list ∷ []) ∷
    (maybe_else ⟶ []) ∷
    (maybe_by ⟶ Token by_word ∷ Name literal ∷ []) ∷
    (maybe_by ⟶ []) ∷
    (branches ⟶ Name new_branches ∷ Name label ∷ Name case_items ∷ []) ∷
    (branches ⟶ []) ∷
    (new_branches ⟶ []) ∷
    (label ⟶ Name choice ∷ Name label_rest ∷ []) ∷
    (label_rest ⟶ Name first_range ∷ Name more_choices ∷ Token colon ∷ []) ∷
    (first_range ⟶ Token dots ∷ Name choice ∷ []) ∷
    (first_range ⟶ []) ∷
    (more_choices ⟶ Name next_choice ∷ Name more_choices ∷ []) ∷
    (more_choices ⟶ []) ∷
    (next_choice ⟶ Token comma ∷ Name choice ∷ Name next_range ∷ []) ∷
    (next_range ⟶ Token dots ∷ Name choice ∷ []) ∷
    (next_range ⟶ []) ∷
    (choice ⟶ Name literal_choice ∷ []) ∷
    (choice ⟶ Name word ∷ Name word_choice ∷ []) ∷
    (literal_choice ⟶ Name literal ∷ []) ∷
    (word_choice ⟶ []) ∷
    (case_items ⟶ Name case_item ∷ Name case_items ∷ []) ∷
    (case_items ⟶ []) ∷
    (case_item ⟶ Name firm_item ∷ []) ∷
    (case_item ⟶ Name literal_choice ∷ Name label_rest ∷ []) ∷
    (case_item ⟶ Name word ∷ Name after_case_word ∷ []) ∷
    (after_case_word ⟶ Name word_choice ∷ Name label_rest ∷ []) ∷
    (after_case_word ⟶ Name word_item ∷ []) ∷
    (case_else ⟶ Token else_word ∷ Name maybe_colon ∷ Name list ∷ []) ∷
    (case_else ⟶ []) ∷
    (maybe_colon ⟶ Token colon ∷ []) ∷
    (maybe_colon ⟶ []) ∷
    (after_word ⟶ Name call_arguments ∷ []) ∷
    (after_word ⟶ Token dot ∷ Name after_dot ∷ []) ∷
    (after_word ⟶ Name maybe_index ∷ Name assignment ∷ []) ∷
    (after_dot ⟶ Token free_word ∷ Name plain_second ∷ Name after_second ∷ []) ∷
    (after_dot ⟶ Token free_prefix ∷ Name after_prefix ∷ []) ∷
    (after_dot ⟶ Token free_numbered ∷ Name plain_second ∷ Name call_arguments ∷ []) ∷
    (after_dot ⟶ Token quoted ∷ Name quoted_second ∷ Name call_arguments ∷ []) ∷
    (after_prefix ⟶ Name numbered_second ∷ Name call_arguments ∷ []) ∷
    (after_prefix ⟶ Name plain_second ∷ Name after_second ∷ []) ∷
    (after_second ⟶ Name call_arguments ∷ []) ∷
    (after_second ⟶ Name steps ∷ Name assignment ∷ []) ∷
    (after_hash ⟶ Token free_word ∷ Name plain_hash ∷ Name after_word ∷ []) ∷
    (after_hash ⟶ Token free_prefix ∷ Name after_hash_prefix ∷ []) ∷
    (after_hash ⟶ Token free_numbered ∷ Name plain_hash ∷ Name called ∷ []) ∷
    (after_hash ⟶ Token quoted ∷ Name quoted_hash ∷ Name called ∷ []) ∷
    (after_hash_prefix ⟶ Name numbered_hash ∷ Name called ∷ []) ∷
    (after_hash_prefix ⟶ Name plain_hash ∷ Name after_word ∷ []) ∷
    (assignment ⟶ Token assign ∷ Name value ∷ []) ∷
    (maybe_index ⟶ Name first_index ∷ Name steps ∷ []) ∷
    (maybe_index ⟶ []) ∷
    (first_index ⟶ Token bracket_open ∷ Name expression ∷ Token bracket_close ∷ []) ∷
    (plain_second ⟶ []) ∷
    (quoted_second ⟶ []) ∷
    (numbered_second ⟶ Token number ∷ []) ∷
    (called ⟶ Name call_arguments ∷ []) ∷
    (called ⟶ Token dot ∷ Name second_name ∷ Name call_arguments ∷ []) ∷
    (second_name ⟶ Token free_word ∷ Name plain_second ∷ []) ∷
    (second_name ⟶ Token free_prefix ∷ Name second_number ∷ []) ∷
    (second_name ⟶ Token free_numbered ∷ Name plain_second ∷ []) ∷
    (second_name ⟶ Token quoted ∷ Name quoted_second ∷ []) ∷
    (second_number ⟶ Name numbered_second ∷ []) ∷
    (second_number ⟶ Name plain_second ∷ []) ∷
    (call_arguments ⟶ Token paren_open ∷ Name arguments ∷ Token paren_close ∷ []) ∷
    (arguments ⟶ Name word ∷ Name after_argument_word ∷ []) ∷
    (arguments ⟶ Name other_factor ∷ Name chain ∷ []) ∷
    (arguments ⟶ []) ∷
    (after_argument_word ⟶ Name first_argument ∷ Name more_arguments ∷ []) ∷
    (after_argument_word ⟶ Name second_read ∷ Name chain ∷ []) ∷
    (value ⟶ Name word ∷ Name value_after_word ∷ []) ∷
    (value ⟶ Token hash ∷ Name value_after_hash ∷ []) ∷
    (value ⟶ Name firm_name ∷ Name value_after_word ∷ []) ∷
    (value ⟶ Name firm_factor ∷ Name chain ∷ []) ∷
    (value_after_word ⟶ Name call_arguments ∷ []) ∷
    (value_after_word ⟶ Token dot ∷ Name value_after_dot ∷ []) ∷
    (value_after_word ⟶ Name first_read ∷ Name chain ∷ []) ∷
    (value_after_dot ⟶ Token free_word ∷ Name plain_second ∷ Name value_after_second ∷ []) ∷
    (value_after_dot ⟶ Token free_prefix ∷ Name value_after_prefix ∷ []) ∷
    (value_after_dot ⟶ Token free_numbered ∷ Name plain_second ∷ Name call_arguments ∷ []) ∷
    (value_after_dot ⟶ Token quoted ∷ Name quoted_second ∷ Name call_arguments ∷ []) ∷
    (value_after_prefix ⟶ Name numbered_second ∷ Name call_arguments ∷ []) ∷
    (value_after_prefix ⟶ Name plain_second ∷ Name value_after_second ∷ []) ∷
    (value_after_second ⟶ Name call_arguments ∷ []) ∷
    (value_after_second ⟶ Name second_read ∷ Name chain ∷ []) ∷
    (value_after_hash ⟶ Token free_word ∷ Name plain_hash ∷ Name value_after_word ∷ []) ∷
    (value_after_hash ⟶ Token free_prefix ∷ Name value_after_hash_prefix ∷ []) ∷
    (value_after_hash ⟶ Token free_numbered ∷ Name plain_hash ∷ Name called ∷ []) ∷
    (value_after_hash ⟶ Token quoted ∷ Name quoted_hash ∷ Name called ∷ []) ∷
    (value_after_hash_prefix ⟶ Name numbered_hash ∷ Name called ∷ []) ∷
    (value_after_hash_prefix ⟶ Name plain_hash ∷ Name value_after_word ∷ []) ∷
    (first_read ⟶ Name maybe_index ∷ []) ∷
    (second_read ⟶ Name steps ∷ []) ∷
    (chain ⟶ Name product_tail ∷ Name sum_tail ∷ Name compare_tail ∷ Name equal_tail ∷ Name and_tail ∷ Name xor_tail ∷ Name or_tail ∷ []) ∷
    []

-- the whole grammar
abbrev pub scl_grammar : Grammar
scl_grammar = front ++ statement_productions
