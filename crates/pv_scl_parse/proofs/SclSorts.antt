-- The sorts of the names of SCL's grammar, and what a law of one of its productions is.
use Rattle.std.proofs.Common.{ℕ, true, false, List, [], ◌∷◌, ◌++◌}
use Rattle.pv_lex.specs.declared.token.Language.TheVariants.{Scl}
use Rattle.pv_ll.specs.declared.table.Symbol.{Symbol}
use Rattle.pv_ll.specs.Meaning.{Law}
use Rattle.pv_parse.proofs.ForCallers.{Sort, walk, tail, code_of, for_value, for_stmt, a_side, adds, after_arg, after_case_word, after_dot, after_hash, after_hash_prefix, after_prefix, after_second, after_word, args, arm, assignment, bare_call, branching, by_of, calls, case_items, choosing, colon_of, ended, first_range, label_rest, labelled, list, more_arms, more_choices, next_range, numbered_second, other_of, plain_second, quoted_second, reading, second, second_number, unended, word_choice, word_item, expression_sorts, declaration_sorts, call_sorts, body_sorts, sure_making, meaning}
use Rattle.pv_scl_parse.specs.SclActions.{scl_actions}

-- statements and calls
abbrev pub statement_sorts : List Sort
statement_sorts =
    -- list
    code_of list ∷
    -- new_list
    code_of list ∷
    -- items
    code_of adds ∷
    -- item
    code_of adds ∷
    -- firm_item
    code_of ended ∷
    -- word_item
    code_of word_item ∷
    -- other_statement
    code_of unended ∷
    -- first_arm
    code_of arm ∷
    -- elsifs
    code_of more_arms ∷
    -- elsif
    code_of more_arms ∷
    -- maybe_else
    code_of (other_of false) ∷
    -- maybe_by
    code_of by_of ∷
    -- branches
    code_of branching ∷
    -- new_branches
    code_of branching ∷
    -- label
    code_of labelled ∷
    -- label_rest
    code_of label_rest ∷
    -- first_range
    code_of first_range ∷
    -- more_choices
    code_of more_choices ∷
    -- next_choice
    code_of more_choices ∷
    -- next_range
    code_of next_range ∷
    -- choice
    code_of choosing ∷
    -- literal_choice
    code_of choosing ∷
    -- word_choice
    code_of word_choice ∷
    -- case_items
    code_of case_items ∷
    -- case_item
    code_of case_items ∷
    -- after_case_word
    code_of after_case_word ∷
    -- case_else
    code_of (other_of true) ∷
    -- maybe_colon
    code_of colon_of ∷
    -- after_word
    code_of (after_word for_stmt) ∷
    -- after_dot
    code_of (after_dot for_stmt) ∷
    -- after_prefix
    code_of (after_prefix for_stmt) ∷
    -- after_second
    code_of (after_second for_stmt) ∷
    -- after_hash
    code_of (after_hash for_stmt) ∷
    -- after_hash_prefix
    code_of (after_hash_prefix for_stmt) ∷
    -- assignment
    code_of assignment ∷
    -- maybe_index
    walk ∷
    -- first_index
    walk ∷
    -- plain_second
    code_of plain_second ∷
    -- quoted_second
    code_of quoted_second ∷
    -- numbered_second
    code_of numbered_second ∷
    -- called
    code_of bare_call ∷
    -- second_name
    code_of second ∷
    -- second_number
    code_of second_number ∷
    -- call_arguments
    code_of calls ∷
    -- arguments
    code_of args ∷
    -- after_argument_word
    code_of after_arg ∷
    -- value
    code_of a_side ∷
    -- value_after_word
    code_of (after_word for_value) ∷
    -- value_after_dot
    code_of (after_dot for_value) ∷
    -- value_after_prefix
    code_of (after_prefix for_value) ∷
    -- value_after_second
    code_of (after_second for_value) ∷
    -- value_after_hash
    code_of (after_hash for_value) ∷
    -- value_after_hash_prefix
    code_of (after_hash_prefix for_value) ∷
    -- first_read
    code_of reading ∷
    -- second_read
    code_of reading ∷
    -- chain
    tail 7 0 ∷
    []

-- all
abbrev pub scl_sorts : List Sort
scl_sorts = expression_sorts ++ (declaration_sorts Scl ++ (call_sorts ++ (body_sorts Scl ++ statement_sorts)))

-- a law in SCL's grammar
abbrev pub Lawful : ℕ → ℕ → List Symbol → Type 0
Lawful k m body = Law (sure_making scl_actions) (meaning scl_sorts) k m body
