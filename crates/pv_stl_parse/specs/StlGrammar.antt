-- The grammar of STL, as LL(1) productions: the front that SCL shares, then bodies and instructions.
-- Written by tools/grammar_files.py from crates/pv_stl_parse/grammar/stl.txt.
use Rattle.std.specs.Prelude.{[], ◌∷◌, ◌++◌}
use Rattle.pv_ll.specs.declared.table.Symbol.TheVariants.{Token, Name}
use Rattle.pv_ll.specs.Grammar.{Grammar, ◌⟶◌}
use Rattle.pv_parse.specs.KindNumbers.{quoted, number, free_word, free_prefix, free_numbered, bit_op, or_op, value_op, free_op, stl_sign, paren_open, paren_close, colon, semicolon, comma, hash, minus, mod_word, equals, not_word, truth, begin_word, network_word, call_word, uc_word}
use Rattle.pv_parse.specs.FrontNames.{word, label_word, firm_name, steps, area, data_head, data_values, plain_hash, quoted_hash, numbered_hash, first_argument, more_arguments, body, data_body}
use Rattle.pv_stl_parse.specs.OwnNames.{new_code, instructions, instruction, no_label, labelled, label, after_bit_op, after_or_op, after_value_op, after_free_op, operation, firm_operation, bit_operand, or_operand, opening, maybe_value, value, operand, hashed_word, number_value, called_name, plain_called, hashed_name, hashed_prefix, base, base_name, call_arguments, bare_call}
use Rattle.pv_parse.specs.Front.{front}

-- bodies, instructions and calls
abbrev pub instruction_productions : Grammar
instruction_productions =
    (body ⟶ Token begin_word ∷ Name new_code ∷ Name instructions ∷ []) ∷
    (data_body ⟶ Name data_head ∷ Name data_values ∷ []) ∷
    (new_code ⟶ []) ∷
    (instructions ⟶ Name instruction ∷ Name instructions ∷ []) ∷
    (instructions ⟶ []) ∷
    (instruction ⟶ Token network_word ∷ []) ∷
    (instruction ⟶ Name no_label ∷ Name labelled ∷ Token semicolon ∷ []) ∷
    (no_label ⟶ []) ∷
    (labelled ⟶ Name label_word ∷ Name label ∷ Name operation ∷ []) ∷
    (labelled ⟶ Token bit_op ∷ Name after_bit_op ∷ []) ∷
    (labelled ⟶ Token or_op ∷ Name after_or_op ∷ []) ∷
    (labelled ⟶ Token value_op ∷ Name after_value_op ∷ []) ∷
    (labelled ⟶ Token free_op ∷ Name after_free_op ∷ []) ∷
    (labelled ⟶ Name firm_operation ∷ []) ∷
    (label ⟶ Token colon ∷ []) ∷
    (after_bit_op ⟶ Name label ∷ Name operation ∷ []) ∷
    (after_bit_op ⟶ Name bit_operand ∷ []) ∷
    (after_or_op ⟶ Name label ∷ Name operation ∷ []) ∷
    (after_or_op ⟶ Name or_operand ∷ []) ∷
    (after_value_op ⟶ Name label ∷ Name operation ∷ []) ∷
    (after_value_op ⟶ Name value ∷ []) ∷
    (after_free_op ⟶ Name label ∷ Name operation ∷ []) ∷
    (after_free_op ⟶ Name maybe_value ∷ []) ∷
    (operation ⟶ Token bit_op ∷ Name bit_operand ∷ []) ∷
    (operation ⟶ Token or_op ∷ Name or_operand ∷ []) ∷
    (operation ⟶ Token value_op ∷ Name value ∷ []) ∷
    (operation ⟶ Token free_op ∷ Name maybe_value ∷ []) ∷
    (operation ⟶ Name firm_operation ∷ []) ∷
    (firm_operation ⟶ Token equals ∷ Name value ∷ []) ∷
    (firm_operation ⟶ Token stl_sign ∷ Name maybe_value ∷ []) ∷
    (firm_operation ⟶ Token paren_close ∷ Name maybe_value ∷ []) ∷
    (firm_operation ⟶ Token not_word ∷ Name maybe_value ∷ []) ∷
    (firm_operation ⟶ Token mod_word ∷ Name maybe_value ∷ []) ∷
    (firm_operation ⟶ Token call_word ∷ Name called_name ∷ Name base ∷ Name call_arguments ∷ []) ∷
    (firm_operation ⟶ Token uc_word ∷ Name plain_called ∷ Name bare_call ∷ []) ∷
    (bit_operand ⟶ Name opening ∷ []) ∷
    (bit_operand ⟶ Name value ∷ []) ∷
    (or_operand ⟶ Name opening ∷ []) ∷
    (or_operand ⟶ Name maybe_value ∷ []) ∷
    (opening ⟶ Token paren_open ∷ []) ∷
    (maybe_value ⟶ Name value ∷ []) ∷
    (maybe_value ⟶ []) ∷
    (value ⟶ Name operand ∷ []) ∷
    (value ⟶ Name number_value ∷ []) ∷
    (operand ⟶ Name word ∷ Name steps ∷ []) ∷
    (operand ⟶ Token hash ∷ Name hashed_word ∷ Name steps ∷ []) ∷
    (operand ⟶ Name firm_name ∷ Name steps ∷ []) ∷
    (operand ⟶ Name area ∷ Name steps ∷ []) ∷
    (hashed_word ⟶ Token free_word ∷ Name plain_hash ∷ []) ∷
    (hashed_word ⟶ Token free_prefix ∷ Name plain_hash ∷ []) ∷
    (number_value ⟶ Token number ∷ []) ∷
    (number_value ⟶ Token minus ∷ Token number ∷ []) ∷
    (number_value ⟶ Token truth ∷ []) ∷
    (called_name ⟶ Name plain_called ∷ []) ∷
    (called_name ⟶ Token hash ∷ Name hashed_name ∷ []) ∷
    (plain_called ⟶ Name word ∷ []) ∷
    (plain_called ⟶ Name firm_name ∷ []) ∷
    (hashed_name ⟶ Token free_word ∷ Name plain_hash ∷ []) ∷
    (hashed_name ⟶ Token free_prefix ∷ Name hashed_prefix ∷ []) ∷
    (hashed_name ⟶ Token free_numbered ∷ Name plain_hash ∷ []) ∷
    (hashed_name ⟶ Token quoted ∷ Name quoted_hash ∷ []) ∷
    (hashed_prefix ⟶ Name numbered_hash ∷ []) ∷
    (hashed_prefix ⟶ Name plain_hash ∷ []) ∷
    (base ⟶ Name base_name ∷ []) ∷
    (base ⟶ []) ∷
    (base_name ⟶ Token comma ∷ Name plain_called ∷ []) ∷
    (call_arguments ⟶ Token paren_open ∷ Name word ∷ Name first_argument ∷ Name more_arguments ∷ Token paren_close ∷ []) ∷
    (call_arguments ⟶ Name bare_call ∷ []) ∷
    (bare_call ⟶ []) ∷
    []

-- the whole grammar
abbrev pub stl_grammar : Grammar
stl_grammar = front ++ instruction_productions
