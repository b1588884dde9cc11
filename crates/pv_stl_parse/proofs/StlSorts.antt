-- The sorts of the names of STL's grammar, and what a law of one of its productions is.
use Rattle.std.proofs.Common.{ℕ, List, [], ◌∷◌, ◌++◌}
use Rattle.pv_lex.specs.declared.token.Language.TheVariants.{Stl}
use Rattle.pv_ll.specs.declared.table.Symbol.{Symbol}
use Rattle.pv_ll.specs.Meaning.{Law}
use Rattle.pv_parse.proofs.ForCallers.{Sort, instr_of, by_opening, by_value, by_must, by_may, by_bit, by_or, new_code, more_instrs, unlabelled, laid, label_sign, after_op, operating, behind_op, operand_name, hashed_word, value_literal, callee, callee_alone, callee_hash, callee_prefix, callee_base, call_behind, call_bare, expression_sorts, declaration_sorts, call_sorts, body_sorts, sure_making, meaning}
use Rattle.pv_stl_parse.specs.StlActions.{stl_actions}

-- instructions and calls
abbrev pub instruction_sorts : List Sort
instruction_sorts =
    -- new_code, instructions, instruction, no_label, labelled, label
    instr_of new_code ∷ instr_of more_instrs ∷ instr_of more_instrs ∷ instr_of unlabelled ∷ instr_of laid ∷ instr_of label_sign ∷
    -- after_bit_op, after_or_op, after_value_op, after_free_op
    instr_of (after_op by_bit) ∷ instr_of (after_op by_or) ∷ instr_of (after_op by_must) ∷ instr_of (after_op by_may) ∷
    -- operation, firm_operation
    instr_of operating ∷ instr_of operating ∷
    -- bit_operand, or_operand, opening, maybe_value, value
    instr_of (behind_op by_bit) ∷ instr_of (behind_op by_or) ∷ instr_of (behind_op by_opening) ∷ instr_of (behind_op by_may) ∷ instr_of (behind_op by_value) ∷
    -- operand, hashed_word, number_value
    instr_of operand_name ∷ instr_of hashed_word ∷ instr_of value_literal ∷
    -- called_name, plain_called, hashed_name, hashed_prefix, base, base_name
    instr_of callee ∷ instr_of callee_alone ∷ instr_of callee_hash ∷ instr_of callee_prefix ∷ instr_of callee_base ∷ instr_of callee_base ∷
    -- call_arguments, bare_call
    instr_of call_behind ∷ instr_of call_bare ∷ []

-- all
abbrev pub stl_sorts : List Sort
stl_sorts = expression_sorts ++ (declaration_sorts Stl ++ (call_sorts ++ (body_sorts Stl ++ instruction_sorts)))

-- a law in STL's grammar
abbrev pub Lawful : ℕ → ℕ → List Symbol → Type 0
Lawful k m body = Law (sure_making stl_actions) (meaning stl_sorts) k m body
