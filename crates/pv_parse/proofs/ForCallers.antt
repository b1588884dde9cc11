-- What proofs of the crates above take from here.
-- what doesn't depend on the case of letters
pub use Rattle.pv_parse.proofs.CaseBlind.{small, same-small, small-same, small-twice, one-of-small, numbered-small, reserved-small, word-small, sign-small, of-each}
-- kinds along tokens
pub use Rattle.pv_parse.proofs.KindSteps.{kinds-append}
pub use Rattle.pv_parse.proofs.Sound.{AreSound, tokens-sound, have-kinds}
pub use Rattle.pv_parse.proofs.Witnesses.{witness-of}
-- the address that a token says
pub use Rattle.pv_parse.proofs.TokenKinds.{area, Marks, Serves, arrow as arrow_serves, assign as assign_serves, bracket_close as bracket_close_serves, bracket_open as bracket_open_serves, comma as comma_serves, dot as dot_serves, minus as minus_serves, number as number_serves, sign_marks, truth as truth_serves, word_marks}
pub use Rattle.pv_parse.proofs.OperatorTexts.{letter_of, truth_is}
-- from a kind to what spells it: one word or sign
pub use Rattle.pv_parse.proofs.KindSpelled.{SaidBy, one-or, one-of-none, only-one, by-words, by-signs, is-assign, is-arrow, is-dots, is-paren-open, is-paren-close, is-bracket-open, is-bracket-close, is-colon, is-semicolon, is-comma, is-dot, is-hash, is-plus, is-minus, is-equals, is-unequal, is-in-word, is-in0-word, is-in1-word, is-in2-word, is-mn-word, is-mx-word, is-g-word, is-n-word, is-mod-word, is-xor-word, is-or-word, is-not-word, is-limit-function, is-sel-function, is-date-and-time, is-void-word, is-array-word, is-of-word, is-struct-word, is-end-struct, is-end-var, is-const-word, is-end-const, is-begin-word, is-function-block, is-end-function-block, is-function-word, is-end-function, is-organization-block, is-end-organization-block, is-data-block, is-end-data-block, is-type-word, is-end-type, is-if-word, is-then-word, is-elsif-word, is-else-word, is-end-if, is-case-word, is-end-case, is-for-word, is-to-word, is-by-word, is-do-word, is-end-for, is-while-word, is-end-while, is-repeat-word, is-until-word, is-end-repeat, is-network-word, is-call-word, is-uc-word, is-or-op, is-compare-sign, is-truth, is-two-function, is-shift-function, is-section-word, is-single-word, is-times, is-and-word, is-number-prefix, is-one-function, is-bit-op, is-value-op, is-free-op, is-stl-sign, is-simple-type}
-- names, numbers and addresses, pairs and functions
pub use Rattle.pv_parse.proofs.KindNames.{Plain, Numbered, Quoted, Counted, Addressed, free-by, prefix-plain, prefix-unnumbered, numbered-unreserved, is-plain, plain-in-word, plain-in0-word, plain-in1-word, plain-in2-word, plain-mn-word, plain-mx-word, plain-g-word, plain-n-word, plain-bit-op, plain-or-op, plain-value-op, plain-free-op, is-free-word, is-free-prefix, is-numbered, is-free-numbered, is-quoted, is-number, is-address}
pub use Rattle.pv_parse.proofs.KindPairs.{is-pair, pair-free, OneFunction, is-function}
-- from what spells a token to its kind
pub use Rattle.pv_parse.proofs.KindOf.{kind_between, kind_before, kind_of_function, word-kind-is, sign-kind-is, word-listed, unreserved, WordKind, as_plain, as_in_word, as_in0_word, as_in1_word, as_in2_word, as_mn_word, as_mx_word, as_g_word, as_n_word, as_bit_op, as_or_op, as_value_op, as_free_op, kind-assign, kind-arrow, kind-dots, kind-paren-open, kind-paren-close, kind-bracket-open, kind-bracket-close, kind-colon, kind-semicolon, kind-comma, kind-dot, kind-hash, kind-plus, kind-minus, kind-equals, kind-unequal, kind-in-word, kind-in0-word, kind-in1-word, kind-in2-word, kind-mn-word, kind-mx-word, kind-g-word, kind-n-word, kind-mod-word, kind-xor-word, kind-or-word, kind-not-word, kind-limit-function, kind-sel-function, kind-date-and-time, kind-void-word, kind-array-word, kind-of-word, kind-struct-word, kind-end-struct, kind-end-var, kind-const-word, kind-end-const, kind-begin-word, kind-function-block, kind-end-function-block, kind-function-word, kind-end-function, kind-organization-block, kind-end-organization-block, kind-data-block, kind-end-data-block, kind-type-word, kind-end-type, kind-if-word, kind-then-word, kind-elsif-word, kind-else-word, kind-end-if, kind-case-word, kind-end-case, kind-for-word, kind-to-word, kind-by-word, kind-do-word, kind-end-for, kind-while-word, kind-end-while, kind-repeat-word, kind-until-word, kind-end-repeat, kind-network-word, kind-call-word, kind-uc-word, kind-true, kind-false, kind-min, kind-max, kind-shl, kind-shr, kind-var-input, kind-var-output, kind-var-in-out, kind-var, kind-var-temp, kind-exit, kind-continue, kind-return, kind-between, kind-before, kind-function, kind-type, kind-truth, kind-numeral, kind-value, kind-address, kind-quoted, kind-prefix, kind-free-prefix, kind-numbered, kind-free-numbered, kind-free-word, kind-word}
-- what lies on the stack, what names mean, their laws, and what is spelled made on it
pub use Rattle.pv_parse.proofs.Sure.{Sure, lexemes, sure_making, Holds, IsFreeWord, IsPrefix}
pub use Rattle.pv_parse.proofs.Stacks.{Tops, bare, top_token, top_path, top_expr, top_literal, top_args, top_call, top_value, top_stmt, top_stmts, top_arms, top_else, top_by, top_choice, top_choices, top_branches, top_around, top_blocks, top_fields, top_heading, top_values, top_words, top_body}
pub use Rattle.pv_parse.proofs.CodeSorts.{IsTarget, IsCallee, IsWordPath, base_steps, Called, Valued, Unended, Ended, Listed, Labelled, Cased, closed, Goal, for_value, for_stmt, Made, made_item, Means, CodeSort, args, given, first_arg, more_args, after_arg, calls, bare_call, reading, a_side, after_word, after_second, after_dot, after_prefix, after_hash, after_hash_prefix, plain_hash, quoted_hash, numbered_hash, plain_second, quoted_second, numbered_second, second, second_number, assignment, unended, ended, word_item, list, adds, arm, more_arms, other_of, by_of, colon_of, choosing, word_choice, first_range, next_range, more_choices, label_rest, labelled, branching, case_items, after_case_word, DoesCode, an_args, a_given, a_first_arg, adds_args, goes_arg, a_call_of, a_bare_call, reads, a_right_side, goes_word, goes_second, goes_dot, goes_prefix, goes_hash, goes_hash_prefix, marks_plain_hash, marks_quoted_hash, marks_numbered_hash, marks_plain_second, marks_quoted_second, marks_numbered_second, a_second, a_second_number, assigns, an_unended, an_ended, goes_item, a_list, adds_stmts, an_arm, adds_arms, an_else_of, a_by_of, a_colon, a_choice_of, marks_choice, a_first_range, a_next_range, adds_choices, goes_label, a_label_of, a_branching, goes_case, goes_case_word}
pub use Rattle.pv_parse.proofs.Sorts.{Sort, other, walk, chain, tail, literal_of, code_of, Does, a_word, a_firm, a_root, a_field, walks, an_expr, leads, a_literal_of, codes, IsPath, on_path, IsExpr, on_expr, expression_sorts, declaration_sorts, call_sorts, body_sorts, sort_of, meaning, decl_of, decls, word, label, firm, field, root, a_label, instr_of, instrs}
pub use Rattle.pv_parse.proofs.Shapes.{keeps, shaping}
pub use Rattle.pv_parse.proofs.Forms.{last, parted, single, single_at, led, joined, closed_by}
pub use Rattle.pv_parse.proofs.TokenFacts.{has, arrow as arrow_is, assign as assign_is, bracket_close as bracket_close_is, bracket_open as bracket_open_is, comma as comma_is, dot as dot_is, minus as minus_is, number as number_is, truth as truth_said}
pub use Rattle.pv_parse.proofs.ChainLaws.{weaker, on_lexemes}
pub use Rattle.pv_parse.proofs.ExprLaws.{steps_append, formed_append, one_step, Lawful, word_begins}
pub use Rattle.pv_parse.proofs.TokenKinds.{by_kind}
pub use Rattle.pv_parse.proofs.Gets.{Gets, empty, on, to, then, by, pass, pass_mark, kinded_append, behind_append}
pub use Rattle.pv_parse.proofs.ExprRuns.{Steps, name_made, firm_made, hash_read_made, firm_read_made, area_rooted, area_made, steps_back, read_back, Firm, atom_made, field_made, paren_made, unary_made, word_made}
pub use Rattle.pv_parse.proofs.Complete.{can, can_steps, cans}
pub use Rattle.pv_parse.proofs.DeclSorts.{DeclSort, DoesDecl, begins_data, are_values, a_body, a_data_body, no_blocks, are_blocks, a_source, Behind, a_name, a_numeral, a_start, a_type, are_sections, begins, bounded, declare, drops, follows, gives, goes_on, has_fields, has_value, heads, heads_constants, is_of, is_own, more_blocks, name_constants, names, opens, opens_own, turns, walks_data}
pub use Rattle.pv_parse.proofs.InstrSorts.{is_load, IsOp, IsOpening, Class, by_opening, by_value, by_must, by_may, by_bit, by_or, Known, Operated, Laid, SpellsBehindOp, IsCalleeStl, IsCalledAlone, CalledStl, InstrSort, new_code, more_instrs, unlabelled, laid, label_sign, after_op, operating, behind_op, operand_name, hashed_word, value_literal, callee, callee_alone, callee_hash, callee_prefix, callee_base, call_behind, call_bare, DoesInstr, begins_code, adds_instrs, has_no_label, lays, signs_label, goes_after, operates, goes_behind, an_operand, a_hashed_word, a_value_literal, a_callee, a_callee_alone, a_callee_hash, a_callee_prefix, adds_base, a_call_behind, a_bare_one}
pub use Rattle.pv_parse.proofs.ExprSound.{expression_laws}
pub use Rattle.pv_parse.proofs.Closed.{Inside, closed as inside, own_production, holds_at}
pub use Rattle.pv_parse.proofs.Readings.{sure_of, sure_lexemes, sure_kinds, Found, all_behind, complete, fault_of, kinds_length, kinds_take, sound}
-- further ones for the crates of statements and of sources
pub use Rattle.pv_parse.proofs.ChainRuns.{Derived, Whole, level, level_low, link_at, linked, tail_at}
pub use Rattle.pv_parse.proofs.ExprMarks.{marks-expr, marks-operand}
pub use Rattle.pv_parse.proofs.FunctionRuns.{std_made}
pub use Rattle.pv_parse.proofs.Marks.{is_deepest, is_shallow, Marks as MarksParts, first_above, above-both, marks_none, marks_both, marks_one, marks_two, marks_part, none_above, IsFirst, is_first}
pub use Rattle.pv_parse.proofs.Shading.{shaded, is_of_expressions, alternative_followed}
pub use Rattle.pv_parse.proofs.Taking.{passed, not_passed, left, missed, begun, stopped, ended as turns_ended, kinds_kinded, plays}
pub use Rattle.pv_parse.proofs.Idle.{deeds_idle, shades_idle}
pub use Rattle.pv_parse.proofs.Merging.{merged-nil, merged-assoc, get-merged}
pub use Rattle.pv_parse.proofs.Popped.{token_popped, path_popped, expr_popped, seen, under}
pub use Rattle.pv_parse.proofs.ExprFollows.{Keeps, expr_keeps, stepped_shade}
pub use Rattle.pv_parse.proofs.Following.{are_among, IsFollowed, followed_among, front_item, all_items}
