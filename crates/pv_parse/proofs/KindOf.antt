-- From what spells a token to its kind: the kinds of a tree's tokens.
use Prim.Native.String.{String}
use Rattle.std.proofs.Common.{◌≡◌, ℕ, ℤ, zero, suc, ◌<◌, slice_index_or, Bool, true, false, cond, ◌||◌, not, ◌==◌, List, [], ◌∷◌, length, codes, refl, ap, sym, subst, ◌∙◌, arith, ◌⊎◌, inl, inr, map, Option}
use Rattle.std.specs.List.{list_all, Contains}
use Rattle.std.specs.Char.{to_ascii_lowercase}
use Rattle.std.specs.Str.{str_eq_ignore_ascii_case}
use Rattle.pv_word.specs.declared.types.Ty.{Ty}
use Rattle.pv_word.specs.declared.types.Ty.TheVariants as ty
use Rattle.pv_types.specs.declared.name.Name.{Name}
use Rattle.pv_lex.specs.declared.token.Kind.{Kind}
use Rattle.pv_lex.specs.declared.token.Kind.TheVariants as k
use Rattle.pv_lex.specs.Shapes.{is_one_of}
use Rattle.pv_tree.specs.declared.expr.BinaryOp.{BinaryOp}
use Rattle.pv_tree.specs.declared.expr.BinaryOp.TheVariants as op
use Rattle.pv_tree.specs.declared.expr.UnaryOp.{UnaryOp}
use Rattle.pv_tree.specs.declared.expr.UnaryOp.TheVariants as unary_op
use Rattle.pv_tree.specs.declared.expr.StdFunction.{StdFunction}
use Rattle.pv_tree.specs.declared.expr.StdFunction.TheVariants as function
use Rattle.pv_tree.specs.declared.expr.Area.{Area}
use Rattle.pv_tree.specs.Lexemes.{Lexeme, IsWord, IsSign}
use Rattle.pv_tree.specs.Words.{prefixes, is_numbered, is_reserved, block_words, function_words, function_word, type_word, conversion_words, targets_of, begins_quoted, plain_name, IsPlain, IsQuoted, IsNumbered, IsFree}
use Rattle.pv_tree.specs.Words.{statement_words as code_words}
use Rattle.pv_tree.specs.Literals.{IsNumeral, IsOfValue, IsTruth, IsAddress}
use Rattle.pv_tree.specs.Expressions.{IsBetween, IsBefore, IsOfFunction}
use Rattle.pv_tree.specs.Declarations.{IsTypeWord}
use Rattle.pv_parse.specs.KindNumbers as n
use Rattle.pv_parse.specs.LookUps.{Entry, look_up}
use Rattle.pv_parse.specs.Kinds.{kind_by, kind_of, word_kind, marked_kind, sign_kind, other_kind, word_entries, argument_words, operation_words, bit_ops, or_ops, value_ops, free_ops, expression_words, one_functions, declaration_words, statement_words, sign_entries, stl_signs}
use Rattle.pv_parse.proofs.CaseBlind.{small, same-small, small-twice, numbered-small, reserved-small, word-small, sign-small, of-each, left-of, right-of}
use Rattle.pv_parse.proofs.KindNames.{not-reserved, prefix-unnumbered}

-- ---- by the text

-- a word that isn't directly behind `#` or `.`
by-word : (t : Lexeme) (text : List ℕ) → t.kind ≡ k.Word → str_eq_ignore_ascii_case t.bytes text ≡ true → kind_of false t ≡ word_kind text
by-word t text e h = ap (λ (kind : Kind). kind_by kind false t.bytes) e ∙ word-small t.bytes text (same-small t.bytes text h)

pub word-kind-is : (text : String) (t : Lexeme) → IsWord text t → kind_of false t ≡ word_kind (codes text)
word-kind-is text t h = by-word t (codes text) h.kind h.bytes

pub sign-kind-is : (text : String) (t : Lexeme) (marked : Bool) → IsSign text t → kind_of marked t ≡ sign_kind (codes text)
sign-kind-is text t marked h =
    ap (λ (kind : Kind). kind_by kind marked t.bytes) h.kind ∙ sign-small t.bytes (codes text) (same-small t.bytes (codes text) h.bytes)

-- ---- by the word or the sign

pub kind-assign : (t : Lexeme) (marked : Bool) → IsSign ":=" t → kind_of marked t ≡ n.assign
unfolding sign_entries stl_signs sign_kind
kind-assign t marked h = sign-kind-is ":=" t marked h

pub kind-arrow : (t : Lexeme) (marked : Bool) → IsSign "=>" t → kind_of marked t ≡ n.arrow
unfolding sign_entries stl_signs sign_kind
kind-arrow t marked h = sign-kind-is "=>" t marked h

pub kind-dots : (t : Lexeme) (marked : Bool) → IsSign ".." t → kind_of marked t ≡ n.dots
unfolding sign_entries stl_signs sign_kind
kind-dots t marked h = sign-kind-is ".." t marked h

pub kind-paren-open : (t : Lexeme) (marked : Bool) → IsSign "(" t → kind_of marked t ≡ n.paren_open
unfolding sign_entries stl_signs sign_kind
kind-paren-open t marked h = sign-kind-is "(" t marked h

pub kind-paren-close : (t : Lexeme) (marked : Bool) → IsSign ")" t → kind_of marked t ≡ n.paren_close
unfolding sign_entries stl_signs sign_kind
kind-paren-close t marked h = sign-kind-is ")" t marked h

pub kind-bracket-open : (t : Lexeme) (marked : Bool) → IsSign "[" t → kind_of marked t ≡ n.bracket_open
unfolding sign_entries stl_signs sign_kind
kind-bracket-open t marked h = sign-kind-is "[" t marked h

pub kind-bracket-close : (t : Lexeme) (marked : Bool) → IsSign "]" t → kind_of marked t ≡ n.bracket_close
unfolding sign_entries stl_signs sign_kind
kind-bracket-close t marked h = sign-kind-is "]" t marked h

pub kind-colon : (t : Lexeme) (marked : Bool) → IsSign ":" t → kind_of marked t ≡ n.colon
unfolding sign_entries stl_signs sign_kind
kind-colon t marked h = sign-kind-is ":" t marked h

pub kind-semicolon : (t : Lexeme) (marked : Bool) → IsSign ";" t → kind_of marked t ≡ n.semicolon
unfolding sign_entries stl_signs sign_kind
kind-semicolon t marked h = sign-kind-is ";" t marked h

pub kind-comma : (t : Lexeme) (marked : Bool) → IsSign "," t → kind_of marked t ≡ n.comma
unfolding sign_entries stl_signs sign_kind
kind-comma t marked h = sign-kind-is "," t marked h

pub kind-dot : (t : Lexeme) (marked : Bool) → IsSign "." t → kind_of marked t ≡ n.dot
unfolding sign_entries stl_signs sign_kind
kind-dot t marked h = sign-kind-is "." t marked h

pub kind-hash : (t : Lexeme) (marked : Bool) → IsSign "#" t → kind_of marked t ≡ n.hash
unfolding sign_entries stl_signs sign_kind
kind-hash t marked h = sign-kind-is "#" t marked h

pub kind-plus : (t : Lexeme) (marked : Bool) → IsSign "+" t → kind_of marked t ≡ n.plus
unfolding sign_entries stl_signs sign_kind
kind-plus t marked h = sign-kind-is "+" t marked h

pub kind-minus : (t : Lexeme) (marked : Bool) → IsSign "-" t → kind_of marked t ≡ n.minus
unfolding sign_entries stl_signs sign_kind
kind-minus t marked h = sign-kind-is "-" t marked h

pub kind-equals : (t : Lexeme) (marked : Bool) → IsSign "=" t → kind_of marked t ≡ n.equals
unfolding sign_entries stl_signs sign_kind
kind-equals t marked h = sign-kind-is "=" t marked h

pub kind-unequal : (t : Lexeme) (marked : Bool) → IsSign "<>" t → kind_of marked t ≡ n.unequal
unfolding sign_entries stl_signs sign_kind
kind-unequal t marked h = sign-kind-is "<>" t marked h

pub kind-in-word : (t : Lexeme) → IsWord "IN" t → kind_of false t ≡ n.in_word
unfolding word_entries argument_words operation_words bit_ops or_ops value_ops free_ops expression_words one_functions declaration_words statement_words prefixes function_word type_word sign_entries stl_signs is_numbered is_one_of is_reserved block_words code_words function_words word_kind other_kind sign_kind
kind-in-word t h = word-kind-is "IN" t h

pub kind-in0-word : (t : Lexeme) → IsWord "IN0" t → kind_of false t ≡ n.in0_word
unfolding word_entries argument_words operation_words bit_ops or_ops value_ops free_ops expression_words one_functions declaration_words statement_words prefixes function_word type_word sign_entries stl_signs is_numbered is_one_of is_reserved block_words code_words function_words word_kind other_kind sign_kind
kind-in0-word t h = word-kind-is "IN0" t h

pub kind-in1-word : (t : Lexeme) → IsWord "IN1" t → kind_of false t ≡ n.in1_word
unfolding word_entries argument_words operation_words bit_ops or_ops value_ops free_ops expression_words one_functions declaration_words statement_words prefixes function_word type_word sign_entries stl_signs is_numbered is_one_of is_reserved block_words code_words function_words word_kind other_kind sign_kind
kind-in1-word t h = word-kind-is "IN1" t h

pub kind-in2-word : (t : Lexeme) → IsWord "IN2" t → kind_of false t ≡ n.in2_word
unfolding word_entries argument_words operation_words bit_ops or_ops value_ops free_ops expression_words one_functions declaration_words statement_words prefixes function_word type_word sign_entries stl_signs is_numbered is_one_of is_reserved block_words code_words function_words word_kind other_kind sign_kind
kind-in2-word t h = word-kind-is "IN2" t h

pub kind-mn-word : (t : Lexeme) → IsWord "MN" t → kind_of false t ≡ n.mn_word
unfolding word_entries argument_words operation_words bit_ops or_ops value_ops free_ops expression_words one_functions declaration_words statement_words prefixes function_word type_word sign_entries stl_signs is_numbered is_one_of is_reserved block_words code_words function_words word_kind other_kind sign_kind
kind-mn-word t h = word-kind-is "MN" t h

pub kind-mx-word : (t : Lexeme) → IsWord "MX" t → kind_of false t ≡ n.mx_word
unfolding word_entries argument_words operation_words bit_ops or_ops value_ops free_ops expression_words one_functions declaration_words statement_words prefixes function_word type_word sign_entries stl_signs is_numbered is_one_of is_reserved block_words code_words function_words word_kind other_kind sign_kind
kind-mx-word t h = word-kind-is "MX" t h

pub kind-g-word : (t : Lexeme) → IsWord "G" t → kind_of false t ≡ n.g_word
unfolding word_entries argument_words operation_words bit_ops or_ops value_ops free_ops expression_words one_functions declaration_words statement_words prefixes function_word type_word sign_entries stl_signs is_numbered is_one_of is_reserved block_words code_words function_words word_kind other_kind sign_kind
kind-g-word t h = word-kind-is "G" t h

pub kind-n-word : (t : Lexeme) → IsWord "N" t → kind_of false t ≡ n.n_word
unfolding word_entries argument_words operation_words bit_ops or_ops value_ops free_ops expression_words one_functions declaration_words statement_words prefixes function_word type_word sign_entries stl_signs is_numbered is_one_of is_reserved block_words code_words function_words word_kind other_kind sign_kind
kind-n-word t h = word-kind-is "N" t h

pub kind-mod-word : (t : Lexeme) → IsWord "MOD" t → kind_of false t ≡ n.mod_word
unfolding word_entries argument_words operation_words bit_ops or_ops value_ops free_ops expression_words one_functions declaration_words statement_words prefixes function_word type_word sign_entries stl_signs is_numbered is_one_of is_reserved block_words code_words function_words word_kind other_kind sign_kind
kind-mod-word t h = word-kind-is "MOD" t h

pub kind-xor-word : (t : Lexeme) → IsWord "XOR" t → kind_of false t ≡ n.xor_word
unfolding word_entries argument_words operation_words bit_ops or_ops value_ops free_ops expression_words one_functions declaration_words statement_words prefixes function_word type_word sign_entries stl_signs is_numbered is_one_of is_reserved block_words code_words function_words word_kind other_kind sign_kind
kind-xor-word t h = word-kind-is "XOR" t h

pub kind-or-word : (t : Lexeme) → IsWord "OR" t → kind_of false t ≡ n.or_word
unfolding word_entries argument_words operation_words bit_ops or_ops value_ops free_ops expression_words one_functions declaration_words statement_words prefixes function_word type_word sign_entries stl_signs is_numbered is_one_of is_reserved block_words code_words function_words word_kind other_kind sign_kind
kind-or-word t h = word-kind-is "OR" t h

pub kind-not-word : (t : Lexeme) → IsWord "NOT" t → kind_of false t ≡ n.not_word
unfolding word_entries argument_words operation_words bit_ops or_ops value_ops free_ops expression_words one_functions declaration_words statement_words prefixes function_word type_word sign_entries stl_signs is_numbered is_one_of is_reserved block_words code_words function_words word_kind other_kind sign_kind
kind-not-word t h = word-kind-is "NOT" t h

pub kind-limit-function : (t : Lexeme) → IsWord "LIMIT" t → kind_of false t ≡ n.limit_function
unfolding word_entries argument_words operation_words bit_ops or_ops value_ops free_ops expression_words one_functions declaration_words statement_words prefixes function_word type_word sign_entries stl_signs is_numbered is_one_of is_reserved block_words code_words function_words word_kind other_kind sign_kind
kind-limit-function t h = word-kind-is "LIMIT" t h

pub kind-sel-function : (t : Lexeme) → IsWord "SEL" t → kind_of false t ≡ n.sel_function
unfolding word_entries argument_words operation_words bit_ops or_ops value_ops free_ops expression_words one_functions declaration_words statement_words prefixes function_word type_word sign_entries stl_signs is_numbered is_one_of is_reserved block_words code_words function_words word_kind other_kind sign_kind
kind-sel-function t h = word-kind-is "SEL" t h

pub kind-date-and-time : (t : Lexeme) → IsWord "DATE_AND_TIME" t → kind_of false t ≡ n.date_and_time
unfolding word_entries argument_words operation_words bit_ops or_ops value_ops free_ops expression_words one_functions declaration_words statement_words prefixes function_word type_word sign_entries stl_signs is_numbered is_one_of is_reserved block_words code_words function_words word_kind other_kind sign_kind
kind-date-and-time t h = word-kind-is "DATE_AND_TIME" t h

pub kind-void-word : (t : Lexeme) → IsWord "VOID" t → kind_of false t ≡ n.void_word
unfolding word_entries argument_words operation_words bit_ops or_ops value_ops free_ops expression_words one_functions declaration_words statement_words prefixes function_word type_word sign_entries stl_signs is_numbered is_one_of is_reserved block_words code_words function_words word_kind other_kind sign_kind
kind-void-word t h = word-kind-is "VOID" t h

pub kind-array-word : (t : Lexeme) → IsWord "ARRAY" t → kind_of false t ≡ n.array_word
unfolding word_entries argument_words operation_words bit_ops or_ops value_ops free_ops expression_words one_functions declaration_words statement_words prefixes function_word type_word sign_entries stl_signs is_numbered is_one_of is_reserved block_words code_words function_words word_kind other_kind sign_kind
kind-array-word t h = word-kind-is "ARRAY" t h

pub kind-of-word : (t : Lexeme) → IsWord "OF" t → kind_of false t ≡ n.of_word
unfolding word_entries argument_words operation_words bit_ops or_ops value_ops free_ops expression_words one_functions declaration_words statement_words prefixes function_word type_word sign_entries stl_signs is_numbered is_one_of is_reserved block_words code_words function_words word_kind other_kind sign_kind
kind-of-word t h = word-kind-is "OF" t h

pub kind-struct-word : (t : Lexeme) → IsWord "STRUCT" t → kind_of false t ≡ n.struct_word
unfolding word_entries argument_words operation_words bit_ops or_ops value_ops free_ops expression_words one_functions declaration_words statement_words prefixes function_word type_word sign_entries stl_signs is_numbered is_one_of is_reserved block_words code_words function_words word_kind other_kind sign_kind
kind-struct-word t h = word-kind-is "STRUCT" t h

pub kind-end-struct : (t : Lexeme) → IsWord "END_STRUCT" t → kind_of false t ≡ n.end_struct
unfolding word_entries argument_words operation_words bit_ops or_ops value_ops free_ops expression_words one_functions declaration_words statement_words prefixes function_word type_word sign_entries stl_signs is_numbered is_one_of is_reserved block_words code_words function_words word_kind other_kind sign_kind
kind-end-struct t h = word-kind-is "END_STRUCT" t h

pub kind-end-var : (t : Lexeme) → IsWord "END_VAR" t → kind_of false t ≡ n.end_var
unfolding word_entries argument_words operation_words bit_ops or_ops value_ops free_ops expression_words one_functions declaration_words statement_words prefixes function_word type_word sign_entries stl_signs is_numbered is_one_of is_reserved block_words code_words function_words word_kind other_kind sign_kind
kind-end-var t h = word-kind-is "END_VAR" t h

pub kind-const-word : (t : Lexeme) → IsWord "CONST" t → kind_of false t ≡ n.const_word
unfolding word_entries argument_words operation_words bit_ops or_ops value_ops free_ops expression_words one_functions declaration_words statement_words prefixes function_word type_word sign_entries stl_signs is_numbered is_one_of is_reserved block_words code_words function_words word_kind other_kind sign_kind
kind-const-word t h = word-kind-is "CONST" t h

pub kind-end-const : (t : Lexeme) → IsWord "END_CONST" t → kind_of false t ≡ n.end_const
unfolding word_entries argument_words operation_words bit_ops or_ops value_ops free_ops expression_words one_functions declaration_words statement_words prefixes function_word type_word sign_entries stl_signs is_numbered is_one_of is_reserved block_words code_words function_words word_kind other_kind sign_kind
kind-end-const t h = word-kind-is "END_CONST" t h

pub kind-begin-word : (t : Lexeme) → IsWord "BEGIN" t → kind_of false t ≡ n.begin_word
unfolding word_entries argument_words operation_words bit_ops or_ops value_ops free_ops expression_words one_functions declaration_words statement_words prefixes function_word type_word sign_entries stl_signs is_numbered is_one_of is_reserved block_words code_words function_words word_kind other_kind sign_kind
kind-begin-word t h = word-kind-is "BEGIN" t h

pub kind-function-block : (t : Lexeme) → IsWord "FUNCTION_BLOCK" t → kind_of false t ≡ n.function_block
unfolding word_entries argument_words operation_words bit_ops or_ops value_ops free_ops expression_words one_functions declaration_words statement_words prefixes function_word type_word sign_entries stl_signs is_numbered is_one_of is_reserved block_words code_words function_words word_kind other_kind sign_kind
kind-function-block t h = word-kind-is "FUNCTION_BLOCK" t h

pub kind-end-function-block : (t : Lexeme) → IsWord "END_FUNCTION_BLOCK" t → kind_of false t ≡ n.end_function_block
unfolding word_entries argument_words operation_words bit_ops or_ops value_ops free_ops expression_words one_functions declaration_words statement_words prefixes function_word type_word sign_entries stl_signs is_numbered is_one_of is_reserved block_words code_words function_words word_kind other_kind sign_kind
kind-end-function-block t h = word-kind-is "END_FUNCTION_BLOCK" t h

pub kind-function-word : (t : Lexeme) → IsWord "FUNCTION" t → kind_of false t ≡ n.function_word
unfolding word_entries argument_words operation_words bit_ops or_ops value_ops free_ops expression_words one_functions declaration_words statement_words prefixes function_word type_word sign_entries stl_signs is_numbered is_one_of is_reserved block_words code_words function_words word_kind other_kind sign_kind
kind-function-word t h = word-kind-is "FUNCTION" t h

pub kind-end-function : (t : Lexeme) → IsWord "END_FUNCTION" t → kind_of false t ≡ n.end_function
unfolding word_entries argument_words operation_words bit_ops or_ops value_ops free_ops expression_words one_functions declaration_words statement_words prefixes function_word type_word sign_entries stl_signs is_numbered is_one_of is_reserved block_words code_words function_words word_kind other_kind sign_kind
kind-end-function t h = word-kind-is "END_FUNCTION" t h

pub kind-organization-block : (t : Lexeme) → IsWord "ORGANIZATION_BLOCK" t → kind_of false t ≡ n.organization_block
unfolding word_entries argument_words operation_words bit_ops or_ops value_ops free_ops expression_words one_functions declaration_words statement_words prefixes function_word type_word sign_entries stl_signs is_numbered is_one_of is_reserved block_words code_words function_words word_kind other_kind sign_kind
kind-organization-block t h = word-kind-is "ORGANIZATION_BLOCK" t h

pub kind-end-organization-block : (t : Lexeme) → IsWord "END_ORGANIZATION_BLOCK" t → kind_of false t ≡ n.end_organization_block
unfolding word_entries argument_words operation_words bit_ops or_ops value_ops free_ops expression_words one_functions declaration_words statement_words prefixes function_word type_word sign_entries stl_signs is_numbered is_one_of is_reserved block_words code_words function_words word_kind other_kind sign_kind
kind-end-organization-block t h = word-kind-is "END_ORGANIZATION_BLOCK" t h

pub kind-data-block : (t : Lexeme) → IsWord "DATA_BLOCK" t → kind_of false t ≡ n.data_block
unfolding word_entries argument_words operation_words bit_ops or_ops value_ops free_ops expression_words one_functions declaration_words statement_words prefixes function_word type_word sign_entries stl_signs is_numbered is_one_of is_reserved block_words code_words function_words word_kind other_kind sign_kind
kind-data-block t h = word-kind-is "DATA_BLOCK" t h

pub kind-end-data-block : (t : Lexeme) → IsWord "END_DATA_BLOCK" t → kind_of false t ≡ n.end_data_block
unfolding word_entries argument_words operation_words bit_ops or_ops value_ops free_ops expression_words one_functions declaration_words statement_words prefixes function_word type_word sign_entries stl_signs is_numbered is_one_of is_reserved block_words code_words function_words word_kind other_kind sign_kind
kind-end-data-block t h = word-kind-is "END_DATA_BLOCK" t h

pub kind-type-word : (t : Lexeme) → IsWord "TYPE" t → kind_of false t ≡ n.type_word
unfolding word_entries argument_words operation_words bit_ops or_ops value_ops free_ops expression_words one_functions declaration_words statement_words prefixes function_word type_word sign_entries stl_signs is_numbered is_one_of is_reserved block_words code_words function_words word_kind other_kind sign_kind
kind-type-word t h = word-kind-is "TYPE" t h

pub kind-end-type : (t : Lexeme) → IsWord "END_TYPE" t → kind_of false t ≡ n.end_type
unfolding word_entries argument_words operation_words bit_ops or_ops value_ops free_ops expression_words one_functions declaration_words statement_words prefixes function_word type_word sign_entries stl_signs is_numbered is_one_of is_reserved block_words code_words function_words word_kind other_kind sign_kind
kind-end-type t h = word-kind-is "END_TYPE" t h

pub kind-if-word : (t : Lexeme) → IsWord "IF" t → kind_of false t ≡ n.if_word
unfolding word_entries argument_words operation_words bit_ops or_ops value_ops free_ops expression_words one_functions declaration_words statement_words prefixes function_word type_word sign_entries stl_signs is_numbered is_one_of is_reserved block_words code_words function_words word_kind other_kind sign_kind
kind-if-word t h = word-kind-is "IF" t h

pub kind-then-word : (t : Lexeme) → IsWord "THEN" t → kind_of false t ≡ n.then_word
unfolding word_entries argument_words operation_words bit_ops or_ops value_ops free_ops expression_words one_functions declaration_words statement_words prefixes function_word type_word sign_entries stl_signs is_numbered is_one_of is_reserved block_words code_words function_words word_kind other_kind sign_kind
kind-then-word t h = word-kind-is "THEN" t h

pub kind-elsif-word : (t : Lexeme) → IsWord "ELSIF" t → kind_of false t ≡ n.elsif_word
unfolding word_entries argument_words operation_words bit_ops or_ops value_ops free_ops expression_words one_functions declaration_words statement_words prefixes function_word type_word sign_entries stl_signs is_numbered is_one_of is_reserved block_words code_words function_words word_kind other_kind sign_kind
kind-elsif-word t h = word-kind-is "ELSIF" t h

pub kind-else-word : (t : Lexeme) → IsWord "ELSE" t → kind_of false t ≡ n.else_word
unfolding word_entries argument_words operation_words bit_ops or_ops value_ops free_ops expression_words one_functions declaration_words statement_words prefixes function_word type_word sign_entries stl_signs is_numbered is_one_of is_reserved block_words code_words function_words word_kind other_kind sign_kind
kind-else-word t h = word-kind-is "ELSE" t h

pub kind-end-if : (t : Lexeme) → IsWord "END_IF" t → kind_of false t ≡ n.end_if
unfolding word_entries argument_words operation_words bit_ops or_ops value_ops free_ops expression_words one_functions declaration_words statement_words prefixes function_word type_word sign_entries stl_signs is_numbered is_one_of is_reserved block_words code_words function_words word_kind other_kind sign_kind
kind-end-if t h = word-kind-is "END_IF" t h

pub kind-case-word : (t : Lexeme) → IsWord "CASE" t → kind_of false t ≡ n.case_word
unfolding word_entries argument_words operation_words bit_ops or_ops value_ops free_ops expression_words one_functions declaration_words statement_words prefixes function_word type_word sign_entries stl_signs is_numbered is_one_of is_reserved block_words code_words function_words word_kind other_kind sign_kind
kind-case-word t h = word-kind-is "CASE" t h

pub kind-end-case : (t : Lexeme) → IsWord "END_CASE" t → kind_of false t ≡ n.end_case
unfolding word_entries argument_words operation_words bit_ops or_ops value_ops free_ops expression_words one_functions declaration_words statement_words prefixes function_word type_word sign_entries stl_signs is_numbered is_one_of is_reserved block_words code_words function_words word_kind other_kind sign_kind
kind-end-case t h = word-kind-is "END_CASE" t h

pub kind-for-word : (t : Lexeme) → IsWord "FOR" t → kind_of false t ≡ n.for_word
unfolding word_entries argument_words operation_words bit_ops or_ops value_ops free_ops expression_words one_functions declaration_words statement_words prefixes function_word type_word sign_entries stl_signs is_numbered is_one_of is_reserved block_words code_words function_words word_kind other_kind sign_kind
kind-for-word t h = word-kind-is "FOR" t h

pub kind-to-word : (t : Lexeme) → IsWord "TO" t → kind_of false t ≡ n.to_word
unfolding word_entries argument_words operation_words bit_ops or_ops value_ops free_ops expression_words one_functions declaration_words statement_words prefixes function_word type_word sign_entries stl_signs is_numbered is_one_of is_reserved block_words code_words function_words word_kind other_kind sign_kind
kind-to-word t h = word-kind-is "TO" t h

pub kind-by-word : (t : Lexeme) → IsWord "BY" t → kind_of false t ≡ n.by_word
unfolding word_entries argument_words operation_words bit_ops or_ops value_ops free_ops expression_words one_functions declaration_words statement_words prefixes function_word type_word sign_entries stl_signs is_numbered is_one_of is_reserved block_words code_words function_words word_kind other_kind sign_kind
kind-by-word t h = word-kind-is "BY" t h

pub kind-do-word : (t : Lexeme) → IsWord "DO" t → kind_of false t ≡ n.do_word
unfolding word_entries argument_words operation_words bit_ops or_ops value_ops free_ops expression_words one_functions declaration_words statement_words prefixes function_word type_word sign_entries stl_signs is_numbered is_one_of is_reserved block_words code_words function_words word_kind other_kind sign_kind
kind-do-word t h = word-kind-is "DO" t h

pub kind-end-for : (t : Lexeme) → IsWord "END_FOR" t → kind_of false t ≡ n.end_for
unfolding word_entries argument_words operation_words bit_ops or_ops value_ops free_ops expression_words one_functions declaration_words statement_words prefixes function_word type_word sign_entries stl_signs is_numbered is_one_of is_reserved block_words code_words function_words word_kind other_kind sign_kind
kind-end-for t h = word-kind-is "END_FOR" t h

pub kind-while-word : (t : Lexeme) → IsWord "WHILE" t → kind_of false t ≡ n.while_word
unfolding word_entries argument_words operation_words bit_ops or_ops value_ops free_ops expression_words one_functions declaration_words statement_words prefixes function_word type_word sign_entries stl_signs is_numbered is_one_of is_reserved block_words code_words function_words word_kind other_kind sign_kind
kind-while-word t h = word-kind-is "WHILE" t h

pub kind-end-while : (t : Lexeme) → IsWord "END_WHILE" t → kind_of false t ≡ n.end_while
unfolding word_entries argument_words operation_words bit_ops or_ops value_ops free_ops expression_words one_functions declaration_words statement_words prefixes function_word type_word sign_entries stl_signs is_numbered is_one_of is_reserved block_words code_words function_words word_kind other_kind sign_kind
kind-end-while t h = word-kind-is "END_WHILE" t h

pub kind-repeat-word : (t : Lexeme) → IsWord "REPEAT" t → kind_of false t ≡ n.repeat_word
unfolding word_entries argument_words operation_words bit_ops or_ops value_ops free_ops expression_words one_functions declaration_words statement_words prefixes function_word type_word sign_entries stl_signs is_numbered is_one_of is_reserved block_words code_words function_words word_kind other_kind sign_kind
kind-repeat-word t h = word-kind-is "REPEAT" t h

pub kind-until-word : (t : Lexeme) → IsWord "UNTIL" t → kind_of false t ≡ n.until_word
unfolding word_entries argument_words operation_words bit_ops or_ops value_ops free_ops expression_words one_functions declaration_words statement_words prefixes function_word type_word sign_entries stl_signs is_numbered is_one_of is_reserved block_words code_words function_words word_kind other_kind sign_kind
kind-until-word t h = word-kind-is "UNTIL" t h

pub kind-end-repeat : (t : Lexeme) → IsWord "END_REPEAT" t → kind_of false t ≡ n.end_repeat
unfolding word_entries argument_words operation_words bit_ops or_ops value_ops free_ops expression_words one_functions declaration_words statement_words prefixes function_word type_word sign_entries stl_signs is_numbered is_one_of is_reserved block_words code_words function_words word_kind other_kind sign_kind
kind-end-repeat t h = word-kind-is "END_REPEAT" t h

pub kind-network-word : (t : Lexeme) → IsWord "NETWORK" t → kind_of false t ≡ n.network_word
unfolding word_entries argument_words operation_words bit_ops or_ops value_ops free_ops expression_words one_functions declaration_words statement_words prefixes function_word type_word sign_entries stl_signs is_numbered is_one_of is_reserved block_words code_words function_words word_kind other_kind sign_kind
kind-network-word t h = word-kind-is "NETWORK" t h

pub kind-call-word : (t : Lexeme) → IsWord "CALL" t → kind_of false t ≡ n.call_word
unfolding word_entries argument_words operation_words bit_ops or_ops value_ops free_ops expression_words one_functions declaration_words statement_words prefixes function_word type_word sign_entries stl_signs is_numbered is_one_of is_reserved block_words code_words function_words word_kind other_kind sign_kind
kind-call-word t h = word-kind-is "CALL" t h

pub kind-uc-word : (t : Lexeme) → IsWord "UC" t → kind_of false t ≡ n.uc_word
unfolding word_entries argument_words operation_words bit_ops or_ops value_ops free_ops expression_words one_functions declaration_words statement_words prefixes function_word type_word sign_entries stl_signs is_numbered is_one_of is_reserved block_words code_words function_words word_kind other_kind sign_kind
kind-uc-word t h = word-kind-is "UC" t h

pub kind-true : (t : Lexeme) → IsWord "TRUE" t → kind_of false t ≡ n.truth
unfolding word_entries argument_words operation_words bit_ops or_ops value_ops free_ops expression_words one_functions declaration_words statement_words prefixes function_word type_word sign_entries stl_signs is_numbered is_one_of is_reserved block_words code_words function_words word_kind other_kind sign_kind
kind-true t h = word-kind-is "TRUE" t h

pub kind-false : (t : Lexeme) → IsWord "FALSE" t → kind_of false t ≡ n.truth
unfolding word_entries argument_words operation_words bit_ops or_ops value_ops free_ops expression_words one_functions declaration_words statement_words prefixes function_word type_word sign_entries stl_signs is_numbered is_one_of is_reserved block_words code_words function_words word_kind other_kind sign_kind
kind-false t h = word-kind-is "FALSE" t h

pub kind-min : (t : Lexeme) → IsWord "MIN" t → kind_of false t ≡ n.two_function
unfolding word_entries argument_words operation_words bit_ops or_ops value_ops free_ops expression_words one_functions declaration_words statement_words prefixes function_word type_word sign_entries stl_signs is_numbered is_one_of is_reserved block_words code_words function_words word_kind other_kind sign_kind
kind-min t h = word-kind-is "MIN" t h

pub kind-max : (t : Lexeme) → IsWord "MAX" t → kind_of false t ≡ n.two_function
unfolding word_entries argument_words operation_words bit_ops or_ops value_ops free_ops expression_words one_functions declaration_words statement_words prefixes function_word type_word sign_entries stl_signs is_numbered is_one_of is_reserved block_words code_words function_words word_kind other_kind sign_kind
kind-max t h = word-kind-is "MAX" t h

pub kind-shl : (t : Lexeme) → IsWord "SHL" t → kind_of false t ≡ n.shift_function
unfolding word_entries argument_words operation_words bit_ops or_ops value_ops free_ops expression_words one_functions declaration_words statement_words prefixes function_word type_word sign_entries stl_signs is_numbered is_one_of is_reserved block_words code_words function_words word_kind other_kind sign_kind
kind-shl t h = word-kind-is "SHL" t h

pub kind-shr : (t : Lexeme) → IsWord "SHR" t → kind_of false t ≡ n.shift_function
unfolding word_entries argument_words operation_words bit_ops or_ops value_ops free_ops expression_words one_functions declaration_words statement_words prefixes function_word type_word sign_entries stl_signs is_numbered is_one_of is_reserved block_words code_words function_words word_kind other_kind sign_kind
kind-shr t h = word-kind-is "SHR" t h

pub kind-var-input : (t : Lexeme) → IsWord "VAR_INPUT" t → kind_of false t ≡ n.section_word
unfolding word_entries argument_words operation_words bit_ops or_ops value_ops free_ops expression_words one_functions declaration_words statement_words prefixes function_word type_word sign_entries stl_signs is_numbered is_one_of is_reserved block_words code_words function_words word_kind other_kind sign_kind
kind-var-input t h = word-kind-is "VAR_INPUT" t h

pub kind-var-output : (t : Lexeme) → IsWord "VAR_OUTPUT" t → kind_of false t ≡ n.section_word
unfolding word_entries argument_words operation_words bit_ops or_ops value_ops free_ops expression_words one_functions declaration_words statement_words prefixes function_word type_word sign_entries stl_signs is_numbered is_one_of is_reserved block_words code_words function_words word_kind other_kind sign_kind
kind-var-output t h = word-kind-is "VAR_OUTPUT" t h

pub kind-var-in-out : (t : Lexeme) → IsWord "VAR_IN_OUT" t → kind_of false t ≡ n.section_word
unfolding word_entries argument_words operation_words bit_ops or_ops value_ops free_ops expression_words one_functions declaration_words statement_words prefixes function_word type_word sign_entries stl_signs is_numbered is_one_of is_reserved block_words code_words function_words word_kind other_kind sign_kind
kind-var-in-out t h = word-kind-is "VAR_IN_OUT" t h

pub kind-var : (t : Lexeme) → IsWord "VAR" t → kind_of false t ≡ n.section_word
unfolding word_entries argument_words operation_words bit_ops or_ops value_ops free_ops expression_words one_functions declaration_words statement_words prefixes function_word type_word sign_entries stl_signs is_numbered is_one_of is_reserved block_words code_words function_words word_kind other_kind sign_kind
kind-var t h = word-kind-is "VAR" t h

pub kind-var-temp : (t : Lexeme) → IsWord "VAR_TEMP" t → kind_of false t ≡ n.section_word
unfolding word_entries argument_words operation_words bit_ops or_ops value_ops free_ops expression_words one_functions declaration_words statement_words prefixes function_word type_word sign_entries stl_signs is_numbered is_one_of is_reserved block_words code_words function_words word_kind other_kind sign_kind
kind-var-temp t h = word-kind-is "VAR_TEMP" t h

pub kind-exit : (t : Lexeme) → IsWord "EXIT" t → kind_of false t ≡ n.single_word
unfolding word_entries argument_words operation_words bit_ops or_ops value_ops free_ops expression_words one_functions declaration_words statement_words prefixes function_word type_word sign_entries stl_signs is_numbered is_one_of is_reserved block_words code_words function_words word_kind other_kind sign_kind
kind-exit t h = word-kind-is "EXIT" t h

pub kind-continue : (t : Lexeme) → IsWord "CONTINUE" t → kind_of false t ≡ n.single_word
unfolding word_entries argument_words operation_words bit_ops or_ops value_ops free_ops expression_words one_functions declaration_words statement_words prefixes function_word type_word sign_entries stl_signs is_numbered is_one_of is_reserved block_words code_words function_words word_kind other_kind sign_kind
kind-continue t h = word-kind-is "CONTINUE" t h

pub kind-return : (t : Lexeme) → IsWord "RETURN" t → kind_of false t ≡ n.single_word
unfolding word_entries argument_words operation_words bit_ops or_ops value_ops free_ops expression_words one_functions declaration_words statement_words prefixes function_word type_word sign_entries stl_signs is_numbered is_one_of is_reserved block_words code_words function_words word_kind other_kind sign_kind
kind-return t h = word-kind-is "RETURN" t h

-- ---- operators

abbrev pub kind_between : BinaryOp → ℕ
kind_between op.Mul = n.times
kind_between op.Div = n.times
kind_between op.Mod = n.mod_word
kind_between op.Add = n.plus
kind_between op.Sub = n.minus
kind_between op.Less = n.compare_sign
kind_between op.Greater = n.compare_sign
kind_between op.LessEqual = n.compare_sign
kind_between op.GreaterEqual = n.compare_sign
kind_between op.Equal = n.equals
kind_between op.NotEqual = n.unequal
kind_between op.And = n.and_word
kind_between op.Xor = n.xor_word
kind_between op.Or = n.or_word

pub kind-between : (its_op : BinaryOp) (t : Lexeme) → IsBetween its_op t → kind_of false t ≡ kind_between its_op
unfolding word_entries argument_words operation_words bit_ops or_ops value_ops free_ops expression_words one_functions declaration_words statement_words prefixes function_word type_word sign_entries stl_signs is_numbered is_one_of is_reserved block_words code_words function_words word_kind other_kind sign_kind
kind-between op.Mul t h = sign-kind-is "*" t false h
kind-between op.Div t (inl h) = sign-kind-is "/" t false h
kind-between op.Div t (inr h) = word-kind-is "DIV" t h
kind-between op.Mod t h = word-kind-is "MOD" t h
kind-between op.Add t h = sign-kind-is "+" t false h
kind-between op.Sub t h = sign-kind-is "-" t false h
kind-between op.Less t h = sign-kind-is "<" t false h
kind-between op.Greater t h = sign-kind-is ">" t false h
kind-between op.LessEqual t h = sign-kind-is "<=" t false h
kind-between op.GreaterEqual t h = sign-kind-is ">=" t false h
kind-between op.Equal t h = sign-kind-is "=" t false h
kind-between op.NotEqual t h = sign-kind-is "<>" t false h
kind-between op.And t (inl h) = word-kind-is "AND" t h
kind-between op.And t (inr h) = sign-kind-is "&" t false h
kind-between op.Xor t h = word-kind-is "XOR" t h
kind-between op.Or t h = word-kind-is "OR" t h

abbrev pub kind_before : UnaryOp → ℕ
kind_before unary_op.Plus = n.plus
kind_before unary_op.Minus = n.minus
kind_before unary_op.Not = n.not_word

pub kind-before : (its_op : UnaryOp) (t : Lexeme) → IsBefore its_op t → kind_of false t ≡ kind_before its_op
unfolding word_entries argument_words operation_words bit_ops or_ops value_ops free_ops expression_words one_functions declaration_words statement_words prefixes function_word type_word sign_entries stl_signs is_numbered is_one_of is_reserved block_words code_words function_words word_kind other_kind sign_kind
kind-before unary_op.Plus t h = sign-kind-is "+" t false h
kind-before unary_op.Minus t h = sign-kind-is "-" t false h
kind-before unary_op.Not t h = word-kind-is "NOT" t h

-- ---- functions

abbrev pub kind_of_function : StdFunction → ℕ
kind_of_function (function.Convert from to) = n.one_function
kind_of_function function.Abs = n.one_function
kind_of_function function.Min = n.two_function
kind_of_function function.Max = n.two_function
kind_of_function function.Limit = n.limit_function
kind_of_function function.Sel = n.sel_function
kind_of_function function.Shl = n.shift_function
kind_of_function function.Shr = n.shift_function

equal-by : (a b : ℕ) → (a == b) ≡ true → a ≡ b
equal-by a b e = grind arith

kind-test : (number : ℕ) (a b : List ℕ) → small a ≡ small b → (word_kind a == number) ≡ (word_kind b == number)
kind-test number a b e = ap (λ (m : ℕ). m == number) (word-small a b e)

-- what each word of a list is
pub word-listed : (t : Lexeme) (number : ℕ) (words : List (List ℕ)) → list_all (λ w. word_kind w == number) words ≡ true → t.kind ≡ k.Word
    → is_one_of words t.bytes ≡ true → kind_of false t ≡ number
word-listed t number words e f h =
    ap (λ (kind : Kind). kind_by kind false t.bytes) f
    ∙ equal-by (word_kind t.bytes) number (of-each (λ w. word_kind w == number) t.bytes words (kind-test number) e h)

or-true : (p q : Bool) → q ≡ true → (p || q) ≡ true
or-true true q e = refl
or-true false q e = e

true-or : (p q : Bool) → p ≡ true → (p || q) ≡ true
true-or true q e = refl
true-or false q e = cc

same-test : (text a b : List ℕ) → a ≡ b → str_eq_ignore_ascii_case text b ≡ true → str_eq_ignore_ascii_case text a ≡ true
same-test text a b e h = ap (λ (w : List ℕ). str_eq_ignore_ascii_case text w) e ∙ h

conversion-at : (from : Ty) (tos : List Ty) (i : ℕ) (to : Ty) (text : List ℕ) → i < length tos → slice_index_or tos i to ≡ to
    → str_eq_ignore_ascii_case text (function_word (function.Convert from to)) ≡ true
    → is_one_of (map (λ target. function_word (function.Convert from target)) tos) text ≡ true
unfolding is_one_of
conversion-at from [] i to text l e h = absurd (omega arith)
conversion-at from (x ∷ xs) zero to text l e h =
    true-or _ _ (same-test text (function_word (function.Convert from x)) (function_word (function.Convert from to))
    (ap (λ (target : Ty). function_word (function.Convert from target)) e) h)
conversion-at from (x ∷ xs) (suc i) to text l e h = or-true _ _ (conversion-at from xs i to text (omega arith) e h)

is-conversion : (from to : Ty) (text : List ℕ) → Contains (targets_of from) to
    → str_eq_ignore_ascii_case text (function_word (function.Convert from to)) ≡ true → is_one_of (conversion_words from) text ≡ true
is-conversion from to text (i, l, e) h = conversion-at from (targets_of from) i to text l e h

all-convert : (from : Ty) → list_all (λ w. word_kind w == n.one_function) (conversion_words from) ≡ true
unfolding word_entries argument_words operation_words bit_ops or_ops value_ops free_ops expression_words one_functions declaration_words statement_words prefixes function_word type_word sign_entries stl_signs is_numbered is_one_of is_reserved block_words code_words function_words word_kind other_kind sign_kind
all-convert ty.Bool = refl
all-convert ty.Byte = refl
all-convert ty.Word = refl
all-convert ty.Dword = refl
all-convert ty.Int = refl
all-convert ty.Dint = refl
all-convert ty.Time = refl

pub kind-function : (f : StdFunction) (t : Lexeme) → IsOfFunction f t → kind_of false t ≡ kind_of_function f
unfolding word_entries argument_words operation_words bit_ops or_ops value_ops free_ops expression_words one_functions declaration_words statement_words prefixes function_word type_word sign_entries stl_signs is_numbered is_one_of is_reserved block_words code_words function_words word_kind other_kind sign_kind
kind-function (function.Convert from to) t h =
    word-listed t n.one_function (conversion_words from) (all-convert from) h.kind (is-conversion from to t.bytes h.is_one h.bytes)
kind-function function.Abs t h = by-word t (codes "ABS") h.kind h.bytes
kind-function function.Min t h = by-word t (codes "MIN") h.kind h.bytes
kind-function function.Max t h = by-word t (codes "MAX") h.kind h.bytes
kind-function function.Limit t h = by-word t (codes "LIMIT") h.kind h.bytes
kind-function function.Sel t h = by-word t (codes "SEL") h.kind h.bytes
kind-function function.Shl t h = by-word t (codes "SHL") h.kind h.bytes
kind-function function.Shr t h = by-word t (codes "SHR") h.kind h.bytes

-- ---- types and literals

pub kind-type : (simple : Ty) (t : Lexeme) → IsTypeWord simple t → kind_of false t ≡ n.simple_type
unfolding word_entries argument_words operation_words bit_ops or_ops value_ops free_ops expression_words one_functions declaration_words statement_words prefixes function_word type_word sign_entries stl_signs is_numbered is_one_of is_reserved block_words code_words function_words word_kind other_kind sign_kind
kind-type ty.Bool t h = by-word t (codes "BOOL") h.kind h.bytes
kind-type ty.Byte t h = by-word t (codes "BYTE") h.kind h.bytes
kind-type ty.Word t h = by-word t (codes "WORD") h.kind h.bytes
kind-type ty.Dword t h = by-word t (codes "DWORD") h.kind h.bytes
kind-type ty.Int t h = by-word t (codes "INT") h.kind h.bytes
kind-type ty.Dint t h = by-word t (codes "DINT") h.kind h.bytes
kind-type ty.Time t h = by-word t (codes "TIME") h.kind h.bytes

pub kind-truth : (own : Option Ty) (value : ℤ) (t : Lexeme) → IsTruth own value t → kind_of false t ≡ n.truth
kind-truth own value t h = elim h.valued [ inl w ↦ kind-true t w.0 | inr w ↦ kind-false t w.0 ]

pub kind-numeral : (type_of : List ℕ → Option Ty) (own : Option Ty) (value : ℤ) (t : Lexeme) (marked : Bool) → IsNumeral type_of own value t
    → kind_of marked t ≡ n.number
kind-numeral type_of own value t marked h = ap (λ (kind : Kind). kind_by kind marked t.bytes) h.kind

pub kind-value : (value : ℤ) (t : Lexeme) (marked : Bool) → IsOfValue value t → kind_of marked t ≡ n.number
kind-value value t marked h = ap (λ (kind : Kind). kind_by kind marked t.bytes) h.kind

pub kind-address : (its_area : Area) (bits byte bit : ℕ) (t : Lexeme) (marked : Bool) → IsAddress its_area bits byte bit t
    → kind_of marked t ≡ n.address
kind-address its_area bits byte bit t marked h = ap (λ (kind : Kind). kind_by kind marked t.bytes) h.kind

-- ---- names

pub kind-quoted : (name : Name) (t : Lexeme) (marked : Bool) → IsQuoted name t → kind_of marked t ≡ n.quoted
kind-quoted name t marked h = ap (λ (kind : Kind). kind_by kind marked t.bytes) h.kind

pub kind-prefix : (t : Lexeme) → t.kind ≡ k.Word → is_one_of prefixes t.bytes ≡ true → kind_of false t ≡ n.number_prefix
unfolding word_entries argument_words operation_words bit_ops or_ops value_ops free_ops expression_words one_functions declaration_words statement_words prefixes function_word type_word sign_entries stl_signs is_numbered is_one_of is_reserved block_words code_words function_words word_kind other_kind sign_kind
kind-prefix t e h = word-listed t n.number_prefix prefixes refl e h

free-prefix-by : (bytes : List ℕ) → is_one_of prefixes bytes ≡ true → marked_kind bytes ≡ n.free_prefix
unfolding marked_kind
free-prefix-by bytes h = ap (λ (p : Bool). cond p n.free_prefix (cond (is_numbered bytes) n.free_numbered n.free_word)) h

pub kind-free-prefix : (t : Lexeme) → t.kind ≡ k.Word → is_one_of prefixes t.bytes ≡ true → kind_of true t ≡ n.free_prefix
kind-free-prefix t e h = ap (λ (kind : Kind). kind_by kind true t.bytes) e ∙ free-prefix-by t.bytes h

-- where no word of a table passes a test, a text that does is in none
both-ways : (b : Bool) → b ≡ true → b ≡ false → ⊥
both-ways true e f = cc
both-ways false e f = cc

not-both-ways : (b : Bool) → b ≡ true → not b ≡ true → ⊥
not-both-ways true e f = cc
not-both-ways false e f = cc

left-only : (p r : Bool) → (p || r) ≡ true → r ≡ false → p ≡ true
left-only true r e f = refl
left-only false r e f = sym f ∙ e

quote-kept : (b : ℕ) → (to_ascii_lowercase b == 34) ≡ (b == 34)
quote-kept b = grind arith

passed-step : (p q : Bool) (meaning found other : ℕ) → (p ≡ true → q ≡ true) → not q ≡ true → found ≡ other → cond p meaning found ≡ other
passed-step true q meaning found other f e h = absurd (not-both-ways q (f refl) e)
passed-step false q meaning found other f e h = h

pub passed : (test : List ℕ → Bool) (text : List ℕ) (es : List Entry) (other : ℕ) → ((a b : List ℕ) → small a ≡ small b → test a ≡ test b)
    → list_all (λ e. not (test e.0)) es ≡ true → test text ≡ true → look_up es text other ≡ other
passed test text [] other blind all h = refl
passed test text (x ∷ xs) other blind all h =
    passed-step (str_eq_ignore_ascii_case text x.0) (test x.0) x.1 (look_up xs text other) other
    (λ e. sym (blind text x.0 (same-small text x.0 e)) ∙ h) (left-of (not (test x.0)) (list_all (λ e. not (test e.0)) xs) all)
    (passed test text xs other blind (right-of (not (test x.0)) (list_all (λ e. not (test e.0)) xs) all) h)

other-numbered : (bytes : List ℕ) → is_numbered bytes ≡ true → other_kind bytes ≡ n.numbered
unfolding other_kind
other-numbered bytes h = ap (λ (b : Bool). cond b n.numbered n.plain) h

other-plain : (bytes : List ℕ) → is_numbered bytes ≡ false → other_kind bytes ≡ n.plain
unfolding other_kind
other-plain bytes h = ap (λ (b : Bool). cond b n.numbered n.plain) h

unnumbered-entries : list_all (λ e. not (is_numbered e.0)) word_entries ≡ true
unfolding word_entries argument_words operation_words bit_ops or_ops value_ops free_ops expression_words one_functions declaration_words statement_words prefixes function_word type_word sign_entries stl_signs is_numbered is_one_of is_reserved block_words code_words function_words word_kind other_kind sign_kind
unnumbered-entries = refl

numbered-by : (bytes : List ℕ) → is_numbered bytes ≡ true → word_kind bytes ≡ n.numbered
unfolding word_kind
numbered-by bytes h =
    passed is_numbered bytes word_entries (other_kind bytes) numbered-small unnumbered-entries h ∙ other-numbered bytes h

pub kind-numbered : (name : Name) (t : Lexeme) → IsNumbered name t → kind_of false t ≡ n.numbered
kind-numbered name t h = ap (λ (kind : Kind). kind_by kind false t.bytes) h.kind ∙ numbered-by t.bytes h.numbered

free-step : (p q : Bool) → (p ≡ true → q ≡ false) → q ≡ true → cond p n.free_prefix (cond q n.free_numbered n.free_word) ≡ n.free_numbered
free-step true q f e = absurd (both-ways q e (f refl))
free-step false true f e = refl
free-step false false f e = cc

free-numbered-by : (bytes : List ℕ) → is_numbered bytes ≡ true → marked_kind bytes ≡ n.free_numbered
unfolding marked_kind
free-numbered-by bytes h = free-step (is_one_of prefixes bytes) (is_numbered bytes) (prefix-unnumbered bytes) h

pub kind-free-numbered : (name : Name) (t : Lexeme) → IsNumbered name t → kind_of true t ≡ n.free_numbered
kind-free-numbered name t h = ap (λ (kind : Kind). kind_by kind true t.bytes) h.kind ∙ free-numbered-by t.bytes h.numbered

-- a word behind `#` or `.`
free-word-step : (p q : Bool) → q ≡ false
    → (cond p n.free_prefix (cond q n.free_numbered n.free_word) ≡ n.free_word)
    ⊎ (cond p n.free_prefix (cond q n.free_numbered n.free_word) ≡ n.free_prefix)
free-word-step true q e = inr refl
free-word-step false true e = cc
free-word-step false false e = inl refl

free-word-by : (bytes : List ℕ) → is_numbered bytes ≡ false → (marked_kind bytes ≡ n.free_word) ⊎ (marked_kind bytes ≡ n.free_prefix)
unfolding marked_kind
free-word-by bytes h = free-word-step (is_one_of prefixes bytes) (is_numbered bytes) h

pub kind-free-word : (name : Name) (t : Lexeme) → IsPlain name t → (kind_of true t ≡ n.free_word) ⊎ (kind_of true t ≡ n.free_prefix)
kind-free-word name t h =
    let e : kind_of true t ≡ marked_kind t.bytes = ap (λ (kind : Kind). kind_by kind true t.bytes) h.kind in
    elim (free-word-by t.bytes h.unnumbered) [ inl f ↦ inl (e ∙ f) | inr f ↦ inr (e ∙ f) ]

-- a word that stands alone

pub data WordKind (number : ℕ) : Type 0 where
  as_plain : number ≡ n.plain → WordKind number
  as_in_word : number ≡ n.in_word → WordKind number
  as_in0_word : number ≡ n.in0_word → WordKind number
  as_in1_word : number ≡ n.in1_word → WordKind number
  as_in2_word : number ≡ n.in2_word → WordKind number
  as_mn_word : number ≡ n.mn_word → WordKind number
  as_mx_word : number ≡ n.mx_word → WordKind number
  as_g_word : number ≡ n.g_word → WordKind number
  as_n_word : number ≡ n.n_word → WordKind number
  as_bit_op : number ≡ n.bit_op → WordKind number
  as_or_op : number ≡ n.or_op → WordKind number
  as_value_op : number ≡ n.value_op → WordKind number
  as_free_op : number ≡ n.free_op → WordKind number

abbrev pub is_word_kind : ℕ → Bool
is_word_kind number = (number == n.plain) || ((number == n.in_word) || ((number == n.in0_word) || ((number == n.in1_word) || ((number == n.in2_word) || ((number == n.mn_word) || ((number == n.mx_word) || ((number == n.g_word) || ((number == n.n_word) || ((number == n.bit_op) || ((number == n.or_op) || ((number == n.value_op) || ((number == n.free_op)))))))))))))

two-of : (p q : Bool) → (p || q) ≡ true → (p ≡ true) ⊎ (q ≡ true)
two-of true q e = inl refl
two-of false q e = inr e

word-kind-of : (number : ℕ) → is_word_kind number ≡ true → WordKind number
word-kind-of number e =
    elim (two-of (number == n.plain) _ e) [ inl e ↦ as_plain (equal-by number n.plain e) | inr e0 ↦ elim (two-of (number == n.in_word) _ e0) [ inl e ↦ as_in_word (equal-by number n.in_word e) | inr e1 ↦ elim (two-of (number == n.in0_word) _ e1) [ inl e ↦ as_in0_word (equal-by number n.in0_word e) | inr e2 ↦ elim (two-of (number == n.in1_word) _ e2) [ inl e ↦ as_in1_word (equal-by number n.in1_word e) | inr e3 ↦ elim (two-of (number == n.in2_word) _ e3) [ inl e ↦ as_in2_word (equal-by number n.in2_word e) | inr e4 ↦ elim (two-of (number == n.mn_word) _ e4) [ inl e ↦ as_mn_word (equal-by number n.mn_word e) | inr e5 ↦ elim (two-of (number == n.mx_word) _ e5) [ inl e ↦ as_mx_word (equal-by number n.mx_word e) | inr e6 ↦ elim (two-of (number == n.g_word) _ e6) [ inl e ↦ as_g_word (equal-by number n.g_word e) | inr e7 ↦ elim (two-of (number == n.n_word) _ e7) [ inl e ↦ as_n_word (equal-by number n.n_word e) | inr e8 ↦ elim (two-of (number == n.bit_op) _ e8) [ inl e ↦ as_bit_op (equal-by number n.bit_op e) | inr e9 ↦ elim (two-of (number == n.or_op) _ e9) [ inl e ↦ as_or_op (equal-by number n.or_op e) | inr e10 ↦ elim (two-of (number == n.value_op) _ e10) [ inl e ↦ as_value_op (equal-by number n.value_op e) | inr e11 ↦ as_free_op (equal-by number n.free_op e11) ] ] ] ] ] ] ] ] ] ] ] ]

-- each entry of a table has such a kind, or its word is reserved
kind-step : (p r s : Bool) (meaning found : ℕ) → (is_word_kind meaning || r) ≡ true → (p ≡ true → r ≡ s) → s ≡ false
    → is_word_kind found ≡ true → is_word_kind (cond p meaning found) ≡ true
kind-step true r s meaning found e f g h = left-only (is_word_kind meaning) r e (f refl ∙ g)
kind-step false r s meaning found e f g h = h

kind-among : (text : List ℕ) (es : List Entry) (other : ℕ) → list_all (λ e. is_word_kind e.1 || is_reserved e.0) es ≡ true
    → is_reserved text ≡ false → is_word_kind other ≡ true → is_word_kind (look_up es text other) ≡ true
kind-among text [] other all e h = h
kind-among text (x ∷ xs) other all e h =
    kind-step (str_eq_ignore_ascii_case text x.0) (is_reserved x.0) (is_reserved text) x.1 (look_up xs text other)
    (left-of (is_word_kind x.1 || is_reserved x.0) (list_all (λ e. is_word_kind e.1 || is_reserved e.0) xs) all)
    (λ f. sym (reserved-small text x.0 (same-small text x.0 f))) e
    (kind-among text xs other (right-of (is_word_kind x.1 || is_reserved x.0) (list_all (λ e. is_word_kind e.1 || is_reserved e.0) xs) all) e h)

all-kinds : list_all (λ e. is_word_kind e.1 || is_reserved e.0) word_entries ≡ true
unfolding word_entries argument_words operation_words bit_ops or_ops value_ops free_ops expression_words one_functions declaration_words statement_words prefixes function_word type_word sign_entries stl_signs is_numbered is_one_of is_reserved block_words code_words function_words word_kind other_kind sign_kind
all-kinds = refl

word-by : (bytes : List ℕ) → is_numbered bytes ≡ false → is_reserved bytes ≡ false → is_word_kind (word_kind bytes) ≡ true
unfolding word_kind
word-by bytes e f = kind-among bytes word_entries (other_kind bytes) all-kinds f (ap is_word_kind (other-plain bytes e))

quoted-small : (text : List ℕ) → begins_quoted (small text) ≡ begins_quoted text
quoted-small [] = refl
quoted-small (b ∷ others) = quote-kept b

quoted-like : (a b : List ℕ) → small a ≡ small b → not (begins_quoted a) ≡ not (begins_quoted b)
quoted-like a b e = ap not (sym (quoted-small a) ∙ ap begins_quoted e ∙ quoted-small b)

quoted-unreserved : (bytes : List ℕ) → begins_quoted bytes ≡ true → is_reserved bytes ≡ false
unfolding word_entries argument_words operation_words bit_ops or_ops value_ops free_ops expression_words one_functions declaration_words statement_words prefixes function_word type_word sign_entries stl_signs is_numbered is_one_of is_reserved block_words code_words function_words word_kind other_kind sign_kind
quoted-unreserved bytes e = not-reserved (λ w. not (begins_quoted w)) bytes quoted-like refl refl refl (ap not e)

unreserved-step : (p r : Bool) (bytes : List ℕ) → begins_quoted bytes ≡ p → is_reserved bytes ≡ r → (p || not r) ≡ true → is_reserved bytes ≡ false
unreserved-step true r bytes e f h = quoted-unreserved bytes e
unreserved-step false true bytes e f h = cc
unreserved-step false false bytes e f h = f

pub unreserved : (bytes : List ℕ) → IsFree (plain_name bytes) → is_reserved bytes ≡ false
unreserved bytes h =
    unreserved-step (begins_quoted bytes) (is_reserved (small bytes)) bytes refl (sym (reserved-small (small bytes) bytes (small-twice bytes))) h

word-at : (t : Lexeme) (name : Name) → IsPlain name t → IsFree name → is_word_kind (kind_of false t) ≡ true
word-at t name h f =
    ap (λ (kind : Kind). is_word_kind (kind_by kind false t.bytes)) h.kind
    ∙ word-by t.bytes h.unnumbered (unreserved t.bytes (subst IsFree h.names f))

pub kind-word : (t : Lexeme) (name : Name) → IsPlain name t → IsFree name → WordKind (kind_of false t)
kind-word t name h f = word-kind-of (kind_of false t) (word-at t name h f)
