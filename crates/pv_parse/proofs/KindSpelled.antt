-- From a token's kind to what spells it: for each kind what a token is that has it. Lemmas are named after the kind.
use Prim.Native.String.{String}
use Rattle.std.proofs.Common.{◌≡◌, ℕ, Bool, true, false, ◌||◌, List, [], ◌∷◌, codes, refl, subst, ◌⊎◌, inl, inr}
use Rattle.std.specs.List.{list_any}
use Rattle.std.specs.Str.{str_eq_ignore_ascii_case}
use Rattle.pv_word.specs.declared.types.Ty.{Ty}
use Rattle.pv_word.specs.declared.types.Ty.TheVariants as ty
use Rattle.pv_lex.specs.declared.token.Kind.{Kind}
use Rattle.pv_lex.specs.declared.token.Kind.TheVariants as k
use Rattle.pv_lex.specs.Shapes.{is_one_of}
use Rattle.pv_tree.specs.Lexemes.{Lexeme, IsWord, IsSign}
use Rattle.pv_tree.specs.Words.{prefixes, function_word, type_word}
use Rattle.pv_tree.specs.Declarations.{IsTypeWord}
use Rattle.pv_parse.specs.KindNumbers as n
use Rattle.pv_parse.specs.Kinds.{HasKind, word_entries, argument_words, operation_words, bit_ops, or_ops, value_ops, free_ops, expression_words, one_functions, declaration_words, statement_words, sign_entries, stl_signs}
use Rattle.pv_parse.proofs.KindCases.{spelled-by, words_of, is_own}

-- ---- one of some words

first-or : (p : Bool) (q : Bool) → (p || q) ≡ true → (p ≡ true) ⊎ (q ≡ true)
first-or true q e = inl refl
first-or false q e = inr e

pub one-or : (word : List ℕ) (words : List (List ℕ)) (text : List ℕ) → is_one_of (word ∷ words) text ≡ true
    → (str_eq_ignore_ascii_case text word ≡ true) ⊎ (is_one_of words text ≡ true)
unfolding is_one_of
one-or word words text e = first-or (str_eq_ignore_ascii_case text word) (list_any (λ other. str_eq_ignore_ascii_case text other) words) e

pub one-of-none : (text : List ℕ) → is_one_of [] text ≡ true → ⊥
unfolding is_one_of
one-of-none text e = cc

pub only-one : (word text : List ℕ) → is_one_of (word ∷ []) text ≡ true → str_eq_ignore_ascii_case text word ≡ true
only-one word text e = elim (one-or word [] text e) [ inl h ↦ h | inr h ↦ absurd (one-of-none text h) ]

-- ---- kinds with words alone, and with signs alone

abbrev pub SaidBy : Kind → List (List ℕ) → Lexeme → Type 0
SaidBy kind words t = (t.kind ≡ kind) × (is_one_of words t.bytes ≡ true)

none-such : (kind : Kind) (words : List (List ℕ)) (t : Lexeme) → words ≡ [] → SaidBy kind words t → ⊥
none-such kind words t e h = one-of-none t.bytes (subst (λ ws. is_one_of ws t.bytes ≡ true) e h.1)

in-those : (kind : Kind) (words those : List (List ℕ)) (t : Lexeme) → words ≡ those → SaidBy kind words t → SaidBy kind those t
in-those kind words those t e h = (h.0, subst (λ ws. is_one_of ws t.bytes ≡ true) e h.1)

pub by-words : (t : Lexeme) (number : ℕ) (words : List (List ℕ)) → is_own number ≡ true → words_of number word_entries ≡ words
    → words_of number sign_entries ≡ [] → HasKind t number → SaidBy k.Word words t
by-words t number words o e f h =
    elim (spelled-by t number o h) [
      | inl s ↦ in-those k.Word (words_of number word_entries) words t e s
      | inr s ↦ absurd (none-such k.Sign (words_of number sign_entries) t f s)
    ]

pub by-signs : (t : Lexeme) (number : ℕ) (words : List (List ℕ)) → is_own number ≡ true → words_of number word_entries ≡ []
    → words_of number sign_entries ≡ words → HasKind t number → SaidBy k.Sign words t
by-signs t number words o e f h =
    elim (spelled-by t number o h) [
      | inl s ↦ absurd (none-such k.Word (words_of number word_entries) t e s)
      | inr s ↦ in-those k.Sign (words_of number sign_entries) words t f s
    ]

by-both : (t : Lexeme) (number : ℕ) (words signs : List (List ℕ)) → is_own number ≡ true → words_of number word_entries ≡ words
    → words_of number sign_entries ≡ signs → HasKind t number → SaidBy k.Word words t ⊎ SaidBy k.Sign signs t
by-both t number words signs o e f h =
    elim (spelled-by t number o h) [
      | inl s ↦ inl (in-those k.Word (words_of number word_entries) words t e s)
      | inr s ↦ inr (in-those k.Sign (words_of number sign_entries) signs t f s)
    ]

word-only : (text : String) (t : Lexeme) → SaidBy k.Word (codes text ∷ []) t → IsWord text t
word-only text t s = record { kind = s.0; bytes = only-one (codes text) t.bytes s.1 }

sign-only : (text : String) (t : Lexeme) → SaidBy k.Sign (codes text ∷ []) t → IsSign text t
sign-only text t s = record { kind = s.0; bytes = only-one (codes text) t.bytes s.1 }

-- ---- one word, or one sign

pub is-assign : (t : Lexeme) → HasKind t n.assign → IsSign ":=" t
unfolding word_entries argument_words operation_words bit_ops or_ops value_ops free_ops expression_words one_functions declaration_words statement_words prefixes function_word type_word sign_entries stl_signs
is-assign t h = sign-only ":=" t (by-signs t n.assign (codes ":=" ∷ []) refl refl refl h)

pub is-arrow : (t : Lexeme) → HasKind t n.arrow → IsSign "=>" t
unfolding word_entries argument_words operation_words bit_ops or_ops value_ops free_ops expression_words one_functions declaration_words statement_words prefixes function_word type_word sign_entries stl_signs
is-arrow t h = sign-only "=>" t (by-signs t n.arrow (codes "=>" ∷ []) refl refl refl h)

pub is-dots : (t : Lexeme) → HasKind t n.dots → IsSign ".." t
unfolding word_entries argument_words operation_words bit_ops or_ops value_ops free_ops expression_words one_functions declaration_words statement_words prefixes function_word type_word sign_entries stl_signs
is-dots t h = sign-only ".." t (by-signs t n.dots (codes ".." ∷ []) refl refl refl h)

pub is-paren-open : (t : Lexeme) → HasKind t n.paren_open → IsSign "(" t
unfolding word_entries argument_words operation_words bit_ops or_ops value_ops free_ops expression_words one_functions declaration_words statement_words prefixes function_word type_word sign_entries stl_signs
is-paren-open t h = sign-only "(" t (by-signs t n.paren_open (codes "(" ∷ []) refl refl refl h)

pub is-paren-close : (t : Lexeme) → HasKind t n.paren_close → IsSign ")" t
unfolding word_entries argument_words operation_words bit_ops or_ops value_ops free_ops expression_words one_functions declaration_words statement_words prefixes function_word type_word sign_entries stl_signs
is-paren-close t h = sign-only ")" t (by-signs t n.paren_close (codes ")" ∷ []) refl refl refl h)

pub is-bracket-open : (t : Lexeme) → HasKind t n.bracket_open → IsSign "[" t
unfolding word_entries argument_words operation_words bit_ops or_ops value_ops free_ops expression_words one_functions declaration_words statement_words prefixes function_word type_word sign_entries stl_signs
is-bracket-open t h = sign-only "[" t (by-signs t n.bracket_open (codes "[" ∷ []) refl refl refl h)

pub is-bracket-close : (t : Lexeme) → HasKind t n.bracket_close → IsSign "]" t
unfolding word_entries argument_words operation_words bit_ops or_ops value_ops free_ops expression_words one_functions declaration_words statement_words prefixes function_word type_word sign_entries stl_signs
is-bracket-close t h = sign-only "]" t (by-signs t n.bracket_close (codes "]" ∷ []) refl refl refl h)

pub is-colon : (t : Lexeme) → HasKind t n.colon → IsSign ":" t
unfolding word_entries argument_words operation_words bit_ops or_ops value_ops free_ops expression_words one_functions declaration_words statement_words prefixes function_word type_word sign_entries stl_signs
is-colon t h = sign-only ":" t (by-signs t n.colon (codes ":" ∷ []) refl refl refl h)

pub is-semicolon : (t : Lexeme) → HasKind t n.semicolon → IsSign ";" t
unfolding word_entries argument_words operation_words bit_ops or_ops value_ops free_ops expression_words one_functions declaration_words statement_words prefixes function_word type_word sign_entries stl_signs
is-semicolon t h = sign-only ";" t (by-signs t n.semicolon (codes ";" ∷ []) refl refl refl h)

pub is-comma : (t : Lexeme) → HasKind t n.comma → IsSign "," t
unfolding word_entries argument_words operation_words bit_ops or_ops value_ops free_ops expression_words one_functions declaration_words statement_words prefixes function_word type_word sign_entries stl_signs
is-comma t h = sign-only "," t (by-signs t n.comma (codes "," ∷ []) refl refl refl h)

pub is-dot : (t : Lexeme) → HasKind t n.dot → IsSign "." t
unfolding word_entries argument_words operation_words bit_ops or_ops value_ops free_ops expression_words one_functions declaration_words statement_words prefixes function_word type_word sign_entries stl_signs
is-dot t h = sign-only "." t (by-signs t n.dot (codes "." ∷ []) refl refl refl h)

pub is-hash : (t : Lexeme) → HasKind t n.hash → IsSign "#" t
unfolding word_entries argument_words operation_words bit_ops or_ops value_ops free_ops expression_words one_functions declaration_words statement_words prefixes function_word type_word sign_entries stl_signs
is-hash t h = sign-only "#" t (by-signs t n.hash (codes "#" ∷ []) refl refl refl h)

pub is-plus : (t : Lexeme) → HasKind t n.plus → IsSign "+" t
unfolding word_entries argument_words operation_words bit_ops or_ops value_ops free_ops expression_words one_functions declaration_words statement_words prefixes function_word type_word sign_entries stl_signs
is-plus t h = sign-only "+" t (by-signs t n.plus (codes "+" ∷ []) refl refl refl h)

pub is-minus : (t : Lexeme) → HasKind t n.minus → IsSign "-" t
unfolding word_entries argument_words operation_words bit_ops or_ops value_ops free_ops expression_words one_functions declaration_words statement_words prefixes function_word type_word sign_entries stl_signs
is-minus t h = sign-only "-" t (by-signs t n.minus (codes "-" ∷ []) refl refl refl h)

pub is-equals : (t : Lexeme) → HasKind t n.equals → IsSign "=" t
unfolding word_entries argument_words operation_words bit_ops or_ops value_ops free_ops expression_words one_functions declaration_words statement_words prefixes function_word type_word sign_entries stl_signs
is-equals t h = sign-only "=" t (by-signs t n.equals (codes "=" ∷ []) refl refl refl h)

pub is-unequal : (t : Lexeme) → HasKind t n.unequal → IsSign "<>" t
unfolding word_entries argument_words operation_words bit_ops or_ops value_ops free_ops expression_words one_functions declaration_words statement_words prefixes function_word type_word sign_entries stl_signs
is-unequal t h = sign-only "<>" t (by-signs t n.unequal (codes "<>" ∷ []) refl refl refl h)

pub is-in-word : (t : Lexeme) → HasKind t n.in_word → IsWord "IN" t
unfolding word_entries argument_words operation_words bit_ops or_ops value_ops free_ops expression_words one_functions declaration_words statement_words prefixes function_word type_word sign_entries stl_signs
is-in-word t h = word-only "IN" t (by-words t n.in_word (codes "IN" ∷ []) refl refl refl h)

pub is-in0-word : (t : Lexeme) → HasKind t n.in0_word → IsWord "IN0" t
unfolding word_entries argument_words operation_words bit_ops or_ops value_ops free_ops expression_words one_functions declaration_words statement_words prefixes function_word type_word sign_entries stl_signs
is-in0-word t h = word-only "IN0" t (by-words t n.in0_word (codes "IN0" ∷ []) refl refl refl h)

pub is-in1-word : (t : Lexeme) → HasKind t n.in1_word → IsWord "IN1" t
unfolding word_entries argument_words operation_words bit_ops or_ops value_ops free_ops expression_words one_functions declaration_words statement_words prefixes function_word type_word sign_entries stl_signs
is-in1-word t h = word-only "IN1" t (by-words t n.in1_word (codes "IN1" ∷ []) refl refl refl h)

pub is-in2-word : (t : Lexeme) → HasKind t n.in2_word → IsWord "IN2" t
unfolding word_entries argument_words operation_words bit_ops or_ops value_ops free_ops expression_words one_functions declaration_words statement_words prefixes function_word type_word sign_entries stl_signs
is-in2-word t h = word-only "IN2" t (by-words t n.in2_word (codes "IN2" ∷ []) refl refl refl h)

pub is-mn-word : (t : Lexeme) → HasKind t n.mn_word → IsWord "MN" t
unfolding word_entries argument_words operation_words bit_ops or_ops value_ops free_ops expression_words one_functions declaration_words statement_words prefixes function_word type_word sign_entries stl_signs
is-mn-word t h = word-only "MN" t (by-words t n.mn_word (codes "MN" ∷ []) refl refl refl h)

pub is-mx-word : (t : Lexeme) → HasKind t n.mx_word → IsWord "MX" t
unfolding word_entries argument_words operation_words bit_ops or_ops value_ops free_ops expression_words one_functions declaration_words statement_words prefixes function_word type_word sign_entries stl_signs
is-mx-word t h = word-only "MX" t (by-words t n.mx_word (codes "MX" ∷ []) refl refl refl h)

pub is-g-word : (t : Lexeme) → HasKind t n.g_word → IsWord "G" t
unfolding word_entries argument_words operation_words bit_ops or_ops value_ops free_ops expression_words one_functions declaration_words statement_words prefixes function_word type_word sign_entries stl_signs
is-g-word t h = word-only "G" t (by-words t n.g_word (codes "G" ∷ []) refl refl refl h)

pub is-n-word : (t : Lexeme) → HasKind t n.n_word → IsWord "N" t
unfolding word_entries argument_words operation_words bit_ops or_ops value_ops free_ops expression_words one_functions declaration_words statement_words prefixes function_word type_word sign_entries stl_signs
is-n-word t h = word-only "N" t (by-words t n.n_word (codes "N" ∷ []) refl refl refl h)

pub is-mod-word : (t : Lexeme) → HasKind t n.mod_word → IsWord "MOD" t
unfolding word_entries argument_words operation_words bit_ops or_ops value_ops free_ops expression_words one_functions declaration_words statement_words prefixes function_word type_word sign_entries stl_signs
is-mod-word t h = word-only "MOD" t (by-words t n.mod_word (codes "MOD" ∷ []) refl refl refl h)

pub is-xor-word : (t : Lexeme) → HasKind t n.xor_word → IsWord "XOR" t
unfolding word_entries argument_words operation_words bit_ops or_ops value_ops free_ops expression_words one_functions declaration_words statement_words prefixes function_word type_word sign_entries stl_signs
is-xor-word t h = word-only "XOR" t (by-words t n.xor_word (codes "XOR" ∷ []) refl refl refl h)

pub is-or-word : (t : Lexeme) → HasKind t n.or_word → IsWord "OR" t
unfolding word_entries argument_words operation_words bit_ops or_ops value_ops free_ops expression_words one_functions declaration_words statement_words prefixes function_word type_word sign_entries stl_signs
is-or-word t h = word-only "OR" t (by-words t n.or_word (codes "OR" ∷ []) refl refl refl h)

pub is-not-word : (t : Lexeme) → HasKind t n.not_word → IsWord "NOT" t
unfolding word_entries argument_words operation_words bit_ops or_ops value_ops free_ops expression_words one_functions declaration_words statement_words prefixes function_word type_word sign_entries stl_signs
is-not-word t h = word-only "NOT" t (by-words t n.not_word (codes "NOT" ∷ []) refl refl refl h)

pub is-limit-function : (t : Lexeme) → HasKind t n.limit_function → IsWord "LIMIT" t
unfolding word_entries argument_words operation_words bit_ops or_ops value_ops free_ops expression_words one_functions declaration_words statement_words prefixes function_word type_word sign_entries stl_signs
is-limit-function t h = word-only "LIMIT" t (by-words t n.limit_function (codes "LIMIT" ∷ []) refl refl refl h)

pub is-sel-function : (t : Lexeme) → HasKind t n.sel_function → IsWord "SEL" t
unfolding word_entries argument_words operation_words bit_ops or_ops value_ops free_ops expression_words one_functions declaration_words statement_words prefixes function_word type_word sign_entries stl_signs
is-sel-function t h = word-only "SEL" t (by-words t n.sel_function (codes "SEL" ∷ []) refl refl refl h)

pub is-date-and-time : (t : Lexeme) → HasKind t n.date_and_time → IsWord "DATE_AND_TIME" t
unfolding word_entries argument_words operation_words bit_ops or_ops value_ops free_ops expression_words one_functions declaration_words statement_words prefixes function_word type_word sign_entries stl_signs
is-date-and-time t h = word-only "DATE_AND_TIME" t (by-words t n.date_and_time (codes "DATE_AND_TIME" ∷ []) refl refl refl h)

pub is-void-word : (t : Lexeme) → HasKind t n.void_word → IsWord "VOID" t
unfolding word_entries argument_words operation_words bit_ops or_ops value_ops free_ops expression_words one_functions declaration_words statement_words prefixes function_word type_word sign_entries stl_signs
is-void-word t h = word-only "VOID" t (by-words t n.void_word (codes "VOID" ∷ []) refl refl refl h)

pub is-array-word : (t : Lexeme) → HasKind t n.array_word → IsWord "ARRAY" t
unfolding word_entries argument_words operation_words bit_ops or_ops value_ops free_ops expression_words one_functions declaration_words statement_words prefixes function_word type_word sign_entries stl_signs
is-array-word t h = word-only "ARRAY" t (by-words t n.array_word (codes "ARRAY" ∷ []) refl refl refl h)

pub is-of-word : (t : Lexeme) → HasKind t n.of_word → IsWord "OF" t
unfolding word_entries argument_words operation_words bit_ops or_ops value_ops free_ops expression_words one_functions declaration_words statement_words prefixes function_word type_word sign_entries stl_signs
is-of-word t h = word-only "OF" t (by-words t n.of_word (codes "OF" ∷ []) refl refl refl h)

pub is-struct-word : (t : Lexeme) → HasKind t n.struct_word → IsWord "STRUCT" t
unfolding word_entries argument_words operation_words bit_ops or_ops value_ops free_ops expression_words one_functions declaration_words statement_words prefixes function_word type_word sign_entries stl_signs
is-struct-word t h = word-only "STRUCT" t (by-words t n.struct_word (codes "STRUCT" ∷ []) refl refl refl h)

pub is-end-struct : (t : Lexeme) → HasKind t n.end_struct → IsWord "END_STRUCT" t
unfolding word_entries argument_words operation_words bit_ops or_ops value_ops free_ops expression_words one_functions declaration_words statement_words prefixes function_word type_word sign_entries stl_signs
is-end-struct t h = word-only "END_STRUCT" t (by-words t n.end_struct (codes "END_STRUCT" ∷ []) refl refl refl h)

pub is-end-var : (t : Lexeme) → HasKind t n.end_var → IsWord "END_VAR" t
unfolding word_entries argument_words operation_words bit_ops or_ops value_ops free_ops expression_words one_functions declaration_words statement_words prefixes function_word type_word sign_entries stl_signs
is-end-var t h = word-only "END_VAR" t (by-words t n.end_var (codes "END_VAR" ∷ []) refl refl refl h)

pub is-const-word : (t : Lexeme) → HasKind t n.const_word → IsWord "CONST" t
unfolding word_entries argument_words operation_words bit_ops or_ops value_ops free_ops expression_words one_functions declaration_words statement_words prefixes function_word type_word sign_entries stl_signs
is-const-word t h = word-only "CONST" t (by-words t n.const_word (codes "CONST" ∷ []) refl refl refl h)

pub is-end-const : (t : Lexeme) → HasKind t n.end_const → IsWord "END_CONST" t
unfolding word_entries argument_words operation_words bit_ops or_ops value_ops free_ops expression_words one_functions declaration_words statement_words prefixes function_word type_word sign_entries stl_signs
is-end-const t h = word-only "END_CONST" t (by-words t n.end_const (codes "END_CONST" ∷ []) refl refl refl h)

pub is-begin-word : (t : Lexeme) → HasKind t n.begin_word → IsWord "BEGIN" t
unfolding word_entries argument_words operation_words bit_ops or_ops value_ops free_ops expression_words one_functions declaration_words statement_words prefixes function_word type_word sign_entries stl_signs
is-begin-word t h = word-only "BEGIN" t (by-words t n.begin_word (codes "BEGIN" ∷ []) refl refl refl h)

pub is-function-block : (t : Lexeme) → HasKind t n.function_block → IsWord "FUNCTION_BLOCK" t
unfolding word_entries argument_words operation_words bit_ops or_ops value_ops free_ops expression_words one_functions declaration_words statement_words prefixes function_word type_word sign_entries stl_signs
is-function-block t h = word-only "FUNCTION_BLOCK" t (by-words t n.function_block (codes "FUNCTION_BLOCK" ∷ []) refl refl refl h)

pub is-end-function-block : (t : Lexeme) → HasKind t n.end_function_block → IsWord "END_FUNCTION_BLOCK" t
unfolding word_entries argument_words operation_words bit_ops or_ops value_ops free_ops expression_words one_functions declaration_words statement_words prefixes function_word type_word sign_entries stl_signs
is-end-function-block t h = word-only "END_FUNCTION_BLOCK" t (by-words t n.end_function_block (codes "END_FUNCTION_BLOCK" ∷ []) refl refl refl h)

pub is-function-word : (t : Lexeme) → HasKind t n.function_word → IsWord "FUNCTION" t
unfolding word_entries argument_words operation_words bit_ops or_ops value_ops free_ops expression_words one_functions declaration_words statement_words prefixes function_word type_word sign_entries stl_signs
is-function-word t h = word-only "FUNCTION" t (by-words t n.function_word (codes "FUNCTION" ∷ []) refl refl refl h)

pub is-end-function : (t : Lexeme) → HasKind t n.end_function → IsWord "END_FUNCTION" t
unfolding word_entries argument_words operation_words bit_ops or_ops value_ops free_ops expression_words one_functions declaration_words statement_words prefixes function_word type_word sign_entries stl_signs
is-end-function t h = word-only "END_FUNCTION" t (by-words t n.end_function (codes "END_FUNCTION" ∷ []) refl refl refl h)

pub is-organization-block : (t : Lexeme) → HasKind t n.organization_block → IsWord "ORGANIZATION_BLOCK" t
unfolding word_entries argument_words operation_words bit_ops or_ops value_ops free_ops expression_words one_functions declaration_words statement_words prefixes function_word type_word sign_entries stl_signs
is-organization-block t h = word-only "ORGANIZATION_BLOCK" t (by-words t n.organization_block (codes "ORGANIZATION_BLOCK" ∷ []) refl refl refl h)

pub is-end-organization-block : (t : Lexeme) → HasKind t n.end_organization_block → IsWord "END_ORGANIZATION_BLOCK" t
unfolding word_entries argument_words operation_words bit_ops or_ops value_ops free_ops expression_words one_functions declaration_words statement_words prefixes function_word type_word sign_entries stl_signs
is-end-organization-block t h = word-only "END_ORGANIZATION_BLOCK" t (by-words t n.end_organization_block (codes "END_ORGANIZATION_BLOCK" ∷ []) refl refl refl h)

pub is-data-block : (t : Lexeme) → HasKind t n.data_block → IsWord "DATA_BLOCK" t
unfolding word_entries argument_words operation_words bit_ops or_ops value_ops free_ops expression_words one_functions declaration_words statement_words prefixes function_word type_word sign_entries stl_signs
is-data-block t h = word-only "DATA_BLOCK" t (by-words t n.data_block (codes "DATA_BLOCK" ∷ []) refl refl refl h)

pub is-end-data-block : (t : Lexeme) → HasKind t n.end_data_block → IsWord "END_DATA_BLOCK" t
unfolding word_entries argument_words operation_words bit_ops or_ops value_ops free_ops expression_words one_functions declaration_words statement_words prefixes function_word type_word sign_entries stl_signs
is-end-data-block t h = word-only "END_DATA_BLOCK" t (by-words t n.end_data_block (codes "END_DATA_BLOCK" ∷ []) refl refl refl h)

pub is-type-word : (t : Lexeme) → HasKind t n.type_word → IsWord "TYPE" t
unfolding word_entries argument_words operation_words bit_ops or_ops value_ops free_ops expression_words one_functions declaration_words statement_words prefixes function_word type_word sign_entries stl_signs
is-type-word t h = word-only "TYPE" t (by-words t n.type_word (codes "TYPE" ∷ []) refl refl refl h)

pub is-end-type : (t : Lexeme) → HasKind t n.end_type → IsWord "END_TYPE" t
unfolding word_entries argument_words operation_words bit_ops or_ops value_ops free_ops expression_words one_functions declaration_words statement_words prefixes function_word type_word sign_entries stl_signs
is-end-type t h = word-only "END_TYPE" t (by-words t n.end_type (codes "END_TYPE" ∷ []) refl refl refl h)

pub is-if-word : (t : Lexeme) → HasKind t n.if_word → IsWord "IF" t
unfolding word_entries argument_words operation_words bit_ops or_ops value_ops free_ops expression_words one_functions declaration_words statement_words prefixes function_word type_word sign_entries stl_signs
is-if-word t h = word-only "IF" t (by-words t n.if_word (codes "IF" ∷ []) refl refl refl h)

pub is-then-word : (t : Lexeme) → HasKind t n.then_word → IsWord "THEN" t
unfolding word_entries argument_words operation_words bit_ops or_ops value_ops free_ops expression_words one_functions declaration_words statement_words prefixes function_word type_word sign_entries stl_signs
is-then-word t h = word-only "THEN" t (by-words t n.then_word (codes "THEN" ∷ []) refl refl refl h)

pub is-elsif-word : (t : Lexeme) → HasKind t n.elsif_word → IsWord "ELSIF" t
unfolding word_entries argument_words operation_words bit_ops or_ops value_ops free_ops expression_words one_functions declaration_words statement_words prefixes function_word type_word sign_entries stl_signs
is-elsif-word t h = word-only "ELSIF" t (by-words t n.elsif_word (codes "ELSIF" ∷ []) refl refl refl h)

pub is-else-word : (t : Lexeme) → HasKind t n.else_word → IsWord "ELSE" t
unfolding word_entries argument_words operation_words bit_ops or_ops value_ops free_ops expression_words one_functions declaration_words statement_words prefixes function_word type_word sign_entries stl_signs
is-else-word t h = word-only "ELSE" t (by-words t n.else_word (codes "ELSE" ∷ []) refl refl refl h)

pub is-end-if : (t : Lexeme) → HasKind t n.end_if → IsWord "END_IF" t
unfolding word_entries argument_words operation_words bit_ops or_ops value_ops free_ops expression_words one_functions declaration_words statement_words prefixes function_word type_word sign_entries stl_signs
is-end-if t h = word-only "END_IF" t (by-words t n.end_if (codes "END_IF" ∷ []) refl refl refl h)

pub is-case-word : (t : Lexeme) → HasKind t n.case_word → IsWord "CASE" t
unfolding word_entries argument_words operation_words bit_ops or_ops value_ops free_ops expression_words one_functions declaration_words statement_words prefixes function_word type_word sign_entries stl_signs
is-case-word t h = word-only "CASE" t (by-words t n.case_word (codes "CASE" ∷ []) refl refl refl h)

pub is-end-case : (t : Lexeme) → HasKind t n.end_case → IsWord "END_CASE" t
unfolding word_entries argument_words operation_words bit_ops or_ops value_ops free_ops expression_words one_functions declaration_words statement_words prefixes function_word type_word sign_entries stl_signs
is-end-case t h = word-only "END_CASE" t (by-words t n.end_case (codes "END_CASE" ∷ []) refl refl refl h)

pub is-for-word : (t : Lexeme) → HasKind t n.for_word → IsWord "FOR" t
unfolding word_entries argument_words operation_words bit_ops or_ops value_ops free_ops expression_words one_functions declaration_words statement_words prefixes function_word type_word sign_entries stl_signs
is-for-word t h = word-only "FOR" t (by-words t n.for_word (codes "FOR" ∷ []) refl refl refl h)

pub is-to-word : (t : Lexeme) → HasKind t n.to_word → IsWord "TO" t
unfolding word_entries argument_words operation_words bit_ops or_ops value_ops free_ops expression_words one_functions declaration_words statement_words prefixes function_word type_word sign_entries stl_signs
is-to-word t h = word-only "TO" t (by-words t n.to_word (codes "TO" ∷ []) refl refl refl h)

pub is-by-word : (t : Lexeme) → HasKind t n.by_word → IsWord "BY" t
unfolding word_entries argument_words operation_words bit_ops or_ops value_ops free_ops expression_words one_functions declaration_words statement_words prefixes function_word type_word sign_entries stl_signs
is-by-word t h = word-only "BY" t (by-words t n.by_word (codes "BY" ∷ []) refl refl refl h)

pub is-do-word : (t : Lexeme) → HasKind t n.do_word → IsWord "DO" t
unfolding word_entries argument_words operation_words bit_ops or_ops value_ops free_ops expression_words one_functions declaration_words statement_words prefixes function_word type_word sign_entries stl_signs
is-do-word t h = word-only "DO" t (by-words t n.do_word (codes "DO" ∷ []) refl refl refl h)

pub is-end-for : (t : Lexeme) → HasKind t n.end_for → IsWord "END_FOR" t
unfolding word_entries argument_words operation_words bit_ops or_ops value_ops free_ops expression_words one_functions declaration_words statement_words prefixes function_word type_word sign_entries stl_signs
is-end-for t h = word-only "END_FOR" t (by-words t n.end_for (codes "END_FOR" ∷ []) refl refl refl h)

pub is-while-word : (t : Lexeme) → HasKind t n.while_word → IsWord "WHILE" t
unfolding word_entries argument_words operation_words bit_ops or_ops value_ops free_ops expression_words one_functions declaration_words statement_words prefixes function_word type_word sign_entries stl_signs
is-while-word t h = word-only "WHILE" t (by-words t n.while_word (codes "WHILE" ∷ []) refl refl refl h)

pub is-end-while : (t : Lexeme) → HasKind t n.end_while → IsWord "END_WHILE" t
unfolding word_entries argument_words operation_words bit_ops or_ops value_ops free_ops expression_words one_functions declaration_words statement_words prefixes function_word type_word sign_entries stl_signs
is-end-while t h = word-only "END_WHILE" t (by-words t n.end_while (codes "END_WHILE" ∷ []) refl refl refl h)

pub is-repeat-word : (t : Lexeme) → HasKind t n.repeat_word → IsWord "REPEAT" t
unfolding word_entries argument_words operation_words bit_ops or_ops value_ops free_ops expression_words one_functions declaration_words statement_words prefixes function_word type_word sign_entries stl_signs
is-repeat-word t h = word-only "REPEAT" t (by-words t n.repeat_word (codes "REPEAT" ∷ []) refl refl refl h)

pub is-until-word : (t : Lexeme) → HasKind t n.until_word → IsWord "UNTIL" t
unfolding word_entries argument_words operation_words bit_ops or_ops value_ops free_ops expression_words one_functions declaration_words statement_words prefixes function_word type_word sign_entries stl_signs
is-until-word t h = word-only "UNTIL" t (by-words t n.until_word (codes "UNTIL" ∷ []) refl refl refl h)

pub is-end-repeat : (t : Lexeme) → HasKind t n.end_repeat → IsWord "END_REPEAT" t
unfolding word_entries argument_words operation_words bit_ops or_ops value_ops free_ops expression_words one_functions declaration_words statement_words prefixes function_word type_word sign_entries stl_signs
is-end-repeat t h = word-only "END_REPEAT" t (by-words t n.end_repeat (codes "END_REPEAT" ∷ []) refl refl refl h)

pub is-network-word : (t : Lexeme) → HasKind t n.network_word → IsWord "NETWORK" t
unfolding word_entries argument_words operation_words bit_ops or_ops value_ops free_ops expression_words one_functions declaration_words statement_words prefixes function_word type_word sign_entries stl_signs
is-network-word t h = word-only "NETWORK" t (by-words t n.network_word (codes "NETWORK" ∷ []) refl refl refl h)

pub is-call-word : (t : Lexeme) → HasKind t n.call_word → IsWord "CALL" t
unfolding word_entries argument_words operation_words bit_ops or_ops value_ops free_ops expression_words one_functions declaration_words statement_words prefixes function_word type_word sign_entries stl_signs
is-call-word t h = word-only "CALL" t (by-words t n.call_word (codes "CALL" ∷ []) refl refl refl h)

pub is-uc-word : (t : Lexeme) → HasKind t n.uc_word → IsWord "UC" t
unfolding word_entries argument_words operation_words bit_ops or_ops value_ops free_ops expression_words one_functions declaration_words statement_words prefixes function_word type_word sign_entries stl_signs
is-uc-word t h = word-only "UC" t (by-words t n.uc_word (codes "UC" ∷ []) refl refl refl h)

pub is-or-op : (t : Lexeme) → HasKind t n.or_op → IsWord "O" t
unfolding word_entries argument_words operation_words bit_ops or_ops value_ops free_ops expression_words one_functions declaration_words statement_words prefixes function_word type_word sign_entries stl_signs
is-or-op t h = word-only "O" t (by-words t n.or_op (codes "O" ∷ []) refl refl refl h)

-- ---- one of several words or signs

compare-sign-said : (t : Lexeme) → SaidBy k.Sign (codes "<" ∷ codes ">" ∷ codes "<=" ∷ codes ">=" ∷ []) t → IsSign "<" t ⊎ (IsSign ">" t ⊎ (IsSign "<=" t ⊎ (IsSign ">=" t)))
compare-sign-said t s = elim (one-or (codes "<") (codes ">" ∷ codes "<=" ∷ codes ">=" ∷ []) t.bytes s.1) [ inl e ↦ inl (record { kind = s.0; bytes = e }) | inr e0 ↦ inr (elim (one-or (codes ">") (codes "<=" ∷ codes ">=" ∷ []) t.bytes e0) [ inl e ↦ inl (record { kind = s.0; bytes = e }) | inr e1 ↦ inr (elim (one-or (codes "<=") (codes ">=" ∷ []) t.bytes e1) [ inl e ↦ inl (record { kind = s.0; bytes = e }) | inr e2 ↦ inr (record { kind = s.0; bytes = only-one (codes ">=") t.bytes e2 }) ]) ]) ]

pub is-compare-sign : (t : Lexeme) → HasKind t n.compare_sign → IsSign "<" t ⊎ (IsSign ">" t ⊎ (IsSign "<=" t ⊎ (IsSign ">=" t)))
unfolding word_entries argument_words operation_words bit_ops or_ops value_ops free_ops expression_words one_functions declaration_words statement_words prefixes function_word type_word sign_entries stl_signs
is-compare-sign t h = compare-sign-said t (by-signs t n.compare_sign (codes "<" ∷ codes ">" ∷ codes "<=" ∷ codes ">=" ∷ []) refl refl refl h)

truth-said : (t : Lexeme) → SaidBy k.Word (codes "TRUE" ∷ codes "FALSE" ∷ []) t → IsWord "TRUE" t ⊎ (IsWord "FALSE" t)
truth-said t s = elim (one-or (codes "TRUE") (codes "FALSE" ∷ []) t.bytes s.1) [ inl e ↦ inl (record { kind = s.0; bytes = e }) | inr e0 ↦ inr (record { kind = s.0; bytes = only-one (codes "FALSE") t.bytes e0 }) ]

pub is-truth : (t : Lexeme) → HasKind t n.truth → IsWord "TRUE" t ⊎ (IsWord "FALSE" t)
unfolding word_entries argument_words operation_words bit_ops or_ops value_ops free_ops expression_words one_functions declaration_words statement_words prefixes function_word type_word sign_entries stl_signs
is-truth t h = truth-said t (by-words t n.truth (codes "TRUE" ∷ codes "FALSE" ∷ []) refl refl refl h)

two-function-said : (t : Lexeme) → SaidBy k.Word (codes "MIN" ∷ codes "MAX" ∷ []) t → IsWord "MIN" t ⊎ (IsWord "MAX" t)
two-function-said t s = elim (one-or (codes "MIN") (codes "MAX" ∷ []) t.bytes s.1) [ inl e ↦ inl (record { kind = s.0; bytes = e }) | inr e0 ↦ inr (record { kind = s.0; bytes = only-one (codes "MAX") t.bytes e0 }) ]

pub is-two-function : (t : Lexeme) → HasKind t n.two_function → IsWord "MIN" t ⊎ (IsWord "MAX" t)
unfolding word_entries argument_words operation_words bit_ops or_ops value_ops free_ops expression_words one_functions declaration_words statement_words prefixes function_word type_word sign_entries stl_signs
is-two-function t h = two-function-said t (by-words t n.two_function (codes "MIN" ∷ codes "MAX" ∷ []) refl refl refl h)

shift-function-said : (t : Lexeme) → SaidBy k.Word (codes "SHL" ∷ codes "SHR" ∷ []) t → IsWord "SHL" t ⊎ (IsWord "SHR" t)
shift-function-said t s = elim (one-or (codes "SHL") (codes "SHR" ∷ []) t.bytes s.1) [ inl e ↦ inl (record { kind = s.0; bytes = e }) | inr e0 ↦ inr (record { kind = s.0; bytes = only-one (codes "SHR") t.bytes e0 }) ]

pub is-shift-function : (t : Lexeme) → HasKind t n.shift_function → IsWord "SHL" t ⊎ (IsWord "SHR" t)
unfolding word_entries argument_words operation_words bit_ops or_ops value_ops free_ops expression_words one_functions declaration_words statement_words prefixes function_word type_word sign_entries stl_signs
is-shift-function t h = shift-function-said t (by-words t n.shift_function (codes "SHL" ∷ codes "SHR" ∷ []) refl refl refl h)

section-word-said : (t : Lexeme) → SaidBy k.Word (codes "VAR_INPUT" ∷ codes "VAR_OUTPUT" ∷ codes "VAR_IN_OUT" ∷ codes "VAR" ∷ codes "VAR_TEMP" ∷ []) t → IsWord "VAR_INPUT" t ⊎ (IsWord "VAR_OUTPUT" t ⊎ (IsWord "VAR_IN_OUT" t ⊎ (IsWord "VAR" t ⊎ (IsWord "VAR_TEMP" t))))
section-word-said t s = elim (one-or (codes "VAR_INPUT") (codes "VAR_OUTPUT" ∷ codes "VAR_IN_OUT" ∷ codes "VAR" ∷ codes "VAR_TEMP" ∷ []) t.bytes s.1) [ inl e ↦ inl (record { kind = s.0; bytes = e }) | inr e0 ↦ inr (elim (one-or (codes "VAR_OUTPUT") (codes "VAR_IN_OUT" ∷ codes "VAR" ∷ codes "VAR_TEMP" ∷ []) t.bytes e0) [ inl e ↦ inl (record { kind = s.0; bytes = e }) | inr e1 ↦ inr (elim (one-or (codes "VAR_IN_OUT") (codes "VAR" ∷ codes "VAR_TEMP" ∷ []) t.bytes e1) [ inl e ↦ inl (record { kind = s.0; bytes = e }) | inr e2 ↦ inr (elim (one-or (codes "VAR") (codes "VAR_TEMP" ∷ []) t.bytes e2) [ inl e ↦ inl (record { kind = s.0; bytes = e }) | inr e3 ↦ inr (record { kind = s.0; bytes = only-one (codes "VAR_TEMP") t.bytes e3 }) ]) ]) ]) ]

pub is-section-word : (t : Lexeme) → HasKind t n.section_word → IsWord "VAR_INPUT" t ⊎ (IsWord "VAR_OUTPUT" t ⊎ (IsWord "VAR_IN_OUT" t ⊎ (IsWord "VAR" t ⊎ (IsWord "VAR_TEMP" t))))
unfolding word_entries argument_words operation_words bit_ops or_ops value_ops free_ops expression_words one_functions declaration_words statement_words prefixes function_word type_word sign_entries stl_signs
is-section-word t h = section-word-said t (by-words t n.section_word (codes "VAR_INPUT" ∷ codes "VAR_OUTPUT" ∷ codes "VAR_IN_OUT" ∷ codes "VAR" ∷ codes "VAR_TEMP" ∷ []) refl refl refl h)

single-word-said : (t : Lexeme) → SaidBy k.Word (codes "EXIT" ∷ codes "CONTINUE" ∷ codes "RETURN" ∷ []) t → IsWord "EXIT" t ⊎ (IsWord "CONTINUE" t ⊎ (IsWord "RETURN" t))
single-word-said t s = elim (one-or (codes "EXIT") (codes "CONTINUE" ∷ codes "RETURN" ∷ []) t.bytes s.1) [ inl e ↦ inl (record { kind = s.0; bytes = e }) | inr e0 ↦ inr (elim (one-or (codes "CONTINUE") (codes "RETURN" ∷ []) t.bytes e0) [ inl e ↦ inl (record { kind = s.0; bytes = e }) | inr e1 ↦ inr (record { kind = s.0; bytes = only-one (codes "RETURN") t.bytes e1 }) ]) ]

pub is-single-word : (t : Lexeme) → HasKind t n.single_word → IsWord "EXIT" t ⊎ (IsWord "CONTINUE" t ⊎ (IsWord "RETURN" t))
unfolding word_entries argument_words operation_words bit_ops or_ops value_ops free_ops expression_words one_functions declaration_words statement_words prefixes function_word type_word sign_entries stl_signs
is-single-word t h = single-word-said t (by-words t n.single_word (codes "EXIT" ∷ codes "CONTINUE" ∷ codes "RETURN" ∷ []) refl refl refl h)

times-said : (t : Lexeme) → SaidBy k.Word (codes "DIV" ∷ []) t ⊎ SaidBy k.Sign (codes "*" ∷ codes "/" ∷ []) t
    → IsSign "*" t ⊎ (IsSign "/" t ⊎ IsWord "DIV" t)
times-said t (inl s) = inr (inr (word-only "DIV" t s))
times-said t (inr s) =
    elim (one-or (codes "*") (codes "/" ∷ []) t.bytes s.1) [
      | inl e ↦ inl (record { kind = s.0; bytes = e })
      | inr e ↦ inr (inl (record { kind = s.0; bytes = only-one (codes "/") t.bytes e }))
    ]

pub is-times : (t : Lexeme) → HasKind t n.times → IsSign "*" t ⊎ (IsSign "/" t ⊎ IsWord "DIV" t)
unfolding word_entries argument_words operation_words bit_ops or_ops value_ops free_ops expression_words one_functions declaration_words statement_words prefixes function_word type_word sign_entries stl_signs
is-times t h = times-said t (by-both t n.times (codes "DIV" ∷ []) (codes "*" ∷ codes "/" ∷ []) refl refl refl h)

and-said : (t : Lexeme) → SaidBy k.Word (codes "AND" ∷ []) t ⊎ SaidBy k.Sign (codes "&" ∷ []) t → IsWord "AND" t ⊎ IsSign "&" t
and-said t (inl s) = inl (word-only "AND" t s)
and-said t (inr s) = inr (sign-only "&" t s)

pub is-and-word : (t : Lexeme) → HasKind t n.and_word → IsWord "AND" t ⊎ IsSign "&" t
unfolding word_entries argument_words operation_words bit_ops or_ops value_ops free_ops expression_words one_functions declaration_words statement_words prefixes function_word type_word sign_entries stl_signs
is-and-word t h = and-said t (by-both t n.and_word (codes "AND" ∷ []) (codes "&" ∷ []) refl refl refl h)

-- the words that a number makes a name with, those of the functions of one argument, and those of the instructions
pub is-number-prefix : (t : Lexeme) → HasKind t n.number_prefix → SaidBy k.Word prefixes t
unfolding word_entries argument_words operation_words bit_ops or_ops value_ops free_ops expression_words one_functions declaration_words statement_words prefixes function_word type_word sign_entries stl_signs
is-number-prefix t h = by-words t n.number_prefix prefixes refl refl refl h

pub is-one-function : (t : Lexeme) → HasKind t n.one_function → SaidBy k.Word one_functions t
unfolding word_entries argument_words operation_words bit_ops or_ops value_ops free_ops expression_words one_functions declaration_words statement_words prefixes function_word type_word sign_entries stl_signs
is-one-function t h = by-words t n.one_function one_functions refl refl refl h

pub is-bit-op : (t : Lexeme) → HasKind t n.bit_op → SaidBy k.Word bit_ops t
unfolding word_entries argument_words operation_words bit_ops or_ops value_ops free_ops expression_words one_functions declaration_words statement_words prefixes function_word type_word sign_entries stl_signs
is-bit-op t h = by-words t n.bit_op bit_ops refl refl refl h

pub is-value-op : (t : Lexeme) → HasKind t n.value_op → SaidBy k.Word value_ops t
unfolding word_entries argument_words operation_words bit_ops or_ops value_ops free_ops expression_words one_functions declaration_words statement_words prefixes function_word type_word sign_entries stl_signs
is-value-op t h = by-words t n.value_op value_ops refl refl refl h

pub is-free-op : (t : Lexeme) → HasKind t n.free_op → SaidBy k.Word free_ops t
unfolding word_entries argument_words operation_words bit_ops or_ops value_ops free_ops expression_words one_functions declaration_words statement_words prefixes function_word type_word sign_entries stl_signs
is-free-op t h = by-words t n.free_op free_ops refl refl refl h

pub is-stl-sign : (t : Lexeme) → HasKind t n.stl_sign → SaidBy k.Sign stl_signs t
unfolding word_entries argument_words operation_words bit_ops or_ops value_ops free_ops expression_words one_functions declaration_words statement_words prefixes function_word type_word sign_entries stl_signs
is-stl-sign t h = by-signs t n.stl_sign stl_signs refl refl refl h

simple-said : (t : Lexeme) → SaidBy k.Word (codes "BOOL" ∷ codes "BYTE" ∷ codes "WORD" ∷ codes "DWORD" ∷ codes "INT" ∷ codes "DINT" ∷ codes "TIME" ∷ []) t → (simple : Ty) × IsTypeWord simple t
unfolding type_word
simple-said t s =
    elim (one-or (codes "BOOL") (codes "BYTE" ∷ codes "WORD" ∷ codes "DWORD" ∷ codes "INT" ∷ codes "DINT" ∷ codes "TIME" ∷ []) t.bytes s.1) [ inl e ↦ (ty.Bool, record { kind = s.0; bytes = e }) | inr e0 ↦ elim (one-or (codes "BYTE") (codes "WORD" ∷ codes "DWORD" ∷ codes "INT" ∷ codes "DINT" ∷ codes "TIME" ∷ []) t.bytes e0) [ inl e ↦ (ty.Byte, record { kind = s.0; bytes = e }) | inr e1 ↦ elim (one-or (codes "WORD") (codes "DWORD" ∷ codes "INT" ∷ codes "DINT" ∷ codes "TIME" ∷ []) t.bytes e1) [ inl e ↦ (ty.Word, record { kind = s.0; bytes = e }) | inr e2 ↦ elim (one-or (codes "DWORD") (codes "INT" ∷ codes "DINT" ∷ codes "TIME" ∷ []) t.bytes e2) [ inl e ↦ (ty.Dword, record { kind = s.0; bytes = e }) | inr e3 ↦ elim (one-or (codes "INT") (codes "DINT" ∷ codes "TIME" ∷ []) t.bytes e3) [ inl e ↦ (ty.Int, record { kind = s.0; bytes = e }) | inr e4 ↦ elim (one-or (codes "DINT") (codes "TIME" ∷ []) t.bytes e4) [ inl e ↦ (ty.Dint, record { kind = s.0; bytes = e }) | inr e5 ↦ (ty.Time, record { kind = s.0; bytes = only-one (codes "TIME") t.bytes e5 }) ] ] ] ] ] ]

pub is-simple-type : (t : Lexeme) → HasKind t n.simple_type → (simple : Ty) × IsTypeWord simple t
unfolding word_entries argument_words operation_words bit_ops or_ops value_ops free_ops expression_words one_functions declaration_words statement_words prefixes function_word type_word sign_entries stl_signs
is-simple-type t h = simple-said t (by-words t n.simple_type (codes "BOOL" ∷ codes "BYTE" ∷ codes "WORD" ∷ codes "DWORD" ∷ codes "INT" ∷ codes "DINT" ∷ codes "TIME" ∷ []) refl refl refl h)
