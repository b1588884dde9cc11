-- A token of each kind.
use Prim.Native.String.{String}
use Rattle.std.proofs.Common.{◌≡◌, ℕ, zero, suc, ◌+◌, ◌<◌, Bool, true, false, ◌&&◌, ◌==◌, List, [], ◌∷◌, length, pos, codes, refl, subst, ◌∙◌, arith}
use Rattle.pv_lex.specs.declared.token.Kind.{Kind}
use Rattle.pv_lex.specs.declared.token.Kind.TheVariants as k
use Rattle.pv_lex.specs.Shapes.{is_one_of}
use Rattle.pv_tree.specs.Lexemes.{Lexeme}
use Rattle.pv_tree.specs.Words.{prefixes, is_numbered, function_word, type_word}
use Rattle.pv_parse.specs.KindNumbers as n
use Rattle.pv_parse.specs.Kinds.{kind_of, IsSound, HasKind, word_kind, marked_kind, sign_kind, other_kind, word_entries, argument_words, operation_words, bit_ops, or_ops, value_ops, free_ops, expression_words, one_functions, declaration_words, statement_words, sign_entries, stl_signs}
use Rattle.pv_parse.proofs.CaseBlind.{left-of, right-of}

record Witness : Type 0 where
  marked : Bool
  token : Lexeme
  sound : IsSound token

abbrev made : Kind → String → Lexeme
made kind text = record { kind = kind; bytes = codes text; value = pos 0; place = record { file = 0; offset = 0 } }

abbrev by : Bool → (t : Lexeme) → IsSound t → Witness
by marked t sound = record { marked = marked; token = t; sound = sound }

-- in the order of the kinds
abbrev witnesses : List Witness
witnesses =
    by false (made k.Word "v") (tt) ∷
    by false (made k.Quoted "\"q\"") (refl) ∷
    by false (made k.Number "1") (omega arith) ∷
    by false (made k.Address "I0.0") (refl) ∷
    by false (made k.Word "FB") (tt) ∷
    by false (made k.Word "FB1") (tt) ∷
    by true (made k.Word "a") (tt) ∷
    by true (made k.Word "FB") (tt) ∷
    by true (made k.Word "FB1") (tt) ∷
    by false (made k.Word "IN") (tt) ∷
    by false (made k.Word "IN0") (tt) ∷
    by false (made k.Word "IN1") (tt) ∷
    by false (made k.Word "IN2") (tt) ∷
    by false (made k.Word "MN") (tt) ∷
    by false (made k.Word "MX") (tt) ∷
    by false (made k.Word "G") (tt) ∷
    by false (made k.Word "N") (tt) ∷
    by false (made k.Word "A") (tt) ∷
    by false (made k.Word "O") (tt) ∷
    by false (made k.Word "S") (tt) ∷
    by false (made k.Word "SET") (tt) ∷
    by false (made k.Sign "+I") (tt) ∷
    by false (made k.Sign ":=") (tt) ∷
    by false (made k.Sign "=>") (tt) ∷
    by false (made k.Sign "..") (tt) ∷
    by false (made k.Sign "(") (tt) ∷
    by false (made k.Sign ")") (tt) ∷
    by false (made k.Sign "[") (tt) ∷
    by false (made k.Sign "]") (tt) ∷
    by false (made k.Sign ":") (tt) ∷
    by false (made k.Sign ";") (tt) ∷
    by false (made k.Sign ",") (tt) ∷
    by false (made k.Sign ".") (tt) ∷
    by false (made k.Sign "#") (tt) ∷
    by false (made k.Sign "+") (tt) ∷
    by false (made k.Sign "-") (tt) ∷
    by false (made k.Sign "*") (tt) ∷
    by false (made k.Word "MOD") (tt) ∷
    by false (made k.Sign "<") (tt) ∷
    by false (made k.Sign "=") (tt) ∷
    by false (made k.Sign "<>") (tt) ∷
    by false (made k.Word "AND") (tt) ∷
    by false (made k.Word "XOR") (tt) ∷
    by false (made k.Word "OR") (tt) ∷
    by false (made k.Word "NOT") (tt) ∷
    by false (made k.Word "TRUE") (tt) ∷
    by false (made k.Word "ABS") (tt) ∷
    by false (made k.Word "MIN") (tt) ∷
    by false (made k.Word "LIMIT") (tt) ∷
    by false (made k.Word "SEL") (tt) ∷
    by false (made k.Word "SHL") (tt) ∷
    by false (made k.Word "BOOL") (tt) ∷
    by false (made k.Word "DATE_AND_TIME") (tt) ∷
    by false (made k.Word "VOID") (tt) ∷
    by false (made k.Word "ARRAY") (tt) ∷
    by false (made k.Word "OF") (tt) ∷
    by false (made k.Word "STRUCT") (tt) ∷
    by false (made k.Word "END_STRUCT") (tt) ∷
    by false (made k.Word "VAR") (tt) ∷
    by false (made k.Word "END_VAR") (tt) ∷
    by false (made k.Word "CONST") (tt) ∷
    by false (made k.Word "END_CONST") (tt) ∷
    by false (made k.Word "BEGIN") (tt) ∷
    by false (made k.Word "FUNCTION_BLOCK") (tt) ∷
    by false (made k.Word "END_FUNCTION_BLOCK") (tt) ∷
    by false (made k.Word "FUNCTION") (tt) ∷
    by false (made k.Word "END_FUNCTION") (tt) ∷
    by false (made k.Word "ORGANIZATION_BLOCK") (tt) ∷
    by false (made k.Word "END_ORGANIZATION_BLOCK") (tt) ∷
    by false (made k.Word "DATA_BLOCK") (tt) ∷
    by false (made k.Word "END_DATA_BLOCK") (tt) ∷
    by false (made k.Word "TYPE") (tt) ∷
    by false (made k.Word "END_TYPE") (tt) ∷
    by false (made k.Word "IF") (tt) ∷
    by false (made k.Word "THEN") (tt) ∷
    by false (made k.Word "ELSIF") (tt) ∷
    by false (made k.Word "ELSE") (tt) ∷
    by false (made k.Word "END_IF") (tt) ∷
    by false (made k.Word "CASE") (tt) ∷
    by false (made k.Word "END_CASE") (tt) ∷
    by false (made k.Word "FOR") (tt) ∷
    by false (made k.Word "TO") (tt) ∷
    by false (made k.Word "BY") (tt) ∷
    by false (made k.Word "DO") (tt) ∷
    by false (made k.Word "END_FOR") (tt) ∷
    by false (made k.Word "WHILE") (tt) ∷
    by false (made k.Word "END_WHILE") (tt) ∷
    by false (made k.Word "REPEAT") (tt) ∷
    by false (made k.Word "UNTIL") (tt) ∷
    by false (made k.Word "END_REPEAT") (tt) ∷
    by false (made k.Word "EXIT") (tt) ∷
    by false (made k.Word "NETWORK") (tt) ∷
    by false (made k.Word "CALL") (tt) ∷
    by false (made k.Word "UC") (tt) ∷
    []

-- each has the kind of its place, from this one on
abbrev are_right : ℕ → List Witness → Bool
are_right kind [] = true
are_right kind (w ∷ ws) = (kind_of w.marked w.token == kind) && are_right (kind + 1) ws

equal-by : (a b : ℕ) → (a == b) ≡ true → a ≡ b
equal-by a b e = grind arith

moved : (a b : ℕ) → a ≡ b → ((t : Lexeme) × HasKind t a) → (t : Lexeme) × HasKind t b
moved a b e w = subst (λ m. (t : Lexeme) × HasKind t m) e w

kind-at : (ws : List Witness) (from i : ℕ) → are_right from ws ≡ true → i < length ws → (t : Lexeme) × HasKind t (from + i)
kind-at [] from i e h = absurd (omega arith)
kind-at (w ∷ ws) from zero e h = (
  w.token,
  record {
    marked = w.marked;
    is = equal-by (kind_of w.marked w.token) from (left-of (kind_of w.marked w.token == from) (are_right (from + 1) ws) e) ∙ omega arith;
    sound = w.sound;
  },
)
kind-at (w ∷ ws) from (suc i) e h =
    moved (from + 1 + i) (from + suc i) (omega arith)
    (kind-at ws (from + 1) i (right-of (kind_of w.marked w.token == from) (are_right (from + 1) ws) e) (omega arith))

all-right : are_right 0 witnesses ≡ true
unfolding word_entries argument_words operation_words bit_ops or_ops value_ops free_ops expression_words one_functions declaration_words statement_words prefixes function_word type_word sign_entries stl_signs is_numbered is_one_of word_kind marked_kind sign_kind other_kind
all-right = refl

pub witness-of : (kind : ℕ) → kind < n.outside → (t : Lexeme) × HasKind t kind
witness-of kind h = moved (0 + kind) kind (omega arith) (kind-at witnesses 0 kind all-right h)
