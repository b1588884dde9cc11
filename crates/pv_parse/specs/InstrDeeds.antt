-- What the alternatives of instructions make of what lies on the stack.
use Rattle.std.specs.Prelude.{ℕ, ℤ, pos, neg_ℤ, if◌then◌else◌, List, [], ◌∷◌, ◌++◌, codes, Option, Some, None, option_and_then}
use Rattle.pv_word.specs.declared.types.Ty.{Ty}
use Rattle.pv_word.specs.declared.types.Ty.TheVariants as ty
use Rattle.pv_place.specs.declared.place.Place.{Place}
use Rattle.pv_types.specs.declared.declaration.Literal.{Literal}
use Rattle.pv_lex.specs.declared.token.Kind.TheVariants as k
use Rattle.pv_tree.specs.declared.instr.Op.{Op}
use Rattle.pv_tree.specs.Tree.{OperandTree, field, CallPlain, InstrTree, stl}
use Rattle.pv_tree.specs.Lexemes.{Lexeme}
use Rattle.pv_tree.specs.Words.{plain_name}
use Rattle.pv_tree.specs.Literals.{number_type, loaded_type}
use Rattle.pv_parse.specs.TokenTexts.{is_text, truth_of}
use Rattle.pv_parse.specs.Items.{Stack, token, path, literal, words, body, code, token_on, path_on, literal_on}
use Rattle.pv_parse.specs.DeclStack.{words_on}
use Rattle.pv_parse.specs.CodeItems.{called}
use Rattle.pv_parse.specs.CodeStack.{call_on}
use Rattle.pv_parse.specs.ExprDeeds.{operand_of, stepped}
use Rattle.pv_parse.specs.CallDeeds.{named_of, call_of}
use Rattle.pv_parse.specs.declared.action.InstrAction.{InstrAction}
use Rattle.pv_parse.specs.declared.action.InstrAction.TheVariants as a
use Rattle.pv_parse.specs.OpTexts.{op_of, opening_of}
use Rattle.pv_parse.specs.InstrStack.{FrontTree, instrs_on, front_on}

-- ---- bodies

abbrev pub new_code_deed : Stack → Option Stack
new_code_deed s = Some (body (stl []) ∷ s)

-- behind BEGIN
abbrev pub begun_deed : Stack → Option Stack
begun_deed s =
    option_and_then (λ l. option_and_then (λ t. Some (body (stl l.0) ∷ t.1)) (token_on l.1)) (instrs_on s)

-- ---- labels

abbrev pub no_label_deed : Stack → Option Stack
no_label_deed s = Some (words [] ∷ s)

-- a word and `:`
abbrev pub label_deed : Stack → Option Stack
label_deed s =
    option_and_then (λ colon. option_and_then (λ t. option_and_then (λ w. Some
    (words ((plain_name t.0.bytes, t.0.place) ∷ []) ∷ w.1))
    (words_on t.1)) (token_on colon.1)) (token_on s)

-- ---- literals, whose type hangs on the instruction's word

-- L gives a number in a base a type
unfoldable pub type_behind : List ℕ → ℤ → List ℕ → Option Ty
type_behind op value bytes =
    if is_text (codes "L") op then loaded_type value bytes else number_type bytes

-- a number of this value that begins at this place, behind the instruction's word
abbrev pub number_behind : Lexeme → Lexeme → ℤ → Place → Literal
number_behind op t value place =
    record { ty = type_behind op.bytes value t.bytes; value = value; place = place }

abbrev pub number_deed : Stack → Option Stack
number_deed s =
    option_and_then (λ t. option_and_then (λ op. Some
    (literal (number_behind op.0 t.0 t.0.value t.0.place) ∷ token op.0 ∷ op.1))
    (token_on t.1)) (token_on s)

abbrev pub negative_deed : Stack → Option Stack
negative_deed s =
    option_and_then (λ t. option_and_then (λ minus. option_and_then (λ op. Some
    (literal (number_behind op.0 t.0 (neg_ℤ t.0.value) minus.0.place) ∷ token op.0 ∷ op.1))
    (token_on minus.1)) (token_on t.1)) (token_on s)

abbrev pub truth_deed : Stack → Option Stack
truth_deed s =
    option_and_then (λ t. Some
    (literal (record { ty = Some ty.Bool; value = truth_of t.0.bytes; place = t.0.place }) ∷ t.1))
    (token_on s)

-- ---- instructions

-- an instruction with what stands behind its word
abbrev pub instr_of : FrontTree → Op → Option OperandTree → Option Literal → Option CallPlain → InstrTree
instr_of f op operand its_literal call = record {
  label = f.label;
  op = op;
  operand = operand;
  literal = its_literal;
  call = call;
  place = f.token.place;
}

-- it comes behind the others
abbrev pub added : FrontTree → InstrTree → Stack → Stack
added f instr s = body (stl (f.list ++ instr ∷ [])) ∷ s

abbrev pub opening_deed : Stack → Option Stack
opening_deed s =
    option_and_then (λ begin. option_and_then (λ f. Some
    (added f.0 (instr_of f.0 (opening_of f.0.token.bytes) None None None) f.1))
    (front_on begin.1)) (token_on s)

abbrev pub operand_deed : Stack → Option Stack
operand_deed s =
    option_and_then (λ p. option_and_then (λ f. Some
    (added f.0 (instr_of f.0 (op_of f.0.token.bytes) (Some (operand_of p.0)) None None) f.1))
    (front_on p.1)) (path_on s)

abbrev pub literal_deed : Stack → Option Stack
literal_deed s =
    option_and_then (λ l. option_and_then (λ f. Some
    (added f.0 (instr_of f.0 (op_of f.0.token.bytes) None (Some l.0) None) f.1))
    (front_on l.1)) (literal_on s)

abbrev pub alone_deed : Stack → Option Stack
alone_deed s =
    option_and_then (λ f. Some
    (added f.0 (instr_of f.0 (op_of f.0.token.bytes) None None None) f.1))
    (front_on s)

-- ---- calls

-- a second name, behind its comma, is a step to a field, as behind `.` in SCL
abbrev pub base_deed : Stack → Option Stack
base_deed s =
    option_and_then (λ b. option_and_then (λ comma. option_and_then (λ p. Some
    (path (stepped p.0 (field (named_of b.0).0 (named_of b.0).1)) ∷ p.1))
    (path_on comma.1)) (token_on b.1)) (path_on s)

-- a parenthesis of a call that has none in the text
abbrev pub no_token : Lexeme
no_token = record { kind = k.Sign; bytes = []; value = pos 0; place = record { file = 0; offset = 0 } }

abbrev pub bare_deed : Stack → Option Stack
bare_deed s = option_and_then (λ p. Some (code (called (call_of p.0 [])) ∷ p.1)) (path_on s)

-- the call begins where its instruction's word stands
abbrev pub call_deed : Stack → Option Stack
call_deed s =
    option_and_then (λ c. option_and_then (λ f. Some
    (added f.0 (instr_of f.0 (op_of f.0.token.bytes) None None
    (Some (record c.0 { place = f.0.token.place }))) f.1))
    (front_on c.1)) (call_on s)

-- ---- by the action

abbrev pub instr_deed : InstrAction → Stack → Option Stack
instr_deed a.NewCode s = new_code_deed s
instr_deed a.Begun s = begun_deed s
instr_deed a.NoLabel s = no_label_deed s
instr_deed a.Label s = label_deed s
instr_deed a.Number s = number_deed s
instr_deed a.Negative s = negative_deed s
instr_deed a.Truth s = truth_deed s
instr_deed a.Opening s = opening_deed s
instr_deed a.Operand s = operand_deed s
instr_deed a.Literal s = literal_deed s
instr_deed a.Alone s = alone_deed s
instr_deed a.Base s = base_deed s
instr_deed a.Bare s = bare_deed s
instr_deed a.Call s = call_deed s
