-- What the alternatives of names, literals and declarations make of what lies on the stack.
use Rattle.std.specs.Prelude.{neg_ℤ, List, [], ◌∷◌, ◌++◌, map, Option, Some, None, option_and_then}
use Rattle.pv_word.specs.declared.types.Ty.TheVariants as ty
use Rattle.pv_place.specs.declared.place.Place.{Place}
use Rattle.pv_types.specs.declared.declaration.Literal.{Literal}
use Rattle.pv_types.specs.declared.declaration.Section.{Section}
use Rattle.pv_types.specs.declared.declaration.Section.TheVariants as section
use Rattle.pv_types.specs.Tree.{TypeTree, plain, array, structure, named, unread, VarTree, var}
use Rattle.pv_types.specs.View.{listed}
use Rattle.pv_tree.specs.Tree.{PlacedName}
use Rattle.pv_tree.specs.Lexemes.{Lexeme}
use Rattle.pv_tree.specs.Literals.{number_type, type_alone}
use Rattle.pv_parse.specs.declared.action.DeclAction.{DeclAction}
use Rattle.pv_parse.specs.declared.action.DeclAction.TheVariants as a
use Rattle.pv_parse.specs.TokenTexts.{truth_of}
use Rattle.pv_parse.specs.DeclTexts.{type_of_word, section_of_word}
use Rattle.pv_parse.specs.Items.{Stack, FieldsTree, name, literal, words, around, fields, typed, start, bounds, token_on, path_on, literal_on}
use Rattle.pv_parse.specs.DeclStack.{word_on, name_of, name_on, words_on, around_on, fields_on, typed_on, start_on, bounds_on}

-- a name that stands alone
abbrev pub name_deed : Stack → Option Stack
name_deed s =
    option_and_then (λ p. option_and_then (λ n. Some (name (n, p.0.place) ∷ p.1))
    (name_of p.0.root)) (path_on s)

-- ---- literals

abbrev pub number_literal : Lexeme → Literal
number_literal t =
    record { ty = number_type t.bytes; value = t.value; place = t.place }

-- a number behind the sign `-`, which stands at this place
abbrev pub negative_literal : Lexeme → Place → Literal
negative_literal t place =
    record { ty = number_type t.bytes; value = neg_ℤ t.value; place = place }

abbrev pub truth_literal : Lexeme → Literal
truth_literal t = record { ty = Some ty.Bool; value = truth_of t.bytes; place = t.place }

abbrev pub number_deed : Stack → Option Stack
number_deed s = option_and_then (λ t. Some (literal (number_literal t.0) ∷ t.1)) (token_on s)

abbrev pub negative_deed : Stack → Option Stack
negative_deed s =
    option_and_then (λ t. option_and_then (λ m. Some
    (literal (negative_literal t.0 m.0.place) ∷ m.1)) (token_on t.1)) (token_on s)

abbrev pub truth_deed : Stack → Option Stack
truth_deed s = option_and_then (λ t. Some (literal (truth_literal t.0) ∷ t.1)) (token_on s)

-- ---- the words of a declaration

abbrev pub first_word_deed : Stack → Option Stack
first_word_deed s = option_and_then (λ w. Some (words (w.0 ∷ []) ∷ w.1)) (word_on s)

-- one more behind a comma
abbrev pub next_word_deed : Stack → Option Stack
next_word_deed s =
    option_and_then (λ w. option_and_then (λ comma. option_and_then (λ l. Some
    (words (l.0 ++ w.0 ∷ []) ∷ l.1))
    (words_on comma.1)) (token_on w.1)) (word_on s)

-- ---- types

-- behind the colon: the section in which the type stands comes on top
abbrev pub type_head_deed : Stack → Option Stack
type_head_deed s =
    option_and_then (λ colon. option_and_then (λ w. option_and_then (λ f. Some
    (around f.0.section ∷ words w.0 ∷ fields f.0 ∷ f.1))
    (fields_on w.1)) (words_on colon.1)) (token_on s)

abbrev pub simple_deed : Stack → Option Stack
simple_deed s =
    option_and_then (λ t. option_and_then (λ a. Some
    (typed (plain (type_of_word t.0.bytes)) ∷ a.1)) (around_on t.1)) (token_on s)

abbrev pub unread_deed : Stack → Option Stack
unread_deed s =
    option_and_then (λ t. option_and_then (λ a. Some (typed unread ∷ a.1)) (around_on t.1))
    (token_on s)

abbrev pub named_deed : Stack → Option Stack
named_deed s =
    option_and_then (λ n. option_and_then (λ a. Some (typed (named n.0.0 n.0.1) ∷ a.1))
    (around_on n.1)) (name_on s)

-- the bounds of an array; the section comes on top again
abbrev pub array_head_deed : Stack → Option Stack
array_head_deed s =
    option_and_then (λ of. option_and_then (λ close. option_and_then (λ high.
    option_and_then (λ dots. option_and_then (λ low. option_and_then (λ begin.
    option_and_then (λ word. option_and_then (λ a. Some
    (around a.0 ∷ bounds (record { low = low.0.value; high = high.0.value; place = word.0.place })
    ∷ a.1))
    (around_on word.1)) (token_on begin.1)) (token_on low.1)) (literal_on dots.1))
    (token_on high.1)) (literal_on close.1)) (token_on of.1)) (token_on s)

abbrev pub array_deed : Stack → Option Stack
array_deed s =
    option_and_then (λ t. option_and_then (λ b. Some
    (typed (array b.0.low b.0.high t.0 b.0.place) ∷ b.1)) (bounds_on t.1)) (typed_on s)

-- a structure begins, in the section around it
abbrev pub struct_head_deed : Stack → Option Stack
struct_head_deed s =
    option_and_then (λ t. option_and_then (λ a. Some
    (fields (record { section = a.0; vars = [] }) ∷ a.1)) (around_on t.1)) (token_on s)

abbrev pub struct_deed : Stack → Option Stack
struct_deed s =
    option_and_then (λ end. option_and_then (λ f. Some (typed (structure (listed f.0.vars)) ∷ f.1))
    (fields_on end.1)) (token_on s)

-- ---- variables

-- the variables of these words
abbrev pub declared : Section → TypeTree → Option Literal → List PlacedName → List VarTree
declared its ty o l = map (λ w. var w.0 its ty o w.1) l

-- variables behind others
abbrev pub with_vars : FieldsTree → List VarTree → FieldsTree
with_vars f more = record f { vars = f.vars ++ more }

abbrev pub start_deed : Stack → Option Stack
start_deed s =
    option_and_then (λ l. option_and_then (λ sign. Some (start (Some l.0) ∷ sign.1))
    (token_on l.1)) (literal_on s)

abbrev pub no_start_deed : Stack → Option Stack
no_start_deed s = Some (start None ∷ s)

abbrev pub declared_deed : Stack → Option Stack
declared_deed s =
    option_and_then (λ end. option_and_then (λ o. option_and_then (λ t. option_and_then (λ w.
    option_and_then (λ f. Some
    (fields (with_vars f.0 (declared f.0.section t.0 o.0 w.0)) ∷ f.1))
    (fields_on w.1)) (words_on t.1)) (typed_on o.1)) (start_on end.1)) (token_on s)

-- the constant of this word and literal
abbrev pub constant_of : PlacedName → Literal → VarTree
constant_of w l = var w.0 section.Const (plain (type_alone l.ty l.value)) (Some l) w.1

abbrev pub constant_deed : Stack → Option Stack
constant_deed s =
    option_and_then (λ end. option_and_then (λ l. option_and_then (λ sign. option_and_then (λ w.
    option_and_then (λ f. Some (fields (with_vars f.0 (constant_of w.0 l.0 ∷ [])) ∷ f.1))
    (fields_on w.1)) (word_on sign.1)) (token_on l.1)) (literal_on end.1)) (token_on s)

-- ---- sections

-- the fields of a data block or a named structure begin
abbrev pub own_head_deed : Stack → Option Stack
own_head_deed s =
    option_and_then (λ t. Some (fields (record { section = section.Static; vars = [] }) ∷ t.1))
    (token_on s)

abbrev pub section_head_deed : Stack → Option Stack
section_head_deed s =
    option_and_then (λ t. Some
    (fields (record { section = section_of_word t.0.bytes; vars = [] }) ∷ t.1)) (token_on s)

abbrev pub const_head_deed : Stack → Option Stack
const_head_deed s =
    option_and_then (λ t. Some (fields (record { section = section.Const; vars = [] }) ∷ t.1))
    (token_on s)

-- a token that leaves nothing
abbrev pub dropped_deed : Stack → Option Stack
dropped_deed s = option_and_then (λ t. Some t.1) (token_on s)

-- ---- by the action

abbrev pub decl_deed : DeclAction → Stack → Option Stack
decl_deed a.Name s = name_deed s
decl_deed a.Number s = number_deed s
decl_deed a.Negative s = negative_deed s
decl_deed a.Truth s = truth_deed s
decl_deed a.FirstWord s = first_word_deed s
decl_deed a.NextWord s = next_word_deed s
decl_deed a.TypeHead s = type_head_deed s
decl_deed a.Simple s = simple_deed s
decl_deed a.Unread s = unread_deed s
decl_deed a.Named s = named_deed s
decl_deed a.ArrayHead s = array_head_deed s
decl_deed a.Array s = array_deed s
decl_deed a.StructHead s = struct_head_deed s
decl_deed a.Struct s = struct_deed s
decl_deed a.Start s = start_deed s
decl_deed a.NoStart s = no_start_deed s
decl_deed a.Declared s = declared_deed s
decl_deed a.Constant s = constant_deed s
decl_deed a.OwnHead s = own_head_deed s
decl_deed a.SectionHead s = section_head_deed s
decl_deed a.ConstHead s = const_head_deed s
decl_deed a.Dropped s = dropped_deed s
