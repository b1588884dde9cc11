-- Declarations: which tokens spell types, variables and sections, and which are well formed.
use Rattle.std.specs.Prelude.{◌≡◌, IsTrue, List, [], ◌++◌, Option, Some, None}
use Rattle.std.specs.Str.{str_eq_ignore_ascii_case}
use Rattle.pv_word.specs.declared.types.Ty.{Ty}
use Rattle.pv_place.specs.declared.place.Place.{Place}
use Rattle.pv_types.specs.declared.name.Name.{Name}
use Rattle.pv_types.specs.declared.declaration.Literal.{Literal}
use Rattle.pv_types.specs.declared.declaration.Section.{Section}
use Rattle.pv_types.specs.declared.declaration.Section.TheVariants as section
use Rattle.pv_types.specs.Tree.{TypeTree, plain, array, structure, named, unread, VarTree, var, VarTrees, no_vars, _then_}
use Rattle.pv_types.specs.View.{listed as fields}
use Rattle.pv_lex.specs.declared.token.Kind.TheVariants as k
use Rattle.pv_tree.specs.Lexemes.{Lexeme, Form, nothing, never, one, ◌⨾◌, ◌∣◌, when, word, word_at, sign, each}
use Rattle.pv_tree.specs.Words.{type_word, SpellsWord, SpellsName, IsFree}
use Rattle.pv_tree.specs.Literals.{SpellsLiteral, SpellsInteger, type_alone}

-- the word of a simple type
pub record IsTypeWord (simple : Ty) (t : Lexeme) : Type 0 where
  pub kind : t.kind ≡ k.Word
  pub bytes : IsTrue (str_eq_ignore_ascii_case t.bytes (type_word simple))

-- the start value of a declaration
abbrev pub SpellsStart : Option Literal → Form
SpellsStart None = nothing
SpellsStart (Some start) = sign ":=" ⨾ SpellsLiteral start

-- the first of the variables has this type and this start value
abbrev pub Shares : TypeTree → Option Literal → VarTrees → Type 0
Shares ty start no_vars = ⊥
Shares ty start (_then_ (var name section other its place) others) = (other ≡ ty) × (its ≡ start)

abbrev mutual
  -- a type in a declaration of this section
  pub SpellsType : Section → TypeTree → Form
  SpellsType around (plain simple) = one (IsTypeWord simple)
  SpellsType around unread = word "DATE_AND_TIME"
  SpellsType around (named name place) = SpellsName name place
  SpellsType around (array low high of place) =
      word_at "ARRAY" place ⨾ sign "[" ⨾ SpellsInteger low ⨾ sign ".." ⨾ SpellsInteger high
      ⨾ sign "]"
      ⨾ word "OF" ⨾ SpellsType around of
  SpellsType around (structure inner) = word "STRUCT" ⨾ SpellsVars around inner ⨾ word "END_STRUCT"

  -- the variables of declarations of this section. A variable is followed by its type, its start
  -- value and `;`, or shares them with the next one, from which a comma parts it
  pub SpellsVars : Section → VarTrees → Form
  SpellsVars around no_vars = nothing
  SpellsVars around (_then_ (var name its ty start place) others) =
      when (its ≡ around) (SpellsWord name place
      ⨾ ((sign ":" ⨾ SpellsType around ty ⨾ SpellsStart start ⨾ sign ";" ⨾ SpellsVars around others)
      ∣ when (Shares ty start others) (sign "," ⨾ SpellsVars around others)))

-- the word that opens a section; constants have their own
abbrev pub SpellsSectionWord : Section → Form
SpellsSectionWord section.Input = word "VAR_INPUT"
SpellsSectionWord section.Output = word "VAR_OUTPUT"
SpellsSectionWord section.InOut = word "VAR_IN_OUT"
SpellsSectionWord section.Static = word "VAR"
SpellsSectionWord section.Temp = word "VAR_TEMP"
SpellsSectionWord section.Const = never

-- a constant, whose type is the one that its literal has alone
abbrev pub SpellsConstantOf : Name → Place → Option Literal → TypeTree → Form
SpellsConstantOf name place None ty = never
SpellsConstantOf name place (Some literal) ty =
    when (ty ≡ plain (type_alone literal.ty literal.value))
    (SpellsWord name place ⨾ sign ":=" ⨾ SpellsLiteral literal ⨾ sign ";")

abbrev pub SpellsConstant : VarTree → Form
SpellsConstant (var name its ty start place) = when (its ≡ section.Const)
    (SpellsConstantOf name place start ty)

-- a section of these variables
abbrev pub SpellsSection : Section → List VarTree → Form
SpellsSection section.Const vars = word "CONST" ⨾ each SpellsConstant vars ⨾ word "END_CONST"
SpellsSection around vars = SpellsSectionWord around ⨾ SpellsVars around (fields vars)
    ⨾ word "END_VAR"

-- any number of sections; an empty one leaves nothing in the tree
pub data SpellsSections : List VarTree → List Lexeme → Type 0 where
  no_sections : SpellsSections [] []
  sections : (around : Section) (inner others vars : List VarTree) (front back tokens : List Lexeme)
      → SpellsSection around inner front → SpellsSections others back
      → vars ≡ inner ++ others → tokens ≡ front ++ back → SpellsSections vars tokens

-- ---- well-formed declarations

abbrev mutual
  -- no reserved word is the name of a type or a variable
  pub IsFormedType : TypeTree → Type 0
  IsFormedType (plain simple) = Unit {0}
  IsFormedType unread = Unit {0}
  IsFormedType (named name place) = IsFree name
  IsFormedType (array low high of place) = IsFormedType of
  IsFormedType (structure inner) = AreFormedVars inner

  pub AreFormedVars : VarTrees → Type 0
  AreFormedVars no_vars = Unit {0}
  AreFormedVars (_then_ (var name its ty start place) others) = IsFree name × IsFormedType ty
      × AreFormedVars others
