-- What the names of declarations and blocks mean, by sort.
use Rattle.std.proofs.Common.{◌≡◌, List, [], ◌∷◌, ◌++◌, All, Option, Some}
use Rattle.std.specs.Prelude.{ℤ}
use Rattle.pv_word.specs.declared.types.Ty.{Ty}
use Rattle.pv_place.specs.declared.place.Place.{Place}
use Rattle.pv_types.specs.declared.name.Name.{Name}
use Rattle.pv_types.specs.declared.declaration.Literal.{Literal}
use Rattle.pv_types.specs.declared.declaration.Section.{Section}
use Rattle.pv_types.specs.declared.declaration.Section.TheVariants as section
use Rattle.pv_types.specs.Tree.{TypeTree, array, VarTree, VarTrees}
use Rattle.pv_types.specs.View.{listed}
use Rattle.pv_lex.specs.declared.token.Language.{Language}
use Rattle.pv_tree.specs.declared.expr.Root.{Root}
use Rattle.pv_tree.specs.Tree.{PlacedName, StepTree, StartTree, BodyTree, starts, BlockTree}
use Rattle.pv_tree.specs.View.{steps_of}
use Rattle.pv_tree.specs.Lexemes.{Lexeme, Form, ◌⨾◌, ◌∣◌, when, maybe, sign, word as spelled_word, each}
use Rattle.pv_tree.specs.Words.{IsFree, SpellsWord, SpellsName}
use Rattle.pv_tree.specs.Literals.{number_type, SpellsNumber}
use Rattle.pv_tree.specs.Declarations.{SpellsType, IsFormedType, SpellsVars, AreFormedVars, SpellsStart, Shares, SpellsSectionWord, SpellsConstant, SpellsSections}
use Rattle.pv_tree.specs.Blocks.{SpellsPathSteps, SpellsDataValue, IsFormedStart, SpellsCode, IsFormedBody, SpellsData, SpellsValueType, SpellsOwnFields, SpellsBlocks, IsFormedBlock}
use Rattle.pv_tree.specs.Expressions.{AreFormedSteps}
use Rattle.pv_parse.specs.Items.{Stack, FieldsTree, HeadTree, token, path, name, literal, words, around, fields, typed, start, bounds, heading, body, values, blocks}
use Rattle.pv_parse.specs.DeclDeeds.{declared, with_vars}
use Rattle.pv_parse.specs.BlockDeeds.{named_block}
use Rattle.pv_parse.proofs.Sure.{Sure, lexemes}
use Rattle.pv_parse.proofs.Stacks.{Shape, a_token, a_path, a_literal, one_name, some_words, one_around, some_fields, one_type, one_start, one_bounds, one_heading, one_body, some_values, some_blocks}

-- what stands behind a word of a declaration, with the variables that are declared behind it: the type, the start value, and further
-- declarations; or a comma and words that share them
abbrev pub Behind : Section → TypeTree → Option Literal → VarTrees → Form
Behind its ty o others =
    (sign ":" ⨾ SpellsType its ty ⨾ SpellsStart o ⨾ sign ";" ⨾ SpellsVars its others)
    ∣ when (Shares ty o others) (sign "," ⨾ SpellsVars its others)

-- ---- sorts

pub data DeclSort : Type 0 where
  alone : DeclSort  -- any name that stands alone
  numeral : DeclSort  -- a number with its sign
  begun : DeclSort  -- the first word of a declaration
  next : DeclSort  -- a comma and one more
  turned : DeclSort  -- the colon behind them
  kind : DeclSort  -- a type
  array_head : DeclSort  -- an array up to the type of its elements
  struct_head : DeclSort  -- the word of a structure
  own_head : DeclSort  -- that of a block's own fields
  starting : DeclSort  -- a start value, or none
  one : DeclSort  -- what gives words a type and a start value
  rest : DeclSort  -- what stands behind a word of a declaration
  declares : DeclSort  -- declarations
  constants : DeclSort  -- declarations of constants
  section_head : DeclSort  -- the word of a section
  const_head : DeclSort  -- that of constants
  sections : DeclSort  -- sections
  block_name : DeclSort  -- the name of a block
  value_type : DeclSort  -- the type of a function's value, or VOID
  own_fields : DeclSort  -- a block's own fields
  data_type : DeclSort  -- what a data block is of, or its fields
  dropped : DeclSort  -- a `;`, or none
  data_head : DeclSort  -- BEGIN of a data block
  data_values : DeclSort  -- values of a data block
  data_walk : DeclSort  -- steps of their paths
  code_body : Language → DeclSort  -- the body of a block with code
  data_body : Language → DeclSort  -- that of a data block
  new_source : DeclSort  -- the beginning of a source
  more_blocks : Language → DeclSort  -- blocks
  source : Language → DeclSort  -- a source

-- ---- what a name means

pub data DoesDecl : DeclSort → Stack → List Sure → Stack → Type 0 where
  -- names and literals
  a_name : {s : Stack} {ts : List Sure} (n : Name) (p : Place) → SpellsName n p (lexemes ts) → IsFree n → DoesDecl alone s ts (name (n, p) ∷ s)
  a_numeral : {s : Stack} {ts : List Sure} (l : Literal) → SpellsNumber number_type l (lexemes ts) → DoesDecl numeral s ts (literal l ∷ s)
  -- declarations
  begins : {s : Stack} {ts : List Sure} (n : Name) (p : Place) → SpellsWord n p (lexemes ts) → IsFree n → DoesDecl begun s ts (words ((n, p) ∷ []) ∷ s)
  follows : {s : Stack} {ts : List Sure} (l : List PlacedName) (n : Name) (p : Place) → (sign "," ⨾ SpellsWord n p) (lexemes ts) → IsFree n
      → DoesDecl next (words l ∷ s) ts (words (l ++ (n, p) ∷ []) ∷ s)
  turns : {s : Stack} {ts : List Sure} (l : List PlacedName) (f : FieldsTree) → sign ":" (lexemes ts)
      → DoesDecl turned (words l ∷ fields f ∷ s) ts (around f.section ∷ words l ∷ fields f ∷ s)
  a_type : {s : Stack} {ts : List Sure} (a : Section) (t : TypeTree) → SpellsType a t (lexemes ts) → IsFormedType t
      → DoesDecl kind (around a ∷ s) ts (typed t ∷ s)
  bounded : {s : Stack} {ts : List Sure} (a : Section) (low high : ℤ) (p : Place)
      → ((us : List Lexeme) (of : TypeTree) → SpellsType a of us → SpellsType a (array low high of p) (lexemes ts ++ us))
      → DoesDecl array_head (around a ∷ s) ts (around a ∷ bounds (record { low = low; high = high; place = p }) ∷ s)
  opens : {s : Stack} {ts : List Sure} (a : Section) → spelled_word "STRUCT" (lexemes ts)
      → DoesDecl struct_head (around a ∷ s) ts (fields (record { section = a; vars = [] }) ∷ s)
  opens_own : {s : Stack} {ts : List Sure} → spelled_word "STRUCT" (lexemes ts)
      → DoesDecl own_head s ts (fields (record { section = section.Static; vars = [] }) ∷ s)
  a_start : {s : Stack} {ts : List Sure} (o : Option Literal) → SpellsStart o (lexemes ts) → DoesDecl starting s ts (start o ∷ s)
  gives : {s : Stack} {ts : List Sure} (l : List PlacedName) (f : FieldsTree) (t : TypeTree) (o : Option Literal)
      → ((others : VarTrees) (us : List Lexeme) → SpellsVars f.section others us
      → (sign ":" ⨾ SpellsType f.section t ⨾ SpellsStart o ⨾ sign ";" ⨾ SpellsVars f.section others) (lexemes ts ++ us))
      → IsFormedType t → DoesDecl one (words l ∷ fields f ∷ s) ts (fields (with_vars f (declared f.section t o l)) ∷ s)
  goes_on : {s : Stack} {ts : List Sure} (l : List PlacedName) (a : Section) (before : List VarTree) (t : TypeTree) (o : Option Literal)
      (new after : List VarTree) → Behind a t o (listed new) (lexemes ts) → IsFormedType t → AreFormedVars (listed new)
      → after ≡ before ++ (declared a t o l ++ new)
      → DoesDecl rest (words l ∷ fields (record { section = a; vars = before }) ∷ s) ts (fields (record { section = a; vars = after }) ∷ s)
  declare : {s : Stack} {ts : List Sure} (a : Section) (before new after : List VarTree) → SpellsVars a (listed new) (lexemes ts)
      → AreFormedVars (listed new) → after ≡ before ++ new
      → DoesDecl declares (fields (record { section = a; vars = before }) ∷ s) ts (fields (record { section = a; vars = after }) ∷ s)
  name_constants : {s : Stack} {ts : List Sure} (a : Section) (before new after : List VarTree) → each SpellsConstant new (lexemes ts)
      → AreFormedVars (listed new) → after ≡ before ++ new
      → DoesDecl constants (fields (record { section = a; vars = before }) ∷ s) ts (fields (record { section = a; vars = after }) ∷ s)
  -- blocks
  heads : {s : Stack} {ts : List Sure} (a : Section) → SpellsSectionWord a (lexemes ts)
      → DoesDecl section_head s ts (fields (record { section = a; vars = [] }) ∷ s)
  heads_constants : {s : Stack} {ts : List Sure} → spelled_word "CONST" (lexemes ts)
      → DoesDecl const_head s ts (fields (record { section = section.Const; vars = [] }) ∷ s)
  are_sections : {s : Stack} {ts : List Sure} (h : HeadTree) (new after : List VarTree) → SpellsSections new (lexemes ts)
      → AreFormedVars (listed new) → after ≡ h.vars ++ new → DoesDecl sections (heading h ∷ s) ts (heading (record h { vars = after }) ∷ s)
  names : {s : Stack} {ts : List Sure} (n : Name) (p : Place) → SpellsName n p (lexemes ts) → IsFree n
      → DoesDecl block_name s ts (heading (named_block (n, p)) ∷ s)
  has_value : {s : Stack} {ts : List Sure} (t : Lexeme) (h : HeadTree) (v : Option Ty) → SpellsValueType v (lexemes ts)
      → DoesDecl value_type (token t ∷ heading h ∷ s) ts (heading (record h { value = v }) ∷ s)
  has_fields : {s : Stack} {ts : List Sure} (h : HeadTree) (new after : List VarTree) → SpellsOwnFields new (lexemes ts)
      → AreFormedVars (listed new) → after ≡ h.vars ++ new → DoesDecl own_fields (heading h ∷ s) ts (heading (record h { vars = after }) ∷ s)
  is_of : {s : Stack} {ts : List Sure} (h : HeadTree) (n : Name) (p : Place) → SpellsName n p (lexemes ts) → IsFree n
      → DoesDecl data_type (heading h ∷ s) ts (heading (record h { of = Some (n, p) }) ∷ s)
  is_own : {s : Stack} {ts : List Sure} (h : HeadTree) (new after : List VarTree) → SpellsOwnFields new (lexemes ts)
      → AreFormedVars (listed new) → after ≡ h.vars ++ new → DoesDecl data_type (heading h ∷ s) ts (heading (record h { vars = after }) ∷ s)
  drops : {s : Stack} {ts : List Sure} → maybe (sign ";") (lexemes ts) → DoesDecl dropped s ts s
  begins_data : {s : Stack} {ts : List Sure} → spelled_word "BEGIN" (lexemes ts) → DoesDecl data_head s ts (values [] ∷ s)
  are_values : {s : Stack} {ts : List Sure} (before new after : List StartTree) → each SpellsDataValue new (lexemes ts) → All IsFormedStart new
      → after ≡ before ++ new → DoesDecl data_values (values before ∷ s) ts (values after ∷ s)
  walks_data : {s : Stack} {ts : List Sure} (r : Root) (p : Place) (before new after : List StepTree) → SpellsPathSteps (steps_of new) (lexemes ts)
      → AreFormedSteps (steps_of new) → after ≡ before ++ new
      → DoesDecl data_walk (path (record { root = r; steps = before; place = p }) ∷ s) ts (path (record { root = r; steps = after; place = p }) ∷ s)
  a_body : {s : Stack} {ts : List Sure} {l : Language} (b : BodyTree) → SpellsCode l b (lexemes ts) → IsFormedBody b → DoesDecl (code_body l) s ts (body b ∷ s)
  a_data_body : {s : Stack} {ts : List Sure} {l : Language} (v : List StartTree) → SpellsData l (starts v) (lexemes ts) → All IsFormedStart v
      → DoesDecl (data_body l) s ts (values v ∷ s)
  no_blocks : {s : Stack} {ts : List Sure} → ts ≡ [] → DoesDecl new_source s ts (blocks [] ∷ s)
  are_blocks : {s : Stack} {ts : List Sure} {l : Language} (before new after : List BlockTree) → SpellsBlocks l new (lexemes ts) → All IsFormedBlock new
      → after ≡ before ++ new → DoesDecl (more_blocks l) (blocks before ∷ s) ts (blocks after ∷ s)
  a_source : {s : Stack} {ts : List Sure} {l : Language} (all : List BlockTree) → SpellsBlocks l all (lexemes ts) → All IsFormedBlock all
      → DoesDecl (source l) s ts (blocks all ∷ s)

-- ---- what names take off the stack and put there

abbrev pub decl_takes : DeclSort → List Shape
decl_takes next = some_words ∷ []
decl_takes turned = some_words ∷ some_fields ∷ []
decl_takes kind = one_around ∷ []
decl_takes array_head = one_around ∷ []
decl_takes struct_head = one_around ∷ []
decl_takes one = some_words ∷ some_fields ∷ []
decl_takes rest = some_words ∷ some_fields ∷ []
decl_takes declares = some_fields ∷ []
decl_takes constants = some_fields ∷ []
decl_takes sections = one_heading ∷ []
decl_takes value_type = a_token ∷ one_heading ∷ []
decl_takes own_fields = one_heading ∷ []
decl_takes data_type = one_heading ∷ []
decl_takes data_values = some_values ∷ []
decl_takes data_walk = a_path ∷ []
decl_takes (more_blocks l) = some_blocks ∷ []
decl_takes _ = []

abbrev pub decl_puts : DeclSort → List Shape
decl_puts alone = one_name ∷ []
decl_puts numeral = a_literal ∷ []
decl_puts begun = some_words ∷ []
decl_puts next = some_words ∷ []
decl_puts turned = one_around ∷ some_words ∷ some_fields ∷ []
decl_puts kind = one_type ∷ []
decl_puts array_head = one_around ∷ one_bounds ∷ []
decl_puts struct_head = some_fields ∷ []
decl_puts own_head = some_fields ∷ []
decl_puts starting = one_start ∷ []
decl_puts one = some_fields ∷ []
decl_puts rest = some_fields ∷ []
decl_puts declares = some_fields ∷ []
decl_puts constants = some_fields ∷ []
decl_puts section_head = some_fields ∷ []
decl_puts const_head = some_fields ∷ []
decl_puts sections = one_heading ∷ []
decl_puts block_name = one_heading ∷ []
decl_puts value_type = one_heading ∷ []
decl_puts own_fields = one_heading ∷ []
decl_puts data_type = one_heading ∷ []
decl_puts dropped = []
decl_puts data_head = some_values ∷ []
decl_puts data_values = some_values ∷ []
decl_puts data_walk = a_path ∷ []
decl_puts (code_body l) = one_body ∷ []
decl_puts (data_body l) = some_values ∷ []
decl_puts new_source = some_blocks ∷ []
decl_puts (more_blocks l) = some_blocks ∷ []
decl_puts (source l) = some_blocks ∷ []
