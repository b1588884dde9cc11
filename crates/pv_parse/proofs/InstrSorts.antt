-- What the names of instructions mean, by sort.
--
-- A word or sign of an instruction lies on the stack until what stands behind it was read. What goes on behind it says what it makes
-- of whatever token that was, where the token says an instruction of the shape that stands there.
use Rattle.std.proofs.Common.{◌≡◌, ◌⊎◌, Bool, true, false, List, [], ◌∷◌, ◌++◌, All, codes, Option, None}
use Rattle.pv_place.specs.declared.place.Place.{Place}
use Rattle.pv_types.specs.declared.name.Name.{Name}
use Rattle.pv_types.specs.declared.declaration.Literal.{Literal}
use Rattle.pv_tree.specs.declared.expr.Root.TheVariants.{Local}
use Rattle.pv_tree.specs.declared.instr.Op.{Op}
use Rattle.pv_tree.specs.declared.instr.Op.TheVariants as o
use Rattle.pv_tree.specs.Tree.{PlacedName, CallPlain, InstrTree, BodyTree, stl}
use Rattle.pv_tree.specs.Lexemes.{Lexeme, Form, one, ◌⨾◌, IsAt, sign}
use Rattle.pv_tree.specs.Words.{IsFree, plain_name, SpellsWord, SpellsName}
use Rattle.pv_tree.specs.Literals.{SpellsLiteral, SpellsLoaded}
use Rattle.pv_tree.specs.Calls.{SpellsCalledStl, SpellsBase, SpellsCallStl, IsFreeBehind, IsFreeOption, IsFormedCallStl}
use Rattle.pv_tree.specs.Instructions.{Shape as Behind, opening, must, may, sort_of, IsOfSort, shape_of, SpellsBehind, SpellsLabel, SpellsInstrs, IsFormedOperandOption, IsFormedCallOption, IsFormedInstr}
use Rattle.pv_parse.specs.TokenTexts.{is_text}
use Rattle.pv_parse.specs.OpTexts.{op_of, opening_of}
use Rattle.pv_parse.specs.InstrStack.{instrs_of, last_word}
use Rattle.pv_parse.specs.CodeItems.{called}
use Rattle.pv_parse.specs.Items.{Stack, PathTree, token, path, literal, words, body, code}
use Rattle.pv_parse.specs.ExprDeeds.{rooted}
use Rattle.pv_parse.specs.CallDeeds.{named_of, is_hashed, call_of}
use Rattle.pv_parse.proofs.Sure.{Sure, lexemes, IsFreeWord, IsPrefix}
use Rattle.pv_parse.proofs.Stacks.{Shape, a_token, a_path, a_literal, some_words, one_body, a_call}
use Rattle.pv_parse.proofs.CodeSorts.{IsTarget, base_steps}

-- ---- what tokens are

-- the instruction that loads, on which the types of literals hang
abbrev pub is_load : Op → Bool
is_load o.L = true
is_load _ = false

-- the token says an instruction behind which such things stand
pub record IsOp (shape : Behind) (t : Lexeme) : Type 0 where
  pub shaped : shape_of (sort_of (op_of t.bytes)) ≡ shape
  pub said : IsOfSort (sort_of (op_of t.bytes)) t
  pub loads : is_text (codes "L") t.bytes ≡ is_load (op_of t.bytes)

-- it says one with `(`
pub record IsOpening (t : Lexeme) : Type 0 where
  pub shaped : shape_of (sort_of (opening_of t.bytes)) ≡ opening
  pub said : IsOfSort (sort_of (opening_of t.bytes)) t

-- what is known of a token by what may stand behind it
pub data Class : Type 0 where
  by_opening : Class  -- `(`
  by_value : Class  -- an operand or a literal, which are there
  by_must : Class  -- an operand or a literal
  by_may : Class  -- these, or nothing
  by_bit : Class  -- `(`, an operand or a literal
  by_or : Class  -- these, or nothing

abbrev pub Known : Class → Lexeme → Type 0
Known by_opening t = IsOpening t
Known by_value t = IsOp must t ⊎ IsOp may t
Known by_must t = IsOp must t
Known by_may t = IsOp may t
Known by_bit t = IsOp must t × IsOpening t
Known by_or t = IsOp may t × IsOpening t

-- ---- what tokens spell

-- an instruction without its label and its `;`
pub record Operated (i : InstrTree) (ts : List Lexeme) : Type 0 where
  pub spelled : (one (IsAt (IsOfSort (sort_of i.op)) i.place) ⨾ SpellsBehind (shape_of (sort_of i.op)) i) ts
  pub its_operand : IsFormedOperandOption i.operand
  pub its_call : IsFormedCallOption i.call

-- one without its `;`
pub record Laid (i : InstrTree) (ts : List Lexeme) : Type 0 where
  pub spelled : (SpellsLabel i.label ⨾ one (IsAt (IsOfSort (sort_of i.op)) i.place) ⨾ SpellsBehind (shape_of (sort_of i.op)) i) ts
  pub formed : IsFormedInstr i

-- a literal behind the instruction that loads, and behind others
abbrev pub SpellsBehindOp : Bool → Literal → Form
SpellsBehindOp true l = SpellsLoaded l
SpellsBehindOp false l = SpellsLiteral l

-- the called name of a call, with its second name
pub record IsCalleeStl (p : PathTree) (base : Option PlacedName) (ts : List Lexeme) : Type 0 where
  pub steps_are : p.steps ≡ base_steps base
  pub spelled : (SpellsCalledStl (is_hashed p.root) (named_of p).0 (named_of p).1 ⨾ SpellsBase (sign ",") base) ts
  pub formed : IsFreeBehind (is_hashed p.root) (named_of p).0
  pub its_base : IsFreeOption base

-- a name without `#`, alone
pub record IsCalledAlone (p : PathTree) (ts : List Lexeme) : Type 0 where
  pub steps_are : p.steps ≡ []
  pub unhashed : is_hashed p.root ≡ false
  pub spelled : SpellsName (named_of p).0 (named_of p).1 ts
  pub free : IsFree (named_of p).0

pub record CalledStl (c : CallPlain) (ts : List Lexeme) : Type 0 where
  pub spelled : SpellsCallStl c ts
  pub formed : IsFormedCallStl c

-- ---- sorts

pub data InstrSort : Type 0 where
  new_code : InstrSort  -- a body without instructions
  more_instrs : InstrSort  -- further instructions
  unlabelled : InstrSort  -- no label so far
  laid : InstrSort  -- an instruction with its label
  label_sign : InstrSort  -- the colon behind a label
  after_op : Class → InstrSort  -- what goes on behind a word that is a label or an instruction
  operating : InstrSort  -- an instruction without its label
  behind_op : Class → InstrSort  -- what stands behind its word or sign
  operand_name : InstrSort  -- an operand
  hashed_word : InstrSort  -- a word behind `#` with which one begins
  value_literal : InstrSort  -- a literal
  callee : InstrSort  -- a called name
  callee_alone : InstrSort  -- one without `#`
  callee_hash : InstrSort  -- one behind `#`
  callee_prefix : InstrSort  -- one behind `#` that begins with OB, FB, FC, DB or UDT
  callee_base : InstrSort  -- a second name behind a comma, or none
  call_behind : InstrSort  -- the arguments of a call
  call_bare : InstrSort  -- none

-- ---- what a name means

pub data DoesInstr : InstrSort → Stack → List Sure → Stack → Type 0 where
  begins_code : {s : Stack} {ts : List Sure} → ts ≡ [] → DoesInstr new_code s ts (body (stl []) ∷ s)
  adds_instrs : {s : Stack} {ts : List Sure} (before after : BodyTree) (new : List InstrTree) → SpellsInstrs new (lexemes ts) → All IsFormedInstr new
      → ((l : List InstrTree) → before ≡ stl l → after ≡ stl (l ++ new)) → DoesInstr more_instrs (body before ∷ s) ts (body after ∷ s)
  has_no_label : {s : Stack} {ts : List Sure} → ts ≡ [] → DoesInstr unlabelled s ts (words [] ∷ s)
  lays : {s : Stack} {ts : List Sure} (w : List PlacedName) (b : BodyTree) (i : InstrTree) → (w ≡ [] → Laid i (lexemes ts))
      → DoesInstr laid (words w ∷ body b ∷ s) ts (body (stl (instrs_of b ++ i ∷ [])) ∷ s)
  signs_label : {s : Stack} {ts : List Sure} (t : Lexeme) (w : List PlacedName) → sign ":" (lexemes ts)
      → DoesInstr label_sign (token t ∷ words w ∷ s) ts (words ((plain_name t.bytes, t.place) ∷ []) ∷ s)
  goes_after : {x : Class} {s : Stack} {ts : List Sure} (t : Lexeme) (w : List PlacedName) (b : BodyTree) (i : InstrTree)
      → (w ≡ [] → Known x t → IsFreeWord t → Laid i (t ∷ lexemes ts))
      → DoesInstr (after_op x) (token t ∷ words w ∷ body b ∷ s) ts (body (stl (instrs_of b ++ i ∷ [])) ∷ s)
  operates : {s : Stack} {ts : List Sure} (w : List PlacedName) (b : BodyTree) (i : InstrTree) → i.label ≡ last_word w → Operated i (lexemes ts)
      → DoesInstr operating (words w ∷ body b ∷ s) ts (body (stl (instrs_of b ++ i ∷ [])) ∷ s)
  goes_behind : {x : Class} {s : Stack} {ts : List Sure} (t : Lexeme) (w : List PlacedName) (b : BodyTree) (i : InstrTree) → i.label ≡ last_word w
      → (Known x t → Operated i (t ∷ lexemes ts))
      → DoesInstr (behind_op x) (token t ∷ words w ∷ body b ∷ s) ts (body (stl (instrs_of b ++ i ∷ [])) ∷ s)
  an_operand : {s : Stack} {ts : List Sure} (p : PathTree) → IsTarget p (lexemes ts) → DoesInstr operand_name s ts (path p ∷ s)
  a_hashed_word : {s : Stack} {ts : List Sure} (h : Lexeme) (n : Name) (p : Place) → SpellsWord n p (lexemes ts)
      → DoesInstr hashed_word (token h ∷ s) ts (path (rooted (Local n true p) h.place) ∷ s)
  a_value_literal : {s : Stack} {ts : List Sure} (t : Lexeme) (l : Literal) → SpellsBehindOp (is_text (codes "L") t.bytes) l (lexemes ts)
      → DoesInstr value_literal (token t ∷ s) ts (literal l ∷ token t ∷ s)
  a_callee : {s : Stack} {ts : List Sure} (p : PathTree) → IsCalleeStl p None (lexemes ts) → DoesInstr callee s ts (path p ∷ s)
  a_callee_alone : {s : Stack} {ts : List Sure} (p : PathTree) → IsCalledAlone p (lexemes ts) → DoesInstr callee_alone s ts (path p ∷ s)
  a_callee_hash : {s : Stack} {ts : List Sure} (h : Lexeme) (n : Name) (p : Place) → SpellsName n p (lexemes ts)
      → DoesInstr callee_hash (token h ∷ s) ts (path (rooted (Local n true p) h.place) ∷ s)
  a_callee_prefix : {s : Stack} {ts : List Sure} (w h : Lexeme) (n : Name) (p : Place) → (IsPrefix w → SpellsName n p (w ∷ lexemes ts))
      → DoesInstr callee_prefix (token w ∷ token h ∷ s) ts (path (rooted (Local n true p) h.place) ∷ s)
  adds_base : {s : Stack} {ts : List Sure} (p q : PathTree) (base : Option PlacedName)
      → ((us : List Lexeme) → IsCalleeStl p None us → IsCalleeStl q base (us ++ lexemes ts)) → DoesInstr callee_base (path p ∷ s) ts (path q ∷ s)
  a_call_behind : {s : Stack} {ts : List Sure} (p : PathTree) (c : CallPlain)
      → ((base : Option PlacedName) (us : List Lexeme) → IsCalleeStl p base us → CalledStl c (us ++ lexemes ts))
      → DoesInstr call_behind (path p ∷ s) ts (code (called c) ∷ s)
  a_bare_one : {s : Stack} {ts : List Sure} (p : PathTree) → ts ≡ [] → DoesInstr call_bare (path p ∷ s) ts (code (called (call_of p [])) ∷ s)

-- ---- what names take off the stack and put there

abbrev pub instr_takes : InstrSort → List Shape
instr_takes more_instrs = one_body ∷ []
instr_takes laid = some_words ∷ one_body ∷ []
instr_takes label_sign = a_token ∷ some_words ∷ []
instr_takes (after_op x) = a_token ∷ some_words ∷ one_body ∷ []
instr_takes operating = some_words ∷ one_body ∷ []
instr_takes (behind_op x) = a_token ∷ some_words ∷ one_body ∷ []
instr_takes hashed_word = a_token ∷ []
instr_takes value_literal = a_token ∷ []
instr_takes callee_hash = a_token ∷ []
instr_takes callee_prefix = a_token ∷ a_token ∷ []
instr_takes callee_base = a_path ∷ []
instr_takes call_behind = a_path ∷ []
instr_takes call_bare = a_path ∷ []
instr_takes _ = []

abbrev pub instr_puts : InstrSort → List Shape
instr_puts new_code = one_body ∷ []
instr_puts more_instrs = one_body ∷ []
instr_puts unlabelled = some_words ∷ []
instr_puts laid = one_body ∷ []
instr_puts label_sign = some_words ∷ []
instr_puts (after_op x) = one_body ∷ []
instr_puts operating = one_body ∷ []
instr_puts (behind_op x) = one_body ∷ []
instr_puts operand_name = a_path ∷ []
instr_puts hashed_word = a_path ∷ []
instr_puts value_literal = a_literal ∷ a_token ∷ []
instr_puts callee = a_path ∷ []
instr_puts callee_alone = a_path ∷ []
instr_puts callee_hash = a_path ∷ []
instr_puts callee_prefix = a_path ∷ []
instr_puts callee_base = a_path ∷ []
instr_puts call_behind = a_call ∷ []
instr_puts call_bare = a_call ∷ []
