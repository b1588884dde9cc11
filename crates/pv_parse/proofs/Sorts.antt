-- What the names of the grammar mean, by sort: what stands on the stack behind them, and what the tokens between then spell.
--
-- A name that makes a value puts it on the stack. One that goes on with what was read before it takes that value and puts another:
-- what it means is a function of what the first one means, so that no law asks what stood before.
use Rattle.std.proofs.Common.{◌≡◌, ℕ, false, List, [], ◌∷◌, ◌++◌}
use Rattle.std.specs.Prelude.{slice_index_or}
use Rattle.pv_place.specs.declared.place.Place.{Place}
use Rattle.pv_types.specs.declared.name.Name.{Name}
use Rattle.pv_types.specs.declared.declaration.Literal.{Literal}
use Rattle.pv_lex.specs.declared.token.Language.{Language}
use Rattle.pv_tree.specs.declared.expr.Root.{Root}
use Rattle.pv_tree.specs.declared.expr.Root.TheVariants.{Local, Named}
use Rattle.pv_tree.specs.Tree.{ExprTree, StepTree}
use Rattle.pv_tree.specs.View.{steps_of}
use Rattle.pv_tree.specs.Lexemes.{Lexeme}
use Rattle.pv_tree.specs.Words.{IsFree, SpellsWord, SpellsFirm}
use Rattle.pv_tree.specs.Literals.{SpellsLiteral}
use Rattle.pv_tree.specs.Expressions.{SpellsRoot, IsFormedRoot, SpellsSteps, AreFormedSteps}
use Rattle.pv_ll.specs.Meaning.{Meaning}
use Rattle.pv_parse.specs.Items.{ItemTree, Stack, PathTree, token, path, expr, literal}
use Rattle.pv_parse.specs.ExprDeeds.{rooted}
pub use Rattle.pv_parse.proofs.Sure.{Sure, lexemes, sure_making, Holds, IsFreeWord}
use Rattle.pv_parse.proofs.Stacks.{Tops}
use Rattle.pv_parse.proofs.DeclSorts.{DeclSort, DoesDecl, decl_takes, alone, numeral, begun, next, turned, kind, array_head, struct_head, own_head, starting, one, rest, declares, constants, section_head, const_head, sections, block_name, value_type, own_fields, data_type, dropped, data_head, data_values, data_walk, code_body, data_body, new_source, more_blocks, source}
use Rattle.pv_parse.proofs.CodeSorts.{CodeSort, DoesCode, code_takes, plain_hash, quoted_hash, numbered_hash, first_arg, given, more_args}
use Rattle.pv_parse.proofs.InstrSorts.{InstrSort, DoesInstr, instr_takes}

-- ---- sorts

pub data Sort : Type 0 where
  other : Sort  -- a name whose meaning no law needs yet
  label : Sort  -- a word, left as its token
  word : Sort  -- a word that is a name
  firm : Sort  -- a quoted or a numbered name
  root : Sort  -- an address
  field : Sort  -- a word behind `.` or `#`
  walk : Sort  -- steps
  chain : ℕ → Sort  -- an expression that holds together at least so strongly
  tail : ℕ → ℕ → Sort  -- what makes an expression of the one strength one of the other
  literal_of : Sort  -- a literal of declarations, labels and BY
  code_of : CodeSort → Sort  -- one of statements and calls
  decl_of : DeclSort → Sort  -- one of declarations and blocks
  instr_of : InstrSort → Sort  -- one of instructions

-- ---- what a name means

pub data Does : Sort → Stack → List Sure → Stack → Type 0 where
  a_label : {s : Stack} (t : Sure) → IsFreeWord t.lexeme → Does label s (t ∷ []) (token t.lexeme ∷ s)
  a_word : {s : Stack} {ts : List Sure} (n : Name) (p : Place) → SpellsWord n p (lexemes ts) → IsFree n → Does word s ts (path (rooted (Local n false p) p) ∷ s)
  a_firm : {s : Stack} {ts : List Sure} (n : Name) (p : Place) → SpellsFirm n p (lexemes ts) → IsFree n → Does firm s ts (path (rooted (Named n) p) ∷ s)
  a_root : {s : Stack} {ts : List Sure} (r : Root) (p : Place) → SpellsRoot r p (lexemes ts) → IsFormedRoot r
      → Does root s ts (path (rooted r p) ∷ s)
  a_field : {s : Stack} {ts : List Sure} (n : Name) (p : Place) → SpellsWord n p (lexemes ts) → Does field s ts (path (rooted (Local n false p) p) ∷ s)
  walks : {s : Stack} {ts : List Sure} (r : Root) (p : Place) (before new after : List StepTree) → SpellsSteps (steps_of new) (lexemes ts)
      → AreFormedSteps (steps_of new) → after ≡ before ++ new
      → Does walk (path (record { root = r; steps = before; place = p }) ∷ s) ts (path (record { root = r; steps = after; place = p }) ∷ s)
  an_expr : {s : Stack} {ts : List Sure} {l : ℕ} (e : ExprTree) → Holds l e (lexemes ts) → Does (chain l) s ts (expr e ∷ s)
  leads : {s : Stack} {ts : List Sure} {l m : ℕ} (e f : ExprTree) → ((us : List Lexeme) → Holds l e us → Holds m f (us ++ lexemes ts))
      → Does (tail l m) (expr e ∷ s) ts (expr f ∷ s)
  a_literal_of : {s : Stack} {ts : List Sure} (l : Literal) → SpellsLiteral l (lexemes ts) → Does literal_of s ts (literal l ∷ s)
  codes : {x : CodeSort} {s after : Stack} {ts : List Sure} → DoesCode x s ts after → Does (code_of x) s ts after
  decls : {x : DeclSort} {s after : Stack} {ts : List Sure} → DoesDecl x s ts after → Does (decl_of x) s ts after
  instrs : {x : InstrSort} {s after : Stack} {ts : List Sure} → DoesInstr x s ts after → Does (instr_of x) s ts after

-- ---- where a name can begin

pub data IsPath : Stack → Type 0 where
  on_path : (p : PathTree) (s : Stack) → IsPath (path p ∷ s)

pub data IsExpr : Stack → Type 0 where
  on_expr : (e : ExprTree) (s : Stack) → IsExpr (expr e ∷ s)

abbrev pub Wants : Sort → Stack → Type 0
Wants walk s = IsPath s
Wants (tail l m) s = IsExpr s
Wants (code_of x) s = Tops (code_takes x) s
Wants (decl_of x) s = Tops (decl_takes x) s
Wants (instr_of x) s = Tops (instr_takes x) s
Wants _ s = Unit {0}

-- ---- by the name's number

-- the sorts of the names of expressions and operands, in the grammar's order
abbrev pub expression_sorts : List Sort
expression_sorts =
    -- word, label_word, firm_name, field
    word ∷ label ∷ firm ∷ field ∷
    -- the chains with their tails and links
    chain 0 ∷ tail 0 0 ∷ tail 0 0 ∷ chain 1 ∷ tail 1 1 ∷ tail 1 1 ∷ chain 2 ∷ tail 2 2 ∷ tail 2 2 ∷ chain 3 ∷ tail 3 3 ∷ tail 3 3 ∷
    chain 4 ∷ tail 4 4 ∷ tail 4 4 ∷ chain 5 ∷ tail 5 5 ∷ tail 5 5 ∷ chain 6 ∷ tail 6 6 ∷ tail 6 6 ∷
    -- factor, word_read, other_factor, name_read, firm_factor, function
    chain 7 ∷ chain 7 ∷ chain 7 ∷ chain 7 ∷ chain 7 ∷ chain 7 ∷
    -- steps, step, area
    walk ∷ walk ∷ root ∷ []

-- those of blocks and declarations of the language
abbrev pub declaration_sorts : Language → List Sort
declaration_sorts l =
    -- source, new_source, blocks, block, block_name, name, value_type
    decl_of (source l) ∷ decl_of new_source ∷ decl_of (more_blocks l) ∷ decl_of (more_blocks l) ∷ decl_of block_name ∷ decl_of alone ∷ decl_of value_type ∷
    -- sections, section, section_head, const_head, constants, constant
    decl_of sections ∷ decl_of sections ∷ decl_of section_head ∷ decl_of const_head ∷ decl_of constants ∷ decl_of constants ∷
    -- declarations, first_word, declared_words, next_word, declared, type_head
    decl_of declares ∷ decl_of begun ∷ decl_of rest ∷ decl_of next ∷ decl_of one ∷ decl_of turned ∷
    -- declared_type, array_head, struct, struct_head, own_fields, own_head
    decl_of kind ∷ decl_of array_head ∷ decl_of kind ∷ decl_of struct_head ∷ decl_of own_fields ∷ decl_of own_head ∷
    -- start_value, maybe_semicolon, literal, integer
    decl_of starting ∷ decl_of dropped ∷ literal_of ∷ decl_of numeral ∷
    -- data_type, data_head, data_values, data_value, path_steps, path_step
    decl_of data_type ∷ decl_of data_head ∷ decl_of data_values ∷ decl_of data_values ∷ decl_of data_walk ∷ decl_of data_walk ∷ []

-- those of the bodies of blocks
abbrev pub body_sorts : Language → List Sort
body_sorts l = decl_of (code_body l) ∷ decl_of (data_body l) ∷ []

-- those that calls of both languages share
abbrev pub call_sorts : List Sort
call_sorts =
    -- plain_hash
    code_of plain_hash ∷
    -- quoted_hash
    code_of quoted_hash ∷
    -- numbered_hash
    code_of numbered_hash ∷
    -- first_argument
    code_of first_arg ∷
    -- argument_value
    code_of given ∷
    -- more_arguments
    code_of more_args ∷
    -- next_argument
    code_of more_args ∷
    []

abbrev pub sort_of : List Sort → ℕ → Sort
sort_of sorts n = slice_index_or sorts n other

abbrev pub meaning : List Sort → Meaning Sure ItemTree
meaning sorts = record { wants = λ n s. Wants (sort_of sorts n) s; does = λ n s ts t. Does (sort_of sorts n) s ts t }
