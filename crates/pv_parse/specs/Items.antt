-- What lies on the stack while a tree is built, as plain data, and what is on top.
use Rattle.std.specs.Prelude.{◌≡◌, List, [], ◌∷◌, map, reverse, Option, Some, None, option_and_then, Result, Ok, Err, Vec}
use Rattle.std.specs.declared.alloc.Global.{Global}
use Rattle.pv_place.specs.declared.place.Place.{Place}
use Rattle.pv_lex.specs.Values.{token_value}
use Rattle.pv_types.specs.declared.name.Name.{Name}
use Rattle.pv_types.specs.declared.declaration.Literal.{Literal}
use Rattle.pv_types.specs.declared.declaration.Section.{Section}
use Rattle.pv_types.specs.Tree.{TypeTree}
use Rattle.pv_tree.specs.declared.expr.Root.{Root}
use Rattle.pv_tree.specs.declared.expr.Root.TheVariants.{Local}
use Rattle.pv_tree.specs.declared.expr.Operand.{Operand}
use Rattle.pv_tree.specs.Tree.{PlacedName, ExprTree, StepTree, StartTree, BodyTree, BlockTree}
use Rattle.pv_tree.specs.View.{expr_tree, step_tree}
use Rattle.pv_tree.specs.Lexemes.{Lexeme}
use Rattle.pv_parse.specs.CodeItems.{CodeTree, code_of}
use Rattle.pv_parse.specs.DeclItems.{DeclTree, the_name, the_words, the_around, the_fields, the_type, the_start, the_bounds, the_heading, the_body, the_values, the_blocks, decl_of}
pub use Rattle.pv_parse.specs.DeclItems.{FieldsTree, BoundsTree, HeadTree, fields_tree, bounds_tree, head_tree}
use Rattle.pv_parse.specs.declared.item.Sliced.{Sliced}
use Rattle.pv_parse.specs.declared.item.Item.{Item}
use Rattle.pv_parse.specs.declared.item.Item.TheVariants as i
use Rattle.pv_parse.specs.declared.stack.Stop.{Stop}
use Rattle.pv_parse.specs.declared.stack.Stop.TheVariants as stop

-- where an operand begins, the steps from there so far, and the place of its first token
pub record PathTree : Type 0 where
  pub root : Root
  pub steps : List StepTree
  pub place : Place

-- a thing on the stack
pub data ItemTree : Type 0 where
  token : Lexeme → ItemTree
  path : PathTree → ItemTree
  expr : ExprTree → ItemTree
  literal : Literal → ItemTree
  code : CodeTree → ItemTree
  decl : DeclTree → ItemTree

-- parts of declarations and blocks on it
abbrev pub name : PlacedName → ItemTree
name x = decl (the_name x)

abbrev pub words : List PlacedName → ItemTree
words x = decl (the_words x)

abbrev pub around : Section → ItemTree
around x = decl (the_around x)

abbrev pub fields : FieldsTree → ItemTree
fields x = decl (the_fields x)

abbrev pub typed : TypeTree → ItemTree
typed x = decl (the_type x)

abbrev pub start : Option Literal → ItemTree
start x = decl (the_start x)

abbrev pub bounds : BoundsTree → ItemTree
bounds x = decl (the_bounds x)

abbrev pub heading : HeadTree → ItemTree
heading x = decl (the_heading x)

abbrev pub body : BodyTree → ItemTree
body x = decl (the_body x)

abbrev pub values : List StartTree → ItemTree
values x = decl (the_values x)

abbrev pub blocks : List BlockTree → ItemTree
blocks x = decl (the_blocks x)

abbrev pub Stack : Type 0
Stack = List ItemTree

-- ---- the code's stack

-- a token with its bytes
abbrev pub lexeme_of_slice : Sliced → Lexeme
lexeme_of_slice s = record {
  kind = s.kind;
  bytes = s.bytes.now;
  value = token_value s.kind s.bytes.now;
  place = s.place;
}

abbrev pub path_tree : Operand → PathTree
path_tree o = record { root = o.root.value; steps = map step_tree o.steps.items; place = o.place }

abbrev pub item_of : Item → ItemTree
item_of (i.Token t) = token (lexeme_of_slice t)
item_of (i.Path o) = path (path_tree o)
item_of (i.Expr e) = expr (expr_tree e)
item_of (i.Literal l) = literal l
item_of (i.Code c) = code (code_of c)
item_of (i.Decl d) = decl (decl_of d)

-- the stack, its top first
abbrev pub stack_of : Vec Item Global → Stack
stack_of v = map item_of (reverse v.items)

-- ---- what lies on top, and what is under it

abbrev pub top_on : Stack → Option (ItemTree × Stack)
top_on [] = None
top_on (x ∷ s) = Some (x, s)

-- what is taken of the item on top
abbrev pub item_on : {A : Type 0} → (ItemTree → Option A) → Stack → Option (A × Stack)
item_on part s =
    option_and_then (λ x. option_and_then (λ found. Some (found, x.1)) (part x.0)) (top_on s)

abbrev pub token_in : ItemTree → Option Lexeme
token_in (token x) = Some x
token_in _ = None

abbrev pub token_on : Stack → Option (Lexeme × Stack)
token_on s = item_on token_in s

abbrev pub path_in : ItemTree → Option PathTree
path_in (path x) = Some x
path_in _ = None

abbrev pub path_on : Stack → Option (PathTree × Stack)
path_on s = item_on path_in s

abbrev pub expr_in : ItemTree → Option ExprTree
expr_in (expr x) = Some x
expr_in _ = None

abbrev pub expr_on : Stack → Option (ExprTree × Stack)
expr_on s = item_on expr_in s

abbrev pub literal_in : ItemTree → Option Literal
literal_in (literal x) = Some x
literal_in _ = None

abbrev pub literal_on : Stack → Option (Literal × Stack)
literal_on s = item_on literal_in s

abbrev pub code_in : ItemTree → Option CodeTree
code_in (code x) = Some x
code_in _ = None

abbrev pub code_on : Stack → Option (CodeTree × Stack)
code_on s = item_on code_in s

abbrev pub decl_in : ItemTree → Option DeclTree
decl_in (decl x) = Some x
decl_in _ = None

abbrev pub decl_on : Stack → Option (DeclTree × Stack)
decl_on s = item_on decl_in s

-- the name and the place of a word
abbrev pub word_of : Root → Option (Name × Place)
word_of (Local its hash place) = Some (its, place)
word_of _ = None

-- ---- what code answers

-- it was Mistyped, and nothing was there; or memory ran out
abbrev pub Missed : {A : Type 0} → Stop → Option A → Type 0
Missed stop.Mistyped found = found ≡ None
Missed stop.NoMemory found = Unit {0}

-- what was found, seen by the view
abbrev pub Finds : {X Y : Type 0} → (X → Y) → Result X Stop → Option Y → Type 0
Finds view (Ok x) found = found ≡ Some (view x)
Finds view (Err e) found = Missed e found

-- what was taken off the stack, and what is left there
abbrev pub Pops : {X Y S : Type 0} → (X → Y) → Result X Stop → S → Option (Y × S) → Type 0
Pops view (Ok x) left found = found ≡ Some (view x, left)
Pops view (Err e) left found = Missed e found

-- what an action leaves on the stack
abbrev pub Leaves : {S : Type 0} → Result Unit Stop → S → Option S → Type 0
Leaves (Ok _) left found = found ≡ Some left
Leaves (Err e) left found = Missed e found
