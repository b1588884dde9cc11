-- The shapes of what lies on the stack, by number, and stacks with some of them on top.
use Rattle.std.proofs.Common.{◌≡◌, ℕ, List, [], ◌∷◌, map, Option, refl, ap, ◌∙◌, sym, subst}
use Rattle.std.specs.Prelude.{slice_index_or}
use Rattle.pv_types.specs.declared.declaration.Literal.{Literal}
use Rattle.pv_tree.specs.declared.stmt.Choice.{Choice}
use Rattle.pv_types.specs.declared.declaration.Section.{Section}
use Rattle.pv_types.specs.Tree.{TypeTree}
use Rattle.pv_tree.specs.Tree.{PlacedName, ExprTree, ArgTree, CallPlain, Choices, StmtTree, StmtTrees, StartTree, BodyTree, BlockTree}
use Rattle.pv_tree.specs.Lexemes.{Lexeme}
use Rattle.pv_ll.specs.Shapes.{IsTopped}
use Rattle.pv_parse.specs.CodeItems.{ValueTree, ArmTree, BranchTree, CodeTree, arguments, called, value, statement, statements, conditions, otherwise, stepping, choice, choices, cases}
use Rattle.pv_parse.specs.DeclItems.{the_name, the_words, the_around, the_fields, the_type, the_start, the_bounds, the_heading, the_body, the_values, the_blocks}
use Rattle.pv_parse.specs.Items.{ItemTree, Stack, PathTree, FieldsTree, BoundsTree, HeadTree, token, path, expr, name, literal, words, around, fields, typed, start, bounds, heading, body, values, blocks, code, decl}

pub data Shape : Type 0 where
  a_token : Shape
  a_path : Shape
  an_expr : Shape
  a_literal : Shape
  some_args : Shape
  a_call : Shape
  a_value : Shape
  a_stmt : Shape
  some_stmts : Shape
  some_arms : Shape
  an_else : Shape
  a_by : Shape
  a_choice : Shape
  some_choices : Shape
  some_branches : Shape
  one_name : Shape
  some_words : Shape
  one_around : Shape
  some_fields : Shape
  one_type : Shape
  one_start : Shape
  one_bounds : Shape
  one_heading : Shape
  one_body : Shape
  some_values : Shape
  some_blocks : Shape

abbrev pub number : Shape → ℕ
number a_token = 0
number a_path = 1
number an_expr = 2
number a_literal = 3
number some_args = 4
number a_call = 5
number a_value = 6
number a_stmt = 7
number some_stmts = 8
number some_arms = 9
number an_else = 10
number a_by = 11
number a_choice = 12
number some_choices = 13
number some_branches = 14
number one_name = 15
number some_words = 16
number one_around = 17
number some_fields = 18
number one_type = 19
number one_start = 20
number one_bounds = 21
number one_heading = 22
number one_body = 23
number some_values = 24
number some_blocks = 25

-- all shapes, by their numbers
abbrev shapes : List Shape
shapes =
    a_token ∷ a_path ∷ an_expr ∷ a_literal ∷ some_args ∷ a_call ∷ a_value ∷ a_stmt ∷ some_stmts ∷ some_arms ∷ an_else ∷ a_by ∷ a_choice ∷ some_choices ∷
    some_branches ∷ one_name ∷ some_words ∷ one_around ∷ some_fields ∷ one_type ∷ one_start ∷ one_bounds ∷ one_heading ∷ one_body ∷ some_values ∷ some_blocks ∷ []

abbrev shape_numbered : ℕ → Shape
shape_numbered n = slice_index_or shapes n a_token

number_back : (x : Shape) → shape_numbered (number x) ≡ x
number_back a_token = refl
number_back a_path = refl
number_back an_expr = refl
number_back a_literal = refl
number_back some_args = refl
number_back a_call = refl
number_back a_value = refl
number_back a_stmt = refl
number_back some_stmts = refl
number_back some_arms = refl
number_back an_else = refl
number_back a_by = refl
number_back a_choice = refl
number_back some_choices = refl
number_back some_branches = refl
number_back one_name = refl
number_back some_words = refl
number_back one_around = refl
number_back some_fields = refl
number_back one_type = refl
number_back one_start = refl
number_back one_bounds = refl
number_back one_heading = refl
number_back one_body = refl
number_back some_values = refl
number_back some_blocks = refl

-- ---- the shape of an item

abbrev pub shape_of_code : CodeTree → Shape
shape_of_code (arguments x) = some_args
shape_of_code (called x) = a_call
shape_of_code (value x) = a_value
shape_of_code (statement x) = a_stmt
shape_of_code (statements x) = some_stmts
shape_of_code (conditions x) = some_arms
shape_of_code (otherwise x) = an_else
shape_of_code (stepping x) = a_by
shape_of_code (choice x) = a_choice
shape_of_code (choices x) = some_choices
shape_of_code (cases x) = some_branches

abbrev pub shape_at : ItemTree → Shape
shape_at (token t) = a_token
shape_at (path p) = a_path
shape_at (expr e) = an_expr
shape_at (literal l) = a_literal
shape_at (decl (the_name x)) = one_name
shape_at (decl (the_words x)) = some_words
shape_at (decl (the_around x)) = one_around
shape_at (decl (the_fields x)) = some_fields
shape_at (decl (the_type x)) = one_type
shape_at (decl (the_start x)) = one_start
shape_at (decl (the_bounds x)) = one_bounds
shape_at (decl (the_heading x)) = one_heading
shape_at (decl (the_body x)) = one_body
shape_at (decl (the_values x)) = some_values
shape_at (decl (the_blocks x)) = some_blocks
shape_at (code c) = shape_of_code c

abbrev pub shape_of : ItemTree → ℕ
shape_of x = number (shape_at x)

abbrev pub numbers : List Shape → List ℕ
numbers xs = map number xs

-- ---- stacks with these shapes on top

pub data Tops : List Shape → Stack → Type 0 where
  bare : {s : Stack} → Tops [] s
  top_token : {xs : List Shape} {s : Stack} (t : Lexeme) → Tops xs s → Tops (a_token ∷ xs) (token t ∷ s)
  top_path : {xs : List Shape} {s : Stack} (p : PathTree) → Tops xs s → Tops (a_path ∷ xs) (path p ∷ s)
  top_expr : {xs : List Shape} {s : Stack} (e : ExprTree) → Tops xs s → Tops (an_expr ∷ xs) (expr e ∷ s)
  top_literal : {xs : List Shape} {s : Stack} (l : Literal) → Tops xs s → Tops (a_literal ∷ xs) (literal l ∷ s)
  top_name : {xs : List Shape} {s : Stack} (x : PlacedName) → Tops xs s → Tops (one_name ∷ xs) (name x ∷ s)
  top_words : {xs : List Shape} {s : Stack} (x : List PlacedName) → Tops xs s → Tops (some_words ∷ xs) (words x ∷ s)
  top_around : {xs : List Shape} {s : Stack} (x : Section) → Tops xs s → Tops (one_around ∷ xs) (around x ∷ s)
  top_fields : {xs : List Shape} {s : Stack} (x : FieldsTree) → Tops xs s → Tops (some_fields ∷ xs) (fields x ∷ s)
  top_typed : {xs : List Shape} {s : Stack} (x : TypeTree) → Tops xs s → Tops (one_type ∷ xs) (typed x ∷ s)
  top_start : {xs : List Shape} {s : Stack} (x : Option Literal) → Tops xs s → Tops (one_start ∷ xs) (start x ∷ s)
  top_bounds : {xs : List Shape} {s : Stack} (x : BoundsTree) → Tops xs s → Tops (one_bounds ∷ xs) (bounds x ∷ s)
  top_heading : {xs : List Shape} {s : Stack} (x : HeadTree) → Tops xs s → Tops (one_heading ∷ xs) (heading x ∷ s)
  top_body : {xs : List Shape} {s : Stack} (x : BodyTree) → Tops xs s → Tops (one_body ∷ xs) (body x ∷ s)
  top_values : {xs : List Shape} {s : Stack} (x : List StartTree) → Tops xs s → Tops (some_values ∷ xs) (values x ∷ s)
  top_blocks : {xs : List Shape} {s : Stack} (x : List BlockTree) → Tops xs s → Tops (some_blocks ∷ xs) (blocks x ∷ s)
  top_args : {xs : List Shape} {s : Stack} (x : List ArgTree) → Tops xs s → Tops (some_args ∷ xs) (code (arguments x) ∷ s)
  top_call : {xs : List Shape} {s : Stack} (x : CallPlain) → Tops xs s → Tops (a_call ∷ xs) (code (called x) ∷ s)
  top_value : {xs : List Shape} {s : Stack} (x : ValueTree) → Tops xs s → Tops (a_value ∷ xs) (code (value x) ∷ s)
  top_stmt : {xs : List Shape} {s : Stack} (x : StmtTree) → Tops xs s → Tops (a_stmt ∷ xs) (code (statement x) ∷ s)
  top_stmts : {xs : List Shape} {s : Stack} (x : List StmtTree) → Tops xs s → Tops (some_stmts ∷ xs) (code (statements x) ∷ s)
  top_arms : {xs : List Shape} {s : Stack} (x : List ArmTree) → Tops xs s → Tops (some_arms ∷ xs) (code (conditions x) ∷ s)
  top_else : {xs : List Shape} {s : Stack} (x : Option StmtTrees) → Tops xs s → Tops (an_else ∷ xs) (code (otherwise x) ∷ s)
  top_by : {xs : List Shape} {s : Stack} (x : Option Literal) → Tops xs s → Tops (a_by ∷ xs) (code (stepping x) ∷ s)
  top_choice : {xs : List Shape} {s : Stack} (x : Choice) → Tops xs s → Tops (a_choice ∷ xs) (code (choice x) ∷ s)
  top_choices : {xs : List Shape} {s : Stack} (x : Choices) → Tops xs s → Tops (some_choices ∷ xs) (code (choices x) ∷ s)
  top_branches : {xs : List Shape} {s : Stack} (x : List BranchTree) → Tops xs s → Tops (some_branches ∷ xs) (code (cases x) ∷ s)

on_item : (xs : List Shape) (s : Stack) (x : ItemTree) → Tops xs s → Tops (shape_at x ∷ xs) (x ∷ s)
on_item xs s (token t) h = top_token t h
on_item xs s (path p) h = top_path p h
on_item xs s (expr e) h = top_expr e h
on_item xs s (literal l) h = top_literal l h
on_item xs s (decl (the_name x)) h = top_name x h
on_item xs s (decl (the_words x)) h = top_words x h
on_item xs s (decl (the_around x)) h = top_around x h
on_item xs s (decl (the_fields x)) h = top_fields x h
on_item xs s (decl (the_type x)) h = top_typed x h
on_item xs s (decl (the_start x)) h = top_start x h
on_item xs s (decl (the_bounds x)) h = top_bounds x h
on_item xs s (decl (the_heading x)) h = top_heading x h
on_item xs s (decl (the_body x)) h = top_body x h
on_item xs s (decl (the_values x)) h = top_values x h
on_item xs s (decl (the_blocks x)) h = top_blocks x h
on_item xs s (code (arguments x)) h = top_args x h
on_item xs s (code (called x)) h = top_call x h
on_item xs s (code (value x)) h = top_value x h
on_item xs s (code (statement x)) h = top_stmt x h
on_item xs s (code (statements x)) h = top_stmts x h
on_item xs s (code (conditions x)) h = top_arms x h
on_item xs s (code (otherwise x)) h = top_else x h
on_item xs s (code (stepping x)) h = top_by x h
on_item xs s (code (choice x)) h = top_choice x h
on_item xs s (code (choices x)) h = top_choices x h
on_item xs s (code (cases x)) h = top_branches x h

-- the shapes by their numbers, and as they are
pub asked : {xs : List Shape} {s : Stack} → Tops xs s → IsTopped shape_of (numbers xs) s
asked bare = tt
asked (top_token x h) = (refl, asked h)
asked (top_path x h) = (refl, asked h)
asked (top_expr x h) = (refl, asked h)
asked (top_literal x h) = (refl, asked h)
asked (top_name x h) = (refl, asked h)
asked (top_words x h) = (refl, asked h)
asked (top_around x h) = (refl, asked h)
asked (top_fields x h) = (refl, asked h)
asked (top_typed x h) = (refl, asked h)
asked (top_start x h) = (refl, asked h)
asked (top_bounds x h) = (refl, asked h)
asked (top_heading x h) = (refl, asked h)
asked (top_body x h) = (refl, asked h)
asked (top_values x h) = (refl, asked h)
asked (top_blocks x h) = (refl, asked h)
asked (top_args x h) = (refl, asked h)
asked (top_call x h) = (refl, asked h)
asked (top_value x h) = (refl, asked h)
asked (top_stmt x h) = (refl, asked h)
asked (top_stmts x h) = (refl, asked h)
asked (top_arms x h) = (refl, asked h)
asked (top_else x h) = (refl, asked h)
asked (top_by x h) = (refl, asked h)
asked (top_choice x h) = (refl, asked h)
asked (top_choices x h) = (refl, asked h)
asked (top_branches x h) = (refl, asked h)

pub met : (xs : List Shape) (s : Stack) → IsTopped shape_of (numbers xs) s → Tops xs s
met [] s h = bare
met (x ∷ xs) [] h = absurd h
met (x ∷ xs) (i ∷ s) h =
    let same : shape_at i ≡ x = sym (number_back (shape_at i)) ∙ ap (λ (n : ℕ). shape_numbered n) h.0 ∙ number_back x in
    subst (λ (y : Shape). Tops (y ∷ xs) (i ∷ s)) same (on_item xs s i (met xs s h.1))
