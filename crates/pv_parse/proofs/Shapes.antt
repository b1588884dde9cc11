-- What names take off the stack and put there, as shapes: a grammar's test then says that each production finds what its body wants.
use Rattle.std.proofs.Common.{ℕ, List, [], ◌∷◌, ◌++◌, refl}
use Rattle.pv_ll.specs.Shapes.{Shaping, IsTopped, Keeps}
use Rattle.pv_parse.specs.declared.action.Action.{Action}
use Rattle.pv_parse.specs.Items.{Stack}
use Rattle.pv_parse.proofs.Stacks.{Shape, a_token, a_path, an_expr, a_literal, shape_of, numbers, Tops, top_path, top_expr, asked, met}
use Rattle.pv_parse.proofs.CodeSorts.{code_takes, code_puts}
use Rattle.pv_parse.proofs.CodeShapes.{code_leaves}
use Rattle.pv_parse.proofs.DeclSorts.{decl_takes, decl_puts}
use Rattle.pv_parse.proofs.DeclShapes.{decl_leaves}
use Rattle.pv_parse.proofs.InstrSorts.{instr_takes, instr_puts}
use Rattle.pv_parse.proofs.InstrShapes.{instr_leaves}
use Rattle.pv_parse.proofs.Sorts.{Sure, Sort, other, label, word, firm, root, field, walk, chain, tail, literal_of, code_of, decl_of, instr_of, Does, a_label, a_word, a_firm, a_root, a_field, walks, an_expr as does_expr, leads, a_literal_of, codes, decls, instrs, IsPath, on_path, IsExpr, on_expr, Wants, sort_of, sure_making, meaning}

abbrev pub takes_of : Sort → List Shape
takes_of walk = a_path ∷ []
takes_of (tail l m) = an_expr ∷ []
takes_of (code_of x) = code_takes x
takes_of (decl_of x) = decl_takes x
takes_of (instr_of x) = instr_takes x
takes_of _ = []

abbrev pub puts_of : Sort → List Shape
puts_of other = []
puts_of label = a_token ∷ []
puts_of word = a_path ∷ []
puts_of firm = a_path ∷ []
puts_of root = a_path ∷ []
puts_of field = a_path ∷ []
puts_of walk = a_path ∷ []
puts_of (chain l) = an_expr ∷ []
puts_of (tail l m) = an_expr ∷ []
puts_of literal_of = a_literal ∷ []
puts_of (code_of x) = code_puts x
puts_of (decl_of x) = decl_puts x
puts_of (instr_of x) = instr_puts x

abbrev pub shaping : List Sort → Shaping
shaping sorts = record { token = 0; takes = λ n. numbers (takes_of (sort_of sorts n)); puts = λ n. numbers (puts_of (sort_of sorts n)) }

asks : (x : Sort) (s : Stack) → Wants x s → IsTopped shape_of (numbers (takes_of x)) s
asks other s w = tt
asks label s w = tt
asks word s w = tt
asks firm s w = tt
asks root s w = tt
asks field s w = tt
asks walk s (on_path p below) = (refl, tt)
asks (chain l) s w = tt
asks (tail l m) s (on_expr e below) = (refl, tt)
asks literal_of s w = tt
asks (code_of x) s w = asked w
asks (decl_of x) s w = asked w
asks (instr_of x) s w = asked w

path_topped : (s : Stack) → Tops (a_path ∷ []) s → IsPath s
path_topped s (top_path {s = below} p h) = on_path p below

expr_topped : (s : Stack) → Tops (an_expr ∷ []) s → IsExpr s
expr_topped s (top_expr {s = below} e h) = on_expr e below

meets : (x : Sort) (s : Stack) → IsTopped shape_of (numbers (takes_of x)) s → Wants x s
meets other s h = tt
meets label s h = tt
meets word s h = tt
meets firm s h = tt
meets root s h = tt
meets field s h = tt
meets walk s h = path_topped s (met (a_path ∷ []) s h)
meets (chain l) s h = tt
meets (tail l m) s h = expr_topped s (met (an_expr ∷ []) s h)
meets literal_of s h = tt
meets (code_of x) s h = met (code_takes x) s h
meets (decl_of x) s h = met (decl_takes x) s h
meets (instr_of x) s h = met (instr_takes x) s h

leaves : (x : Sort) (s behind : Stack) (ts : List Sure) (rest : List ℕ) → Does x s ts behind → IsTopped shape_of (numbers (takes_of x) ++ rest) s
    → IsTopped shape_of (numbers (puts_of x) ++ rest) behind
leaves other s behind ts rest d k = elim d [ ]
leaves label s behind ts rest (a_label t h) k = (refl, k)
leaves word s behind ts rest (a_word n p h f) k = (refl, k)
leaves firm s behind ts rest (a_firm n p h f) k = (refl, k)
leaves root s behind ts rest (a_root r p h f) k = (refl, k)
leaves field s behind ts rest (a_field n p h) k = (refl, k)
leaves walk s behind ts rest (walks r p before new after g i j) k = (refl, k.1)
leaves (chain l) s behind ts rest (does_expr e h) k = (refl, k)
leaves (tail l m) s behind ts rest (leads e f h) k = (refl, k.1)
leaves literal_of s behind ts rest (a_literal_of l h) k = (refl, k)
leaves (code_of x) s behind ts rest (codes d) k = code_leaves x s behind ts rest d k
leaves (decl_of x) s behind ts rest (decls d) k = decl_leaves x s behind ts rest d k
leaves (instr_of x) s behind ts rest (instrs d) k = instr_leaves x s behind ts rest d k

pub keeps : (sorts : List Sort) (actions : List Action) → Keeps (shaping sorts) shape_of (sure_making actions) (meaning sorts)
keeps sorts actions = record {
  token = λ t. refl;
  asks = λ n s w. asks (sort_of sorts n) s w;
  meets = λ n s h. meets (sort_of sorts n) s h;
  leaves = λ n s behind ts rest d h. leaves (sort_of sorts n) s behind ts rest d h;
}
