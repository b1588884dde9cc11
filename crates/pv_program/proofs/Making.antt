-- What functions make, over plain variables.
use Rattle.std.proofs.Common.{◌≡◌, ℕ, zero, suc, ◌+◌, ◌<◌, ◌≤◌, List, [], ◌∷◌, ◌++◌, length, map, take, get_or, Option, Some, None, refl, sym, ap, ◌∙◌, subst, arith}
use Rattle.std.specs.Prelude.{not, slice_get, option_map, Result, Vec, Box}
use Rattle.std.specs.declared.alloc.Global.{Global}
use Rattle.std.specs.Result.{IfOk}
use Rattle.std.proofs.lemmas.Result.{IfOk-weaker}
use Rattle.std.proofs.lemmas.Option.{same_Some, slice_get_read, slice_get-map}
use Rattle.std.proofs.Math.Seq.{take-suc}
use Rattle.std.proofs.lemmas.List.{map-append}
use Rattle.std.proofs.lemmas.List.Elements.{filter-append}
use Rattle.pv_types.specs.declared.var.Var.{Var}
use Rattle.pv_types.specs.Tree.{VarTree}
use Rattle.pv_types.specs.View.{var_tree, start_of}
use Rattle.pv_types.specs.Leaves.{start_value}
use Rattle.pv_types.proofs.ForCallers.{var_seen}
use Rattle.pv_tree.specs.declared.expr.Expr.{Expr}
use Rattle.pv_tree.specs.declared.stmt.Choice as tree
use Rattle.pv_tree.specs.declared.expr.Operand.{Operand}
use Rattle.pv_tree.specs.declared.expr.Expr.TheFolds.{fold_out-Operand}
use Rattle.pv_tree.specs.Tree.{ExprTree, StepTree, OperandTree, operand, no_steps, Choices, StmtTree, StmtTrees, BlockTree}
use Rattle.pv_tree.specs.View.{expr_tree, expr_step, step_step, operand_step, operand_tree, step_tree, steps_of, stmt_tree, stmt_trees, else_of, instr_tree, body_tree}
use Rattle.pv_types.specs.declared.declaration.Literal.{Literal}
use Rattle.pv_tree.specs.declared.block.Body.{Body}
use Rattle.pv_tree.specs.declared.block.Body.TheVariants as body
use Rattle.pv_tree.specs.declared.stmt.Stmt as code_tree
use Rattle.pv_tree.specs.Scopes.{SymbolTree, ProjectTree}
use Rattle.pv_tree.specs.Callees.{CallSite, Callee, runs, not_declared, not_callable, unknown, callee_of, block_of_callee}
use Rattle.pv_mean.specs.Sources.{Source}
use Rattle.pv_mean.specs.Statements.{value_of_constant}
use Rattle.pv_mean.specs.declared.count.TheConstants.{BEYOND}
use Rattle.pv_mean.specs.Counts.{capped}
use Rattle.pv_mean.specs.Layout.{size_among, is_brief_in}
use Rattle.pv_mean.specs.Activations.{value_number, brief_count}
use Rattle.pv_mean.specs.declared.cell.Cell.{Cell}
use Rattle.pv_mean.specs.Frames.{visible_cells, is_brief}
use Rattle.pv_tree.specs.declared.instr.Instr.{Instr}
use Rattle.pv_run.specs.declared.program.Span.{Span}
use Rattle.pv_run.specs.declared.program.Body.TheVariants as flat
use Rattle.pv_run.specs.declared.program.List as code
use Rattle.pv_run.specs.declared.program.Stmt.{Stmt}
use Rattle.pv_run.specs.declared.program.Called.{Called}
use Rattle.pv_run.specs.declared.program.Code.{Code}
use Rattle.pv_run.specs.declared.program.Program.{Program}
use Rattle.pv_run.specs.Code.{IsStmt, AreStmts, no_stmt, IsBody, body_before, nothing_else, something_else, RunsBlock, RunsSo, IsCall, HasInstrs, statements_end, RunsBody, IsCode, IsProgram}
use Rattle.pv_eval.specs.Writes.{TypesOf}
use Rattle.pv_program.specs.Growth.{Coded, Extends, Stands}
use Rattle.pv_program.specs.Pairs.{Pairs}
use Rattle.pv_program.specs.Reached.{AreCodes, AreMade}
use Rattle.pv_program.specs.Made.{IsNext, IsList, IsOther}
use Rattle.pv_program.proofs.Growing.{with-blocks}
use Rattle.pv_program.proofs.Keeping.{stmt-kept, runs-body-kept, code-kept}
use Rattle.pv_program.proofs.Pairing.{pairs-map, gathered}
use Rattle.pv_program.proofs.Standing.{are-stmts}

-- ---- operands and variables

pub operand-alone : (o : Operand) → o.steps.items ≡ [] → operand_tree o ≡ operand o.root.value no_steps o.place
operand-alone o e =
    fold_out-Operand ExprTree StepTree OperandTree expr_step step_step operand_step o
    ∙ ap (λ l. operand o.root.value (steps_of (map step_tree l)) o.place) e

start-seen : (v : Var) → start_of (var_tree v) ≡ v.of.now.start
start-seen v = ap start_of (var_seen v)

pub constant-value : (v : Var) (o : Option VarTree) → Some (var_tree v) ≡ o → start_value v.of.now.start ≡ value_of_constant o
constant-value v o e = ap start_value (sym (start-seen v)) ∙ ap value_of_constant e

pub no-constant : (o : Option VarTree) → None ≡ o → value_of_constant None ≡ value_of_constant o
no-constant o e = ap value_of_constant e

-- ---- lists of statements

pub list-made : {source : Source} {block : BlockTree} {p q : Program} (xs : List code_tree.Stmt) (i : ℕ) (cs slice : List Stmt) (l : code.List)
    → Extends p q → Stands q.stmts.items l.first l.end slice → l.first ≡ length p.stmts.items → l.end ≡ length q.stmts.items
    → length xs ≤ i → slice ≡ cs → Pairs (IsNext source block p) cs (map stmt_tree (take i xs))
    → IsList source block q l (stmt_trees xs)
list-made {source} {block} {p} {q} xs i cs slice l x stands first end whole same ps =
    body_before (omega (arith, end))
    (are-stmts (length p.stmts.items) (omega (arith, first)) stands
    (pairs-map (IsNext source block p) (λ c s. IsStmt source block q (length p.stmts.items) c s) (λ c s is. stmt-kept x (omega arith) is)
    (gathered (IsNext source block p) stmt_tree xs xs i cs slice whole refl same ps)))

pub list-as : {source : Source} {block : BlockTree} {p : Program} {l : code.List} (xs ys : List code_tree.Stmt) → xs ≡ ys
    → IsList source block p l (stmt_trees xs) → IsList source block p l (stmt_trees ys)
list-as {source} {block} {p} {l} xs ys e is = subst (λ zs. IsList source block p l (stmt_trees zs)) e is

-- what stands behind ELSE, or nothing
pub other-as : (source : Source) (block : BlockTree) (p : Program) {E : Type 0} (r : Result code.List E) (o : Option (Box (Vec code_tree.Stmt Global) Global))
    (v : Box (Vec code_tree.Stmt Global) Global) (xs : List code_tree.Stmt) → o ≡ Some v → xs ≡ v.value.items → IfOk r (λ l. IsList source block p l (stmt_trees xs))
    → IfOk r (λ l. IsOther source block p l (else_of (option_map (λ w. stmt_trees w.value.items) o)))
other-as source block p r o v xs is same = IfOk-weaker r _ _ (λ l body.
    subst (λ x. IsOther source block p l (else_of (option_map (λ w. stmt_trees w.value.items) x))) (sym is)
    (something_else (list-as xs v.value.items same body)))

pub no-other : {source : Source} {block : BlockTree} {p : Program} {o : Option (Box (Vec code_tree.Stmt Global) Global)} → o ≡ None
    → IsOther source block p (record { first = 0; end = 0 }) (else_of (option_map (λ w. stmt_trees w.value.items) o))
no-other {source} {block} {p} {o} e =
    subst (λ x. IsOther source block p (record { first = 0; end = 0 }) (else_of (option_map (λ w. stmt_trees w.value.items) x))) (sym e)
    (nothing_else (body_before (omega arith) no_stmt))

-- an arm and a branch as plain data
abbrev pub arm_of : Expr × Vec code_tree.Stmt Global → ExprTree × StmtTrees
arm_of a = (expr_tree a.0, stmt_trees a.1.items)

abbrev pub branch_of : Vec (tree.Choice × Option tree.Choice) Global × Vec code_tree.Stmt Global → Choices × StmtTrees
branch_of b = (b.0.items, stmt_trees b.1.items)

-- ---- calls

pub call-running : {source : Source} {block : BlockTree} {p : Program} (k : ℕ) (call : Called) (n : ℕ) (site : CallSite) (callee : BlockTree)
    → slice_get p.calls.items k ≡ Some call → call.block ≡ Some n
    → callee_of (record { project = source.project; block = block }) site ≡ runs callee → RunsBlock source block p call site n callee
    → IsCall source block p k site
call-running {source} {block} {p} k call n site callee at number is r = record {
  call = call;
  at = at;
  runs = subst (λ o. RunsSo source block p call site o (callee_of (record { project = source.project; block = block }) site)) (sym number)
      (subst (λ c. RunsSo source block p call site (Some n) c) (sym is) r);
}

idle : (source : Source) (block : BlockTree) (p : Program) (call : Called) (site : CallSite) (callee : Callee) → block_of_callee callee ≡ None
    → RunsSo source block p call site None callee
idle source block p call site (runs b) e = cc
idle source block p call site (not_declared place) e = tt
idle source block p call site (not_callable place) e = tt
idle source block p call site unknown e = tt

pub call-idle : {source : Source} {block : BlockTree} {p : Program} (k : ℕ) (call : Called) (site : CallSite)
    → slice_get p.calls.items k ≡ Some call → call.block ≡ None
    → block_of_callee (callee_of (record { project = source.project; block = block }) site) ≡ None → IsCall source block p k site
call-idle {source} {block} {p} k call site at number e = record {
  call = call;
  at = at;
  runs = subst (λ o. RunsSo source block p call site o (callee_of (record { project = source.project; block = block }) site)) (sym number)
      (idle source block p call site (callee_of (record { project = source.project; block = block }) site) e);
}

-- what a call comes to, by a project that is the same
pub callee-seen : (project other : ProjectTree) (block : BlockTree) (site : CallSite) (c : Callee) → project ≡ other
    → c ≡ callee_of (record { project = project; block = block }) site → callee_of (record { project = other; block = block }) site ≡ c
callee-seen project other block site c same e =
    ap (λ (p : ProjectTree). callee_of (record { project = p; block = block }) site) (sym same) ∙ sym e

-- ---- cells

pub visible-grown : (xs : List Cell) (i j : ℕ) (x : Cell) → i < length xs → x ≡ get_or xs i x → j ≡ i + 1
    → map (λ c. c.ty) (visible_cells (take j xs)) ≡ map (λ c. c.ty) (visible_cells (take i xs)) ++ map (λ c. c.ty) (visible_cells (x ∷ []))
visible-grown xs i j x inside is e =
    let next : j ≡ suc i = omega (arith, e) in
    ap (λ k. map (λ c. c.ty) (visible_cells (take k xs))) next
    ∙ ap (λ l. map (λ c. c.ty) (visible_cells l)) (take-suc xs i x inside ∙ ap (λ y. take i xs ++ y ∷ []) (sym is))
    ∙ ap (map (λ c. c.ty)) (filter-append (λ c. not (is_brief c.role)) (take i xs) (x ∷ []))
    ∙ map-append (λ c. c.ty) (visible_cells (take i xs)) (visible_cells (x ∷ []))

-- ---- blocks

get-inside : {A : Type 0} (xs : List A) (i : ℕ) (a : A) → slice_get xs i ≡ Some a → i < length xs
get-inside [] i a e = cc
get-inside (x ∷ xs) zero a e = omega arith
get-inside (x ∷ xs) (suc i) a e = let rest = get-inside xs i a e in omega (arith, rest)

pub program-made : {source : Source} (p : Program) (v : Vec (Option Code) Global) → AreCodes source p v.items
    → AreMade v.items p.calls.items (length p.calls.items) → Coded v.items p.entry → TypesOf source p.types.items → source.bound ≡ p.bound
    → slice_get source.project.blocks p.entry ≡ Some source.entry → IsProgram source (record p { blocks = v })
program-made {source} p v are made entered types bound entry = record {
  types = types;
  bound = bound;
  entry = entry;
  entered = entered;
  code = λ n block c at has.
      code-kept (with-blocks p v (λ i call m there runs has. made i call (get-inside p.calls.items i call there) there m runs)) (are n block c at has);
}

value-exact-number : (n m : ℕ) → n ≡ capped m → n < BEYOND → n ≡ m
value-exact-number n m e below = omega (arith, e)

pub value-exact : (source : Source) (project : ProjectTree) (block seen : BlockTree) (n : ℕ) → project ≡ source.project → seen ≡ block
    → n ≡ capped (size_among project (is_brief_in seen) seen.vars) → n < BEYOND → n ≡ value_number source block
value-exact source project block seen n same is e below =
    value-exact-number n (size_among project (is_brief_in seen) seen.vars) e below
    ∙ ap (λ (p : ProjectTree). size_among p (is_brief_in seen) seen.vars) same
    ∙ ap (λ (b : BlockTree). size_among source.project (is_brief_in b) b.vars) is

body-runs : {source : Source} {block : BlockTree} {p : Program} {k : ℕ} {l : code.List} {trees : StmtTrees} → IsBody source block p k l trees
    → AreStmts source block p l.first l.end trees
body-runs (body_before end are) = are

pub list-within : {source : Source} {block : BlockTree} {p : Program} {l : code.List} {trees : StmtTrees} → IsList source block p l trees
    → l.end ≤ length p.stmts.items
list-within (body_before end are) = end

pub scl-runs : (source : Source) (block : BlockTree) (p : Program) (l : code.List) (b : Body) (v : Vec code_tree.Stmt Global)
    (xs : List code_tree.Stmt) → b ≡ body.Scl v → xs ≡ v.items → IsList source block p l (stmt_trees xs)
    → RunsBody source block p (flat.Statements l) (body_tree b)
scl-runs source block p l b v xs is same made =
    subst (λ x. RunsBody source block p (flat.Statements l) (body_tree x)) (sym is) (body-runs (list-as xs v.items same made))

pub stl-runs : (source : Source) (block : BlockTree) (p : Program) (s : Span) (b : Body) (v : Vec Instr Global)
    (xs : List Instr) → b ≡ body.Stl v → xs ≡ v.items → HasInstrs source block p s (map instr_tree xs)
    → RunsBody source block p (flat.Instructions s) (body_tree b)
stl-runs source block p s b v xs is same made =
    subst (λ x. RunsBody source block p (flat.Instructions s) (body_tree x)) (sym is)
    (subst (λ l. HasInstrs source block p s (map instr_tree l)) same made)

pub starts-runs : (source : Source) (block : BlockTree) (p : Program) (b : Body) (v : Vec (Operand × Literal) Global) → b ≡ body.Starts v
    → RunsBody source block p (flat.Statements (record { first = 0; end = 0 })) (body_tree b)
starts-runs source block p b v is =
    subst (λ x. RunsBody source block p (flat.Statements (record { first = 0; end = 0 })) (body_tree x)) (sym is) refl

pub code-made : {source : Source} {p q : Program} (block seen : BlockTree) (c : Code) → Extends p q → seen ≡ block
    → c.value ≡ value_number source block → (c.value ≡ value_number source seen → c.brief ≡ brief_count source seen) → c.brief ≤ q.widest
    → statements_end c.body ≤ length p.stmts.items → RunsBody source block p c.body seen.body → IsCode source q block c
code-made {source} {p} {q} block seen c x is value brief widest within body-is = record {
  brief = brief (value ∙ ap (value_number source) (sym is)) ∙ ap (brief_count source) is;
  widest = widest;
  within = omega (arith, within, x.longer);
  value = value;
  body = runs-body-kept source block c.body block.body x (subst (λ (b : BlockTree). RunsBody source block p c.body b.body) is body-is);
}

-- ---- statements

pub next-as : (source : Source) (block : BlockTree) (p : Program) {E : Type 0} (r : Result Stmt E) (s t : StmtTree) → s ≡ t
    → IfOk r (λ c. IsNext source block p c t) → IfOk r (λ c. IsNext source block p c s)
next-as source block p r s t e is = subst (λ x. IfOk r (λ c. IsNext source block p c x)) (sym e) is

pub is-next-as : {source : Source} {block : BlockTree} {p : Program} {c : Stmt} (s t : StmtTree) → s ≡ t → IsNext source block p c t
    → IsNext source block p c s
is-next-as {source} {block} {p} {c} s t e is = subst (λ x. IsNext source block p c x) (sym e) is

-- ---- projects

pub project-seen : (blocks other : List BlockTree) (symbols others : List SymbolTree) → blocks ≡ other → symbols ≡ others
    → (let p : ProjectTree = record { blocks = blocks; symbols = symbols } in p) ≡ record { blocks = other; symbols = others }
project-seen blocks other symbols others b s =
    ap (λ x. let p : ProjectTree = record { blocks = x; symbols = symbols } in p) b
    ∙ ap (λ x. let p : ProjectTree = record { blocks = other; symbols = x } in p) s

pub entered-is : {X Y : Type 0} (f : X → Y) (xs : List X) (n : ℕ) (x : X) (y : Y) → n < length xs → x ≡ get_or xs n x
    → slice_get (map f xs) n ≡ Some y → f x ≡ y
entered-is f xs n x y inside is e =
    same_Some (f x) y (ap (option_map f) (sym (slice_get_read xs (length xs) n x refl inside is)) ∙ sym (slice_get-map f xs n) ∙ e)
