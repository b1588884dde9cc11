-- The numbers of words by the block's variables, and what is seen of the code's trees.
use Rattle.std.proofs.Math.Seq.{take-length, take-suc}
use Rattle.std.proofs.Common.{◌≡◌, ◌<◌, ◌≤◌, ◌↔◌, ◌+◌, ℕ, suc, List, [], ◌∷◌, ◌++◌, length, take, get_or, append_assoc, map, Bool, true, false, nat_eq, Option, Some, None, is_some, option_map, bytes_eq, if◌then◌else◌, true≢false, refl, ap, sym, subst, ◌∙◌, arith}
use Rattle.std.specs.Prelude.{All, unwrap_or}
use Rattle.std.specs.List.{AllByRecursion, flat_map}
use Rattle.std.proofs.lemmas.Bool.{eqb-true}
use Rattle.std.proofs.lemmas.List.{append-nil, length-map, map-append}
use Rattle.std.proofs.lemmas.List.Elements.{recursion_from_All, All-from_recursion}
use Rattle.pv_types.specs.declared.var.Var.{Var}
use Rattle.pv_types.specs.declared.declaration.Vars.{Vars}
use Rattle.pv_types.specs.declared.declaration.Section.{Section}
use Rattle.pv_types.specs.declared.declaration.Literal.{Literal}
use Rattle.pv_types.specs.declared.name.Name.{Name}
use Rattle.pv_place.specs.declared.place.Place.{Place}
use Rattle.pv_types.specs.Tree.{TypeTree, VarTree, plain}
use Rattle.pv_word.specs.declared.types.Ty.TheVariants.{Bool as BoolType}
use Rattle.pv_types.specs.View.{type_tree, name_of, var_tree, vars_tree, word_tree}
use Rattle.pv_types.proofs.ForCallers.{var_seen, vars_seen}
use Rattle.pv_tree.specs.declared.expr.Root.{Root}
use Rattle.pv_tree.specs.declared.expr.Root.TheVariants.{Local, Named, Area}
use Rattle.pv_tree.specs.declared.expr.Operand.{Operand, fold_out-Operand}
use Rattle.pv_tree.specs.declared.stmt.Stmt.{Stmt}
use Rattle.pv_tree.specs.declared.expr.Step.{Step}
use Rattle.pv_tree.specs.Tree.{ExprTree, StepTree, StepTrees, no_steps, steps as step_then, OperandTree, operand, StmtTree}
use Rattle.pv_tree.specs.View.{expr_step, step_step, operand_step, operand_tree, step_tree, steps_of, stmt_tree, stmts_of, stmt_trees}
use Rattle.pv_tree.specs.Scopes.{first_var}
use Rattle.pv_names.specs.Firsts.{first_number}
use Rattle.pv_bool_form.specs.FirstForm.{IsFirstSection, IsFirstVar, IsFirstRoot, IsFirstOperand, IsFirstStmt, AreFirstStmts}
use Rattle.pv_bool_form.specs.Numbering.{place_of_key, place_of_root}
use Rattle.pv_bool_form.specs.Programs.{assignments_of_stmt, assignments_by}

-- ---- variables

pub keys_seen : (vars : List Var) → map (λ v. v.name.now.key) vars ≡ map (λ t. (name_of t).key) (map var_tree vars)
keys_seen [] = refl
keys_seen (v ∷ vars) =
    ap (λ t. (name_of t).key ∷ map (λ u. u.name.now.key) vars) (sym (var_seen v))
    ∙ ap (λ keys. (name_of (var_tree v)).key ∷ keys) (keys_seen vars)

-- ---- numbers

none-some : (n : ℕ) → None ≡ Some n → ⊥
none-some n e = true≢false (sym (ap (λ (o : Option ℕ). is_some o) e))

some-is : (a b : ℕ) → Some a ≡ Some b → a ≡ b
some-is a b e = ap (λ (o : Option ℕ). unwrap_or o 0) e

first_within : (p : List ℕ → Bool) (keys : List (List ℕ)) (n : ℕ) → first_number p keys ≡ Some n → n < length keys
first_within p [] n is = absurd (none-some n is)
first_within p (key ∷ keys) n is = lead (p key) (first_number p keys) (λ m e. first_within p keys m e) is
  where
    lead : (b : Bool) (o : Option ℕ) → ((m : ℕ) → o ≡ Some m → m < length keys) → (if b then Some 0 else option_map (λ m. suc m) o) ≡ Some n → n < suc (length keys)
    lead true o later h = let z = some-is 0 n h in omega arith
    lead false None later h = absurd (none-some n h)
    lead false (Some m) later h = let z = some-is (suc m) n h in let lt = later m refl in omega arith

pub place_within : (vars : List VarTree) (root : Root) (n : ℕ) → place_of_root vars root ≡ Some n → n < length vars
place_within vars (Local name hash place) n is = lead hash is
  where
    lead : (h : Bool) → (if h then None else place_of_key vars name.key) ≡ Some n → n < length vars
    lead true e = absurd (none-some n e)
    lead false e = subst (λ m. n < m) (length-map vars (λ v. (name_of v).key)) (first_within (bytes_eq name.key) (map (λ v. (name_of v).key) vars) n e)
place_within vars (Named name) n is = absurd (none-some n is)
place_within vars (Area area bits byte bit) n is = absurd (none-some n is)

-- a word has a number exactly where it is declared
place_declared : (vars : List VarTree) (key : List ℕ) → is_some (place_of_key vars key) ≡ is_some (first_var vars key)
place_declared [] key = refl
place_declared (v ∷ vars) key =
    elim (bytes_eq key (name_of v).key) as (λ b. is_some (if b then Some 0 else option_map (λ n. suc n) (place_of_key vars key))
    ≡ is_some (if b then Some v else first_var vars key)) [
      | true ↦ refl
      | false ↦ mapped (place_of_key vars key) ∙ place_declared vars key
    ]
  where
    mapped : (o : Option ℕ) → is_some (option_map (λ n. suc n) o) ≡ is_some o
    mapped None = refl
    mapped (Some n) = refl

pub root_declared : (vars : List VarTree) (root : Root) → (is_some (place_of_root vars root) ≡ true) ↔ IsFirstRoot vars root
root_declared vars (Local name hash place) = lead hash
  where
    lead : (h : Bool) → (is_some (if h then None else place_of_key vars name.key) ≡ true) ↔ ((h ≡ false) × (is_some (first_var vars name.key) ≡ true))
    lead true = (λ e. absurd (true≢false (sym e)), λ e. absurd (true≢false e.0))
    lead false = (λ e. (refl, sym (place_declared vars name.key) ∙ e), λ e. place_declared vars name.key ∙ e.1)
root_declared vars (Named name) = (λ e. absurd (true≢false (sym e)), λ e. absurd e)
root_declared vars (Area area bits byte bit) = (λ e. absurd (true≢false (sym e)), λ e. absurd e)

-- ---- the code's trees

pub operand_seen : (o : Operand) → operand_tree o ≡ operand o.root.value (steps_of (map step_tree o.steps.items)) o.place
operand_seen o = fold_out-Operand ExprTree StepTree OperandTree expr_step step_step operand_step o

pub stmts_seen : (vars : List VarTree) (ss : List Stmt) → All (λ s. IsFirstStmt vars (stmt_tree s)) ss ↔ AreFirstStmts vars (stmt_trees ss)
stmts_seen vars ss = (λ all. from ss (recursion_from_All _ ss all), λ are. All-from_recursion _ ss (to ss are))
  where
    from : (xs : List Stmt) → AllByRecursion (λ s. IsFirstStmt vars (stmt_tree s)) xs → AreFirstStmts vars (stmt_trees xs)
    from [] all = tt
    from (x ∷ xs) all = (all.0, from xs all.1)

    to : (xs : List Stmt) → AreFirstStmts vars (stmt_trees xs) → AllByRecursion (λ s. IsFirstStmt vars (stmt_tree s)) xs
    to [] are = tt
    to (x ∷ xs) are = (are.0, to xs are.1)

-- no steps are none
pub steps_none : (steps : List Step) → (nat_eq (length steps) 0 ≡ true) ↔ (steps_of (map step_tree steps) ≡ no_steps)
steps_none steps = none steps
  where
    is_none : StepTrees → Bool
    is_none no_steps = true
    is_none (step_then s more) = false

    none : (ss : List Step) → (nat_eq (length ss) 0 ≡ true) ↔ (steps_of (map step_tree ss) ≡ no_steps)
    none [] = (λ e. refl, λ e. refl)
    none (s ∷ ss) = (λ e. absurd (omega (arith, eqb-true (length (s ∷ ss)) 0 e)), λ e. absurd (true≢false (sym (ap (λ m. is_none m) e))))

-- an operand is a first one where its root is and it has no steps
pub operand_is : (vars : List VarTree) (o : Operand) → IsFirstRoot vars o.root.value → steps_of (map step_tree o.steps.items) ≡ no_steps
    → IsFirstOperand vars (operand_tree o)
operand_is vars o root none = let P : OperandTree → Type 0 = λ t. IsFirstOperand vars t in subst P (sym (operand_seen o)) (root, none)

pub operand_was : (vars : List VarTree) (o : Operand) → IsFirstOperand vars (operand_tree o) → IsFirstRoot vars o.root.value × (steps_of (map step_tree o.steps.items) ≡ no_steps)
operand_was vars o is = let P : OperandTree → Type 0 = λ t. IsFirstOperand vars t in
    subst P (operand_seen o) is

-- ---- programs by the numbers of variables

-- one statement more
pub one_more : (number : OperandTree → ℕ) (xs : List StmtTree) (x : StmtTree)
    → assignments_by number (stmts_of (xs ++ x ∷ [])) ≡ assignments_by number (stmts_of xs) ++ assignments_of_stmt number x
one_more number [] x = append-nil (assignments_of_stmt number x)
one_more number (y ∷ xs) x =
    ap (λ l. assignments_of_stmt number y ++ l) (one_more number xs x)
    ∙ sym (append_assoc (assignments_of_stmt number y) (assignments_by number (stmts_of xs)) (assignments_of_stmt number x))

-- a list one longer, as a loop goes along it
pub stmts_grown : (number : OperandTree → ℕ) (xs : List Stmt) (i j : ℕ) (x : Stmt) → i < length xs → x ≡ get_or xs i x → j ≡ i + 1
    → assignments_by number (stmt_trees (take j xs)) ≡ assignments_by number (stmt_trees (take i xs)) ++ assignments_of_stmt number (stmt_tree x)
stmts_grown number xs i j x inside is e =
    let next : j ≡ suc i = omega (arith, e) in
    ap (λ l. assignments_by number (stmt_trees l)) (ap (λ n. take n xs) next ∙ take-suc xs i x inside ∙ ap (λ y. take i xs ++ y ∷ []) (sym is))
    ∙ ap (λ l. assignments_by number (stmts_of l)) (map-append stmt_tree (take i xs) (x ∷ []))
    ∙ one_more number (map stmt_tree (take i xs)) (stmt_tree x)

-- names that were all put are those of all variables
pub all_named : (vars : List Var) (i : ℕ) (key : List ℕ) (number : Option ℕ) → length vars ≤ i → i ≤ length vars
    → number ≡ first_number (bytes_eq key) (map (λ v. v.name.now.key) (take i vars)) → number ≡ place_of_key (map var_tree vars) key
all_named vars i key number least most is =
    let e : i ≡ length vars = omega (arith, least, most) in
    is ∙ ap (λ (vs : List Var). first_number (bytes_eq key) (map (λ v. v.name.now.key) vs)) (ap (λ n. take n vars) e ∙ take-length vars)
    ∙ ap (λ (keys : List (List ℕ)). first_number (bytes_eq key) keys) (keys_seen vars)

-- ---- declarations

-- what holds of all elements of some lists holds of all of those in each
pub each-joined : {X Y : Type 0} (P : Y → Type 0) (f : X → List Y) (xs : List X) → All (λ x. All P (f x)) xs ↔ All P (flat_map f xs)
each-joined P f xs = (
  λ all. All-from_recursion P (flat_map f xs) (from xs (recursion_from_All _ xs all)),
  λ all. All-from_recursion _ xs (to xs (recursion_from_All P (flat_map f xs) all)),
)
  where
    both : (ys zs : List _) → AllByRecursion P ys → AllByRecursion P zs → AllByRecursion P (ys ++ zs)
    both [] zs a c = c
    both (y ∷ ys) zs a c = (a.0, both ys zs a.1 c)

    front : (ys zs : List _) → AllByRecursion P (ys ++ zs) → AllByRecursion P ys
    front [] zs a = tt
    front (y ∷ ys) zs a = (a.0, front ys zs a.1)

    back : (ys zs : List _) → AllByRecursion P (ys ++ zs) → AllByRecursion P zs
    back [] zs a = a
    back (y ∷ ys) zs a = back ys zs a.1

    from : (ys : List _) → AllByRecursion (λ x. All P (f x)) ys → AllByRecursion P (flat_map f ys)
    from [] all = tt
    from (y ∷ ys) all = both (f y) (flat_map f ys) (recursion_from_All P (f y) all.0) (from ys all.1)

    to : (ys : List _) → AllByRecursion P (flat_map f ys) → AllByRecursion (λ x. All P (f x)) ys
    to [] all = tt
    to (y ∷ ys) all = (All-from_recursion P (f y) (front (f y) (flat_map f ys) all), to ys (back (f y) (flat_map f ys) all))

abbrev pub IsFirstDeclared : Vars → Type 0
IsFirstDeclared v = IsFirstSection v.section × (type_tree v.ty ≡ plain BoolType) × (v.start ≡ None)

words-first : (s : Section) (t : TypeTree) (start : Option Literal) (ws : List (Name × Place))
    → IsFirstSection s × (t ≡ plain BoolType) × (start ≡ None) → AllByRecursion IsFirstVar (map (word_tree s t start) ws)
words-first s t start [] is = tt
words-first s t start (w ∷ ws) is = (is, words-first s t start ws is)

-- variables that are declared at once are of the first form where the declaration is, or has no names
pub declared-first : (v : Vars) → IsFirstDeclared v → All IsFirstVar (vars_tree v)
declared-first v is =
    All-from_recursion IsFirstVar (vars_tree v)
    (subst (AllByRecursion IsFirstVar) (sym (vars_seen v)) (words-first v.section (type_tree v.ty) v.start v.names.items is))

pub nameless-first : (v : Vars) → v.names.items ≡ [] → All IsFirstVar (vars_tree v)
nameless-first v none =
    All-from_recursion IsFirstVar (vars_tree v)
    (subst (AllByRecursion IsFirstVar) (ap (map (word_tree v.section (type_tree v.ty) v.start)) (sym none) ∙ sym (vars_seen v)) tt)

pub first-declared : (v : Vars) (w : Name × Place) (ws : List (Name × Place)) → v.names.items ≡ w ∷ ws → All IsFirstVar (vars_tree v)
    → IsFirstDeclared v
first-declared v w ws some all =
    (subst (AllByRecursion IsFirstVar) (vars_seen v ∙ ap (map (word_tree v.section (type_tree v.ty) v.start)) some)
    (recursion_from_All IsFirstVar (vars_tree v) all)).0

-- so it is where there are names
pub some-first : (v : Vars) → (v.names.items ≡ [] → ⊥) → All IsFirstVar (vars_tree v) → IsFirstDeclared v
some-first v some all = by v.names.items refl
  where
    by : (ws : List (Name × Place)) → v.names.items ≡ ws → IsFirstDeclared v
    by [] none = absurd (some none)
    by (w ∷ ws) is = first-declared v w ws is all
