-- Statements of the code as plain data, form by form, and the walk over lists of them, one element more.
use Rattle.std.proofs.Common.{◌≡◌, ℕ, ◌<◌, ◌+◌, suc, refl, sym, ap, ◌∙◌, List, [], ◌∷◌, ◌++◌, map, drop, get_or, length, arith, Option}
use Rattle.std.specs.Prelude.{option_to_list}
use Rattle.std.proofs.Math.Seq.{drop-cons}
use Rattle.pv_place.specs.declared.place.Place.{Place}
use Rattle.pv_tree.specs.declared.stmt.Choice.{Choice}
use Rattle.pv_tree.specs.declared.stmt.Stmt.{size-Stmt, fold-roll-Stmt, the_lemmas}
use Rattle.pv_tree.specs.declared.stmt.Stmt.TheOpen.{Stmt-F}
use Rattle.pv_tree.specs.declared.stmt.Stmt.TheVariants.{rolls-Call, rolls-While, rolls-Repeat}
use Rattle.pv_tree.specs.declared.stmt.Stmt.TheViews as form
use Rattle.pv_tree.specs.declared.stmt.Stmt.TheVariants as leaf
use denote.Param.Weighed.{most}
use Rattle.pv_tree.specs.Tree.{ExprTree, Choices, StmtTree, StmtTrees, if_, case_, while_, repeat_, call_, ArmTrees, BranchTrees, ElseTree}
use Rattle.pv_tree.specs.View.{call_tree, expr_tree, stmt_tree, stmt_step, stmts_of, arms_of, branches_of}
use Rattle.pv_tree.specs.Parts.{Loop, Spot, spots_of, spots_of_stmts, spots_of_arms, spots_of_branches, spots_of_else, conditions_of}
use Rattle.pv_tree.specs.Rules.MissingNames.{values_of_choices, values_of_branches}
use Rattle.pv_rules_expr.specs.Looks.{nearer_of}
use Rattle.pv_rules_expr.specs.NearestIn.{nearest_in}
use Rattle.pv_rules_code.specs.Spots.{spot}
use Rattle.pv_rules_expr.proofs.ForCallers.{in_append}

-- ---- forms

pub stmt-call : (call : _) → stmt_tree (leaf.Call call) ≡ call_ (call_tree call.value)
stmt-call call = ap stmt_tree (sym (rolls-Call call)) ∙ fold-roll-Stmt StmtTree stmt_step (Stmt-F.Call call)

pub stmt-while : (cond : _) (body : _) (place : Place) → stmt_tree (form.While cond body place)
    ≡ while_ (expr_tree cond.value) (stmts_of (map stmt_tree body.items)) place
stmt-while cond body place = ap stmt_tree (sym (rolls-While cond body place)) ∙ fold-roll-Stmt StmtTree stmt_step (Stmt-F.While cond body place)

pub stmt-repeat : (body : _) (cond : _) (place : Place) → stmt_tree (form.Repeat body cond place)
    ≡ repeat_ (stmts_of (map stmt_tree body.items)) (expr_tree cond.value) place
stmt-repeat body cond place = ap stmt_tree (sym (rolls-Repeat body cond place)) ∙ fold-roll-Stmt StmtTree stmt_step (Stmt-F.Repeat body cond place)

-- ---- conditions

pub conditions_seen : {X : Type 0} (g : X → ExprTree × StmtTrees) (xs : List X) → conditions_of (arms_of (map g xs)) ≡ map (λ x. (g x).0) xs
conditions_seen g [] = refl
conditions_seen g (x ∷ xs) = ap (λ l. (g x).0 ∷ l) (conditions_seen g xs)

-- ---- the walk

-- the statements of branches are less deep than their CASE
pub case_deeper : (selector : _) (all : _) (other : _) (place : Place)
    → most (λ b. most size-Stmt b.1.items) all.items < size-Stmt (form.Case selector all other place)
case_deeper selector all other place = grind (arith, the_lemmas)

-- a statement's own place is looked at first
begun_by : (f : Spot → Option Place) (loops : List Loop) (s t : StmtTree) (n m : Option Place) → s ≡ t → m ≡ nearer_of n (f (spot loops s))
    → m ≡ nearer_of n (f (spot loops t))
begun_by f loops s t n m is begun = begun ∙ ap (λ t. nearer_of n (f (spot loops t))) is

module _ (f : Spot → Option Place) (loops : List Loop) (s : StmtTree) (n m b r : Option Place) where
  pub if_walked : (all : ArmTrees) (other : ElseTree) (place : Place) → s ≡ if_ all other place → m ≡ nearer_of n (f (spot loops s))
      → b ≡ nearest_in f (spots_of_arms loops all) m → r ≡ nearest_in f (spots_of_else loops other) b → r ≡ nearest_in f (spots_of loops s) n
  if_walked all other place is begun armed behind = behind
      ∙ ap (nearest_in f (spots_of_else loops other)) armed
      ∙ sym (in_append f (spots_of_arms loops all) (spots_of_else loops other) m)
      ∙ ap (nearest_in f (spots_of_arms loops all ++ spots_of_else loops other)) (begun_by f loops s (if_ all other place) n m is begun)
      ∙ ap (λ t. nearest_in f (spots_of loops t) n) (sym is)

  pub case_walked : (e : ExprTree) (all : BranchTrees) (other : ElseTree) (place : Place) → s ≡ case_ e all other place
      → m ≡ nearer_of n (f (spot loops s)) → b ≡ nearest_in f (spots_of_branches loops all) m
      → r ≡ nearest_in f (spots_of_else loops other) b → r ≡ nearest_in f (spots_of loops s) n
  case_walked e all other place is begun chosen behind = behind
      ∙ ap (nearest_in f (spots_of_else loops other)) chosen
      ∙ sym (in_append f (spots_of_branches loops all) (spots_of_else loops other) m)
      ∙ ap (nearest_in f (spots_of_branches loops all ++ spots_of_else loops other)) (begun_by f loops s (case_ e all other place) n m is begun)
      ∙ ap (λ t. nearest_in f (spots_of loops t) n) (sym is)

module _ {X : Type 0} (f : Spot → Option Place) (loops : List Loop) (xs : List X) (i j : ℕ) (x : X) (n m total : Option Place) where
  pub next_stmt : (g : X → StmtTree) → i < length xs → x ≡ get_or xs i x → j ≡ i + 1 → m ≡ nearest_in f (spots_of loops (g x)) n
      → nearest_in f (spots_of_stmts loops (stmts_of (map g (drop i xs)))) n ≡ total
      → nearest_in f (spots_of_stmts loops (stmts_of (map g (drop j xs)))) m ≡ total
  next_stmt g inside is next looked left =
      let k : j ≡ suc i = omega (arith, next) in
      let rest = spots_of_stmts loops (stmts_of (map g (drop (suc i) xs))) in
      ap (λ k. nearest_in f (spots_of_stmts loops (stmts_of (map g (drop k xs)))) m) k
      ∙ ap (nearest_in f rest) looked
      ∙ sym (in_append f (spots_of loops (g x)) rest n)
      ∙ ap (λ l. nearest_in f (spots_of_stmts loops (stmts_of (map g l))) n) (sym (drop-cons xs i x inside ∙ ap (λ y. y ∷ drop (suc i) xs) (sym is)))
      ∙ left

  pub next_arm : (g : X → ExprTree × StmtTrees) → i < length xs → x ≡ get_or xs i x → j ≡ i + 1
      → m ≡ nearest_in f (spots_of_stmts loops (g x).1) n
      → nearest_in f (spots_of_arms loops (arms_of (map g (drop i xs)))) n ≡ total
      → nearest_in f (spots_of_arms loops (arms_of (map g (drop j xs)))) m ≡ total
  next_arm g inside is next looked left =
      let k : j ≡ suc i = omega (arith, next) in
      let rest = spots_of_arms loops (arms_of (map g (drop (suc i) xs))) in
      ap (λ k. nearest_in f (spots_of_arms loops (arms_of (map g (drop k xs)))) m) k
      ∙ ap (nearest_in f rest) looked
      ∙ sym (in_append f (spots_of_stmts loops (g x).1) rest n)
      ∙ ap (λ l. nearest_in f (spots_of_arms loops (arms_of (map g l))) n)
      (sym (drop-cons xs i x inside ∙ ap (λ y. y ∷ drop (suc i) xs) (sym is)))
      ∙ left

  pub next_branch : (g : X → Choices × StmtTrees) → i < length xs → x ≡ get_or xs i x → j ≡ i + 1
      → m ≡ nearest_in f (spots_of_stmts loops (g x).1) n
      → nearest_in f (spots_of_branches loops (branches_of (map g (drop i xs)))) n ≡ total
      → nearest_in f (spots_of_branches loops (branches_of (map g (drop j xs)))) m ≡ total
  next_branch g inside is next looked left =
      let k : j ≡ suc i = omega (arith, next) in
      let rest = spots_of_branches loops (branches_of (map g (drop (suc i) xs))) in
      ap (λ k. nearest_in f (spots_of_branches loops (branches_of (map g (drop k xs)))) m) k
      ∙ ap (nearest_in f rest) looked
      ∙ sym (in_append f (spots_of_stmts loops (g x).1) rest n)
      ∙ ap (λ l. nearest_in f (spots_of_branches loops (branches_of (map g l))) n)
      (sym (drop-cons xs i x inside ∙ ap (λ y. y ∷ drop (suc i) xs) (sym is)))
      ∙ left

-- ---- the values of branches

module _ (f : Choice → Option Place) (i j : ℕ) (n m total : Option Place) where
  pub next_values : {X : Type 0} (g : X → Choices × StmtTrees) (xs : List X) (x : X) → i < length xs → x ≡ get_or xs i x → j ≡ i + 1
      → m ≡ nearest_in f (values_of_choices (g x).0) n
      → nearest_in f (values_of_branches (branches_of (map g (drop i xs)))) n ≡ total
      → nearest_in f (values_of_branches (branches_of (map g (drop j xs)))) m ≡ total
  next_values g xs x inside is next looked left =
      let k : j ≡ suc i = omega (arith, next) in
      let rest = values_of_branches (branches_of (map g (drop (suc i) xs))) in
      ap (λ k. nearest_in f (values_of_branches (branches_of (map g (drop k xs)))) m) k
      ∙ ap (nearest_in f rest) looked
      ∙ sym (in_append f (values_of_choices (g x).0) rest n)
      ∙ ap (λ l. nearest_in f (values_of_branches (branches_of (map g l))) n) (sym (drop-cons xs i x inside ∙ ap (λ y. y ∷ drop (suc i) xs) (sym is)))
      ∙ left

  pub next_choice : (xs : List (Choice × Option Choice)) (x : Choice × Option Choice) → i < length xs → x ≡ get_or xs i x → j ≡ i + 1
      → m ≡ nearest_in f (x.0 ∷ option_to_list x.1) n
      → nearest_in f (values_of_choices (drop i xs)) n ≡ total → nearest_in f (values_of_choices (drop j xs)) m ≡ total
  next_choice xs x inside is next looked left =
      let k : j ≡ suc i = omega (arith, next) in
      let rest = values_of_choices (drop (suc i) xs) in
      ap (λ k. nearest_in f (values_of_choices (drop k xs)) m) k
      ∙ ap (nearest_in f rest) looked
      ∙ sym (in_append f (x.0 ∷ option_to_list x.1) rest n)
      ∙ ap (λ l. nearest_in f (values_of_choices l) n) (sym (drop-cons xs i x inside ∙ ap (λ y. y ∷ drop (suc i) xs) (sym is)))
      ∙ left
