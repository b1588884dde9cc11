-- Statements listed along statements: those of the code as plain data, and one element more.
use Rattle.std.proofs.Common.{◌≡◌, ℕ, ◌<◌, ◌≤◌, ◌+◌, suc, refl, sym, ap, ◌∙◌, List, [], ◌∷◌, ◌++◌, map, drop, get_or, length, arith, append_assoc}
use Rattle.std.specs.Prelude.{OnOk, Result, Ok, Err}
use Rattle.std.proofs.Math.Seq.{drop-cons}
use Rattle.std.proofs.lemmas.List.{map-append, append-nil}
use Rattle.pv_place.specs.declared.place.Place.{Place}
use Rattle.pv_tree.specs.declared.stmt.Stmt.{Stmt, size-Stmt, the_lemmas}
use Rattle.pv_tree.specs.declared.stmt.Stmt.TheViews as form
use Rattle.pv_tree.specs.Tree.{ExprTree, Choices, StmtTree, assign, assign_call, if_, case_, for_, while_, repeat_, exit_, continue_, return_, call_, empty_, StmtTrees, no_stmts, stmts, ArmTrees, no_arms, arms, BranchTrees, no_branches, branches, ElseTree, no_else, else_}
use denote.Param.Weighed.{most, at_most}
use Rattle.pv_tree.specs.View.{stmts_of, arms_of, branches_of}
use Rattle.pv_tree.specs.Parts.{Loop, a_for, another, Spot, spots_of, spots_of_stmts, spots_of_arms, spots_of_branches, spots_of_else}
use Rattle.pv_bytes.specs.Statements.{stmts_of_spots, within, listed, within_arms, within_branches, within_else}

-- ---- depth

case_deeper : (selector : _) (all : _) (other : _) (place : Place)
    → most (λ b. most size-Stmt b.1.items) all.items < size-Stmt (form.Case selector all other place)
case_deeper selector all other place = grind (arith, the_lemmas)

-- the statements of a branch are less deep than their CASE
pub branch_smaller : (s : Stmt) (selector : _) (all : _) (other : _) (place : Place) → s ≡ form.Case selector all other place
    → (xs : List _) → xs ≡ all.items → (i : ℕ) (x : _) → i < length xs → x ≡ get_or xs i x → (body : List Stmt) → body ≡ x.1.items
    → most size-Stmt body < size-Stmt s
branch_smaller s selector all other place is xs its i x inside at body of =
    let a : most size-Stmt body ≡ most size-Stmt x.1.items = ap (most size-Stmt) of in
    let e : most size-Stmt x.1.items ≡ most size-Stmt (get_or xs i x).1.items = ap (λ y. most size-Stmt y.1.items) at in
    let h : most size-Stmt (get_or xs i x).1.items ≤ most (λ b. most size-Stmt b.1.items) xs
    = at_most (λ b. most size-Stmt b.1.items) xs i x inside in
    let k : most (λ b. most size-Stmt b.1.items) xs ≡ most (λ b. most size-Stmt b.1.items) all.items = ap (most (λ b. most size-Stmt b.1.items)) its in
    let f : size-Stmt s ≡ size-Stmt (form.Case selector all other place) = ap size-Stmt is in
    let g = case_deeper selector all other place in
    omega (arith, a, e, h, k, f, g)

-- ---- what is left of a list

module _ {X : Type 0} (xs : List X) (i j : ℕ) (x : X) (n m total : List StmtTree) where
  left_of : i < length xs → x ≡ get_or xs i x → x ∷ drop (suc i) xs ≡ drop i xs
  left_of inside is = sym (drop-cons xs i x inside ∙ ap (λ y. y ∷ drop (suc i) xs) (sym is))

  pub next_stmt : (g : X → StmtTree) → i < length xs → x ≡ get_or xs i x → j ≡ i + 1 → m ≡ within (n ++ g x ∷ []) (g x)
      → listed n (stmts_of (map g (drop i xs))) ≡ total → listed m (stmts_of (map g (drop j xs))) ≡ total
  next_stmt g inside is next looked left =
      let k : j ≡ suc i = omega (arith, next) in
      ap (λ k. listed m (stmts_of (map g (drop k xs)))) k
      ∙ ap (λ c. listed c (stmts_of (map g (drop (suc i) xs)))) looked
      ∙ ap (λ l. listed n (stmts_of (map g l))) (left_of inside is)
      ∙ left

  pub next_arm : (g : X → ExprTree × StmtTrees) (other : ElseTree) → i < length xs → x ≡ get_or xs i x → j ≡ i + 1 → m ≡ listed n (g x).1
      → within_else (within_arms n (arms_of (map g (drop i xs)))) other ≡ total
      → within_else (within_arms m (arms_of (map g (drop j xs)))) other ≡ total
  next_arm g other inside is next looked left =
      let k : j ≡ suc i = omega (arith, next) in
      ap (λ k. within_else (within_arms m (arms_of (map g (drop k xs)))) other) k
      ∙ ap (λ c. within_else (within_arms c (arms_of (map g (drop (suc i) xs)))) other) looked
      ∙ ap (λ l. within_else (within_arms n (arms_of (map g l))) other) (left_of inside is)
      ∙ left

  pub next_branch : (g : X → Choices × StmtTrees) (other : ElseTree) → i < length xs → x ≡ get_or xs i x → j ≡ i + 1 → m ≡ listed n (g x).1
      → within_else (within_branches n (branches_of (map g (drop i xs)))) other ≡ total
      → within_else (within_branches m (branches_of (map g (drop j xs)))) other ≡ total
  next_branch g other inside is next looked left =
      let k : j ≡ suc i = omega (arith, next) in
      ap (λ k. within_else (within_branches m (branches_of (map g (drop k xs)))) other) k
      ∙ ap (λ c. within_else (within_branches c (branches_of (map g (drop (suc i) xs)))) other) looked
      ∙ ap (λ l. within_else (within_branches n (branches_of (map g l))) other) (left_of inside is)
      ∙ left

-- ---- they are those of the spots

none_more : (list : List StmtTree) → list ≡ list ++ []
none_more list = sym (append-nil list)

more_append : (list : List StmtTree) (xs ys : List Spot)
    → (list ++ stmts_of_spots xs) ++ stmts_of_spots ys ≡ list ++ stmts_of_spots (xs ++ ys)
more_append list xs ys =
    append_assoc list (stmts_of_spots xs) (stmts_of_spots ys) ∙ ap (λ l. list ++ l) (sym (map-append (λ s. s.stmt) xs ys))

one_more : (list : List StmtTree) (s : StmtTree) (xs ys : List StmtTree) → ((list ++ s ∷ []) ++ xs) ++ ys ≡ list ++ s ∷ (xs ++ ys)
one_more list s xs ys = append_assoc (list ++ s ∷ []) xs ys ∙ append_assoc list (s ∷ []) (xs ++ ys)

-- a statement's spots are its own and those in it
abbrev behind : List Spot → List Spot
behind [] = []
behind (spot ∷ more) = more

abbrev spots_within : List Loop → StmtTree → List Spot
spots_within loops s = behind (spots_of loops s)

own_spot : (loops : List Loop) (s : StmtTree) → stmts_of_spots (spots_of loops s) ≡ s ∷ stmts_of_spots (spots_within loops s)
own_spot loops (assign target place value) = refl
own_spot loops (assign_call target place call) = refl
own_spot loops (if_ conditions other place) = refl
own_spot loops (case_ selector choices other place) = refl
own_spot loops (for_ name name_place first last by body place) = refl
own_spot loops (while_ condition body place) = refl
own_spot loops (repeat_ body condition place) = refl
own_spot loops (exit_ place) = refl
own_spot loops (continue_ place) = refl
own_spot loops (return_ place) = refl
own_spot loops (call_ call) = refl
own_spot loops (empty_ place) = refl

mutual
  within-spots : (loops : List Loop) (list : List StmtTree) (s : StmtTree) → within list s ≡ list ++ stmts_of_spots (spots_within loops s)
  within-spots loops list (assign target place value) = none_more list
  within-spots loops list (assign_call target place call) = none_more list
  within-spots loops list (if_ conditions other place) =
      else-spots loops (within_arms list conditions) other
      ∙ ap (λ l. l ++ stmts_of_spots (spots_of_else loops other)) (arms-spots loops list conditions)
      ∙ more_append list (spots_of_arms loops conditions) (spots_of_else loops other)
  within-spots loops list (case_ selector choices other place) =
      else-spots loops (within_branches list choices) other
      ∙ ap (λ l. l ++ stmts_of_spots (spots_of_else loops other)) (branches-spots loops list choices)
      ∙ more_append list (spots_of_branches loops choices) (spots_of_else loops other)
  within-spots loops list (for_ name name_place first last by body place) = listed-spots (a_for name ∷ loops) list body
  within-spots loops list (while_ condition body place) = listed-spots (another ∷ loops) list body
  within-spots loops list (repeat_ body condition place) = listed-spots (another ∷ loops) list body
  within-spots loops list (exit_ place) = none_more list
  within-spots loops list (continue_ place) = none_more list
  within-spots loops list (return_ place) = none_more list
  within-spots loops list (call_ call) = none_more list
  within-spots loops list (empty_ place) = none_more list

  pub listed-spots : (loops : List Loop) (list : List StmtTree) (ss : StmtTrees)
      → listed list ss ≡ list ++ stmts_of_spots (spots_of_stmts loops ss)
  listed-spots loops list no_stmts = none_more list
  listed-spots loops list (stmts s more) =
      listed-spots loops (within (list ++ s ∷ []) s) more
      ∙ ap (λ l. l ++ stmts_of_spots (spots_of_stmts loops more)) (within-spots loops (list ++ s ∷ []) s)
      ∙ one_more list s (stmts_of_spots (spots_within loops s)) (stmts_of_spots (spots_of_stmts loops more))
      ∙ ap (λ l. list ++ (l ++ stmts_of_spots (spots_of_stmts loops more))) (sym (own_spot loops s))
      ∙ ap (λ l. list ++ l) (sym (map-append (λ (x : Spot). x.stmt) (spots_of loops s) (spots_of_stmts loops more)))

  arms-spots : (loops : List Loop) (list : List StmtTree) (all : ArmTrees)
      → within_arms list all ≡ list ++ stmts_of_spots (spots_of_arms loops all)
  arms-spots loops list no_arms = none_more list
  arms-spots loops list (arms condition body more) =
      arms-spots loops (listed list body) more
      ∙ ap (λ l. l ++ stmts_of_spots (spots_of_arms loops more)) (listed-spots loops list body)
      ∙ more_append list (spots_of_stmts loops body) (spots_of_arms loops more)

  branches-spots : (loops : List Loop) (list : List StmtTree) (all : BranchTrees)
      → within_branches list all ≡ list ++ stmts_of_spots (spots_of_branches loops all)
  branches-spots loops list no_branches = none_more list
  branches-spots loops list (branches values body more) =
      branches-spots loops (listed list body) more
      ∙ ap (λ l. l ++ stmts_of_spots (spots_of_branches loops more)) (listed-spots loops list body)
      ∙ more_append list (spots_of_stmts loops body) (spots_of_branches loops more)

  else-spots : (loops : List Loop) (list : List StmtTree) (other : ElseTree)
      → within_else list other ≡ list ++ stmts_of_spots (spots_of_else loops other)
  else-spots loops list no_else = none_more list
  else-spots loops list (else_ body) = listed-spots loops list body

-- ---- answers

pub on_ok : {T E : Type 0} (r : Result T E) (P Q : Type 0) → (P → Q) → OnOk r P → OnOk r Q
on_ok (Ok x) P Q f p = f p
on_ok (Err e) P Q f p = tt
