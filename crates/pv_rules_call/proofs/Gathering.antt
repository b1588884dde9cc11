-- The links of calls gathered along statements: those of one element more, and what is left behind the last.
use Rattle.std.proofs.Common.{◌≡◌, ℕ, ◌<◌, ◌≤◌, ◌+◌, suc, refl, sym, ap, ◌∙◌, List, [], ◌∷◌, ◌++◌, map, drop, take, get_or, length, max, arith, append_assoc}
use denote.Param.Weighed.{most, at_most}
use Rattle.std.specs.Prelude.{option_to_list}
use Rattle.std.proofs.Math.Seq.{drop-cons}
use Rattle.std.proofs.lemmas.List.Concat.{flat_map-append}
use Rattle.pv_place.specs.declared.place.Place.{Place}
use Rattle.pv_tree.specs.declared.stmt.Stmt.{Stmt, fold-roll-Stmt}
use Rattle.pv_tree.specs.declared.stmt.Stmt.TheViews as form
use Rattle.pv_tree.specs.declared.stmt.Stmt.TheVariants.{rolls-While, rolls-Repeat}
use Rattle.pv_tree.specs.declared.stmt.Stmt.TheOpen.{Stmt-F}
use Rattle.pv_tree.specs.Tree.{ExprTree, StmtTree, assign, assign_call, if_, case_, for_, while_, repeat_, exit_, continue_, return_, call_, empty_, StmtTrees, no_stmts, stmts, ArmTrees, no_arms, arms, BranchTrees, no_branches, branches, ElseTree, no_else, else_, InstrTree}
use Rattle.pv_tree.specs.View.{expr_tree, stmt_tree, stmt_step, stmt_trees}
use Rattle.pv_tree.specs.Scopes.{ProjectTree, Scope}
use Rattle.pv_tree.specs.Callees.{CallSite}
use Rattle.pv_tree.specs.Parts.{Loop, a_for, another, Spot, calls_of_stmt, calls_of_instruction, spots_of, spots_of_stmts, spots_of_arms, spots_of_branches, spots_of_else}
use Rattle.pv_names.specs.declared.entry.Entry.{Entry}
use Rattle.pv_names.specs.Entries.{block_of}
use Rattle.pv_rules_expr.proofs.ForCallers.{taken_one}
use Rattle.pv_rules_call.specs.declared.links.Links.{Links}
use Rattle.pv_rules_call.specs.Links.{link_of, links_of_sites, links_of, links_tree}
use Rattle.pv_rules_call.specs.Gathered.{calls_at, calls_of_all, with_sites, with_spots}

-- ---- forms

pub stmt-while : (cond : _) (body : _) (place : Place)
    → stmt_tree (form.While cond body place) ≡ while_ (expr_tree cond.value) (stmt_trees body.items) place
stmt-while cond body place =
    ap stmt_tree (sym (rolls-While cond body place)) ∙ fold-roll-Stmt StmtTree stmt_step (Stmt-F.While cond body place)

pub stmt-repeat : (body : _) (cond : _) (place : Place)
    → stmt_tree (form.Repeat body cond place) ≡ repeat_ (stmt_trees body.items) (expr_tree cond.value) place
stmt-repeat body cond place =
    ap stmt_tree (sym (rolls-Repeat body cond place)) ∙ fold-roll-Stmt StmtTree stmt_step (Stmt-F.Repeat body cond place)

-- ---- lists that grow

pub sites_append : (scope : Scope) (links : List (Place × ℕ)) (xs ys : List CallSite)
    → with_sites scope links (xs ++ ys) ≡ with_sites scope (with_sites scope links xs) ys
sites_append scope links xs ys =
    ap (λ l. links ++ l) (flat_map-append (λ s. option_to_list (link_of scope s)) xs ys)
    ∙ sym (append_assoc links (links_of_sites scope xs) (links_of_sites scope ys))

pub more_append : (scope : Scope) (links : List (Place × ℕ)) (xs ys : List Spot)
    → with_spots scope links (xs ++ ys) ≡ with_spots scope (with_spots scope links xs) ys
more_append scope links xs ys =
    ap (with_sites scope links) (flat_map-append (λ s. calls_of_stmt s.stmt) xs ys) ∙ sites_append scope links (calls_at xs) (calls_at ys)

pub if_begun : (scope : Scope) (loops : List Loop) (s : StmtTree) (all : ArmTrees) (other : ElseTree) (place : Place) (links : List (Place × ℕ))
    → s ≡ if_ all other place
    → with_spots scope links (spots_of_arms loops all ++ spots_of_else loops other) ≡ with_spots scope links (spots_of loops s)
if_begun scope loops s all other place links is = ap (λ t. with_spots scope links (spots_of loops t)) (sym is)

pub case_begun : (scope : Scope) (loops : List Loop) (s : StmtTree) (e : ExprTree) (all : BranchTrees) (other : ElseTree) (place : Place)
    (links : List (Place × ℕ)) → s ≡ case_ e all other place
    → with_spots scope links (spots_of_branches loops all ++ spots_of_else loops other) ≡ with_spots scope links (spots_of loops s)
case_begun scope loops s e all other place links is = ap (λ t. with_spots scope links (spots_of loops t)) (sym is)

-- a list whose spots are those of its first element and of the rest: what is left behind one more, and behind the last
module _ {X : Type 0} (scope : Scope) (one : X → List Spot) (all : List X → List Spot) (behind : List Spot) (xs : List X) where
  pub next_one : ((y : X) (ys : List X) → all (y ∷ ys) ≡ one y ++ all ys) → (i j : ℕ) (x : X) (n m total : List (Place × ℕ))
      → i < length xs → x ≡ get_or xs i x → j ≡ i + 1 → m ≡ with_spots scope n (one x)
      → with_spots scope n (all (drop i xs) ++ behind) ≡ total → with_spots scope m (all (drop j xs) ++ behind) ≡ total
  next_one parts i j x n m total inside is next looked left =
      let k : j ≡ suc i = omega (arith, next) in
      let rest = all (drop (suc i) xs) in
      ap (λ k. with_spots scope m (all (drop k xs) ++ behind)) k
      ∙ ap (λ c. with_spots scope c (rest ++ behind)) looked
      ∙ sym (more_append scope n (one x) (rest ++ behind))
      ∙ ap (with_spots scope n) (sym (append_assoc (one x) rest behind))
      ∙ ap (λ l. with_spots scope n (l ++ behind)) (sym (parts x (drop (suc i) xs)))
      ∙ ap (λ l. with_spots scope n (all l ++ behind)) (sym (drop-cons xs i x inside ∙ ap (λ y. y ∷ drop (suc i) xs) (sym is)))
      ∙ left

-- statements, one more
pub next_stmt : (scope : Scope) (loops : List Loop) (xs : List Stmt) (i j : ℕ) (x : Stmt) (n m total : List (Place × ℕ)) → i < length xs → x ≡ get_or xs i x
    → j ≡ i + 1 → m ≡ with_spots scope n (spots_of loops (stmt_tree x))
    → with_spots scope n (spots_of_stmts loops (stmt_trees (drop i xs))) ≡ total
    → with_spots scope m (spots_of_stmts loops (stmt_trees (drop j xs))) ≡ total
next_stmt scope loops xs i j x n m total inside is next looked left =
    let k : j ≡ suc i = omega (arith, next) in
    let rest = spots_of_stmts loops (stmt_trees (drop (suc i) xs)) in
    ap (λ k. with_spots scope m (spots_of_stmts loops (stmt_trees (drop k xs)))) k
    ∙ ap (λ c. with_spots scope c rest) looked
    ∙ sym (more_append scope n (spots_of loops (stmt_tree x)) rest)
    ∙ ap (λ l. with_spots scope n (spots_of_stmts loops (stmt_trees l))) (sym (drop-cons xs i x inside ∙ ap (λ y. y ∷ drop (suc i) xs) (sym is)))
    ∙ left

-- instructions, one more
pub next_instr : {X : Type 0} (scope : Scope) (g : X → InstrTree) (xs : List X) (i j : ℕ) (x : X) (n m total : List (Place × ℕ))
    → i < length xs → x ≡ get_or xs i x → j ≡ i + 1 → m ≡ with_sites scope n (calls_of_instruction (g x))
    → with_sites scope n (calls_of_all (map g (drop i xs))) ≡ total → with_sites scope m (calls_of_all (map g (drop j xs))) ≡ total
next_instr scope g xs i j x n m total inside is next looked left =
    let k : j ≡ suc i = omega (arith, next) in
    let rest = calls_of_all (map g (drop (suc i) xs)) in
    ap (λ k. with_sites scope m (calls_of_all (map g (drop k xs)))) k
    ∙ ap (λ c. with_sites scope c rest) looked
    ∙ sym (sites_append scope n (calls_of_instruction (g x)) rest)
    ∙ ap (λ l. with_sites scope n (calls_of_all (map g l))) (sym (drop-cons xs i x inside ∙ ap (λ y. y ∷ drop (suc i) xs) (sym is)))
    ∙ left

-- ---- the loops around statements change no calls

both_same : (xs ys vs ws : List Spot) → calls_at xs ≡ calls_at vs → calls_at ys ≡ calls_at ws → calls_at (xs ++ ys) ≡ calls_at (vs ++ ws)
both_same xs ys vs ws front rest =
    flat_map-append (λ s. calls_of_stmt s.stmt) xs ys ∙ ap (λ l. l ++ calls_at ys) front ∙ ap (λ l. calls_at vs ++ l) rest
    ∙ sym (flat_map-append (λ s. calls_of_stmt s.stmt) vs ws)

mutual
  same_stmt : (l m : List Loop) (s : StmtTree) → calls_at (spots_of l s) ≡ calls_at (spots_of m s)
  same_stmt l m (assign target place value) = refl
  same_stmt l m (assign_call target place call) = refl
  same_stmt l m (if_ conditions other place) =
      both_same (spots_of_arms l conditions) (spots_of_else l other) (spots_of_arms m conditions) (spots_of_else m other)
      (same_arms l m conditions) (same_else l m other)
  same_stmt l m (case_ selector choices other place) =
      both_same (spots_of_branches l choices) (spots_of_else l other) (spots_of_branches m choices) (spots_of_else m other)
      (same_branches l m choices) (same_else l m other)
  same_stmt l m (for_ name name_place first last by body place) = same_stmts (a_for name ∷ l) (a_for name ∷ m) body
  same_stmt l m (while_ condition body place) = same_stmts (another ∷ l) (another ∷ m) body
  same_stmt l m (repeat_ body condition place) = same_stmts (another ∷ l) (another ∷ m) body
  same_stmt l m (exit_ place) = refl
  same_stmt l m (continue_ place) = refl
  same_stmt l m (return_ place) = refl
  same_stmt l m (call_ call) = refl
  same_stmt l m (empty_ place) = refl

  pub same_stmts : (l m : List Loop) (s : StmtTrees) → calls_at (spots_of_stmts l s) ≡ calls_at (spots_of_stmts m s)
  same_stmts l m no_stmts = refl
  same_stmts l m (stmts s more) =
      both_same (spots_of l s) (spots_of_stmts l more) (spots_of m s) (spots_of_stmts m more) (same_stmt l m s) (same_stmts l m more)

  same_arms : (l m : List Loop) (s : ArmTrees) → calls_at (spots_of_arms l s) ≡ calls_at (spots_of_arms m s)
  same_arms l m no_arms = refl
  same_arms l m (arms condition body more) =
      both_same (spots_of_stmts l body) (spots_of_arms l more) (spots_of_stmts m body) (spots_of_arms m more)
      (same_stmts l m body) (same_arms l m more)

  same_branches : (l m : List Loop) (s : BranchTrees) → calls_at (spots_of_branches l s) ≡ calls_at (spots_of_branches m s)
  same_branches l m no_branches = refl
  same_branches l m (branches values body more) =
      both_same (spots_of_stmts l body) (spots_of_branches l more) (spots_of_stmts m body) (spots_of_branches m more)
      (same_stmts l m body) (same_branches l m more)

  same_else : (l m : List Loop) (s : ElseTree) → calls_at (spots_of_else l s) ≡ calls_at (spots_of_else m s)
  same_else l m no_else = refl
  same_else l m (else_ body) = same_stmts l m body

-- the calls of a loop's body, from what the body gives by itself
pub in_loop : (scope : Scope) (l : List Loop) (s : StmtTree) (items body : List Stmt) (old new : List (Place × ℕ))
    → new ≡ with_spots scope old (spots_of_stmts [] (stmt_trees items)) → items ≡ body
    → with_spots scope old (spots_of_stmts l (stmt_trees body)) ≡ with_spots scope old (spots_of [] s) → new ≡ with_spots scope old (spots_of [] s)
in_loop scope l s items body old new looked same is =
    looked ∙ ap (λ x. with_spots scope old (spots_of_stmts [] (stmt_trees x))) same
    ∙ ap (with_sites scope old) (same_stmts [] l (stmt_trees body)) ∙ is

-- ---- the links of all blocks

map_behind : {X Y : Type 0} (f : X → Y) (xs : List X) (x : X) → map f (xs ++ x ∷ []) ≡ map f xs ++ f x ∷ []
map_behind f [] x = refl
map_behind f (y ∷ ys) x = ap (λ l. f y ∷ l) (map_behind f ys x)

pub one_block : (project : ProjectTree) (es : List Entry) (i : ℕ) (e : Entry) (l : Links) (old new : List Links) → i < length es → e ≡ get_or es i e
    → new ≡ old ++ l ∷ [] → links_tree l ≡ links_of project (block_of e)
    → map links_tree old ≡ map (links_of project) (map block_of (take i es))
    → map links_tree new ≡ map (links_of project) (map block_of (take (i + 1) es))
one_block project es i e l old new lt is added looked before =
    ap (map links_tree) added ∙ map_behind links_tree old l ∙ ap (λ ps. map links_tree old ++ ps ∷ []) looked
    ∙ ap (λ ls. ls ++ links_of project (block_of e) ∷ []) before
    ∙ sym (ap (map (links_of project)) (taken_one block_of es i e lt is) ∙ map_behind (links_of project) (map block_of (take i es)) (block_of e))

-- ---- the measure: a branch is less deep than its CASE

pub under_most : {B X : Type 0} (size : X → ℕ) (f : B → List X) (bs : List B) (i : ℕ) (b : B) (list : List X) → i < length bs → b ≡ get_or bs i b
    → list ≡ f b → most size list ≤ most (λ y. max 0 (most size (f y))) bs
under_most size f bs i b list inside is same =
    let at = at_most (λ y. max 0 (most size (f y))) bs i b inside in
    let its : most size list ≡ most size (f (get_or bs i b)) = ap (most size) (same ∙ ap f is) in
    omega (arith, at, its)

pub case_falls : (selector : _) (bs : _) (other : _) (place : Place)
    → most (λ b. max 0 (most form.size-Stmt b.1.items)) bs.items < form.size-Stmt (form.Case selector bs other place)
case_falls selector bs other place = grind (arith, form.sized-Case selector bs other place)
