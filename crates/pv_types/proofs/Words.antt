-- Variables one by one: the first of them, and what stands behind it.
use Rattle.std.specs.Prelude.{◌≡◌, ◌<◌, ◌≤◌, ℕ, zero, suc, ◌+◌, List, [], ◌∷◌, ◌++◌, Bool, true, false, cond, find, nat_le, Some, None, map, drop, length, slice_get, Option, IfNone, refl}
use Rattle.std.proofs.Common.{ap, sym, ◌∙◌, get_or, add-one, arith, eqb, vec_len}
use Rattle.std.proofs.lemmas.Bool.{eqb-true, false≢true}
use Rattle.std.proofs.lemmas.Bool.Decides.{nat_tests}
use Rattle.std.proofs.Math.Seq.{drop-cons}
use Rattle.std.proofs.lemmas.List.{nil_from_length, length-map, append-nil, map-append, append_assoc, drop_all}
use Rattle.std.proofs.lemmas.Grind.{flat_map-append}
use Rattle.std.proofs.lemmas.Option.{none-some, same_Some, slice_get-get_or}
use Rattle.pv_types.specs.declared.declaration.Vars.{Vars}
use Rattle.pv_place.specs.declared.place.Place.{Place}
use Rattle.pv_types.specs.declared.name.Name.{Name}
use Rattle.pv_types.specs.declared.var.Var.{Var}
use Rattle.pv_types.specs.Tree.{VarTree}
use Rattle.pv_types.specs.View.{type_tree, var_tree, vars_tree, var_trees, trees_from, word_tree}
use Rattle.pv_types.proofs.Trees.{vars_seen}

module _ {A B : Type 0} (f : A → B) where
  drop_at : (xs : List A) (n : ℕ) (x : A) → slice_get xs n ≡ Some x → drop n (map f xs) ≡ f x ∷ drop (suc n) (map f xs)
  drop_at [] zero x is = absurd (none-some x is)
  drop_at [] (suc n) x is = absurd (none-some x is)
  drop_at (y ∷ ys) zero x is = ap (λ o. f o ∷ map f ys) (same_Some y x is)
  drop_at (y ∷ ys) (suc n) x is = drop_at ys n x is

  drop_past : (xs : List A) (n : ℕ) → slice_get xs n ≡ None → drop n (map f xs) ≡ []
  drop_past [] zero is = refl
  drop_past [] (suc n) is = refl
  drop_past (y ∷ ys) zero is = absurd (none-some y (sym is))
  drop_past (y ∷ ys) (suc n) is = drop_past ys n is

-- the variables from a name on begin with that of this name
pub first_named : (v : Vars) (vs all : List Vars) (n : ℕ) (w : _) → all ≡ v ∷ vs → slice_get v.names.items n ≡ Some w
    → trees_from all n ≡ word_tree v.section (type_tree v.ty) v.start w ∷ trees_from all (suc n)
first_named v vs all n w are is =
    ap (λ l. trees_from l n) are
    ∙ ap (λ l. drop n l ++ var_trees vs) (vars_seen v)
    ∙ ap (λ l. l ++ var_trees vs) (drop_at (word_tree v.section (type_tree v.ty) v.start) v.names.items n w is)
    ∙ ap (λ l. word_tree v.section (type_tree v.ty) v.start w ∷ (drop (suc n) l ++ var_trees vs)) (sym (vars_seen v))
    ∙ ap (λ l. word_tree v.section (type_tree v.ty) v.start w ∷ trees_from l (suc n)) (sym are)

-- behind the last name stand those of the other declarations
pub past_names : (v : Vars) (vs all : List Vars) (n : ℕ) → all ≡ v ∷ vs → slice_get v.names.items n ≡ None
    → trees_from all n ≡ var_trees vs
past_names v vs all n are is =
    ap (λ l. trees_from l n) are
    ∙ ap (λ l. drop n l ++ var_trees vs) (vars_seen v)
    ∙ ap (λ l. l ++ var_trees vs) (drop_past (word_tree v.section (type_tree v.ty) v.start) v.names.items n is)

-- so they do, as an element that is there, or that is none, is told
pub got_at : {A : Type 0} (xs ys : List A) (n : ℕ) (x : A) → ys ≡ xs → n < length ys → x ≡ get_or ys n x → slice_get xs n ≡ Some x
got_at xs ys n x same inside is =
    ap (λ l. slice_get l n) (sym same) ∙ slice_get-get_or ys n x inside ∙ ap (λ y. Some y) (sym is)

pub past_all : (v : Vars) (vs all : List Vars) (n : ℕ) (ws : List (Name × Place)) → all ≡ v ∷ vs → ws ≡ v.names.items → length ws ≤ n
    → trees_from all n ≡ var_trees vs
past_all v vs all n ws are same past =
    ap (λ l. trees_from l n) are
    ∙ ap (λ l. drop n l ++ var_trees vs) (vars_seen v)
    ∙ ap (λ l. l ++ var_trees vs) (drop_all n (map (word_tree v.section (type_tree v.ty) v.start) v.names.items)
    (omega (arith, past, ap length same, length-map v.names.items (word_tree v.section (type_tree v.ty) v.start))))

pub none_on : {A : Type 0} (r : Option A) {P Q : Type 0} → (P → Q) → IfNone r P → IfNone r Q
none_on None f p = f p
none_on (Some x) f p = p

-- ---- as loops go along them

-- the variables of declarations from one on are those of it and those behind it
pub vars_from : (vars : List Vars) (i : ℕ) (v : Vars) → i < length vars → v ≡ get_or vars i v
    → var_trees (drop i vars) ≡ vars_tree v ++ var_trees (drop (i + 1) vars)
vars_from vars i v inside is =
    ap var_trees (drop-cons vars i v inside)
    ∙ ap (λ w. vars_tree w ++ var_trees (drop (suc i) vars)) (sym is)
    ∙ ap (λ n. vars_tree v ++ var_trees (drop n vars)) (sym (add-one i))

-- what is made of each of some elements, from one on
pub mapped_from : {A B : Type 0} (f : A → B) (xs : List A) (i : ℕ) (x : A) → i < length xs → x ≡ get_or xs i x
    → map f (drop i xs) ≡ f x ∷ map f (drop (i + 1) xs)
mapped_from f xs i x inside is =
    ap (map f) (drop-cons xs i x inside)
    ∙ ap (λ y. f y ∷ map f (drop (suc i) xs)) (sym is)
    ∙ ap (λ n. f x ∷ map f (drop n xs)) (sym (add-one i))

-- ---- the names that are declared at once, one by one

abbrev pub word_in : Vars → Name × Place → VarTree
word_in v = word_tree v.section (type_tree v.ty) v.start

-- the first that passes a test is this one, stands behind it, or isn't there
module _ (v : Vars) (test : VarTree → Bool) (xs : List (Name × Place)) (i : ℕ) where
  pub word_found : (w : Name × Place) (r : VarTree) (b : Bool) → xs ≡ v.names.items → i < length xs → w ≡ get_or xs i w → r ≡ word_in v w
      → b ≡ test (word_in v w) → b ≡ true → find test (map (word_in v) (drop i xs)) ≡ find test (map (word_in v) xs)
      → Some r ≡ find test (vars_tree v)
  word_found w r b same inside is at so hit left =
      ap (λ x. Some x) at
      ∙ sym (ap (find test) (mapped_from (word_in v) xs i w inside is)
      ∙ ap (λ t. cond t (Some (word_in v w)) (find test (map (word_in v) (drop (i + 1) xs)))) (sym so ∙ hit))
      ∙ left ∙ ap (λ l. find test (map (word_in v) l)) same ∙ ap (find test) (sym (vars_seen v))

  pub word_passed : (w : Name × Place) (b : Bool) → i < length xs → w ≡ get_or xs i w → b ≡ test (word_in v w) → b ≡ false
      → find test (map (word_in v) (drop i xs)) ≡ find test (map (word_in v) xs)
      → find test (map (word_in v) (drop (i + 1) xs)) ≡ find test (map (word_in v) xs)
  word_passed w b inside is so miss left =
      sym (ap (find test) (mapped_from (word_in v) xs i w inside is)
      ∙ ap (λ t. cond t (Some (word_in v w)) (find test (map (word_in v) (drop (i + 1) xs)))) (sym so ∙ miss))
      ∙ left

  pub no_word : xs ≡ v.names.items → length xs ≤ i → find test (map (word_in v) (drop i xs)) ≡ find test (map (word_in v) xs)
      → None ≡ find test (vars_tree v)
  no_word same past left =
      ap (λ l. find test (map (word_in v) l)) (sym (drop_all i xs past))
      ∙ left ∙ ap (λ l. find test (map (word_in v) l)) same ∙ ap (find test) (sym (vars_seen v))

-- each is put behind others
module _ (v : Vars) (xs : List (Name × Place)) (i : ℕ) (old new : List Var) where
  pub word_pushed : (w : Name × Place) (x : Var) (total : List VarTree) → i < length xs → w ≡ get_or xs i w → new ≡ old ++ x ∷ []
      → var_tree x ≡ word_in v w → map var_tree old ++ map (word_in v) (drop i xs) ≡ total
      → map var_tree new ++ map (word_in v) (drop (i + 1) xs) ≡ total
  word_pushed w x total inside is pushed at left =
      ap (λ l. map var_tree l ++ map (word_in v) (drop (i + 1) xs)) pushed
      ∙ ap (λ l. l ++ map (word_in v) (drop (i + 1) xs)) (map-append var_tree old (x ∷ []))
      ∙ append_assoc (map var_tree old) (var_tree x ∷ []) (map (word_in v) (drop (i + 1) xs))
      ∙ ap (λ t. map var_tree old ++ (t ∷ map (word_in v) (drop (i + 1) xs))) at
      ∙ ap (λ l. map var_tree old ++ l) (sym (mapped_from (word_in v) xs i w inside is)) ∙ left

  pub words_pushed : xs ≡ v.names.items → length xs ≤ i
      → map var_tree new ++ map (word_in v) (drop i xs) ≡ map var_tree old ++ map (word_in v) xs
      → map var_tree new ≡ map var_tree old ++ vars_tree v
  words_pushed same past left =
      sym (append-nil (map var_tree new))
      ∙ ap (λ l. map var_tree new ++ map (word_in v) l) (sym (drop_all i xs past))
      ∙ left ∙ ap (λ l. map var_tree old ++ map (word_in v) l) same ∙ ap (λ l. map var_tree old ++ l) (sym (vars_seen v))

-- ---- how many there are

-- a declaration has names, or none
pub nameless : (v : Vars) (b : Bool) → b ≡ eqb (vec_len v.names) 0 → b ≡ true → v.names.items ≡ []
nameless v b is so = nil_from_length v.names.items (sym v.names.ok.0 ∙ eqb-true (vec_len v.names) 0 (sym is ∙ so))

pub has_names : (v : Vars) (b : Bool) → b ≡ eqb (vec_len v.names) 0 → b ≡ false → v.names.items ≡ [] → ⊥
has_names v b is so none = false≢true (sym so ∙ is ∙ ap (λ n. eqb n 0) (v.names.ok.0 ∙ ap length none))

pub few_enough : (n m : ℕ) → n ≤ m → true ≡ nat_le n m
few_enough n m le = grind (arith, nat_tests)

pub too_many : (n m : ℕ) → m < n → false ≡ nat_le n m
too_many n m lt = grind (arith, nat_tests)

-- as many variables as names
pub counted : (v : Vars) → length (vars_tree v) ≡ length v.names.items
counted v = ap length (vars_seen v) ∙ length-map v.names.items (word_tree v.section (type_tree v.ty) v.start)

-- a declaration more behind others
pub pushed : (vs : List Vars) (v : Vars) → var_trees (vs ++ v ∷ []) ≡ var_trees vs ++ vars_tree v
pushed vs v = flat_map-append vars_tree vs (v ∷ []) ∙ ap (λ l. var_trees vs ++ l) (append-nil (vars_tree v))

-- declarations that say the same declare the same variables
pub alike : (a b : Vars) → a.names.items ≡ b.names.items → a.section ≡ b.section → type_tree a.ty ≡ type_tree b.ty → a.start ≡ b.start
    → vars_tree a ≡ vars_tree b
alike a b names section ty start =
    vars_seen a
    ∙ ap (λ l. map (word_tree a.section (type_tree a.ty) a.start) l) names
    ∙ ap (λ s. map (word_tree s (type_tree a.ty) a.start) b.names.items) section
    ∙ ap (λ t. map (word_tree b.section t a.start) b.names.items) ty
    ∙ ap (λ o. map (word_tree b.section (type_tree b.ty) o) b.names.items) start
    ∙ sym (vars_seen b)
