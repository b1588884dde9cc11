-- Variables, fields and elements as they are laid out, each number of a cell counted up to the bound.
use Rattle.std.proofs.Common.{◌≡◌, ℕ, ◌+◌, ◌*◌, ◌<◌, ◌≤◌, ◌++◌, ℤ, List, [], ◌∷◌, Option, Bool, true, false, cond, Some, None, length, map, get_or, drop, option_map, refl, sym, ap, ◌∙◌, arith}
use Rattle.std.specs.Prelude.{◌-ℤ◌, ◌&&◌, int_le, unsigned_abs, bytes_eq}
use Rattle.std.proofs.lemmas.Bool.{true≢false}
use Rattle.std.proofs.lemmas.List.{drop_all}
use Rattle.std.proofs.Math.Path.{fun_ext}
use Rattle.std.proofs.Math.Nat.{suc-mul}
use Rattle.pv_place.specs.declared.place.Place.{Place}
use Rattle.pv_types.specs.declared.declaration.Section.{Section}
use Rattle.pv_types.specs.declared.name.Name.{Name}
use Rattle.pv_types.specs.declared.declaration.Literal.{Literal}
use Rattle.pv_types.specs.declared.declaration.Vars.{Vars}
use Rattle.pv_types.specs.Tree.{TypeTree, array, VarTree, var}
use Rattle.pv_types.specs.View.{type_tree, vars_tree, word_tree, var_trees}
use Rattle.pv_types.proofs.ForCallers.{vars_seen, vars_from, mapped_from, counted, word_in}
use Rattle.pv_tree.specs.Scopes.{ProjectTree}
use Rattle.pv_mean.specs.Layout.{size_in, size_among, laid_among, element_from}
use Rattle.pv_mean.specs.Counts.{capped}
use Rattle.pv_mean.specs.LaidOut.{capped_laid, laid_counted}
use Rattle.pv_mean.proofs.Capping.{capped_sum, capped_twice, product_of_capped}

-- ---- variables

-- counted up to the bound, a variable lies where it lies, up to the bound
pub counted_laid : (project : ProjectTree) (test : Section → Bool) (vars : List VarTree) (key : List ℕ) (first at : ℕ) → at ≡ capped first
    → laid_counted project test vars key at ≡ option_map capped_laid (laid_among project test vars key first)
counted_laid project test [] key first at e = refl
counted_laid project test (var name section ty start place ∷ more) key first at e =
    by (λ x y. counted_laid project test more key x y) (test section) (bytes_eq key name.key)
  where
    by : ((x y : ℕ) → y ≡ capped x → laid_counted project test more key y ≡ option_map capped_laid (laid_among project test more key x))
        → (t same : Bool)
        → cond t (cond same (Some (record { ty = ty; first = at })) (laid_counted project test more key (capped (at + size_in project ty))))
        (laid_counted project test more key at)
        ≡ option_map capped_laid (cond t
        (cond same (Some (record { ty = ty; first = first })) (laid_among project test more key (first + size_in project ty)))
        (laid_among project test more key first))
    by behind true true = ap (λ n. Some (record { ty = ty; first = n })) e
    by behind true false = behind (first + size_in project ty) (capped (at + size_in project ty))
        (capped_sum at first (size_in project ty) (size_in project ty) (ap capped e ∙ capped_twice first) refl)
    by behind false same = behind first at e

-- a look at the names that are declared at once, one by one
module _ (project : ProjectTree) (test : Section → Bool) (v : Vars) (xs : List (Name × Place)) (i : ℕ) (rest : List VarTree) (key : List ℕ)
    (at first : ℕ) where
  -- a variable of the part
  word_seen : (w : Name × Place) (b : Bool) → i < length xs → w ≡ get_or xs i w → test v.section ≡ true → b ≡ bytes_eq key w.0.key
      → laid_counted project test (map (word_in v) (drop i xs) ++ rest) key at
      ≡ cond b (Some (record { ty = type_tree v.ty; first = at }))
      (laid_counted project test (map (word_in v) (drop (i + 1) xs) ++ rest) key (capped (at + size_in project (type_tree v.ty))))
  word_seen w b inside is part so =
      ap (λ l. laid_counted project test (l ++ rest) key at) (mapped_from (word_in v) xs i w inside is)
      ∙ ap (λ t. cond t (cond (bytes_eq key w.0.key) (Some (record { ty = type_tree v.ty; first = at }))
      (laid_counted project test (map (word_in v) (drop (i + 1) xs) ++ rest) key (capped (at + size_in project (type_tree v.ty)))))
      (laid_counted project test (map (word_in v) (drop (i + 1) xs) ++ rest) key at)) part
      ∙ ap (λ t. cond t (Some (record { ty = type_tree v.ty; first = at }))
      (laid_counted project test (map (word_in v) (drop (i + 1) xs) ++ rest) key (capped (at + size_in project (type_tree v.ty))))) (sym so)

  whole : xs ≡ v.names.items → laid_counted project test (map (word_in v) xs ++ rest) key first ≡ laid_counted project test (vars_tree v ++ rest) key first
  whole same =
      ap (λ l. laid_counted project test (map (word_in v) l ++ rest) key first) same
      ∙ ap (λ l. laid_counted project test (l ++ rest) key first) (sym (vars_seen v))

  pub word_laid : (w : Name × Place) (b : Bool) → xs ≡ v.names.items → i < length xs → w ≡ get_or xs i w → test v.section ≡ true
      → b ≡ bytes_eq key w.0.key → b ≡ true
      → laid_counted project test (map (word_in v) (drop i xs) ++ rest) key at ≡ laid_counted project test (map (word_in v) xs ++ rest) key first
      → Some (record { ty = type_tree v.ty; first = at }) ≡ laid_counted project test (vars_tree v ++ rest) key first
  word_laid w b same inside is part so hit left =
      sym (word_seen w b inside is part so
      ∙ ap (λ t. cond t (Some (record { ty = type_tree v.ty; first = at }))
      (laid_counted project test (map (word_in v) (drop (i + 1) xs) ++ rest) key (capped (at + size_in project (type_tree v.ty))))) hit)
      ∙ left ∙ whole same

  pub word_behind : (w : Name × Place) (b : Bool) (size next : ℕ) → i < length xs → w ≡ get_or xs i w → test v.section ≡ true
      → b ≡ bytes_eq key w.0.key → b ≡ false → size ≡ capped (size_in project (type_tree v.ty)) → next ≡ capped (at + size)
      → laid_counted project test (map (word_in v) (drop i xs) ++ rest) key at ≡ laid_counted project test (map (word_in v) xs ++ rest) key first
      → laid_counted project test (map (word_in v) (drop (i + 1) xs) ++ rest) key next ≡ laid_counted project test (map (word_in v) xs ++ rest) key first
  word_behind w b size next inside is part so miss sized sum left =
      ap (λ n. laid_counted project test (map (word_in v) (drop (i + 1) xs) ++ rest) key n)
      (sum ∙ capped_sum at at size (size_in project (type_tree v.ty)) refl (ap capped sized ∙ capped_twice (size_in project (type_tree v.ty))))
      ∙ sym (word_seen w b inside is part so
      ∙ ap (λ t. cond t (Some (record { ty = type_tree v.ty; first = at }))
      (laid_counted project test (map (word_in v) (drop (i + 1) xs) ++ rest) key (capped (at + size_in project (type_tree v.ty))))) miss)
      ∙ left

  pub words_behind : xs ≡ v.names.items → length xs ≤ i
      → laid_counted project test (map (word_in v) (drop i xs) ++ rest) key at ≡ laid_counted project test (map (word_in v) xs ++ rest) key first
      → laid_counted project test rest key at ≡ laid_counted project test (vars_tree v ++ rest) key first
  words_behind same past left =
      ap (λ l. laid_counted project test (map (word_in v) l ++ rest) key at) (sym (drop_all i xs past)) ∙ left ∙ whole same

all_words : (v : Vars) (rest : List VarTree) → map (word_in v) v.names.items ++ rest ≡ vars_tree v ++ rest
all_words v rest = ap (λ l. l ++ rest) (sym (vars_seen v))

-- variables that aren't of the part are passed over
words_passed : (project : ProjectTree) (test : Section → Bool) (s : Section) (t : TypeTree) (start : Option Literal)
    (ws : List (Name × Place)) (rest : List VarTree) (key : List ℕ) (at : ℕ) → test s ≡ false
    → laid_counted project test (map (word_tree s t start) ws ++ rest) key at ≡ laid_counted project test rest key at
words_passed project test s t start [] rest key at miss = refl
words_passed project test s t start (w ∷ ws) rest key at miss =
    ap (λ b. cond b (cond (bytes_eq key w.0.key) (Some (record { ty = t; first = at }))
    (laid_counted project test (map (word_tree s t start) ws ++ rest) key (capped (at + size_in project t))))
    (laid_counted project test (map (word_tree s t start) ws ++ rest) key at)) miss
    ∙ words_passed project test s t start ws rest key at miss

pub declared_passed : (project : ProjectTree) (test : Section → Bool) (v : Vars) (rest : List VarTree) (key : List ℕ) (at : ℕ)
    → test v.section ≡ false
    → laid_counted project test rest key at ≡ laid_counted project test (vars_tree v ++ rest) key at
declared_passed project test v rest key at miss =
    sym (words_passed project test v.section (type_tree v.ty) v.start v.names.items rest key at miss)
    ∙ ap (λ l. laid_counted project test l key at) (all_words v rest)

-- ---- elements

element_at : (project : ProjectTree) (inside : Bool) (t : TypeTree) (first behind at : ℕ) → inside ≡ true → at ≡ capped (first + behind)
    → Some (record { ty = t; first = at }) ≡ option_map capped_laid (cond inside (Some (record { ty = t; first = first + behind })) None)
element_at project true t first behind at is e = ap (λ n. Some (record { ty = t; first = n })) e
element_at project false t first behind at is e = absurd (true≢false (sym is))

-- what the code finds of an element, where it lies within the bounds
pub element_counted : (project : ProjectTree) (low high i : ℤ) (t : TypeTree) (place : Place) (first at distance size behind : ℕ)
    → (int_le low i && int_le i high) ≡ true
    → distance ≡ capped (unsigned_abs (i -ℤ low)) → size ≡ capped (size_in project t) → behind ≡ capped (distance * size)
    → at ≡ capped (first + behind)
    → Some (record { ty = t; first = at }) ≡ option_map capped_laid (element_from project (array low high t place) first i)
element_counted project low high i t place first at distance size behind inside d s b a =
    element_at project (int_le low i && int_le i high) t first (unsigned_abs (i -ℤ low) * size_in project t) at inside
    (a
    ∙ capped_sum first first behind (unsigned_abs (i -ℤ low) * size_in project t) refl
    (ap capped (product_of_capped behind distance size (unsigned_abs (i -ℤ low)) (size_in project t) b d s) ∙ capped_twice _))

-- ---- how many cells variables have

lead : (b : Bool) (n m : ℕ) → cond b (n + m) m ≡ cond b n 0 + m
lead true n m = refl
lead false n m = omega arith

among_parted : (project : ProjectTree) (test : Section → Bool) (xs ys : List VarTree)
    → size_among project test (xs ++ ys) ≡ size_among project test xs + size_among project test ys
among_parted project test [] ys = omega arith
among_parted project test (var name section ty start place ∷ xs) ys =
    let rest = among_parted project test xs ys in
    let front = lead (test section) (size_in project ty) (size_among project test (xs ++ ys)) in
    let own = lead (test section) (size_in project ty) (size_among project test xs) in omega (arith, rest, front, own)

among_shared : (project : ProjectTree) (test : Section → Bool) (s : Section) (t : TypeTree) (start : Option Literal) (ws : List (Name × Place))
    → size_among project test (map (word_tree s t start) ws) ≡ length ws * cond (test s) (size_in project t) 0
among_shared project test s t start [] = omega arith
among_shared project test s t start (w ∷ ws) =
    let rest = among_shared project test s t start ws in
    let front = lead (test s) (size_in project t) (size_among project test (map (word_tree s t start) ws)) in
    omega (arith, rest, front, suc-mul (length ws) (cond (test s) (size_in project t) 0))

-- variables that are declared at once have as many cells as their type, times their number
pub among_declared : (project : ProjectTree) (test : Section → Bool) (v : Vars)
    → size_among project test (vars_tree v) ≡ length (vars_tree v) * cond (test v.section) (size_in project (type_tree v.ty)) 0
among_declared project test v =
    ap (size_among project test) (vars_seen v)
    ∙ among_shared project test v.section (type_tree v.ty) v.start v.names.items
    ∙ ap (λ n. n * cond (test v.section) (size_in project (type_tree v.ty)) 0) (sym (counted v))

pub among_from : (project : ProjectTree) (test : Section → Bool) (vars : List Vars) (i : ℕ) (v : Vars) → i < length vars → v ≡ get_or vars i v
    → size_among project test (var_trees (drop i vars))
    ≡ length (vars_tree v) * cond (test v.section) (size_in project (type_tree v.ty)) 0
    + size_among project test (var_trees (drop (i + 1) vars))
among_from project test vars i v inside is =
    ap (size_among project test) (vars_from vars i v inside is)
    ∙ among_parted project test (vars_tree v) (var_trees (drop (i + 1) vars))
    ∙ ap (λ n. n + size_among project test (var_trees (drop (i + 1) vars))) (among_declared project test v)

pub among_same : (project : ProjectTree) (test other : Section → Bool) → ((s : Section) → test s ≡ other s) → (vars : List VarTree)
    → size_among project test vars ≡ size_among project other vars
among_same project test other same vars = ap (λ t. size_among project t vars) (fun_ext same)
