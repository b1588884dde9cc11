-- The first of a name among those variables that may be: where the first of the name is one of them it is that one, and where names
-- are unique there is no other.
use Rattle.std.proofs.Common.{◌≡◌, ℕ, suc, refl, sym, ap, subst, ◌∙◌, List, [], ◌∷◌, Option, Some, None, Bool, true, false, cond, map, option_map, slice_get, true≢false, ◌&&◌, is_some}
use Rattle.std.specs.Prelude.{find, unwrap_or}
use Rattle.std.proofs.lemmas.Bool.{and_parts}
use Rattle.std.proofs.lemmas.Option.{none-some, same_Some, slice_get-map}
use Rattle.std.proofs.lemmas.Slice.Eq.{bytes_eq-Decides}
use Rattle.pv_types.specs.Tree.{VarTree}
use Rattle.pv_types.specs.View.{name_of}
use Rattle.pv_tree.specs.Scopes.{has_key}
use Rattle.pv_names.specs.Unique.{HaveUniqueNames}
use Rattle.pv_names.proofs.UniqueNames.{one_number}

-- what is found stands somewhere, and passes
abbrev IsAt : (VarTree → Bool) → List VarTree → VarTree → ℕ → Type 0
IsAt p xs w n = (slice_get xs n ≡ Some w) × (p w ≡ true)

found_at : (p : VarTree → Bool) (xs : List VarTree) (w : VarTree) → find p xs ≡ Some w → (n : ℕ) × IsAt p xs w n
found_at p [] w e = absurd (none-some w e)
found_at p (x ∷ xs) w e = by (p x) refl e (found_at p xs w)
  where
    by : (b : Bool) → p x ≡ b → cond b (Some x) (find p xs) ≡ Some w → (find p xs ≡ Some w → (n : ℕ) × IsAt p xs w n)
        → (n : ℕ) × IsAt p (x ∷ xs) w n
    by true is e later = (0, (e, subst (λ (y : VarTree). p y ≡ true) (same_Some x w e) is))
    by false is e later = let at = later e in (suc at.0, (at.1.0, at.1.1))

module _ (may_be : VarTree → Bool) (key : List ℕ) where
  abbrev is_named : VarTree → Bool
  is_named v = has_key key (name_of v)

  abbrev is_sought : VarTree → Bool
  is_sought v = may_be v && is_named v

  pub none_sought : (xs : List VarTree) → find is_named xs ≡ None → find is_sought xs ≡ None
  none_sought [] e = refl
  none_sought (x ∷ xs) e = by (is_named x) (may_be x) refl e (none_sought xs)
    where
      by : (h n : Bool) → is_named x ≡ h → cond h (Some x) (find is_named xs) ≡ None
          → (find is_named xs ≡ None → find is_sought xs ≡ None)
          → cond (n && is_named x) (Some x) (find is_sought xs) ≡ None
      by true n hx e ih = absurd (true≢false (ap is_some e))
      by false true hx e ih = ap (λ b. cond b (Some x) (find is_sought xs)) hx ∙ ih e
      by false false hx e ih = ih e

  pub first_sought : (xs : List VarTree) (v : VarTree) → find is_named xs ≡ Some v → may_be v ≡ true → find is_sought xs ≡ Some v
  first_sought [] v e i = absurd (true≢false (sym (ap is_some e)))
  first_sought (x ∷ xs) v e i = by (is_named x) (may_be x) refl refl e (first_sought xs v)
    where
      by : (h n : Bool) → is_named x ≡ h → may_be x ≡ n → cond h (Some x) (find is_named xs) ≡ Some v
          → (find is_named xs ≡ Some v → may_be v ≡ true → find is_sought xs ≡ Some v)
          → cond (n && is_named x) (Some x) (find is_sought xs) ≡ Some v
      by true true hx kx e ih = ap (λ b. cond b (Some x) (find is_sought xs)) hx ∙ e
      by true false hx kx e ih = absurd (true≢false (sym i ∙ ap may_be (sym (ap (λ o. unwrap_or o x) e)) ∙ kx))
      by false true hx kx e ih = ap (λ b. cond b (Some x) (find is_sought xs)) hx ∙ ih e i
      by false false hx kx e ih = ih e i

  key_of : (xs : List VarTree) (n : ℕ) (w : VarTree) → slice_get xs n ≡ Some w → is_named w ≡ true
      → slice_get (map (λ v. (name_of v).key) xs) n ≡ Some key
  key_of xs n w at is =
      slice_get-map (λ v. (name_of v).key) xs n ∙ ap (option_map (λ v. (name_of v).key)) at
      ∙ ap Some (sym ((bytes_eq-Decides key (name_of w).key).0 is))

  same_var : (xs : List VarTree) (v w : VarTree) (m n : ℕ) → HaveUniqueNames xs → slice_get xs m ≡ Some v → is_named v ≡ true
      → slice_get xs n ≡ Some w → is_named w ≡ true → v ≡ w
  same_var xs v w m n unique at is at_w is_w =
      let one : m ≡ n = one_number (map (λ v. (name_of v).key) xs) unique m n key (key_of xs m v at is) (key_of xs n w at_w is_w) in
      same_Some v w (sym at ∙ ap (slice_get xs) one ∙ at_w)

  pub none_other : (xs : List VarTree) (v : VarTree) → HaveUniqueNames xs → find is_named xs ≡ Some v → may_be v ≡ false
      → find is_sought xs ≡ None
  none_other xs v unique first lacks = by (find is_sought xs) refl
    where
      by : (o : Option VarTree) → find is_sought xs ≡ o → find is_sought xs ≡ None
      by None is = is
      by (Some w) is =
          let a = found_at is_named xs v first in
          let b = found_at is_sought xs w is in
          let two = and_parts (may_be w) (is_named w) b.1.1 in
          absurd (true≢false (sym two.0 ∙ ap may_be (sym (same_var xs v w a.0 b.0 unique a.1.0 a.1.1 b.1.0 two.1)) ∙ lacks))

  -- what the tables find behind the first of the name
  pub behind_first : (xs : List VarTree) (v : VarTree) (unique : Bool) (o : Option VarTree) → (unique ≡ true → HaveUniqueNames xs)
      → find is_named xs ≡ Some v → may_be v ≡ false → o ≡ cond unique None (find is_sought xs) → o ≡ find is_sought xs
  behind_first xs v true o apart first lacks is = is ∙ sym (none_other xs v (apart refl) first lacks)
  behind_first xs v false o apart first lacks is = is
