-- Names of which none stands twice: each has its own number.
use Rattle.std.proofs.Common.{◌≡◌, ◌↔◌, ◌<◌, ◌+◌, ℕ, suc, Bool, true, false, cond, ◌&&◌, IsTrue, refl, sym, ap, subst, ◌∙◌, List, [], ◌∷◌, Option, Some, None, length, get_or, map, option_map, slice_get, bytes_eq, arith}
use Rattle.std.proofs.lemmas.Option.{same_Some, none-some, slice_get-map, slice_get_read}
use Rattle.std.proofs.lemmas.Slice.Eq.{bytes_eq-Decides}
use Rattle.std.proofs.lemmas.Bool.{and_parts}
use borrow.Author.Count.{below_more}
use Rattle.pv_types.specs.Tree.{VarTree}
use Rattle.pv_types.specs.View.{name_of}
use Rattle.pv_names.specs.Firsts.{first_number, or_number}
use Rattle.pv_names.specs.Unique.{AreUnique, HaveUniqueNames}

pub key_at : {X : Type 0} (k : X → List ℕ) (xs : List X) (i : ℕ) (x : X) → i < length xs → x ≡ get_or xs i x
    → slice_get (map k xs) i ≡ Some (k x)
key_at k xs i x inside is = slice_get-map k xs i ∙ ap (option_map k) (slice_get_read xs (length xs) i x refl inside is)

-- a name more that is found at its own number
pub one_further : (found : List ℕ → Option ℕ) (keys : List (List ℕ)) (i : ℕ) (key : List ℕ)
    → slice_get keys i ≡ Some key → found key ≡ Some i
    → ((n : ℕ) (q : List ℕ) → n < i → slice_get keys n ≡ Some q → found q ≡ Some n)
    → (n : ℕ) (q : List ℕ) → n < i + 1 → slice_get keys n ≡ Some q → found q ≡ Some n
one_further found keys i key at is before n q less here =
    below_more (λ n. (q : List ℕ) → slice_get keys n ≡ Some q → found q ≡ Some n) i (λ n l q h. before n q l h)
    (λ q h. subst (λ (r : List ℕ). found r ≡ Some i) (same_Some key q (sym at ∙ h)) is) n less q here

-- ---- a name more, and whether it is new

-- a number that is found is one of the list
pub number_within : (p : List ℕ → Bool) (keys : List (List ℕ)) (m : ℕ) → first_number p keys ≡ Some m → m < length keys
number_within p [] m is = absurd (none-some m is)
number_within p (k ∷ keys) m is = by (p k) (first_number p keys) (number_within p keys) is
  where
    by : (b : Bool) (o : Option ℕ) → ((j : ℕ) → o ≡ Some j → j < length keys) → cond b (Some 0) (option_map (λ n. suc n) o) ≡ Some m
        → m < suc (length keys)
    by true o later e = (let is : 0 ≡ m = same_Some 0 m e in omega (arith, is))
    by false None later e = absurd (none-some m e)
    by false (Some j) later e = (let is : suc j ≡ m = same_Some (suc j) m e in omega (arith, is, later j refl))

module _ (old new : List ℕ → Option ℕ) (keys : List (List ℕ)) (i : ℕ) (k : List ℕ) (at : slice_get keys i ≡ Some k)
    (pushed : (q : List ℕ) → new q ≡ or_number (old q) (bytes_eq q k) i) (below : (q : List ℕ) (m : ℕ) → old q ≡ Some m → m < i) where
  abbrev Each : (List ℕ → Option ℕ) → ℕ → Type 0
  Each found j = (n : ℕ) (q : List ℕ) → n < j → slice_get keys n ≡ Some q → found q ≡ Some n

  itself : bytes_eq k k ≡ true
  itself = (bytes_eq-Decides k k).1 refl

  stays : (n : ℕ) (q : List ℕ) → old q ≡ Some n → new q ≡ Some n
  stays n q is = pushed q ∙ ap (λ o. or_number o (bytes_eq q k) i) is

  comes : old k ≡ None → new k ≡ Some i
  comes none = pushed k ∙ ap (λ o. or_number o (bytes_eq k k) i) none ∙ ap (λ b. cond b (Some i) None) itself

  before : Each new (i + 1) → Each old i
  before each n q less here = by (old q) refl
    where
      last : (b : Bool) → or_number None b i ≡ Some n → old q ≡ Some n
      last true e = (let is : i ≡ n = same_Some i n e in absurd (omega (arith, is, less)))
      last false e = absurd (none-some n e)

      by : (o : Option ℕ) → old q ≡ o → old q ≡ Some n
      by (Some m) is = is ∙ sym (stays m q is) ∙ each n q (omega (arith, less)) here
      by None is = last (bytes_eq q k) (ap (λ o. or_number o (bytes_eq q k) i) (sym is) ∙ sym (pushed q) ∙ each n q (omega (arith, less)) here)

  lacked : Each new (i + 1) → old k ≡ None
  lacked each = by (old k) refl
    where
      by : (o : Option ℕ) → old k ≡ o → old k ≡ None
      by None is = is
      by (Some m) is =
          let same : m ≡ i = same_Some m i (sym (stays m k is) ∙ each i k (omega arith) at) in
          absurd (omega (arith, same, below k m is))

  pub one_unique : (u b : Bool) → (IsTrue b ↔ (old k ≡ None)) → (IsTrue u ↔ Each old i) → IsTrue (u && b) ↔ Each new (i + 1)
  one_unique u b is_new all = (
    λ t. let two = and_parts u b t in
        one_further new keys i k at (comes (is_new.0 two.1)) (λ n q less here. stays n q (all.0 two.0 n q less here)),
    λ each. both_are u b (all.1 (before each)) (is_new.1 (lacked each)),
  )
    where
      both_are : (u b : Bool) → IsTrue u → IsTrue b → IsTrue (u && b)
      both_are true b t f = f
      both_are false b t f = t

-- two numbers of one name are the same
pub one_number : (keys : List (List ℕ)) → AreUnique keys → (i j : ℕ) (key : List ℕ)
    → slice_get keys i ≡ Some key → slice_get keys j ≡ Some key → i ≡ j
one_number keys each i j key h k = same_Some i j (sym (each i key h) ∙ each j key k)

-- each variable is the first of its name
pub first_of_its_name : (vars : List VarTree) → HaveUniqueNames vars → (n : ℕ) (v : VarTree) → slice_get vars n ≡ Some v
    → first_number (bytes_eq (name_of v).key) (map (λ v. (name_of v).key) vars) ≡ Some n
first_of_its_name vars each n v at =
    each n (name_of v).key (slice_get-map (λ v. (name_of v).key) vars n ∙ ap (option_map (λ v. (name_of v).key)) at)

-- what a table finds of them says it of the same names elsewhere
pub told_by_table : (found : List ℕ → Option ℕ) (keys names : List (List ℕ)) (r : Bool)
    → ((key : List ℕ) → found key ≡ first_number (bytes_eq key) keys) → keys ≡ names
    → (IsTrue r ↔ ((n : ℕ) (key : List ℕ) → slice_get keys n ≡ Some key → found key ≡ Some n)) → IsTrue r ↔ AreUnique names
told_by_table found keys names r finds same told =
    subst (λ (l : List (List ℕ)). IsTrue r ↔ AreUnique l) same
    (λ t n key at. sym (finds key) ∙ told.0 t n key at, λ each. told.1 (λ n key at. finds key ∙ each n key at))
