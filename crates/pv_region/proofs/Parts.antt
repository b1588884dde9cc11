-- Parts of a block, each of which begins at a place: how many there are, which one has a number, and that they stay where the
-- words in which they lie stay.
use Rattle.std.proofs.Common.{◌≡◌, ℕ, zero, suc, ◌+◌, ◌-◌, ◌<◌, ◌≤◌, List, [], ◌∷◌, ◌++◌, length, get_or, refl, sym, ap, subst, ◌∙◌, arith, inl, inr, Some}
use Rattle.std.specs.Prelude.{slice_get, slice_index, ◌≢◌}
use Rattle.std.specs.List.{between}
use Rattle.std.proofs.lemmas.Bool.{cases_eq}
use Rattle.std.proofs.lemmas.List.{length-append, same_lists}
use Rattle.std.proofs.lemmas.List.Edits.{length-between, get_or-between}
use Rattle.std.proofs.lemmas.Grind.{get_or_default_zero}
use Rattle.pv_region.specs.Layout.{parts_to, AreParts}

-- ---- elements by their places

pub get-left : {A : Type 0} (xs ys : List A) (n : ℕ) → n < length xs → slice_get (xs ++ ys) n ≡ slice_get xs n
get-left [] ys n lt = absurd (omega arith)
get-left (x ∷ xs) ys zero lt = refl
get-left (x ∷ xs) ys (suc n) lt = get-left xs ys n (omega arith)

pub get-right : {A : Type 0} (xs ys : List A) (n m : ℕ) → n ≡ length xs + m → slice_get (xs ++ ys) n ≡ slice_get ys m
get-right [] ys n m e = let same : n ≡ m = omega (arith, e) in ap (slice_get ys) same
get-right (x ∷ xs) ys zero m e = absurd (omega (arith, e))
get-right (x ∷ xs) ys (suc n) m e = get-right xs ys n m (omega (arith, e))

-- ---- the words from one place to another

module _ (old new : List ℕ) (size : length new ≡ length old) (a b : ℕ) (inside : b ≤ length old) (same : (i : ℕ) → a ≤ i → i < b
    → slice_index new i ≡ slice_index old i) where
  between-at : (k d : ℕ) → k < b - a → get_or (between a b new) k d ≡ get_or (between a b old) k d
  between-at k d lt =
      get_or-between new a b k d (omega arith)
      ∙ get_or_default_zero new (a + k) d (omega (arith, size))
      ∙ same (a + k) (omega arith) (omega arith)
      ∙ sym (get_or_default_zero old (a + k) d (omega arith))
      ∙ sym (get_or-between old a b k d (omega arith))

  pub between-same : between a b new ≡ between a b old
  between-same =
      let long = length-between new a b (omega (arith, size)) in
      same_lists _ _ (long ∙ sym (length-between old a b inside)) (λ k d lt. between-at k d (omega (arith, long)))

-- ---- parts

module _ {A : Type 0} (place : ℕ → ℕ) (read : ℕ → ℕ → A) where
  pub length-parts : (end k : ℕ) → length (parts_to place read end k) ≡ k
  length-parts end zero = refl
  length-parts end (suc k) =
      length-append (parts_to place read (place (suc k)) k) (read (place (suc k)) end ∷ [])
      ∙ omega (arith, length-parts (place (suc k)) k)

  -- the part with a number, which ends at `e`
  pub parts-get : (end k j e : ℕ) → 0 < j → j ≤ k → (j ≡ k → e ≡ end) → (j ≢ k → e ≡ place (j + 1))
      → slice_get (parts_to place read end k) (j - 1) ≡ Some (read (place j) e)
  parts-get end zero j e some le last next = absurd (omega arith)
  parts-get end (suc k) j e some le last next =
      let long = length-parts (place (suc k)) k in
      elim (cases_eq j (suc k)) [
        | inl is ↦ get-right (parts_to place read (place (suc k)) k) (read (place (suc k)) end ∷ []) (j - 1) 0 (omega (arith, long))
            ∙ ap (λ (i : ℕ). Some (read (place i) end)) (sym is) ∙ ap (λ (i : ℕ). Some (read (place j) i)) (sym (last is))
        | inr ne ↦ get-left (parts_to place read (place (suc k)) k) (read (place (suc k)) end ∷ []) (j - 1) (omega (arith, long, ne))
            ∙ parts-get (place (suc k)) k j e some (omega (arith, ne)) (λ is. next ne ∙ ap place (omega (arith, is))) (λ _. next ne)
      ]

module _ (place : ℕ → ℕ) (Fits : ℕ → ℕ → Type 0) (order : (a b : ℕ) → Fits a b → a ≤ b) (start : ℕ) where
  pub start-below : (end k : ℕ) → AreParts place Fits start end k → start ≤ end
  start-below end zero p = omega (arith, p)
  start-below end (suc k) p =
      let here = order (place (suc k)) end p.0 in
      let less = start-below (place (suc k)) k p.1 in
      omega (arith, here, less)

  -- a part lies within all, and fits
  pub part-inside : (end k j e : ℕ) → AreParts place Fits start end k → 0 < j → j ≤ k → (j ≡ k → e ≡ end) → (j ≢ k → e ≡ place (j + 1))
      → Fits (place j) e × (start ≤ place j) × (e ≤ end)
  part-inside end zero j e p some le last next = absurd (omega arith)
  part-inside end (suc k) j e p some le last next =
      let less = start-below (place (suc k)) k p.1 in
      let here = order (place (suc k)) end p.0 in
      elim (cases_eq j (suc k)) [
        | inl is ↦ (
          subst (λ (i : ℕ). Fits (place i) e) (sym is) (subst (Fits (place (suc k))) (sym (last is)) p.0),
          subst (λ (i : ℕ). start ≤ place i) (sym is) less,
          omega (arith, last is),
        )
        | inr ne ↦ (let inner = part-inside (place (suc k)) k j e p.1 some (omega (arith, ne)) (λ is. next ne
            ∙ ap place (omega (arith, is))) (λ _. next ne) in
            (inner.0, inner.1, omega (arith, inner.2, here)))
      ]

-- where the places and what lies between them stay, the parts do
module _ {A : Type 0} (old new : ℕ → ℕ) (before after : ℕ → ℕ → A) (Fits FitsNow : ℕ → ℕ → Type 0) (order : (a b : ℕ) → Fits a b
    → a ≤ b) (start : ℕ) where
  pub parts-same : (end k : ℕ) → ((j : ℕ) → 0 < j → j ≤ k → new j ≡ old j) → ((a b : ℕ) → start ≤ a → b ≤ end → Fits a b
      → (after a b ≡ before a b) × FitsNow a b) → AreParts old Fits start end k
      → (parts_to new after end k ≡ parts_to old before end k) × AreParts new FitsNow start end k
  parts-same end zero places reads p = (refl, p)
  parts-same end (suc k) places reads p =
      let e : new (suc k) ≡ old (suc k) = places (suc k) (omega arith) (omega arith) in
      let less : start ≤ old (suc k) = start-below old Fits order start (old (suc k)) k p.1 in
      let more : old (suc k) ≤ end = order (old (suc k)) end p.0 in
      let last = reads (old (suc k)) end less (omega arith) p.0 in
      let inner = parts-same (old (suc k)) k (λ j some le. places j some (omega arith)) (λ a b low high fits. reads a b low (omega
      (arith, high, more)) fits) p.1 in (
        ap (λ (i : ℕ). parts_to new after i k ++ after i end ∷ []) e
            ∙ ap (λ (xs : List A). xs ++ after (old (suc k)) end ∷ []) inner.0
            ∙ ap (λ (x : A). parts_to old before (old (suc k)) k ++ x ∷ []) last.0,
        subst (λ (i : ℕ). FitsNow i end × AreParts new FitsNow start i k) (sym e) (last.1, inner.1),
      )
