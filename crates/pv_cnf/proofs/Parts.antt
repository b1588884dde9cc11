-- The parts of a list by the places of their ends.
-- Lists of lists in two vectors: a plain function cuts the one list at the places of the other (`parts_from`), with the places as
-- a recursion (`LeadTo`). Push, length and element then are one induction each, here, and the code's answers only cite them.
-- Behind an `impl Model` write `rw (← c.self.view_is)` first, and get the length of the view by `ap (λ (f : Cnf). length
-- f.clauses) c.self.view_is`. A slice range whose bounds come from a lemma: bind the lemma's fact by `let` and answer each
-- `slice_bounds-..` goal with `search rules`.
use Rattle.std.proofs.Common.{◌≡◌, ℕ, ◌<◌, ◌≤◌, List, [], ◌∷◌, ◌++◌, length, slice_index, slice_get, Some, refl, ap, ◌∙◌, arith, zero, suc}
use Rattle.std.specs.List.{between}
use Rattle.std.proofs.lemmas.Grind.{common_steps}
use Rattle.pv_cnf.specs.Layout.{parts_from, LeadTo}

pub length-parts_from : (start : ℕ) (ends xs : List ℕ) → length (parts_from start ends xs) ≡ length ends
length-parts_from start [] xs = refl
length-parts_from start (e ∷ es) xs = ap suc (length-parts_from e es xs)

-- the part at a place
pub parts_from_at : (start : ℕ) (ends xs : List ℕ) (k : ℕ) → k < length ends → slice_get (parts_from start ends xs) k ≡ Some (between (slice_index (start ∷ ends) k) (slice_index ends k) xs)
parts_from_at start [] xs k h = absurd (omega (arith, h))
parts_from_at start (e ∷ es) xs zero h = refl
parts_from_at start (e ∷ es) xs (suc k) h = parts_from_at e es xs k (omega (arith, h))

pub LeadTo-last : (start : ℕ) (ends : List ℕ) (last : ℕ) → LeadTo start ends last → start ≤ last
LeadTo-last start [] last h = omega (arith, h)
LeadTo-last start (e ∷ es) last h = omega (arith, h.0, LeadTo-last e es last h.1)

-- a part lies within the list
pub LeadTo_at : (start : ℕ) (ends : List ℕ) (last k : ℕ) → LeadTo start ends last → k < length ends → (slice_index (start ∷ ends) k ≤ slice_index ends k) × (slice_index ends k ≤ last)
LeadTo_at start [] last k h below = absurd (omega (arith, below))
LeadTo_at start (e ∷ es) last zero h below = (h.0, LeadTo-last e es last h.1)
LeadTo_at start (e ∷ es) last (suc k) h below = LeadTo_at e es last k h.1 (omega (arith, below))

pub LeadTo-push : (start : ℕ) (ends : List ℕ) (last new : ℕ) → LeadTo start ends last → last ≤ new → LeadTo start (ends ++ new ∷ []) new
LeadTo-push start [] last new h more = (omega (arith, h, more), refl)
LeadTo-push start (e ∷ es) last new h more = (h.0, LeadTo-push e es last new h.1 more)

-- one more part at the end leaves the older ones
pub parts_from-push : (start : ℕ) (ends xs ys : List ℕ) → LeadTo start ends (length xs) → parts_from start (ends ++ length (xs ++ ys) ∷ []) (xs ++ ys) ≡ parts_from start ends xs ++ ys ∷ []
parts_from-push start [] xs ys h = ap (λ p. p ∷ []) (grind (arith, common_steps, h))
parts_from-push start (e ∷ es) xs ys h =
    let whole : e ≤ length xs = LeadTo-last e es (length xs) h.1 in
    let front : between start e (xs ++ ys) ≡ between start e xs = grind (arith, common_steps) in
    ap (λ p. p ∷ parts_from e (es ++ length (xs ++ ys) ∷ []) (xs ++ ys)) front ∙ ap (λ ps. between start e xs ∷ ps) (parts_from-push e es xs ys h.1)
