-- The clause that an id names.
use Rattle.std.proofs.Common.{◌≡◌, ℕ, zero, suc, ◌+◌, ◌-◌, ◌<◌, ◌≤◌, List, [], ◌∷◌, ◌++◌, length, take, map, refl, sym, ap, subst, ◌∙◌, arith, Option, Some, None, Bor}
use Rattle.std.specs.Prelude.{slice_get, IfSome}
use Rattle.std.specs.Option.{option_map, option_copied}
use Rattle.std.specs.List.{AllByRecursion}
use Rattle.std.proofs.lemmas.List.{length-map, length-take-le, length-append, take-map}
use Rattle.std.proofs.lemmas.Option.{slice_get_past}
use Rattle.pv_log.specs.declared.line.Line.{Line}
use Rattle.pv_log.specs.Propagation.{named}
use Rattle.pv_log.specs.Checking.{lemmas, known}

pub slice_get-left : {X : Type 0} (xs ys : List X) (n : ℕ) → n < length xs → slice_get (xs ++ ys) n ≡ slice_get xs n
slice_get-left [] ys n lt = absurd (omega arith)
slice_get-left (x ∷ xs) ys zero lt = refl
slice_get-left (x ∷ xs) ys (suc n) lt = slice_get-left xs ys n (omega arith)

pub slice_get-right : {X : Type 0} (xs ys : List X) (k n : ℕ) → k ≡ length xs + n → slice_get (xs ++ ys) k ≡ slice_get ys n
slice_get-right [] ys k n e = ap (slice_get ys) (omega arith)
slice_get-right (x ∷ xs) ys zero n e = absurd (omega arith)
slice_get-right (x ∷ xs) ys (suc k) n e = slice_get-right xs ys k n (omega arith)

pub slice_get-map : {X Y : Type 0} (f : X → Y) (xs : List X) (n : ℕ) → slice_get (map f xs) n ≡ option_map f (slice_get xs n)
slice_get-map f [] n = refl
slice_get-map f (x ∷ xs) zero = refl
slice_get-map f (x ∷ xs) (suc n) = slice_get-map f xs n

pub slice_get-take : {X : Type 0} (n : ℕ) (xs : List X) (i : ℕ) → i < n → slice_get (take n xs) i ≡ slice_get xs i
slice_get-take zero xs i lt = absurd (omega arith)
slice_get-take (suc n) [] i lt = refl
slice_get-take (suc n) (x ∷ xs) zero lt = refl
slice_get-take (suc n) (x ∷ xs) (suc i) lt = slice_get-take n xs i (omega arith)

pub named-at : (clauses : List (List ℕ)) (id n : ℕ) → id ≡ n + 1 → named clauses id ≡ slice_get clauses n
named-at clauses zero n e = absurd (omega arith)
named-at clauses (suc k) n e = ap (slice_get clauses) (omega arith)

module _ (clauses : List (List ℕ)) (lines : List Line) (n id : ℕ) where
  pub named-formula : 0 < id → id ≤ length clauses → named (known clauses lines n) id ≡ slice_get clauses (id - 1)
  named-formula low high = named-at (known clauses lines n) id (id - 1) (omega arith) ∙ slice_get-left clauses (map (λ (line : Line). line.lits) (take n lines)) (id - 1) (omega arith)

  pub named-line : (count : ℕ) → count ≡ length clauses → n ≤ length lines → count < id → id - count ≤ n → named (known clauses lines n) id ≡ slice_get (map (λ (line : Line). line.lits) lines) (id - count - 1)
  named-line count is few low high =
      named-at (known clauses lines n) id (id - 1) (omega arith)
      ∙ slice_get-right clauses (map (λ (line : Line). line.lits) (take n lines)) (id - 1) (id - count - 1) (omega arith)
      ∙ ap (λ (all : List (List ℕ)). slice_get all (id - count - 1)) (sym (take-map (λ (line : Line). line.lits) n lines))
      ∙ slice_get-take n (map (λ (line : Line). line.lits) lines) (id - count - 1) (omega arith)

  pub length-known : n ≤ length lines → length (known clauses lines n) ≡ length clauses + n
  length-known few = omega (arith, length-append clauses (map (λ (line : Line). line.lits) (take n lines)), length-map (take n lines) (λ (line : Line). line.lits), length-take-le n lines few)

  pub named-past : n ≤ length lines → length clauses + n < id → named (known clauses lines n) id ≡ None
  named-past few high = named-at (known clauses lines n) id (id - 1) (omega arith) ∙ slice_get_past (known clauses lines n) (id - 1) (omega (arith, length-known few))

pub slice_get-all : {X : Type 0} (P : X → Type 0) (xs : List X) (n : ℕ) (x : X) → AllByRecursion P xs → slice_get xs n ≡ Some x → P x
slice_get-all P [] n x all e = absurd cc
slice_get-all P (y ∷ xs) zero x all e = (let same : y ≡ x = cc in subst P same all.0)
slice_get-all P (y ∷ xs) (suc n) x all e = slice_get-all P xs n x all.1 e

-- what holds of each clause holds of a named one
pub named-all : (P : List ℕ → Type 0) (clauses : List (List ℕ)) (id : ℕ) (found : Option (Bor (List ℕ))) → AllByRecursion P clauses → option_copied found ≡ named clauses id → IfSome found (λ lits. P lits.now)
named-all P clauses id None all e = tt
named-all P clauses zero (Some r) all e = absurd cc
named-all P clauses (suc n) (Some r) all e = slice_get-all P clauses n r.now all (sym e)

-- what holds of the clause of each of the first lines
pub lemma-inside : (P : List ℕ → Type 0) (lines : List Line) (n line : ℕ) (lits : List ℕ) → AllByRecursion P (lemmas lines n) → 0 < line → line ≤ n → slice_get (map (λ (l : Line). l.lits) lines) (line - 1) ≡ Some lits → P lits
lemma-inside P lines n line lits all low high at =
    slice_get-all P (lemmas lines n) (line - 1) lits all
    (ap (λ (cs : List (List ℕ)). slice_get cs (line - 1)) (sym (take-map (λ (l : Line). l.lits) n lines)) ∙ slice_get-take n (map (λ (l : Line). l.lits) lines) (line - 1) (omega arith) ∙ at)
