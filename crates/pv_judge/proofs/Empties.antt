-- The first empty line of a log, found line by line.
use Rattle.std.proofs.Common.{◌≡◌, ℕ, zero, suc, ◌+◌, ◌-◌, ◌≤◌, Bool, true, false, cond, eqb, List, [], ◌∷◌, map, length, drop, refl, ap, subst, ◌∙◌, Option, Some, None, arith}
use Rattle.std.specs.Prelude.{slice_get}
use Rattle.std.proofs.lemmas.Bool.{eq-eqb, ne_eqb}
use Rattle.std.proofs.lemmas.List.{drop_all}
use Rattle.pv_log.specs.declared.line.Line as line
use Rattle.pv_judge.specs.Steps.{first_empty}

-- the number of a line after so many
abbrev pub behind_lines : ℕ → Option ℕ → Option ℕ
behind_lines n None = None
behind_lines n (Some k) = Some (n + k)

abbrev next_one : Option ℕ → Option ℕ
next_one o = elim o as (λ _. Option ℕ) [ None ↦ None | Some n ↦ Some (suc n) ]

-- the lines from this one on
drop-line : (lines : List line.Line) (n : ℕ) (lits : List ℕ) → slice_get (map (λ (l : line.Line). l.lits) lines) n ≡ Some lits
    → (l : line.Line) × (l.lits ≡ lits) × (drop n lines ≡ l ∷ drop (n + 1) lines)
drop-line [] n lits at = absurd cc
drop-line (l ∷ lines) zero lits at = (let same : l.lits ≡ lits = cc in (l, same, refl))
drop-line (l ∷ lines) (suc n) lits at =
    let rest = drop-line lines n lits at in
    let is : suc (n + 1) ≡ suc n + 1 = omega arith in
    (rest.0, rest.1, rest.2 ∙ ap (λ (k : ℕ). rest.0 ∷ drop k (l ∷ lines)) is)

at-line : (lines : List line.Line) (n : ℕ) (lits : List ℕ) → slice_get (map (λ (l : line.Line). l.lits) lines) (n + 1 - 1) ≡ Some lits
    → slice_get (map (λ (l : line.Line). l.lits) lines) n ≡ Some lits
at-line lines n lits at =
    (let back : n + 1 - 1 ≡ n = omega arith in subst (λ (k : ℕ). slice_get (map (λ (l : line.Line). l.lits) lines) k ≡ Some lits) back at)

first-by : (l : line.Line) (lines : List line.Line) (b : Bool) → eqb (length l.lits) 0 ≡ b
    → first_empty (l ∷ lines) ≡ cond b (Some 1) (next_one (first_empty lines))
first-by l lines b e = ap (λ (x : Bool). cond x (Some 1) (next_one (first_empty lines))) e

one-behind : (n : ℕ) (o : Option ℕ) → behind_lines n (next_one o) ≡ behind_lines (n + 1) o
one-behind n None = refl
one-behind n (Some k) = (let is : n + suc k ≡ n + 1 + k = omega arith in ap (λ (i : ℕ). Some i) is)

module _ (lines : List line.Line) (n : ℕ) (lits : List ℕ) (at : slice_get (map (λ (l : line.Line). l.lits) lines) (n + 1 - 1) ≡ Some lits) where
  -- this line is empty
  pub empty-here : length lits ≡ 0 → behind_lines n (first_empty (drop n lines)) ≡ Some (n + 1)
  empty-here none =
      let got = drop-line lines n lits (at-line lines n lits at) in
      let zero-lits : eqb (length got.0.lits) 0 ≡ true = eq-eqb (length got.0.lits) 0 (ap length got.1 ∙ none) in
      ap (λ (ls : List line.Line). behind_lines n (first_empty ls)) got.2
      ∙ ap (behind_lines n) (first-by got.0 (drop (n + 1) lines) true zero-lits)

  -- it isn't
  pub empty-later : (length lits ≡ 0 → ⊥) → behind_lines n (first_empty (drop n lines)) ≡ behind_lines (n + 1) (first_empty (drop (n + 1) lines))
  empty-later some =
      let got = drop-line lines n lits (at-line lines n lits at) in
      let not-zero : eqb (length got.0.lits) 0 ≡ false =
      ap (λ (xs : List ℕ). eqb (length xs) 0) got.1 ∙ ne_eqb (length lits) 0 some in
      ap (λ (ls : List line.Line). behind_lines n (first_empty ls)) got.2
      ∙ (ap (behind_lines n) (first-by got.0 (drop (n + 1) lines) false not-zero) ∙ one-behind n (first_empty (drop (n + 1) lines)))

-- no line is left
pub empty-none : (lines : List line.Line) (n : ℕ) → length lines ≤ n → behind_lines n (first_empty (drop n lines)) ≡ None
empty-none lines n le = ap (λ (ls : List line.Line). behind_lines n (first_empty ls)) (drop_all n lines le)

-- before all lines
pub behind-none-yet : (o : Option ℕ) → behind_lines 0 o ≡ o
behind-none-yet None = refl
behind-none-yet (Some k) = (let is : 0 + k ≡ k = omega arith in ap (λ (i : ℕ). Some i) is)
