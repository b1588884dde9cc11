-- The queries that are expected: by number, and that they are asked.
use Rattle.std.proofs.Common.{◌≡◌, ℕ, zero, suc, ◌+◌, ◌-◌, ◌<◌, ◌≤◌, Bool, true, false, cond, List, [], ◌∷◌, ◌++◌, length, refl, ap, sym, ◌∙◌, Option, Some, None, inl, inr, arith}
use Rattle.std.specs.Prelude.{slice_get}
use Rattle.std.specs.List.{AllByRecursion}
use Rattle.std.proofs.lemmas.Bool.{cases_lt}
use Rattle.std.proofs.lemmas.List.{append-nil, length-append}
use Rattle.std.proofs.lemmas.Option.{slice_get_past}
use Rattle.pv_claims.specs.declared.claim.Claim.{Claim}
use Rattle.pv_claims.specs.declared.claim.Claim.TheVariants.{Satisfied, Unreachable, Violated, Trapped, Reached, Depth, Loop, Lemmas, Region}
use Rattle.pv_cert.specs.declared.proof.Query.{Query}
use Rattle.pv_cert.specs.declared.proof.Query.TheVariants.{Base, Step}
use Rattle.pv_kind.specs.declared.told.TheConstants.{LAST_QUERY}
use Rattle.pv_kind.specs.Oracles.{IsAsked}
use Rattle.pv_kind.specs.Decisions.{bases}
use Rattle.pv_valid.specs.declared.facts.Facts.{Facts}
use Rattle.pv_valid.specs.Claims.{Belongs, expected}
use Rattle.pv_valid.proofs.ForCallers.{all-push, bases-asked}

-- ---- by number

got-left : {X : Type 0} (xs ys : List X) (n : ℕ) → n < length xs → slice_get (xs ++ ys) n ≡ slice_get xs n
got-left [] ys n lt = absurd (omega arith)
got-left (x ∷ xs) ys zero lt = refl
got-left (x ∷ xs) ys (suc n) lt = got-left xs ys n (omega (arith, lt))

got-here : {X : Type 0} (xs : List X) (y : X) (ys : List X) (n : ℕ) → n ≡ length xs → slice_get (xs ++ y ∷ ys) n ≡ Some y
got-here [] y ys zero is = refl
got-here [] y ys (suc n) is = absurd (omega (arith, is))
got-here (x ∷ xs) y ys zero is = absurd (omega (arith, is))
got-here (x ∷ xs) y ys (suc n) is = got-here xs y ys n (omega (arith, is))

pub length-bases : (k : ℕ) → length (bases k) ≡ k
length-bases zero = refl
length-bases (suc k) = (let all = length-append (bases k) (Base (suc k) ∷ []) in let rest = length-bases k in omega (arith, all, rest))

base-got : (k n : ℕ) → n < k → slice_get (bases k) n ≡ Some (Base (n + 1))
base-got zero n lt = absurd (omega arith)
base-got (suc k) n lt = (let count = length-bases k in elim (cases_lt n k) [
  | inl below ↦ got-left (bases k) (Base (suc k) ∷ []) n (omega (arith, below, count)) ∙ base-got k n below
  | inr above ↦ (let is : n ≡ k = omega (arith, lt, above) in let number : suc k ≡ n + 1 = omega (arith, is) in
      got-here (bases k) (Base (suc k)) [] n (omega (arith, is, count)) ∙ ap (λ (i : ℕ). Some (Base i)) number)
])

pub earlier-got : (k n : ℕ) (rest : List Query) → n < k → slice_get (bases k ++ rest) n ≡ Some (Base (n + 1))
earlier-got k n rest lt = (let count = length-bases k in got-left (bases k) rest n (omega (arith, lt, count)) ∙ base-got k n lt)

pub step-got : (k n : ℕ) → n ≡ k → slice_get (bases k ++ Step k ∷ []) n ≡ Some (Step k)
step-got k n is = (let count = length-bases k in got-here (bases k) (Step k) [] n (omega (arith, is, count)))

pub none-got : (k n : ℕ) → k ≤ n → slice_get (bases k ++ []) n ≡ None
none-got k n le =
    let count = length-bases k in
    ap (λ (qs : List Query). slice_get qs n) (append-nil (bases k)) ∙ slice_get_past (bases k) n (omega (arith, count, le))

pub past-got : (k n : ℕ) → k < n → slice_get (bases k ++ Step k ∷ []) n ≡ None
past-got k n lt =
    let count = length-bases k in
    let all = length-append (bases k) (Step k ∷ []) in
    slice_get_past (bases k ++ Step k ∷ []) n (omega (arith, count, all, lt))

-- ---- that they are asked

pub record AreFew (queries : List Query) : Type 0 where
  pub asked : AllByRecursion IsAsked queries
  pub few : length queries ≤ LAST_QUERY + 1

few-bases : (k : ℕ) → k ≤ LAST_QUERY → AreFew (bases k)
few-bases k le = (let count = length-bases k in record { asked = bases-asked k le; few = omega (arith, count, le) })

few-steps : (k : ℕ) → k ≤ LAST_QUERY → AreFew (bases k ++ Step k ∷ [])
few-steps k le =
    let count = length-bases k in
    let all = length-append (bases k) (Step k ∷ []) in
    record { asked = all-push IsAsked (bases k) (Step k) (bases-asked k le) le; few = omega (arith, count, all, le) }

pub expected-few : (facts : Facts) (claim : Claim) → facts.depth ≤ LAST_QUERY → Belongs facts claim → AreFew (expected claim)
expected-few facts (Satisfied k) most is = (let le = is.1 in few-steps k (omega (arith, most, le)))
expected-few facts (Unreachable k) most is = (let le = is.1 in few-steps k (omega (arith, most, le)))
expected-few facts (Violated n) most is = (let le = is.1.1 in few-bases (n - 1) (omega (arith, most, le)))
expected-few facts (Trapped n) most is = (let le = is.1.1 in few-bases (n - 1) (omega (arith, most, le)))
expected-few facts (Reached n) most is = (let le = is.1.1 in few-bases (n - 1) (omega (arith, most, le)))
expected-few facts (Depth k) most is = few-bases k (omega (arith, most, is))
expected-few facts (Loop n) most is = (let le = is.1 in few-bases (n - 1) (omega (arith, most, le)))
expected-few facts (Lemmas b) most is = record { asked = tt; few = omega arith }
expected-few facts (Region x) most is = record { asked = tt; few = omega arith }

-- ---- what `Expected` answers

pub step-at : (k n : ℕ) (b : Bool) → b ≡ true → n ≡ k → ◌≡◌ {A = Option Query} (Some (Step k)) (slice_get (bases k ++ cond b (Step k ∷ []) []) n)
step-at k n b step is = sym (ap (λ (x : Bool). slice_get (bases k ++ cond x (Step k ∷ []) []) n) step ∙ step-got k n is)

pub none-at : (k n : ℕ) (b : Bool) → b ≡ false → k ≤ n → ◌≡◌ {A = Option Query} None (slice_get (bases k ++ cond b (Step k ∷ []) []) n)
none-at k n b none le = sym (ap (λ (x : Bool). slice_get (bases k ++ cond x (Step k ∷ []) []) n) none ∙ none-got k n le)

pub past-at : (k n : ℕ) (b : Bool) → k < n → ◌≡◌ {A = Option Query} None (slice_get (bases k ++ cond b (Step k ∷ []) []) n)
past-at k n true lt = sym (past-got k n lt)
past-at k n false lt = sym (none-got k n (omega (arith, lt)))
