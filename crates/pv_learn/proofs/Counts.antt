-- How many clauses and lemmas there are, and what their literals are.
use Rattle.std.proofs.Common.{◌≡◌, ℕ, ◌+◌, ◌*◌, ◌<◌, ◌≤◌, false, All, List, [], ◌∷◌, length, map, take, refl, ap, ◌∙◌, arith}
use Rattle.std.specs.Prelude.{sum_by}
use Rattle.std.proofs.lemmas.List.{length-map, length-append, length-take}
use Rattle.std.proofs.lemmas.List.Sums.{sum_by-cons}
use Rattle.std.proofs.lemmas.Bool.{or_parts}
use Rattle.std.proofs.lemmas.List.Elements.{All-nil, All-cons}
use Rattle.pv_cnf.specs.Literal.{variable_of, is_outside}
use Rattle.pv_cnf.specs.Clause.{has_outside}
use Rattle.pv_log.proofs.ForCallers.{inside-bounds}
use Rattle.pv_learn.specs.Learning.{line_of}
use Rattle.pv_region.specs.Stored.{Stored, Hinted, lemma_cost, clause_cost, used_of, count_of, all_lits}

clauses-cost : (clauses : List (List ℕ)) → 3 * length clauses ≤ sum_by clause_cost clauses
clauses-cost [] = omega arith
clauses-cost (c ∷ clauses) = omega (arith, clauses-cost clauses, sum_by-cons clause_cost c clauses)

lemmas-cost : (lemmas : List Hinted) → 3 * length lemmas ≤ sum_by lemma_cost lemmas
lemmas-cost [] = omega arith
lemmas-cost (l ∷ lemmas) = omega (arith, lemmas-cost lemmas, sum_by-cons lemma_cost l lemmas)

pub count-costs : (s : Stored) → 3 * count_of s ≤ used_of s
count-costs s = let a = clauses-cost s.clauses in let b = lemmas-cost s.lemmas in omega (arith, a, b)

pub count-lits : (s : Stored) → length (all_lits s) ≡ count_of s
count-lits s =
    length-append s.clauses (map (λ (l : Hinted). l.lits) s.lemmas)
    ∙ ap (λ (n : ℕ). length s.clauses + n) (length-map s.lemmas (λ (l : Hinted). l.lits))

-- ---- the literals of a clause

-- each literal is of one of the variables
pub all-inside : (v : ℕ) (lits : List ℕ) → has_outside v lits ≡ false
    → All (λ (lit : ℕ). (0 < variable_of lit) × (variable_of lit ≤ v)) lits
all-inside v [] inside = All-nil (λ (lit : ℕ). (0 < variable_of lit) × (variable_of lit ≤ v))
all-inside v (x ∷ lits) inside =
    let parts = or_parts (is_outside v x) (has_outside v lits) inside in
    let b = inside-bounds v x parts.0 in
    All-cons (λ (lit : ℕ). (0 < variable_of lit) × (variable_of lit ≤ v)) x lits (omega (arith, b.0), b.1) (all-inside v lits parts.1)

-- no literals
pub no-lits : (lits : List ℕ) → length lits ≡ 0 → lits ≡ []
no-lits [] e = refl
no-lits (x ∷ lits) e = absurd (omega (arith, e))

-- ---- parts of the trail

pub few-taken : (n m : ℕ) (xs : List ℕ) → n ≤ m → length (take n xs) ≤ m
few-taken n m xs le = omega (arith, length-take n xs)

-- a line by its parts
pub line-is : (a b : ℕ) (l m h k : List ℕ) → a ≡ b → l ≡ m → h ≡ k → line_of a l h ≡ line_of b m k
line-is a b l m h k id lits hints = cc
