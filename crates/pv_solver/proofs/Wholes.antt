-- What makes a line one that may be learned.
use Rattle.std.proofs.Common.{◌≡◌, ℕ, ◌+◌, ◌<◌, ◌⊎◌, List, [], ◌∷◌, ◌++◌, length, take, refl, sym, ap, subst, ◌∙◌, inl, inr, arith}
use Rattle.std.specs.List.{AllByRecursion}
use Rattle.pv_cnf.specs.Clause.{AreClauses}
use Rattle.pv_log.specs.declared.line.Line.{Line}
use Rattle.pv_log.specs.Propagation.{left_of}
use Rattle.pv_watch.specs.Trail.{Path, LastIs, IsSound}
use Rattle.pv_watch.specs.Quiet.{AreQuiet}
use Rattle.pv_watch.proofs.ForCallers.{unit-is}
use Rattle.pv_learn.specs.Learning.{IsAsserting, IsNext}
use Rattle.pv_solver.specs.Lemmas.{IsLemma}
use Rattle.pv_solver.proofs.Ends.{fresh}

pub all-last : (P : ℕ → Type 0) (xs : List ℕ) (y : ℕ) → AllByRecursion P (xs ++ y ∷ []) → P y
all-last P [] y a = a.0
all-last P (x ∷ xs) y a = all-last P xs y a.1

pub quiet-last : (clauses : List (List ℕ)) (path : Path) (s : ℕ) → IsSound clauses path → LastIs path.starts s
    → AreQuiet (take s path.falses) clauses
quiet-last clauses path s sound (front, is) =
    all-last (λ (t : ℕ). AreQuiet (take t path.falses) clauses) front s
    (subst (AllByRecursion (λ (t : ℕ). AreQuiet (take t path.falses) clauses)) is sound.quiet)

shape : (xs : List ℕ) → (xs ≡ []) ⊎ (0 < length xs)
shape [] = inl refl
shape (x ∷ xs) = inr (omega arith)

-- a line that is unit before the last decision may be learned
pub asserting-lemma : (v start : ℕ) (falses : List ℕ) (clauses : List (List ℕ)) (line : Line) → IsAsserting v clauses start falses line
    → AreQuiet (take start falses) clauses → AreClauses v clauses → IsLemma v clauses line
asserting-lemma v start falses clauses line a quiet valid = record {
  new = record { follows = a.follows; fresh = fresh (take start falses) line.lits a.lit v clauses quiet valid a.unit };
  nonempty = elim (shape line.lits) [
    | inl none ↦ (let u = unit-is (take start falses) line.lits a.lit a.unit in
        let bad : [] ≡ a.lit ∷ [] = sym (ap (left_of (take start falses)) none) ∙ u.0 in absurd cc)
    | inr some ↦ some
  ];
}

-- it may be learned
pub next-lemma : (v : ℕ) (clauses : List (List ℕ)) (path : Path) (line : Line) → IsNext v clauses path line → IsSound clauses path
    → AreClauses v clauses → IsLemma v clauses line
next-lemma v clauses path line n sound valid =
    asserting-lemma v n.start path.falses clauses line n.asserting (quiet-last clauses path n.start sound n.last) valid
