-- The trail itself as a line.
use Rattle.std.proofs.Common.{◌≡◌, ℕ, zero, suc, ◌+◌, ◌-◌, ◌<◌, ◌≤◌, false, List, [], ◌∷◌, ◌++◌, length, get_or, take, drop, sym, ap, subst, ◌∙◌, inl, inr, Some, arith}
use Rattle.std.specs.Prelude.{Contains}
use Rattle.std.specs.List.{AllByRecursion}
use Rattle.std.proofs.lemmas.List.{take-append-drop}
use Rattle.std.proofs.lemmas.List.Elements.{Contains-push_cases}
use Rattle.pv_cnf.specs.Clause.{has_outside, has_double}
use Rattle.pv_log.specs.declared.line.Line.{Line}
use Rattle.pv_log.specs.Propagation.{unit_of, LeadsToFalse}
use Rattle.pv_log.specs.Follows.{Follows as FollowsLog}
use Rattle.pv_log.proofs.ForCallers.{double-front, outside-front}
use Rattle.pv_watch.specs.Trail.{Path, Rise, LastIs, IsImplied, IsSound}
use Rattle.pv_watch.specs.Quiet.{IsConflict}
use Rattle.pv_watch.proofs.ForCallers.{Rise-front, below-all, leads-from}
use Rattle.pv_learn.specs.Learning.{IsNext, IsLast}

-- ---- which places are implied

all-below : (xs : List ℕ) (s j : ℕ) → AllByRecursion (λ (t : ℕ). t < s) xs → Contains xs j → j < s
all-below [] s j a (k, lt, e) = absurd (omega arith)
all-below (x ∷ xs) s j a (zero, lt, e) = subst (λ (n : ℕ). n < s) e a.0
all-below (x ∷ xs) s j a (suc k, lt, e) = all-below xs s j a.1 (k, omega arith, e)

pub after-last : (clauses : List (List ℕ)) (path : Path) (s j : ℕ) → IsSound clauses path → Rise path.starts (length path.falses)
    → LastIs path.starts s → s + 1 ≤ j → j < length path.falses → IsImplied clauses path.falses path.reasons j
after-last clauses path s j sound rise (front, is) from lt =
    let r = Rise-front front s (length path.falses) (subst (λ (ss : List ℕ). Rise ss (length path.falses)) is rise) in
    elim (sound.reasons j lt) [
      | inr imp ↦ imp
      | inl c ↦ elim (Contains-push_cases front s j (subst (λ (ss : List ℕ). Contains ss j) is c)) [
        | inl before ↦ (let b = all-below front s j (below-all front s r.0) before in absurd (omega arith))
        | inr e ↦ absurd (omega arith)
      ]
    ]

pub without-start : (clauses : List (List ℕ)) (path : Path) (j : ℕ) → IsSound clauses path → path.starts ≡ [] → j < length path.falses
    → IsImplied clauses path.falses path.reasons j
without-start clauses path j sound none lt =
    elim (sound.reasons j lt) [
      | inr imp ↦ imp
      | inl (k, below, e) ↦ (let z : length path.starts ≡ 0 = ap (λ (ss : List ℕ). length ss) none in absurd (omega arith))
    ]

-- ---- lines

-- the line of the trail follows where each place from `from` on is implied
pub whole-follows : (v : ℕ) (clauses : List (List ℕ)) (path : Path) (from k : ℕ) (line : Line) → IsConflict clauses path.falses k
    → from ≤ length path.falses → length path.falses ≤ length path.reasons
    → has_outside v path.falses ≡ false → has_double path.falses ≡ false
    → ((j : ℕ) → from ≤ j → j < length path.falses → IsImplied clauses path.falses path.reasons j)
    → line.id ≡ length clauses + 1 → line.lits ≡ take from path.falses
    → line.hints ≡ take (length path.falses - from) (drop from path.reasons) ++ k ∷ []
    → FollowsLog v clauses line
whole-follows v clauses path from k line conflict le few inside distinct each id lits hints = record {
  next = id;
  inside = ap (has_outside v) lits ∙ outside-front v (take from path.falses) (drop from path.falses)
      (ap (has_outside v) (take-append-drop from path.falses) ∙ inside);
  distinct = ap has_double lits ∙ double-front (take from path.falses) (drop from path.falses)
      (ap has_double (take-append-drop from path.falses) ∙ distinct);
  refutes = subst (λ (ls : List ℕ). LeadsToFalse clauses ls line.hints) (sym lits)
      (subst (LeadsToFalse clauses (take from path.falses)) (sym hints)
      (leads-from clauses path.falses path.reasons k conflict.clause conflict.at conflict.false_is
      (length path.falses - from) from (omega arith) few each));
}

-- the last part of the trail, with the last decision's literal before it
pub whole-next : (v : ℕ) (clauses : List (List ℕ)) (path : Path) (start k : ℕ) (line : Line) → IsSound clauses path
    → IsConflict clauses path.falses k → Rise path.starts (length path.falses) → LastIs path.starts start → start < length path.falses
    → unit_of (take start path.falses) (take (start + 1) path.falses) ≡ Some (get_or path.falses start 0)
    → length path.falses ≤ length path.reasons → has_outside v path.falses ≡ false → has_double path.falses ≡ false
    → line.id ≡ length clauses + 1 → line.lits ≡ take (start + 1) path.falses → line.hints ≡ take (length path.falses - (start + 1))
    (drop (start + 1) path.reasons) ++ k ∷ []
    → IsNext v clauses path line
whole-next v clauses path start k line sound conflict rise last lt alone few inside distinct id lits hints = record {
  start = start;
  last = last;
  asserting = record {
    follows = whole-follows v clauses path (start + 1) k line conflict (omega arith) few inside distinct
        (λ j from below. after-last clauses path start j sound rise last from below) id lits hints;
    lit = get_or path.falses start 0;
    unit = ap (unit_of (take start path.falses)) lits ∙ alone;
  };
}

pub whole-last : (v : ℕ) (clauses : List (List ℕ)) (path : Path) (k : ℕ) (line : Line) → IsSound clauses path
    → IsConflict clauses path.falses k → path.starts ≡ []
    → length path.falses ≤ length path.reasons → has_outside v path.falses ≡ false → has_double path.falses ≡ false
    → line.id ≡ length clauses + 1 → line.lits ≡ take 0 path.falses
    → line.hints ≡ take (length path.falses - 0) (drop 0 path.reasons) ++ k ∷ []
    → IsLast v clauses line
whole-last v clauses path k line sound conflict none few inside distinct id lits hints = record {
  follows = whole-follows v clauses path 0 k line conflict (omega arith) few inside distinct (λ j from below. without-start clauses
      path j sound none below) id lits hints;
  empty = lits;
}
