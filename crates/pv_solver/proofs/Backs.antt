-- Decisions taken back.
use Rattle.std.proofs.Common.{◌≡◌, ℕ, zero, suc, ◌+◌, ◌<◌, ◌≤◌, false, eqb, List, [], ◌∷◌, ◌++◌, length, get_or, take, drop, refl, sym, ap, subst, ◌∙◌, inl, inr, Some, arith}
use Rattle.std.specs.List.{AllByRecursion}
use Rattle.std.proofs.lemmas.Bool.{cases_lt, or_parts, eq-eqb}
use Rattle.std.proofs.lemmas.List.{length_push, get_or_push, take_at, take-take, take_all, take_more, take-append-drop}
use Rattle.pv_cnf.specs.Literal.{complement}
use Rattle.pv_log.specs.Propagation.{is_false, unit_of}
use Rattle.pv_watch.specs.Trail.{Path, Rise, LastIs, IsSound}
use Rattle.pv_watch.specs.Quiet.{IsQuiet, AreQuiet}
use Rattle.pv_watch.specs.Watched.{IsReady}
use Rattle.pv_watch.specs.Turns.{HasUnset}
use Rattle.pv_watch.proofs.ForCallers.{Rise-front, below-all, kept-starts, all-push}
use Rattle.pv_solver.specs.Search.{StepsBack, GoesBack}
use Rattle.pv_watch.proofs.ForCallers.{false-append, unit-is, first-of}
use Rattle.pv_solver.proofs.Wholes.{all-last}

-- some of the last decisions were taken back
pub record Backs (keep : ℕ) (old new : Path) : Type 0 where
  pub variables : new.variables ≡ old.variables
  pub enough : keep ≤ length new.starts
  pub few : length new.starts ≤ length old.starts
  pub starts : new.starts ≡ take (length new.starts) old.starts
  pub shorter : length new.falses ≤ length old.falses
  pub falses : new.falses ≡ take (length new.falses) old.falses
  pub low : length new.starts < length old.starts → (s : ℕ) → LastIs old.starts s → length new.falses ≤ s
  pub ready : (clauses : List (List ℕ)) → IsReady clauses old → IsReady clauses new

pub backs-none : (keep : ℕ) (path : Path) → keep ≤ length path.starts → Backs keep path path
backs-none keep path le = record {
  variables = refl;
  enough = le;
  few = omega arith;
  starts = sym (take_all (length path.starts) path.starts (omega arith));
  shorter = omega arith;
  falses = sym (take_all (length path.falses) path.falses (omega arith));
  low = λ lt s last. absurd (omega (arith, lt));
  ready = λ clauses s. s;
}

last-one : (xs ys : List ℕ) (x y : ℕ) → xs ++ x ∷ [] ≡ ys ++ y ∷ [] → x ≡ y
last-one xs ys x y e =
    let same : length xs ≡ length ys = omega (arith, length_push xs x, length_push ys y, ap (λ (zs : List ℕ). length zs) e) in
    sym (get_or_push xs x 0 (length xs) refl) ∙ ap (λ (zs : List ℕ). get_or zs (length xs) 0) e ∙ get_or_push ys y 0 (length xs) (sym same)

pub backs-more : (keep : ℕ) (old mid new : Path) → Backs keep old mid → keep < length mid.starts → StepsBack mid new → Backs keep old new
backs-more keep old mid new b lt step =
    let r = Rise-front new.starts (length new.falses) (length mid.falses) (subst (λ (ss : List ℕ). Rise ss (length mid.falses)) step.starts step.rise)
    in
    let below = r.1 in
    let count : length mid.starts ≡ length new.starts + 1 = ap (λ (ss : List ℕ). length ss) step.starts
    ∙ length_push new.starts (length new.falses) in
    let front : take (length new.starts) mid.starts ≡ new.starts = ap (take (length new.starts)) step.starts
    ∙ take_at new.starts (length new.falses ∷ []) (length new.starts) refl in
    record {
      variables = step.variables ∙ b.variables;
      enough = omega arith;
      few = omega (arith, b.few);
      starts = sym front ∙ ap (take (length new.starts)) b.starts
          ∙ take-take (length new.starts) (length mid.starts) old.starts (omega arith);
      shorter = omega (arith, b.shorter);
      falses = step.falses ∙ ap (take (length new.falses)) b.falses
          ∙ take-take (length new.falses) (length mid.falses) old.falses (omega arith);
      low = λ _ s last. elim (cases_lt (length mid.starts) (length old.starts)) [
        | inl before ↦ (let le = b.low before s last in omega (arith, le))
        | inr none ↦ (let whole : mid.starts ≡ old.starts = b.starts ∙ take_all (length mid.starts) old.starts none in
            let e : length new.falses ≡ s = last-one new.starts last.0 (length new.falses) s (sym step.starts ∙ whole ∙ last.1) in omega arith)
      ];
      ready = λ clauses s. step.ready clauses (b.ready clauses s);
    }

pub backs-end : (keep : ℕ) (old new : Path) → Backs keep old new → length new.starts ≤ keep
    → Rise new.starts (length new.falses) → GoesBack keep old new
backs-end keep old new b le rise =
    let e : length new.starts ≡ keep = omega (arith, b.enough) in
    record {
      variables = b.variables;
      starts = subst (λ (n : ℕ). new.starts ≡ take n old.starts) e b.starts;
      falses = b.falses;
      shorter = b.shorter;
      low = λ lt s last. b.low (omega (arith, e, lt)) s last;
      rise = rise;
      ready = b.ready;
    }

-- what was quiet before the decisions that stay is so still
pub quiet-back : (keep : ℕ) (old new : Path) (clause : List ℕ) → GoesBack keep old new
    → AllByRecursion (λ (s : ℕ). IsQuiet (take s old.falses) clause) (take keep old.starts)
    → AllByRecursion (λ (s : ℕ). IsQuiet (take s new.falses) clause) new.starts
quiet-back keep old new clause g q =
    kept-starts (λ (f : List ℕ). IsQuiet f clause) old.falses new.falses new.starts (length new.falses)
    (below-all new.starts (length new.falses) g.rise)
    (λ s lt. ap (take s) g.falses ∙ take-take s (length new.falses) old.falses (omega arith))
    (subst (AllByRecursion (λ (s : ℕ). IsQuiet (take s old.falses) clause)) (sym g.starts) q)

pub all-at : (P : ℕ → Type 0) (xs : List ℕ) (k : ℕ) → AllByRecursion P xs → k < length xs → P (get_or xs k 0)
all-at P [] k a lt = absurd (omega arith)
all-at P (x ∷ xs) zero a lt = a.0
all-at P (x ∷ xs) (suc k) a lt = all-at P xs k a.1 (omega arith)

pub start-below : (starts : List ℕ) (n k : ℕ) → Rise starts n → k < length starts → get_or starts k 0 < n
start-below starts n k rise lt = all-at (λ (s : ℕ). s < n) starts k (below-all starts n rise) lt

pub quiet-take : (falses clause starts : List ℕ) (k : ℕ) → k < length starts → AllByRecursion (λ (s : ℕ). IsQuiet (take s falses) clause)
    (take k starts) → IsQuiet (take (get_or starts k 0) falses) clause
    → AllByRecursion (λ (s : ℕ). IsQuiet (take s falses) clause) (take (k + 1) starts)
quiet-take falses clause starts k lt a q =
    subst (AllByRecursion (λ (s : ℕ). IsQuiet (take s falses) clause)) (sym (take_more starts k 0 lt))
    (all-push (λ (s : ℕ). IsQuiet (take s falses) clause) (take k starts) (get_or starts k 0) a q)

pub first-quiet : (clauses : List (List ℕ)) (path : Path) → IsSound clauses path → 0 < length path.starts
    → AreQuiet (take (get_or path.starts 0 0) path.falses) clauses
first-quiet clauses path sound lt = all-at (λ (s : ℕ). AreQuiet (take s path.falses) clauses) path.starts 0 sound.quiet lt

-- ---- a clause that is unit before the last decision

-- it isn't quiet before each
pub few-kept : (path : Path) (clause : List ℕ) (s keep lit : ℕ) → LastIs path.starts s → unit_of (take s path.falses) clause ≡ Some lit
    → AllByRecursion (λ (t : ℕ). IsQuiet (take t path.falses) clause) (take keep path.starts) → keep < length path.starts
few-kept path clause s keep lit (front, is) unit q =
    elim (cases_lt keep (length path.starts)) [
      | inl few ↦ few
      | inr all ↦ (let whole = subst (AllByRecursion (λ (t : ℕ). IsQuiet (take t path.falses) clause)) (take_all keep path.starts all) q in
          let here = all-last (λ (t : ℕ). IsQuiet (take t path.falses) clause) front s
          (subst (AllByRecursion (λ (t : ℕ). IsQuiet (take t path.falses) clause)) is whole) in
          let bad = sym here.gives_none ∙ unit in absurd cc)
    ]

absent-part : (xs : List ℕ) (n x : ℕ) → is_false xs x ≡ false → is_false (take n xs) x ≡ false
absent-part xs n x e =
    (or_parts (is_false (take n xs) x) (is_false (drop n xs) x) (sym (false-append (take n xs) (drop n xs) x)
    ∙ ap (λ (ys : List ℕ). is_false ys x) (take-append-drop n xs) ∙ e)).0

absent-front : (xs : List ℕ) (n m x : ℕ) → n ≤ m → is_false (take m xs) x ≡ false → is_false (take n xs) x ≡ false
absent-front xs n m x le e = ap (λ (ys : List ℕ). is_false ys x) (sym (take-take n m xs le)) ∙ absent-part (take m xs) n x e

-- its literal has no value once that decision is taken back
pub unset-back : (old new : Path) (clause : List ℕ) (s lit : ℕ) → unit_of (take s old.falses) clause ≡ Some lit
    → new.falses ≡ take (length new.falses) old.falses → length new.falses ≤ s → HasUnset new.falses clause
unset-back old new clause s lit unit falses le =
    let u = unit-is (take s old.falses) clause lit unit in
    let f = first-of 0 (take s old.falses) clause lit [] u.0 in
    record {
      lit = lit;
      own = f.any (eqb lit) (eq-eqb lit lit refl);
      not_false = ap (λ (ys : List ℕ). is_false ys lit) falses ∙ absent-front old.falses (length new.falses) s lit le f.not_false;
      not_true = ap (λ (ys : List ℕ). is_false ys (complement lit)) falses
          ∙ absent-front old.falses (length new.falses) s (complement lit) le u.1;
    }
