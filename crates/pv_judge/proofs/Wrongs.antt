-- What the checker's verdict on lemmas and the first empty line say of what is wrong first. At a line its own fault comes first, then that
-- it is empty, then that it isn't new; before the first empty line all clauses have a literal, so there the checker sees the same.
use Rattle.std.proofs.Common.{◌≡◌, ℕ, zero, suc, ◌+◌, ◌≤◌, Bool, true, false, not, cond, eqb, List, [], ◌∷◌, ◌++◌, length, refl, ap, sym, subst, ◌∙◌, Option, Some, None, Result, Ok, Err, arith}
use Rattle.std.specs.Prelude.{nat_lt, ◌&&◌, ◌||◌}
use Rattle.std.specs.Result.{result_err}
use Rattle.std.proofs.lemmas.Bool.{lt-ltb, le-ltb, ne_eqb}
use Rattle.pv_cnf.specs.Literal.{complement}
use Rattle.pv_cnf.specs.Clause.{has_outside, has_double}
use Rattle.pv_log.specs.declared.line.Line as line
use Rattle.pv_log.specs.declared.fault.LineFault.{LineFault}
use Rattle.pv_log.specs.declared.fault.LineFault.TheVariants.{BadId, NotUnit, LastNotFalse, Tautology, NotNew}
use Rattle.pv_log.specs.Propagation.{named, unit_of, is_falsified, last_step, unit_step, hints_fault}
use Rattle.pv_log.specs.declared.fault.Verdict.{Verdict}
use Rattle.pv_log.specs.declared.fault.Verdict.TheVariants.{Accepted, NoEmpty, Refused}
use Rattle.pv_log.specs.Follows.{fault_of, FailsFirst, IsAccepted, LacksEmpty}
use Rattle.pv_log.specs.Newness.{FollowsNew, is_subsumed, new_fault_of}
use Rattle.pv_log.proofs.ForCallers.{new-faultless}
use Rattle.pv_valid.specs.declared.fault.Kind.{Kind}
use Rattle.pv_valid.specs.declared.fault.Kind.TheVariants as kind
use Rattle.pv_valid.specs.declared.fault.Fault.{Fault}
use Rattle.pv_valid.specs.declared.fault.Fault.TheVariants.{Line}
use Rattle.pv_valid.specs.Walk.{lines_fault, wrong_clause, wrong_lemma}
use Rattle.pv_judge.specs.Steps.{refused_in, Refuses, is_not_new, first_wrong, placed, first_empty}
use Rattle.pv_judge.proofs.Compares.{lt-suc, eq-suc}

-- ---- one line

abbrev own_first : Option LineFault → Option Kind → Option Kind
own_first o rest = elim o as (λ _. Option Kind) [ Some fault ↦ Some (kind.Line fault) | None ↦ rest ]

abbrev behind : Option Kind → ℕ → Option Fault → Option Fault
behind o at rest = elim o as (λ _. Option Fault) [ Some why ↦ Some (Line at why) | None ↦ rest ]

abbrev new_first : Option LineFault → Bool → Option LineFault
new_first o old = elim o as (λ _. Option LineFault) [ Some fault ↦ Some fault | None ↦ cond old (Some NotNew) None ]

abbrev next_one : Option ℕ → Option ℕ
next_one o = elim o as (λ _. Option ℕ) [ None ↦ None | Some n ↦ Some (suc n) ]

line-is : (at place : ℕ) (why : Kind) → at ≡ place → ◌≡◌ {A = Option Fault} (Some (Line at why)) (Some (Line place why))
line-is at place why e = ap (λ (n : ℕ). Some (Line n why)) e

-- the first empty line is one
abbrev Counts : Option ℕ → Type 0
Counts None = Unit {0}
Counts (Some n) = 1 ≤ n

counts-next : (o : Option ℕ) → Counts (next_one o)
counts-next None = tt
counts-next (Some n) = omega arith

counts-first : (b : Bool) (o : Option ℕ) → Counts (cond b (Some 1) (next_one o))
counts-first true o = omega arith
counts-first false o = counts-next o

empty-counts : (lines : List line.Line) → Counts (first_empty lines)
empty-counts [] = tt
empty-counts (l ∷ lines) = counts-first (eqb (length l.lits) 0) (first_empty lines)

-- ---- what is told of the first line

module _ (at : ℕ) where
  told : ℕ → Kind → Option Fault
  told n why = Some (Line (at + n) why)

  -- the first line's own fault
  own-first : (f : LineFault) (b : Bool) (o : Option ℕ) → is_not_new f ≡ false → Counts o
      → placed at (first_wrong (Some (1, f)) (cond b (Some 1) (next_one o))) ≡ Some (Line (suc at) (kind.Line f))
  own-first f true o own counts =
      ap (λ (x : Bool). placed at (cond (not x) (Some (1, kind.Line f)) (Some (1, kind.WrongQuery)))) own
      ∙ line-is (at + 1) (suc at) (kind.Line f) (omega arith)
  own-first f false None own counts = line-is (at + 1) (suc at) (kind.Line f) (omega arith)
  own-first f false (Some zero) own counts = absurd (omega arith)
  own-first f false (Some (suc n)) own counts =
      ap (λ (b : Bool). placed at (cond (b || (eqb 1 (suc (suc n)) && not (is_not_new f))) (Some (1, kind.Line f)) (Some (suc (suc n), kind.WrongQuery))))
      (lt-ltb 1 (suc (suc n)) (omega arith))
      ∙ line-is (at + 1) (suc at) (kind.Line f) (omega arith)

  -- the first line isn't empty, and isn't new
  old-first : (o : Option ℕ) → Counts o
      → placed at (first_wrong (Some (1, NotNew)) (next_one o)) ≡ Some (Line (suc at) (kind.Line NotNew))
  old-first None counts = line-is (at + 1) (suc at) (kind.Line NotNew) (omega arith)
  old-first (Some zero) counts = absurd (omega arith)
  old-first (Some (suc n)) counts =
      ap (λ (b : Bool). placed at (cond (b || (eqb 1 (suc (suc n)) && not (is_not_new NotNew))) (Some (1, kind.Line NotNew))
      (Some (suc (suc n), kind.WrongQuery)))) (lt-ltb 1 (suc (suc n)) (omega arith))
      ∙ line-is (at + 1) (suc at) (kind.Line NotNew) (omega arith)

  -- the first line is empty
  empty-none : placed at (first_wrong None (Some 1)) ≡ Some (Line (suc at) kind.WrongQuery)
  empty-none = line-is (at + 1) (suc at) kind.WrongQuery (omega arith)

  empty-old : placed at (first_wrong (Some (1, NotNew)) (Some 1)) ≡ Some (Line (suc at) kind.WrongQuery)
  empty-old = line-is (at + 1) (suc at) kind.WrongQuery (omega arith)

  empty-later : (n : ℕ) (f : LineFault) → placed at (first_wrong (Some (suc (suc n), f)) (Some 1)) ≡ Some (Line (suc at) kind.WrongQuery)
  empty-later n f =
      ap (λ (b : Bool). placed at (cond (b || (eqb (suc (suc n)) 1 && not (is_not_new f))) (Some (suc (suc n), kind.Line f)) (Some (1, kind.WrongQuery))))
      (le-ltb (suc (suc n)) 1 (omega arith))
      ∙ (ap (λ (b : Bool). placed at (cond (b && not (is_not_new f)) (Some (suc (suc n), kind.Line f)) (Some (1, kind.WrongQuery))))
      (ne_eqb (suc (suc n)) 1 (λ e. absurd (omega (arith, e))))
      ∙ line-is (at + 1) (suc at) kind.WrongQuery (omega arith))

  -- nothing is wrong with the first line
  choose-line : (b : Bool) (m n : ℕ) (f : LineFault)
      → placed (suc at) (cond b (Some (m, kind.Line f)) (Some (n, kind.WrongQuery)))
      ≡ placed at (cond b (Some (suc m, kind.Line f)) (Some (suc n, kind.WrongQuery)))
  choose-line true m n f = line-is (suc at + m) (at + suc m) (kind.Line f) (omega arith)
  choose-line false m n f = line-is (suc at + n) (at + suc n) kind.WrongQuery (omega arith)

  later : (m : ℕ) (f : LineFault) (o : Option ℕ)
      → placed (suc at) (first_wrong (Some (m, f)) o) ≡ placed at (first_wrong (Some (suc m, f)) (next_one o))
  later m f None = line-is (suc at + m) (at + suc m) (kind.Line f) (omega arith)
  later m f (Some n) =
      choose-line (nat_lt m n || (eqb m n && not (is_not_new f))) m n f
      ∙ (ap (λ (b : Bool). placed at (cond (b || (eqb m n && not (is_not_new f))) (Some (suc m, kind.Line f)) (Some (suc n, kind.WrongQuery))))
      (sym (lt-suc m n))
      ∙ ap (λ (b : Bool). placed at (cond (nat_lt (suc m) (suc n) || (b && not (is_not_new f))) (Some (suc m, kind.Line f)) (Some (suc n, kind.WrongQuery))))
      (sym (eq-suc m n)))

  later-none : (o : Option ℕ) → placed (suc at) (first_wrong None o) ≡ placed at (first_wrong None (next_one o))
  later-none None = refl
  later-none (Some n) = line-is (suc at + n) (at + suc n) kind.WrongQuery (omega arith)

-- ---- a line's own fault is never that it isn't new

abbrev IsOwn : Option LineFault → Type 0
IsOwn None = Unit {0}
IsOwn (Some f) = is_not_new f ≡ false

abbrev IsOwnStep : Result (List ℕ) LineFault → Type 0
IsOwnStep (Ok more) = Unit {0}
IsOwnStep (Err f) = is_not_new f ≡ false

last-cond : (b : Bool) (falses : List ℕ) → IsOwn (result_err (cond b (Ok falses) (Err LastNotFalse)))
last-cond true falses = tt
last-cond false falses = refl

last-own : (falses : List ℕ) (o : Option (List ℕ)) → IsOwn (result_err (last_step falses o))
last-own falses None = refl
last-own falses (Some clause) = last-cond (is_falsified falses clause) falses

unit-some : (falses : List ℕ) (o : Option ℕ)
    → IsOwnStep (elim o as (λ _. Result (List ℕ) LineFault) [ None ↦ Err NotUnit | Some lit ↦ Ok (falses ++ complement lit ∷ []) ])
unit-some falses None = refl
unit-some falses (Some lit) = tt

unit-own : (falses : List ℕ) (o : Option (List ℕ)) → IsOwnStep (unit_step falses o)
unit-own falses None = refl
unit-own falses (Some clause) = unit-some falses (unit_of falses clause)

step-own : (step : Result (List ℕ) LineFault) (go : List ℕ → Option LineFault) → IsOwnStep step → ((more : List ℕ) → IsOwn (go more))
    → IsOwn (elim step as (λ _. Option LineFault) [ Err fault ↦ Some fault | Ok more ↦ go more ])
step-own (Err f) go own all = own
step-own (Ok more) go own all = all more

hints-own : (clauses : List (List ℕ)) (hints falses : List ℕ) → IsOwn (hints_fault clauses falses hints)
hints-own clauses [] falses = refl
hints-own clauses (h ∷ []) falses = last-own falses (named clauses h)
hints-own clauses (h ∷ next ∷ hints) falses =
    step-own (unit_step falses (named clauses h)) (λ (more : List ℕ). hints_fault clauses more (next ∷ hints)) (unit-own falses (named clauses h))
    (λ more. hints-own clauses (next ∷ hints) more)

fault-own : (id lemma : Bool) (rest : Option LineFault) → IsOwn rest → IsOwn (cond (not id) (Some BadId) (cond lemma (Some Tautology) rest))
fault-own false lemma rest own = refl
fault-own true true rest own = refl
fault-own true false rest own = own

line-own : (v : ℕ) (known : List (List ℕ)) (l : line.Line) → IsOwn (fault_of v known l)
line-own v known l = fault-own (eqb l.id (length known + 1)) (has_outside v l.lits || has_double l.lits)
    (hints_fault known l.lits l.hints) (hints-own known l.hints l.lits)

-- ---- line by line

only-new : (old : Bool) (f : LineFault) → cond old (Some NotNew) None ≡ Some f → f ≡ NotNew
only-new true f e = cc
only-new false f e = absurd cc

module _ (v : ℕ) (clauses : List (List ℕ)) (l : line.Line) (lines : List line.Line) (at : ℕ) where
  abbrev Told : Option (ℕ × LineFault) → Type 0
  Told r = lines_fault (wrong_lemma v) clauses (suc at) (l ∷ lines) ≡ placed at (first_wrong r (first_empty (l ∷ lines)))

  abbrev rest_part : Option Fault
  rest_part = lines_fault (wrong_lemma v) (clauses ++ l.lits ∷ []) (suc (suc at)) lines

  new-of : (own : Option LineFault) → fault_of v clauses l ≡ own → new_fault_of v clauses l ≡ new_first own (is_subsumed clauses l.lits)
  new-of own e = ap (λ (o : Option LineFault). new_first o (is_subsumed clauses l.lits)) e

  lemma-of : (own : Option LineFault) → fault_of v clauses l ≡ own → wrong_lemma v clauses l ≡ own_first own (wrong_clause clauses l.lits)
  lemma-of own e = ap (λ (o : Option LineFault). own_first o (wrong_clause clauses l.lits)) e

  front : (o : Option Kind) → wrong_lemma v clauses l ≡ o → lines_fault (wrong_lemma v) clauses (suc at) (l ∷ lines) ≡ behind o (suc at) rest_part
  front o e = ap (λ (x : Option Kind). behind x (suc at) rest_part) e

  -- the first line is refused
  refused-first : (f : LineFault) (r : Option (ℕ × LineFault)) → new_fault_of v clauses l ≡ Some f → Refuses v clauses (l ∷ lines) r
      → r ≡ Some (1, f)
  refused-first f None e h = (let none : new_fault_of v clauses l ≡ None = new-faultless v clauses l h.0 in absurd cc)
  refused-first f (Some (zero, k)) e h = absurd h
  refused-first f (Some (suc zero, k)) e h = (let same : k ≡ f = cc in ap (λ (x : LineFault). Some (1, x)) same)
  refused-first f (Some (suc (suc n), k)) e h = (let none : new_fault_of v clauses l ≡ None = h.0 in absurd cc)

  by-own : (f : LineFault) (r : Option (ℕ × LineFault)) → fault_of v clauses l ≡ Some f → Refuses v clauses (l ∷ lines) r → Told r
  by-own f r e h =
      let own : is_not_new f ≡ false = subst IsOwn e (line-own v clauses l) in
      front (Some (kind.Line f)) (lemma-of (Some f) e)
      ∙ (sym (own-first at f (eqb (length l.lits) 0) (first_empty lines) own (empty-counts lines))
      ∙ ap (λ (x : Option (ℕ × LineFault)). placed at (first_wrong x (first_empty (l ∷ lines)))) (sym (refused-first f r (new-of (Some f) e) h)))

  by-empty : (r : Option (ℕ × LineFault)) → fault_of v clauses l ≡ None → l.lits ≡ [] → Refuses v clauses (l ∷ lines) r → Told r
  by-empty r e lits h =
      front (Some kind.WrongQuery) (lemma-of None e ∙ ap (wrong_clause clauses) lits)
      ∙ (sym (by-refused r h)
      ∙ ap (λ (xs : List ℕ). placed at (first_wrong r (cond (eqb (length xs) 0) (Some 1) (next_one (first_empty lines))))) (sym lits))
    where
      by-refused : (r : Option (ℕ × LineFault)) → Refuses v clauses (l ∷ lines) r
          → placed at (first_wrong r (Some 1)) ≡ Some (Line (suc at) kind.WrongQuery)
      by-refused None h = empty-none at
      by-refused (Some (zero, k)) h = absurd h
      by-refused (Some (suc zero, k)) h =
          ap (λ (f : LineFault). placed at (first_wrong (Some (1, f)) (Some 1)))
          (only-new (is_subsumed clauses l.lits) k (sym (new-of None e) ∙ h)) ∙ empty-old at
      by-refused (Some (suc (suc n), k)) h = empty-later at n k

  -- a line with a literal isn't the first empty one
  not-first : (x : ℕ) (xs : List ℕ) → l.lits ≡ x ∷ xs → first_empty (l ∷ lines) ≡ next_one (first_empty lines)
  not-first x xs lits =
      ap (λ (ys : List ℕ). cond (eqb (length ys) 0) (Some 1) (next_one (first_empty lines))) lits
      ∙ ap (λ (b : Bool). cond b (Some 1) (next_one (first_empty lines))) (ne_eqb (suc (length xs)) 0 (λ e. absurd (omega (arith, e))))

  clause-of : (x : ℕ) (xs : List ℕ) (old : Bool) → l.lits ≡ x ∷ xs → is_subsumed clauses l.lits ≡ old
      → wrong_clause clauses l.lits ≡ cond old (Some (kind.Line NotNew)) None
  clause-of x xs old lits is =
      ap (wrong_clause clauses) lits
      ∙ ap (λ (b : Bool). cond b (Some (kind.Line NotNew)) None) (ap (is_subsumed clauses) (sym lits) ∙ is)

  by-old : (x : ℕ) (xs : List ℕ) (r : Option (ℕ × LineFault)) → fault_of v clauses l ≡ None → l.lits ≡ x ∷ xs
      → is_subsumed clauses l.lits ≡ true → Refuses v clauses (l ∷ lines) r → Told r
  by-old x xs r e lits old h =
      let new : new_fault_of v clauses l ≡ Some NotNew = new-of None e ∙ ap (λ (b : Bool). cond b (Some NotNew) None) old in
      front (Some (kind.Line NotNew)) (lemma-of None e ∙ clause-of x xs true lits old)
      ∙ (sym (old-first at (first_empty lines) (empty-counts lines))
      ∙ (ap (λ (o : Option ℕ). placed at (first_wrong (Some (1, NotNew)) o)) (sym (not-first x xs lits))
      ∙ ap (λ (x : Option (ℕ × LineFault)). placed at (first_wrong x (first_empty (l ∷ lines)))) (sym (refused-first NotNew r new h))))

  by-new : (x : ℕ) (xs : List ℕ) (r : Option (ℕ × LineFault)) → fault_of v clauses l ≡ None → l.lits ≡ x ∷ xs
      → is_subsumed clauses l.lits ≡ false
      → ((s : Option (ℕ × LineFault)) → Refuses v (clauses ++ l.lits ∷ []) lines s → rest_part ≡ placed (suc at) (first_wrong s (first_empty lines)))
      → Refuses v clauses (l ∷ lines) r → Told r
  by-new x xs r e lits fresh rest h =
      front None (lemma-of None e ∙ clause-of x xs false lits fresh)
      ∙ (by-refused r h ∙ ap (λ (o : Option ℕ). placed at (first_wrong r o)) (sym (not-first x xs lits)))
    where
      none : new_fault_of v clauses l ≡ None
      none = new-of None e ∙ ap (λ (b : Bool). cond b (Some NotNew) None) fresh

      by-refused : (r : Option (ℕ × LineFault)) → Refuses v clauses (l ∷ lines) r
          → rest_part ≡ placed at (first_wrong r (next_one (first_empty lines)))
      by-refused None h = rest None h.1 ∙ later-none at (first_empty lines)
      by-refused (Some (zero, k)) h = absurd h
      by-refused (Some (suc zero, k)) h = (let there : new_fault_of v clauses l ≡ None = none in absurd cc)
      by-refused (Some (suc (suc n), k)) h = rest (Some (suc n, k)) h.1 ∙ later at (suc n) k (first_empty lines)

-- what is wrong first with the lemmas, by what the checker refused and the first empty line
pub first-wrong-is : (v : ℕ) (lines : List line.Line) (clauses : List (List ℕ)) (at : ℕ) (r : Option (ℕ × LineFault))
    → Refuses v clauses lines r → lines_fault (wrong_lemma v) clauses (suc at) lines ≡ placed at (first_wrong r (first_empty lines))
first-wrong-is v [] clauses at None h = refl
first-wrong-is v [] clauses at (Some x) h = absurd h
first-wrong-is v (l ∷ lines) clauses at r h =
    by-fault (fault_of v clauses l) refl l.lits refl (is_subsumed clauses l.lits) refl
    (λ s later. first-wrong-is v lines (clauses ++ l.lits ∷ []) (suc at) s later)
  where
    by-fault : (own : Option LineFault) → fault_of v clauses l ≡ own → (lits : List ℕ) → l.lits ≡ lits
        → (old : Bool) → is_subsumed clauses l.lits ≡ old
        → ((s : Option (ℕ × LineFault)) → Refuses v (clauses ++ l.lits ∷ []) lines s
        → lines_fault (wrong_lemma v) (clauses ++ l.lits ∷ []) (suc (suc at)) lines ≡ placed (suc at) (first_wrong s (first_empty lines)))
        → lines_fault (wrong_lemma v) clauses (suc at) (l ∷ lines) ≡ placed at (first_wrong r (first_empty (l ∷ lines)))
    by-fault (Some f) e lits is old o rest = by-own v clauses l lines at f r e h
    by-fault None e [] is old o rest = by-empty v clauses l lines at r e is h
    by-fault None e (x ∷ xs) is true o rest = by-old v clauses l lines at x xs r e is o h
    by-fault None e (x ∷ xs) is false o rest = by-new v clauses l lines at x xs r e is o rest h

-- ---- by the checker's verdict

pub of-verdict : (v : ℕ) (clauses : List (List ℕ)) (lines : List line.Line) (verdict : Verdict)
    → (verdict ≡ Accepted → IsAccepted (FollowsNew v) clauses lines) → (verdict ≡ NoEmpty → LacksEmpty (FollowsNew v) clauses lines)
    → ((n : ℕ) (f : LineFault) → verdict ≡ Refused n f → FailsFirst (new_fault_of v) clauses lines n f)
    → Refuses v clauses lines (refused_in verdict)
of-verdict v clauses lines Accepted accepted lacks refused = (accepted refl).each
of-verdict v clauses lines NoEmpty accepted lacks refused = (lacks refl).each
of-verdict v clauses lines (Refused n f) accepted lacks refused = refused n f refl

module _ (v : ℕ) (clauses : List (List ℕ)) (lines : List line.Line) (verdict : Verdict) (r : Option (ℕ × LineFault)) (o : Option ℕ) (w : Option (ℕ × Kind)) where
  by-parts : r ≡ refused_in verdict → o ≡ first_empty lines → w ≡ first_wrong r o → w ≡ first_wrong (refused_in verdict) (first_empty lines)
  by-parts a b c = c ∙ (ap (λ (x : Option (ℕ × LineFault)). first_wrong x o) a ∙ ap (first_wrong (refused_in verdict)) b)

  pub wrong-told : Refuses v clauses lines (refused_in verdict) → r ≡ refused_in verdict → o ≡ first_empty lines → w ≡ first_wrong r o
      → (at : ℕ) → lines_fault (wrong_lemma v) clauses (suc at) lines ≡ placed at w
  wrong-told refuses a b c at = first-wrong-is v lines clauses at (refused_in verdict) refuses ∙ ap (placed at) (sym (by-parts a b c))
