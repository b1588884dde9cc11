-- Lemmas and the one that comes next as one log, taken apart: what is wrong first lies in the log or in the line after it.
use Rattle.std.proofs.Common.{◌≡◌, ℕ, zero, suc, ◌+◌, ◌-◌, ◌*◌, ◌<◌, ◌≤◌, Bool, true, false, eqb, List, [], ◌∷◌, ◌++◌, map, length, refl, ap, sym, ◌∙◌, Option, Some, None, append_assoc, arith}
use Rattle.std.specs.Prelude.{slice_get}
use Rattle.std.proofs.lemmas.Bool.{leb-true, leb-false}
use Rattle.std.proofs.lemmas.List.{append-nil, length-append}
use Rattle.pv_cnf.specs.Clause.{Cnf}
use Rattle.pv_log.specs.declared.line.Line as line
use Rattle.pv_valid.specs.declared.fault.Kind.{Kind}
use Rattle.pv_valid.specs.declared.fault.Kind.TheVariants as kind
use Rattle.pv_valid.specs.declared.fault.Fault.{Fault}
use Rattle.pv_valid.specs.declared.fault.Fault.TheVariants.{Line}
use Rattle.pv_valid.specs.Validity.{with_next, first_sum_past}
use Rattle.pv_valid.specs.Walk.{or_else, unless, lines_fault, wrong_lemma, budget_fault, need_fault, next_fault, is_same}
use Rattle.pv_judge.specs.Joining.{IsNextAt}
use Rattle.pv_judge.specs.Steps.{placed, is_in_log}

-- ---- a log and a line after it

abbrev pub lits_of : line.Line → List ℕ
lits_of l = l.lits

module _ (wrong : List (List ℕ) → line.Line → Option Kind) (next : line.Line) where
  -- the line after the log is judged where nothing is wrong before
  appended : (log : List line.Line) (clauses : List (List ℕ)) (at : ℕ)
      → lines_fault wrong clauses at (log ++ next ∷ [])
      ≡ or_else (lines_fault wrong clauses at log) (lines_fault wrong (clauses ++ map lits_of log) (at + length log) (next ∷ []))
  appended [] clauses at =
      let is : at ≡ at + 0 = omega arith in
      ap (λ (cs : List (List ℕ)). lines_fault wrong cs at (next ∷ [])) (sym (append-nil clauses))
      ∙ ap (λ (n : ℕ). lines_fault wrong (clauses ++ []) n (next ∷ [])) is
  appended (l ∷ log) clauses at =
      by-first (wrong clauses l) (appended log (clauses ++ l.lits ∷ []) (suc at))
    where
      by-first : (o : Option Kind)
          → lines_fault wrong (clauses ++ l.lits ∷ []) (suc at) (log ++ next ∷ [])
          ≡ or_else (lines_fault wrong (clauses ++ l.lits ∷ []) (suc at) log)
          (lines_fault wrong ((clauses ++ l.lits ∷ []) ++ map lits_of log) (suc at + length log) (next ∷ []))
          → (elim o as (λ _. Option Fault) [
            | Some why ↦ Some (Line at why)
            | None ↦ lines_fault wrong (clauses ++ l.lits ∷ []) (suc at) (log ++ next ∷ [])
          ])
          ≡ or_else (elim o as (λ _. Option Fault) [
            | Some why ↦ Some (Line at why)
            | None ↦ lines_fault wrong (clauses ++ l.lits ∷ []) (suc at) log
          ]) (lines_fault wrong (clauses ++ map lits_of (l ∷ log)) (at + length (l ∷ log)) (next ∷ []))
      by-first (Some why) rest = refl
      by-first None rest =
          let is : suc at + length log ≡ at + length (l ∷ log) = omega arith in
          rest ∙ ap (or_else (lines_fault wrong (clauses ++ l.lits ∷ []) (suc at) log))
          (ap (λ (cs : List (List ℕ)). lines_fault wrong cs (suc at + length log) (next ∷ [])) (append_assoc clauses (l.lits ∷ []) (map lits_of log))
          ∙ ap (λ (n : ℕ). lines_fault wrong (clauses ++ map lits_of (l ∷ log)) n (next ∷ [])) is)

module _ (wrong : List (List ℕ) → line.Line → Option Kind) where
  told-within : (log : List line.Line) (clauses : List (List ℕ)) (at n : ℕ) (why : Kind)
      → lines_fault wrong clauses at log ≡ Some (Line n why) → (at ≤ n) × (n < at + length log)
  told-within [] clauses at n why e = absurd cc
  told-within (l ∷ log) clauses at n why e =
      by-first (wrong clauses l) (told-within log (clauses ++ l.lits ∷ []) (suc at) n why) e
    where
      by-first : (o : Option Kind)
          → (lines_fault wrong (clauses ++ l.lits ∷ []) (suc at) log ≡ Some (Line n why) → (suc at ≤ n) × (n < suc at + length log))
          → (elim o as (λ _. Option Fault) [
            | Some why ↦ Some (Line at why)
            | None ↦ lines_fault wrong (clauses ++ l.lits ∷ []) (suc at) log
          ]) ≡ Some (Line n why) → (at ≤ n) × (n < at + length (l ∷ log))
      by-first (Some other) later e = (let same : at ≡ n = cc in (omega (arith, same), omega (arith, same)))
      by-first None later e =
          (let rest = later e in let from = rest.0 in let to = rest.1 in
          (omega (arith, from), omega (arith, to)))

  -- where nothing is wrong, nothing is from another line on
  none-anywhere : (log : List line.Line) (clauses : List (List ℕ)) (at other : ℕ) → lines_fault wrong clauses at log ≡ None
      → lines_fault wrong clauses other log ≡ None
  none-anywhere [] clauses at other e = refl
  none-anywhere (l ∷ log) clauses at other e =
      by-first (wrong clauses l) (none-anywhere log (clauses ++ l.lits ∷ []) (suc at) (suc other)) e
    where
      by-first : (o : Option Kind)
          → (lines_fault wrong (clauses ++ l.lits ∷ []) (suc at) log ≡ None → lines_fault wrong (clauses ++ l.lits ∷ []) (suc other) log ≡ None)
          → (elim o as (λ _. Option Fault) [
            | Some why ↦ Some (Line at why)
            | None ↦ lines_fault wrong (clauses ++ l.lits ∷ []) (suc at) log
          ]) ≡ None
          → (elim o as (λ _. Option Fault) [
            | Some why ↦ Some (Line other why)
            | None ↦ lines_fault wrong (clauses ++ l.lits ∷ []) (suc other) log
          ]) ≡ None
      by-first (Some why) later e = absurd cc
      by-first None later e = later e

placed-none : (at : ℕ) (w : Option (ℕ × Kind)) → placed at w ≡ None → w ≡ None
placed-none at None e = refl
placed-none at (Some x) e = absurd cc

-- what is wrong is told of a line after the log, or nothing is
abbrev pub IsBehind : ℕ → Option (ℕ × Kind) → Type 0
IsBehind count None = Unit {0}
IsBehind count (Some w) = count < w.0

module _ (f : Cnf) (log : List line.Line) (at : ℕ) where
  abbrev lines_part : ℕ → Option Fault
  lines_part place = lines_fault (wrong_lemma f.variables) f.clauses place log

  -- what is wrong with a line of the log
  pub in-log : (next : Option line.Line) (n : ℕ) (why : Kind) → n ≤ length log
      → lines_fault (wrong_lemma f.variables) f.clauses (suc at) (with_next log next) ≡ Some (Line (at + n) why)
      → lines_part (suc at) ≡ Some (Line (at + n) why)
  in-log None n why le e = e
  in-log (Some next) n why le e =
      by-part (lines_part (suc at)) (sym (appended (wrong_lemma f.variables) next log f.clauses (suc at)) ∙ e)
    where
      by-part : (o : Option Fault)
          → or_else o (lines_fault (wrong_lemma f.variables) (f.clauses ++ map lits_of log) (suc at + length log) (next ∷ []))
          ≡ Some (Line (at + n) why)
          → o ≡ Some (Line (at + n) why)
      by-part (Some fault) e = e
      by-part None e =
          (let from = (told-within (wrong_lemma f.variables) (next ∷ []) (f.clauses ++ map lits_of log) (suc at + length log) (at + n) why e).0 in
          absurd (omega (arith, le, from)))

  -- nothing is wrong with the log
  pub log-clear : (next : Option line.Line) (w : Option (ℕ × Kind)) → IsBehind (length log) w
      → lines_fault (wrong_lemma f.variables) f.clauses (suc at) (with_next log next) ≡ placed at w → lines_part (suc at) ≡ None
  log-clear None None is e = e
  log-clear None (Some w) is e =
      (let to = (told-within (wrong_lemma f.variables) log f.clauses (suc at) (at + w.0) w.1 e).1 in absurd (omega (arith, is, to)))
  log-clear (Some next) w is e =
      by-part (lines_part (suc at)) refl w is (sym (appended (wrong_lemma f.variables) next log f.clauses (suc at)) ∙ e)
    where
      by-part : (o : Option Fault) → lines_part (suc at) ≡ o → (w : Option (ℕ × Kind)) → IsBehind (length log) w
          → or_else o (lines_fault (wrong_lemma f.variables) (f.clauses ++ map lits_of log) (suc at + length log) (next ∷ [])) ≡ placed at w
          → lines_part (suc at) ≡ None
      by-part None here w is e = here
      by-part (Some fault) here None is e = absurd cc
      by-part (Some fault) here (Some w) is e =
          (let told : lines_part (suc at) ≡ Some (Line (at + w.0) w.1) = here ∙ e in
          let to = (told-within (wrong_lemma f.variables) log f.clauses (suc at) (at + w.0) w.1 told).1 in
          absurd (omega (arith, is, to)))

  -- what is wrong with the line after it
  pub next-told : (next : Option line.Line) (w : Option (ℕ × Kind)) → IsBehind (length log) w
      → ((place : ℕ) → lines_fault (wrong_lemma f.variables) f.clauses (suc place) (with_next log next) ≡ placed place w)
      → lines_part (suc at) ≡ None → next_fault f (suc (suc at) + length log) log next ≡ placed (suc at) w
  next-told None None is e clear = refl
  next-told None (Some w) is e clear =
      (let to = (told-within (wrong_lemma f.variables) log f.clauses (suc at) (at + w.0) w.1 (e at)).1 in absurd (omega (arith, is, to)))
  next-told (Some next) w is e clear =
      let there = none-anywhere (wrong_lemma f.variables) log f.clauses (suc at) (suc (suc at)) clear in
      let behind_part = lines_fault (wrong_lemma f.variables) (f.clauses ++ map lits_of log) (suc (suc at) + length log) (next ∷ []) in
      ap (λ (o : Option Fault). or_else o behind_part) (sym there)
      ∙ (sym (appended (wrong_lemma f.variables) next log f.clauses (suc (suc at))) ∙ e (suc at))

  -- ---- the whole of what a limit on words asks

  module _ (words need : ℕ) (next : Option line.Line) where
    abbrev need_part : Bool → Option Fault
    need_part b = unless b (suc at + length log) kind.WrongNeed

    abbrev next_part : Option Fault
    next_part = next_fault f (suc (suc at) + length log) log next

    abbrev is_need : Bool
    is_need = is_same (first_sum_past words f (with_next log next) (2 * f.variables)) need

    pub need-line : (fault : Fault) → lines_part (suc at) ≡ Some fault → need_fault words need next f at log ≡ Some fault
    need-line fault e = ap (λ (o : Option Fault). or_else o (or_else (need_part is_need) next_part)) e

    pub need-sum : lines_part (suc at) ≡ None → is_need ≡ false
        → need_fault words need next f at log ≡ Some (Line (at + 1 + length log) kind.WrongNeed)
    need-sum e differs =
        let is : suc at + length log ≡ at + 1 + length log = omega arith in
        ap (λ (o : Option Fault). or_else o (or_else (need_part is_need) next_part)) e
        ∙ (ap (λ (b : Bool). or_else (need_part b) next_part) differs ∙ ap (λ (n : ℕ). Some (Line n kind.WrongNeed)) is)

    pub need-next : lines_part (suc at) ≡ None → is_need ≡ true → need_fault words need next f at log ≡ next_part
    need-next e same =
        ap (λ (o : Option Fault). or_else o (or_else (need_part is_need) next_part)) e
        ∙ ap (λ (b : Bool). or_else (need_part b) next_part) same

    -- what is wrong first lies in the log
    pub spend-within : (w : Option (ℕ × Kind)) → is_in_log w (length log) ≡ true
        → lines_fault (wrong_lemma f.variables) f.clauses (suc at) (with_next log next) ≡ placed at w
        → need_fault words need next f at log ≡ placed at w
    spend-within None within e = absurd cc
    spend-within (Some w) within e = need-line (Line (at + w.0) w.1) (in-log next w.0 w.1 (leb-true w.0 (length log) within) e)

    behind-log : (w : Option (ℕ × Kind)) → is_in_log w (length log) ≡ false → IsBehind (length log) w
    behind-log None out = tt
    behind-log (Some w) out = leb-false w.0 (length log) out

    -- it doesn't, and the sum is another
    pub spend-sum : (w : Option (ℕ × Kind)) → is_in_log w (length log) ≡ false
        → lines_fault (wrong_lemma f.variables) f.clauses (suc at) (with_next log next) ≡ placed at w
        → is_need ≡ false → need_fault words need next f at log ≡ Some (Line (at + 1 + length log) kind.WrongNeed)
    spend-sum w out e differs = need-sum (log-clear next w (behind-log w out) e) differs

    -- nor is it
    pub spend-next : (w : Option (ℕ × Kind)) → is_in_log w (length log) ≡ false
        → ((place : ℕ) → lines_fault (wrong_lemma f.variables) f.clauses (suc place) (with_next log next) ≡ placed place w)
        → is_need ≡ true → need_fault words need next f at log ≡ placed (at + 1) w
    spend-next w out e same =
        let behind = behind-log w out in
        let clear = log-clear next w behind (e at) in
        let is : suc at ≡ at + 1 = omega arith in
        need-next clear same ∙ (next-told next w behind e clear ∙ ap (λ (n : ℕ). placed n w) is)

  -- ---- and a limit on lemmas

  pub budget-wrong : (b : ℕ) → eqb (length log) b ≡ false → budget_fault b f at log ≡ Some (Line at kind.WrongBudget)
  budget-wrong b e = ap (λ (x : Bool). or_else (unless x at kind.WrongBudget) (lines_part (suc at))) e

  pub budget-lines : (b : ℕ) → eqb (length log) b ≡ true → budget_fault b f at log ≡ lines_part (suc at)
  budget-lines b e = ap (λ (x : Bool). or_else (unless x at kind.WrongBudget) (lines_part (suc at))) e

-- ---- the lines by number

module _ {X : Type 0} (part : line.Line → X) where
  got-left : (log rest : List line.Line) (n : ℕ) → n < length log → slice_get (map part (log ++ rest)) n ≡ slice_get (map part log) n
  got-left [] rest n lt = absurd (omega arith)
  got-left (l ∷ log) rest zero lt = refl
  got-left (l ∷ log) rest (suc n) lt = got-left log rest n (omega (arith, lt))

  got-last : (log : List line.Line) (l : line.Line) (n : ℕ) → n ≡ length log → slice_get (map part (log ++ l ∷ [])) n ≡ Some (part l)
  got-last [] l zero is = refl
  got-last [] l (suc n) is = absurd (omega (arith, is))
  got-last (x ∷ log) l zero is = absurd (omega (arith, is))
  got-last (x ∷ log) l (suc n) is = got-last log l n (omega (arith, is))

  -- the line that comes next
  pub next-got : (log : List line.Line) (next : Option line.Line) (l : line.Line) (n : ℕ) → next ≡ Some l → length log < n
      → n ≤ length (with_next log next) → slice_get (map part (with_next log next)) (n - 1) ≡ Some (part l)
  next-got log None l n is from to = absurd cc
  next-got log (Some x) l n is from to =
      let same : x ≡ l = cc in
      let all = length-append log (x ∷ []) in
      got-last log x (n - 1) (omega (arith, from, to, all)) ∙ ap (λ (y : line.Line). Some (part y)) same

  -- a line of the log
  pub own-got : (log : List line.Line) (next : Option line.Line) (x : X) (n : ℕ) → 1 ≤ n → n ≤ length log
      → slice_get (map part log) (n - 1) ≡ Some x → slice_get (map part (with_next log next)) (n - 1) ≡ Some x
  own-got log None x n from to is = is
  own-got log (Some l) x n from to is = got-left log (l ∷ []) (n - 1) (omega (arith, from, to)) ∙ is

-- a log and the line after it have one more line
pub length-next : (log : List line.Line) (next : Option line.Line) (l : line.Line) → next ≡ Some l
    → length (with_next log next) ≡ length log + 1
length-next log None l is = absurd cc
length-next log (Some x) l is = length-append log (x ∷ [])

pub length-none : (log : List line.Line) (next : Option line.Line) → next ≡ None → length (with_next log next) ≡ length log
length-none log None is = refl
length-none log (Some x) is = absurd cc

-- a line past the log's is the one that comes next
pub next-at : (log : List line.Line) (next : Option line.Line) (n : ℕ) → n ≤ length (with_next log next) → length log < n
    → IsNextAt log next n next
next-at log None n to from = absurd (omega (arith, to, from))
next-at log (Some l) n to from = (refl, from)
