-- Nothing is wrong first with a log exactly where it is as it has to be: line by line (`each-clear`, `clear-each`), then the whole.
use Rattle.std.proofs.Common.{◌≡◌, ℕ, suc, ◌+◌, ◌*◌, ◌<◌, Bool, true, false, cond, eqb, List, [], ◌∷◌, ◌++◌, map, length, refl, ap, Option, Some, None, arith}
use Rattle.std.proofs.lemmas.Bool.{eqb-true, eq-eqb}
use Rattle.pv_cnf.specs.Clause.{Cnf}
use Rattle.pv_log.specs.declared.line.Line as line
use Rattle.pv_log.specs.declared.fault.LineFault.{LineFault}
use Rattle.pv_log.specs.declared.fault.LineFault.TheVariants.{NotNew}
use Rattle.pv_log.specs.Follows.{Follows, fault_of, EachFollows, ends_empty, IsAccepted}
use Rattle.pv_log.specs.Newness.{FollowsNew, NoneEmpty, is_subsumed}
use Rattle.pv_log.proofs.ForCallers.{faultless-follows, follows-faultless}
use Rattle.pv_solver.specs.Lemmas.{IsLemma, AreLemmas}
use Rattle.pv_valid.specs.declared.fault.Kind.{Kind}
use Rattle.pv_valid.specs.declared.fault.Kind.TheVariants as kind
use Rattle.pv_valid.specs.declared.fault.Fault.{Fault}
use Rattle.pv_valid.specs.declared.fault.Fault.TheVariants.{Line}
use Rattle.pv_valid.specs.Validity.{with_next, first_sum_past, HasBudget, HasNeed, IsNextLemma}
use Rattle.pv_valid.specs.Walk.{or_else, unless, lines_fault, kind_in, wrong_line, wrong_clause, wrong_lemma, refuting_fault, budget_fault, need_fault, next_fault, is_same}

-- ---- one after another

pub both-none : (x y : Option Fault) → or_else x y ≡ None → (x ≡ None) × (y ≡ None)
both-none None y e = (refl, e)
both-none (Some fault) y e = absurd cc

pub none-both : (x y : Option Fault) → x ≡ None → y ≡ None → or_else x y ≡ None
none-both None y e f = f
none-both (Some fault) y e f = absurd cc

pub is-so : (b : Bool) (at : ℕ) (why : Kind) → unless b at why ≡ None → b ≡ true
is-so true at why e = refl
is-so false at why e = absurd cc

pub so-is : (b : Bool) (at : ℕ) (why : Kind) → b ≡ true → unless b at why ≡ None
so-is true at why e = refl
so-is false at why e = absurd cc

-- ---- line by line

abbrev Wrong : Type 0
Wrong = List (List ℕ) → line.Line → Option Kind

-- what is wrong first with a line that is so, and lines after it
abbrev behind : Option Kind → ℕ → Option Fault → Option Fault
behind o at rest = elim o as (λ _. Option Fault) [ Some why ↦ Some (Line at why) | None ↦ rest ]

behind-none : (o : Option Kind) (at : ℕ) (rest : Option Fault) → behind o at rest ≡ None → (o ≡ None) × (rest ≡ None)
behind-none None at rest e = (refl, e)
behind-none (Some why) at rest e = absurd cc

none-behind : (o : Option Kind) (at : ℕ) (rest : Option Fault) → o ≡ None → rest ≡ None → behind o at rest ≡ None
none-behind None at rest e f = f
none-behind (Some why) at rest e f = absurd cc

each-clear : (wrong : Wrong) (lines : List line.Line) (clauses : List (List ℕ)) (at : ℕ) → lines_fault wrong clauses at lines ≡ None
    → EachFollows (λ known l. wrong known l ≡ None) clauses lines
each-clear wrong [] clauses at e = tt
each-clear wrong (l ∷ lines) clauses at e =
    let parts = behind-none (wrong clauses l) at (lines_fault wrong (clauses ++ l.lits ∷ []) (suc at) lines) e in
    (parts.0, each-clear wrong lines (clauses ++ l.lits ∷ []) (suc at) parts.1)

clear-each : (wrong : Wrong) (lines : List line.Line) (clauses : List (List ℕ)) (at : ℕ)
    → EachFollows (λ known l. wrong known l ≡ None) clauses lines → lines_fault wrong clauses at lines ≡ None
clear-each wrong [] clauses at all = refl
clear-each wrong (l ∷ lines) clauses at all = none-behind (wrong clauses l) at (lines_fault wrong (clauses ++ l.lits ∷ []) (suc at) lines)
    all.0 (clear-each wrong lines (clauses ++ l.lits ∷ []) (suc at) all.1)

each-as : (P Q : List (List ℕ) → line.Line → Type 0) → ((known : List (List ℕ)) (l : line.Line) → P known l → Q known l)
    → (lines : List line.Line) (clauses : List (List ℕ)) → EachFollows P clauses lines → EachFollows Q clauses lines
each-as P Q go [] clauses all = tt
each-as P Q go (l ∷ lines) clauses all = (go clauses l all.0, each-as P Q go lines (clauses ++ l.lits ∷ []) all.1)

-- ---- a log that refutes

no-kind : (o : Option LineFault) → kind_in o ≡ None → o ≡ None
no-kind None e = refl
no-kind (Some fault) e = absurd cc

line-follows : (v : ℕ) (known : List (List ℕ)) (l : line.Line) → wrong_line v known l ≡ None → Follows v known l
line-follows v known l e = faultless-follows v known l (no-kind (fault_of v known l) e)

follows-line : (v : ℕ) (known : List (List ℕ)) (l : line.Line) → Follows v known l → wrong_line v known l ≡ None
follows-line v known l f = ap kind_in (follows-faultless v known l f)

-- nothing is wrong with lines that follow
pub follows-clear : (v : ℕ) (log : List line.Line) (clauses : List (List ℕ)) (at : ℕ) → EachFollows (Follows v) clauses log
    → lines_fault (wrong_line v) clauses at log ≡ None
follows-clear v log clauses at all = clear-each (wrong_line v) log clauses at
    (each-as (Follows v) (λ known l. wrong_line v known l ≡ None) (follows-line v) log clauses all)

pub refuting-accepted : (f : Cnf) (at : ℕ) (log : List line.Line) → refuting_fault f at log ≡ None → IsAccepted (Follows f.variables) f.clauses log
refuting-accepted f at log e =
    let parts = both-none (lines_fault (wrong_line f.variables) f.clauses (suc at) log) (unless (ends_empty log) at kind.NoEmpty) e in
    record {
      each = each-as (λ known l. wrong_line f.variables known l ≡ None) (Follows f.variables) (line-follows f.variables) log f.clauses
          (each-clear (wrong_line f.variables) log f.clauses (suc at) parts.0);
      ends = is-so (ends_empty log) at kind.NoEmpty parts.1;
    }

pub accepted-refuting : (f : Cnf) (at : ℕ) (log : List line.Line) → IsAccepted (Follows f.variables) f.clauses log → refuting_fault f at log ≡ None
accepted-refuting f at log a =
    none-both (lines_fault (wrong_line f.variables) f.clauses (suc at) log) (unless (ends_empty log) at kind.NoEmpty)
    (clear-each (wrong_line f.variables) log f.clauses (suc at)
    (each-as (Follows f.variables) (λ known l. wrong_line f.variables known l ≡ None) (follows-line f.variables) log f.clauses a.each))
    (so-is (ends_empty log) at kind.NoEmpty a.ends)

-- ---- lemmas

abbrev own_first : Option LineFault → Option Kind → Option Kind
own_first o rest = elim o as (λ _. Option Kind) [ Some fault ↦ Some (kind.Line fault) | None ↦ rest ]

own-none : (o : Option LineFault) (rest : Option Kind) → own_first o rest ≡ None → (o ≡ None) × (rest ≡ None)
own-none None rest e = (refl, e)
own-none (Some fault) rest e = absurd cc

none-own : (o : Option LineFault) (rest : Option Kind) → o ≡ None → rest ≡ None → own_first o rest ≡ None
none-own None rest e f = f
none-own (Some fault) rest e f = absurd cc

old-not : (b : Bool) → cond b (Some (kind.Line NotNew)) None ≡ None → b ≡ false
old-not true e = absurd cc
old-not false e = refl

clause-clear : (known : List (List ℕ)) (lits : List ℕ) → wrong_clause known lits ≡ None → (0 < length lits) × (is_subsumed known lits ≡ false)
clause-clear known [] e = absurd cc
clause-clear known (lit ∷ lits) e = (omega arith, old-not (is_subsumed known (lit ∷ lits)) e)

clear-clause : (known : List (List ℕ)) (lits : List ℕ) → 0 < length lits → is_subsumed known lits ≡ false → wrong_clause known lits ≡ None
clear-clause known [] some fresh = absurd (omega arith)
clear-clause known (lit ∷ lits) some fresh = ap (λ (b : Bool). cond b (Some (kind.Line NotNew)) None) fresh

is-lemma : (v : ℕ) (known : List (List ℕ)) (l : line.Line) → wrong_lemma v known l ≡ None → IsLemma v known l
is-lemma v known l e =
    let parts = own-none (fault_of v known l) (wrong_clause known l.lits) e in
    let clause = clause-clear known l.lits parts.1 in
    record { new = record { follows = faultless-follows v known l parts.0; fresh = clause.1 }; nonempty = clause.0 }

lemma-is : (v : ℕ) (known : List (List ℕ)) (l : line.Line) → IsLemma v known l → wrong_lemma v known l ≡ None
lemma-is v known l is = none-own (fault_of v known l) (wrong_clause known l.lits) (follows-faultless v known l is.new.follows)
    (clear-clause known l.lits is.nonempty is.new.fresh)

none-empty : (v : ℕ) (lines : List line.Line) (clauses : List (List ℕ)) → EachFollows (IsLemma v) clauses lines → NoneEmpty lines
none-empty v [] clauses all = tt
none-empty v (l ∷ lines) clauses all = (all.0.nonempty, none-empty v lines (clauses ++ l.lits ∷ []) all.1)

each-lemma : (v : ℕ) (lines : List line.Line) (clauses : List (List ℕ)) → EachFollows (FollowsNew v) clauses lines → NoneEmpty lines
    → EachFollows (IsLemma v) clauses lines
each-lemma v [] clauses all some = tt
each-lemma v (l ∷ lines) clauses all some =
    (record { new = all.0; nonempty = some.0 }, each-lemma v lines (clauses ++ l.lits ∷ []) all.1 some.1)

pub are-lemmas : (v : ℕ) (clauses : List (List ℕ)) (at : ℕ) (log : List line.Line) → lines_fault (wrong_lemma v) clauses at log ≡ None
    → AreLemmas v clauses log
are-lemmas v clauses at log e =
    let each = each-as (λ known l. wrong_lemma v known l ≡ None) (IsLemma v) (is-lemma v) log clauses (each-clear (wrong_lemma v) log clauses at e) in
    record {
      each = each-as (IsLemma v) (FollowsNew v) (λ known l is. is.new) log clauses each;
      none_empty = none-empty v log clauses each;
    }

pub lemmas-are : (v : ℕ) (clauses : List (List ℕ)) (at : ℕ) (log : List line.Line) → AreLemmas v clauses log
    → lines_fault (wrong_lemma v) clauses at log ≡ None
lemmas-are v clauses at log are = clear-each (wrong_lemma v) log clauses at
    (each-as (IsLemma v) (λ known l. wrong_lemma v known l ≡ None) (lemma-is v) log clauses (each-lemma v log clauses are.each are.none_empty))

-- ---- limits that were spent

pub budget-is : (b : ℕ) (f : Cnf) (at : ℕ) (log : List line.Line) → budget_fault b f at log ≡ None
    → AreLemmas f.variables f.clauses log × HasBudget b f log
budget-is b f at log e =
    let parts = both-none (unless (eqb (length log) b) at kind.WrongBudget) (lines_fault (wrong_lemma f.variables) f.clauses (suc at) log) e in
    (are-lemmas f.variables f.clauses (suc at) log parts.1, eqb-true (length log) b (is-so (eqb (length log) b) at kind.WrongBudget parts.0))

pub is-budget : (b : ℕ) (f : Cnf) (at : ℕ) (log : List line.Line) → AreLemmas f.variables f.clauses log → HasBudget b f log
    → budget_fault b f at log ≡ None
is-budget b f at log are has = none-both (unless (eqb (length log) b) at kind.WrongBudget)
    (lines_fault (wrong_lemma f.variables) f.clauses (suc at) log)
    (so-is (eqb (length log) b) at kind.WrongBudget (eq-eqb (length log) b has)) (lemmas-are f.variables f.clauses (suc at) log are)

same-is : (o : Option ℕ) (n : ℕ) → is_same o n ≡ true → o ≡ Some n
same-is None n e = absurd cc
same-is (Some m) n e = ap (λ (k : ℕ). Some k) (eqb-true m n e)

is-same : (o : Option ℕ) (n : ℕ) → o ≡ Some n → is_same o n ≡ true
is-same None n e = absurd cc
is-same (Some m) n e = (let same : m ≡ n = cc in eq-eqb m n same)

next-is : (f : Cnf) (at : ℕ) (log : List line.Line) (next : Option line.Line) → next_fault f at log next ≡ None → IsNextLemma f log next
next-is f at log None e = tt
next-is f at log (Some next) e =
    is-lemma f.variables (f.clauses ++ map (λ l. l.lits) log) next
    (each-clear (wrong_lemma f.variables) (next ∷ []) (f.clauses ++ map (λ l. l.lits) log) at e).0

is-next : (f : Cnf) (at : ℕ) (log : List line.Line) (next : Option line.Line) → IsNextLemma f log next → next_fault f at log next ≡ None
is-next f at log None is = refl
is-next f at log (Some next) is = clear-each (wrong_lemma f.variables) (next ∷ []) (f.clauses ++ map (λ l. l.lits) log) at
    (lemma-is f.variables (f.clauses ++ map (λ l. l.lits) log) next is, tt)

module _ (words need : ℕ) (next : Option line.Line) (f : Cnf) (at : ℕ) (log : List line.Line) where
  abbrev sum : Option ℕ
  sum = first_sum_past words f (with_next log next) (2 * f.variables)

  abbrev lines_part : Option Fault
  lines_part = lines_fault (wrong_lemma f.variables) f.clauses (suc at) log

  abbrev need_part : Option Fault
  need_part = unless (is_same sum need) (suc at + length log) kind.WrongNeed

  abbrev next_part : Option Fault
  next_part = next_fault f (suc (suc at) + length log) log next

  pub need-is : need_fault words need next f at log ≡ None → AreLemmas f.variables f.clauses log × HasNeed words need next f log
  need-is e =
      let first = both-none lines_part (or_else need_part next_part) e in
      let rest = both-none need_part next_part first.1 in (
        are-lemmas f.variables f.clauses (suc at) log first.0,
        record {
          sum = same-is sum need (is-so (is_same sum need) (suc at + length log) kind.WrongNeed rest.0);
          lemma = next-is f (suc (suc at) + length log) log next rest.1;
        },
      )

  pub is-need : AreLemmas f.variables f.clauses log → HasNeed words need next f log → need_fault words need next f at log ≡ None
  is-need are has = none-both lines_part (or_else need_part next_part) (lemmas-are f.variables f.clauses (suc at) log are)
      (none-both need_part next_part (so-is (is_same sum need) (suc at + length log) kind.WrongNeed (is-same sum need has.sum))
      (is-next f (suc (suc at) + length log) log next has.lemma))
