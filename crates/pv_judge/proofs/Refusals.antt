-- What the checker's verdict on a log that refutes says of its first fault.
use Rattle.std.proofs.Common.{◌≡◌, ℕ, zero, suc, ◌+◌, List, [], ◌∷◌, ◌++◌, ap, ◌∙◌, Option, Some, None, arith}
use Rattle.pv_cnf.specs.Clause.{Cnf}
use Rattle.pv_log.specs.declared.line.Line as line
use Rattle.pv_log.specs.declared.fault.LineFault.{LineFault}
use Rattle.pv_log.specs.Follows.{Follows, fault_of, LacksEmpty, FailsFirst, ends_empty}
use Rattle.pv_valid.specs.declared.fault.Kind.TheVariants as kind
use Rattle.pv_valid.specs.declared.fault.Fault.{Fault}
use Rattle.pv_valid.specs.declared.fault.Fault.TheVariants.{Line}
use Rattle.pv_valid.specs.Walk.{or_else, unless, lines_fault, kind_in, wrong_line, refuting_fault}
use Rattle.pv_valid.proofs.ForCallers.{follows-clear}

-- what is wrong first with a line that has this fault, or none, and lines after it
abbrev behind : ℕ → Option Fault → Option LineFault → Option Fault
behind at rest o = elim (kind_in o) as (λ _. Option Fault) [ Some why ↦ Some (Line at why) | None ↦ rest ]

fails-at : (v : ℕ) (log : List line.Line) (clauses : List (List ℕ)) (at n : ℕ) (why : LineFault)
    → FailsFirst (fault_of v) clauses log n why → lines_fault (wrong_line v) clauses (suc at) log ≡ Some (Line (at + n) (kind.Line why))
fails-at v [] clauses at n why h = absurd h
fails-at v (l ∷ log) clauses at zero why h = absurd h
fails-at v (l ∷ log) clauses at (suc zero) why h =
    let here : suc at ≡ at + 1 = omega arith in
    ap (behind (suc at) (lines_fault (wrong_line v) (clauses ++ l.lits ∷ []) (suc (suc at)) log)) h
    ∙ ap (λ (n : ℕ). Some (Line n (kind.Line why))) here
fails-at v (l ∷ log) clauses at (suc (suc n)) why h =
    let there : suc at + suc n ≡ at + suc (suc n) = omega arith in
    ap (behind (suc at) (lines_fault (wrong_line v) (clauses ++ l.lits ∷ []) (suc (suc at)) log)) h.0
    ∙ (fails-at v log (clauses ++ l.lits ∷ []) (suc at) (suc n) why h.1 ∙ ap (λ (n : ℕ). Some (Line n (kind.Line why))) there)

module _ (f : Cnf) (at : ℕ) (log : List line.Line) where
  pub refused : (n : ℕ) (why : LineFault) → FailsFirst (fault_of f.variables) f.clauses log n why
      → refuting_fault f at log ≡ Some (Line (at + n) (kind.Line why))
  refused n why h = ap (λ (o : Option Fault). or_else o (unless (ends_empty log) at kind.NoEmpty)) (fails-at f.variables log f.clauses at n why h)

  pub lacks : LacksEmpty (Follows f.variables) f.clauses log → refuting_fault f at log ≡ Some (Line at kind.NoEmpty)
  lacks h =
      ap (λ (o : Option Fault). or_else o (unless (ends_empty log) at kind.NoEmpty))
      (follows-clear f.variables log f.clauses (suc at) h.each)
      ∙ ap (λ b. unless b at kind.NoEmpty) h.unfinished
