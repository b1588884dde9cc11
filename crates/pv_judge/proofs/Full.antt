-- Something is wrong with a log of as many lines as ids can count: where a clause comes before it the last line's id is too small to be the
-- next one, and where none does the first line has no clause that it could follow.
use Rattle.std.proofs.Common.{◌≡◌, ℕ, zero, suc, ◌+◌, ◌-◌, ◌<◌, List, [], ◌∷◌, ◌++◌, map, length, refl, Option, Some, None, arith}
use Rattle.std.specs.Prelude.{slice_get}
use Rattle.std.proofs.lemmas.List.{length-append}
use Rattle.pv_cnf.specs.Clause.{Cnf}
use Rattle.pv_log.specs.declared.line.Line as line
use Rattle.pv_log.specs.declared.fault.LineFault.{LineFault}
use Rattle.pv_log.specs.Propagation.{named, LeadsToFalse}
use Rattle.pv_log.specs.Follows.{Follows, fault_of}
use Rattle.pv_log.proofs.ForCallers.{faultless-follows}
use Rattle.pv_valid.specs.declared.fault.Kind.{Kind}
use Rattle.pv_valid.specs.declared.fault.Kind.TheVariants as kind
use Rattle.pv_valid.specs.declared.fault.Fault.{Fault}
use Rattle.pv_valid.specs.declared.fault.Fault.TheVariants.{Line}
use Rattle.pv_valid.specs.Walk.{lines_fault, wrong_clause, wrong_lemma, need_fault}
use Rattle.pv_judge.specs.Steps.{placed}
use Rattle.pv_judge.proofs.Spending.{need-line}

-- ---- one line

fault-none : (o : Option LineFault) (rest : Option Kind)
    → (elim o as (λ _. Option Kind) [ Some fault ↦ Some (kind.Line fault) | None ↦ rest ]) ≡ None → o ≡ None
fault-none None rest e = refl
fault-none (Some fault) rest e = absurd cc

lemma-follows : (v : ℕ) (clauses : List (List ℕ)) (l : line.Line) → wrong_lemma v clauses l ≡ None → Follows v clauses l
lemma-follows v clauses l e = faultless-follows v clauses l (fault-none (fault_of v clauses l) (wrong_clause clauses l.lits) e)

front-clear : (o : Option Kind) (at : ℕ) (rest : Option Fault)
    → (elim o as (λ _. Option Fault) [ Some why ↦ Some (Line at why) | None ↦ rest ]) ≡ None → (o ≡ None) × (rest ≡ None)
front-clear None at rest e = (refl, e)
front-clear (Some why) at rest e = absurd cc

-- ---- no clause

none-named : (h : ℕ) (clause : List ℕ) → named [] h ≡ Some clause → ⊥
none-named zero clause e = absurd cc
none-named (suc n) clause e = absurd cc

none-led : (lits hints : List ℕ) → LeadsToFalse [] lits hints → ⊥
none-led lits [] led = led
none-led lits (h ∷ []) led = none-named h led.0 led.1
none-led lits (h ∷ next ∷ hints) led = none-named h led.0 led.2

-- ---- all lines

module _ (v : ℕ) where
  ids-count : (lines : List line.Line) (clauses : List (List ℕ)) (at n id : ℕ) → lines_fault (wrong_lemma v) clauses at lines ≡ None
      → slice_get (map (λ (l : line.Line). l.id) lines) n ≡ Some id → id ≡ length clauses + 1 + n
  ids-count [] clauses at n id clear is = absurd cc
  ids-count (l ∷ lines) clauses at zero id clear is =
      let parts = front-clear (wrong_lemma v clauses l) at (lines_fault (wrong_lemma v) (clauses ++ l.lits ∷ []) (suc at) lines) clear in
      let next = (lemma-follows v clauses l parts.0).next in
      let same : l.id ≡ id = cc in
      omega (arith, next, same)
  ids-count (l ∷ lines) clauses at (suc n) id clear is =
      let parts = front-clear (wrong_lemma v clauses l) at (lines_fault (wrong_lemma v) (clauses ++ l.lits ∷ []) (suc at) lines) clear in
      let rest = ids-count lines (clauses ++ l.lits ∷ []) (suc at) n id parts.1 is in
      let all = length-append clauses (l.lits ∷ []) in
      omega (arith, rest, all)

  some-clause : (lines : List line.Line) (clauses : List (List ℕ)) (at : ℕ) → 0 < length lines
      → lines_fault (wrong_lemma v) clauses at lines ≡ None → 0 < length clauses
  some-clause [] clauses at some clear = absurd (omega (arith, some))
  some-clause (l ∷ lines) [] at some clear =
      let parts = front-clear (wrong_lemma v [] l) at (lines_fault (wrong_lemma v) ([] ++ l.lits ∷ []) (suc at) lines) clear in
      absurd (none-led l.lits l.hints (lemma-follows v [] l parts.0).refutes)
  some-clause (l ∷ lines) (c ∷ clauses) at some clear = omega arith

  full-wrong : (lines : List line.Line) (clauses : List (List ℕ)) (at n id : ℕ) → length lines ≡ 4294967295 → n ≡ length lines
      → slice_get (map (λ (l : line.Line). l.id) lines) (n - 1) ≡ Some id → id < 4294967296
      → lines_fault (wrong_lemma v) clauses at lines ≡ None → ⊥
  full-wrong lines clauses at n id full all is fits clear =
      let some = some-clause lines clauses at (omega (arith, full)) clear in
      let counts = ids-count lines clauses at (n - 1) id clear is in
      omega (arith, some, counts, full, all, fits)

-- so that is what is wrong first, whatever comes next
pub full-told : (f : Cnf) (log : List line.Line) (at words need : ℕ) (next : Option line.Line) (w : Option (ℕ × Kind)) (n id : ℕ)
    → length log ≡ 4294967295 → n ≡ length log → slice_get (map (λ (l : line.Line). l.id) log) (n - 1) ≡ Some id → id < 4294967296
    → lines_fault (wrong_lemma f.variables) f.clauses (suc at) log ≡ placed at w → need_fault words need next f at log ≡ placed at w
full-told f log at words need next None n id full all is fits told =
    absurd (full-wrong f.variables log f.clauses (suc at) n id full all is fits told)
full-told f log at words need next (Some w) n id full all is fits told = need-line f log at words need next (Line (at + w.0) w.1) told
