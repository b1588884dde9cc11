-- What is wrong first with contents is one of their kinds: never that the bytes are no certificate, nor that memory ran out.
use Rattle.std.proofs.Common.{◌≡◌, ℕ, suc, ◌+◌, ◌*◌, refl, subst, Bool, true, false, cond, eqb, List, [], ◌∷◌, ◌++◌, map, length, Option, Some, None, ℤ}
use Rattle.std.specs.Prelude.{◌&&◌, nat_le}
use Rattle.pv_cnf.specs.Clause.{Cnf}
use Rattle.pv_machine.specs.Machines.{Values}
use Rattle.pv_log.specs.declared.line.Line as line
use Rattle.pv_log.specs.declared.fault.LineFault.{LineFault}
use Rattle.pv_log.specs.declared.fault.LineFault.TheVariants.{NotNew}
use Rattle.pv_log.specs.Follows.{fault_of, ends_empty}
use Rattle.pv_log.specs.Newness.{is_subsumed}
use Rattle.pv_claims.specs.declared.claim.Claim.{Claim}
use Rattle.pv_claims.specs.declared.claim.Claim.TheVariants.{Satisfied, Unreachable, Violated, Trapped, Reached, Depth, Loop, Lemmas, Region}
use Rattle.pv_claims.specs.declared.trace.Ending.{Ending}
use Rattle.pv_claims.specs.declared.trace.Trace.{Trace}
use Rattle.pv_claims.specs.TracePart.{trace_lines}
use Rattle.pv_cert.specs.declared.proof.Query.{Query}
use Rattle.pv_cert.specs.declared.proof.Query.TheVariants.{Base}
use Rattle.pv_cert.specs.declared.proof.Proof.{Proof}
use Rattle.pv_cert.specs.declared.certificate.Certificate.{Certificate}
use Rattle.pv_valid.specs.declared.fault.Kind.{Kind}
use Rattle.pv_valid.specs.declared.fault.Kind.TheVariants as kind
use Rattle.pv_valid.specs.declared.fault.Fault.{Fault}
use Rattle.pv_valid.specs.declared.fault.Fault.TheVariants.{TooManyGates, Line, NoMemory}
use Rattle.pv_valid.specs.Cases.{Case}
use Rattle.pv_valid.specs.Shown.{ending_of}
use Rattle.pv_valid.specs.Claims.{belongs, ends_as, expected, is_query}
use Rattle.pv_valid.specs.Validity.{with_next, first_sum_past}
use Rattle.pv_valid.specs.Walk.{or_else, unless, are_between, good_left, scans_fault, may_follow, begun_fault, trace_fault, lines_fault, kind_in, wrong_line, wrong_clause, wrong_lemma, refuting_fault, budget_fault, need_fault, next_fault, is_same, is_plain, gates_fault, proof_fault, behind_proof, proofs_fault, is_named, spent_fault, all_proofs_fault, certificate_fault}

abbrev pub IsContents : Kind → Type 0
IsContents kind.NotACertificate = ⊥
IsContents (kind.Line fault) = Unit {0}
IsContents kind.NoEmpty = Unit {0}
IsContents kind.WrongQuery = Unit {0}
IsContents kind.TraceDiffers = Unit {0}
IsContents kind.WrongBudget = Unit {0}
IsContents kind.WrongNeed = Unit {0}

abbrev pub AreContents : Option Fault → Type 0
AreContents None = Unit {0}
AreContents (Some TooManyGates) = Unit {0}
AreContents (Some (Line at why)) = IsContents why
AreContents (Some NoMemory) = ⊥

-- ---- parts

both : (x y : Option Fault) → AreContents x → AreContents y → AreContents (or_else x y)
both None y is are = are
both (Some fault) y is are = is

one : (b : Bool) (at : ℕ) (why : Kind) → IsContents why → AreContents (unless b at why)
one true at why is = tt
one false at why is = is

gates : (b : Bool) → AreContents (gates_fault b)
gates true = tt
gates false = tt

-- ---- logs

abbrev Names : (List (List ℕ) → line.Line → Option Kind) → Type 0
Names wrong = (known : List (List ℕ)) (l : line.Line) (why : Kind) → wrong known l ≡ Some why → IsContents why

front : (o : Option Kind) (at : ℕ) (rest : Option Fault) → ((why : Kind) → o ≡ Some why → IsContents why) → AreContents rest
    → AreContents (elim o as (λ _. Option Fault) [ Some why ↦ Some (Line at why) | None ↦ rest ])
front None at rest is are = are
front (Some why) at rest is are = is why refl

lines : (wrong : List (List ℕ) → line.Line → Option Kind) → Names wrong → (log : List line.Line) (known : List (List ℕ)) (at : ℕ)
    → AreContents (lines_fault wrong known at log)
lines wrong names [] known at = tt
lines wrong names (l ∷ log) known at = front (wrong known l) at (lines_fault wrong (known ++ l.lits ∷ []) (suc at) log)
    (names known l) (lines wrong names log (known ++ l.lits ∷ []) (suc at))

in-kind : (o : Option LineFault) (why : Kind) → kind_in o ≡ Some why → IsContents why
in-kind None why e = absurd cc
in-kind (Some fault) why e = (let same : kind.Line fault ≡ why = cc in subst IsContents same tt)

in-new : (b : Bool) (why : Kind) → cond b (Some (kind.Line NotNew)) None ≡ Some why → IsContents why
in-new true why e = (let same : kind.Line NotNew ≡ why = cc in subst IsContents same tt)
in-new false why e = absurd cc

in-clause : (known : List (List ℕ)) (lits : List ℕ) (why : Kind) → wrong_clause known lits ≡ Some why → IsContents why
in-clause known [] why e = (let same : kind.WrongQuery ≡ why = cc in subst IsContents same tt)
in-clause known (lit ∷ lits) why e = in-new (is_subsumed known (lit ∷ lits)) why e

in-lemma : (o : Option LineFault) (rest : Option Kind) (why : Kind) → ((other : Kind) → rest ≡ Some other → IsContents other)
    → (elim o as (λ _. Option Kind) [ Some fault ↦ Some (kind.Line fault) | None ↦ rest ]) ≡ Some why → IsContents why
in-lemma None rest why go e = go why e
in-lemma (Some fault) rest why go e = (let same : kind.Line fault ≡ why = cc in subst IsContents same tt)

names-line : (v : ℕ) → Names (wrong_line v)
names-line v known l why e = in-kind (fault_of v known l) why e

names-lemma : (v : ℕ) → Names (wrong_lemma v)
names-lemma v known l why e = in-lemma (fault_of v known l) (wrong_clause known l.lits) why (in-clause known l.lits) e

abbrev Logs : (Cnf → ℕ → List line.Line → Option Fault) → Type 0
Logs log_fault = (f : Cnf) (at : ℕ) (log : List line.Line) → AreContents (log_fault f at log)

refuting : Logs refuting_fault
refuting f at log = both (lines_fault (wrong_line f.variables) f.clauses (suc at) log) (unless (ends_empty log) at kind.NoEmpty)
    (lines (wrong_line f.variables) (names-line f.variables) log f.clauses (suc at)) (one (ends_empty log) at kind.NoEmpty tt)

budget : (b : ℕ) → Logs (budget_fault b)
budget b f at log = both (unless (eqb (length log) b) at kind.WrongBudget) (lines_fault (wrong_lemma f.variables) f.clauses (suc at) log)
    (one (eqb (length log) b) at kind.WrongBudget tt) (lines (wrong_lemma f.variables) (names-lemma f.variables) log f.clauses (suc at))

following : (f : Cnf) (at : ℕ) (log : List line.Line) (next : Option line.Line) → AreContents (next_fault f at log next)
following f at log None = tt
following f at log (Some next) =
    lines (wrong_lemma f.variables) (names-lemma f.variables) (next ∷ []) (f.clauses ++ map (λ l. l.lits) log) at

need : (words x : ℕ) (next : Option line.Line) → Logs (need_fault words x next)
need words x next f at log =
    let sum = first_sum_past words f (with_next log next) (2 * f.variables) in
    let need_part = unless (is_same sum x) (suc at + length log) kind.WrongNeed in
    let next_part = next_fault f (suc (suc at) + length log) log next in
    both (lines_fault (wrong_lemma f.variables) f.clauses (suc at) log) (or_else need_part next_part)
    (lines (wrong_lemma f.variables) (names-lemma f.variables) log f.clauses (suc at))
    (both need_part next_part (one (is_same sum x) (suc at + length log) kind.WrongNeed tt) (following f (suc (suc at) + length log) log next))

-- ---- scans

on : (o : Option Values) (at : ℕ) (go : Values → Option Fault) → ((t : Values) → AreContents (go t))
    → AreContents (elim o as (λ _. Option Fault) [ None ↦ Some (Line at kind.TraceDiffers) | Some t ↦ go t ])
on None at go are = tt
on (Some t) at go are = are t

module _ (case : Case) where
  scans : (ends : Ending → Bool) (inputs : List Values) (at : ℕ) (s : Values) → AreContents (scans_fault case ends at s inputs)
  scans ends [] at s = tt
  scans ends (i ∷ []) at s =
      let last = case.machine.fails s i && ends (ending_of (case.machine.step s i)) in
      both (unless (are_between case.facts.input i) at kind.WrongQuery) (unless last at kind.TraceDiffers)
      (one (are_between case.facts.input i) at kind.WrongQuery tt) (one last at kind.TraceDiffers tt)
  scans ends (i ∷ j ∷ inputs) at s =
      let go : Values → Option Fault = λ t. scans_fault case ends (suc at) t (j ∷ inputs) in
      both (unless (are_between case.facts.input i) at kind.WrongQuery)
      (elim (good_left case.machine s i) as (λ _. Option Fault) [ None ↦ Some (Line at kind.TraceDiffers) | Some t ↦ go t ])
      (one (are_between case.facts.input i) at kind.WrongQuery tt)
      (on (good_left case.machine s i) at go (λ t. scans ends (j ∷ inputs) (suc at) t))

  begun : (ends : Ending → Bool) (o : Option (List ℤ)) (t : Trace) → AreContents (begun_fault case ends o t)
  begun ends None t = both (unless (are_between case.facts.params t.params) 3 kind.WrongQuery)
      (scans_fault case ends 4 (case.machine.start t.params) t.inputs)
      (one (are_between case.facts.params t.params) 3 kind.WrongQuery tt) (scans ends t.inputs 4 (case.machine.start t.params))
  begun ends (Some image) t =
      let mark_part = unless (may_follow case.facts t.prev) 4 kind.WrongQuery in
      let scans_part = scans_fault case ends 5 (case.state_at image t.prev) t.inputs in
      both (unless (are_between case.facts.image image) 3 kind.WrongQuery) (or_else mark_part scans_part)
      (one (are_between case.facts.image image) 3 kind.WrongQuery tt)
      (both mark_part scans_part (one (may_follow case.facts t.prev) 4 kind.WrongQuery tt)
      (scans ends t.inputs 5 (case.state_at image t.prev)))

  trace : (claim : Claim) (o : Option Trace) → AreContents (trace_fault case claim o)
  trace claim None = tt
  trace claim (Some t) = begun (ends_as claim) t.image t

  -- ---- proofs

  proof : (b : Bool) (log_fault : Cnf → ℕ → List line.Line → Option Fault) → Logs log_fault → (at : ℕ) (p : Proof)
      → AreContents (proof_fault case b log_fault at p)
  proof b log_fault logs at p =
      let log_part = log_fault (case.formula p.query) (suc (suc at)) p.log in
      let chain_part = unless (is_plain p.chain) (suc at) kind.WrongQuery in
      both (unless b at kind.WrongQuery) (or_else chain_part (or_else (gates_fault case.passes) log_part)) (one b at kind.WrongQuery tt)
      (both chain_part (or_else (gates_fault case.passes) log_part) (one (is_plain p.chain) (suc at) kind.WrongQuery tt)
      (both (gates_fault case.passes) log_part (gates case.passes) (logs (case.formula p.query) (suc (suc at)) p.log)))

  proofs : (queries : List Query) (at : ℕ) (ps : List Proof) → AreContents (proofs_fault case queries at ps)
  proofs [] at [] = tt
  proofs [] at (p ∷ ps) = tt
  proofs (q ∷ queries) at [] = tt
  proofs (q ∷ queries) at (p ∷ ps) = both (proof_fault case (is_query q p.query) refuting_fault at p)
      (proofs_fault case queries (behind_proof at p) ps) (proof (is_query q p.query) refuting_fault refuting at p)
      (proofs queries (behind_proof at p) ps)

  spent : (log_fault : Cnf → ℕ → List line.Line → Option Fault) → Logs log_fault → (ps : List Proof) (n at : ℕ)
      → AreContents (spent_fault case log_fault n at ps)
  spent log_fault logs [] n at = tt
  spent log_fault logs (p ∷ []) n at = proof (is_named case.facts.depth n p.query) log_fault logs at p
  spent log_fault logs (p ∷ next ∷ ps) n at =
      let earlier = is_query (Base n) p.query && nat_le n case.facts.depth in
      both (proof_fault case earlier refuting_fault at p) (spent_fault case log_fault (suc n) (behind_proof at p) (next ∷ ps))
      (proof earlier refuting_fault refuting at p) (spent log_fault logs (next ∷ ps) (suc n) (behind_proof at p))

  all : (claim : Claim) (next : Option line.Line) (at : ℕ) (ps : List Proof) → AreContents (all_proofs_fault case claim next at ps)
  all (Satisfied k) next at ps = proofs (expected (Satisfied k)) at ps
  all (Unreachable k) next at ps = proofs (expected (Unreachable k)) at ps
  all (Violated n) next at ps = proofs (expected (Violated n)) at ps
  all (Trapped n) next at ps = proofs (expected (Trapped n)) at ps
  all (Reached n) next at ps = proofs (expected (Reached n)) at ps
  all (Depth k) next at ps = proofs (expected (Depth k)) at ps
  all (Loop n) next at ps = proofs (expected (Loop n)) at ps
  all (Lemmas b) next at ps = spent (budget_fault b) (budget b) ps 1 at
  all (Region x) next at ps = spent (need_fault case.facts.words x next) (need case.facts.words x next) ps 1 at

  pub contents : (c : Certificate) → AreContents (certificate_fault case c)
  contents c =
      let trace_part = trace_fault case c.claim c.trace in
      let proofs_part = all_proofs_fault case c.claim c.next (3 + length (trace_lines c.trace)) c.proofs in
      both (unless (belongs case.facts c.claim) 2 kind.WrongQuery) (or_else trace_part proofs_part)
      (one (belongs case.facts c.claim) 2 kind.WrongQuery tt)
      (both trace_part proofs_part (trace c.claim c.trace) (all c.claim c.next (3 + length (trace_lines c.trace)) c.proofs))
