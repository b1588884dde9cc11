-- What is wrong first with a certificate: its lines, one by one, each judged where nothing before it is wrong. Lines count from 1, and
-- what comes to the next part is handed its first line.
use Rattle.std.specs.Prelude.{ℕ, suc, ◌+◌, ◌*◌, ◌==◌, nat_le, ℤ, int_le, Bool, true, false, not, ◌&&◌, if◌then◌else◌, List, [], ◌∷◌, ◌++◌, map, length, Option, Some, None}
use Rattle.pv_cnf.specs.Clause.{Cnf}
use Rattle.pv_machine.specs.Machines.{Machine, Values}
use Rattle.pv_log.specs.declared.line.Line as line
use Rattle.pv_log.specs.declared.fault.LineFault.{LineFault}
use Rattle.pv_log.specs.declared.fault.LineFault.TheVariants.{NotNew}
use Rattle.pv_log.specs.Follows.{fault_of, ends_empty}
use Rattle.pv_log.specs.Newness.{is_subsumed}
use Rattle.pv_claims.specs.declared.claim.Claim.{Claim}
use Rattle.pv_claims.specs.declared.claim.Claim.TheVariants.{Satisfied, Unreachable, Violated, Trapped, Reached, Depth, Loop, Lemmas, Region}
use Rattle.pv_claims.specs.declared.trace.Ending.{Ending}
use Rattle.pv_claims.specs.declared.trace.Trace.{Trace}
use Rattle.pv_claims.specs.TracePart.{trace_lines}
use Rattle.pv_cert.specs.declared.proof.Query.{Query}
use Rattle.pv_cert.specs.declared.proof.Query.TheVariants.{Base, Step}
use Rattle.pv_cert.specs.declared.proof.Chain.{Chain}
use Rattle.pv_cert.specs.declared.proof.Proof.{Proof}
use Rattle.pv_cert.specs.declared.certificate.Certificate.{Certificate}
use Rattle.pv_cert.specs.CertificateText.{proof_lines}
use Rattle.pv_valid.specs.declared.facts.Facts.{Facts}
use Rattle.pv_valid.specs.declared.fault.Kind.{Kind}
use Rattle.pv_valid.specs.declared.fault.Kind.TheVariants as kind
use Rattle.pv_valid.specs.declared.fault.Fault.{Fault}
use Rattle.pv_valid.specs.declared.fault.Fault.TheVariants.{TooManyGates, Line}
use Rattle.pv_valid.specs.Cases.{Case, Bounds}
use Rattle.pv_valid.specs.Shown.{ending_of, left_by}
use Rattle.pv_valid.specs.Claims.{belongs, ends_as, expected, is_query}
use Rattle.pv_valid.specs.Validity.{with_next, first_sum_past}

-- what is wrong first, where one part is judged before another
abbrev pub or_else : Option Fault → Option Fault → Option Fault
or_else (Some fault) behind = Some fault
or_else None behind = behind

-- this is wrong in the line, if it isn't as it has to be
abbrev pub unless : Bool → ℕ → Kind → Option Fault
unless true at why = None
unless false at why = Some (Line at why)

-- ---- the trace

-- one value in each range
abbrev pub are_between : List Bounds → List ℤ → Bool
are_between [] [] = true
are_between [] (v ∷ values) = false
are_between (b ∷ bounds) [] = false
are_between (b ∷ bounds) (v ∷ values) = (int_le b.0 v && int_le v b.1) && are_between bounds values

-- the state after a scan that is done and doesn't fail
abbrev pub good_left : Machine → Values → Values → Option Values
good_left m s i = if m.fails s i then None else left_by (m.step s i)

-- scans from a state, the first of which stands in this line: each but the last is good, and the last fails and ends so
abbrev pub scans_fault : Case → (Ending → Bool) → ℕ → Values → List Values → Option Fault
scans_fault case ends at s [] = Some (Line at kind.TraceDiffers)
scans_fault case ends at s (i ∷ []) =
    or_else (unless (are_between case.facts.input i) at kind.WrongQuery)
    (unless (case.machine.fails s i && ends (ending_of (case.machine.step s i))) at kind.TraceDiffers)
scans_fault case ends at s (i ∷ j ∷ inputs) =
    or_else (unless (are_between case.facts.input i) at kind.WrongQuery)
    (elim (good_left case.machine s i) [
      | None ↦ Some (Line at kind.TraceDiffers)
      | Some t ↦ scans_fault case ends (suc at) t (j ∷ inputs)
    ])

-- a mark stands for cases of patterns over two scans alone
abbrev pub may_follow : Facts → Option Bool → Bool
may_follow facts None = true
may_follow facts (Some mark) = facts.looks_back

-- params stand in line 3, or an image does, with the mark in line 4
abbrev pub begun_fault : Case → (Ending → Bool) → Option (List ℤ) → Trace → Option Fault
begun_fault case ends None t =
    or_else (unless (are_between case.facts.params t.params) 3 kind.WrongQuery)
    (scans_fault case ends 4 (case.machine.start t.params) t.inputs)
begun_fault case ends (Some image) t =
    or_else (unless (are_between case.facts.image image) 3 kind.WrongQuery)
    (or_else (unless (may_follow case.facts t.prev) 4 kind.WrongQuery)
    (scans_fault case ends 5 (case.state_at image t.prev) t.inputs))

abbrev pub trace_fault : Case → Claim → Option Trace → Option Fault
trace_fault case claim None = None
trace_fault case claim (Some t) = begun_fault case (ends_as claim) t.image t

-- ---- logs

-- lines of a log, the first of which stands in this one, where this is what is wrong first with a line
abbrev pub lines_fault : (List (List ℕ) → line.Line → Option Kind) → List (List ℕ) → ℕ → List line.Line → Option Fault
lines_fault wrong clauses at [] = None
lines_fault wrong clauses at (l ∷ lines) = elim (wrong clauses l) [
  | Some why ↦ Some (Line at why)
  | None ↦ lines_fault wrong (clauses ++ l.lits ∷ []) (suc at) lines
]

abbrev pub kind_in : Option LineFault → Option Kind
kind_in None = None
kind_in (Some fault) = Some (kind.Line fault)

-- a line of a log that refutes
abbrev pub wrong_line : ℕ → List (List ℕ) → line.Line → Option Kind
wrong_line variables clauses l = kind_in (fault_of variables clauses l)

-- a line that is there and isn't empty, and then that it isn't new
abbrev pub wrong_clause : List (List ℕ) → List ℕ → Option Kind
wrong_clause clauses [] = Some kind.WrongQuery
wrong_clause clauses (lit ∷ lits) = if is_subsumed clauses (lit ∷ lits) then Some (kind.Line NotNew) else None

-- a lemma: its own fault comes first
abbrev pub wrong_lemma : ℕ → List (List ℕ) → line.Line → Option Kind
wrong_lemma variables clauses l = elim (fault_of variables clauses l) [
  | Some fault ↦ Some (kind.Line fault)
  | None ↦ wrong_clause clauses l.lits
]

-- The log of a query that is refuted, whose number of lines stands in this one: its lines, and then that the last is empty.
abbrev pub refuting_fault : Cnf → ℕ → List line.Line → Option Fault
refuting_fault f at log =
    or_else (lines_fault (wrong_line f.variables) f.clauses (suc at) log) (unless (ends_empty log) at kind.NoEmpty)

-- a log of so many lemmas: their number comes before them
abbrev pub budget_fault : ℕ → Cnf → ℕ → List line.Line → Option Fault
budget_fault budget f at log =
    or_else (unless (length log == budget) at kind.WrongBudget)
    (lines_fault (wrong_lemma f.variables) f.clauses (suc at) log)

abbrev pub next_fault : Cnf → ℕ → List line.Line → Option line.Line → Option Fault
next_fault f at log None = None
next_fault f at log (Some next) =
    lines_fault (wrong_lemma f.variables) (f.clauses ++ map (λ l. l.lits) log) at (next ∷ [])

abbrev pub is_same : Option ℕ → ℕ → Bool
is_same None n = false
is_same (Some m) n = m == n

-- a log of lemmas, after it the words that were needed in the line that begins with `next`, and after that the lemma that comes next
abbrev pub need_fault : ℕ → ℕ → Option line.Line → Cnf → ℕ → List line.Line → Option Fault
need_fault words need next f at log =
    or_else (lines_fault (wrong_lemma f.variables) f.clauses (suc at) log)
    (or_else (unless (is_same (first_sum_past words f (with_next log next) (2 * f.variables)) need) (suc at + length log) kind.WrongNeed)
    (next_fault f (suc (suc at) + length log) log next))

-- ---- proofs

-- nothing is made smaller
abbrev pub is_plain : Chain → Bool
is_plain chain = not chain.constants && (length chain.havoc == 0 && not chain.cone)

abbrev pub gates_fault : Bool → Option Fault
gates_fault true = Some TooManyGates
gates_fault false = None

-- A proof whose query stands in this line: the query, its chain, whether that has a circuit, and the log, whose number of lines stands
-- two lines on.
abbrev pub proof_fault : Case → Bool → (Cnf → ℕ → List line.Line → Option Fault) → ℕ → Proof → Option Fault
proof_fault case is_expected log_fault at p =
    or_else (unless is_expected at kind.WrongQuery)
    (or_else (unless (is_plain p.chain) (suc at) kind.WrongQuery)
    (or_else (gates_fault case.passes) (log_fault (case.formula p.query) (suc (suc at)) p.log)))

abbrev pub behind_proof : ℕ → Proof → ℕ
behind_proof at p = at + length (proof_lines p)

-- proofs against the queries that are expected: one that is missing is so in the line that stands in its place, and one that isn't
-- expected in its own
abbrev pub proofs_fault : Case → List Query → ℕ → List Proof → Option Fault
proofs_fault case [] at [] = None
proofs_fault case [] at (p ∷ proofs) = Some (Line at kind.WrongQuery)
proofs_fault case (q ∷ queries) at [] = Some (Line at kind.WrongQuery)
proofs_fault case (q ∷ queries) at (p ∷ proofs) =
    or_else (proof_fault case (is_query q p.query) refuting_fault at p) (proofs_fault case queries (behind_proof at p) proofs)

-- the last of n proofs names base(n) or step(n - 1), where base queries alone come before it
abbrev pub is_named : ℕ → ℕ → Query → Bool
is_named depth n (Base m) = m == n && nat_le n depth
is_named depth n (Step k) = suc k == n && nat_le k depth

-- proofs for which a limit was spent: from base(n) on base queries are refuted, and the last proof's log is that of the limit
abbrev pub spent_fault : Case → (Cnf → ℕ → List line.Line → Option Fault) → ℕ → ℕ → List Proof → Option Fault
spent_fault case log_fault n at [] = Some (Line at kind.WrongQuery)
spent_fault case log_fault n at (p ∷ []) = proof_fault case (is_named case.facts.depth n p.query) log_fault at p
spent_fault case log_fault n at (p ∷ next ∷ proofs) =
    or_else (proof_fault case (is_query (Base n) p.query && nat_le n case.facts.depth) refuting_fault at p)
    (spent_fault case log_fault (suc n) (behind_proof at p) (next ∷ proofs))

abbrev pub all_proofs_fault : Case → Claim → Option line.Line → ℕ → List Proof → Option Fault
all_proofs_fault case (Satisfied k) next at proofs = proofs_fault case (expected (Satisfied k)) at proofs
all_proofs_fault case (Unreachable k) next at proofs = proofs_fault case (expected (Unreachable k)) at proofs
all_proofs_fault case (Violated n) next at proofs = proofs_fault case (expected (Violated n)) at proofs
all_proofs_fault case (Trapped n) next at proofs = proofs_fault case (expected (Trapped n)) at proofs
all_proofs_fault case (Reached n) next at proofs = proofs_fault case (expected (Reached n)) at proofs
all_proofs_fault case (Depth k) next at proofs = proofs_fault case (expected (Depth k)) at proofs
all_proofs_fault case (Loop n) next at proofs = proofs_fault case (expected (Loop n)) at proofs
all_proofs_fault case (Lemmas b) next at proofs = spent_fault case (budget_fault b) 1 at proofs
all_proofs_fault case (Region x) next at proofs = spent_fault case (need_fault case.facts.words x next) 1 at proofs

-- ---- the whole

-- the verdict stands in line 2, the trace part from line 3 on, and the proofs after it
abbrev pub certificate_fault : Case → Certificate → Option Fault
certificate_fault case c =
    or_else (unless (belongs case.facts c.claim) 2 kind.WrongQuery)
    (or_else (trace_fault case c.claim c.trace)
    (all_proofs_fault case c.claim c.next (3 + length (trace_lines c.trace)) c.proofs))
