-- What an oracle is asked, and what its answers mean: the queries of k-induction on one machine, each put as clauses (Sheeran, Singh
-- and Stålmarck, "Checking Safety Properties Using Induction and a SAT-Solver", 2000).
use Rattle.std.specs.Prelude.{ℕ, ◌≤◌, Bool, List}
use Rattle.pv_cnf.specs.Clause.{Holds}
use Rattle.pv_machine.specs.Machines.{Machine}
use Rattle.pv_machine.specs.Queries.{MeetsBase, MeetsStep, MeetsReachableStep}
use Rattle.pv_cert.specs.declared.proof.Query.{Query}
use Rattle.pv_cert.specs.declared.proof.Query.TheVariants.{Base, Step}
use Rattle.pv_cert.specs.declared.proof.Chain.{Chain}
use Rattle.pv_claims.specs.declared.trace.Trace.{Trace}
use Rattle.pv_kind.specs.declared.told.Told.{Told}
use Rattle.pv_kind.specs.declared.told.Told.TheVariants.{Same, Differs}
use Rattle.pv_kind.specs.declared.told.TheConstants.{LAST_QUERY}
use Rattle.pv_kind.specs.Refinements.{Stage, Tells, IsRound}

-- the queries that an oracle is asked
abbrev pub IsAsked : Query → Type 0
IsAsked (Base k) = (1 ≤ k) × (k ≤ LAST_QUERY)
IsAsked (Step k) = k ≤ LAST_QUERY

-- the machine meets the query
abbrev pub Meets : Machine → Query → Type 0
Meets m (Base k) = MeetsBase m k
Meets m (Step k) = MeetsStep m k

-- the same, of a step query from a state that a run reaches by scans that are done
abbrev pub MeetsInRuns : Machine → Query → Type 0
MeetsInRuns m (Base k) = MeetsBase m k
MeetsInRuns m (Step k) = MeetsReachableStep m k

-- no values make the clauses hold
abbrev pub IsRefuted : List (List ℕ) → Type 0
IsRefuted clauses = (values : ℕ → Bool) → Holds values clauses → ⊥

-- how queries are put as clauses, and what comes back. Under a chain each query has a number of variables and one list of clauses, and
-- the chain's circuit may pass the limit on circuits. A trace shows that the machine meets a query, or cells are told to differ.
pub record Encoding : Type 1 where
  pub variables : Chain → Query → ℕ
  pub clauses : Chain → Query → List (List ℕ)
  pub passes : Chain → Bool
  pub shows : Query → Trace → Type 0
  pub tells : Tells

-- what is told of values that make a query's clauses hold: a trace that shows it, or cells that differ
abbrev pub IsTold : Encoding → Stage → Query → Told → Type 0
IsTold e s q (Same trace) = e.shows q trace
IsTold e s q (Differs scan cells) = IsRound e.tells s (record { query = q; scan = scan; cells = cells })

-- the laws that join the clauses to the machine, for the queries whose number of variables was answered
pub record IsSound (m : Machine) (e : Encoding) (chain : Chain) (ready : Query → Type 0) : Type 0 where
  -- a trace that shows a query is one by which the machine meets it
  pub shown : (q : Query) (trace : Trace) → e.shows q trace → Meets m q
  -- where no values make the clauses of base(k) hold, the machine doesn't meet base(k)
  pub base : (k : ℕ) → IsAsked (Base k) → ready (Base k) → IsRefuted (e.clauses chain (Base k)) → MeetsBase m k → ⊥
  -- where none make those of step(k) hold, no state that a run reaches has k good scans and then one that fails
  pub step : (k : ℕ) → IsAsked (Step k) → ready (Step k) → IsRefuted (e.clauses chain (Step k)) → MeetsReachableStep m k → ⊥
