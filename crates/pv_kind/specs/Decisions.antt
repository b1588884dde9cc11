-- What k-induction decides of a machine by an oracle's queries: step(0), base(1), step(1), base(2), and so on up to step of the depth.
use Rattle.std.specs.Prelude.{◌≡◌, ℕ, zero, suc, ◌-◌, ◌*◌, ◌<◌, ◌≤◌, ◌⊎◌, List, [], ◌∷◌, ◌++◌, map, Option, Some, None}
use Rattle.std.specs.List.{AllByRecursion}
use Rattle.pv_machine.specs.Machines.{Machine}
use Rattle.pv_machine.specs.Queries.{MeetsBase, MeetsStep}
use Rattle.pv_log.specs.declared.line.Line.{Line}
use Rattle.pv_log.specs.Follows.{Follows, IsAccepted}
use Rattle.pv_solver.specs.Answers.{Problem, HasSpentLemmas, HasSpentRegion}
use Rattle.pv_solver.specs.Costs.{words_of}
use Rattle.pv_cert.specs.declared.proof.Query.{Query}
use Rattle.pv_cert.specs.declared.proof.Query.TheVariants.{Base, Step}
use Rattle.pv_cert.specs.declared.proof.Proof.{Proof}
use Rattle.pv_kind.specs.declared.decision.Limits.{Limits}
use Rattle.pv_kind.specs.declared.decision.End.{End}
use Rattle.pv_kind.specs.declared.decision.End.TheVariants.{Proved, Failed, Depth, SpentLemmas, SpentRegion}
use Rattle.pv_kind.specs.Refinements.{Stage, AreOnWay}
use Rattle.pv_kind.specs.Oracles.{Encoding}

-- ---- whose turn it is

-- base(1) to base(n)
abbrev pub bases : ℕ → List Query
bases zero = []
bases (suc n) = bases n ++ Base (suc n) ∷ []

-- how many base queries come before this one
abbrev pub bases_before : Query → ℕ
bases_before (Base n) = n - 1
bases_before (Step k) = k

-- how many step queries do, from step(0) on
abbrev pub steps_before : Query → ℕ
steps_before (Base n) = n
steps_before (Step k) = k

-- the query is one of those that are asked up to this depth
abbrev pub IsWithin : ℕ → Query → Type 0
IsWithin depth (Base n) = (1 ≤ n) × (n ≤ depth)
IsWithin depth (Step k) = k ≤ depth

-- the log is accepted for the clauses of the proof's query under its chain
abbrev pub Refutes : Encoding → Proof → Type 0
Refutes e p = IsAccepted (Follows (e.variables p.chain p.query)) (e.clauses p.chain p.query) p.log

-- proofs of these queries in this order, each under the chain that there was when its query was last asked
pub record AreProofs (e : Encoding) (first last : Stage) (queries : List Query) (proofs : List Proof) : Type 0 where
  pub in_order : map (λ (p : Proof). p.query) proofs ≡ queries
  pub refute : AllByRecursion (Refutes e) proofs
  pub chains : AreOnWay e.tells first proofs last

-- it is the query's turn: each base query before it is refuted by a proof and isn't met, and each step query before it is met
pub record IsTurn (m : Machine) (e : Encoding) (first last : Stage) (q : Query) (proofs : List Proof) : Type 0 where
  pub are_proofs : AreProofs e first last (bases (bases_before q)) proofs
  pub refuted : (j : ℕ) → 1 ≤ j → j ≤ bases_before q → MeetsBase m j → ⊥
  pub met : (j : ℕ) → j < steps_before q → MeetsStep m j

-- ---- limits that are spent

-- a query's clauses with the limits of a decision
abbrev pub problem_of : Limits → ℕ → List (List ℕ) → Problem
problem_of limits variables clauses =
    record { variables = variables; clauses = clauses; words = limits.words; lemmas = limits.lemmas }

-- a clause is the first for which there is no room: with it `need` words would be in use
pub record IsFullAt (p : Problem) (need : ℕ) : Type 0 where
  pub before : List (List ℕ)
  pub clause : List ℕ
  pub rest : List (List ℕ)
  pub split : p.clauses ≡ before ++ clause ∷ rest
  pub fit : words_of p.variables before ≤ p.words
  pub sum : need ≡ words_of p.variables (before ++ clause ∷ [])

-- there are fewer words than the variables take, or than they and the first clauses do
pub record IsFull (p : Problem) (lines : List Line) (need : ℕ) : Type 0 where
  pub no_line : lines ≡ []
  pub past : p.words < need
  pub at : (need ≡ 2 * p.variables) ⊎ IsFullAt p need

-- the words are spent: by the variables and clauses alone, or by the lemma for which there was no room
abbrev pub SpendsWords : Problem → List Line → ℕ → Option Line → Type 0
SpendsWords p lines need None = IsFull p lines need
SpendsWords p lines need (Some next) = HasSpentRegion p lines next need

-- the last proof is of the query whose turn it is, under the last chain, and its log says this of the query's clauses and the limits
pub record IsSpent (m : Machine) (e : Encoding) (first last : Stage) (limits : Limits) (says : Problem → List Line → Type 0) (proofs : List Proof) : Type 0 where
  pub front : List Proof
  pub proof : Proof
  pub split : proofs ≡ front ++ proof ∷ []
  pub turn : IsTurn m e first last proof.query front
  pub within : IsWithin limits.depth proof.query
  pub chain : proof.chain ≡ last.chain
  pub log : says (problem_of limits (e.variables proof.chain proof.query) (e.clauses proof.chain proof.query)) proof.log

-- ---- the ends

-- base(1) to base(k) and step(k) are refuted by the proofs, so no run fails; each earlier step query is met
pub record IsProved (m : Machine) (e : Encoding) (first last : Stage) (limits : Limits) (k : ℕ) (proofs : List Proof) : Type 0 where
  pub within : k ≤ limits.depth
  pub are_proofs : AreProofs e first last (bases k ++ Step k ∷ []) proofs
  pub met : (j : ℕ) → j < k → MeetsStep m j
  pub holds : (n : ℕ) → MeetsBase m n → ⊥

-- the query is the first that ends the decision by being met, and a trace shows it
pub record IsMet (m : Machine) (e : Encoding) (first last : Stage) (limits : Limits) (q : Query) (evidence : Type 0) (proofs : List Proof) : Type 0 where
  pub within : IsWithin limits.depth q
  pub turn : IsTurn m e first last q proofs
  pub shown : evidence

-- what an end says
abbrev pub Decides : Machine → Encoding → Stage → Stage → Limits → List Proof → End → Type 0
Decides m e first last limits proofs (Proved k) = IsProved m e first last limits k proofs
Decides m e first last limits proofs (Failed n trace) = IsMet m e first last limits (Base n) (e.shows (Base n) trace) proofs
Decides m e first last limits proofs (Depth trace) =
    IsMet m e first last limits (Step limits.depth) (e.shows (Step limits.depth) trace) proofs
Decides m e first last limits proofs SpentLemmas = IsSpent m e first last limits HasSpentLemmas proofs
Decides m e first last limits proofs (SpentRegion need next) =
    IsSpent m e first last limits (λ p lines. SpendsWords p lines need next) proofs

-- no limit is spent at this end
abbrev pub IsUnspent : End → Type 0
IsUnspent (Proved k) = Unit {0}
IsUnspent (Failed n trace) = Unit {0}
IsUnspent (Depth trace) = Unit {0}
IsUnspent SpentLemmas = ⊥
IsUnspent (SpentRegion need next) = ⊥

-- the end is that no run fails, shown by a number up to this
abbrev pub IsProvedBy : ℕ → End → Type 0
IsProvedBy k (Proved j) = j ≤ k
IsProvedBy k (Failed n trace) = ⊥
IsProvedBy k (Depth trace) = ⊥
IsProvedBy k SpentLemmas = ⊥
IsProvedBy k (SpentRegion need next) = ⊥

-- the end is that a run fails at a scan up to this
abbrev pub IsFailedBy : ℕ → End → Type 0
IsFailedBy n (Proved k) = ⊥
IsFailedBy n (Failed j trace) = j ≤ n
IsFailedBy n (Depth trace) = ⊥
IsFailedBy n SpentLemmas = ⊥
IsFailedBy n (SpentRegion need next) = ⊥
