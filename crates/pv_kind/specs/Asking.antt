-- What the parts of a decision say of one another: private contracts cite this.
use Rattle.std.specs.Prelude.{◌≡◌, ℕ, ◌+◌, ◌*◌, ◌≤◌, Bool, true, false, List, [], ◌∷◌, ◌++◌, Option, Some, None}
use Rattle.pv_machine.specs.Machines.{Machine}
use Rattle.pv_log.specs.declared.line.Line.{Line}
use Rattle.pv_log.specs.Follows.{Follows, IsAccepted}
use Rattle.pv_solver.specs.Answers.{Problem, Solving, HasSpentLemmas}
use Rattle.pv_solver.specs.Costs.{words_of, past}
use Rattle.pv_cert.specs.declared.proof.Query.{Query}
use Rattle.pv_cert.specs.declared.proof.Query.TheVariants.{Base, Step}
use Rattle.pv_claims.specs.declared.trace.Trace.{Trace}
use Rattle.pv_cert.specs.declared.proof.Proof.{Proof}
use Rattle.pv_kind.specs.declared.decision.Limits.{Limits}
use Rattle.pv_kind.specs.declared.decision.End.{End}
use Rattle.pv_kind.specs.declared.ask.Outcome.{Outcome}
use Rattle.pv_kind.specs.declared.ask.Outcome.TheVariants.{PutBack, TooFew, Replied}
use Rattle.pv_kind.specs.declared.ask.Reply.{Reply}
use Rattle.pv_kind.specs.declared.ask.Reply.TheVariants.{Met, Refuted, SpentLemmas, SpentRegion}
use Rattle.pv_kind.specs.Refinements.{Stage, Round, IsRound, put_back}
use Rattle.pv_kind.specs.Oracles.{Encoding, MeetsInRuns}
use Rattle.pv_kind.specs.Decisions.{problem_of, IsFull, SpendsWords, IsTurn, Decides}

-- the solver has all clauses and no answer, and refuses clauses as one with this problem does
pub record IsFilled (p : Problem) (s : Solving) : Type 0 where
  pub variables : s.problem.variables ≡ p.variables
  pub clauses : s.problem.clauses ≡ p.clauses
  pub outcome : s.outcome ≡ None
  pub fits : 2 * p.variables ≤ p.words
  pub room : (all : List (List ℕ)) → past s.problem.words (words_of s.problem.variables all) ≡ past p.words (words_of p.variables all)

-- what came of pushing the clauses: all are there, or there is no room, and so many words would be needed
abbrev pub Fills : Problem → Solving → Option ℕ → Type 0
Fills p s None = IsFilled p s
Fills p s (Some need) = IsFull p [] need

-- the log is accepted
abbrev pub IsRefutedBy : Problem → List Line → Type 0
IsRefutedBy p lines = IsAccepted (Follows p.variables) p.clauses lines

-- a proof of the query under the present chain is added, and its log says this
pub record Adds (e : Encoding) (s : Stage) (limits : Limits) (q : Query) (says : Problem → List Line → Type 0) (old new : List Proof) : Type 0 where
  pub proof : Proof
  pub added : new ≡ old ++ proof ∷ []
  pub query : proof.query ≡ q
  pub chain : proof.chain ≡ s.chain
  pub log : says (problem_of limits (e.variables s.chain q) (e.clauses s.chain q)) proof.log

-- what a reply says
abbrev pub Replies : Machine → Encoding → Stage → Limits → Query → List Proof → List Proof → Reply → Type 0
Replies m e s limits q old new (Met trace) = (new ≡ old) × e.shows q trace
Replies m e s limits q old new Refuted = Adds e s limits q IsRefutedBy old new × (MeetsInRuns m q → ⊥)
Replies m e s limits q old new SpentLemmas = Adds e s limits q HasSpentLemmas old new
Replies m e s limits q old new (SpentRegion need next) = Adds e s limits q (λ p lines. SpendsWords p lines need next) old new

-- cells were put back after the query was asked
pub record IsRefinedOnce (e : Encoding) (q : Query) (s t : Stage) : Type 0 where
  pub round : Round
  pub asked : round.query ≡ q
  pub is_round : IsRound e.tells s round
  pub leads : t ≡ put_back round.cells s

-- what is told of values: cells were put back, or a trace shows the query
abbrev pub TellsOf : Encoding → Query → Stage → Stage → Option Trace → Type 0
TellsOf e q s t None = IsRefinedOnce e q s t
TellsOf e q s t (Some trace) = (t ≡ s) × e.shows q trace

-- no words are told to be spent where there may be more
abbrev pub IsLast : Bool → Reply → Type 0
IsLast may_grow (Met trace) = Unit {0}
IsLast may_grow Refuted = Unit {0}
IsLast may_grow SpentLemmas = Unit {0}
IsLast may_grow (SpentRegion need next) = may_grow ≡ false

-- what came of asking a query once in a region that may grow or not: cells were put back, there were too few words, or there is a reply
abbrev pub GoesOn : Machine → Encoding → Limits → Bool → Query → Stage → Stage → List Proof → List Proof → Outcome → Type 0
GoesOn m e limits may_grow q s t old new PutBack = IsRefinedOnce e q s t × (new ≡ old)
GoesOn m e limits may_grow q s t old new TooFew = (t ≡ s) × (new ≡ old) × (may_grow ≡ true)
GoesOn m e limits may_grow q s t old new (Replied reply) = (t ≡ s) × Replies m e s limits q old new reply × IsLast may_grow reply

-- ---- the turns of a decision

-- what came of step(k): it is the turn of base(k + 1), or this is the end
abbrev pub AfterStep : Machine → Encoding → Stage → Stage → Limits → ℕ → List Proof → Option End → Type 0
AfterStep m e first last limits k proofs None = IsTurn m e first last (Base (k + 1)) proofs
AfterStep m e first last limits k proofs (Some end) = Decides m e first last limits proofs end

-- what came of base(n): it is the turn of step(n), or this is the end
abbrev pub AfterBase : Machine → Encoding → Stage → Stage → Limits → ℕ → List Proof → Option End → Type 0
AfterBase m e first last limits n proofs None = IsTurn m e first last (Step n) proofs
AfterBase m e first last limits n proofs (Some end) = Decides m e first last limits proofs end
