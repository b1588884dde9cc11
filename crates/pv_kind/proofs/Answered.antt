-- What a solver's answers give for a reply.
use Rattle.std.proofs.Common.{◌≡◌, ℕ, ◌*◌, ◌≤◌, Bool, List, [], ◌∷◌, ◌++◌, Option, Some, None, refl, sym, ap, subst, ◌∙◌, arith}
use Rattle.std.specs.Prelude.{IsSome}
use Rattle.pv_cnf.specs.Clause.{Holds}
use Rattle.pv_machine.specs.Machines.{Machine}
use Rattle.pv_log.specs.declared.line.Line.{Line}
use Rattle.pv_log.specs.Follows.{Follows, IsAccepted}
use Rattle.pv_solver.specs.declared.answer.Answer.{Answer}
use Rattle.pv_solver.specs.declared.answer.Answer.TheVariants.{Sat, SpentRegion}
use Rattle.pv_solver.specs.Answers.{Problem, Outcome, Solving, HasSpentLemmas, HasSpentRegion, answer_of, next_as, next_of, assigned_as, assigned_in, assigned_of}
use Rattle.pv_solver.specs.Costs.{words_of, past}
use Rattle.pv_cert.specs.declared.proof.Query.{Query}
use Rattle.pv_cert.specs.declared.proof.Query.TheVariants.{Base, Step}
use Rattle.pv_cert.specs.declared.proof.Chain.{Chain}
use Rattle.pv_cert.specs.declared.proof.Proof.{Proof}
use Rattle.pv_kind.specs.declared.decision.Limits.{Limits}
use Rattle.pv_kind.specs.Refinements.{Stage}
use Rattle.pv_kind.specs.Oracles.{Encoding, IsAsked, IsSound, IsRefuted, MeetsInRuns}
use Rattle.pv_kind.specs.Decisions.{problem_of}
use Rattle.pv_kind.specs.Asking.{IsFilled, IsRefutedBy, Adds}
use Rattle.pv_kind.proofs.Filling.{same_lemmas, same_region}

-- where the clauses hold, each variable has a value
pub all_assigned : (o : Option Outcome) (v : ℕ) → answer_of o ≡ Some Sat → assigned_in v o ≡ v
all_assigned None v e = absurd cc
all_assigned (Some found) v e = (let is : found.answer ≡ Sat = cc in ap (assigned_as v) is)

-- where the words are spent, there is a lemma for which there was no room
pub some_next : (o : Option Outcome) (need : ℕ) → answer_of o ≡ Some (SpentRegion need) → IsSome (next_of o)
some_next None need e = absurd cc
some_next (Some found) need e =
    let is : found.answer ≡ SpentRegion need = cc in
    subst (λ (a : Answer). IsSome (next_as a found.next)) (sym is) refl

-- where the query's clauses are refuted, no state that a run reaches meets it
pub never : (m : Machine) (e : Encoding) (chain : Chain) (ready : Query → Type 0) → IsSound m e chain ready → (q : Query) → IsAsked q → ready q
    → IsRefuted (e.clauses chain q) → MeetsInRuns m q → ⊥
never m e chain ready sound (Base k) asked is refuted = sound.base k asked is refuted
never m e chain ready sound (Step k) asked is refuted = sound.step k asked is refuted

-- ---- a solver that was given all clauses and has answered

pub record IsPosed (p : Problem) (s : Solving) : Type 0 where
  pub variables : s.problem.variables ≡ p.variables
  pub clauses : s.problem.clauses ≡ p.clauses
  pub lemmas : s.problem.lemmas ≡ p.lemmas
  pub fits : 2 * p.variables ≤ p.words
  pub room : (all : List (List ℕ)) → past s.problem.words (words_of s.problem.variables all) ≡ past p.words (words_of p.variables all)

-- its number of lemmas was set, and then it was asked
pub is_posed : (p : Problem) (old mid new : Solving) → IsFilled p old
    → mid ≡ record { problem = record old.problem { lemmas = p.lemmas }; outcome = None } → new.problem ≡ mid.problem → IsPosed p new
is_posed p old mid new filled set kept =
    let is : new.problem ≡ record old.problem { lemmas = p.lemmas } = kept ∙ ap (λ (s : Solving). s.problem) set in
    let at : IsPosed p (record { problem = record old.problem { lemmas = p.lemmas }; outcome = new.outcome }) = record {
      variables = filled.variables;
      clauses = filled.clauses;
      lemmas = refl;
      fits = filled.fits;
      room = filled.room;
    } in
    subst (λ (x : Problem). IsPosed p (record { problem = x; outcome = new.outcome })) (sym is) at

module _ (p : Problem) (s : Solving) (is : IsPosed p s) where
  pub posed_assigned : answer_of s.outcome ≡ Some Sat → p.variables ≤ assigned_of s
  posed_assigned sat = omega (arith, all_assigned s.outcome s.problem.variables sat, is.variables)

  pub posed_hold : (values : ℕ → Bool) → Holds values s.problem.clauses → Holds values p.clauses
  posed_hold values h = subst (λ (c : List (List ℕ)). Holds values c) is.clauses h

  pub posed_refuted : IsRefuted s.problem.clauses → IsRefuted p.clauses
  posed_refuted h = subst IsRefuted is.clauses h

  pub posed_accepted : (lines : List Line) → IsRefutedBy s.problem lines → IsRefutedBy p lines
  posed_accepted lines h =
      subst (λ (c : List (List ℕ)). IsAccepted (Follows p.variables) c lines) is.clauses
      (subst (λ (v : ℕ). IsAccepted (Follows v) s.problem.clauses lines) is.variables h)

  pub posed_lemmas : (lines : List Line) → HasSpentLemmas s.problem lines → HasSpentLemmas p lines
  posed_lemmas lines h = same_lemmas p s.problem lines is.variables is.clauses is.lemmas h

  pub posed_region : (lines : List Line) (next : Line) (need : ℕ) → HasSpentRegion s.problem lines next need → HasSpentRegion p lines next need
  posed_region lines next need h = same_region p s.problem lines next need is.variables is.clauses is.lemmas is.fits is.room h

-- ---- a proof is added

pub adds : (e : Encoding) (s : Stage) (limits : Limits) (q : Query) (says : Problem → List Line → Type 0) (old new : List Proof) (lines : List Line)
    → new ≡ old ++ record { query = q; chain = s.chain; log = lines } ∷ [] → says (problem_of limits (e.variables s.chain q) (e.clauses s.chain q)) lines
    → Adds e s limits q says old new
adds e s limits q says old new lines added h = record {
  proof = record { query = q; chain = s.chain; log = lines };
  added = added;
  query = refl;
  chain = refl;
  log = h;
}
