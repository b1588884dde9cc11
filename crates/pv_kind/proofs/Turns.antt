-- What a reply makes of a decision: whose turn it is next, or how it ends.
use Rattle.std.proofs.Common.{◌≡◌, ℕ, zero, suc, ◌+◌, ◌-◌, ◌≤◌, inl, inr, List, [], ◌∷◌, ◌++◌, map, refl, sym, ap, subst, ◌∙◌, arith}
use Rattle.std.specs.List.{AllByRecursion}
use Rattle.std.proofs.lemmas.Bool.{cases_lt}
use Rattle.std.proofs.lemmas.List.{map-append}
use Rattle.pv_machine.specs.Machines.{Machine}
use Rattle.pv_machine.specs.Queries.{MeetsBase, MeetsStep, MeetsReachableStep}
use Rattle.pv_machine.proofs.ForCallers.{no_base}
use Rattle.pv_log.specs.declared.line.Line.{Line}
use Rattle.pv_solver.specs.Answers.{Problem}
use Rattle.pv_cert.specs.declared.proof.Query.{Query}
use Rattle.pv_cert.specs.declared.proof.Query.TheVariants.{Base, Step}
use Rattle.pv_cert.specs.declared.proof.Chain.{Chain}
use Rattle.pv_cert.specs.declared.proof.Proof.{Proof}
use Rattle.pv_kind.specs.declared.decision.Limits.{Limits}
use Rattle.pv_kind.specs.Refinements.{Stage, IsRefinedBy}
use Rattle.pv_kind.specs.Oracles.{Encoding}
use Rattle.pv_kind.specs.Decisions.{bases, bases_before, IsWithin, Refutes, AreProofs, IsTurn, IsSpent, IsProved, problem_of}
use Rattle.pv_kind.specs.Asking.{Adds, IsRefutedBy}
use Rattle.pv_kind.proofs.Rounds.{way_on, way_push, refined_none}

-- ---- lists of proofs

all_push : (P : Proof → Type 0) (xs : List Proof) (x : Proof) → AllByRecursion P xs → P x → AllByRecursion P (xs ++ x ∷ [])
all_push P [] x all is = (is, tt)
all_push P (y ∷ xs) x all is = (all.0, all_push P xs x all.1 is)

all_by_query : (P : Query → Type 0) (proofs : List Proof) → AllByRecursion P (map (λ (p : Proof). p.query) proofs)
    → AllByRecursion (λ (p : Proof). P p.query) proofs
all_by_query P [] all = tt
all_by_query P (p ∷ proofs) all = (all.0, all_by_query P proofs all.1)

all_queries : (P : Query → Type 0) (xs : List Query) (x : Query) → AllByRecursion P xs → P x → AllByRecursion P (xs ++ x ∷ [])
all_queries P [] x all is = (is, tt)
all_queries P (y ∷ xs) x all is = (all.0, all_queries P xs x all.1 is)

all_bases : (P : Query → Type 0) (n : ℕ) → ((j : ℕ) → 1 ≤ j → j ≤ n → P (Base j)) → AllByRecursion P (bases n)
all_bases P zero f = tt
all_bases P (suc n) f =
    all_queries P (bases n) (Base (suc n)) (all_bases P n (λ j from to. f j from (omega arith))) (f (suc n) (omega arith) (omega arith))

-- the query is none of the base queries before it
differs : (q : Query) → AllByRecursion (λ (x : Query). x ≡ q → ⊥) (bases (bases_before q))
differs (Base n) = all_bases (λ (x : Query). x ≡ Base n → ⊥) (n - 1) (λ j from to e. (let same : j ≡ n = cc in absurd (omega arith)))
differs (Step k) = all_bases (λ (x : Query). x ≡ Step k → ⊥) k (λ j from to e. absurd cc)

module _ (m : Machine) (e : Encoding) (first : Stage) where
  -- cells were put back while it was the query's turn
  pub turn_on : (s t : Stage) (q : Query) (proofs : List Proof) → IsRefinedBy e.tells (λ (x : Query). x ≡ q) s t → IsTurn m e first s q proofs
      → IsTurn m e first t q proofs
  turn_on s t q proofs r h = record {
    are_proofs = record {
      in_order = h.are_proofs.in_order;
      refute = h.are_proofs.refute;
      chains = way_on e.tells q first s t proofs (all_by_query (λ (x : Query). x ≡ q → ⊥) proofs
          (subst (AllByRecursion (λ (x : Query). x ≡ q → ⊥)) (sym h.are_proofs.in_order) (differs q))) h.are_proofs.chains r;
    };
    refuted = h.refuted;
    met = h.met;
  }

  module _ (s : Stage) (limits : Limits) where
    -- what a log says of the query under the present chain it says of its proof
    log_of : (q : Query) (says : Problem → List Line → Type 0) (old new : List Proof) (a : Adds e s limits q says old new)
        → says (problem_of limits (e.variables a.proof.chain a.proof.query) (e.clauses a.proof.chain a.proof.query)) a.proof.log
    log_of q says old new a =
        subst (λ (c : Chain). says (problem_of limits (e.variables c a.proof.query) (e.clauses c a.proof.query)) a.proof.log) (sym a.chain)
        (subst (λ (x : Query). says (problem_of limits (e.variables s.chain x) (e.clauses s.chain x)) a.proof.log) (sym a.query) a.log)

    proofs_push : (queries : List Query) (q : Query) (old new : List Proof) → AreProofs e first s queries old
        → Adds e s limits q IsRefutedBy old new → AreProofs e first s (queries ++ q ∷ []) new
    proofs_push queries q old new h a =
        let whole : AreProofs e first s (queries ++ q ∷ []) (old ++ a.proof ∷ []) = record {
          in_order = map-append (λ (p : Proof). p.query) old (a.proof ∷ [])
              ∙ (ap (λ (l : List Query). l ++ a.proof.query ∷ []) h.in_order ∙ ap (λ (x : Query). queries ++ x ∷ []) a.query);
          refute = all_push (Refutes e) old a.proof h.refute (log_of q IsRefutedBy old new a);
          chains = way_push e.tells first s old a.proof h.chains (sym a.chain);
        } in
        subst (λ (l : List Proof). AreProofs e first s (queries ++ q ∷ []) l) (sym a.added) whole

    -- step(k) is met
    pub step_met : (k : ℕ) (proofs : List Proof) → IsTurn m e first s (Step k) proofs → MeetsStep m k → IsTurn m e first s (Base (k + 1)) proofs
    step_met k proofs h met =
        let back : k ≡ k + 1 - 1 = omega arith in
        record {
          are_proofs = subst (λ (n : ℕ). AreProofs e first s (bases n) proofs) back h.are_proofs;
          refuted = λ j from to. h.refuted j from (omega arith);
          met = λ j less. elim (cases_lt j k) [
            | inl below ↦ h.met j below
            | inr above ↦ (let is : k ≡ j = omega arith in subst (λ (i : ℕ). MeetsStep m i) is met)
          ];
        }

    bases_next : (n : ℕ) → 1 ≤ n → bases (n - 1) ++ Base n ∷ [] ≡ bases n
    bases_next zero from = absurd (omega arith)
    bases_next (suc n) from = let back : suc n - 1 ≡ n = omega arith in ap (λ (i : ℕ). bases i ++ Base (suc n) ∷ []) back

    -- base(n) is refuted
    pub base_refuted : (n : ℕ) (old new : List Proof) → 1 ≤ n → IsTurn m e first s (Base n) old → Adds e s limits (Base n) IsRefutedBy old new
        → (MeetsBase m n → ⊥) → IsTurn m e first s (Step n) new
    base_refuted n old new from h a never = record {
      are_proofs = subst (λ (l : List Query). AreProofs e first s l new) (bases_next n from) (proofs_push (bases (n - 1)) (Base n) old new h.are_proofs a);
      refuted = λ j from_one to met. elim (cases_lt j n) [
        | inl below ↦ h.refuted j from_one (omega arith) met
        | inr above ↦ (let is : j ≡ n = omega arith in never (subst (λ (i : ℕ). MeetsBase m i) is met))
      ];
      met = h.met;
    }

    -- step(k) is refuted
    pub proved : (k : ℕ) (old new : List Proof) → k ≤ limits.depth → IsTurn m e first s (Step k) old → Adds e s limits (Step k) IsRefutedBy old new
        → (MeetsReachableStep m k → ⊥) → IsProved m e first s limits k new
    proved k old new within h a never = record {
      within = within;
      are_proofs = proofs_push (bases k) (Step k) old new h.are_proofs a;
      met = h.met;
      holds = no_base m k h.refuted never;
    }

    -- a limit is spent
    pub spent : (q : Query) (says : Problem → List Line → Type 0) (old new : List Proof) → IsWithin limits.depth q → IsTurn m e first s q old
        → Adds e s limits q says old new → IsSpent m e first s limits says new
    spent q says old new within h a = record {
      front = old;
      proof = a.proof;
      split = a.added;
      turn = subst (λ (x : Query). IsTurn m e first s x old) (sym a.query) h;
      within = subst (λ (x : Query). IsWithin limits.depth x) (sym a.query) within;
      chain = a.chain;
      log = log_of q says old new a;
    }

-- nothing was asked yet
pub first_turn : (m : Machine) (e : Encoding) (s : Stage) → IsTurn m e s s (Step 0) []
first_turn m e s = record {
  are_proofs = record { in_order = refl; refute = tt; chains = refined_none e.tells s };
  refuted = λ j from to met. absurd (omega arith);
  met = λ j less. absurd (omega arith);
}
