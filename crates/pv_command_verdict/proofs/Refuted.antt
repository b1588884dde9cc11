-- Base queries that proofs refute aren't met, so no run fails at one of its first scans.
use Rattle.std.proofs.Common.{◌≡◌, ℕ, zero, suc, ◌≤◌, List, [], ◌∷◌, ◌++◌, map, Some, ap, sym, subst, inl, inr, arith}
use Rattle.std.specs.List.{AllByRecursion}
use Rattle.std.proofs.lemmas.Bool.{cases_lt}
use Rattle.std.proofs.lemmas.List.{reverse-append}
use Rattle.pv_machine.specs.Queries.{MeetsBase, MeetsStep}
use Rattle.pv_machine.proofs.ForCallers.{no_base, step_of_reachable}
use Rattle.pv_log.proofs.ForCallers.{accepted-refutes}
use Rattle.pv_cert.specs.declared.proof.Query.{Query}
use Rattle.pv_cert.specs.declared.proof.Query.TheVariants.{Base, Step}
use Rattle.pv_cert.specs.declared.proof.Proof.{Proof}
use Rattle.pv_kind.specs.declared.told.TheConstants.{LAST_QUERY}
use Rattle.pv_kind.specs.Oracles.{IsAsked, Meets}
use Rattle.pv_kind.specs.Decisions.{bases, bases_before, IsWithin}
use Rattle.pv_valid.specs.Cases.{Case, IsSound}
use Rattle.pv_valid.specs.Validity.{Refutes, AreProofs}
use Rattle.pv_valid.proofs.ForCallers.{all-push, bases-asked}
use Rattle.pv_evidence.specs.Reported.{first_query, last_query}

parted : {X : Type 0} (P : X → Type 0) (xs : List X) (x : X) → AllByRecursion P (xs ++ x ∷ []) → AllByRecursion P xs × P x
parted P [] x all = (tt, all.0)
parted P (y ∷ xs) x all = (let rest = parted P xs x all.1 in ((all.0, rest.0), rest.1))

module _ (case : Case) (sound : IsSound case) where
  abbrev NotMet : Query → Type 0
  NotMet q = Meets case.machine q → ⊥

  not_met : (p : Proof) → IsAsked p.query → Refutes case p → NotMet p.query
  not_met p asked r met =
      let solution = (sound.met p.query asked).0 met in
      accepted-refutes solution.0 (case.formula p.query).variables (case.formula p.query).clauses p.log r.log.each r.log.ends solution.1

  none_met : (proofs : List Proof) → AllByRecursion IsAsked (map (λ (p : Proof). p.query) proofs) → AllByRecursion (Refutes case) proofs
      → AllByRecursion NotMet (map (λ (p : Proof). p.query) proofs)
  none_met [] asked refute = tt
  none_met (p ∷ proofs) asked refute = (not_met p asked.0 refute.0, none_met proofs asked.1 refute.1)

  bases_not_met : (n : ℕ) → AllByRecursion NotMet (bases n) → (j : ℕ) → 1 ≤ j → j ≤ n → MeetsBase case.machine j → ⊥
  bases_not_met zero all j one le met = omega (arith, one, le)
  bases_not_met (suc n) all j one le met =
      let parts = parted NotMet (bases n) (Base (suc n)) all in
      elim (cases_lt j (suc n)) [
        | inl below ↦ bases_not_met n parts.0 j one (omega (arith, below)) met
        | inr above ↦ (let is : j ≡ suc n = omega (arith, le, above) in parts.1 (subst (λ (i : ℕ). MeetsBase case.machine i) is met))
      ]

  queries_not_met : (queries : List Query) (proofs : List Proof) → AllByRecursion IsAsked queries → AreProofs case queries proofs
      → AllByRecursion NotMet queries
  queries_not_met queries proofs asked are = subst (AllByRecursion NotMet) are.in_order
      (none_met proofs (subst (AllByRecursion IsAsked) (sym are.in_order) asked) are.refute)

  -- base queries that are refuted
  pub none_by : (n : ℕ) (proofs : List Proof) → n ≤ case.facts.depth → AreProofs case (bases n) proofs
      → (j : ℕ) → 1 ≤ j → j ≤ n → MeetsBase case.machine j → ⊥
  none_by n proofs within are =
      let depth = sound.depth in
      bases_not_met n (queries_not_met (bases n) proofs (bases-asked n (omega (arith, within, depth))) are)

  -- and a step query behind them
  all_not_met : (k : ℕ) (proofs : List Proof) → k ≤ case.facts.depth → AreProofs case (bases k ++ Step k ∷ []) proofs
      → AllByRecursion NotMet (bases k) × NotMet (Step k)
  all_not_met k proofs within are =
      let depth = sound.depth in
      let most : k ≤ LAST_QUERY = omega (arith, within, depth) in
      parted NotMet (bases k) (Step k)
      (queries_not_met (bases k ++ Step k ∷ []) proofs (all-push IsAsked (bases k) (Step k) (bases-asked k most) most) are)

  pub step_not_met : (k : ℕ) (proofs : List Proof) → k ≤ case.facts.depth → AreProofs case (bases k ++ Step k ∷ []) proofs
      → MeetsStep case.machine k → ⊥
  step_not_met k proofs within are = (all_not_met k proofs within are).1

  pub never_met : (k : ℕ) (proofs : List Proof) → k ≤ case.facts.depth → AreProofs case (bases k ++ Step k ∷ []) proofs
      → (n : ℕ) → MeetsBase case.machine n → ⊥
  never_met k proofs within are =
      let none = all_not_met k proofs within are in
      no_base case.machine k (bases_not_met k none.0) (λ reached. none.1 (step_of_reachable case.machine k sound.lawful reached))

pub before_within : (depth : ℕ) (q : Query) → IsWithin depth q → bases_before q ≤ depth
before_within depth (Base n) within = omega (arith, within.1)
before_within depth (Step k) within = within

pub last_is : (front : List Proof) (named : Proof) → last_query (front ++ named ∷ []) ≡ Some named.query
last_is front named = ap first_query (reverse-append front (named ∷ []))
