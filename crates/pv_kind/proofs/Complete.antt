-- That a decision whose limits aren't spent shows what can be shown up to its depth.
use Rattle.std.proofs.Common.{◌≡◌, ℕ, ◌≤◌, inl, inr, List, subst, arith}
use Rattle.std.proofs.lemmas.Bool.{cases_lt}
use Rattle.pv_machine.specs.Machines.{Machine}
use Rattle.pv_machine.specs.Queries.{MeetsBase, MeetsStep}
use Rattle.pv_cert.specs.declared.proof.Query.{Query}
use Rattle.pv_cert.specs.declared.proof.Query.TheVariants.{Base, Step}
use Rattle.pv_cert.specs.declared.proof.Proof.{Proof}
use Rattle.pv_claims.specs.declared.trace.Trace.{Trace}
use Rattle.pv_kind.specs.declared.decision.Limits.{Limits}
use Rattle.pv_kind.specs.declared.decision.End.{End}
use Rattle.pv_kind.specs.declared.decision.End.TheVariants.{Proved, Failed, Depth, SpentLemmas, SpentRegion}
use Rattle.pv_kind.specs.Refinements.{Stage}
use Rattle.pv_kind.specs.Oracles.{Encoding, Meets}
use Rattle.pv_kind.proofs.Early.{some_scan}
use Rattle.pv_kind.specs.Decisions.{Decides, IsUnspent, IsProvedBy, IsFailedBy}

from_one : (m : Machine) (n : ℕ) → MeetsBase m n → 1 ≤ n
from_one m n b = let count = b.count in omega (arith, some_scan m (m.start b.params) b.inputs b.fails)

module _ (m : Machine) (e : Encoding) (first last : Stage) (limits : Limits) (shown : (q : Query) (t : Trace) → e.shows q t → Meets m q) (proofs : List Proof) where
  pub proves : (end : End) → Decides m e first last limits proofs end → (k : ℕ) → IsUnspent end → k ≤ limits.depth
      → ((j : ℕ) → 1 ≤ j → j ≤ k → MeetsBase m j → ⊥) → (MeetsStep m k → ⊥) → IsProvedBy k end
  proves (Proved j) d k unspent within bases step = elim (cases_lt k j) [
    | inl below ↦ absurd (step (d.met k below))
    | inr most ↦ most
  ]
  proves (Failed n trace) d k unspent within bases step = elim (cases_lt k n) [
    | inl below ↦ step (d.turn.met k below)
    | inr most ↦ bases n d.within.0 most (shown (Base n) trace d.shown)
  ]
  proves (Depth trace) d k unspent within bases step = elim (cases_lt k limits.depth) [
    | inl below ↦ step (d.turn.met k below)
    | inr most ↦ (let is : limits.depth ≡ k = omega arith in
        step (subst (λ (i : ℕ). MeetsStep m i) is (shown (Step limits.depth) trace d.shown)))
  ]
  proves SpentLemmas d k unspent within bases step = unspent
  proves (SpentRegion need next) d k unspent within bases step = unspent

  pub finds : (end : End) → Decides m e first last limits proofs end → (n : ℕ) → IsUnspent end → n ≤ limits.depth → MeetsBase m n → IsFailedBy n end
  finds (Proved k) d n unspent within met = d.holds n met
  finds (Failed j trace) d n unspent within met = elim (cases_lt n j) [
    | inl below ↦ absurd (d.turn.refuted n (from_one m n met) (omega arith) met)
    | inr most ↦ most
  ]
  finds (Depth trace) d n unspent within met = d.turn.refuted n (from_one m n met) within met
  finds SpentLemmas d n unspent within met = unspent
  finds (SpentRegion need next) d n unspent within met = unspent
