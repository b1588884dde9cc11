-- What a decision comes to is evidence.
use Rattle.std.proofs.Common.{◌≡◌, ℕ, ◌+◌, ◌≤◌, Bool, true, false, List, refl, ap, sym, subst, ◌∙◌, Option, Some, None}
use Rattle.pv_machine.specs.Machines.{Machine}
use Rattle.pv_machine.specs.Queries.{MeetsBase, MeetsStep}
use Rattle.pv_claims.specs.declared.claim.Claim.TheVariants as claim
use Rattle.pv_claims.specs.declared.claim.TraceForm.{TraceForm}
use Rattle.pv_claims.specs.declared.claim.TraceForm.TheVariants.{Nothing, Run}
use Rattle.pv_claims.specs.declared.trace.Ending.{Ending}
use Rattle.pv_claims.specs.declared.trace.Ending.TheVariants as ending
use Rattle.pv_claims.specs.declared.trace.Trace.{Trace}
use Rattle.pv_claims.specs.TracePart.{trace_form, HasForm, IsStretch}
use Rattle.pv_cert.specs.declared.proof.Query.TheVariants.{Base, Step}
use Rattle.pv_cert.specs.declared.proof.Proof.{Proof}
use Rattle.pv_cert.specs.declared.certificate.Certificate.{Certificate}
use Rattle.pv_cert.specs.CertificateText.{asks_next, IsWritableNext, IsWritable}
use Rattle.pv_kind.specs.declared.decision.Limits.{Limits}
use Rattle.pv_kind.specs.declared.decision.End.{End}
use Rattle.pv_kind.specs.declared.decision.End.TheVariants.{Proved, Failed, Depth, SpentLemmas, SpentRegion}
use Rattle.pv_kind.specs.Refinements.{Stage}
use Rattle.pv_kind.specs.Oracles.{Encoding}
use Rattle.pv_kind.specs.Decisions.{Decides, IsUnspent, IsProvedBy, IsFailedBy}
use Rattle.pv_valid.specs.Cases.{Case, IsSound}
use Rattle.pv_valid.specs.Validity.{Replays, ending_in, IsRight}
use Rattle.pv_valid.specs.Deciding.{proved_claim, failed_claim, certificate_of, IsOracleFor, IsOracleOf}
use Rattle.pv_valid.proofs.ForCallers.{right-of}
use Rattle.pv_evidence.specs.Endings.{ReplaysOnce, EndReplays}
use Rattle.pv_evidence.specs.Correct.{IsEvidence}
use Rattle.pv_evidence.proofs.Writable.{belonging-writable, region-writable}

-- where the circuit is within the limit, an oracle for a case is one of it
pub to-oracle : (case : Case) (e : Encoding) (first : Stage) (limits : Limits) → IsOracleFor case e first limits → case.passes ≡ false
    → IsOracleOf case e first limits
to-oracle case e first limits o fits = record {
  chain = o.chain;
  abstracted = o.abstracted;
  variables = o.variables;
  clauses = o.clauses;
  fits = fits;
  shows = o.shows;
  depth = o.depth;
  lemmas = o.lemmas;
  words = o.words;
}

pub fits-of : (case : Case) (e : Encoding) (first : Stage) (limits : Limits) → IsOracleFor case e first limits → e.passes first.chain ≡ false
    → case.passes ≡ false
fits-of case e first limits o fits = sym o.passes ∙ (ap e.passes (sym o.chain) ∙ fits)

module _ {F : Type 0} (mach : F → Machine) (enc : F → Encoding) where
  -- a decision of one machine with the same clauses, from the same stage
  pub decided-as : (f h : F) (s t last : Stage) (limits : Limits) (proofs : List Proof) (end : End) (m : Machine) → f ≡ h → s ≡ t
      → mach h ≡ m → Decides (mach f) (enc f) s last limits proofs end → Decides m (enc h) t last limits proofs end
  decided-as f h s t last limits proofs end m e from is d =
      subst (λ (x : Machine). Decides x (enc h) t last limits proofs end) is
      (subst (λ (u : Stage). Decides (mach h) (enc h) u last limits proofs end) from
      (subst (λ (x : F). Decides (mach x) (enc x) s last limits proofs end) e d))

once : (case : Case) (n : ℕ) (t : Trace) → Replays case (claim.Depth n) t → ReplaysOnce case t
once case n t r = record { begins = r.begins; inputs = r.inputs; fails = r.fails }

-- ---- forms

proved-form : (goal : Bool) (k : ℕ) → trace_form (proved_claim goal k) ≡ Nothing
proved-form false k = refl
proved-form true k = refl

proved-next : (goal : Bool) (k : ℕ) → asks_next (proved_claim goal k) ≡ false
proved-next false k = refl
proved-next true k = refl

failed-form : (goal : Bool) (told : Option Ending) (n : ℕ) → trace_form (failed_claim goal told n) ≡ Run n
failed-form false None n = refl
failed-form true None n = refl
failed-form false (Some ending.Pattern) n = refl
failed-form true (Some ending.Pattern) n = refl
failed-form false (Some (ending.Trap kind place)) n = refl
failed-form true (Some (ending.Trap kind place)) n = refl
failed-form false (Some (ending.Over place)) n = refl
failed-form true (Some (ending.Over place)) n = refl

failed-next : (goal : Bool) (told : Option Ending) (n : ℕ) → asks_next (failed_claim goal told n) ≡ false
failed-next false None n = refl
failed-next true None n = refl
failed-next false (Some ending.Pattern) n = refl
failed-next true (Some ending.Pattern) n = refl
failed-next false (Some (ending.Trap kind place)) n = refl
failed-next true (Some (ending.Trap kind place)) n = refl
failed-next false (Some (ending.Over place)) n = refl
failed-next true (Some (ending.Over place)) n = refl

has-form : (form other : TraceForm) (t : Option Trace) → form ≡ other → HasForm other t → HasForm form t
has-form form other t is has = subst (λ (f : TraceForm). HasForm f t) (sym is) has

no-next : (asks : Bool) → asks ≡ false → IsWritableNext asks None
no-next asks is = subst (λ (b : Bool). IsWritableNext b None) (sym is) refl

module _ (case : Case) (e : Encoding) (first last : Stage) (limits : Limits) (o : IsOracleOf case e first limits) (proofs : List Proof) where
  -- the trace of an end replays
  pub end-replays : (end : End) → Decides case.machine e first last limits proofs end → EndReplays case end
  end-replays (Proved k) d = tt
  end-replays (Failed n t) d = once case n t (o.shows (Base n) t d.shown).0
  end-replays (Depth t) d = once case limits.depth t (o.shows (Step limits.depth) t d.shown).0
  end-replays SpentLemmas d = tt
  end-replays (SpentRegion need next) d = tt

  writable-of : (end : End) → Decides case.machine e first last limits proofs end → IsRight case (certificate_of case proofs end)
      → IsWritable (certificate_of case proofs end)
  writable-of (Proved k) d right = record {
    trace = has-form (trace_form (proved_claim case.facts.goal k)) Nothing None (proved-form case.facts.goal k) refl;
    next = no-next (asks_next (proved_claim case.facts.goal k)) (proved-next case.facts.goal k);
    proofs = belonging-writable case (proved_claim case.facts.goal k) None proofs right.proofs;
  }
  writable-of (Failed n t) d right =
      let told = ending_in case (Some t) in
      record {
        trace = has-form (trace_form (failed_claim case.facts.goal told n)) (Run n) (Some t) (failed-form case.facts.goal told n)
            (o.shows (Base n) t d.shown).1;
        next = no-next (asks_next (failed_claim case.facts.goal told n)) (failed-next case.facts.goal told n);
        proofs = belonging-writable case (failed_claim case.facts.goal told n) None proofs right.proofs;
      }
  writable-of (Depth t) d right = record {
    trace = subst (λ (k : ℕ). IsStretch (k + 1) t) o.depth (o.shows (Step limits.depth) t d.shown).1;
    next = refl;
    proofs = belonging-writable case (claim.Depth case.facts.depth) None proofs right.proofs;
  }
  writable-of SpentLemmas d right = record {
    trace = refl;
    next = refl;
    proofs = belonging-writable case (claim.Lemmas case.facts.lemmas) None proofs right.proofs;
  }
  writable-of (SpentRegion need next) d right = record {
    trace = refl;
    next = region-writable case need next proofs right.proofs;
    proofs = belonging-writable case (claim.Region need) next proofs right.proofs;
  }

  pub is-evidence : IsSound case → (end : End) → Decides case.machine e first last limits proofs end → (c : Certificate) (told : Option Ending)
      → c ≡ certificate_of case proofs end → told ≡ ending_in case c.trace
      → ((k : ℕ) → IsUnspent end → k ≤ limits.depth → ((j : ℕ) → 1 ≤ j → j ≤ k → MeetsBase case.machine j → ⊥)
      → (MeetsStep case.machine k → ⊥) → IsProvedBy k end)
      → ((n : ℕ) → IsUnspent end → n ≤ limits.depth → MeetsBase case.machine n → IsFailedBy n end)
      → IsEvidence case e first limits c told
  is-evidence sound end d c told is ends proves finds =
      let right = right-of case sound e first last limits o proofs end d in
      record {
        proofs = proofs;
        end = end;
        last = last;
        decides = d;
        certificate = is;
        ending = ends;
        right = subst (IsRight case) (sym is) right;
        writable = subst IsWritable (sym is) (writable-of end d right);
        proves = proves;
        finds = finds;
      }
