-- The certificate of what `decide` ends with is valid: end by end.
use Rattle.std.proofs.Common.{◌≡◌, ℕ, ◌-◌, ◌≤◌, Bool, true, false, List, [], ◌∷◌, ◌++◌, refl, ap, sym, subst, ◌∙◌, Option, Some, None, ℤ}
use Rattle.std.specs.List.{AllByRecursion}
use Rattle.pv_place.specs.Ranges.{Range, AreWithin}
use Rattle.pv_machine.specs.Machines.{IsState}
use Rattle.pv_cnf.specs.Clause.{Cnf}
use Rattle.pv_log.specs.declared.line.Line.{Line}
use Rattle.pv_solver.specs.Answers.{Problem, HasSpentLemmas}
use Rattle.pv_solver.specs.Lemmas.{AreLemmas}
use Rattle.pv_claims.specs.declared.claim.Claim.TheVariants as claim
use Rattle.pv_claims.specs.declared.trace.Ending.{Ending}
use Rattle.pv_claims.specs.declared.trace.Ending.TheVariants as ending
use Rattle.pv_claims.specs.declared.trace.Trace.{Trace}
use Rattle.pv_claims.specs.TracePart.{IsRun}
use Rattle.pv_cert.specs.declared.proof.Query.{Query}
use Rattle.pv_cert.specs.declared.proof.Query.TheVariants.{Base, Step}
use Rattle.pv_cert.specs.declared.proof.Chain.{Chain}
use Rattle.pv_cert.specs.declared.proof.Proof.{Proof}
use Rattle.pv_cert.specs.CertificateText.{no_reduction, IsTextOf}
use Rattle.pv_kind.specs.declared.decision.Limits.{Limits}
use Rattle.pv_kind.specs.declared.decision.End.{End}
use Rattle.pv_kind.specs.declared.decision.End.TheVariants.{Proved, Failed, Depth, SpentLemmas, SpentRegion}
use Rattle.pv_kind.specs.Refinements.{Stage}
use Rattle.pv_kind.specs.Oracles.{Encoding}
use Rattle.pv_kind.specs.Decisions.{bases, bases_before, IsWithin, problem_of, IsSpent, Decides, SpendsWords}
use Rattle.pv_valid.specs.Cases.{Case, IsSound}
use Rattle.pv_valid.specs.Claims.{ends_as}
use Rattle.pv_valid.specs.Validity.{BeginsIn, first_state, Replays, AreProofs, AreSpent, HasBudget, HasNeed, ProofsBelong, IsRight, verdict_of, IsValid}
use Rattle.pv_valid.specs.Deciding.{proved_claim, failed_claim, claiming, certificate_of, IsOracleOf}
use Rattle.pv_valid.proofs.Oracles.{proofs-of, way-of}
use Rattle.pv_valid.proofs.Endings.{told-of, failed-belongs}
use Rattle.pv_valid.proofs.Sums.{next-sum, full-sum}

module _ (case : Case) (sound : IsSound case) (e : Encoding) (first last : Stage) (limits : Limits) (o : IsOracleOf case e first limits) (proofs : List Proof) where
  proved-right : (goal : Bool) (k : ℕ) → case.facts.goal ≡ goal → k ≤ case.facts.depth → AreProofs case (bases k ++ Step k ∷ []) proofs
      → IsRight case (claiming (proved_claim goal k) None None proofs)
  proved-right false k is within are = record { belongs = (is, within); replays = tt; proofs = are }
  proved-right true k is within are = record { belongs = (is, within); replays = tt; proofs = are }

  -- ---- a run that fails

  state-of : (image : Option (List ℤ)) (t : Trace) → image ≡ None → BeginsIn case image t → IsState case.machine (first_state case image t)
  state-of None t none begins =
      sound.lawful.starts t.params (subst (λ (ranges : List Range). AreWithin ranges t.params) sound.params begins)
  state-of (Some image) t none begins = absurd cc

  failed-proofs : (goal : Bool) (told : Ending) (n : ℕ) → AreProofs case (bases (n - 1)) proofs
      → ProofsBelong case (failed_claim goal (Some told) n) None proofs
  failed-proofs false ending.Pattern n are = are
  failed-proofs true ending.Pattern n are = are
  failed-proofs false (ending.Trap k place) n are = are
  failed-proofs true (ending.Trap k place) n are = are
  failed-proofs false (ending.Over place) n are = are
  failed-proofs true (ending.Over place) n are = are

  failed-right : (n : ℕ) (t : Trace) → (1 ≤ n) × (n ≤ case.facts.depth) → AreProofs case (bases (n - 1)) proofs
      → Replays case (claim.Depth n) t → IsRun n t → IsRight case (certificate_of case proofs (Failed n t))
  failed-right n t scan are r run =
      let inputs = subst (λ (ranges : List Range). AllByRecursion (AreWithin ranges) t.inputs) sound.input r.inputs in
      let h = told-of case sound (λ told. ends_as (claim.Depth n) told ≡ true) t.inputs (first_state case t.image t)
      (state-of t.image t run.image r.begins) inputs r.fails in
      let said = failed-belongs case.facts case.facts.goal h.told n refl scan h.no_trap in
      let claimed = failed_claim case.facts.goal (Some h.told) n in
      let right : IsRight case (claiming claimed (Some t) None proofs) = record {
        belongs = said.0;
        replays = record { begins = r.begins; inputs = r.inputs; fails = h.as_told (λ told. ends_as claimed told ≡ true) said.1 };
        proofs = failed-proofs case.facts.goal h.told n are;
      } in
      subst (λ (x : Option Ending). IsRight case (claiming (failed_claim case.facts.goal x n) (Some t) None proofs)) (sym h.last) right

  depth-right : (t : Trace) → AreProofs case (bases case.facts.depth) proofs → Replays case (claim.Depth case.facts.depth) t
      → IsRight case (certificate_of case proofs (Depth t))
  depth-right t are r = record { belongs = refl; replays = r; proofs = are }

  -- ---- limits

  -- a query's clauses with the limits, as the oracle has them and as the case does
  abbrev case-problem : Query → Problem
  case-problem q = problem_of limits (case.formula q).variables (case.formula q).clauses

  spent-as : (says : Problem → List Line → Type 0) (Says : Cnf → List Line → Type 0)
      → ((q : Query) (log : List Line) → says (case-problem q) log
      → AreLemmas (case.formula q).variables (case.formula q).clauses log × Says (case.formula q) log)
      → IsSpent case.machine e first last limits says proofs → AreSpent case Says proofs
  spent-as says Says reads s =
      let q = s.proof.query in
      let way = way-of case e first limits o last (bases (bases_before q)) s.front s.turn.are_proofs in
      let plain : s.proof.chain ≡ no_reduction = s.chain ∙ (ap (λ (x : Stage). x.chain) (sym way.last) ∙ o.chain) in
      let here = subst (λ (c : Chain). says (problem_of limits (e.variables c q) (e.clauses c q)) s.proof.log) plain s.log in
      let over = subst (λ (v : ℕ). says (problem_of limits v (e.clauses no_reduction q)) s.proof.log) (o.variables q) here in
      let log = subst (λ (cs : List (List ℕ)). says (problem_of limits (case.formula q).variables cs) s.proof.log) (o.clauses q) over in
      let read = reads q s.proof.log log in
      record {
        front = s.front;
        named = s.proof;
        split = s.split;
        earlier = proofs-of case e first limits o last (bases (bases_before q)) s.front s.turn.are_proofs;
        spends = record {
          within = subst (λ (d : ℕ). IsWithin d q) o.depth s.within;
          chain = plain;
          fits = o.fits;
          lemmas = read.0;
          says = read.1;
        };
      }

  budget-read : (q : Query) (log : List Line) → HasSpentLemmas (case-problem q) log
      → AreLemmas (case.formula q).variables (case.formula q).clauses log × HasBudget case.facts.lemmas (case.formula q) log
  budget-read q log h = (h.spent.lemmas, h.all ∙ o.lemmas)

  no-lemmas : (v : ℕ) (clauses : List (List ℕ)) (log : List Line) → log ≡ [] → AreLemmas v clauses log
  no-lemmas v clauses [] none = record { each = tt; none_empty = tt }
  no-lemmas v clauses (l ∷ log) none = absurd cc

  need-read : (need : ℕ) (next : Option Line) (q : Query) (log : List Line) → SpendsWords (case-problem q) log need next
      → AreLemmas (case.formula q).variables (case.formula q).clauses log × HasNeed limits.words need next (case.formula q) log
  need-read need None q log h =
      (no-lemmas (case.formula q).variables (case.formula q).clauses log h.no_line, record { sum = full-sum (case-problem q) log need h; lemma = tt })
  need-read need (Some next) q log h =
      (h.spent.lemmas, record { sum = next-sum (case-problem q) log next need h; lemma = h.next_is })

  -- ---- end by end

  pub right-of : (end : End) → Decides case.machine e first last limits proofs end → IsRight case (certificate_of case proofs end)
  right-of (Proved k) d = proved-right case.facts.goal k refl (subst (λ (n : ℕ). k ≤ n) o.depth d.within)
      (proofs-of case e first limits o last (bases k ++ Step k ∷ []) proofs d.are_proofs)
  right-of (Failed n t) d =
      let shows = o.shows (Base n) t d.shown in
      failed-right n t (subst (λ (m : ℕ). IsWithin m (Base n)) o.depth d.within)
      (proofs-of case e first limits o last (bases (n - 1)) proofs d.turn.are_proofs) shows.0 shows.1
  right-of (Depth t) d =
      let shows = o.shows (Step limits.depth) t d.shown in
      depth-right t (subst (λ (m : ℕ). AreProofs case (bases m) proofs) o.depth
      (proofs-of case e first limits o last (bases limits.depth) proofs d.turn.are_proofs))
      (subst (λ (m : ℕ). Replays case (claim.Depth m) t) o.depth shows.0)
  right-of SpentLemmas d = record {
    belongs = refl;
    replays = tt;
    proofs = spent-as HasSpentLemmas (HasBudget case.facts.lemmas) budget-read d;
  }
  right-of (SpentRegion need next) d = record {
    belongs = tt;
    replays = tt;
    proofs = subst (λ (w : ℕ). AreSpent case (HasNeed w need next) proofs) o.words
        (spent-as (λ p lines. SpendsWords p lines need next) (HasNeed limits.words need next) (need-read need next) d);
  }

pub decided-valid : (case : Case) (e : Encoding) (first last : Stage) (limits : Limits) (proofs : List Proof) (end : End) (bytes : List ℕ)
    → IsSound case → IsOracleOf case e first limits → Decides case.machine e first last limits proofs end
    → IsTextOf bytes (certificate_of case proofs end) → IsValid case bytes (verdict_of case (certificate_of case proofs end))
decided-valid case e first last limits proofs end bytes sound o d t = record {
  certificate = certificate_of case proofs end;
  is_text = t;
  is_right = right-of case sound e first last limits o proofs end d;
  says = refl;
}
