-- What a valid certificate says is so: an accepted log rules out the values that a met query would give (`not-met`), so the queries that
-- its proofs refute aren't met; k-induction says the rest, and a trace that replays shows what it shows.
use Rattle.std.proofs.Common.{◌≡◌, ℕ, zero, suc, ◌+◌, ◌-◌, ◌<◌, ◌≤◌, true, List, [], ◌∷◌, ◌++◌, map, refl, sym, subst, inl, inr, Option, Some, None, ℤ, arith}
use Rattle.std.specs.List.{AllByRecursion}
use Rattle.std.proofs.lemmas.Bool.{cases_lt}
use Rattle.pv_place.specs.Ranges.{Range, AreWithin}
use Rattle.pv_machine.specs.Machines.{Values, IsInput}
use Rattle.pv_machine.specs.Queries.{MeetsBase}
use Rattle.pv_machine.proofs.ForCallers.{no_base, step_of_reachable}
use Rattle.pv_log.specs.declared.line.Line.{Line}
use Rattle.pv_log.proofs.ForCallers.{accepted-refutes}
use Rattle.pv_cnf.specs.Clause.{Cnf}
use Rattle.pv_claims.specs.declared.claim.Claim.{Claim}
use Rattle.pv_claims.specs.declared.claim.Claim.TheVariants.{Satisfied, Unreachable, Violated, Trapped, Reached, Depth, Loop, Lemmas, Region}
use Rattle.pv_claims.specs.declared.trace.Trace.{Trace}
use Rattle.pv_claims.specs.TracePart.{trace_form, HasForm, IsRun, IsStretch}
use Rattle.pv_cert.specs.declared.proof.Query.{Query}
use Rattle.pv_cert.specs.declared.proof.Query.TheVariants.{Base, Step}
use Rattle.pv_cert.specs.declared.proof.Proof.{Proof}
use Rattle.pv_kind.specs.declared.told.TheConstants.{LAST_QUERY}
use Rattle.pv_kind.specs.Oracles.{IsAsked, Meets}
use Rattle.pv_kind.specs.Decisions.{bases, bases_before, IsWithin}
use Rattle.pv_valid.specs.Cases.{Case, IsSound}
use Rattle.pv_valid.specs.Shown.{FailsAtLastAs}
use Rattle.pv_valid.specs.Claims.{ends_as}
use Rattle.pv_valid.specs.Validity.{AreInputs, BeginsIn, first_state, Replays, Refutes, AreProofs, AreSpent, IsRight, HasBudget, HasNeed}
use Rattle.pv_valid.specs.Saying.{NeverFails, NoneFailsTo, ShowsRun, ShowsStretch, IsShown, IsSpentFor, Says}
use Rattle.pv_valid.specs.Deciding.{claiming}
use Rattle.pv_valid.proofs.Lists.{all-push, all-parts, bases-asked, from-one}

module _ (case : Case) (sound : IsSound case) where
  abbrev NotMet : Query → Type 0
  NotMet q = Meets case.machine q → ⊥

  -- ---- queries that are refuted

  not-met : (p : Proof) → IsAsked p.query → Refutes case p → NotMet p.query
  not-met p asked r met =
      let solution = (sound.met p.query asked).0 met in
      accepted-refutes solution.0 (case.formula p.query).variables (case.formula p.query).clauses p.log r.log.each r.log.ends solution.1

  none-met : (proofs : List Proof) → AllByRecursion IsAsked (map (λ (p : Proof). p.query) proofs) → AllByRecursion (Refutes case) proofs
      → AllByRecursion NotMet (map (λ (p : Proof). p.query) proofs)
  none-met [] asked refute = tt
  none-met (p ∷ proofs) asked refute = (not-met p asked.0 refute.0, none-met proofs asked.1 refute.1)

  queries-not-met : (queries : List Query) (proofs : List Proof) → AllByRecursion IsAsked queries → AreProofs case queries proofs
      → AllByRecursion NotMet queries
  queries-not-met queries proofs asked are = subst (AllByRecursion NotMet) are.in_order
      (none-met proofs (subst (AllByRecursion IsAsked) (sym are.in_order) asked) are.refute)

  bases-not-met : (n : ℕ) → AllByRecursion NotMet (bases n) → NoneFailsTo case.machine n
  bases-not-met zero all j le met = (let from = from-one case.machine j met in omega arith)
  bases-not-met (suc n) all j le met =
      let parts = all-parts NotMet (bases n) (Base (suc n)) all in
      elim (cases_lt j (suc n)) [
        | inl below ↦ bases-not-met n parts.0 j (omega (arith, below)) met
        | inr above ↦ (let is : j ≡ suc n = omega (arith, le, above) in parts.1 (subst (λ (i : ℕ). MeetsBase case.machine i) is met))
      ]

  none-to : (n : ℕ) (proofs : List Proof) → n ≤ case.facts.depth → AreProofs case (bases n) proofs → NoneFailsTo case.machine n
  none-to n proofs within are =
      let depth = sound.depth in
      bases-not-met n (queries-not-met (bases n) proofs (bases-asked n (omega (arith, within, depth))) are)

  none-before : (n : ℕ) (proofs : List Proof) → n ≤ case.facts.depth → AreProofs case (bases (n - 1)) proofs
      → (j : ℕ) → j < n → MeetsBase case.machine j → ⊥
  none-before n proofs within are j less = none-to (n - 1) proofs (omega (arith, within)) are j (omega (arith, less))

  -- k-induction
  never : (k : ℕ) (proofs : List Proof) → k ≤ case.facts.depth → AreProofs case (bases k ++ Step k ∷ []) proofs → NeverFails case.machine
  never k proofs within are =
      let depth = sound.depth in
      let most : k ≤ LAST_QUERY = omega (arith, within, depth) in
      let asked = all-push IsAsked (bases k) (Step k) (bases-asked k most) most in
      let parts = all-parts NotMet (bases k) (Step k) (queries-not-met (bases k ++ Step k ∷ []) proofs asked are) in
      no_base case.machine k (λ j from to. bases-not-met k parts.0 j to)
      (λ reached. parts.1 (step_of_reachable case.machine k sound.lawful reached))

  -- ---- traces that replay

  inputs-are : (inputs : List Values) → AreInputs case inputs → AllByRecursion (IsInput case.machine) inputs
  inputs-are inputs are = subst (λ (ranges : List Range). AllByRecursion (AreWithin ranges) inputs) sound.input are

  shows-run : (claim : Claim) (n : ℕ) (t : Trace) → IsRun n t → Replays case claim t → ShowsRun case claim n t
  shows-run claim n t is r = record {
    image = is.image;
    are_params = subst (λ (ranges : List Range). AreWithin ranges t.params) sound.params
        (subst (λ (o : Option (List ℤ)). BeginsIn case o t) is.image r.begins);
    are_inputs = inputs-are t.inputs r.inputs;
    count = is.scans;
    fails = subst (λ (o : Option (List ℤ)). FailsAtLastAs case.machine (λ told. ends_as claim told ≡ true) (first_state case o t) t.inputs)
        is.image r.fails;
  }

  shows-stretch : (claim : Claim) (k : ℕ) (t : Trace) → IsStretch (k + 1) t → Replays case claim t → ShowsStretch case claim k t
  shows-stretch claim k t is r =
      let begins = subst (λ (o : Option (List ℤ)). BeginsIn case o t) is.image.1 r.begins in
      record {
        values = is.image.0;
        image = is.image.1;
        is_state = sound.states is.image.0 t.prev begins.0 begins.1;
        are_inputs = inputs-are t.inputs r.inputs;
        count = is.scans;
        fails = subst (λ (o : Option (List ℤ)). FailsAtLastAs case.machine (λ told. ends_as claim told ≡ true) (first_state case o t) t.inputs)
            is.image.1 r.fails;
      }

  -- a run that fails at scan n, where none fails before
  shown : (claim : Claim) (n : ℕ) (t : Trace) (next : Option Line) (proofs : List Proof) → n ≤ case.facts.depth → IsRun n t
      → Replays case claim t → AreProofs case (bases (n - 1)) proofs → IsShown case (claiming claim (Some t) next proofs) n
  shown claim n t next proofs within is r are = record {
    trace = t;
    is = refl;
    shows = shows-run claim n t is r;
    earliest = none-before n proofs within are;
  }

  -- ---- limits that were spent

  before-within : (q : Query) → IsWithin case.facts.depth q → bases_before q ≤ case.facts.depth
  before-within (Base n) within = omega (arith, within.1)
  before-within (Step k) within = within

  spent-for : (So : Cnf → List Line → Type 0) (proofs : List Proof) → AreSpent case So proofs
      → IsSpentFor case (λ q log. So (case.formula q) log)
  spent-for So proofs are = record {
    query = are.named.query;
    log = are.named.log;
    within = are.spends.within;
    earlier = none-to (bases_before are.named.query) are.front (before-within are.named.query are.spends.within) are.earlier;
    lemmas = are.spends.lemmas;
    is_so = are.spends.says;
  }

  -- ---- verdict by verdict

  pub says : (claim : Claim) (trace : Option Trace) (next : Option Line) (proofs : List Proof) → HasForm (trace_form claim) trace
      → IsRight case (claiming claim trace next proofs) → Says case (claiming claim trace next proofs) claim
  says (Satisfied k) trace next proofs form right = (right.belongs.0, never k proofs right.belongs.1 right.proofs)
  says (Unreachable k) trace next proofs form right = (right.belongs.0, never k proofs right.belongs.1 right.proofs)
  says (Violated n) None next proofs form right = absurd form
  says (Violated n) (Some t) next proofs form right =
      (right.belongs.0, shown (Violated n) n t next proofs right.belongs.1.1 form right.replays right.proofs)
  says (Trapped n) None next proofs form right = absurd form
  says (Trapped n) (Some t) next proofs form right =
      (right.belongs.0, shown (Trapped n) n t next proofs right.belongs.1.1 form right.replays right.proofs)
  says (Reached n) None next proofs form right = absurd form
  says (Reached n) (Some t) next proofs form right =
      (right.belongs.0, shown (Reached n) n t next proofs right.belongs.1.1 form right.replays right.proofs)
  says (Depth k) None next proofs form right = absurd form
  says (Depth k) (Some t) next proofs form right = (let is = right.belongs in record {
    is_depth = is;
    trace = t;
    is = refl;
    shows = shows-stretch (Depth k) k t form right.replays;
    earlier = none-to k proofs (omega (arith, is)) right.proofs;
  })
  says (Loop n) None next proofs form right = absurd form
  says (Loop n) (Some t) next proofs form right = shown (Loop n) n t next proofs right.belongs.1 form right.replays right.proofs
  says (Lemmas b) trace next proofs form right = (right.belongs, spent-for (HasBudget b) proofs right.proofs)
  says (Region x) trace next proofs form right = spent-for (HasNeed case.facts.words x next) proofs right.proofs
