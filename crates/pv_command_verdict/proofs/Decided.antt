-- What a decision says besides its certificate: the queries were asked in order, and what can be decided within the limits is decided.
use Rattle.std.proofs.Common.{◌≡◌, ◌↔◌, ◌⊎◌, inl, inr, ℕ, ◌+◌, ◌*◌, ◌^◌, ◌<◌, ◌≤◌, Bool, true, false, List, [], ◌∷◌, ◌++◌, Option, Some, None, refl, ap, sym, subst, ◌∙◌, arith}
use Rattle.std.specs.Prelude.{reverse, sum_by}
use Rattle.std.proofs.lemmas.List.{reverse-append}
use Rattle.std.proofs.lemmas.List.Sums.{sum_by-append, sum_by-cons}
use Rattle.pv_place.specs.declared.place.Place.{Place}
use Rattle.pv_cnf.specs.Clause.{Cnf, AreClauses}
use Rattle.pv_log.specs.declared.line.Line.{Line}
use Rattle.pv_log.specs.Propagation.{LeadsToFalse}
use Rattle.pv_solver.specs.Costs.{clause_cost, words_of}
use Rattle.pv_solver.specs.Answers.{Problem, HasSpentLemmas, HasSpentRegion}
use Rattle.pv_machine.specs.Machines.{Machine}
use Rattle.pv_machine.specs.Queries.{MeetsBase, MeetsStep}
use Rattle.pv_mean.specs.Sources.{Source}
use Rattle.pv_mean.specs.Runs.{start as start_of}
use Rattle.pv_mean.proofs.ForCallers.{length-start_image}
use Rattle.pv_pattern.specs.Patterns.{Pattern, asks_for_goal}
use Rattle.pv_pattern.specs.Failing.{Cause, over}
use Rattle.pv_pattern.specs.Sources.{looks_back, machine_of}
use Rattle.pv_pattern.proofs.ForCallers.{first_fails}
use Rattle.pv_case.specs.declared.case.Limits.{Limits as A_limits}
use Rattle.pv_claims.specs.declared.claim.Claim.{Claim}
use Rattle.pv_claims.specs.declared.claim.Claim.TheVariants as claim
use Rattle.pv_claims.specs.declared.trace.Ending.{Ending}
use Rattle.pv_claims.specs.declared.trace.Ending.TheVariants as ending
use Rattle.pv_claims.specs.declared.trace.Trace.{Trace}
use Rattle.pv_cert.specs.declared.proof.Query.{Query}
use Rattle.pv_cert.specs.declared.proof.Query.TheVariants.{Base, Step}
use Rattle.pv_cert.specs.declared.proof.Proof.{Proof}
use Rattle.pv_cert.specs.declared.certificate.Certificate.{Certificate}
use Rattle.pv_circuit.specs.declared.start.Start.{Start}
use Rattle.pv_circuit.specs.Circuits.{Circuit}
use Rattle.pv_kind.specs.declared.decision.End.{End}
use Rattle.pv_kind.specs.declared.decision.End.TheVariants.{Proved, Failed, Depth, SpentLemmas, SpentRegion}
use Rattle.pv_kind.specs.Refinements.{Stage}
use Rattle.pv_kind.specs.declared.told.TheConstants.{LAST_QUERY}
use Rattle.pv_kind.specs.Oracles.{IsAsked}
use Rattle.pv_kind.specs.Decisions.{Decides, IsFull, SpendsWords, problem_of, steps_before, IsWithin, IsUnspent, IsProvedBy, IsFailedBy}
use Rattle.pv_valid.specs.Cases.{Case, IsSound}
use Rattle.pv_valid.specs.Validity.{ending_in}
use Rattle.pv_valid.specs.Deciding.{certificate_of, failed_claim, proved_claim}
use Rattle.pv_lift.specs.Facts.{facts_of}
use Rattle.pv_lift.specs.Cases.{case_of}
use Rattle.pv_lift.specs.Stages.{encoding_of}
use Rattle.pv_evidence.specs.Reported.{last_query}
use Rattle.pv_command_verdict.specs.Cases.{limits_by}
use Rattle.pv_command_verdict.specs.Sayings.{FailsBy, SaysOfSource, asked_last, MeetsEarlierSteps, IsInOrder}
use Rattle.pv_command_verdict.specs.Bounds as bounds
use Rattle.pv_command_verdict.specs.Bounds.{IsShownBy, ClosesBy, SomeFailsAt, NoneGoesOver, SpendsOf}
use Rattle.pv_command_verdict.proofs.Refuted.{last_is}

-- ---- words

-- some of the clauses take no more words than all
some_fit : (variables : ℕ) (before : List (List ℕ)) (clause : List ℕ) (rest : List (List ℕ))
    → words_of variables (before ++ clause ∷ []) ≤ words_of variables (before ++ clause ∷ rest)
some_fit variables before clause rest =
    let few = sum_by-append clause_cost before (clause ∷ []) in
    let all = sum_by-append clause_cost before (clause ∷ rest) in
    let one = sum_by-cons clause_cost clause [] in
    let more = sum_by-cons clause_cost clause rest in
    let none : sum_by clause_cost [] ≡ 0 = refl in
    omega (arith, few, all, one, more, none)

none_fit : (variables : ℕ) (clauses : List (List ℕ)) → 2 * variables ≤ words_of variables clauses
none_fit variables clauses = omega arith

full_past : (p : Problem) (lines : List Line) (need : ℕ) → IsFull p lines need → p.words < words_of p.variables p.clauses
full_past p lines need full = elim full.at [
  | inl all ↦ (let past = full.past in let none = none_fit p.variables p.clauses in omega (arith, past, all, none))
  | inr at ↦ (
      let past = full.past in
      let sum = at.sum in
      let some = some_fit p.variables at.before at.clause at.rest in
      let whole : words_of p.variables (at.before ++ at.clause ∷ at.rest) ≡ words_of p.variables p.clauses =
      ap (words_of p.variables) (sym at.split) in
      omega (arith, past, sum, some, whole))
]

-- ---- claims

shown_or_over : (n j : ℕ) (goal : Bool) (told : Option Ending) → j ≤ n
    → IsShownBy n (failed_claim goal told j) ⊎ (failed_claim goal told j ≡ claim.Loop j)
shown_or_over n j false None le = inl le
shown_or_over n j true None le = inl le
shown_or_over n j false (Some ending.Pattern) le = inl le
shown_or_over n j true (Some ending.Pattern) le = inl le
shown_or_over n j false (Some (ending.Trap kind place)) le = inl le
shown_or_over n j true (Some (ending.Trap kind place)) le = inl le
shown_or_over n j false (Some (ending.Over place)) le = inr refl
shown_or_over n j true (Some (ending.Over place)) le = inr refl

proved_unspent : (goal : Bool) (k : ℕ) → bounds.IsSpent (proved_claim goal k) → ⊥
proved_unspent false k s = s
proved_unspent true k s = s

failed_unspent : (goal : Bool) (told : Option Ending) (n : ℕ) → bounds.IsSpent (failed_claim goal told n) → ⊥
failed_unspent false None n s = s
failed_unspent true None n s = s
failed_unspent false (Some ending.Pattern) n s = s
failed_unspent true (Some ending.Pattern) n s = s
failed_unspent false (Some (ending.Trap kind place)) n s = s
failed_unspent true (Some (ending.Trap kind place)) n s = s
failed_unspent false (Some (ending.Over place)) n s = s
failed_unspent true (Some (ending.Over place)) n s = s

proved_by : (goal : Bool) (j k : ℕ) → j ≤ k → bounds.IsProvedBy k (proved_claim goal j)
proved_by false j k le = le
proved_by true j k le = le

asked_failed : (c : Certificate) (goal : Bool) (told : Option Ending) (n : ℕ) → asked_last c (failed_claim goal told n) ≡ Some (Base n)
asked_failed c false None n = refl
asked_failed c true None n = refl
asked_failed c false (Some ending.Pattern) n = refl
asked_failed c true (Some ending.Pattern) n = refl
asked_failed c false (Some (ending.Trap kind place)) n = refl
asked_failed c true (Some (ending.Trap kind place)) n = refl
asked_failed c false (Some (ending.Over place)) n = refl
asked_failed c true (Some (ending.Over place)) n = refl

asked_proved : (c : Certificate) (goal : Bool) (k : ℕ) → asked_last c (proved_claim goal k) ≡ Some (Step k)
asked_proved c false k = refl
asked_proved c true k = refl

within_asked : (depth : ℕ) (q : Query) → depth ≤ LAST_QUERY → IsWithin depth q → IsAsked q
within_asked depth (Base n) most w = (w.0, omega (arith, w.1, most))
within_asked depth (Step k) most w = omega (arith, w, most)

same_query : (q r : Query) → Some q ≡ Some r → q ≡ r
same_query q r e = cc

same_proof : (x y : Proof) → Some x ≡ Some y → x ≡ y
same_proof x y e = cc

-- the last proof, as that with which the list begins backwards
abbrev first_proof : List Proof → Option Proof
first_proof [] = None
first_proof (x ∷ xs) = Some x

last_proof : (front : List Proof) (x : Proof) → first_proof (reverse (front ++ x ∷ [])) ≡ Some x
last_proof front x = ap first_proof (reverse-append front (x ∷ []))

-- a run goes over the bound by what is printed
goes_over : (source : Source) (p : Pattern) (n : ℕ) (place : Place) (t : Option Trace) → FailsBy source p n (over place) t
    → SomeFailsAt source p n (over place)
goes_over source p n place t by = record {
  params = by.trace.params;
  inputs = by.trace.inputs;
  are_params = by.fits.params;
  are_inputs = by.fits.inputs;
  fails = by.fails;
}

some_base : (source : Source) (p : Pattern) (n : ℕ) (cause : Cause) → SomeFailsAt source p n cause → MeetsBase (machine_of source p) n
some_base source p n cause some =
    let within = first_fails source p None (start_of source some.params) some.inputs n cause (length-start_image source.cells some.params)
    some.are_inputs some.fails in
    record {
      params = some.params;
      inputs = within.0;
      are_params = some.are_params;
      are_inputs = within.2;
      count = within.1;
      fails = within.3;
    }

-- ---- all of it

-- laws of what a solver spends
pub record Suffice : Type 0 where
  pub lemmas : (p : Problem) (lines : List Line) → HasSpentLemmas p lines → p.lemmas < 3 ^ p.variables
  pub words : (p : Problem) (lines : List Line) (next : Line) (need : ℕ) → AreClauses p.variables p.clauses
      → HasSpentRegion p lines next need → p.words < words_of p.variables p.clauses + 3 ^ p.variables * (2 * p.variables + 5)
  pub propagated : (p : Problem) (lines : List Line) (hints : List ℕ) → LeadsToFalse p.clauses [] hints → HasSpentLemmas p lines → ⊥
  pub filled : (p : Problem) (lines : List Line) (next : Line) (need : ℕ) (hints : List ℕ) → LeadsToFalse p.clauses [] hints
      → HasSpentRegion p lines next need → ⊥

module _ (source : Source) (p : Pattern) (limits : A_limits) (m : Machine) (c : Circuit) (start : List Start)
    (base : (k : ℕ) → MeetsBase (machine_of source p) k ↔ MeetsBase m k)
    (step : (k : ℕ) → MeetsStep (machine_of source p) k ↔ MeetsStep m k)
    (sound : IsSound (case_of m c start (facts_of source.cells (asks_for_goal p) (looks_back p) (limits_by limits)))) where
  abbrev case : Case
  case = case_of m c start (facts_of source.cells (asks_for_goal p) (looks_back p) (limits_by limits))

  abbrev Decided : Stage → Stage → List Proof → End → Type 0
  Decided first last proofs end = Decides m (encoding_of m c start source.cells (looks_back p)) first last (limits_by limits) proofs end

  -- ---- in order

  met : (q : Query) → ((j : ℕ) → j < steps_before q → MeetsStep m j) → MeetsEarlierSteps source p q
  met q of j less = (step j).1 (of j less)

  pub in_order : (first last : Stage) (proofs : List Proof) (end : End) → Decided first last proofs end
      → IsInOrder source p (certificate_of case proofs end)
  in_order first last proofs (Proved k) d = record {
    query = Step k;
    asked = asked_proved (certificate_of case proofs (Proved k)) (asks_for_goal p) k;
    met = met (Step k) d.met;
  }
  in_order first last proofs (Failed n t) d = record {
    query = Base n;
    asked = asked_failed (certificate_of case proofs (Failed n t)) (asks_for_goal p) (ending_in case (Some t)) n;
    met = met (Base n) d.turn.met;
  }
  in_order first last proofs (Depth t) d = record {
    query = Step limits.depth;
    asked = refl;
    met = met (Step limits.depth) d.turn.met;
  }
  in_order first last proofs SpentLemmas d = record {
    query = d.proof.query;
    asked = ap last_query d.split ∙ last_is d.front d.proof;
    met = met d.proof.query d.turn.met;
  }
  in_order first last proofs (SpentRegion need next) d = record {
    query = d.proof.query;
    asked = ap last_query d.split ∙ last_is d.front d.proof;
    met = met d.proof.query d.turn.met;
  }

  -- ---- complete

  unspent : (proofs : List Proof) (end : End) → (bounds.IsSpent (certificate_of case proofs end).claim → ⊥) → IsUnspent end
  unspent proofs (Proved k) h = tt
  unspent proofs (Failed n t) h = tt
  unspent proofs (Depth t) h = tt
  unspent proofs SpentLemmas h = h tt
  unspent proofs (SpentRegion need next) h = h tt

  -- where k-induction closes
  pub closed : (proofs : List Proof) (end : End) (k : ℕ) → IsProvedBy k end → bounds.IsProvedBy k (certificate_of case proofs end).claim
  closed proofs (Proved j) k le = proved_by (asks_for_goal p) j k le
  closed proofs (Failed n t) k none = absurd none
  closed proofs (Depth t) k none = none
  closed proofs SpentLemmas k none = none
  closed proofs (SpentRegion need next) k none = none

  pub closes : (proofs : List Proof) (end : End) (k : ℕ)
      → ((k : ℕ) → IsUnspent end → k ≤ limits.depth → ((j : ℕ) → 1 ≤ j → j ≤ k → MeetsBase m j → ⊥) → (MeetsStep m k → ⊥) → IsProvedBy k end)
      → (bounds.IsSpent (certificate_of case proofs end).claim → ⊥) → k ≤ limits.depth → ClosesBy source p k
      → bounds.IsProvedBy k (certificate_of case proofs end).claim
  closes proofs end k proves h le by =
      closed proofs end k (proves k (unspent proofs end h) le (λ j one to meets. by.base j one to ((base j).1 meets))
      (λ meets. by.step ((step k).1 meets)))

  -- where a run fails
  pub found : (proofs : List Proof) (end : End) (n : ℕ) → IsFailedBy n end → NoneGoesOver source p n
      → SaysOfSource source p limits (certificate_of case proofs end) (ending_in case (certificate_of case proofs end).trace)
      (certificate_of case proofs end).claim
      → IsShownBy n (certificate_of case proofs end).claim
  found proofs (Proved k) n none not says = absurd none
  found proofs (Failed j t) n le not says = elim (shown_or_over n j (asks_for_goal p) (ending_in case (Some t)) le) [
    | inl shown ↦ shown
    | inr is ↦ (
        let loop = subst (λ (x : Claim). SaysOfSource source p limits (certificate_of case proofs (Failed j t)) (ending_in case (Some t)) x) is says in
        absurd (not j loop.1 le (goes_over source p j loop.1 (Some t) loop.3)))
  ]
  found proofs (Depth t) n none not says = none
  found proofs SpentLemmas n none not says = none
  found proofs (SpentRegion need next) n none not says = none

  pub finds : (proofs : List Proof) (end : End) (n : ℕ) (cause : Cause)
      → ((n : ℕ) → IsUnspent end → n ≤ limits.depth → MeetsBase m n → IsFailedBy n end)
      → (bounds.IsSpent (certificate_of case proofs end).claim → ⊥) → n ≤ limits.depth → SomeFailsAt source p n cause → NoneGoesOver source p n
      → SaysOfSource source p limits (certificate_of case proofs end) (ending_in case (certificate_of case proofs end).trace)
      (certificate_of case proofs end).claim
      → IsShownBy n (certificate_of case proofs end).claim
  finds proofs end n cause shown h le some not says =
      found proofs end n (shown n (unspent proofs end h) le ((base n).0 (some_base source p n cause some))) not says

  -- where a limit is spent
  abbrev f : Query → Cnf
  f q = case.formula q

  filled_past : Suffice → (q : Query) (lines : List Line) (need : ℕ) (next : Option Line) → AreClauses (f q).variables (f q).clauses
      → SpendsWords (problem_of (limits_by limits) (f q).variables (f q).clauses) lines need next
      → limits.region_words < words_of (f q).variables (f q).clauses + 3 ^ (f q).variables * (2 * (f q).variables + 5)
  filled_past suffice q lines need None valid full = (
      let past = full_past (problem_of (limits_by limits) (f q).variables (f q).clauses) lines need full in
      omega (arith, past)
      )
  filled_past suffice q lines need (Some next) valid spent =
      suffice.words (problem_of (limits_by limits) (f q).variables (f q).clauses) lines next need valid spent

  no_propagation : Suffice → (q : Query) (lines : List Line) (need : ℕ) (next : Option Line)
      → SpendsWords (problem_of (limits_by limits) (f q).variables (f q).clauses) lines need next
      → words_of (f q).variables (f q).clauses ≤ limits.region_words → (hints : List ℕ) → LeadsToFalse (f q).clauses [] hints → ⊥
  no_propagation suffice q lines need None full fit hints leads = (
      let past = full_past (problem_of (limits_by limits) (f q).variables (f q).clauses) lines need full in
      omega (arith, past, fit)
      )
  no_propagation suffice q lines need (Some next) spent fit hints leads =
      suffice.filled (problem_of (limits_by limits) (f q).variables (f q).clauses) lines next need hints leads spent

  not_region : (b x : ℕ) → claim.Lemmas b ≡ claim.Region x → ⊥
  not_region b x e = absurd cc

  not_lemmas : (b x : ℕ) → claim.Region x ≡ claim.Lemmas b → ⊥
  not_lemmas b x e = absurd cc

  same_lemmas : (a b : ℕ) → claim.Lemmas a ≡ claim.Lemmas b → a ≡ b
  same_lemmas a b e = cc

  same_region : (x y : ℕ) → claim.Region x ≡ claim.Region y → x ≡ y
  same_region x y e = cc

  -- which words were lacking
  pub lacks : (first last : Stage) (proofs : List Proof) (end : End) → Decided first last proofs end
      → (front : List Proof) (named : Proof) (x : ℕ) → (certificate_of case proofs end).claim ≡ claim.Region x
      → (certificate_of case proofs end).proofs ≡ front ++ named ∷ []
      → SpendsWords (problem_of (limits_by limits) (f named.query).variables (f named.query).clauses) named.log x (certificate_of case proofs end).next
  lacks first last proofs (Proved k) d front named x is split =
      absurd (proved_unspent (asks_for_goal p) k (subst (λ (c : Claim). bounds.IsSpent c) (sym is) tt))
  lacks first last proofs (Failed n t) d front named x is split =
      absurd (failed_unspent (asks_for_goal p) (ending_in case (Some t)) n (subst (λ (c : Claim). bounds.IsSpent c) (sym is) tt))
  lacks first last proofs (Depth t) d front named x is split =
      absurd (subst (λ (c : Claim). bounds.IsSpent c) (sym is) tt)
  lacks first last proofs SpentLemmas d front named x is split = absurd (not_region limits.lemmas x is)
  lacks first last proofs (SpentRegion need next) d front named x is split =
      let one : d.proof ≡ named = same_proof d.proof named (sym (last_proof d.front d.proof)
      ∙ ap (λ (ps : List Proof). first_proof (reverse ps)) (sym d.split ∙ split) ∙ last_proof front named) in
      let own : SpendsWords (problem_of (limits_by limits) (f d.proof.query).variables (f d.proof.query).clauses) d.proof.log need next = d.log in
      subst (λ (n : ℕ). SpendsWords (problem_of (limits_by limits) (f named.query).variables (f named.query).clauses) named.log n next)
      (same_region need x is)
      (subst (λ (y : Proof). SpendsWords (problem_of (limits_by limits) (f y.query).variables (f y.query).clauses) y.log need next) one own)

  pub spends : Suffice → ((q : Query) → IsAsked q → AreClauses (f q).variables (f q).clauses) → (first last : Stage) (proofs : List Proof) (end : End)
      → Decided first last proofs end → (q : Query) → bounds.IsSpent (certificate_of case proofs end).claim → last_query (certificate_of case proofs end).proofs ≡ Some q
      → SpendsOf limits (f q) (certificate_of case proofs end).claim
  spends suffice valid first last proofs (Proved k) d q s named = absurd (proved_unspent (asks_for_goal p) k s)
  spends suffice valid first last proofs (Failed n t) d q s named = absurd (failed_unspent (asks_for_goal p) (ending_in case (Some t)) n s)
  spends suffice valid first last proofs (Depth t) d q s named = absurd s
  spends suffice valid first last proofs SpentLemmas d q s named =
      let one : d.proof.query ≡ q = same_query d.proof.query q (sym (ap last_query d.split ∙ last_is d.front d.proof) ∙ named) in
      let is : HasSpentLemmas (problem_of (limits_by limits) (f q).variables (f q).clauses) d.proof.log =
      subst (λ (r : Query). HasSpentLemmas (problem_of (limits_by limits) (f r).variables (f r).clauses) d.proof.log) one d.log in
      record {
        lemmas = λ b said. subst (λ (x : ℕ). x < 3 ^ (f q).variables) (same_lemmas limits.lemmas b said)
            (suffice.lemmas (problem_of (limits_by limits) (f q).variables (f q).clauses) d.proof.log is);
        words = λ x said. absurd (not_region limits.lemmas x said);
        propagates = λ spent fit hints leads.
            suffice.propagated (problem_of (limits_by limits) (f q).variables (f q).clauses) d.proof.log hints leads is;
      }
  spends suffice valid first last proofs (SpentRegion need next) d q s named =
      let one : d.proof.query ≡ q = same_query d.proof.query q (sym (ap last_query d.split ∙ last_is d.front d.proof) ∙ named) in
      let is : SpendsWords (problem_of (limits_by limits) (f q).variables (f q).clauses) d.proof.log need next =
      subst (λ (r : Query). SpendsWords (problem_of (limits_by limits) (f r).variables (f r).clauses) d.proof.log need next) one d.log in
      record {
        lemmas = λ b said. absurd (not_lemmas b need said);
        words = λ x said. filled_past suffice q d.proof.log need next (valid q (subst IsAsked one (within_asked limits.depth d.proof.query sound.depth d.within))) is;
        propagates = λ spent fit hints leads. no_propagation suffice q d.proof.log need next is fit hints leads;
      }
