-- What is written out of what a check says of a verdict.
use Rattle.std.proofs.Common.{◌≡◌, ◌⊎◌, inl, inr, ℕ, ◌<◌, ◌≤◌, List, Option, Some, Result, Ok, Err, IfOk, refl, sym, subst, ◌∙◌}
use Rattle.pv_place.specs.declared.place.Place.{Place}
use Rattle.pv_edge.specs.Files.{FileMap}
use Rattle.pv_mean.specs.Frames.{Input, Params}
use Rattle.pv_pattern.specs.Failing.{Cause, over}
use Rattle.pv_claims.specs.declared.claim.Claim.{Claim}
use Rattle.pv_claims.specs.declared.claim.Claim.TheVariants.{Satisfied, Unreachable, Violated, Trapped, Reached, Depth, Loop, Lemmas, Region}
use Rattle.pv_claims.specs.declared.trace.Ending.{Ending}
use Rattle.pv_cert.specs.declared.proof.Query.{Query}
use Rattle.pv_cert.specs.declared.proof.Query.TheVariants.{Base, Step}
use Rattle.pv_cert.specs.declared.certificate.Certificate.{Certificate}
use Rattle.pv_kind.specs.Decisions.{steps_before}
use Rattle.pv_evidence.specs.Reported.{last_query}
use Rattle.pv_command_check.specs.Handed.{SubjectData, source_in, FailsBy, SaysOfSource, asked_last, IsInOrder, IsSpent, IsProvedBy, IsShownBy, IsComplete}
use Rattle.pv_command_check.specs.declared.check.Checked.{Checked}
use Rattle.pv_command_check.specs.declared.stop.CheckStop.{CheckStop}
use Rattle.pv_command_check.specs.Checks.{ComesTo, IsChecked, SaysCheck}
use Rattle.pv_contracts_check.specs.Written.{Runs, ShowsFirst, ShownBy, AreMetBelow, AreMetBefore, OrderedBy, IsUnspent, DecidesAll, HasSaid}

-- ---- the scan that fails

module _ (s : SubjectData) (c : Certificate) (told : Option Ending) where
  abbrev Says : Claim → Type 0
  Says claim = SaysOfSource (source_in s) s.pattern s.given.case.limits c told claim

  shows_first : (n : ℕ) (cause : Cause) → FailsBy (source_in s) s.pattern n cause c.trace → ShowsFirst s c n cause
  shows_first n cause by = record {
    trace = by.trace;
    is = by.is;
    runs = (by.fits.params, by.fits.inputs);
    scans = by.fits.form.scans;
    fails = by.fails;
    earlier = λ params inputs runs less. by.earlier params inputs runs.0 runs.1 less;
  }

  shown_by : (claim : Claim) → Says claim → ShownBy s c claim
  shown_by (Satisfied k) says = tt
  shown_by (Unreachable k) says = tt
  shown_by (Violated n) says = shows_first n _ says.2
  shown_by (Trapped n) says = (says.2, says.3, shows_first n _ says.5)
  shown_by (Reached n) says = shows_first n _ says.2
  shown_by (Depth k) says = tt
  shown_by (Loop n) says = (says.1, shows_first n _ says.3)
  shown_by (Lemmas b) says = tt
  shown_by (Region x) says = tt

  -- ---- the step queries

  same_query : (q r : Query) → Some q ≡ Some r → q ≡ r
  same_query q r e = cc

  module _ (order : IsInOrder (source_in s) s.pattern c) where
    below_base : (n : ℕ) → Some order.query ≡ Some (Base n) → AreMetBelow s n
    below_base n is = λ j less.
        order.met j (subst (λ (q : Query). j < steps_before q) (sym (same_query order.query (Base n) is)) less)

    below_step : (k : ℕ) → Some order.query ≡ Some (Step k) → AreMetBelow s k
    below_step k is = λ j less.
        order.met j (subst (λ (q : Query). j < steps_before q) (sym (same_query order.query (Step k) is)) less)

    before : last_query c.proofs ≡ Some order.query → AreMetBefore s c
    before is = record { base = λ n named. below_base n (sym is ∙ named); step = λ k named. below_step k (sym is ∙ named) }

    ordered_by : (claim : Claim) → asked_last c claim ≡ Some order.query → Says claim → OrderedBy s c claim
    ordered_by (Satisfied k) is says = (below_step k (sym is), says.2)
    ordered_by (Unreachable k) is says = (below_step k (sym is), says.2)
    ordered_by (Violated n) is says = below_base n (sym is)
    ordered_by (Trapped n) is says = below_base n (sym is)
    ordered_by (Reached n) is says = below_base n (sym is)
    ordered_by (Depth k) is says = below_step k (sym is)
    ordered_by (Loop n) is says = below_base n (sym is)
    ordered_by (Lemmas b) is says = before is
    ordered_by (Region x) is says = before is

-- ---- what is decided

unspent_of : (claim : Claim) → IsUnspent claim → IsSpent claim → ⊥
unspent_of (Satisfied k) none spent = spent
unspent_of (Unreachable k) none spent = spent
unspent_of (Violated n) none spent = spent
unspent_of (Trapped n) none spent = spent
unspent_of (Reached n) none spent = spent
unspent_of (Depth k) none spent = spent
unspent_of (Loop n) none spent = spent
unspent_of (Lemmas b) none spent = none.0 b refl
unspent_of (Region x) none spent = none.1 x refl

proved_of : (claim : Claim) (k : ℕ) → IsProvedBy k claim → (j : ℕ) × (j ≤ k) × ((claim ≡ Satisfied j) ⊎ (claim ≡ Unreachable j))
proved_of (Satisfied j) k le = (j, le, inl refl)
proved_of (Unreachable j) k le = (j, le, inr refl)
proved_of (Violated n) k none = absurd none
proved_of (Trapped n) k none = absurd none
proved_of (Reached n) k none = absurd none
proved_of (Depth j) k none = absurd none
proved_of (Loop n) k none = absurd none
proved_of (Lemmas b) k none = absurd none
proved_of (Region x) k none = absurd none

found_of : (claim : Claim) (n : ℕ) → IsShownBy n claim
    → (j : ℕ) × (j ≤ n) × ((claim ≡ Violated j) ⊎ ((claim ≡ Trapped j) ⊎ (claim ≡ Reached j)))
found_of (Satisfied k) n none = absurd none
found_of (Unreachable k) n none = absurd none
found_of (Violated j) n le = (j, le, inl refl)
found_of (Trapped j) n le = (j, le, inr (inl refl))
found_of (Reached j) n le = (j, le, inr (inr refl))
found_of (Depth k) n none = absurd none
found_of (Loop j) n none = absurd none
found_of (Lemmas b) n none = absurd none
found_of (Region x) n none = absurd none

spent_by : (claim other : Claim) → claim ≡ other → IsSpent other → IsSpent claim
spent_by claim other is spent = subst (λ (x : Claim). IsSpent x) (sym is) spent

decides_all : (s : SubjectData) (c : Certificate) → IsComplete s c → DecidesAll s c c.claim
decides_all s c complete = record {
  proves = λ k none within base step.
      proved_of c.claim k (complete.closes k (unspent_of c.claim none) within (record { base = base; step = step }));
  finds = λ n cause params inputs none within runs fails not.
      found_of c.claim n (complete.finds n cause (unspent_of c.claim none) within
      (record { params = params; inputs = inputs; are_params = runs.0; are_inputs = runs.1; fails = fails })
      (λ j place le some. not j place some.params some.inputs le (some.are_params, some.are_inputs) some.fails));
  lemmas = λ q b named is. (complete.spends q (spent_by c.claim (Lemmas b) is tt) named).lemmas b is;
  words = λ q x named is. (complete.spends q (spent_by c.claim (Region x) is tt) named).words x is;
}

-- ---- out of what a check says

module _ (told : Option FileMap) (file : List ℕ) where
  out_of : (SaysSo : SubjectData → Certificate → Claim → Type 0)
      → ((s : SubjectData) (bytes : List ℕ) (c : Certificate) (ending : Option Ending) → ComesTo told file s bytes c ending → SaysSo s c c.claim)
      → (r : Result Checked CheckStop) → SaysCheck told file r → IfOk r (HasSaid SaysSo told file)
  out_of SaysSo law (Ok r) says = record {
    subject = says.subject;
    certificate = says.certificate;
    reads = says.comes.reads.reads.reads;
    is_text = says.comes.is.is_text;
    says = subst (λ (x : Claim). SaysSo says.subject says.certificate x) (sym says.claim)
        (law says.subject r.certificate says.certificate says.ending says.comes);
  }
  out_of SaysSo law (Err stop) says = tt

  pub shown : (r : Result Checked CheckStop) → SaysCheck told file r → IfOk r (HasSaid ShownBy told file)
  shown = out_of ShownBy (λ s bytes c ending comes. shown_by s c ending c.claim comes.is.says)

  pub ordered : (r : Result Checked CheckStop) → SaysCheck told file r → IfOk r (HasSaid OrderedBy told file)
  ordered = out_of OrderedBy
      (λ s bytes c ending comes. ordered_by s c ending comes.order c.claim comes.order.asked comes.is.says)

  pub decided : (r : Result Checked CheckStop) → SaysCheck told file r → IfOk r (HasSaid DecidesAll told file)
  decided = out_of DecidesAll (λ s bytes c ending comes. decides_all s c comes.complete)
