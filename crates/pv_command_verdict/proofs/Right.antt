-- What a certificate says that is right for a case is so of the source whose machine is the case's.
use Rattle.std.proofs.Common.{◌≡◌, ℕ, zero, suc, ◌+◌, ◌-◌, ◌*◌, ◌<◌, ◌≤◌, Bool, true, false, List, [], ◌∷◌, ◌++◌, length, map, Option, Some, None, refl, ap, subst, ◌∙◌, cond, ℤ, arith}
use Rattle.std.specs.Prelude.{nat_lt}
use Rattle.std.specs.List.{AllByRecursion}
use Rattle.std.proofs.lemmas.Bool.{false≢true}
use Rattle.pv_place.specs.declared.place.Place.{Place}
use Rattle.pv_place.specs.declared.trap.TrapKind.{TrapKind}
use Rattle.pv_place.specs.Ranges.{Range, AreWithin}
use Rattle.pv_cnf.specs.Clause.{Cnf}
use Rattle.pv_log.specs.declared.line.Line.{Line}
use Rattle.pv_solver.specs.Costs.{clause_cost, line_cost}
use Rattle.pv_machine.specs.Machines.{Machine, Values, IsState, IsInput, AreParams, IsLawful}
use Rattle.pv_machine.specs.Queries.{MeetsBase, NoneFails as MachineNoneFails}
use Rattle.pv_machine.specs.Same.{IsSame}
use Rattle.pv_machine.proofs.ForCallers.{lawful_too, same_base, same_step}
use Rattle.pv_mean.specs.Sources.{Source}
use Rattle.pv_mean.specs.Frames.{Input, image_ranges, input_ranges, param_ranges}
use Rattle.pv_mean.specs.Runs.{start as start_of, run, run_from}
use Rattle.pv_mean.proofs.ForCallers.{length-start_image}
use Rattle.pv_pattern.specs.Patterns.{Pattern, asks_for_goal}
use Rattle.pv_pattern.specs.Failing.{pattern, FailsFirst, FailsFirstFrom}
use Rattle.pv_pattern.specs.Sources.{looks_back, state_of, machine_of, IsSatisfied}
use Rattle.pv_pattern.proofs.ForCallers.{runs_from}
use Rattle.pv_case.specs.declared.case.Limits.{Limits}
use Rattle.pv_claims.specs.declared.claim.Claim.{Claim}
use Rattle.pv_claims.specs.declared.claim.Claim.TheVariants.{Satisfied, Unreachable, Violated, Trapped, Reached, Depth, Loop, Lemmas, Region}
use Rattle.pv_claims.specs.declared.trace.Ending.{Ending}
use Rattle.pv_claims.specs.declared.trace.Ending.TheVariants as ending
use Rattle.pv_claims.specs.declared.trace.Trace.{Trace}
use Rattle.pv_claims.specs.TracePart.{trace_form, HasForm, IsRun, IsStretch}
use Rattle.pv_stretch.specs.Correct.{cause_of}
use Rattle.pv_cert.specs.declared.proof.Query.TheVariants.{Step}
use Rattle.pv_cert.specs.declared.proof.Proof.{Proof}
use Rattle.pv_circuit.specs.declared.start.Start.{Start}
use Rattle.pv_circuit.specs.Circuits.{Circuit}
use Rattle.pv_kind.specs.Decisions.{bases, bases_before}
use Rattle.pv_lift.specs.Traces.{MayFollow}
use Rattle.pv_lift.specs.Facts.{facts_of}
use Rattle.pv_lift.specs.Cases.{case_of}
use Rattle.pv_lift.specs.Sound.{states_are}
use Rattle.pv_valid.specs.Cases as cases
use Rattle.pv_valid.specs.Cases.{Case, IsSound}
use Rattle.pv_valid.specs.Claims.{IsScan, ends_as, is_pattern, is_trap, is_over}
use Rattle.pv_valid.specs.Shown.{FailsAtLastAs, last_ending}
use Rattle.pv_valid.specs.Validity.{AreInputs, BeginsIn, first_state, Replays, AreProofs, AreSpent, IsRight, HasBudget, HasNeed, ending_in, first_past, with_next}
use Rattle.pv_valid.specs.Deciding.{claiming}
use Rattle.pv_evidence.specs.Reported.{last_query}
use Rattle.pv_command_verdict.specs.Cases.{limits_by}
use Rattle.pv_command_verdict.specs.Sayings.{NoneFailsBefore, FailsBy, GoesOnBy, StopsAt, ClosesAt, SaysOfSource}
use Rattle.pv_command_verdict.proofs.Sound.{back_to, has_ranges}
use Rattle.pv_command_verdict.proofs.Lasts as lasts
use Rattle.pv_command_verdict.proofs.Lasts.{image_fits, first_from, first_of_run}
use Rattle.pv_command_verdict.proofs.Refuted.{none_by, step_not_met, never_met, before_within, last_is}

-- ---- endings

is_the_pattern : (told : Ending) → is_pattern told ≡ true → told ≡ ending.Pattern
is_the_pattern ending.Pattern e = refl
is_the_pattern (ending.Trap kind place) e = absurd (false≢true e)
is_the_pattern (ending.Over place) e = absurd (false≢true e)

some_trap : (told : Ending) → is_trap told ≡ true → (kind : TrapKind) × (place : Place) × (told ≡ ending.Trap kind place)
some_trap ending.Pattern e = absurd (false≢true e)
some_trap (ending.Trap kind place) e = (kind, place, refl)
some_trap (ending.Over place) e = absurd (false≢true e)

some_over : (told : Ending) → is_over told ≡ true → (place : Place) × (told ≡ ending.Over place)
some_over ending.Pattern e = absurd (false≢true e)
some_over (ending.Trap kind place) e = absurd (false≢true e)
some_over (ending.Over place) e = (place, refl)

-- ---- words

sum_past : (words sum x : ℕ) (b : Bool) (rest : Option ℕ) → nat_lt words sum ≡ b → (rest ≡ Some x → words < x)
    → cond b (Some sum) rest ≡ Some x → words < x
sum_past words sum x true rest is later e = (let one : sum ≡ x = cc in grind (arith, is, one))
sum_past words sum x false rest is later e = later e

is_past : (words sum x : ℕ) (costs : List ℕ) → first_past words sum costs ≡ Some x → words < x
is_past words sum x [] e = sum_past words sum x (nat_lt words sum) None refl (λ none. absurd cc) e
is_past words sum x (cost ∷ costs) e =
    sum_past words sum x (nat_lt words sum) (first_past words (sum + cost) costs) refl (is_past words (sum + cost) x costs) e

-- ---- of the source

module _ (source : Source) (p : Pattern) (limits : Limits) (m : Machine) (c : Circuit) (start : List Start)
    (law : IsLawful (machine_of source p)) (same : IsSame (machine_of source p) m) where
  abbrev case : Case
  case = case_of m c start (facts_of source.cells (asks_for_goal p) (looks_back p) (limits_by limits))

  -- where base is met for no number up to n, no run fails at one of its first n scans
  abbrev Early : Type 0
  Early = (n : ℕ) → ((j : ℕ) → 1 ≤ j → j ≤ n → MeetsBase (machine_of source p) j → ⊥)
      → (params : Values) (inputs : List Values) → AreParams (machine_of source p) params
      → AllByRecursion (IsInput (machine_of source p)) inputs → length inputs ≤ n
      → MachineNoneFails (machine_of source p) ((machine_of source p).start params) inputs

  pub none_before : Early → (n : ℕ) → ((j : ℕ) → 1 ≤ j → j < n → MeetsBase m j → ⊥) → NoneFailsBefore source p n
  none_before early zero refuted params inputs are all few = absurd (omega (arith, few))
  none_before early (suc n) refuted params inputs are all few =
      runs_from source p None (start_of source params) inputs (length-start_image source.cells params)
      (early n (λ j one le base. refuted j one (omega (arith, le)) ((same_base (machine_of source p) m j law same).0 base))
      params inputs are all (omega (arith, few)))

  inputs_are : (inputs : List Input) → AreInputs case inputs → AllByRecursion (AreWithin (input_ranges source.cells)) inputs
  inputs_are inputs are = subst (λ (rs : List Range). AllByRecursion (AreWithin rs) inputs) (back_to (input_ranges source.cells)) are

  inputs_in : (inputs : List Input) → AreInputs case inputs → AllByRecursion (IsInput m) inputs
  inputs_in inputs are = subst (λ (rs : List Range). AllByRecursion (AreWithin rs) inputs) same.input (inputs_are inputs are)

  -- ---- a run

  -- the run by a trace that replays fails first at its last scan, and so
  pub record RunEnds (claim : Claim) (n : ℕ) (t : Trace) : Type 0 where
    pub told : Ending
    pub is : ending_in case (Some t) ≡ Some told
    pub so : ends_as claim told ≡ true
    pub by : FailsBy source p n (cause_of told) (Some t)

  run_ends : Early → (claim : Claim) (n : ℕ) (t : Trace) → IsRun n t → Replays case claim t
      → ((j : ℕ) → 1 ≤ j → j < n → MeetsBase m j → ⊥) → RunEnds claim n t
  run_ends early claim n t form r earliest =
      let EndsSo : Ending → Type 0 = λ told. ends_as claim told ≡ true in
      let begins : AreWithin (param_ranges source.cells) t.params =
      subst (λ (rs : List Range). AreWithin rs t.params) (back_to (param_ranges source.cells))
      (subst (λ (o : Option (List ℤ)). BeginsIn case o t) form.image r.begins) in
      let fails : FailsAtLastAs m EndsSo (m.start t.params) t.inputs =
      subst (λ (o : Option (List ℤ)). FailsAtLastAs m EndsSo (first_state case o t) t.inputs) form.image r.fails in
      let here = lasts.ends_as m EndsSo (m.start t.params) t.inputs fails in
      let in_params : AreWithin m.params t.params =
      subst (λ (rs : List Range). AreWithin rs t.params) same.params begins in
      record {
        told = here.told;
        is = ap (λ (o : Option (List ℤ)). last_ending m (first_state case o t) t.inputs) form.image ∙ here.last;
        so = here.so;
        by = record {
          trace = t;
          is = refl;
          fits = record {
            form = form;
            params = begins;
            inputs = inputs_are t.inputs r.inputs;
          };
          fails = subst (λ (k : ℕ). FailsFirst source p (run source t.params t.inputs) k (cause_of here.told)) form.scans
              (first_of_run source p m (lawful_too (machine_of source p) m law same) same t.params t.inputs EndsSo in_params (inputs_in t.inputs r.inputs) fails);
          earlier = none_before early n earliest;
        };
      }

  -- ---- scans from an image

  goes_on : Early → (k : ℕ) (t : Trace) (next : Option Line) (proofs : List Proof) → IsStretch (k + 1) t → Replays case (Depth k) t
      → ((j : ℕ) → 1 ≤ j → j ≤ k → MeetsBase m j → ⊥) → GoesOnBy source p k (ending_in case (Some t)) (Some t)
  goes_on early k t next proofs form r none =
      let EndsSo : Ending → Type 0 = λ told. ends_as (Depth k) told ≡ true in
      let image = form.image.0 in
      let begins = subst (λ (o : Option (List ℤ)). BeginsIn case o t) form.image.1 r.begins in
      let values : AreWithin (image_ranges source.cells) image =
      subst (λ (rs : List Range). AreWithin rs image) (back_to (image_ranges source.cells)) begins.0 in
      let is_state : IsState m (state_of p image t.prev) =
      states_are m source.cells (looks_back p) (has_ranges source p m same) image t.prev values (may t.prev begins.1) in
      let fails : FailsAtLastAs m EndsSo (state_of p image t.prev) t.inputs =
      subst (λ (o : Option (List ℤ)). FailsAtLastAs m EndsSo (first_state case o t) t.inputs) form.image.1 r.fails in
      let here = lasts.ends_as m EndsSo (state_of p image t.prev) t.inputs fails in
      record {
        trace = t;
        is = refl;
        image = image;
        fits = record {
          form = form;
          is_image = form.image.1;
          values = values;
          mark = may t.prev begins.1;
          inputs = inputs_are t.inputs r.inputs;
        };
        last = here.told;
        is_last = ap (λ (o : Option (List ℤ)). last_ending m (first_state case o t) t.inputs) form.image.1 ∙ here.last;
        fails = subst (λ (n : ℕ). FailsFirstFrom source p t.prev (run_from source image t.inputs) n (cause_of here.told)) form.scans
            (first_from source p m (lawful_too (machine_of source p) m law same) same t.prev image t.inputs EndsSo (image_fits source image values) is_state
            (inputs_in t.inputs r.inputs) fails);
        earlier = none_before early (k + 1) (λ j one less. none j one (omega (arith, less)));
      }
    where
      may : (prev : Option Bool) → cases.MayFollow case.facts prev → MayFollow (looks_back p) prev
      may None h = tt
      may (Some mark) h = h

  -- ---- limits

  stops : Early → IsSound case → (claim : Claim) (trace : Option Trace) (next : Option Line) (So : Cnf → List Line → Type 0) (proofs : List Proof)
      → AreSpent case So proofs → StopsAt source p limits (claiming claim trace next proofs)
  stops early sound claim trace next So proofs are =
      let q = are.named.query in
      let none = none_by case sound (bases_before q) are.front (before_within limits.depth q are.spends.within) are.earlier in
      record {
        query = q;
        named = ap last_query are.split ∙ last_is are.front are.named;
        within = are.spends.within;
        earlier = none_before early (bases_before q + 1) (λ j one less. none j one (omega (arith, less)));
      }

  -- ---- verdict by verdict

  earliest : IsSound case → (n : ℕ) (proofs : List Proof) → IsScan limits.depth n → AreProofs case (bases (n - 1)) proofs
      → (j : ℕ) → 1 ≤ j → j < n → MeetsBase m j → ⊥
  earliest sound n proofs within are j one less =
      let most = within.1 in
      none_by case sound (n - 1) proofs (omega (arith, most)) are j one (omega (arith, less))

  up_to : (k : ℕ) → k ≡ limits.depth → k ≤ limits.depth
  up_to k is = omega (arith, is)

  region : (x : ℕ) (next : Option Line) (proofs : List Proof) → AreSpent case (HasNeed limits.region_words x next) proofs
      → limits.region_words < x
  region x next proofs are =
      let f = case.formula are.named.query in
      is_past limits.region_words (2 * f.variables) x (map clause_cost f.clauses ++ map line_cost (with_next are.named.log next))
      are.spends.says.sum

  by_pattern : (told : Ending) (n : ℕ) (t : Option Trace) → is_pattern told ≡ true → FailsBy source p n (cause_of told) t
      → FailsBy source p n pattern t
  by_pattern told n t so by = subst (λ (e : Ending). FailsBy source p n (cause_of e) t) (is_the_pattern told so) by

  closes_at : IsSound case → (k : ℕ) (proofs : List Proof) → k ≤ limits.depth → AreProofs case (bases k ++ Step k ∷ []) proofs
      → ClosesAt source p k
  closes_at sound k proofs within are =
      λ meets. step_not_met case sound k proofs within are ((same_step (machine_of source p) m k law same).0 meets)

  pub says : Early → IsSound case → (((n : ℕ) → MeetsBase (machine_of source p) n → ⊥) → IsSatisfied source p)
      → (claim : Claim) (trace : Option Trace) (next : Option Line) (proofs : List Proof) → HasForm (trace_form claim) trace
      → IsRight case (claiming claim trace next proofs)
      → SaysOfSource source p limits (claiming claim trace next proofs) (ending_in case trace) claim
  says early sound satisfied (Satisfied k) trace next proofs form right = (
    right.belongs.0,
    right.belongs.1,
    closes_at sound k proofs right.belongs.1 right.proofs,
    satisfied (λ n base. never_met case sound k proofs right.belongs.1 right.proofs n ((same_base (machine_of source p) m n law same).0 base)),
  )
  says early sound satisfied (Unreachable k) trace next proofs form right = (
    right.belongs.0,
    right.belongs.1,
    closes_at sound k proofs right.belongs.1 right.proofs,
    satisfied (λ n base. never_met case sound k proofs right.belongs.1 right.proofs n ((same_base (machine_of source p) m n law same).0 base)),
  )
  says early sound satisfied (Violated n) None next proofs form right = absurd form
  says early sound satisfied (Violated n) (Some t) next proofs form right =
      let ends = run_ends early (Violated n) n t form right.replays (earliest sound n proofs right.belongs.1 right.proofs) in
      (right.belongs.0, right.belongs.1.1, by_pattern ends.told n (Some t) ends.so ends.by)
  says early sound satisfied (Trapped n) None next proofs form right = absurd form
  says early sound satisfied (Trapped n) (Some t) next proofs form right =
      let ends = run_ends early (Trapped n) n t form right.replays (earliest sound n proofs right.belongs.1 right.proofs) in
      let some = some_trap ends.told ends.so in (
        right.belongs.0,
        right.belongs.1.1,
        some.0,
        some.1,
        ends.is ∙ ap (λ (e : Ending). Some e) some.2,
        subst (λ (e : Ending). FailsBy source p n (cause_of e) (Some t)) some.2 ends.by,
      )
  says early sound satisfied (Reached n) None next proofs form right = absurd form
  says early sound satisfied (Reached n) (Some t) next proofs form right =
      let ends = run_ends early (Reached n) n t form right.replays (earliest sound n proofs right.belongs.1 right.proofs) in
      (right.belongs.0, right.belongs.1.1, by_pattern ends.told n (Some t) ends.so ends.by)
  says early sound satisfied (Depth k) None next proofs form right = absurd form
  says early sound satisfied (Depth k) (Some t) next proofs form right =
      (right.belongs, goes_on early k t next proofs form right.replays (none_by case sound k proofs (up_to k right.belongs) right.proofs))
  says early sound satisfied (Loop n) None next proofs form right = absurd form
  says early sound satisfied (Loop n) (Some t) next proofs form right =
      let ends = run_ends early (Loop n) n t form right.replays (earliest sound n proofs right.belongs right.proofs) in
      let some = some_over ends.told ends.so in (
        right.belongs.1,
        some.0,
        ends.is ∙ ap (λ (e : Ending). Some e) some.1,
        subst (λ (e : Ending). FailsBy source p n (cause_of e) (Some t)) some.1 ends.by,
      )
  says early sound satisfied (Lemmas b) trace next proofs form right =
      (right.belongs, stops early sound (Lemmas b) trace next (HasBudget b) proofs right.proofs)
  says early sound satisfied (Region x) trace next proofs form right = (
    region x next proofs right.proofs,
    stops early sound (Region x) trace next (HasNeed limits.region_words x next) proofs right.proofs,
  )
