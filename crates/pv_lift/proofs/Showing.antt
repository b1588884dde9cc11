-- A trace that shows a query of a lift is one that its case replays.
use Rattle.std.proofs.Common.{◌≡◌, ℕ, Bool, true, false, List, [], ◌∷◌, map, Option, Some, None, refl, sym, ap, subst, ◌∙◌}
use Rattle.std.specs.Prelude.{ℤ}
use Rattle.std.specs.List.{AllByRecursion}
use Rattle.pv_place.specs.Ranges.{Range, AreWithin}
use Rattle.pv_machine.specs.Machines.{Machine, Values}
use Rattle.pv_machine.specs.Queries.{FailsAtLast}
use Rattle.pv_mean.specs.declared.cell.Cell.{Cell}
use Rattle.pv_mean.specs.Frames.{image_ranges, input_ranges, param_ranges}
use Rattle.pv_pattern.specs.declared.pattern.Pattern.{Pattern}
use Rattle.pv_claims.specs.declared.claim.Claim.TheVariants as claim
use Rattle.pv_claims.specs.declared.trace.Trace.{Trace}
use Rattle.pv_cert.specs.declared.proof.Chain.{Chain}
use Rattle.pv_cert.specs.CertificateText.{no_reduction}
use Rattle.pv_cert.specs.declared.proof.Query.{Query}
use Rattle.pv_cert.specs.declared.proof.Query.TheVariants.{Base, Step}
use Rattle.pv_circuit.specs.declared.start.Start.{Start}
use Rattle.pv_circuit.specs.Circuits.{Circuit}
use Rattle.pv_stretch.specs.Judged.{is_goal}
use Rattle.pv_kind.specs.declared.decision.Limits.{Limits}
use Rattle.pv_valid.specs.declared.facts.Facts.{Facts}
use Rattle.pv_valid.specs.Cases as cases
use Rattle.pv_valid.specs.Cases.{range_between}
use Rattle.pv_valid.specs.Claims.{ends_as}
use Rattle.pv_valid.specs.Shown.{FailsAtLastAs}
use Rattle.pv_valid.specs.Validity.{BeginsIn, first_state}
use Rattle.pv_valid.specs.Deciding.{ShowsQuery, IsOracleFor}
use Rattle.pv_lift.specs.Traces.{MayFollow, state_with, Shows}
use Rattle.pv_lift.specs.Lifts.{looks_back_of}
use Rattle.pv_lift.specs.Stages.{stage_of, encoding_of}
use Rattle.pv_lift.specs.Facts.{facts_of}
use Rattle.pv_lift.specs.Cases.{case_of}
use Rattle.pv_lift.specs.CaseSound.{ranges_are}

-- the last scan may fail in any way beyond a depth
fails_as : (m : Machine) (k : ℕ) (s : Values) (inputs : List Values) → FailsAtLast m s inputs
    → FailsAtLastAs m (λ told. ends_as (claim.Depth k) told ≡ true) s inputs
fails_as m k s [] f = f
fails_as m k s (i ∷ []) f = (f, refl)
fails_as m k s (i ∷ j ∷ inputs) f = (f.0, f.1, fails_as m k f.0 (j ∷ inputs) f.2)

follows : (facts : Facts) (back : Bool) (prev : Option Bool) → facts.looks_back ≡ back → MayFollow back prev → cases.MayFollow facts prev
follows facts back None e h = h
follows facts back (Some mark) e h = e ∙ h

module _ (m : Machine) (c : Circuit) (start : List Start) (cells : List Cell) (pattern : Pattern) (facts : Facts)
    (limits : Limits) (known : facts ≡ facts_of cells (is_goal pattern) (looks_back_of pattern) limits) where
  of_cells : {T : Type 0} (part : Facts → T) → part facts ≡ part (facts_of cells (is_goal pattern) (looks_back_of pattern) limits)
  of_cells part = ap part known

  inputs_of : (inputs : List (List ℤ)) → AllByRecursion (AreWithin (input_ranges cells)) inputs
      → AllByRecursion (AreWithin (map range_between facts.input)) inputs
  inputs_of inputs are = subst (λ (rs : List Range). AllByRecursion (AreWithin rs) inputs)
      (sym (ranges_are facts.input (input_ranges cells) (of_cells (λ (f : Facts). f.input)))) are

  pub shows_query : (q : Query) (t : Trace) → Shows m cells (looks_back_of pattern) q t → ShowsQuery (case_of m c start facts) q t
  shows_query (Base k) t shows =
      let case = case_of m c start facts in (
        record {
          begins = subst (λ (o : Option (List ℤ)). BeginsIn case o t) (sym shows.0.form.image)
              (subst (λ (rs : List Range). AreWithin rs t.params)
              (sym (ranges_are facts.params (param_ranges cells) (of_cells (λ (f : Facts). f.params)))) shows.0.params);
          inputs = inputs_of t.inputs shows.0.inputs;
          fails = subst (λ (o : Option (List ℤ)). FailsAtLastAs m (λ told. ends_as (claim.Depth k) told ≡ true) (first_state case o t) t.inputs)
              (sym shows.0.form.image) (fails_as m k (m.start t.params) t.inputs shows.1);
        },
        shows.0.form,
      )
  shows_query (Step k) t shows =
      let case = case_of m c start facts in (
        record {
          begins = subst (λ (o : Option (List ℤ)). BeginsIn case o t) (sym shows.1.is_image) (
            subst (λ (rs : List Range). AreWithin rs shows.0)
                (sym (ranges_are facts.image (image_ranges cells) (of_cells (λ (f : Facts). f.image)))) shows.1.values,
            follows facts (looks_back_of pattern) t.prev (of_cells (λ (f : Facts). f.looks_back)) shows.1.mark,
          );
          inputs = inputs_of t.inputs shows.1.inputs;
          fails = subst (λ (o : Option (List ℤ)). FailsAtLastAs m (λ told. ends_as (claim.Depth k) told ≡ true) (first_state case o t) t.inputs)
              (sym shows.1.is_image)
              (subst (λ (back : Bool). FailsAtLastAs m (λ told. ends_as (claim.Depth k) told ≡ true) (state_with back shows.0 t.prev) t.inputs)
              (sym (of_cells (λ (f : Facts). f.looks_back))) (fails_as m k (state_with (looks_back_of pattern) shows.0 t.prev) t.inputs shows.2));
        },
        shows.1.form,
      )

  -- so as an oracle the lift is one for its case
  pub oracle-for : (chain : Chain) → chain ≡ no_reduction
      → IsOracleFor (case_of m c start facts) (encoding_of m c start cells (looks_back_of pattern)) (stage_of chain) limits
  oracle-for chain plain = record {
    chain = plain;
    abstracted = refl;
    variables = λ q. refl;
    clauses = λ q. refl;
    passes = refl;
    shows = shows_query;
    depth = sym (of_cells (λ (f : Facts). f.depth));
    lemmas = sym (of_cells (λ (f : Facts). f.lemmas));
    words = sym (of_cells (λ (f : Facts). f.words));
  }

abbrev with_havoc : List ℕ → Chain
with_havoc ns = record { constants = false; havoc = ns; cone = false }

pub plain-chain : (havoc : List ℕ) → havoc ≡ [] → ◌≡◌ {A = Chain} (record { constants = false; havoc = havoc; cone = false }) no_reduction
plain-chain havoc none = ap (λ (ns : List ℕ). with_havoc ns) none
