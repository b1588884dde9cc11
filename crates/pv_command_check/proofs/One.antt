-- What files hold for a check is one thing that it works on at most, or one refusal at most: what the files hold of the form is one, and how
-- large that is is said by it alone.
use Rattle.std.proofs.Common.{◌≡◌, ℕ, List, Some, refl, ap, subst}
use Rattle.pv_edge.specs.Files.{FileMap}
use Rattle.pv_command_verdict.specs.Handed.{SubjectData, ReadsFirst, FilesDecideOneFirst}
use Rattle.pv_command_verdict.specs.Sizes.{HasTooManyEdges, HasTooManyGates}
use Rattle.pv_command_check.specs.Refusals.{ReadsSmall, ReadsChecked, CheckRefusal, as_first, too_many_edges, too_many_gates, RefusesCheck}
use Rattle.pv_command_check.specs.Decided.{FilesDecideOneCheck}

module _ (files : FileMap) (file : List ℕ) (one : FilesDecideOneFirst files file) where
  small_is : (s t : SubjectData) → ReadsFirst (Some files) file s → HasTooManyEdges s → ReadsSmall (Some files) file t → ⊥
  small_is s t reads many small = small.few (subst HasTooManyEdges (one.one_subject s t reads small.reads) many)

  one_refusal : (r q : CheckRefusal) → RefusesCheck (Some files) file r → RefusesCheck (Some files) file q → r ≡ q
  one_refusal (as_first r) (as_first q) h k = ap as_first (one.one_refusal r q h k)
  one_refusal (as_first r) too_many_edges h k = absurd (one.apart k.0 r k.1 h)
  one_refusal (as_first r) too_many_gates h k = absurd (one.apart k.0 r k.1.reads h)
  one_refusal too_many_edges (as_first q) h k = absurd (one.apart h.0 q h.1 k)
  one_refusal too_many_edges too_many_edges h k = refl
  one_refusal too_many_edges too_many_gates h k = absurd (small_is h.0 k.0 h.1 h.2 k.1)
  one_refusal too_many_gates (as_first q) h k = absurd (one.apart h.0 q h.1.reads k)
  one_refusal too_many_gates too_many_edges h k = absurd (small_is k.0 h.0 k.1 k.2 h.1)
  one_refusal too_many_gates too_many_gates h k = refl

  apart : (s : SubjectData) (r : CheckRefusal) → ReadsChecked (Some files) file s → RefusesCheck (Some files) file r → ⊥
  apart s (as_first r) reads h = one.apart s r reads.reads.reads h
  apart s too_many_edges reads h = small_is h.0 s h.1 h.2 reads.reads
  apart s too_many_gates reads h =
      reads.few (subst HasTooManyGates (one.one_subject h.0 s h.1.reads reads.reads.reads) h.2)

  pub decide_one : FilesDecideOneCheck files file
  decide_one = record {
    one_subject = λ s t a b. one.one_subject s t a.reads.reads b.reads.reads;
    one_refusal = one_refusal;
    apart = apart;
  }
