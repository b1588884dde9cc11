-- What a check keeps is right for what it was kept of, so a recheck of it answers with its status and its report.
use Rattle.std.proofs.Common.{◌≡◌, inl, inr, ℕ, List, Option, Some, sym, subst, ◌∙◌}
use Rattle.pv_edge.specs.Files.{FileMap}
use Rattle.pv_edge.specs.Sink.{Takes}
use Rattle.pv_claims.specs.declared.trace.Ending.{Ending}
use Rattle.pv_cert.specs.declared.certificate.Certificate.{Certificate}
use Rattle.pv_report.specs.Reports.{status_of}
use Rattle.pv_command_show.specs.Handed.{SubjectData}
use Rattle.pv_command_check.specs.Handed.{ReadsFirst, verdict_text}
use Rattle.pv_command_check.specs.Checks.{ComesTo}
use Rattle.pv_command_check.specs.Decided.{HasVerdict}
use Rattle.pv_command_recheck.specs.Rechecks.{HoldsRight}
use Rattle.pv_command_recheck.specs.Decided.{RechecksExactly, EndsWith}
use Rattle.pv_top.specs.Kept.{RechecksAs}
use Rattle.pv_top.proofs.Statuses.{claim_verdict}

module _ (told : Option FileMap) (later : FileMap) (case_file file : List ℕ) (s : SubjectData) (bytes : List ℕ) (c : Certificate)
    (ending : Option Ending) (comes : ComesTo told case_file s bytes c ending) (reads : ReadsFirst (Some later) case_file s)
    (held : later file ≡ Some bytes) where
  holds : HoldsRight (Some later) case_file file s c
  holds = record {
    reads = reads;
    few = comes.reads.reads.few;
    bytes = bytes;
    held = held;
    is_text = comes.is.is_text;
    is_right = comes.is.is_right;
  }

  module _ (status : ℕ) (IsTaken : List ℕ → Type 0) (exactly : RechecksExactly later case_file file status IsTaken) where
    ends : (n : ℕ) → status_of c.claim ≡ n → EndsWith later case_file file n
    ends n of = record { subject = s; certificate = c; holds = holds; of_status = of }

    by_verdict : HasVerdict (status_of c.claim) → status ≡ status_of c.claim
    by_verdict (inl e) = exactly.holds.1 (ends 0 e) ∙ sym e
    by_verdict (inr (inl e)) = exactly.fails.1 (ends 1 e) ∙ sym e
    by_verdict (inr (inr e)) = exactly.undecided.1 (ends 2 e) ∙ sym e

    status_is : status ≡ status_of c.claim
    status_is = by_verdict (claim_verdict c.claim)

    report_is : IsTaken (verdict_text s c ending)
    report_is = subst (λ e. IsTaken (verdict_text s c e)) (sym comes.is.ending) (exactly.report s c holds)

  pub rechecks_as : RechecksAs later case_file file s c ending
  rechecks_as = record {
    holds = holds;
    of_status = λ status taken taken_after exactly. status_is status (λ text. Takes text taken taken_after) exactly;
    report = λ status taken taken_after exactly. report_is status (λ text. Takes text taken taken_after) exactly;
  }
