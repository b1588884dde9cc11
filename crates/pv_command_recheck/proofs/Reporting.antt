-- What a recheck came to, by what its stages say.
use Rattle.std.proofs.Common.{◌≡◌, ◌≢◌, ℕ, List, Option, Result, Ok, Err, IfOk, IfErr, sym, subst, arith}
use Rattle.std.specs.Result.{IsOkAnd, IsErrAnd}
use Rattle.pv_edge.specs.Files.{FileMap}
use Rattle.pv_claims.specs.declared.trace.Ending.{Ending}
use Rattle.pv_cert.specs.declared.certificate.Certificate.{Certificate}
use Rattle.pv_cert.specs.CertificateText.{IsTextOf}
use Rattle.pv_valid.specs.declared.fault.Verdict.{Verdict}
use Rattle.pv_valid.specs.Validity.{ending_in, IsRight}
use Rattle.pv_command_verdict.specs.Handed.{Counts, HoldsBytes, IsUnread, stopped_status, SubjectData, source_in, ReadsFirst}
use Rattle.pv_command_verdict.specs.Cases.{case_in}
use Rattle.pv_command_verdict.specs.Sayings.{SaysOfSource}
use Rattle.pv_command_verdict.specs.Verdicts.{verdict_text, IsVerdict}
use Rattle.pv_command_verdict.specs.Correct.{IsByPattern}
use Rattle.pv_command_recheck.specs.declared.recheck.Rechecked.{Rechecked}
use Rattle.pv_command_recheck.specs.declared.stop.CertificateStop.{CertificateStop}
use Rattle.pv_command_recheck.specs.declared.stop.RecheckStop.{RecheckStop}
use Rattle.pv_command_recheck.specs.declared.stop.RecheckStop.TheVariants as recheck_stop
use Rattle.pv_command_recheck.specs.Certificates.{certificate_status, certificate_stopped, StopsCertificate}
use Rattle.pv_command_recheck.specs.Rechecks.{IsReported, SaysRecheck, recheck_stop_unread, recheck_stop_status, recheck_status, recheck_unread}
use Rattle.pv_command_recheck.specs.Made.{IsJudged}

-- what the law on right certificates says
abbrev pub SaysWhatIsSo : Type 0
SaysWhatIsSo = (told : Option FileMap) (file : List ℕ) (s : SubjectData) (bytes : List ℕ) (c : Certificate)
    → ReadsFirst told file s → IsTextOf bytes c → IsRight (case_in s) c → IsVerdict s bytes c (ending_in (case_in s) c.trace)

-- what the law on scans says of verdicts
abbrev pub EndsByPattern : Type 0
EndsByPattern = (told : Option FileMap) (file : List ℕ) (s : SubjectData) (c : Certificate) (ending : Option Ending)
    → ReadsFirst told file s → SaysOfSource (source_in s) s.pattern s.given.case.limits c ending c.claim → IsByPattern ending c.claim

-- ---- a verdict

-- evidence of a certificate that was judged to be right: its trace ends by no trap and no bound
pub ends_by_pattern : SaysWhatIsSo → EndsByPattern → (told : Option FileMap) (case_file : List ℕ) (s : SubjectData) → ReadsFirst told case_file s
    → (bytes : List ℕ) (c : Certificate) → IsTextOf bytes c → (e : Certificate) (ending : Option Ending)
    → (answer : Result Verdict CertificateStop) → IfOk answer (IsJudged s c) → IsOkAnd answer (λ v. ending ≡ v.ending) → e ≡ c
    → IsByPattern ending e.claim
ends_by_pattern so ends told case_file s reads bytes c text e ending (Ok v) is same whose =
    let says = (so told case_file s bytes c reads text is.is_right).says in
    let told_so = ends told case_file s c (ending_in (case_in s) c.trace) reads says in
    let told_by : IsByPattern v.ending c.claim = subst (λ (w : Verdict). IsByPattern w.ending c.claim) (sym is.is) told_so in
    subst (λ (d : Certificate). IsByPattern ending d.claim) (sym whose)
    (subst (λ (o : Option Ending). IsByPattern o c.claim) (sym same) told_by)
ends_by_pattern so ends told case_file s reads bytes c text e ending (Err stop) is same whose = absurd same

module _ (law : SaysWhatIsSo) (told : Option FileMap) (case_file file : List ℕ) (s : SubjectData) (c : Certificate)
    (reads : ReadsFirst told case_file s) (held : HoldsBytes told file (λ bytes. IsTextOf bytes c)) where
  reported_of : (r : Rechecked) (verdict : Verdict) → IsJudged s c verdict → r.claim ≡ c.claim
      → r.report.items ≡ verdict_text s c verdict.ending → IsReported told case_file file r
  reported_of r verdict is claim report = record {
    subject = s;
    certificate = c;
    ending = verdict.ending;
    holds = record {
      reads = reads;
      few = is.few;
      bytes = held.bytes;
      held = held.held;
      is = subst (λ (v : Verdict). IsVerdict s held.bytes c v.ending) (sym is.is) (law told case_file s held.bytes c reads held.are is.is_right);
    };
    claim = claim;
    report = report;
  }

  -- by the answer that evidence is of
  pub says_reported : (r : Rechecked) (e : Certificate) (ending : Option Ending) (answer : Result Verdict CertificateStop)
      → IfOk answer (IsJudged s c) → IsOkAnd answer (λ v. ending ≡ v.ending) → e ≡ c → r.claim ≡ e.claim
      → r.report.items ≡ verdict_text s e ending → IsReported told case_file file r
  says_reported r e ending (Ok v) is same whose claim report =
      let P : Certificate → Type 0 = λ d. r.claim ≡ d.claim in
      let Q : Certificate → Type 0 = λ d. r.report.items ≡ verdict_text s d ending in
      let R : Option Ending → Type 0 = λ t. r.report.items ≡ verdict_text s c t in
      reported_of r v is (subst P whose claim) (subst R same (subst Q whose report))
  says_reported r e ending (Err stop) is same whose claim report = absurd same

-- ---- a certificate that is refused

pub says_stopped : (told : Option FileMap) (case_file file : List ℕ) (s : SubjectData) (answer : Result Verdict CertificateStop)
    (stop : CertificateStop) → ReadsFirst told case_file s → answer ≡ Err stop → IfErr answer (StopsCertificate told file s)
    → SaysRecheck told case_file file (Err (recheck_stop.Certificate stop))
says_stopped told case_file file s answer stop reads is stops =
    (s, reads, subst (λ (r : Result Verdict CertificateStop). IfErr r (StopsCertificate told file s)) is stops)

pub stopped_status_is : (answer : Result Verdict CertificateStop) (stop : CertificateStop) → answer ≡ Err stop
    → IfErr answer (λ e. stopped_status certificate_status (certificate_stopped e) ≢ 6)
    → recheck_stop_status (recheck_stop.Certificate stop) ≢ 6
stopped_status_is answer stop is other =
    subst (λ (r : Result Verdict CertificateStop). IfErr r (λ e. stopped_status certificate_status (certificate_stopped e) ≢ 6)) is other

-- ---- a stop that is passed on

pub err_said : (told : Option FileMap) (case_file file : List ℕ) (r : Result Rechecked RecheckStop) (stop : RecheckStop)
    → IsErrAnd r (λ e. e ≡ stop) → SaysRecheck told case_file file (Err stop) → SaysRecheck told case_file file r
err_said told case_file file (Ok x) stop is h = absurd is
err_said told case_file file (Err e) stop is h = subst (λ x. SaysRecheck told case_file file (Err x)) (sym is) h

pub err_counted : (r : Result Rechecked RecheckStop) (stop : RecheckStop) (before after : ℕ) → IsErrAnd r (λ e. e ≡ stop)
    → Counts (recheck_stop_status stop) before after → Counts (recheck_status r) before after
err_counted (Ok x) stop before after is counts = absurd is
err_counted (Err e) stop before after is counts = subst (λ x. Counts (recheck_stop_status x) before after) (sym is) counts

pub err_status : (r : Result Rechecked RecheckStop) (stop : RecheckStop) (n : ℕ) → IsErrAnd r (λ e. e ≡ stop)
    → recheck_stop_status stop ≢ n → recheck_status r ≢ n
err_status (Ok x) stop n is other = absurd is
err_status (Err e) stop n is other = subst (λ x. recheck_stop_status x ≢ n) (sym is) other

pub err_told : (r : Result Rechecked RecheckStop) (stop : RecheckStop) (last : Option (List ℕ)) → IsErrAnd r (λ e. e ≡ stop)
    → IsUnread (recheck_stop_unread stop) last → IsUnread (recheck_unread r) last
err_told (Ok x) stop last is named = absurd is
err_told (Err e) stop last is named = subst (λ x. IsUnread (recheck_stop_unread x) last) (sym is) named

-- ---- one stage after another

-- behind a certificate that was read
pub read_counted : (r : Result Rechecked RecheckStop) (before after : ℕ) → after ≡ before → recheck_status r ≢ 6
    → Counts (recheck_status r) before after
read_counted r before after same other = record {
  rises = λ six. absurd (other six);
  stays = λ a b. same;
  never_falls = omega (arith, same);
}

pub counted_again : (status before between after : ℕ) → between ≡ before → Counts status between after → Counts status before after
counted_again status before between after same counts = subst (λ n. Counts status n after) same counts

-- behind what is worked on, which was read of the same files
pub says_moved : (told now : Option FileMap) (case_file file : List ℕ) (s : SubjectData) (r : Result Rechecked RecheckStop) → now ≡ told
    → ReadsFirst told case_file s → (ReadsFirst now case_file s → SaysRecheck now case_file file r) → SaysRecheck told case_file file r
says_moved told now case_file file s r same reads says =
    let P : Option FileMap → Type 0 = λ t. ReadsFirst t case_file s in
    let Q : Option FileMap → Type 0 = λ t. SaysRecheck t case_file file r in
    subst Q same (says (subst P (sym same) reads))
