-- Over two calls: what a check kept and wrote is right by files that hold what it read, so a recheck of it tells what the check told.
use Rattle.std.proofs.Common.{◌≡◌, ◌≢◌, inl, inr, ℕ, List, Option, Some, None, Result, refl, sym, ap, subst, ◌∙◌}
use Rattle.std.specs.Prelude.{IsSomeAnd}
use Rattle.std.proofs.lemmas.Bool.{cases_eq}
use Rattle.pv_edge.specs.Files.{FileMap, Puts, Changes}
use Rattle.pv_edge.specs.Sink.{Takes}
use Rattle.pv_edge.specs.declared.outside.SinkFault.{SinkFault}
use Rattle.pv_claims.specs.declared.trace.Ending.{Ending}
use Rattle.pv_command_show.specs.Handed.{SubjectData}
use Rattle.pv_command_check.specs.Handed.{ReadsFirst, AsksFirst, verdict_text}
use Rattle.pv_command_check.specs.Refusals.{AsksCheck}
use Rattle.pv_command_check.specs.Files.{Writes}
use Rattle.pv_command_check.specs.Decided.{HasVerdict, IsHad, FilesDecideOneCheck}
use Rattle.pv_top.specs.Words.{IsCheck, IsRecheck}
use Rattle.pv_top.specs.Calls.{Call, IsSettled, IsTakenIn, IsKeptIn}
use Rattle.pv_top.specs.Checks.{NamesCertificate}
use Rattle.pv_top.specs.Promises.{Promises}
use Rattle.pv_top.specs.Kept.{TellAlike, TellsAgain, alike, no_memory, unread, unwritten}
use Rattle.pv_top.proofs.Kept.{rechecks_as}

-- what is read stays, by the law of what is read
pub record Stays : Type 0 where
  pub by_files : (files later : FileMap) (file : List ℕ) (s : SubjectData) → ReadsFirst (Some files) file s
      → ((asked : List ℕ) → AsksFirst (Some files) file asked → later asked ≡ files asked) → ReadsFirst (Some later) file s
  pub by_write : (files later : FileMap) (file name bytes : List ℕ) (s : SubjectData) → ReadsFirst (Some files) file s
      → Puts name bytes files later → (AsksFirst (Some files) file name → ⊥) → ReadsFirst (Some later) file s

module _ {S T : Type 0} (sink_call : List ℕ → Result ℕ SinkFault → S → S → Type 0)
    (sink_call_too : List ℕ → Result ℕ SinkFault → T → T → Type 0) (first : Call S) (second : Call T) (files : FileMap)
    (case_file file : List ℕ) (promised : Promises sink_call first) (words : IsCheck first.words case_file) (told : first.told ≡ Some files)
    (verdict : HasVerdict first.status) (promised_too : Promises sink_call_too second) (words_too : IsRecheck second.words case_file file) where
  had : IsHad (Some files) first.told_after case_file first.status (IsTakenIn first) (IsKeptIn first)
  had = subst (λ (t : Option FileMap). IsHad t first.told_after case_file first.status (IsTakenIn first) (IsKeptIn first)) told
      ((promised.check case_file words).verdict verdict)

  -- where the certificate is right by the later files too
  tells_settled : (later : FileMap) → second.told ≡ Some later → ReadsFirst (Some later) case_file had.subject → later file ≡ Some had.bytes
      → IsSettled second.status → TellAlike first second
  tells_settled later told_too reads held settled =
      let same = rechecks_as (Some files) later case_file file had.subject had.bytes had.certificate had.ending had.comes reads held in
      let exactly = (promised_too.recheck case_file file words_too).exactly later told_too settled in
      record {
        status = same.of_status second.status second.taken second.taken_after exactly ∙ had.of_status;
        text = verdict_text had.subject had.certificate had.ending;
        taken = had.taken;
        taken_again = same.report second.status second.taken second.taken_after exactly;
      }

  tells : (later : FileMap) → second.told ≡ Some later → ReadsFirst (Some later) case_file had.subject → later file ≡ Some had.bytes
      → TellsAgain first second
  tells later told_too reads held = elim (cases_eq second.status 6) [
    | inl six ↦ unread six (promised_too.unread six)
    | inr readable ↦ elim (cases_eq second.status 7) [
      | inl seven ↦ unwritten seven (promised_too.unwritten seven)
      | inr written ↦ elim (cases_eq second.status 9) [
        | inl nine ↦ no_memory nine
        | inr roomy ↦ alike (tells_settled later told_too reads held (record { readable = readable; written = written; roomy = roomy }))
      ]
    ]
  ]

  pub kept_again : Stays → (later : FileMap) → second.told ≡ Some later → later file ≡ Some first.kept_after
      → ((asked : List ℕ) → AsksCheck (Some files) case_file asked → later asked ≡ files asked) → TellsAgain first second
  kept_again stays later told_too held same =
      tells later told_too (stays.by_files files later case_file had.subject had.comes.reads.reads.reads same)
      (held ∙ ap (λ (b : List ℕ). Some b) had.kept)

  -- ---- the file that the case names

  named_is : FilesDecideOneCheck files case_file → NamesCertificate (Some files) case_file file
      → had.subject.given.case.certificate ≡ Some file
  named_is law named = ap (λ (s : SubjectData). s.given.case.certificate) (law.one_subject had.subject named.0 had.comes.reads named.1) ∙ named.2

  put_in : FilesDecideOneCheck files case_file → NamesCertificate (Some files) case_file file
      → IsSomeAnd first.told_after (Puts file had.bytes files)
  put_in law named =
      subst (λ (n : Option (List ℕ)). Writes n had.bytes (Some files) first.told_after) (named_is law named) had.written

  behind : Stays → (AsksCheck (Some files) case_file file → ⊥) → (after : Option FileMap) → second.told ≡ after
      → IsSomeAnd after (Puts file had.bytes files) → TellsAgain first second
  behind stays other None told_too put = absurd put
  behind stays other (Some later) told_too put =
      tells later told_too (stays.by_write files later case_file file had.bytes had.subject had.comes.reads.reads.reads put other) put.here

  pub written_again : Stays → FilesDecideOneCheck files case_file → second.told ≡ first.told_after
      → NamesCertificate (Some files) case_file file → (AsksCheck (Some files) case_file file → ⊥) → TellsAgain first second
  written_again stays law told_too named other = behind stays other first.told_after told_too (put_in law named)
