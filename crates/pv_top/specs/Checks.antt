-- What a run with the words `check CASE` promises.
use Rattle.std.specs.Prelude.{◌≡◌, ◌⊎◌, ℕ, List, Option, Some, IsNone, IsSomeAnd, MatchOption}
use Rattle.pv_edge.specs.Files.{FileMap}
use Rattle.pv_command_show.specs.Handed.{SubjectData}
use Rattle.pv_command_check.specs.Refusals.{ReadsChecked, too_many_gates, RefusesCheck, chain_text}
use Rattle.pv_command_check.specs.Decided.{HasVerdict, IsHad, ChecksExactly}
use Rattle.pv_top.specs.Words.{IsCheck}
use Rattle.pv_top.specs.Calls.{Call, IsSettled, IsTakenIn, IsKeptIn}

-- the case that the files hold names this file for its certificate
abbrev pub NamesCertificate : Option FileMap → List ℕ → List ℕ → Type 0
NamesCertificate told case_file name = (s : SubjectData) × ReadsChecked told case_file s × (s.given.case.certificate ≡ Some name)

-- each other name holds what it held, as far as the files tell
abbrev pub KeepsOthers : List ℕ → Option FileMap → Option FileMap → Type 0
KeepsOthers case_file old new = MatchOption old (IsNone new) (λ files. IsSomeAnd new (λ after.
    (name : List ℕ) → (NamesCertificate old case_file name → ⊥) → after name ≡ files name))

-- what is kept stays; but where a circuit has too many gates it may be the line of that circuit's chain
abbrev pub KeepsChain : {S : Type 0} → Call S → List ℕ → Type 0
KeepsChain call case_file = (call.kept_after ≡ call.kept)
    ⊎ ((call.status ≡ 3) × RefusesCheck call.told case_file too_many_gates × (call.kept_after ≡ chain_text))

pub record ChecksSo {S : Type 0} (call : Call S) (case_file : List ℕ) : Type 0 where
  -- a verdict is one: what its report says of the source is so, and its certificate is right, stands in what is kept, and in the file that
  -- the case names, if it names one
  pub verdict : HasVerdict call.status
      → IsHad call.told call.told_after case_file call.status (IsTakenIn call) (IsKeptIn call)
  -- no other name changes, whatever the status is
  pub others : KeepsOthers case_file call.told call.told_after
  -- without a verdict what is kept stays, but for the chain
  pub chain : (HasVerdict call.status → ⊥) → KeepsChain call case_file
  -- where the files tell their bytes, a verdict comes exactly where one is to be had, and each refusal exactly where they hold what it says
  pub exactly : (files : FileMap) → call.told ≡ Some files → IsSettled call.status
      → ChecksExactly files call.told_after case_file call.status (IsTakenIn call) (IsKeptIn call)

abbrev pub CheckPromises : {S : Type 0} → Call S → Type 0
CheckPromises call = (case_file : List ℕ) → IsCheck call.words case_file → ChecksSo call case_file
