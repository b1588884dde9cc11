-- What a check's last stages come to: its certificate is written, if a file is named for it.
use Rattle.std.proofs.Common.{◌≡◌, ℕ, ◌+◌, List, Option, Some, None, Result, Ok, Err, IfOk, sym, ap, subst, arith}
use Rattle.std.specs.Prelude.{IsSomeAnd}
use Rattle.std.specs.Result.{IsErrAnd}
use Rattle.pv_edge.specs.Files.{FileMap}
use Rattle.pv_claims.specs.declared.claim.Claim.{Claim}
use Rattle.pv_claims.specs.declared.claim.Claim.TheVariants.{Satisfied, Unreachable, Violated, Trapped, Reached, Depth, Loop, Lemmas, Region}
use Rattle.pv_report.specs.Reports.{status_of}
use Rattle.pv_command_verdict.specs.Handed.{SubjectData, ReadsFirst}
use Rattle.pv_command_check.specs.declared.check.Checked.{Checked}
use Rattle.pv_command_check.specs.declared.stop.CheckStop.{CheckStop}
use Rattle.pv_command_check.specs.declared.stop.CheckStop.TheVariants as check_stop
use Rattle.pv_command_check.specs.Checks.{IsChecked, StopsCheck, SaysCheck}
use Rattle.pv_command_check.specs.Files.{Writes, LeavesFiles}
use Rattle.pv_command_check.specs.Made.{IsCheckedOf, LeavesBy}

-- ---- a verdict's status

pub claim_statuses : (P : ℕ → Type 0) → P 0 → P 1 → P 2 → (claim : Claim) → P (status_of claim)
claim_statuses P a b c (Satisfied k) = a
claim_statuses P a b c (Unreachable k) = b
claim_statuses P a b c (Violated n) = b
claim_statuses P a b c (Trapped n) = b
claim_statuses P a b c (Reached n) = a
claim_statuses P a b c (Depth k) = c
claim_statuses P a b c (Loop n) = c
claim_statuses P a b c (Lemmas n) = c
claim_statuses P a b c (Region x) = c

pub claim_low : (claim : Claim) (n : ℕ) → status_of claim ≡ n + 3 → ⊥
claim_low claim n e = claim_statuses (λ s. s ≡ n + 3 → ⊥) (λ h. omega (arith, h)) (λ h. omega (arith, h)) (λ h. omega (arith, h)) claim e

-- ---- what is said then

module _ (file : List ℕ) (old new : Option FileMap) (s : SubjectData) (checked : Checked) (name : Option (List ℕ))
    (named : name ≡ s.given.case.certificate) (is : IsCheckedOf old file s checked) where
  is_checked : (r : Checked) → r ≡ checked → IsCheckedOf old file s r
  is_checked r same = subst (IsCheckedOf old file s) (sym same) is

  abbrev as_checked : (r : Checked) → IsCheckedOf old file s r → IsChecked old file r
  as_checked r h =
      record { subject = s; certificate = h.certificate; ending = h.ending; comes = h.comes; claim = h.claim; report = h.report }

  -- the file is the one that the case names
  the_named : {P : List ℕ → Type 0} (o : Option (List ℕ)) → o ≡ s.given.case.certificate → IsSomeAnd o P
      → (n : List ℕ) × (s.given.case.certificate ≡ Some n) × P n
  the_named None same h = absurd h
  the_named (Some n) same h = (n, sym same, h)

  pub written_says : (r : Result Checked CheckStop) → IfOk r (λ y. y ≡ checked) → LeavesBy name checked.certificate r old new
      → SaysCheck old file r
  written_says (Ok y) same left = as_checked y (is_checked y same)
  written_says (Err (check_stop.First stop)) same left = absurd left
  written_says (Err check_stop.TooManyEdges) same left = absurd left
  written_says (Err (check_stop.TooManyGates chain)) same left = absurd left
  written_says (Err check_stop.Unwritten) same left =
      let so = the_named name named left in (s, so.0, is.comes.reads, so.1)
  written_says (Err check_stop.NoMemory) same left = tt

  pub written_leaves : (r : Result Checked CheckStop) → IfOk r (λ y. y ≡ checked) → LeavesBy name checked.certificate r old new
      → LeavesFiles file r old new
  written_leaves (Ok y) same left =
      let P : List ℕ → Type 0 = λ bytes. Writes s.given.case.certificate bytes old new in
      let Q : Option (List ℕ) → Type 0 = λ n. Writes n checked.certificate old new in
      record {
        checked = as_checked y (is_checked y same);
        writes = subst P (ap (λ (r : Checked). r.certificate) (sym same)) (subst Q named left);
      }
  written_leaves (Err (check_stop.First stop)) same left = absurd left
  written_leaves (Err check_stop.TooManyEdges) same left = absurd left
  written_leaves (Err (check_stop.TooManyGates chain)) same left = absurd left
  written_leaves (Err check_stop.Unwritten) same left =
      let so = the_named name named left in
      record {
        subject = s;
        bytes = checked.certificate;
        certificate = is.certificate;
        ending = is.ending;
        comes = is.comes;
        name = so.0;
        named = so.1;
        part = so.2;
      }
  written_leaves (Err check_stop.NoMemory) same left = left

-- a stop that is passed on
pub err_said : (told : Option FileMap) (file : List ℕ) (r : Result Checked CheckStop) (stop : CheckStop) → IsErrAnd r (λ e. e ≡ stop)
    → StopsCheck told file stop → SaysCheck told file r
err_said told file (Ok y) stop is h = absurd is
err_said told file (Err e) stop is h = subst (StopsCheck told file) (sym is) h

-- ---- what is read tells the same before and behind

module _ (old mid new : Option FileMap) (same : mid ≡ old) (file : List ℕ) (s : SubjectData) (reads : ReadsFirst old file s)
    (r : Result Checked CheckStop) where
  pub moved_says : (ReadsFirst mid file s → SaysCheck mid file r) → SaysCheck old file r
  moved_says says = subst (λ t. SaysCheck t file r) same (says (subst (λ t. ReadsFirst t file s) (sym same) reads))

  pub moved_leaves : (ReadsFirst mid file s → LeavesFiles file r mid new) → LeavesFiles file r old new
  moved_leaves leaves = subst (λ t. LeavesFiles file r t new) same (leaves (subst (λ t. ReadsFirst t file s) (sym same) reads))
