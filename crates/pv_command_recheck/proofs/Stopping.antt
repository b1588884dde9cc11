-- What a stop at what is worked on says, where all files can be read and memory doesn't end: a refusal that is so, with its status and its
-- line.
use Rattle.std.proofs.Common.{◌≡◌, ◌≢◌, ℕ, List, Option, Some, refl}
use Rattle.std.specs.Prelude.{string_bytes}
use Rattle.pv_edge.specs.Files.{FileMap}
use Rattle.pv_command_verdict.specs.Handed.{SubjectStop, Refusal, of_case, of_source, of_project, of_table, of_fit, TableRefusal, no_entry, too_many_cells, table_status, case_refusal_line, source_line, project_line, table_line, fit_line, refusal_status, refusal_line, Stopped, unread, refused, no_memory, StopsAt, stopped_status, stopped_text, case_stopped, source_stopped, project_stopped, table_stopped, fit_stopped, subject_status, subject_text, FirstStop, FirstRefusal, as_any, case_form, source_form, first_refusal_status, first_refusal_line, RefusesAny, RefusesFirst, StopsAsAny, first_stop_status, first_stop_text, StopsFirst}
use Rattle.pv_command_verdict.specs.Handed.subject_stop
use Rattle.pv_command_verdict.specs.Handed.first_stop

-- ---- statuses

-- a refusal has status 3 or 4
refusal_statuses : (P : ℕ → Type 0) → P 3 → P 4 → (r : Refusal) → P (refusal_status r)
refusal_statuses P a b (of_case r) = b
refusal_statuses P a b (of_source r) = a
refusal_statuses P a b (of_project r) = a
refusal_statuses P a b (of_table no_entry) = b
refusal_statuses P a b (of_table too_many_cells) = a
refusal_statuses P a b (of_fit r) = b

pub first_refusal_statuses : (P : ℕ → Type 0) → P 3 → P 4 → (r : FirstRefusal) → P (first_refusal_status r)
first_refusal_statuses P a b (as_any r) = refusal_statuses P a b r
first_refusal_statuses P a b (case_form file) = b
first_refusal_statuses P a b (source_form file) = a

pub stopped_statuses : {R : Type 0} (P : ℕ → Type 0) (status : R → ℕ) → ((r : R) → P (status r)) → P 6 → P 9 → (x : Stopped R)
    → P (stopped_status status x)
stopped_statuses P status a c d (unread file) = c
stopped_statuses P status a c d (refused r) = a r
stopped_statuses P status a c d no_memory = d

table_statuses : (P : ℕ → Type 0) → P 3 → P 4 → (r : TableRefusal) → P (table_status r)
table_statuses P a b no_entry = b
table_statuses P a b too_many_cells = a

-- a stop has one of these besides 6 and 9
subject_statuses : (P : ℕ → Type 0) → P 3 → P 4 → P 6 → P 9 → (stop : SubjectStop) → P (subject_status stop)
subject_statuses P a b c d (subject_stop.Case stop) = stopped_statuses P (λ r. 4) (λ r. b) c d (case_stopped stop)
subject_statuses P a b c d (subject_stop.Source stop) = stopped_statuses P (λ r. 3) (λ r. a) c d (source_stopped stop)
subject_statuses P a b c d (subject_stop.Project stop) = stopped_statuses P (λ r. 3) (λ r. a) c d (project_stopped stop)
subject_statuses P a b c d (subject_stop.Table stop) =
    stopped_statuses P table_status (λ r. table_statuses P a b r) c d (table_stopped stop)
subject_statuses P a b c d (subject_stop.Fit stop) = stopped_statuses P (λ r. 4) (λ r. b) c d (fit_stopped stop)

pub first_statuses : (P : ℕ → Type 0) → P 3 → P 4 → P 6 → P 9 → (stop : FirstStop) → P (first_stop_status stop)
first_statuses P a b c d (first_stop.Subject stop) = subject_statuses P a b c d stop
first_statuses P a b c d (first_stop.CaseForm file) = b
first_statuses P a b c d (first_stop.SourceForm file) = a
first_statuses P a b c d first_stop.NoMemory = d

-- ---- refusals

-- a refusal that is so, with this status and this text
pub record IsRefusedAs (R : Type 0) (Is : R → Type 0) (status_of : R → ℕ) (line_of : R → List ℕ) (status : ℕ) (text : Option (List ℕ))
    : Type 0 where
  pub refusal : R
  pub is : Is refusal
  pub of_status : status ≡ status_of refusal
  pub of_text : text ≡ Some (line_of refusal)

pub stopped_as : (R : Type 0) (status_of : R → ℕ) (line_of : R → List ℕ) (IsNext : List ℕ → Type 0) (Is : R → Type 0) (s : Stopped R)
    → StopsAt IsNext Is s → stopped_status status_of s ≢ 6 → stopped_status status_of s ≢ 9
    → IsRefusedAs R Is status_of line_of (stopped_status status_of s) (stopped_text line_of s)
stopped_as R status_of line_of IsNext Is (unread file) is readable roomy = absurd (readable refl)
stopped_as R status_of line_of IsNext Is (refused r) is readable roomy = record { refusal = r; is = is; of_status = refl; of_text = refl }
stopped_as R status_of line_of IsNext Is no_memory is readable roomy = absurd (roomy refl)

module _ (files : FileMap) (file : List ℕ) where
  any_as : (stop : SubjectStop) → StopsAsAny (Some files) file stop → subject_status stop ≢ 6 → subject_status stop ≢ 9
      → IsRefusedAs Refusal (RefusesAny (Some files) file) refusal_status refusal_line (subject_status stop) (subject_text stop)
  any_as (subject_stop.Case stop) is readable roomy =
      let so = stopped_as _ (λ refusal. 4) case_refusal_line _ _ (case_stopped stop) is readable roomy in
      record { refusal = of_case so.refusal; is = so.is; of_status = so.of_status; of_text = so.of_text }
  any_as (subject_stop.Source stop) is readable roomy =
      let so = stopped_as _ (λ refusal. 3) source_line _ _ (source_stopped stop) is.2.1 readable roomy in
      record { refusal = of_source so.refusal; is = (is.0, is.1, (is.2.0, so.is)); of_status = so.of_status; of_text = so.of_text }
  any_as (subject_stop.Project stop) is readable roomy =
      let so = stopped_as _ (λ refusal. 3) project_line _ _ (project_stopped stop) is.2.1 readable roomy in
      record { refusal = of_project so.refusal; is = (is.0, is.1, (is.2.0, so.is)); of_status = so.of_status; of_text = so.of_text }
  any_as (subject_stop.Table stop) is readable roomy =
      let so = stopped_as _ table_status table_line _ _ (table_stopped stop) is.2.1 readable roomy in
      record { refusal = of_table so.refusal; is = (is.0, is.1, (is.2.0, so.is)); of_status = so.of_status; of_text = so.of_text }
  any_as (subject_stop.Fit stop) is readable roomy =
      let so = stopped_as _ (λ refusal. 4) fit_line _ _ (fit_stopped stop) is.3.1 readable roomy in
      record { refusal = of_fit so.refusal; is = (is.0, is.1, is.2, (is.3.0, so.is)); of_status = so.of_status; of_text = so.of_text }

  pub first_as : (stop : FirstStop) → StopsFirst (Some files) file stop → first_stop_status stop ≢ 6 → first_stop_status stop ≢ 9
      → IsRefusedAs FirstRefusal (RefusesFirst (Some files) file) first_refusal_status first_refusal_line (first_stop_status stop)
      (first_stop_text stop)
  first_as (first_stop.Subject stop) is readable roomy =
      let so = any_as stop is readable roomy in
      record { refusal = as_any so.refusal; is = so.is; of_status = so.of_status; of_text = so.of_text }
  first_as (first_stop.CaseForm name) is readable roomy =
      record { refusal = case_form (string_bytes name); is = is; of_status = refl; of_text = refl }
  first_as (first_stop.SourceForm name) is readable roomy =
      record { refusal = source_form (string_bytes name); is = is; of_status = refl; of_text = refl }
  first_as first_stop.NoMemory is readable roomy = absurd (roomy refl)
