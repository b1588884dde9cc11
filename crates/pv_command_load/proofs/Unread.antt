-- The file that a stop tells as one that can't be read: a stop with another status tells none, and one with that status tells one that is
-- asked for.
use Rattle.std.proofs.Common.{◌≡◌, ◌≢◌, inl, inr, ℕ, List, Option, Some, None, IfSome, refl, sym, subst}
use Rattle.pv_edge.specs.Files.{FileMap}
use Rattle.pv_command_load.specs.declared.subject.SubjectStop.{SubjectStop}
use Rattle.pv_command_load.specs.declared.subject.SubjectStop.TheVariants as stop_at
use Rattle.pv_command_load.specs.Held.{IsUnread}
use Rattle.pv_command_load.specs.Refusals.{read_line, case_refusal_line, source_line}
use Rattle.pv_command_load.specs.Sources.{AtOne, IsAsked, IsRefused}
use Rattle.pv_command_load.specs.Reads.{AsksSubject, RefusesCase}
use Rattle.pv_command_load.specs.Stopped.{Stopped, unread, refused, no_memory, StopsAt, stopped_status, stopped_unread, stopped_text}
use Rattle.pv_command_load.specs.Stops.{case_stopped, source_stopped, StopsSubject, subject_status, subject_unread, subject_text}
use Rattle.pv_command_load.proofs.SubjectLaws.{no_file_project, no_file_table, no_file_fit}

-- ---- as one stop tells it

pub none_unread : (last : Option (List ℕ)) → IsUnread None last
none_unread last = record { last = tt }

pub name_unread : (last : Option (List ℕ)) (name file : List ℕ) → file ≡ name → IfSome last (λ u. u ≡ name) → IsUnread (Some file) last
name_unread last name file same is = record { last = subst (λ f. IfSome last (λ u. u ≡ f)) (sym same) is }

-- ---- with another status none is told

pub stopped_other : {R : Type 0} (status : R → ℕ) (stopped : Stopped R) (last : Option (List ℕ)) → stopped_status status stopped ≢ 6
    → IsUnread (stopped_unread stopped) last
stopped_other status (unread file) last other = absurd (other refl)
stopped_other status (refused r) last other = none_unread last
stopped_other status no_memory last other = none_unread last

pub subject_other : (stop : SubjectStop) (last : Option (List ℕ)) → subject_status stop ≢ 6 → IsUnread (subject_unread stop) last
subject_other (stop_at.Case stop) last other = stopped_other (λ r. 4) (case_stopped stop) last other
subject_other (stop_at.Source stop) last other = stopped_other (λ r. 3) (source_stopped stop) last other
subject_other (stop_at.Project stop) last other = none_unread last
subject_other (stop_at.Table stop) last other = none_unread last
subject_other (stop_at.Fit stop) last other = none_unread last

-- ---- with that status one is told, which is asked for

-- so is a file asked for, told and named in the text
pub record TellsUnread (Asks : List ℕ → Type 0) (told text : Option (List ℕ)) : Type 0 where
  pub file : List ℕ
  pub is : told ≡ Some file
  pub asked : Asks file
  pub line : text ≡ Some (read_line file)

pub stopped_tells : {R : Type 0} (Asks : List ℕ → Type 0) (Refuses : R → Type 0) (status : R → ℕ) (line : R → List ℕ) (stopped : Stopped R)
    → ((r : R) → status r ≢ 6) → StopsAt Asks Refuses stopped → stopped_status status stopped ≡ 6
    → TellsUnread Asks (stopped_unread stopped) (stopped_text line stopped)
stopped_tells Asks Refuses status line (unread file) others is six = record { file = file; is = refl; asked = is; line = refl }
stopped_tells Asks Refuses status line (refused r) others is six = absurd (others r six)
stopped_tells Asks Refuses status line no_memory others is six = absurd cc

pub tells_of : (Asks Asked : List ℕ → Type 0) (told text : Option (List ℕ)) → ((file : List ℕ) → Asks file → Asked file)
    → TellsUnread Asks told text → TellsUnread Asked told text
tells_of Asks Asked told text of t = record { file = t.file; is = t.is; asked = of t.file t.asked; line = t.line }

pub subject_tells : (told : Option FileMap) (file : List ℕ) (stop : SubjectStop) → StopsSubject told file stop → subject_status stop ≡ 6
    → TellsUnread (AsksSubject told file) (subject_unread stop) (subject_text stop)
subject_tells told file (stop_at.Case stop) is six =
    tells_of (λ name. name ≡ file) (AsksSubject told file) _ _ (λ name same. inl same)
    (stopped_tells (λ name. name ≡ file) (RefusesCase told file) (λ r. 4) case_refusal_line (case_stopped stop) (λ r e. absurd cc) is six)
subject_tells told file (stop_at.Source stop) is six =
    tells_of (λ name. AtOne (IsAsked name) told 0 is.0.sources) (AsksSubject told file) _ _ (λ name asked. inr (is.0, is.1, asked))
    (stopped_tells (λ name. AtOne (IsAsked name) told 0 is.0.sources) (λ r. AtOne (IsRefused told r) told 0 is.0.sources) (λ r. 3) source_line
    (source_stopped stop) (λ r e. absurd cc) is.2 six)
subject_tells told file (stop_at.Project stop) is six = absurd (no_file_project stop six)
subject_tells told file (stop_at.Table stop) is six = absurd (no_file_table stop six)
subject_tells told file (stop_at.Fit stop) is six = absurd (no_file_fit stop six)
