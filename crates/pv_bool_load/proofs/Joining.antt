-- A subject with its program, by what was made of each, and what all stages make together.
use Rattle.std.proofs.Common.{◌≡◌, ◌≢◌, ℕ, List, map, Option, Some, Result, Ok, Err, IfOk, IfErr, MatchResult, refl, ap, subst, sym, ◌∙◌}
use Rattle.std.specs.Prelude.{slice_get}
use Rattle.pv_edge.specs.Files.{FileMap}
use Rattle.pv_bool.specs.declared.program.Program.{Program}
use Rattle.pv_mean.specs.declared.view.CaseView.{CaseView}
use Rattle.pv_mean.specs.Cells.{with_view}
use Rattle.pv_pattern.specs.declared.pattern.Pattern.{Pattern as Found}
use Rattle.pv_pattern.specs.Patterns.{Pattern}
use Rattle.pv_cells.specs.declared.project_table.Table.{Table}
use Rattle.pv_cells.specs.Named.{wide_bytes}
use Rattle.pv_command_load.specs.declared.subject.Subject.{Subject}
use Rattle.pv_command_load.specs.Held.{Counts, IsUnread}
use Rattle.pv_command_load.specs.Subjects.{Given, texts_of, blocks_of, Entered, SubjectData}
use Rattle.pv_command_load.specs.Reads.{ReadsTable, Reads}
use Rattle.pv_command_load.specs.Stops.{text_tree}
use Rattle.pv_command_load.specs.Made.{IsCase, IsProjectOf, IsTableOf, IsFit, IsSubject, view_tree}
use Rattle.pv_bool_load.specs.declared.stop.FirstStop.{FirstStop}
use Rattle.pv_bool_load.specs.declared.subject.FirstSubject.{FirstSubject}
use Rattle.pv_bool_load.specs.Forms.{ReadsFirst}
use Rattle.pv_bool_load.specs.Stops.{first_stop_status, first_stop_unread, StopsFirst}
use Rattle.pv_bool_load.specs.Made.{IsFirstSubject, IsProgramOf}
use Rattle.pv_bool_load.proofs.Working.{stays, first_other}

abbrev Made : Type 0
Made = Result Program FirstStop

abbrev Joined : Type 0
Joined = Result FirstSubject FirstStop

pub joined_found : {subject : Subject} (told : Option FileMap) (file : List ℕ) (s : SubjectData) (made : Made) (r : Joined)
    → IfOk r (λ first. (first.subject ≡ subject) × (made ≡ Ok first.program)) → IfOk made (IsProgramOf told file s) → IsSubject subject s
    → IfOk r (λ first. (s : SubjectData) × ReadsFirst told file s × IsFirstSubject first s)
joined_found told file s made (Ok first) joined so is =
    let of : IsProgramOf told file s first.program = subst (λ (m : Made). IfOk m (IsProgramOf told file s)) joined.1 so in
    (s, of.reads, record { subject = subst (λ (x : Subject). IsSubject x s) (sym joined.0) is; program = of.same; few = of.few })
joined_found told file s made (Err stop) joined so is = tt

pub joined_stopped : (told : Option FileMap) (file : List ℕ) (made : Made) (r : Joined) → IfErr made (StopsFirst told file)
    → IfErr r (λ stop. made ≡ Err stop) → IfErr r (StopsFirst told file)
joined_stopped told file made (Ok first) so joined = tt
joined_stopped told file made (Err stop) so joined = subst (λ (m : Made). IfErr m (StopsFirst told file)) joined so

pub joined_counted : (made : Made) (r : Joined) (before after : ℕ) → IfErr made (λ stop. first_stop_status stop ≢ 6)
    → IfErr r (λ stop. made ≡ Err stop) → after ≡ before
    → MatchResult r (λ first. after ≡ before) (λ stop. Counts (first_stop_status stop) before after)
joined_counted made (Ok first) before after unread joined same = same
joined_counted made (Err stop) before after unread joined same =
    stays (first_stop_status stop) before after (subst (λ (m : Made). IfErr m (λ e. first_stop_status e ≢ 6)) joined unread) same

pub joined_named : (made : Made) (r : Joined) (last : Option (List ℕ)) → IfErr made (λ stop. first_stop_status stop ≢ 6)
    → IfErr r (λ stop. made ≡ Err stop) → IfErr r (λ stop. IsUnread (first_stop_unread stop) last)
joined_named made (Ok first) last unread joined = tt
joined_named made (Err stop) last unread joined =
    first_other stop last (subst (λ (m : Made). IfErr m (λ e. first_stop_status e ≢ 6)) joined unread)

-- ---- all stages

abbrev pub data_by : Given → Entered → CaseView → Pattern → SubjectData
data_by given entered view p = record { given = given; entered = entered; view = view_tree view; pattern = p }

pub reads_all : (told : Option FileMap) (file : List ℕ) (given : Given) (entered : Entered) (entry : ℕ) (view : CaseView) (found : Found)
    (p : Pattern) → ReadsTable told file given entered → IsFit given entered entry view found p
    → Reads told file (data_by given entered view p)
reads_all told file given entered entry view found p reads fit =
    record { table = reads; fitted = record { view = fit.viewed; pattern = fit.pattern } }

pub is_subject : (s : Subject) (given : Given) (entered : Entered) (entry : ℕ) (p : Pattern) (before : Table) → IsCase s.case given.case
    → map text_tree s.sources.items ≡ texts_of given → IsProjectOf given s.project → IsTableOf given entered entry before
    → IsFit given entered entry s.view s.pattern p → s.table.cells.items ≡ with_view (view_tree s.view) before.cells.items
    → s.table.bytes ≡ before.bytes → IsSubject s (data_by given entered s.view p)
is_subject s given entered entry p before case texts project table fit cells bytes = record {
  case = case;
  texts = texts;
  project = project.same;
  entered = subst (λ n. slice_get (blocks_of given) n ≡ Some entered.block) (sym fit.is_entry) table.is;
  bound = fit.bound;
  view = refl;
  bytes = ap wide_bytes bytes ∙ table.bytes;
  cells = cells ∙ ap (with_view (view_tree s.view)) table.cells;
  pattern = fit.is_pattern;
}
