-- What files hold is run, and tokens spell its blocks, so its replay only fails for want of memory.
use Rattle.std.proofs.Common.{◌≡◌, ℕ, List, map, Option, Some, sym, subst, ◌∙◌}
use Rattle.std.specs.Prelude.{slice_get}
use Rattle.pv_edge.specs.Files.{FileMap}
use Rattle.pv_mean.specs.declared.cell.Cell.{Cell}
use Rattle.pv_mean.specs.Cells.{View, with_view}
use Rattle.pv_program.specs.Spelled.{AreSpelled, IsRunWith}
use Rattle.pv_command_load.specs.declared.subject.Subject.{Subject}
use Rattle.pv_command_load.specs.Subjects.{project_of, SubjectData, source_in}
use Rattle.pv_command_load.specs.Reads.{Reads}
use Rattle.pv_command_load.specs.Made.{IsSubject}
use Rattle.pv_command_load.proofs.ForCallers.{source_runs, blocks_short, blocks_spelled}

abbrev pub ViewsKeepTypes : Type 0
ViewsKeepTypes = (view : View) (cells : List Cell) → map (λ c. c.ty) (with_view view cells) ≡ map (λ c. c.ty) cells

subject_spelled : (told : Option FileMap) (file : List ℕ) (s : SubjectData) → Reads told file s → AreSpelled (project_of s.given)
subject_spelled told file s reads b c =
    let sources = reads.table.project.sources in record {
      short = blocks_short told file s.given sources b c;
      spelled = blocks_spelled told file s.given sources b c;
    }

pub subject_runs : ViewsKeepTypes → (told : Option FileMap) (file : List ℕ) (s : SubjectData) (made : Subject) → Reads told file s
    → IsSubject made s → IsRunWith made.project made.view made.table
subject_runs types told file s made reads is = record {
  source = source_in s;
  same = is.project;
  entry = is.entered;
  bytes = is.bytes;
  run = source_runs types told file s.given s.entered s.view reads.table;
  spelled = subject_spelled told file s reads;
}
