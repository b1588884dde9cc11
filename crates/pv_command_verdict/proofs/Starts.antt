-- What files hold begins in its types, and is run.
use Rattle.std.proofs.Common.{◌≡◌, ℕ, List, map, Option}
use Rattle.pv_edge.specs.Files.{FileMap}
use Rattle.pv_mean.specs.declared.cell.Cell.{Cell}
use Rattle.pv_mean.specs.Cells.{View, with_view}
use Rattle.pv_replay.specs.Replays.{HasStarts}
use Rattle.pv_program.specs.Spelled.{AreSpelled, IsRunWith}
use Rattle.pv_laws_starts.proofs.ForCallers.{fitting_has_starts}
use Rattle.pv_bool_load.specs.Handed.{IsSubject, project_of, Subject, SubjectData, source_in, Reads}
use Rattle.pv_bool_load.proofs.ForCallers.{source_runs, blocks_short, blocks_spelled}

-- the project keeps the rules, its entered block is one of its own, and what the case binds fits
pub subject_starts : (told : Option FileMap) (file : List ℕ) (s : SubjectData) → Reads told file s → HasStarts (source_in s)
subject_starts told file s reads =
    fitting_has_starts (project_of s.given) s.entered.block reads.table.table.is_entered.number s.entered.operands
    s.given.case.params s.given.case.bind s.view s.given.case.limits.loop_bound
    reads.table.project.keeps reads.table.table.is_entered.is reads.fitted.view

-- its project keeps the rules and has its own table, and tokens spell its blocks
abbrev pub ViewsKeepTypes : Type 0
ViewsKeepTypes = (view : View) (cells : List Cell) → map (λ c. c.ty) (with_view view cells) ≡ map (λ c. c.ty) cells

subject_spelled : (told : Option FileMap) (file : List ℕ) (s : SubjectData) → Reads told file s → AreSpelled (project_of s.given)
subject_spelled told file s reads b c =
    let sources = reads.table.project.sources in record {
      short = blocks_short told file s.given sources b c;
      spelled = blocks_spelled told file s.given sources b c;
    }

pub subject_runs : ViewsKeepTypes → (told : Option FileMap) (file : List ℕ) (s : SubjectData) (made : Subject) → Reads told file s
    → IsSubject made s → IsRunWith made.project made.view made.table
subject_runs types told file s made reads is = record {
  source = source_in s;
  same = is.project;
  entry = is.entered;
  bytes = is.bytes;
  run = source_runs types told file s.given s.entered s.view reads.table;
  spelled = subject_spelled told file s reads;
}
