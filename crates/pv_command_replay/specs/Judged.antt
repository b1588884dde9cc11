-- How a replay ends, by the stretch of its scans, and what is replayed. Private clauses cite this.
use Rattle.std.specs.Prelude.{◌≡◌, ℕ, ◌+◌, Bool, true, false, Option, Some, None, slice_get}
use Rattle.std.specs.List.{AllByRecursion}
use Rattle.pv_place.specs.Ranges.{AreWithin}
use Rattle.pv_tree.specs.declared.kept.Project.{Project}
use Rattle.pv_mean.specs.declared.view.CaseView.{CaseView}
use Rattle.pv_mean.specs.ProjectSizes.{project_tree}
use Rattle.pv_mean.specs.Sources.{Source}
use Rattle.pv_mean.specs.Frames.{param_ranges, input_ranges}
use Rattle.pv_cells.specs.declared.project_table.Table.{Table}
use Rattle.pv_cells.specs.Named.{wide_bytes}
use Rattle.pv_claims.specs.declared.trace.Ending.{Ending}
use Rattle.pv_claims.specs.declared.trace.Ending.TheVariants as ending
use Rattle.pv_claims.specs.declared.trace.Trace.{Trace}
use Rattle.pv_stretch.specs.declared.ends.Stretch.{Stretch}
use Rattle.pv_stretch.specs.declared.ends.StretchEnd.{StretchEnd}
use Rattle.pv_stretch.specs.declared.ends.StretchEnd.TheVariants.{Fails, Stopped}
use Rattle.pv_command_replay.specs.declared.end.Cause.TheVariants as cause
use Rattle.pv_command_replay.specs.declared.end.End.{End}
use Rattle.pv_command_replay.specs.declared.end.End.TheVariants.{Kept, Broken, Over, Reached, NotReached}

-- ---- by whether a goal is asked for

-- all scans are good
abbrev pub finished_behind : Bool → ℕ → End
finished_behind true done = NotReached done None
finished_behind false done = Kept done

-- the scan of this number is done and fails
abbrev pub judged_at : Bool → ℕ → End
judged_at true scan = Reached scan
judged_at false scan = Broken scan cause.Pattern

-- ---- by a stretch

abbrev pub failed_at : Bool → ℕ → Ending → End
failed_at goal scan ending.Pattern = judged_at goal scan
failed_at goal scan (ending.Trap kind place) = Broken scan (cause.Trap kind place)
failed_at goal scan (ending.Over place) = Over scan place

abbrev pub end_by : Bool → ℕ → Option StretchEnd → End
end_by goal good None = finished_behind goal good
end_by goal good (Some (Fails told)) = failed_at goal (good + 1) told
end_by goal good (Some (Stopped kind place)) = NotReached good (Some (kind, place))

abbrev pub end_behind : Bool → Stretch → End
end_behind goal s = end_by goal s.good s.ending

-- ---- what is replayed

-- the source is the project, entered at the view's block, with the table's cells and bytes and the view's bound
pub record IsSourceOf (source : Source) (project : Project) (view : CaseView) (table : Table) : Type 0 where
  pub of_project : project_tree project ≡ source.project
  pub entry : slice_get source.project.blocks view.entry ≡ Some source.entry
  pub bytes : wide_bytes table.bytes ≡ source.bytes
  pub cells : table.cells.items ≡ source.cells
  pub bound : source.bound ≡ view.loop_bound

-- the trace has a value in range for each parameter that isn't bound, and at each scan for each input cell
pub record HasValuesOf (source : Source) (t : Trace) : Type 0 where
  pub params : AreWithin (param_ranges source.cells) t.params
  pub inputs : AllByRecursion (AreWithin (input_ranges source.cells)) t.inputs
