-- Replays: which sources one is a replay of, and what a scan makes of it.
use Rattle.std.specs.Prelude.{◌≡◌, List, Bool, ⊤, Some, slice_get}
use Rattle.std.specs.List.{AllByRecursion}
use Rattle.pv_word.specs.Types.{InRange}
use Rattle.pv_mean.specs.declared.cell.Cell.{Cell}
use Rattle.pv_mean.specs.declared.view.CaseView.{CaseView}
use Rattle.pv_mean.specs.Sources.{Source}
use Rattle.pv_mean.specs.Frames.{Image, Input}
use Rattle.pv_mean.specs.Correct.{BindsInRange}
use Rattle.pv_mean.specs.Scans.{Visible, scan, next_image}
use Rattle.pv_run.specs.Code.{IsProgram}
use Rattle.pv_replay.specs.declared.end.ScanEnd.{ScanEnd}
use Rattle.pv_replay.specs.declared.end.ScanEnd.TheVariants.{Done}
use Rattle.pv_replay.specs.declared.replay.Replay.{Replay}
use Rattle.pv_replay.specs.Images.{roles_of}
use Rattle.pv_replay.specs.Ends.{scan_end}

-- ---- what a replay has

-- what is stored from scan to scan
abbrev pub image_of : Replay → Image
image_of r = r.image.items

-- the visible cells at the last scan's beginning, and at its end
abbrev pub begin_of : Replay → Visible
begin_of r = r.begin.items

abbrev pub end_of : Replay → Visible
end_of r = r.end.items

abbrev pub is_ready : Replay → Bool
is_ready r = r.ready

abbrev pub cells_of : Replay → List Cell
cells_of r = r.cells.now

abbrev pub view_of : Replay → CaseView
view_of r = r.view.now

-- ---- which sources it is of

-- start values and the values that parameters are bound to lie in their types
pub record HasStarts (source : Source) : Type 0 where
  pub starts : AllByRecursion (λ c. InRange c.ty c.start) source.cells
  pub bound : AllByRecursion BindsInRange source.cells

-- the view says which block of the project is entered, and the bound on the turns of a loop
pub record IsReplayOf (source : Source) (r : Replay) : Type 0 where
  pub cells : source.cells ≡ cells_of r
  pub bound : source.bound ≡ (view_of r).loop_bound
  pub entry : slice_get source.project.blocks (view_of r).entry ≡ Some source.entry
  pub starts : HasStarts source
  pub program : IsProgram source r.program
  pub roles : r.roles.items ≡ roles_of source.cells

-- ---- a scan

-- what a scan that is done leaves is the image for the next one
abbrev pub Leaves : ScanEnd → Source → Replay → Type 0
Leaves Done source r = image_of r ≡ next_image source (begin_of r) (end_of r)
Leaves stopped source r = ⊤

pub record IsScanned (source : Source) (before after : Replay) (input : Input)
    (end : ScanEnd) : Type 0 where
  pub beginning : begin_of after ≡ (scan source (image_of before) input).beginning
  pub ends : scan_end end (end_of after) ≡ (scan source (image_of before) input).end
  pub leaves : Leaves end source after
