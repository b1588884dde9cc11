-- The text of a show: what the scans of a run do, cell by cell, and then how the replay ends.
use Rattle.std.specs.Prelude.{ℕ, ◌+◌, ℤ, pos, List, [], ◌∷◌, ◌++◌, take, codes, decimal, Bool, true, false, not, ◌&&◌, ◌||◌, Option, Some, None, slice_index_or}
use Rattle.std.specs.Ordering.{int_eq}
use Rattle.pv_place.specs.Roles.{is_input}
use Rattle.pv_mean.specs.declared.cell.Cell.{Cell}
use Rattle.pv_mean.specs.Sources.{Source}
use Rattle.pv_mean.specs.Frames.{Input, visible_cells}
use Rattle.pv_mean.specs.Endings.{ended, trapped, over as over_end}
use Rattle.pv_mean.specs.Scans.{Visible, Scan, ScanEnd}
use Rattle.pv_mean.specs.Runs.{run}
use Rattle.pv_pattern.specs.Patterns.{Pattern, invariant, forbidden, implication, within, between, reach, is_true_of}
use Rattle.pv_claims.specs.declared.trace.Trace.{Trace}
use Rattle.pv_report.specs.Reports.{value_line}
use Rattle.pv_command_replay.specs.Handed.{FileText}
use Rattle.pv_command_replay.specs.declared.end.End.{End}
use Rattle.pv_command_replay.specs.declared.end.End.TheVariants.{Kept, Broken, Over, Reached, NotReached}
use Rattle.pv_command_replay.specs.Reports.{end_text}

-- ---- cells: the inputs, or the others

abbrev pub is_sort : Bool → Cell → Bool
is_sort true c = is_input c.role
is_sort false c = not (is_input c.role)

-- what stands before a path
abbrev pub front_of : Bool → List ℕ
front_of true = codes "in "
front_of false = []

-- whether a cell of the sort has a line: where each is told, and where its value is another than it was
abbrev pub is_told : Bool → Bool → Cell → ℤ → ℤ → Bool
is_told inputs each c was is = is_sort inputs c && (each || not (int_eq was is))

abbrev pub cell_line : Bool → Bool → Cell → ℤ → ℤ → List ℕ
cell_line inputs each c was is = elim (is_told inputs each c was is) [
  | true ↦ value_line (front_of inputs) c is
  | false ↦ []
]

-- one for each such cell of these visible ones, of which the first has the number n
abbrev pub cell_lines : Bool → Bool → List Cell → ℕ → Visible → Visible → List ℕ
cell_lines inputs each [] n earlier values = []
cell_lines inputs each (c ∷ cells) n earlier values =
    cell_line inputs each c (slice_index_or earlier n (pos 0)) (slice_index_or values n (pos 0))
    ++ cell_lines inputs each cells (n + 1) earlier values

-- ---- a scan

-- the visible cells of the scan before
pub record Seen : Type 0 where
  pub begin : Visible
  pub end : Visible

-- `in PATH = V` for each input cell whose value differs from that of the scan before; in the first scan for each
abbrev pub input_lines : List Cell → Option Seen → Visible → List ℕ
input_lines cells None begin = cell_lines true true (visible_cells cells) 0 begin begin
input_lines cells (Some seen) begin = cell_lines true false (visible_cells cells) 0 seen.begin begin

-- `PATH = V` for each other cell whose value at the end differs from that at the end of the scan before; in the first scan from that at
-- its beginning
abbrev pub other_lines : List Cell → Option Seen → Visible → Visible → List ℕ
other_lines cells None begin end = cell_lines false false (visible_cells cells) 0 begin end
other_lines cells (Some seen) begin end = cell_lines false false (visible_cells cells) 0 seen.end end

-- `a = 0` or `a = 1`
abbrev pub truth_text : Bool → List ℕ
truth_text true = codes " = 1\n"
truth_text false = codes " = 0\n"

abbrev pub truth_line : List ℕ → Bool → List ℕ
truth_line letter truth = letter ++ truth_text truth

-- one for each of the pattern's expressions, at the end; for the first one of within at the beginning, where the pattern asks for it
abbrev pub pattern_lines : Source → Pattern → Visible → Visible → List ℕ
pattern_lines source (invariant a) begin end = truth_line (codes "a") (is_true_of source end a)
pattern_lines source (forbidden a) begin end = truth_line (codes "a") (is_true_of source end a)
pattern_lines source (implication a b) begin end =
    truth_line (codes "a") (is_true_of source end a) ++ truth_line (codes "b") (is_true_of source end b)
pattern_lines source (within a b) begin end =
    truth_line (codes "a") (is_true_of source begin a) ++ truth_line (codes "b") (is_true_of source end b)
pattern_lines source (between a b c) begin end =
    truth_line (codes "a") (is_true_of source end a)
    ++ (truth_line (codes "b") (is_true_of source end b) ++ truth_line (codes "c") (is_true_of source end c))
pattern_lines source (reach a) begin end = truth_line (codes "a") (is_true_of source end a)

-- after the inputs; a scan that isn't done has no such lines
abbrev pub done_lines : Source → Pattern → Option Seen → Visible → ScanEnd → List ℕ
done_lines source p before begin (ended end) =
    other_lines source.cells before begin end ++ pattern_lines source p begin end
done_lines source p before begin (trapped kind place) = []
done_lines source p before begin (over_end place) = []

abbrev pub scan_text : Source → Pattern → ℕ → Option Seen → Scan → List ℕ
scan_text source p n before s =
    codes "scan " ++ (decimal n ++ (codes "\n" ++ (input_lines source.cells before s.beginning
    ++ done_lines source p before s.beginning s.end)))

-- ---- scans

-- what the next scan's values are told against
abbrev pub seen_at : Visible → ScanEnd → Option Seen
seen_at begin (ended end) = Some (record { begin = begin; end = end })
seen_at begin (trapped kind place) = None
seen_at begin (over_end place) = None

-- one after the other, where the first has the number n
abbrev pub scans_text : Source → Pattern → ℕ → Option Seen → List Scan → List ℕ
scans_text source p n before [] = []
scans_text source p n before (s ∷ more) =
    scan_text source p n before s ++ scans_text source p (n + 1) (seen_at s.beginning s.end) more

-- the inputs of the scans that are told: a replay that ends at a scan goes no further
abbrev pub told_inputs : End → List Input → List Input
told_inputs (Kept n) inputs = inputs
told_inputs (Broken n by) inputs = take n inputs
told_inputs (Over n place) inputs = take n inputs
told_inputs (Reached n) inputs = take n inputs
told_inputs (NotReached n trap) inputs = inputs

-- the scans of the trace, up to that by which the replay ends
abbrev pub shown_scans : Source → Pattern → Trace → End → List ℕ
shown_scans source p trace end =
    scans_text source p 1 None (run source trace.params (told_inputs end trace.inputs))

-- ---- the whole text, by the case's name, the text of the scans, the sources and the end

abbrev pub show_text : List ℕ → List ℕ → List FileText → End → List ℕ
show_text name scans texts end =
    codes "PLCV 1\ncase " ++ (name ++ (codes "\n" ++ (scans ++ end_text texts end)))
