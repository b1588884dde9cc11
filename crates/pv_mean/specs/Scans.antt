-- One scan of a source (the scan cycle of a programmable controller, as PLCverif models it): image and input are put into their
-- cells, the entered block runs to its end, and the next image has the end values of what is kept and the parameters as they were.
use Rattle.std.specs.Prelude.{ℕ, ℤ, List, []}
use Rattle.pv_tree.specs.Tree.{ExprTree}
use Rattle.pv_mean.specs.Cells.{most_calls}
use Rattle.pv_mean.specs.Sources.{Source}
use Rattle.pv_mean.specs.Frames.{Frame, Image, Input, begin, image_after}
use Rattle.pv_mean.specs.Endings.{Ended, ended, trapped, over, Value}
use Rattle.pv_mean.specs.Activations.{Activation, unset_brief}
use Rattle.pv_mean.specs.Values.{value}
use Rattle.pv_mean.specs.Calls.{run_body, calls_within}

-- the values of all visible cells, in the order of the table
abbrev pub Visible : Type 0
Visible = List ℤ

-- it is done, with the visible cells at its end; ends by a trap; or over a loop's bound
abbrev pub ScanEnd : Type 0
ScanEnd = Ended Visible

-- the visible cells at its beginning, when no statement has run, and its end
pub record Scan : Type 0 where
  pub beginning : Visible
  pub end : ScanEnd

-- the entered block at work; a function block's instance is the table's first cells
abbrev pub entry_activation : Source → Activation
entry_activation source = record { block = source.entry; first = 0 }

-- the entered block's frame at a scan's beginning
abbrev pub entry_frame : Source → Visible → Frame
entry_frame source values = record { visible = values; brief = unset_brief source source.entry }

abbrev pub visible_end : Ended Frame → ScanEnd
visible_end (ended frame) = ended frame.visible
visible_end (trapped kind place) = trapped kind place
visible_end (over place) = over place

-- the scan with these visible cells at its beginning, where so many calls may stand behind one another
abbrev pub scan_from : Source → ℕ → Visible → Scan
scan_from source calls values = record {
  beginning = values;
  end = visible_end (run_body source (calls_within source calls) (entry_activation source)
      (entry_frame source values));
}

abbrev pub scan : Source → Image → Input → Scan
scan source image input = scan_from source most_calls (begin source.cells image input)

-- the image that a scan leaves for the next one, by the visible cells at its beginning and at its end
abbrev pub next_image : Source → Visible → Visible → Image
next_image source beginning end = image_after source.cells beginning end

-- the value of an expression over the entered block's names by visible cells alone, as patterns have it
abbrev pub pattern_value : Source → Visible → ExprTree → Value
pattern_value source values e =
    value source (entry_activation source) (record { visible = values; brief = [] }) e
