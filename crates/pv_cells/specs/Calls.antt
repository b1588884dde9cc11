-- Calls of the code as plain data.
use Rattle.pv_tree.specs.View.{call_tree}
use Rattle.pv_tree.specs.Callees.{CallSite}
use Rattle.pv_tree.specs.Parts.{site}
use Rattle.pv_names.specs.Callees.{how_tree}
use Rattle.pv_cells.specs.declared.made.Made.{Made}

abbrev pub made_tree : Made → CallSite
made_tree m = site (how_tree m.how) (call_tree m.call.now)
