-- Faults of other crates as stops of a stage. No public clause cites these.
use Rattle.pv_case_fit.specs.declared.fault.EntryFault.{EntryFault}
use Rattle.pv_case_fit.specs.declared.fault.EntryFault.TheVariants as entry_fault
use Rattle.pv_case_fit.specs.declared.fault.InputFault.{InputFault}
use Rattle.pv_case_fit.specs.declared.fault.InputFault.TheVariants as input_fault
use Rattle.pv_cells.specs.declared.fault.CellFault.{CellFault}
use Rattle.pv_cells.specs.declared.fault.CellFault.TheVariants as cell_fault
use Rattle.pv_pattern_read.specs.declared.fault.PatternFault.{PatternFault}
use Rattle.pv_pattern_read.specs.declared.fault.PatternFault.TheVariants as pattern_fault
use Rattle.pv_command_load.specs.declared.table.TableStop.{TableStop}
use Rattle.pv_command_load.specs.declared.table.TableStop.TheVariants as table_stop
use Rattle.pv_command_load.specs.declared.fit.FitStop.{FitStop}
use Rattle.pv_command_load.specs.declared.fit.FitStop.TheVariants as fit_stop

abbrev pub of_entry : EntryFault → TableStop
of_entry entry_fault.NoEntry = table_stop.NoEntry
of_entry entry_fault.NoMemory = table_stop.NoMemory

abbrev pub of_cells : CellFault → TableStop
of_cells cell_fault.TooLarge = table_stop.TooLarge
of_cells cell_fault.NoMemory = table_stop.NoMemory

abbrev pub of_input : InputFault → FitStop
of_input (input_fault.NotAnInput field) = fit_stop.NotAnInput field
of_input (input_fault.BoundRange field) = fit_stop.BoundRange field
of_input input_fault.NoMemory = fit_stop.NoMemory

abbrev pub of_pattern : PatternFault → FitStop
of_pattern (pattern_fault.Text n) = fit_stop.PatternText n
of_pattern (pattern_fault.Rule n rule) = fit_stop.PatternRule n
of_pattern (pattern_fault.BriefCell n) = fit_stop.BriefCell n
of_pattern (pattern_fault.NotBool n) = fit_stop.NotBool n
of_pattern pattern_fault.NoMemory = fit_stop.NoMemory
