-- The line of too many cells.
use Rattle.std.proofs.Common.{◌≡◌, Some, Result, Ok, Err, IfOk, refl, sym, ap, ◌∙◌}
use Rattle.std.specs.Prelude.{codes, String, string_bytes}
use Rattle.std.specs.Fmt.{digits}
use Rattle.std.specs.declared.alloc.Global.{Global}
use Rattle.pv_command_load.specs.declared.table.TableStop.{TableStop}
use Rattle.pv_command_load.specs.declared.table.TableStop.TheVariants.{TooLarge}
use Rattle.pv_command_load.specs.Refusals.{too_many_cells, table_line}
use Rattle.pv_command_load.specs.Stopped.{stopped_text}
use Rattle.pv_command_load.specs.Stops.{table_stopped}

cells_line : table_line too_many_cells ≡ codes "plcv: TooLarge cells 20000\n"
unfolding digits
cells_line = refl

pub too_large : {E : Type 0} (stop : TableStop) (r : Result (String Global) E) → stop ≡ TooLarge
    → IfOk r (λ t. string_bytes t ≡ codes "plcv: TooLarge cells 20000\n")
    → IfOk r (λ t. stopped_text table_line (table_stopped stop) ≡ Some (string_bytes t))
too_large stop (Ok t) is h = ap (λ s. stopped_text table_line (table_stopped s)) is ∙ ap Some (cells_line ∙ sym h)
too_large stop (Err e) is h = tt
