use Rattle.std.proofs.Common.{◌≡◌, take}
use Rattle.pv_command_load.specs.Positions.{line_behind, column_behind}
use Rattle.pv_command_load.proofs.position.line_and_column.Given as goal

abbrev pub invariant-loop-byte : goal.invariant-loop-byte
invariant-loop-byte l =
    record {
      line : l.line ≡ line_behind (take l.byte-index l.before);
      column : l.column ≡ column_behind (take l.byte-index l.before);
    }
