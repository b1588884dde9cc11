use Rattle.std.proofs.Common.{arith, not, take}
use Rattle.std.proofs.lemmas.Grind.{common_steps}
use Rattle.std.proofs.lemmas.List.Sums.{suffix_len-le-length}
use Rattle.pv_command_load.specs.Positions.{is_feed}
use Rattle.pv_command_load.proofs.position.line_and_column.Goals as goal

pub overflow_add-column : goal.overflow_add-column
overflow_add-column c =
    grind (arith, common_steps, suffix_len-le-length (λ byte. not (is_feed byte)) (take c.loop-byte.byte-index c.args.before.now))
