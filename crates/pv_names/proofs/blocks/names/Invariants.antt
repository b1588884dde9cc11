use Rattle.std.proofs.Common.{map, take}
use Rattle.pv_names.specs.Firsts.{FindsFirsts}
use Rattle.pv_names.proofs.blocks.names.Given as goal

abbrev pub invariant-loop-i : goal.invariant-loop-i
invariant-loop-i l = FindsFirsts l.firsts (map (λ e. e.block.now.name.key) (take l.i l.entries))
