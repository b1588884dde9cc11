use Rattle.std.proofs.Common.{◌≡◌, map, take}
use Rattle.pv_parse.specs.ItemShades.{shading_of}
use Rattle.pv_parse.proofs.depth.shadings.Given as goal

abbrev pub invariant-loop-action : goal.invariant-loop-action
invariant-loop-action l = l.table.items ≡ map shading_of (take l.action-index l.actions)
