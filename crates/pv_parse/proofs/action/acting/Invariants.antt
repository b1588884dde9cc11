use Rattle.std.proofs.Common.{◌≡◌, map, take}
use Rattle.pv_parse.specs.Building.{acts}
use Rattle.pv_parse.proofs.action.acting.Given as goal

abbrev pub invariant-loop-action : goal.invariant-loop-action
invariant-loop-action l = l.flags.items ≡ map acts (take l.action-index l.actions)
