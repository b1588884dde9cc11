use Rattle.std.proofs.Common.{◌≡◌, map, take}
use Rattle.pv_flow.specs.Checks.{deed_mark}
use Rattle.pv_flow.proofs.variables.deed_marks.Given as goal

-- the marks of the deeds so far
abbrev pub invariant-loop-deed : goal.invariant-loop-deed
invariant-loop-deed l = l.found.items ≡ map (deed_mark l.k l.marks) (take l.deed-index l.deeds)
