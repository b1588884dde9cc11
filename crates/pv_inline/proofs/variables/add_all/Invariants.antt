use Rattle.std.proofs.Common.{◌≡◌, ◌++◌, map, take}
use Rattle.pv_flow.specs.View.{variable_of}
use Rattle.pv_inline.proofs.variables.add_all.Given as goal

abbrev pub invariant-loop-v : goal.invariant-loop-v
invariant-loop-v l = map variable_of l.vars.items ≡ map variable_of l.fn.vars.items ++ map variable_of (take l.v-index l.all)
