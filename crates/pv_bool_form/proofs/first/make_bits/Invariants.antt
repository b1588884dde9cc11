use Rattle.std.proofs.Common.{◌≡◌, map, take}
use Rattle.pv_types.specs.View.{var_tree}
use Rattle.pv_bool_form.specs.Numbering.{bit_of_var}
use Rattle.pv_bool_form.proofs.first.make_bits.Given as goal

-- a bit for each variable so far
abbrev pub invariant-loop-var : goal.invariant-loop-var
invariant-loop-var l = l.bits.items ≡ map (λ v. bit_of_var (var_tree v)) (take l.var-index l.vars)
