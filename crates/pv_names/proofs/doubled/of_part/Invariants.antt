use Rattle.std.proofs.Common.{◌≡◌, ℕ, List, map, take}
use Rattle.pv_types.specs.View.{var_tree}
use Rattle.pv_names.specs.Firsts.{number_in, first_number}
use Rattle.pv_names.specs.Doubled.{is_sought}
use Rattle.pv_names.proofs.doubled.of_part.Given as goal

abbrev pub invariant-loop-i : goal.invariant-loop-i
invariant-loop-i l =
    (key : List ℕ) → number_in l.firsts key ≡ first_number (is_sought l.part key) (map var_tree (take l.i l.vars))
