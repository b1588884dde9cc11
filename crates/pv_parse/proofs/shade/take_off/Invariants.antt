use Rattle.std.proofs.Common.{◌≡◌}
use Rattle.pv_parse.specs.Shades.{left_below, shades_of}
use Rattle.pv_parse.proofs.shade.take_off.Given as goal

abbrev pub invariant-values : goal.invariant-values
invariant-values l = left_below l.left (shades_of l.stack) ≡ left_below l.fn.count (shades_of l.fn.stack)

abbrev pub decreases-values : goal.decreases-values
decreases-values l = l.left
