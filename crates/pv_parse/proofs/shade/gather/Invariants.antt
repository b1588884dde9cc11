use Rattle.std.proofs.Common.{◌≡◌}
use Rattle.pv_parse.specs.Shades.{empty, gathered, shade_in, shades_of}
use Rattle.pv_parse.proofs.shade.gather.Given as goal

-- what is left to take makes of the stack what the whole makes of the whole
abbrev pub invariant-values : goal.invariant-values
invariant-values l =
    gathered l.left l.drops (shade_in l.one) (shades_of l.stack) ≡ gathered l.fn.count l.fn.drops empty (shades_of l.fn.stack)

abbrev pub decreases-values : goal.decreases-values
decreases-values l = l.left
