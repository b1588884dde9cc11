use Rattle.std.proofs.Common.{◌≡◌, ◌++◌, take}
use Rattle.std.specs.List.{flat_map}
use Rattle.std.specs.Prelude.{codes}
use Rattle.pv_cnf.specs.Dimacs.{literal_text}
use Rattle.pv_cnf.proofs.dimacs.push_line.Given as goal

-- the literals so far are written
abbrev pub invariant-loop-lit : goal.invariant-loop-lit
invariant-loop-lit l = l.text.items ≡ l.initial.text.items ++ flat_map (λ lit. literal_text lit ++ codes " ") (take l.lit-index l.lits)
