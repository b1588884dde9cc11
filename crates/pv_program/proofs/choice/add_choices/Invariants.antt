use Rattle.std.proofs.Common.{map, take}
use Rattle.pv_resolve.specs.Contexts.{block_in}
use Rattle.pv_program.specs.Pairs.{Pairs}
use Rattle.pv_program.specs.Made.{IsRange}
use Rattle.pv_program.proofs.choice.add_choices.Given as goal

abbrev pub invariant-loop-choice : goal.invariant-loop-choice
invariant-loop-choice l = Pairs (IsRange (block_in l.context)) l.made.items (map (λ t. t) (take l.choice-index l.choices))
