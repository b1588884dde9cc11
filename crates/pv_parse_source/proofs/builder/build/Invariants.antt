use Rattle.std.proofs.Common.{[], drop}
use Rattle.pv_tree.specs.Lexemes.{lexemes_of}
use Rattle.pv_parse.specs.Items.{Stack, stack_of}
use Rattle.pv_parse.specs.Deeds.{making}
use Rattle.pv_parse.specs.Building.{Plays}
use Rattle.pv_parse_source.proofs.builder.build.Given as goal

-- the turns that are left make of what is left what all of them make of the whole
abbrev pub invariant-loop-turn : goal.invariant-loop-turn
invariant-loop-turn l =
    (behind : Stack) → Plays (making l.actions) l.turns (lexemes_of l.text l.fn.tokens) [] behind
    → Plays (making l.actions) (drop l.turn-index l.turns) (lexemes_of l.text l.rest) (stack_of l.stack) behind
