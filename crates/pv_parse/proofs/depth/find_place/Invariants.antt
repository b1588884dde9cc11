use Rattle.std.proofs.Common.{ℕ, List, [], drop}
use Rattle.pv_tree.specs.Lexemes.{lexemes_of}
use Rattle.pv_parse.specs.Shades.{Shade, shades_of}
use Rattle.pv_parse.specs.ItemShades.{shade_making}
use Rattle.pv_parse.specs.Building.{Plays}
use Rattle.pv_parse.proofs.depth.find_place.Given as goal

-- the turns that are left make of what is left what all of them make of the whole
abbrev pub invariant-loop-turn : goal.invariant-loop-turn
invariant-loop-turn l =
    (text : List ℕ) (behind : List Shade) → Plays (shade_making l.actions) l.turns (lexemes_of text l.fn.tokens) [] behind
    → Plays (shade_making l.actions) (drop l.turn-index l.turns) (lexemes_of text l.rest) (shades_of l.stack) behind
