use Rattle.std.proofs.Common.{◌≡◌, drop}
use Rattle.pv_tree.specs.Lexemes.{lexemes_of}
use Rattle.pv_tree.specs.Outside.{first_spot}
use Rattle.pv_parse.specs.Roles.{spot_of, find_outside}
use Rattle.pv_parse.proofs.outside.find.Given as goal

abbrev pub invariant-loop-i : goal.invariant-loop-i
invariant-loop-i l =
    find_outside l.language (spot_of l.spot) (lexemes_of l.text (drop l.i l.tokens))
    ≡ find_outside l.language first_spot (lexemes_of l.text l.tokens)
