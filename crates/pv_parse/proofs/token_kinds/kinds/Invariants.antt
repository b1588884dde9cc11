use Rattle.std.proofs.Common.{◌≡◌, false, ◌++◌, drop}
use Rattle.pv_tree.specs.Lexemes.{lexemes_of}
use Rattle.pv_parse.specs.Kinds.{kinds_of}
use Rattle.pv_parse.proofs.token_kinds.kinds.Given as goal

abbrev pub invariant-loop-token : goal.invariant-loop-token
invariant-loop-token l =
    l.kinds.items ++ kinds_of l.marked (lexemes_of l.text (drop l.token-index l.tokens)) ≡ kinds_of false (lexemes_of l.text l.tokens)
