use Rattle.std.proofs.Common.{false}
use Rattle.pv_tree.specs.Lexemes.{lexemes_of}
use Rattle.pv_parse.proofs.Sound.{tokens-sound, have-kinds}
use Rattle.pv_parse.proofs.laws.tokens_have_kinds.Goals as goal

pub returns : goal.returns
returns c = λ language file text tokens a. have-kinds false (lexemes_of text tokens) (tokens-sound language file text tokens a)
