use Rattle.pv_lex.proofs.Joins.{join-anywhere, join-tokens, join-behind, join-before}
use Rattle.pv_lex.proofs.laws.line_feed_parts_tokens.Goals as goal

pub returns : goal.returns
returns c = record { anywhere = join-anywhere; tokens = join-tokens; behind = join-behind; before = join-before }
