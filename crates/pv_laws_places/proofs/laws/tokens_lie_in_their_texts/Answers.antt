use Rattle.pv_laws_places.proofs.Tokens.{tokens-in-text, places-in-text}
use Rattle.pv_laws_places.proofs.laws.tokens_lie_in_their_texts.Goals as goal

pub returns : goal.returns
returns c = record { tokens = tokens-in-text; places = places-in-text }
