use Rattle.pv_laws_places.proofs.Tokens.{source-lies, sources-lie}
use Rattle.pv_laws_places.proofs.laws.places_of_sources_lie_in_their_texts.Goals as goal

pub returns : goal.returns
returns c = record { source = source-lies; sources = λ sources symbols are. sources-lie sources are }
