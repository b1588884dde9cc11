use Rattle.pv_laws_places.specs.Texts.{LiesInOne}
use Rattle.pv_laws_places.specs.Sources.{texts_of, project_of}
use Rattle.pv_laws_places.proofs.Tokens.{sources-lie}
use Rattle.pv_laws_places.proofs.Broken.{broken-at}
use Rattle.pv_laws_places.proofs.laws.rules_are_broken_in_sources.Goals as goal

pub returns : goal.returns
returns c sources symbols rule at are broken =
    broken-at (LiesInOne (texts_of sources)) rule (project_of sources symbols) at (sources-lie sources are) broken
