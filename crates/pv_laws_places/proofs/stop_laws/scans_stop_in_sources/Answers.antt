use Rattle.std.proofs.Common.{sym, subst}
use Rattle.pv_laws_places.specs.Kept.{EachOfBlocks}
use Rattle.pv_laws_places.specs.Texts.{LiesInOne}
use Rattle.pv_laws_places.specs.Sources.{texts_of}
use Rattle.pv_laws_places.proofs.Tokens.{sources-lie}
use Rattle.pv_laws_places.proofs.Stops.{scan-stops, run-stops}
use Rattle.pv_laws_places.proofs.stop_laws.scans_stop_in_sources.Goals as goal

pub returns : goal.returns
returns c =
    record {
      scans = λ sources symbols source image input are same is.
          scan-stops c.scans_stop_at_places.ensures (LiesInOne (texts_of sources)) source
          (subst (λ project. EachOfBlocks (LiesInOne (texts_of sources)) project.blocks) (sym same) (sources-lie sources are)) is image input;
      runs = λ sources symbols source image inputs are same is.
          run-stops c.scans_stop_at_places.ensures (LiesInOne (texts_of sources)) source
          (subst (λ project. EachOfBlocks (LiesInOne (texts_of sources)) project.blocks) (sym same) (sources-lie sources are)) is image inputs;
    }
