-- The sources that were read, as the code keeps them: the text of each, and the blocks of all.
use Rattle.std.specs.Prelude.{◌≡◌, ℕ, List, [], ◌∷◌, ◌++◌, map, flat_map, Option}
use Rattle.pv_edge.specs.Files.{FileMap}
use Rattle.pv_tree.specs.View.{block_trees}
use Rattle.pv_case.specs.Cases.{SourceData}
use Rattle.pv_command_load.specs.declared.sources.Sources.{Sources}
use Rattle.pv_command_load.specs.declared.source.SourceStop.{SourceStop}
use Rattle.pv_command_load.specs.Sources.{ReadSource, HoldsSource, HoldSources, IsAsked, IsRefused}
use Rattle.pv_command_load.specs.Stopped.{StopsAt}
use Rattle.pv_command_load.specs.Stops.{text_tree, source_stopped}

-- the files of these sources hold what is kept
pub record HasSources (told : Option FileMap) (sources : List SourceData) (kept : Sources) : Type 0 where
  pub read : List ReadSource
  pub held : HoldSources told 0 sources read
  pub texts : map text_tree kept.texts.items ≡ map (λ s. s.text) read
  pub blocks : block_trees kept.blocks.list.items ≡ flat_map (λ s. s.blocks) read

-- ---- what private contracts cite

-- the source of this number is put behind those that are kept
pub record HasOneMore (told : Option FileMap) (number : ℕ) (source : SourceData) (old new : Sources) : Type 0 where
  pub read : ReadSource
  pub held : HoldsSource told number source read
  pub texts : map text_tree new.texts.items ≡ map text_tree old.texts.items ++ read.text ∷ []
  pub blocks : block_trees new.blocks.list.items ≡ block_trees old.blocks.list.items ++ read.blocks

-- the file of the source of this number can't be read, or holds what is refused
abbrev pub StopsAtOne : Option FileMap → ℕ → SourceData → SourceStop → Type 0
StopsAtOne told number source stop =
    StopsAt (λ name. IsAsked name number source) (λ refusal. IsRefused told refusal number source) (source_stopped stop)
