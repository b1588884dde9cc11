-- Texts and blocks that a project is made of are those of sources which are read.
use Rattle.std.specs.Prelude.{◌≡◌, ℕ, List, map, flat_map}
use Rattle.pv_tree.specs.Tree.{BlockTree}
use Rattle.pv_laws_places.specs.Sources.{SourceRead, AreOfTexts, texts_of}
use Rattle.pv_command_load.specs.Positions.{FileText}

-- of sources that are numbered from 0, each of which has tokens that read as its blocks
pub record AreRead (texts : List FileText) (blocks : List BlockTree) : Type 0 where
  pub read : List SourceRead
  pub are : AreOfTexts 0 read
  pub of_texts : map (λ t. t.bytes) texts ≡ texts_of read
  pub of_blocks : blocks ≡ flat_map (λ s. s.blocks) read
