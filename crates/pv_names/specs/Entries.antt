-- A block with its table.
use Rattle.pv_tree.specs.Tree.{BlockTree}
use Rattle.pv_tree.specs.View.{block_tree}
use Rattle.pv_names.specs.declared.entry.Entry.{Entry}

abbrev pub block_of : Entry → BlockTree
block_of e = block_tree e.block.now
