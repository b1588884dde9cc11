-- What tables say: the blocks and symbols of a project.
use Rattle.std.specs.Prelude.{List, map}
use Rattle.pv_tree.specs.Tree.{BlockTree}
use Rattle.pv_tree.specs.Projects.{symbol_tree}
use Rattle.pv_tree.specs.Scopes.{SymbolTree, ProjectTree}
use Rattle.pv_names.specs.Entries.{block_of}
use Rattle.pv_names.specs.declared.tables.Tables.{Tables}

abbrev pub blocks_of : Tables → List BlockTree
blocks_of t = map block_of t.entries.now

abbrev pub symbols_of : Tables → List SymbolTree
symbols_of t = map symbol_tree t.symbols.now

abbrev pub project_of : Tables → ProjectTree
project_of t = record { blocks = blocks_of t; symbols = symbols_of t }
