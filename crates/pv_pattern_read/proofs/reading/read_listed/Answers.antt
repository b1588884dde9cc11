use Rattle.std.proofs.Common.{◌∙◌, ap, map}
use Rattle.pv_tree.specs.Projects.{symbol_tree}
use Rattle.pv_names.specs.Tables.{blocks_of, symbols_of}
use Rattle.pv_pattern_read.proofs.PatternLaws.{project-seen}
use Rattle.pv_pattern_read.proofs.reading.read_listed.Goals as goal

pub read_among-requires-clause-tables : goal.read_among-requires-clause-tables
read_among-requires-clause-tables c =
    project-seen (blocks_of c.in_ok-tables.tables) _ (symbols_of c.in_ok-tables.tables) _
    (c.in_ok-tables.ensures.blocks ∙ c.requires.list)
    (c.in_ok-tables.ensures.symbols ∙ ap (map symbol_tree) c.symbols.ensures)
