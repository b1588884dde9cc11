use Rattle.std.proofs.Common.{◌∙◌, ap, map}
use Rattle.pv_tree.specs.Projects.{symbol_tree}
use Rattle.pv_names.specs.Tables.{blocks_of, symbols_of}
use Rattle.pv_program.proofs.Making.{project-seen}
use Rattle.pv_program.proofs.project.program_among.Goals as goal

pub program_by-requires : goal.program_by-requires
program_by-requires c =
    project-seen (blocks_of c.in_ok-tables.tables) _ (symbols_of c.in_ok-tables.tables) _
    (c.in_ok-tables.ensures.blocks ∙ c.requires)
    (c.in_ok-tables.ensures.symbols ∙ ap (map symbol_tree) c.symbols.ensures)
