use Rattle.std.proofs.Common.{subst, ◌∙◌, map, IfOk}
use Rattle.pv_tree.specs.Projects.{symbol_tree}
use Rattle.pv_tree.specs.View.{block_tree}
use Rattle.pv_names.specs.Tables.{project_of}
use Rattle.pv_rules.specs.Found.{AreAll}
use Rattle.pv_rules.proofs.Making.{made}
use Rattle.pv_rules.proofs.found.nearest_among.Goals as goal

pub all_near-requires : goal.all_near-requires
all_near-requires c = c.in_ok-tables.ensures.blocks ∙ c.requires

pub returns : goal.returns
returns c =
    subst (λ p. IfOk c.all_near.result (λ n. AreAll p n))
    (made (project_of c.in_ok-tables.tables) (map block_tree c.args.blocks.now) (map symbol_tree c.args.symbols.now)
    (c.in_ok-tables.ensures.blocks ∙ c.requires) c.in_ok-tables.ensures.symbols) c.all_near.ensures
