use Rattle.std.proofs.Common.{ap}
use Rattle.pv_tree.specs.Scopes.{ProjectTree}
use Rattle.pv_tree.specs.Tree.{BlockTree}
use Rattle.pv_names.specs.Entries.{block_of}
use Rattle.pv_names.specs.Tables.{blocks_of}
use Rattle.pv_program.proofs.Numbers.{block-number, no-number}
use Rattle.pv_program.proofs.call.number_of_block.Goals as goal

pub returns-in-Some : goal.returns-in-Some
returns-in-Some c = λ source is first.
    block-number source.project.blocks (blocks_of c.args.context.now.scope.tables.now) c.block.result.now.name.key (block_of c.args.entry.now)
    c.in-Some.n (ap (λ (p : ProjectTree). p.blocks) is.project) (ap (λ (b : BlockTree). b.name.key) c.block.ensures) c.in-Some.ensures first

pub returns-in-None : goal.returns-in-None
returns-in-None c = λ source is first.
    absurd (no-number source.project.blocks (blocks_of c.args.context.now.scope.tables.now) c.block.result.now.name.key
    (block_of c.args.entry.now) (ap (λ (p : ProjectTree). p.blocks) is.project) (ap (λ (b : BlockTree). b.name.key) c.block.ensures)
    c.in-None.ensures first)
