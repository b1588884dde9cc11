use Rattle.std.specs.Prelude.{bytes_eq}
use Rattle.pv_names.specs.Firsts.{first_number}
use Rattle.std.proofs.Common.{◌≡◌, Some, map, ap, sym, ◌∙◌, subst}
use Rattle.pv_tree.specs.Scopes.{first_block}
use Rattle.pv_tree.specs.Callees.{block_of_callee}
use Rattle.pv_mean.specs.Chains.{RunsSuch}
use Rattle.pv_names.specs.Callees.{callee_tree}
use Rattle.pv_names.specs.Tables.{blocks_of}
use Rattle.pv_names.specs.Entries.{block_of}
use Rattle.pv_cells.specs.Graphs.{at_number}
use Rattle.pv_cells.proofs.Graphing.{first_at}
use Rattle.pv_cells.proofs.nodes.number_of_callee.Goals as goal

pub returns-in-Runs : goal.returns-in-Runs
returns-in-Runs c = λ first.
    let bs = blocks_of c.args.tables.now in
    ap (at_number bs) c.number_of.ensures
    ∙ ap (λ b. at_number bs (first_number (bytes_eq b.name.key) (map (λ x. x.name.key) bs))) c.block.ensures
    ∙ first_at bs (block_of c.in-Runs.entry.now).name.key
    ∙ subst (λ x. RunsSuch (λ b. first_block bs b.name.key ≡ Some b) (callee_tree x)) c.in-Runs.is first
    ∙ ap (λ x. block_of_callee (callee_tree x)) (sym c.in-Runs.is)
