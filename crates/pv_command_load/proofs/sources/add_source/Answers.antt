use Rattle.pv_tree.specs.View.{block_trees}
use Rattle.pv_command_load.proofs.Gathering.{put_behind}
use Rattle.pv_command_load.proofs.sources.add_source.Goals as goal

pub returns-clause-added : goal.returns-clause-added
returns-clause-added g c =
    put_behind (g.F.Files.told c.args.files.now) _ _ c.args.source.now c.in_ok-text.text (block_trees c.in_ok-blocks.blocks.list.items)
    c.args.sources.now _ c.next_number-number.ensures c.in_ok-text.ensures.file_named c.in_ok-text.ensures.held c.in_ok-blocks.ensures.read
    c.in_ok-keep.ensures c.in_ok-append.ensures
