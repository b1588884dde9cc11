use Rattle.std.proofs.Common.{ap, ◌∙◌, ◌++◌}
use Rattle.pv_mean.specs.Cells as table
use Rattle.pv_types.specs.declared.layout.TheConstants.{MAX_LEAVES}
use Rattle.pv_bytes.specs.NamedBytes.{bytes_tree}
use Rattle.pv_cells.specs.Graphs.{node_tree}
use Rattle.pv_cells.specs.Drawn.{drawn}
use Rattle.pv_cells.proofs.TableParts.{few-parts, parts-behind}
use Rattle.pv_cells.proofs.graph.Graph.built.Goals as goal

pub push_entry-requires : goal.push_entry-requires
push_entry-requires c =
    record {
      plan = c.requires.graph.plan;
      few = (few-parts (drawn c.args.self.now) (node_tree c.args.node.now) (bytes_tree c.args.bytes.now) MAX_LEAVES c.requires.few).entry;
    }

pub push_data-requires : goal.push_data-requires
push_data-requires c =
    record {
      plan = c.requires.graph.plan;
      few = (few-parts (drawn c.args.self.now) (node_tree c.args.node.now) (bytes_tree c.args.bytes.now) MAX_LEAVES c.requires.few).datas;
    }

pub push_entered-requires : goal.push_entered-requires
push_entered-requires c = record {
  graph = c.requires.graph;
  is = c.requires.is;
  few = (few-parts (drawn c.args.self.now) (node_tree c.args.node.now) (bytes_tree c.args.bytes.now) MAX_LEAVES c.requires.few).brief;
}

pub returns : goal.returns
returns c =
    parts-behind (drawn c.args.self.now) (node_tree c.args.node.now) (bytes_tree c.args.bytes.now) c.push_entry.new.cells.items
    c.push_data.new.cells.items c.push_areas.new.cells.items c.push_entered.new.cells.items
    (c.in_ok-push_entry.ensures ∙ ap (λ l. l ++ table.entry_cells (drawn c.args.self.now) (node_tree c.args.node.now)) c.new-cells.ensures.items)
    c.in_ok-push_data.ensures
    c.in_ok-push_areas.ensures c.in_ok-push_entered.ensures
