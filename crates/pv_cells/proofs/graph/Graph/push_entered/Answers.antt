use Rattle.std.proofs.Common.{sym, ap, ◌∙◌, ◌≤◌, length, subst, ◌++◌, arith}
use Rattle.std.specs.Prelude.{flat_map}
use Rattle.pv_types.specs.declared.layout.TheConstants.{MAX_LEAVES}
use Rattle.pv_cells.specs.Below.{at_numbers, cells_of_path}
use Rattle.pv_cells.specs.Drawn.{drawn}
use Rattle.pv_cells.proofs.Results.{on_ok}
use Rattle.pv_cells.proofs.Graphing.{entered-cells, entered-few}
use Rattle.pv_cells.proofs.graph.Graph.push_entered.Goals as goal

pub push_own-requires : goal.push_own-requires
push_own-requires c = record {
  plan = c.requires.graph.plan;
  few = (entered-few (drawn c.args.self.now) c.args.node.now MAX_LEAVES c.requires.is c.requires.few).0;
}

pub push_below-requires : goal.push_below-requires
push_below-requires c = record {
  graph = c.requires.graph;
  further = omega arith;
  few = subst (λ l. length (flat_map (cells_of_path (drawn c.args.self.now) 6) (at_numbers (drawn c.args.self.now).blocks l)) ≤ MAX_LEAVES)
      (sym c.as_slice.ensures.value) (entered-few (drawn c.args.self.now) c.args.node.now MAX_LEAVES c.requires.is c.requires.few).1;
}

pub returns : goal.returns
returns c =
    let p = drawn c.args.self.now in
    on_ok c.push_below.result _ _
    (λ e. entered-cells p c.args.node.now c.args.cells.now.items c.push_own.new.cells.items c.push_below.new.cells.items c.requires.is
    c.in_ok-push_own.ensures
    (e ∙ ap (λ l. c.push_own.new.cells.items ++ flat_map (cells_of_path p 6) (at_numbers p.blocks l)) c.as_slice.ensures.value))
    c.push_below.ensures
