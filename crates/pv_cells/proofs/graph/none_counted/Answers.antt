use Rattle.pv_cells.proofs.graph.none_counted.Goals as goal

pub returns : goal.returns
returns c = c.in_ok-counts.ensures.items_if_clones_equal (λ y h. (cc))
