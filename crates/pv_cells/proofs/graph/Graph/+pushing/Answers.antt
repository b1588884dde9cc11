use Rattle.std.proofs.Common.{get_or, arith, ◌+◌, ◌-◌, ◌*◌, ◌<◌, refl, sym, ap, ◌∙◌, ◌≤◌, length, subst, ◌++◌}
use Rattle.std.specs.Prelude.{flat_map, option_to_list}
use Rattle.std.specs.List.{slice_get}
use Rattle.pv_types.specs.declared.layout.TheConstants.{MAX_LEAVES}
use Rattle.pv_mean.specs.Cells.{most_calls}
use Rattle.pv_cells.specs.Below.{at_numbers, cells_of_path}
use Rattle.pv_cells.specs.Graphs.{node_tree}
use Rattle.pv_cells.specs.Drawn.{drawn}
use Rattle.pv_cells.proofs.Results.{on_ok}
use Rattle.pv_cells.proofs.Pushing.{read_same, next_left, few_now, few_later, none_left}
use Rattle.pv_cells.proofs.Graphing.{node-is, number-cells, numbers-first, path-ends, path-goes_on, path-few, below-few}
use Rattle.pv_cells.proofs.graph.Graph.+pushing.Goals as goal

pub push_below-push_number-requires : goal.push_below-push_number-requires
push_below-push_number-requires t c =
    let p = drawn c.args.self.now in
    let left = c.args.left in
    let number = get_or c.args.calls.now c.loop-number.number-index 0 in
    let less : 3 * c.args.left + 1 < t = omega (arith, c.decreases) in
    let few = few_now c.args.calls.now c.loop-number.number-index _ number (λ l. flat_map (cells_of_path p left) (at_numbers p.blocks l))
    (flat_map (cells_of_path p left) (option_to_list (slice_get p.blocks number))) (numbers-first p left number)
    c.loop-number-test.true (read_same c.args.calls.now c.loop-number.number-index 0 number c.loop-number-test.true) refl MAX_LEAVES
    c.loop-number.invariant.few in
    (less, (c.requires.graph, (c.requires.further, few)))

pub push_below-loop-number-preserved : goal.push_below-loop-number-preserved
push_below-loop-number-preserved t c =
    let p = drawn c.args.self.now in
    let left = c.args.left in
    let number = get_or c.args.calls.now c.loop-number.number-index 0 in
    let same = read_same c.args.calls.now c.loop-number.number-index 0 number c.loop-number-test.true in
    record {
      grown = next_left c.args.calls.now c.loop-number.number-index _ number (λ l. flat_map (cells_of_path p left) (at_numbers p.blocks l))
          (flat_map (cells_of_path p left) (option_to_list (slice_get p.blocks number))) (numbers-first p left number)
          c.loop-number-test.true same refl c.loop-number.cells.items c.push_number.new.cells.items _ c.in_ok-push_number.ensures
          c.loop-number.invariant.grown;
      few = few_later c.args.calls.now c.loop-number.number-index _ number (λ l. flat_map (cells_of_path p left) (at_numbers p.blocks l))
          (flat_map (cells_of_path p left) (option_to_list (slice_get p.blocks number))) (numbers-first p left number)
          c.loop-number-test.true same refl MAX_LEAVES c.loop-number.invariant.few;
    }

pub push_below-returns : goal.push_below-returns
push_below-returns t c =
    let p = drawn c.args.self.now in
    let left = c.args.left in
    none_left c.args.calls.now c.loop-number.number-index (λ l. flat_map (cells_of_path p left) (at_numbers p.blocks l)) c.loop-number.cells.items _ refl
    c.loop-number-test.false c.loop-number.invariant.grown

pub push_number-push_path-requires : goal.push_number-push_path-requires
push_number-push_path-requires t c =
    let p = drawn c.args.self.now in
    let node = c.in-Some.node.now in
    let less : 3 * c.args.left < t = omega (arith, c.decreases) in (
      less,
      (
        c.requires.graph,
        (
          node-is p c.args.self.now.nodes.items c.requires.graph.are c.args.number node c.in-Some.ensures.some,
          (
            c.requires.further,
            subst (λ l. length l ≤ MAX_LEAVES)
                (number-cells p c.args.self.now.nodes.items c.requires.graph.are c.args.number node c.in-Some.ensures.some c.args.left) c.requires.few,
          ),
        ),
      ),
    )

pub push_number-returns-in-Some : goal.push_number-returns-in-Some
push_number-returns-in-Some t c =
    let p = drawn c.args.self.now in
    let node = c.in-Some.node.now in
    on_ok c.push_path.result _ _
    (λ e. e ∙ ap (λ l. c.args.cells.now.items ++ l)
    (sym (number-cells p c.args.self.now.nodes.items c.requires.graph.are c.args.number node c.in-Some.ensures.some c.args.left)))
    c.push_path.ensures

pub push_path-push_own-requires : goal.push_path-push_own-requires
push_path-push_own-requires t c =
    record {
      plan = c.requires.graph.plan;
      few = path-few (drawn c.args.self.now) (node_tree c.args.node.now) c.args.left MAX_LEAVES c.requires.few;
    }

pub push_path-push_below-requires : goal.push_path-push_below-requires
push_path-push_below-requires t c =
    let p = drawn c.args.self.now in
    let smaller : 3 * (c.args.left - 1) + 2 < t = omega (arith, c.decreases, c.if-left-eq0.false) in
    let further : c.args.left - 1 < most_calls = omega (arith, c.requires.further) in (
      smaller,
      (
        c.requires.graph,
        (
          further,
          subst (λ l. length (flat_map (cells_of_path p (c.args.left - 1)) (at_numbers p.blocks l)) ≤ MAX_LEAVES)
              (sym c.as_slice.ensures.value)
              (below-few p c.args.node.now c.args.left (c.args.left - 1) MAX_LEAVES (omega (arith, c.if-left-eq0.false)) c.requires.is c.requires.few),
        ),
      ),
    )

pub push_path-returns-then-left-eq0 : goal.push_path-returns-then-left-eq0
push_path-returns-then-left-eq0 t c =
    path-ends (drawn c.args.self.now) c.args.node.now c.args.cells.now.items c.push_own.new.cells.items c.args.left c.if-left-eq0.true
    c.in_ok-push_own.ensures

pub push_path-returns : goal.push_path-returns
push_path-returns t c =
    let p = drawn c.args.self.now in
    on_ok c.push_below.result _ _
    (λ e. path-goes_on p c.args.node.now c.args.cells.now.items c.push_own.new.cells.items c.push_below.new.cells.items c.args.left (c.args.left - 1)
    (omega (arith, c.if-left-eq0.false)) c.requires.is c.in_ok-push_own.ensures
    (e ∙ ap (λ l. c.push_own.new.cells.items ++ flat_map (cells_of_path p (c.args.left - 1)) (at_numbers p.blocks l)) c.as_slice.ensures.value))
    c.push_below.ensures
