use Rattle.std.proofs.Common.{refl, map, ap, ◌∙◌, ◌++◌, ◌≤◌, length, sym, subst}
use Rattle.std.specs.Prelude.{flat_map}
use Rattle.pv_types.specs.declared.layout.TheConstants.{MAX_LEAVES}
use Rattle.pv_mean.specs.Cells as table
use Rattle.pv_names.specs.Entries.{block_of}
use Rattle.pv_cells.specs.Planned.{planned}
use Rattle.pv_cells.proofs.Pushing.{next_left, few_now, few_later, none_left}
use Rattle.pv_cells.proofs.plan.Plan.push_data.Goals as goal

pub loop-entry-init : goal.loop-entry-init
loop-entry-init c =
    let p = planned c.args.self.now in
    let e = c.entries-entries.ensures ∙ ap (λ x. x.blocks) c.requires.plan.named in
    record {
      grown = ap (λ bs. c.args.cells.now.items ++ flat_map (table.data_cells p) bs) e;
      few = subst (λ bs. length (flat_map (table.data_cells p) bs) ≤ MAX_LEAVES) (sym e) c.requires.few;
    }

pub data_cells-requires : goal.data_cells-requires
data_cells-requires c =
    let p = planned c.args.self.now in
    record {
      plan = c.requires.plan;
      few = few_now c.entries-entries.result.now c.loop-entry.entry-index _ c.entry-item.result (λ l. flat_map (table.data_cells p) (map block_of l))
          (table.data_cells p (block_of c.entry-item.result)) (λ rest. refl) c.loop-entry-test.true c.entry-item.is refl MAX_LEAVES
          c.loop-entry.invariant.few;
    }

pub loop-entry-preserved : goal.loop-entry-preserved
loop-entry-preserved c =
    let p = planned c.args.self.now in
    record {
      grown = next_left c.entries-entries.result.now c.loop-entry.entry-index _ c.entry-item.result (λ l. flat_map (table.data_cells p) (map block_of l))
          (table.data_cells p (block_of c.entry-item.result)) (λ rest. refl) c.loop-entry-test.true c.entry-item.is refl c.loop-entry.cells.items
          c.append.new.self.items _ (c.in_ok-append.ensures.items ∙ ap (λ l. c.loop-entry.cells.items ++ l) c.in_ok-own.ensures) c.loop-entry.invariant.grown;
      few = few_later c.entries-entries.result.now c.loop-entry.entry-index _ c.entry-item.result (λ l. flat_map (table.data_cells p) (map block_of l))
          (table.data_cells p (block_of c.entry-item.result)) (λ rest. refl) c.loop-entry-test.true c.entry-item.is refl MAX_LEAVES
          c.loop-entry.invariant.few;
    }

pub returns : goal.returns
returns c =
    let p = planned c.args.self.now in
    none_left c.entries-entries.result.now c.loop-entry.entry-index (λ l. flat_map (table.data_cells p) (map block_of l)) c.loop-entry.cells.items _ refl
    c.loop-entry-test.false c.loop-entry.invariant.grown
