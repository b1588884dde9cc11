use Rattle.std.proofs.Common.{length, ◌∷◌, [], refl, sym, ap, subst, ◌∙◌, slice_get, arith}
use Rattle.std.proofs.lemmas.List.{length-append}
use Rattle.pv_tree.specs.Scopes.{ProjectTree}
use Rattle.pv_tree.specs.Tree.{BlockTree}
use Rattle.pv_names.specs.Entries.{block_of}
use Rattle.pv_names.specs.Tables.{blocks_of, project_of}
use Rattle.pv_mean.specs.Sized.{sized_project}
use Rattle.pv_resolve.specs.Firsts.{AreOfBlock, AreTables}
use Rattle.pv_resolve.proofs.Tabling.{tables_more, item_at, are_of, one_more, one_each}
use Rattle.pv_resolve.proofs.firsts.FirstCells.of.Goals as goal

pub loop-entry-init : goal.loop-entry-init
loop-entry-init c =
    record {
      count = ap length c.new-blocks.ensures.items;
      within = (let n = ap length c.new-blocks.ensures.items in omega (arith, n));
      tables = subst (λ ts. AreTables (sized_project c.args.context.now.sizes.now) ts (blocks_of c.args.context.now.scope.tables.now))
          (sym c.new-blocks.ensures.items) tt;
    }

pub loop-entry-preserved : goal.loop-entry-preserved
loop-entry-preserved c =
    let project = sized_project c.args.context.now.sizes.now in
    let old = c.loop-entry.blocks.items in
    record {
      count = (let n = ap length c.in_ok-push.ensures.items in let m = c.loop-entry.invariant.count in let k = length-append old (c.in_ok-of.field-0 ∷ []) in omega (arith, n, m, k));
      within = one_more block_of c.entries-entry-items.result.now (blocks_of c.args.context.now.scope.tables.now) old _ c.in_ok-of.field-0 c.loop-entry.entry-index
          c.entries-entry-items.ensures c.loop-entry.invariant.count c.loop-entry-test.true c.in_ok-push.ensures.items;
      tables = subst (λ ts. AreTables project ts (blocks_of c.args.context.now.scope.tables.now)) (sym c.in_ok-push.ensures.items)
          (tables_more project old _ c.in_ok-of.field-0 (block_of c.entry-item.result) c.loop-entry.invariant.tables
          (ap (λ n. slice_get (blocks_of c.args.context.now.scope.tables.now) n) c.loop-entry.invariant.count
          ∙ ap (λ l. slice_get l c.loop-entry.entry-index) (sym c.entries-entry-items.ensures)
          ∙ item_at block_of c.entries-entry-items.result.now c.loop-entry.entry-index c.entry-item.result c.loop-entry-test.true c.entry-item.is)
          (subst (λ (b : BlockTree). AreOfBlock project b c.in_ok-of.field-0) c.block.ensures c.in_ok-of.ensures));
    }

pub returns : goal.returns
returns c = λ source is.
    record {
      count = one_each block_of c.entries-entry-items.result.now (blocks_of c.args.context.now.scope.tables.now) _ c.loop-entry.entry-index
          c.entries-entry-items.ensures c.loop-entry.invariant.count c.loop-entry.invariant.within c.loop-entry-test.false
          ∙ ap (λ (p : ProjectTree). length p.blocks) is.project;
      tables = are_of c.loop-entry.blocks.items (sized_project c.args.context.now.sizes.now) (project_of c.args.context.now.scope.tables.now) source.project _ refl is.sizes is.project c.loop-entry.invariant.tables;
    }
