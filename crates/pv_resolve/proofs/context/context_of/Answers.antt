use Rattle.std.proofs.Common.{refl, sym, arith}
use Rattle.pv_tree.specs.View.{block_tree}
use Rattle.pv_mean.specs.Layout.{entry_size, data_size}
use Rattle.pv_mean.specs.Sized.{sized_project}
use Rattle.pv_resolve.proofs.Starting.{entry_exact, behind_exact, beyond_both, within_both}
use Rattle.pv_resolve.proofs.context.context_of.Goals as goal

pub returns-then-bytes_first-ge-BEYOND-clause-too_large : goal.returns-then-bytes_first-ge-BEYOND-clause-too_large
returns-then-bytes_first-ge-BEYOND-clause-too_large c =
    let p = sized_project c.args.sizes.now in (
      λ _. beyond_both (entry_size p (block_tree c.args.entered.now)) (data_size p p.blocks) c.of_entry-data_first.result c.of_data_blocks-behind.result
          c.of_entry-data_first.ensures c.of_data_blocks-behind.ensures (omega arith),
      λ _. refl,
    )

pub returns-clause-context : goal.returns-clause-context
returns-clause-context c =
    let p = sized_project c.args.sizes.now in
    λ source project sizes entry bytes.
    let first = entry_exact p source.project (block_tree c.args.entered.now) source.entry c.of_entry-data_first.result c.of_entry-data_first.ensures
    (omega arith) sizes entry in
    record {
      project = project;
      sizes = sizes;
      data_blocks = first;
      areas = behind_exact p source.project source.entry c.of_entry-data_first.result c.of_data_blocks-behind.result first
          c.of_data_blocks-behind.ensures (omega arith) sizes;
      bytes = sym bytes;
      number = tt;
      firsts = tt;
    }

pub returns-clause-too_large : goal.returns-clause-too_large
returns-clause-too_large c =
    let p = sized_project c.args.sizes.now in (
      λ e. absurd (cc),
      λ h. absurd (within_both (entry_size p (block_tree c.args.entered.now)) (data_size p p.blocks) c.of_entry-data_first.result
          c.of_data_blocks-behind.result c.of_entry-data_first.ensures c.of_data_blocks-behind.ensures (omega arith) h),
    )
