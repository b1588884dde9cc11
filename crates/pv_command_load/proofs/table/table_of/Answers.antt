use Rattle.std.proofs.Common.{◌≡◌, ◌∙◌, ◌<◌, ℕ, sym, ap, subst, map, Err}
use Rattle.std.specs.Prelude.{string_bytes}
use Rattle.std.proofs.lemmas.List.{length-map}
use Rattle.pv_tree.specs.declared.block.Blocks.{Blocks}
use Rattle.pv_tree.specs.View.{block_tree, operand_tree}
use Rattle.pv_pattern.specs.Texts.{AreNamed}
use Rattle.pv_mean.specs.ProjectSizes.{project_tree}
use Rattle.pv_case_fit.specs.declared.fault.EntryFault.TheVariants.{NoEntry}
use Rattle.pv_case_fit.specs.Entries.{IsEntry}
use Rattle.pv_command_load.specs.Stops.{StopsTable}
use Rattle.pv_command_load.specs.Faults.{of_entry, of_cells}
use Rattle.pv_command_load.proofs.Exits.{passed}
use Rattle.pv_command_load.proofs.EntryLaws.{entry_in, some_there}
use Rattle.pv_command_load.proofs.TableLaws.{Enters, entered_by, is_table, stops_entry, stops_cells}
use Rattle.pv_command_load.proofs.table.table_of.Goals as goal

pub returns-in_err-entry-clause-stopped : goal.returns-in_err-entry-clause-stopped
returns-in_err-entry-clause-stopped c = λ given case project.
    let fault = c.in_err-entry.field-0.0 in
    let text = c.as_str.result.now in
    let P : Blocks → Type 0 = λ b. fault ≡ NoEntry → (n : ℕ) → IsEntry (map block_tree b.list.items) text n → ⊥ in
    passed (StopsTable given) c.from_residual.result (of_entry fault) c.from_residual.ensures.1
    (stops_entry given (project_tree c.args.project.now) text fault project.same (c.as_str.ensures.value ∙ case.entry)
    (subst P c.blocks-2.ensures c.in_err-entry.ensures.none))

pub of-requires : goal.of-requires
of-requires c = entry_in c.args.project.now.blocks c.blocks-2.result.now c.as_str.result.now c.in_ok-entry.entry c.blocks-2.ensures c.in_ok-entry.ensures.found

pub returns-in_err-table-clause-stopped : goal.returns-in_err-table-clause-stopped
returns-in_err-table-clause-stopped c = λ given case project.
    let fault = c.in_err-table.field-0.0 in
    let text = c.as_str.result.now in
    let tree = project_tree c.args.project.now in
    let n = c.in_ok-entry.entry in
    let below = entry_in c.args.project.now.blocks c.blocks-2.result.now text n c.blocks-2.ensures c.in_ok-entry.ensures.found in
    let block = some_there tree.blocks n (subst (λ k. n < k) (sym (length-map c.args.project.now.blocks.list.items block_tree)) below) in
    let texts = map string_bytes c.as_slice.result.now in
    let operands = map operand_tree c.as_slice-2.result.now in
    let enters : Enters tree text texts n block.0 operands = record {
      entry = subst (λ (b : Blocks). IsEntry (map block_tree b.list.items) text n) c.blocks-2.ensures c.in_ok-entry.ensures.found;
      is = block.1;
      named = subst (λ l. AreNamed texts (map operand_tree l)) (sym c.as_slice-2.ensures.value) c.in_ok-named.ensures;
    } in
    passed (StopsTable given) c.from_residual-in_err-table.result (of_cells fault) c.from_residual-in_err-table.ensures.1
    (stops_cells given tree text texts n block.0 operands fault project.same (c.as_str.ensures.value ∙ case.entry)
    (ap (map string_bytes) c.as_slice.ensures.value ∙ case.expressions) enters
    (λ is. c.in_err-table.ensures.too_large block.0 block.1 (ap Err is)))

pub returns-clause-found : goal.returns-clause-found
returns-clause-found c = λ given case project.
    let text = c.as_str.result.now in
    let tree = project_tree c.args.project.now in
    let n = c.in_ok-entry.entry in
    let below = entry_in c.args.project.now.blocks c.blocks-2.result.now text n c.blocks-2.ensures c.in_ok-entry.ensures.found in
    let block = some_there tree.blocks n (subst (λ k. n < k) (sym (length-map c.args.project.now.blocks.list.items block_tree)) below) in
    let texts = map string_bytes c.as_slice.result.now in
    let operands = map operand_tree c.as_slice-2.result.now in
    let enters : Enters tree text texts n block.0 operands = record {
      entry = subst (λ (b : Blocks). IsEntry (map block_tree b.list.items) text n) c.blocks-2.ensures c.in_ok-entry.ensures.found;
      is = block.1;
      named = subst (λ l. AreNamed texts (map operand_tree l)) (sym c.as_slice-2.ensures.value) c.in_ok-named.ensures;
    } in (
      entered_by block.0 operands,
      is_table given tree text texts n block.0 operands c.in_ok-table.table project.same (c.as_str.ensures.value ∙ case.entry)
          (ap (map string_bytes) c.as_slice.ensures.value ∙ case.expressions) enters (c.in_ok-table.ensures.cells block.0 block.1)
          c.in_ok-table.ensures.bytes (c.in_ok-table.ensures.within block.0 block.1),
    )
