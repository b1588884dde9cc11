-- The entered block and its cells, or why there are none.
use Rattle.std.proofs.Common.{◌≡◌, ◌<◌, ◌≤◌, ℕ, List, length, Some, refl, sym, subst}
use Rattle.std.specs.Prelude.{slice_get}
use Rattle.pv_types.specs.declared.layout.TheConstants.{MAX_LEAVES}
use Rattle.pv_tree.specs.Tree.{OperandTree, BlockTree}
use Rattle.pv_tree.specs.Scopes.{ProjectTree}
use Rattle.pv_mean.specs.declared.cell.Cell.{Cell}
use Rattle.pv_mean.specs.AreaBytes.{bytes_of}
use Rattle.pv_mean.specs.Cells.{table_of}
use Rattle.pv_pattern.specs.Texts.{AreNamed}
use Rattle.pv_cells.specs.declared.project_table.Table.{Table}
use Rattle.pv_cells.specs.Named.{wide_bytes}
use Rattle.pv_case_fit.specs.declared.fault.EntryFault.{EntryFault}
use Rattle.pv_case_fit.specs.declared.fault.EntryFault.TheVariants.{NoEntry, NoMemory}
use Rattle.pv_case_fit.specs.Entries.{IsEntry}
use Rattle.pv_cells.specs.declared.fault.CellFault.{CellFault}
use Rattle.pv_cells.specs.declared.fault.CellFault.TheVariants as cell_fault
use Rattle.pv_command_load.specs.Subjects.{Given, blocks_of, project_of, Entered, IsEntered}
use Rattle.pv_command_load.specs.Stops.{StopsTable}
use Rattle.pv_command_load.specs.Faults.{of_entry, of_cells}
use Rattle.pv_command_load.specs.Made.{IsTableOf}

-- what is known of the entered block by a project's tree
pub record Enters (tree : ProjectTree) (text : List ℕ) (texts : List (List ℕ)) (n : ℕ) (block : BlockTree) (operands : List OperandTree)
    : Type 0 where
  pub entry : IsEntry tree.blocks text n
  pub is : slice_get tree.blocks n ≡ Some block
  pub named : AreNamed texts operands

abbrev pub entered_by : BlockTree → List OperandTree → Entered
entered_by block operands = record { block = block; operands = operands }

pub is_entered : (given : Given) (tree : ProjectTree) (text : List ℕ) (texts : List (List ℕ)) (n : ℕ) (block : BlockTree)
    (operands : List OperandTree) → tree ≡ project_of given → text ≡ given.case.entry → texts ≡ given.case.expressions
    → Enters tree text texts n block operands → IsEntered given (entered_by block operands)
is_entered given tree text texts n block operands is entry are e =
    let moved : IsEntry (blocks_of given) text n = subst (λ (p : ProjectTree). IsEntry p.blocks text n) is e.entry in
    record {
      number = n;
      entry = subst (λ t. IsEntry (blocks_of given) t n) entry moved;
      is = subst (λ (p : ProjectTree). slice_get p.blocks n ≡ Some block) is e.is;
      named = subst (λ t. AreNamed t operands) are e.named;
    }

-- the cells by the project's tree
abbrev pub cells_by : ProjectTree → BlockTree → List OperandTree → List Cell
cells_by tree block operands = table_of tree block (bytes_of tree operands)

pub is_table : (given : Given) (tree : ProjectTree) (text : List ℕ) (texts : List (List ℕ)) (n : ℕ) (block : BlockTree)
    (operands : List OperandTree) (table : Table) → tree ≡ project_of given → text ≡ given.case.entry
    → texts ≡ given.case.expressions → Enters tree text texts n block operands → table.cells.items ≡ cells_by tree block operands
    → wide_bytes table.bytes ≡ bytes_of tree operands → length (cells_by tree block operands) ≤ MAX_LEAVES
    → IsTableOf given (entered_by block operands) n table
is_table given tree text texts n block operands table is entry are e cells bytes few = record {
  has = record {
    is_entered = is_entered given tree text texts n block operands is entry are e;
    few = subst (λ p. length (cells_by p block operands) ≤ MAX_LEAVES) is few;
  };
  is = subst (λ (p : ProjectTree). slice_get p.blocks n ≡ Some block) is e.is;
  cells = subst (λ p. table.cells.items ≡ cells_by p block operands) is cells;
  bytes = subst (λ p. wide_bytes table.bytes ≡ bytes_of p operands) is bytes;
}

-- ---- why there are none

pub stops_entry : (given : Given) (tree : ProjectTree) (text : List ℕ) (fault : EntryFault) → tree ≡ project_of given
    → text ≡ given.case.entry → (fault ≡ NoEntry → (n : ℕ) → IsEntry tree.blocks text n → ⊥) → StopsTable given (of_entry fault)
stops_entry given tree text NoEntry is entry none = λ n e.
    none refl n (subst (λ (p : ProjectTree). IsEntry p.blocks text n) (sym is) (subst (λ t. IsEntry (blocks_of given) t n) (sym entry) e))
stops_entry given tree text NoMemory is entry none = tt

pub stops_cells : (given : Given) (tree : ProjectTree) (text : List ℕ) (texts : List (List ℕ)) (n : ℕ) (block : BlockTree)
    (operands : List OperandTree) (fault : CellFault) → tree ≡ project_of given → text ≡ given.case.entry
    → texts ≡ given.case.expressions → Enters tree text texts n block operands
    → (fault ≡ cell_fault.TooLarge → MAX_LEAVES < length (cells_by tree block operands)) → StopsTable given (of_cells fault)
stops_cells given tree text texts n block operands cell_fault.TooLarge is entry are e large = (
  entered_by block operands,
  is_entered given tree text texts n block operands is entry are e,
  subst (λ p. MAX_LEAVES < length (cells_by p block operands)) is (large refl),
)
stops_cells given tree text texts n block operands cell_fault.NoMemory is entry are e large = tt
