-- The parts of the table, put together, and how many cells they have.
use Rattle.std.proofs.Common.{◌≡◌, ℕ, ◌+◌, ◌≤◌, ◌<◌, List, [], ◌++◌, length, Some, None, sym, ap, ◌∙◌, subst, arith}
use Rattle.std.specs.Prelude.{flat_map, Result, Vec, IfOk, OnOk, IsErrOf}
use Rattle.std.specs.List.{slice_get}
use Rattle.std.proofs.lemmas.Option.{none-some, same_Some}
use Rattle.std.proofs.lemmas.List.{length-append}
use Rattle.pv_tree.specs.Tree.{BlockTree}
use Rattle.pv_tree.specs.Scopes.{ProjectTree}
use Rattle.pv_mean.specs.declared.cell.Cell.{Cell}
use Rattle.pv_mean.specs.Counts.{capped}
use Rattle.pv_mean.specs.AreaBytes.{Bytes}
use Rattle.pv_mean.specs.Layout.{entry_size, data_size}
use Rattle.pv_mean.specs.Cells.{entry_cells, data_cells, area_cells, visible_part, brief_cells, table_of}
use Rattle.pv_cells.specs.declared.node.Node.{Node}
use Rattle.pv_cells.specs.Graphs.{node_tree, NodesAre}
use Rattle.pv_cells.proofs.Sums.{sums, both-counted}
use Rattle.pv_cells.proofs.Graphing.{node-block, no-block}
use Rattle.pv_cells.specs.Answered.{Tabled}
use Rattle.pv_cells.specs.declared.fault.CellFault.{CellFault}
use Rattle.pv_cells.specs.declared.fault.CellFault.TheVariants.{TooLarge}
use Rattle.pv_types.specs.declared.layout.TheConstants.{MAX_LEAVES}
use Rattle.std.specs.declared.alloc.Global.{Global}

-- ---- the block of a number

module _ (project : ProjectTree) (nodes : List Node) (are : NodesAre project nodes) (i : ℕ) (b : BlockTree) (is : slice_get project.blocks i ≡ Some b) where
  pub block-there : (n : Node) → slice_get nodes i ≡ Some n → node_tree n ≡ b
  block-there n at = same_Some (node_tree n) b (sym (node-block project nodes are i n at) ∙ is)

  pub block-missing : slice_get nodes i ≡ None → ⊥
  block-missing at = none-some b (sym (no-block project nodes are i at) ∙ is)

-- ---- how many cells

pub entry-counted : (p s : ProjectTree) → s ≡ p → (b c : BlockTree) → b ≡ c → length (entry_cells p c) ≡ entry_size p c → (r : ℕ)
    → r ≡ capped (entry_size s b) → r ≡ capped (length (entry_cells p c))
entry-counted p s same b c e laid r is =
    is ∙ ap (λ x. capped (entry_size x b)) same ∙ ap (λ x. capped (entry_size p x)) e ∙ ap capped (sym laid)

pub bytes-counted : (bytes : Bytes) → length (area_cells bytes) ≡ length bytes.inputs + length bytes.outputs + length bytes.flags
    → (a b c d r : ℕ) → a ≡ capped (length bytes.inputs) → b ≡ capped (length bytes.outputs) → c ≡ capped (length bytes.flags)
    → d ≡ capped (a + b) → r ≡ capped (d + c) → r ≡ capped (length (area_cells bytes))
bytes-counted bytes laid a b c d r inputs outputs flags first is =
    sums d c (length bytes.inputs + length bytes.outputs) (length bytes.flags) r
    (sums a b (length bytes.inputs) (length bytes.outputs) d inputs outputs first) flags is
    ∙ ap capped (sym laid)

pub visible-counted : (p s : ProjectTree) → s ≡ p → (b : BlockTree) (bytes : Bytes)
    → length (flat_map (data_cells p) p.blocks) ≡ data_size p p.blocks → (e d a x r : ℕ) → e ≡ capped (length (entry_cells p b))
    → d ≡ capped (data_size s s.blocks) → a ≡ capped (length (area_cells bytes)) → x ≡ capped (e + d) → r ≡ capped (x + a)
    → r ≡ capped (length (visible_part p b bytes))
visible-counted p s same b bytes laid e d a x r entry datas areas first is =
    both-counted (entry_cells p b ++ flat_map (data_cells p) p.blocks) (area_cells bytes) x a r
    (both-counted (entry_cells p b) (flat_map (data_cells p) p.blocks) e d x entry
    (datas ∙ ap (λ y. capped (data_size y y.blocks)) same ∙ ap capped (sym laid)) first)
    areas is

-- ---- what is put behind what

pub parts-behind : (p : ProjectTree) (b : BlockTree) (bytes : Bytes) (one two three four : List Cell) → one ≡ [] ++ entry_cells p b
    → two ≡ one ++ flat_map (data_cells p) p.blocks → three ≡ two ++ area_cells bytes → four ≡ three ++ brief_cells p b
    → four ≡ table_of p b bytes
parts-behind p b bytes one two three four entry datas areas brief =
    brief ∙ ap (λ l. l ++ brief_cells p b) (areas ∙ ap (λ l. l ++ area_cells bytes) (datas ∙ ap (λ l. l ++ flat_map (data_cells p) p.blocks) entry))

-- each part has no more cells than the table
pub record FewParts (p : ProjectTree) (b : BlockTree) (bytes : Bytes) (m : ℕ) : Type 0 where
  pub entry : length (entry_cells p b) ≤ m
  pub datas : length (flat_map (data_cells p) p.blocks) ≤ m
  pub brief : length (brief_cells p b) ≤ m

pub few-parts : (p : ProjectTree) (b : BlockTree) (bytes : Bytes) (m : ℕ) → length (table_of p b bytes) ≤ m → FewParts p b bytes m
few-parts p b bytes m few =
    let e = length-append (visible_part p b bytes) (brief_cells p b) in
    let f = length-append (entry_cells p b ++ flat_map (data_cells p) p.blocks) (area_cells bytes) in
    let g = length-append (entry_cells p b) (flat_map (data_cells p) p.blocks) in
    record { entry = omega (arith, few, e, f, g); datas = omega (arith, few, e, f, g); brief = omega (arith, few, e) }

-- ---- answers

pub tabled : (p : ProjectTree) (number : ℕ) (bytes : Bytes) (b : BlockTree) (result : Result (Vec Cell Global) CellFault)
    → slice_get p.blocks number ≡ Some b → IfOk result (λ v. v.items ≡ table_of p b bytes) → OnOk result (length (table_of p b bytes) ≤ MAX_LEAVES)
    → (IsErrOf result TooLarge → MAX_LEAVES < length (table_of p b bytes)) → Tabled p number bytes result
tabled p number bytes b result at cells within large = record {
  cells = λ block is. subst (λ x. IfOk result (λ v. v.items ≡ table_of p x bytes)) (same_Some b block (sym at ∙ is)) cells;
  within = λ block is. subst (λ x. OnOk result (length (table_of p x bytes) ≤ MAX_LEAVES)) (same_Some b block (sym at ∙ is)) within;
  too_large = λ block is err. subst (λ x. MAX_LEAVES < length (table_of p x bytes)) (same_Some b block (sym at ∙ is)) (large err);
}

pub tabled-of : (p q : ProjectTree) (n : ℕ) (a b : Bytes) (result : Result (Vec Cell Global) CellFault) → p ≡ q → a ≡ b → Tabled p n a result
    → Tabled q n b result
tabled-of p q n a b result same bytes is = subst (λ x. Tabled q n x result) bytes (subst (λ x. Tabled x n a result) same is)
