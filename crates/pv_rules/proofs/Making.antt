-- Projects by their blocks and symbols.
use Rattle.std.proofs.Common.{◌≡◌, ap, subst, ◌∙◌, List}
use Rattle.pv_word.specs.declared.types.Ty.{Ty}
use Rattle.pv_types.specs.declared.name.Name.{Name}
use Rattle.pv_tree.specs.declared.expr.Operand.{Operand}
use Rattle.pv_tree.specs.declared.block.Block.{Block}
use Rattle.pv_tree.specs.Tree.{BlockTree}
use Rattle.pv_tree.specs.Scopes.{SymbolTree, ProjectTree}
use Rattle.pv_tree.specs.Projects.{project_tree}

pub made : (p : ProjectTree) (bs : List BlockTree) (ss : List SymbolTree) → p.blocks ≡ bs → p.symbols ≡ ss
    → p ≡ record { blocks = bs; symbols = ss }
made p bs ss e f =
    ap (λ b. record { blocks = b; symbols = p.symbols }) e ∙ ap (λ s. record { blocks = bs; symbols = s }) f

-- what holds of blocks and symbols holds of equal ones
pub moved : (P : ProjectTree → Type 0) (bs cs : List Block) (ss ts : List (Name × Operand × Ty)) → bs ≡ cs → ss ≡ ts
    → P (project_tree bs ss) → P (project_tree cs ts)
moved P bs cs ss ts e f h = subst (λ l. P (project_tree cs l)) f (subst (λ l. P (project_tree l ss)) e h)
