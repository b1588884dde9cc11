-- Where the variables of a project's blocks lie, by tables that are made once.
use Rattle.std.specs.Prelude.{◌≡◌, ℕ, zero, suc, ◌+◌, List, [], ◌∷◌, ◌++◌, length, Bool as Truth, if◌then◌else◌, Option, Some, None, IfSome, is_some, slice_get}
use Rattle.pv_types.specs.declared.declaration.Section.{Section}
use Rattle.pv_types.specs.Tree.{VarTree, var}
use Rattle.pv_tree.specs.declared.block.BlockKind.{BlockKind}
use Rattle.pv_tree.specs.declared.block.BlockKind.TheVariants.{Ob, Fb, Fc, Db, Udt}
use Rattle.pv_tree.specs.Tree.{BlockTree}
use Rattle.pv_tree.specs.Scopes.{ProjectTree, is_fb}
use Rattle.pv_mean.specs.Layout.{Laid, size_in}
use Rattle.pv_mean.specs.Counts.{capped}
use Rattle.pv_mean.specs.LaidOut.{test_of, size_where}
use Rattle.pv_mean.specs.declared.laid.Part.{Part}
use Rattle.pv_mean.specs.declared.laid.Part.TheVariants.{Fields, Instance, Temporary, Activation}
use Rattle.pv_resolve.specs.declared.firsts.PartFirsts.{PartFirsts}
use Rattle.pv_resolve.specs.declared.firsts.BlockFirsts.{BlockFirsts}
use Rattle.pv_resolve.specs.declared.firsts.FirstCells.{FirstCells}

-- the cells in front of each variable among those of a part, counted up to the bound
abbrev pub fronts : ProjectTree → (Section → Truth) → List VarTree → ℕ → List ℕ
fronts project test [] at = []
fronts project test (var name section ty start place ∷ more) at =
    at ∷ fronts project test more (capped (at + size_where (test section) (size_in project ty)))

-- the variable of this number with its first cell, if it is of the part
abbrev pub laid_nth : ProjectTree → (Section → Truth) → List VarTree → ℕ → ℕ → Option Laid
laid_nth project test [] n at = None
laid_nth project test (var name section ty start place ∷ more) zero at =
    if test section then Some (record { ty = ty; first = at }) else None
laid_nth project test (var name section ty start place ∷ more) (suc n) at =
    laid_nth project test more n (capped (at + size_where (test section) (size_in project ty)))

-- more variables are in the table of a part
pub record AddsVariables (project : ProjectTree) (old new : PartFirsts) (vars : List VarTree) : Type 0 where
  pub part : new.part ≡ old.part
  pub numbers : (more : List VarTree)
      → new.numbers.items ++ fronts project (test_of old.part) more new.total
      ≡ old.numbers.items ++ fronts project (test_of old.part) (vars ++ more) old.total

-- the table of a part has the cells in front of each of these variables
abbrev pub HasFronts : ProjectTree → List VarTree → PartFirsts → Type 0
HasFronts project vars p = p.numbers.items ≡ fronts project (test_of p.part) vars 0

-- so has each table of a block
pub record HasFirsts (project : ProjectTree) (vars : List VarTree) (b : BlockFirsts) : Type 0 where
  pub main : HasFronts project vars b.main
  pub temporary : IfSome b.temporary (HasFronts project vars)

-- the part of the first table of a block of this kind
abbrev pub main_part : BlockKind → Part
main_part Fb = Instance
main_part Udt = Instance
main_part Fc = Activation
main_part Ob = Activation
main_part (Db of) = Fields

-- the tables are those of this block: the first one is of the part that its kind has, and a function block has a second one
pub record AreOfBlock (project : ProjectTree) (block : BlockTree) (b : BlockFirsts) : Type 0 where
  pub firsts : HasFirsts project block.vars b
  pub part : b.main.part ≡ main_part block.kind
  pub two : is_some b.temporary ≡ is_fb block.kind
  pub second : IfSome b.temporary (λ p. p.part ≡ Temporary)

-- tables of blocks, in their order
abbrev pub AreTables : ProjectTree → List BlockFirsts → List BlockTree → Type 0
AreTables project [] bs = Unit {0}
AreTables project (t ∷ ts) [] = Unit {0}
AreTables project (t ∷ ts) (b ∷ bs) = AreOfBlock project b t × AreTables project ts bs

-- the tables of a project's blocks, of each one
pub record AreFirsts (f : FirstCells) (project : ProjectTree) : Type 0 where
  pub count : length f.blocks.items ≡ length project.blocks
  pub tables : AreTables project f.blocks.items project.blocks

-- the block of this number, where one is given, is this
abbrev pub IsNumbered : ProjectTree → Option ℕ → BlockTree → Type 0
IsNumbered project None b = Unit {0}
IsNumbered project (Some n) b = slice_get project.blocks n ≡ Some b
