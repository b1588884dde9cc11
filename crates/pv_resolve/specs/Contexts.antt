-- The source whose names a context finds.
use Rattle.std.specs.Prelude.{◌≡◌, ℕ, ◌+◌, ◌/◌, nat_le, if◌then◌else◌, IfSome}
use Rattle.pv_word.specs.declared.types.Ty.{Ty}
use Rattle.pv_tree.specs.declared.expr.Root.{Root}
use Rattle.pv_tree.specs.declared.expr.Root.TheVariants.{Local, Named, Area as InArea}
use Rattle.pv_tree.specs.Tree.{BlockTree}
use Rattle.pv_names.specs.Entries.{block_of}
use Rattle.pv_names.specs.Tables.{project_of}
use Rattle.pv_mean.specs.Layout.{entry_size, data_size}
use Rattle.pv_bytes.specs.Lent.{bytes_tree}
use Rattle.pv_mean.specs.Sources.{Source}
use Rattle.pv_mean.specs.Spots.{Spot, bit, bytes, nowhere}
use Rattle.pv_mean.specs.Activations.{address_spot}
use Rattle.pv_mean.specs.Sized.{sized_project}
use Rattle.pv_resolve.specs.declared.context.Context.{Context}
use Rattle.pv_resolve.specs.Firsts.{AreFirsts, IsNumbered}

-- the block whose names are found
abbrev pub block_in : Context → BlockTree
block_in c = block_of c.scope.entry.now

-- the context is one of a block of this source
pub record IsContext (c : Context) (source : Source) : Type 0 where
  pub project : project_of c.scope.tables.now ≡ source.project
  pub sizes : sized_project c.sizes.now ≡ source.project
  pub data_blocks : c.data_first ≡ entry_size source.project source.entry
  pub areas : c.bytes_first
      ≡ entry_size source.project source.entry + data_size source.project source.project.blocks
  pub bytes : source.bytes ≡ bytes_tree c.bytes
  pub number : IsNumbered source.project c.number (block_in c)
  pub firsts : IfSome c.firsts (λ f. AreFirsts f.now source.project)

-- what is read or written at an address, the byte of which has this cell
abbrev pub address_spot_at : Ty → ℕ → ℕ → ℕ → Spot
address_spot_at ty bits number n =
    if nat_le bits 1 then bit number n else bytes ty number (bits / 8)

-- an area operand as a value of a type; nothing else is one
abbrev pub area_spot : Source → Ty → Root → Spot
area_spot source ty (InArea area bits byte n) = address_spot source ty area bits byte n
area_spot source ty (Local name hash place) = nowhere
area_spot source ty (Named name) = nowhere
