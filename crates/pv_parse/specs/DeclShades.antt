-- What alternatives of names, literals, declarations and blocks do with what is known of the values on the stack. The section around a
-- type has no value there.
use Rattle.pv_parse.specs.declared.action.DeclAction.{DeclAction}
use Rattle.pv_parse.specs.declared.action.DeclAction.TheVariants as d
use Rattle.pv_parse.specs.declared.action.BlockAction.{BlockAction}
use Rattle.pv_parse.specs.declared.action.BlockAction.TheVariants as b
use Rattle.pv_parse.specs.declared.shade.Shading.{Shading}
use Rattle.pv_parse.specs.declared.shade.Shading.TheVariants.{Take, Join, Group, Part}

-- a type is a part, also one that several variables share
abbrev pub decl_shading : DeclAction → Shading
decl_shading d.Name = Join 1 1
decl_shading d.Number = Join 1 0
decl_shading d.Negative = Join 2 0
decl_shading d.Truth = Join 1 0
decl_shading d.FirstWord = Group 1 1
decl_shading d.NextWord = Group 3 1
decl_shading d.TypeHead = Take 1
decl_shading d.Simple = Part 1 0
decl_shading d.Unread = Part 1 0
decl_shading d.Named = Part 1 0
decl_shading d.ArrayHead = Join 7 0
decl_shading d.Array = Part 2 0
decl_shading d.StructHead = Join 1 0
decl_shading d.Struct = Part 2 0
decl_shading d.Start = Group 2 0
decl_shading d.NoStart = Group 0 0
decl_shading d.Declared = Join 5 0
decl_shading d.Constant = Join 5 8
decl_shading d.OwnHead = Join 1 0
decl_shading d.SectionHead = Join 1 0
decl_shading d.ConstHead = Join 1 0
decl_shading d.Dropped = Take 1

-- the paths of a data block's values have no part with another above it, and don't count
abbrev pub block_shading : BlockAction → Shading
block_shading b.Name = Group 1 0
block_shading b.Value = Group 3 0
block_shading b.Void = Group 3 0
block_shading b.Closed = Group 3 0
block_shading b.DataOf = Group 2 0
block_shading b.PathIndex = Join 4 0
block_shading b.DataHead = Group 1 0
block_shading b.NoData = Group 0 0
block_shading b.DataValue = Group 5 8
block_shading b.SclBody = Take 0
block_shading b.BegunBody = Group 2 0
block_shading b.NewSource = Group 0 0
block_shading b.FunctionBlock = Group 5 0
block_shading b.Function = Group 5 0
block_shading b.OrganizationBlock = Group 5 0
block_shading b.Data = Group 5 0
block_shading b.Structure = Group 4 0
