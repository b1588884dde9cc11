-- Parts of declarations and blocks that lie on the stack, as plain data.
use Rattle.std.specs.Prelude.{ℤ, List, map, Option}
use Rattle.pv_word.specs.declared.types.Ty.{Ty}
use Rattle.pv_place.specs.declared.place.Place.{Place}
use Rattle.pv_types.specs.declared.name.Name.{Name}
use Rattle.pv_types.specs.declared.declaration.Literal.{Literal}
use Rattle.pv_types.specs.declared.declaration.Section.{Section}
use Rattle.pv_types.specs.Tree.{TypeTree, VarTree}
use Rattle.pv_types.specs.View.{type_tree, var_trees}
use Rattle.pv_tree.specs.Tree.{PlacedName, StartTree, BodyTree, BlockTree}
use Rattle.pv_tree.specs.View.{start_tree, body_tree, block_trees}
use Rattle.pv_parse.specs.declared.decl_item.Fields.{Fields}
use Rattle.pv_parse.specs.declared.decl_item.Bounds.{Bounds}
use Rattle.pv_parse.specs.declared.decl_item.Heading.{Heading}
use Rattle.pv_parse.specs.declared.decl_item.DeclItem.{DeclItem}
use Rattle.pv_parse.specs.declared.decl_item.DeclItem.TheVariants as i

-- variables of one section
pub record FieldsTree : Type 0 where
  pub section : Section
  pub vars : List VarTree

-- the bounds of an array, and the place of its word
pub record BoundsTree : Type 0 where
  pub low : ℤ
  pub high : ℤ
  pub place : Place

-- what stands in a block before its body: its name and the place of the name, its variables so far,
-- the type of its value, and what a data block is of
pub record HeadTree : Type 0 where
  pub name : Name
  pub place : Place
  pub vars : List VarTree
  pub value : Option Ty
  pub of : Option PlacedName

-- a part of a declaration or of a block
pub data DeclTree : Type 0 where
  the_name : PlacedName → DeclTree
  the_words : List PlacedName → DeclTree
  the_around : Section → DeclTree
  the_fields : FieldsTree → DeclTree
  the_type : TypeTree → DeclTree
  the_start : Option Literal → DeclTree
  the_bounds : BoundsTree → DeclTree
  the_heading : HeadTree → DeclTree
  the_body : BodyTree → DeclTree
  the_values : List StartTree → DeclTree
  the_blocks : List BlockTree → DeclTree

-- ---- the code's

abbrev pub fields_tree : Fields → FieldsTree
fields_tree f = record { section = f.section; vars = var_trees f.vars.items }

abbrev pub bounds_tree : Bounds → BoundsTree
bounds_tree b = record { low = b.low; high = b.high; place = b.place }

abbrev pub head_tree : Heading → HeadTree
head_tree h = record {
  name = h.name;
  place = h.place;
  vars = var_trees h.vars.items;
  value = h.value;
  of = h.of;
}

abbrev pub decl_of : DeclItem → DeclTree
decl_of (i.Name n place) = the_name (n, place)
decl_of (i.Words v) = the_words v.items
decl_of (i.Around a) = the_around a
decl_of (i.Fields f) = the_fields (fields_tree f)
decl_of (i.Typed t) = the_type (type_tree t.value)
decl_of (i.Start o) = the_start o
decl_of (i.Bounds b) = the_bounds (bounds_tree b)
decl_of (i.Heading h) = the_heading (head_tree h.value)
decl_of (i.Body b) = the_body (body_tree b)
decl_of (i.Values v) = the_values (map start_tree v.items)
decl_of (i.Blocks v) = the_blocks (block_trees v.items)
