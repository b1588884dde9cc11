-- What lies on top of the stack while declarations and blocks are made, and what is under it.
use Rattle.std.specs.Prelude.{List, Option, Some, None, option_and_then}
use Rattle.pv_types.specs.declared.declaration.Literal.{Literal}
use Rattle.pv_types.specs.declared.declaration.Section.{Section}
use Rattle.pv_types.specs.declared.name.Name.{Name}
use Rattle.pv_types.specs.Tree.{TypeTree}
use Rattle.pv_tree.specs.declared.expr.Root.{Root}
use Rattle.pv_tree.specs.declared.expr.Root.TheVariants.{Local, Named}
use Rattle.pv_tree.specs.Tree.{PlacedName, StartTree, BodyTree, BlockTree}
use Rattle.pv_parse.specs.DeclItems.{FieldsTree, BoundsTree, HeadTree, DeclTree, the_name, the_words, the_around, the_fields, the_type, the_start, the_bounds, the_heading, the_body, the_values, the_blocks}
use Rattle.pv_parse.specs.Items.{Stack, decl_on, path_on, word_of}

-- a word that was read as an operand without steps
abbrev pub word_on : Stack → Option (PlacedName × Stack)
word_on s =
    option_and_then (λ p. option_and_then (λ w. Some (w, p.1)) (word_of p.0.root)) (path_on s)

-- the name with which an operand begins
abbrev pub name_of : Root → Option Name
name_of (Local its hash place) = Some its
name_of (Named its) = Some its
name_of _ = None

-- what is taken of a part that lies on top
abbrev pub taken : {A : Type 0} → (DeclTree → Option A) → Stack → Option (A × Stack)
taken part s =
    option_and_then (λ x. option_and_then (λ found. Some (found, x.1)) (part x.0)) (decl_on s)

abbrev pub name_in : DeclTree → Option (PlacedName)
name_in (the_name x) = Some x
name_in _ = None

abbrev pub name_on : Stack → Option ((PlacedName) × Stack)
name_on s = taken name_in s

abbrev pub words_in : DeclTree → Option (List PlacedName)
words_in (the_words x) = Some x
words_in _ = None

abbrev pub words_on : Stack → Option ((List PlacedName) × Stack)
words_on s = taken words_in s

abbrev pub around_in : DeclTree → Option (Section)
around_in (the_around x) = Some x
around_in _ = None

abbrev pub around_on : Stack → Option ((Section) × Stack)
around_on s = taken around_in s

abbrev pub fields_in : DeclTree → Option (FieldsTree)
fields_in (the_fields x) = Some x
fields_in _ = None

abbrev pub fields_on : Stack → Option ((FieldsTree) × Stack)
fields_on s = taken fields_in s

abbrev pub typed_in : DeclTree → Option (TypeTree)
typed_in (the_type x) = Some x
typed_in _ = None

abbrev pub typed_on : Stack → Option ((TypeTree) × Stack)
typed_on s = taken typed_in s

abbrev pub start_in : DeclTree → Option (Option Literal)
start_in (the_start x) = Some x
start_in _ = None

abbrev pub start_on : Stack → Option ((Option Literal) × Stack)
start_on s = taken start_in s

abbrev pub bounds_in : DeclTree → Option (BoundsTree)
bounds_in (the_bounds x) = Some x
bounds_in _ = None

abbrev pub bounds_on : Stack → Option ((BoundsTree) × Stack)
bounds_on s = taken bounds_in s

abbrev pub heading_in : DeclTree → Option (HeadTree)
heading_in (the_heading x) = Some x
heading_in _ = None

abbrev pub heading_on : Stack → Option ((HeadTree) × Stack)
heading_on s = taken heading_in s

abbrev pub body_in : DeclTree → Option (BodyTree)
body_in (the_body x) = Some x
body_in _ = None

abbrev pub body_on : Stack → Option ((BodyTree) × Stack)
body_on s = taken body_in s

abbrev pub values_in : DeclTree → Option (List StartTree)
values_in (the_values x) = Some x
values_in _ = None

abbrev pub values_on : Stack → Option ((List StartTree) × Stack)
values_on s = taken values_in s

abbrev pub blocks_in : DeclTree → Option (List BlockTree)
blocks_in (the_blocks x) = Some x
blocks_in _ = None

abbrev pub blocks_on : Stack → Option ((List BlockTree) × Stack)
blocks_on s = taken blocks_in s
