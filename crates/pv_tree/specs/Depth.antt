-- Nesting in sources: the levels and the parts of declared types, whose first tokens the tree
-- doesn't keep, so that parts come from the tokens that spell them; and the place where a source
-- nests too deep.
use Rattle.std.specs.Prelude.{◌⊎◌, ℕ, suc, max, ◌≤◌, List, [], ◌∷◌, ◌++◌, Option, Some, None}
use mathlib.Core.Logic.{inl, inr}
use Rattle.pv_place.specs.declared.place.Place.{Place}
use Rattle.pv_types.specs.declared.declaration.Section.{Section}
use Rattle.pv_types.specs.declared.declaration.Section.TheVariants as section
use Rattle.pv_types.specs.Tree.{TypeTree, plain, array, structure, named, unread, VarTree, var, VarTrees, no_vars, _then_}
use Rattle.pv_types.specs.View.{listed as fields}
use Rattle.pv_lex.specs.declared.token.Language.{Language}
use Rattle.pv_tree.specs.declared.block.BlockKind.{BlockKind}
use Rattle.pv_tree.specs.declared.block.BlockKind.TheVariants as kind
use Rattle.pv_tree.specs.Tree.{PlacedName, BlockTree}
use Rattle.pv_tree.specs.Lexemes.{Lexeme}
use Rattle.pv_tree.specs.Declarations.{SpellsType, SpellsVars, SpellsSection, SpellsSections, no_sections, sections}
use Rattle.pv_tree.specs.Blocks.{SpellsOwnFields, SpellsDataType, SpellsKind, SpellsBlocks}
use Rattle.pv_tree.specs.Order.{HasAbove, HasPart}
use Rattle.pv_tree.specs.Nesting.{Part, part, levels_of_body, parts_of_body, most_levels}

-- ---- types, from below

abbrev mutual
  pub levels_of_type : TypeTree → ℕ
  levels_of_type (plain simple) = 1
  levels_of_type unread = 1
  levels_of_type (named name place) = 1
  levels_of_type (array low high of place) = suc (levels_of_type of)
  levels_of_type (structure inner) = suc (levels_of_vars inner)

  pub levels_of_vars : VarTrees → ℕ
  levels_of_vars no_vars = 0
  levels_of_vars (_then_ (var name its ty start place) others) = max (levels_of_type ty)
      (levels_of_vars others)

-- ---- blocks, from below

-- the levels of a declared type; the type of a constant isn't written
abbrev pub levels_of_written : Section → TypeTree → ℕ
levels_of_written section.Const ty = 0
levels_of_written around ty = levels_of_type ty

abbrev pub levels_of_declared : List VarTree → ℕ
levels_of_declared [] = 0
levels_of_declared (var name its ty start place ∷ others) = max (levels_of_written its ty)
    (levels_of_declared others)

abbrev pub levels_of_block : BlockTree → ℕ
levels_of_block block = max (levels_of_declared block.vars) (levels_of_body block.body)

abbrev pub levels_of_blocks : List BlockTree → ℕ
levels_of_blocks [] = 0
levels_of_blocks (block ∷ others) = max (levels_of_block block) (levels_of_blocks others)

-- ---- types, from above: a type that several variables share is one part

-- the parts of one way or of the other
abbrev pub parts_of_either : {A B : Type 0} → A ⊎ B → (A → List Part) → (B → List Part) → List Part
parts_of_either (inl a) one other = one a
parts_of_either (inr b) one other = other b

abbrev mutual
  -- the parts of a type, with so many around it, that these tokens spell
  pub parts_of_type : ℕ → (around : Section) (ty : TypeTree) (tokens : List Lexeme)
      → SpellsType around ty tokens → List Part
  parts_of_type n around (plain simple) tokens d = part n d.token.place ∷ []
  parts_of_type n around unread tokens d = part n d.token.place ∷ []
  parts_of_type n around (named name place) tokens d = part n place ∷ []
  parts_of_type n around (array low high of place) tokens d =
      let elements = d.behind.behind.behind.behind.behind.behind.behind in
      part n place ∷ parts_of_type
      (suc n) around of d.behind.behind.behind.behind.behind.behind.back elements
  parts_of_type n around (structure inner) tokens d =
      part n d.in_front.token.place ∷ parts_of_vars
      (suc n) around inner d.behind.front d.behind.in_front

  pub parts_of_vars : ℕ → (around : Section) (vars : VarTrees) (tokens : List Lexeme)
      → SpellsVars around vars tokens → List Part
  parts_of_vars n around no_vars tokens d = []
  parts_of_vars n around (_then_ (var name its ty start place) others) tokens d =
      parts_of_either d.1.behind
      (λ own. parts_of_type n around ty own.behind.front own.behind.in_front
      ++ parts_of_vars n around others own.behind.behind.behind.back own.behind.behind.behind.behind)
      (λ shared. parts_of_vars n around others shared.1.back shared.1.behind)

-- ---- blocks: nothing is around the type of a declaration

abbrev pub parts_of_section : (around : Section) (vars : List VarTree) (tokens : List Lexeme)
    → SpellsSection around vars tokens → List Part
parts_of_section section.Const vars tokens d = []
parts_of_section section.Input vars tokens d = parts_of_vars 0 section.Input
    (fields vars) d.behind.front d.behind.in_front
parts_of_section section.Output vars tokens d = parts_of_vars 0 section.Output
    (fields vars) d.behind.front d.behind.in_front
parts_of_section section.InOut vars tokens d = parts_of_vars 0 section.InOut
    (fields vars) d.behind.front d.behind.in_front
parts_of_section section.Static vars tokens d = parts_of_vars 0 section.Static
    (fields vars) d.behind.front d.behind.in_front
parts_of_section section.Temp vars tokens d = parts_of_vars 0 section.Temp
    (fields vars) d.behind.front d.behind.in_front

abbrev pub parts_of_sections : {vars : List VarTree} {tokens : List Lexeme}
    → SpellsSections vars tokens → List Part
parts_of_sections no_sections = []
parts_of_sections (sections around inner others vars front back tokens first rest split parts) =
    parts_of_section around inner front first ++ parts_of_sections rest

-- the fields of a data block or a named structure: nothing is around their types
abbrev pub parts_of_own_fields : (vars : List VarTree) (tokens : List Lexeme)
    → SpellsOwnFields vars tokens → List Part
parts_of_own_fields vars tokens d = parts_of_vars 0 section.Static
    (fields vars) d.behind.front d.behind.in_front

abbrev pub parts_of_data_type : (of : Option PlacedName) (vars : List VarTree)
    (tokens : List Lexeme) → SpellsDataType of vars tokens → List Part
parts_of_data_type (Some name) vars tokens d = []
parts_of_data_type None vars tokens d = parts_of_own_fields vars tokens d

-- the parts of a block: those of its declarations, then those of its body
abbrev pub parts_of_kind : (its_language : Language) (its_kind : BlockKind) (block : BlockTree)
    (tokens : List Lexeme)
    → SpellsKind its_language its_kind block tokens → List Part
parts_of_kind its_language kind.Fb block tokens d = parts_of_sections d.1.behind.behind.in_front
    ++ parts_of_body block.body
parts_of_kind its_language kind.Fc block tokens d =
    parts_of_sections d.behind.behind.behind.behind.in_front ++ parts_of_body block.body
parts_of_kind its_language kind.Ob block tokens d = parts_of_sections d.1.behind.behind.in_front
    ++ parts_of_body block.body
parts_of_kind its_language (kind.Db of) block tokens d =
    parts_of_data_type of block.vars d.1.behind.behind.front d.1.behind.behind.in_front
    ++ parts_of_body block.body
parts_of_kind its_language kind.Udt block tokens d =
    parts_of_own_fields block.vars d.1.behind.behind.front d.1.behind.behind.in_front

-- the parts of a source
abbrev pub parts_of_blocks : (its_language : Language) (blocks : List BlockTree)
    (tokens : List Lexeme)
    → SpellsBlocks its_language blocks tokens → List Part
parts_of_blocks its_language [] tokens d = []
parts_of_blocks its_language (block ∷ others) tokens d =
    parts_of_kind its_language block.kind block d.front d.in_front
    ++ parts_of_blocks its_language others d.back d.behind

-- ---- sources that nest too deep

-- no part has as many parts around it as a source may have levels
abbrev pub IsShallow : List Part → Type 0
IsShallow list = HasAbove list most_levels → ⊥

-- the least place at which a part begins that has so many parts around it
pub record IsDeepest (list : List Part) (place : Place) : Type 0 where
  pub there : HasPart list (part most_levels place)
  pub least : (other : Place) → HasPart list (part most_levels other)
      → place.offset ≤ other.offset
