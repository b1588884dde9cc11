-- What is so of patterns as terms: an expression over the entered block's names that reads no brief cell, by visible cells alone. A scan's
-- beginning and its end are such cells, and their valuation is any that has them, whatever its other variables are.
use Rattle.std.specs.Prelude.{◌≡◌, ℕ, ◌<◌, pos, List, [], slice_index_or, Contains, false}
use Rattle.std.specs.List.{AllByRecursion}
use Rattle.pv_word.specs.declared.types.Ty.{Ty}
use Rattle.pv_word.specs.declared.types.Ty.TheVariants.{Bool}
use Rattle.pv_place.specs.Ranges.{AreWithin}
use Rattle.pv_tree.specs.Tree.{ExprTree, OperandTree, BlockTree}
use Rattle.pv_tree.specs.LiteralTypes.{nothing}
use Rattle.pv_mean.specs.Sources.{Source}
use Rattle.pv_mean.specs.Frames.{Image, Input, visible_len, visible_ranges, image_ranges, input_ranges}
use Rattle.pv_mean.specs.Endings.{ended}
use Rattle.pv_mean.specs.Correct.{BindsInRange}
use Rattle.pv_mean.specs.Scans.{Visible, scan, pattern_value}
use Rattle.pv_flow.specs.Terms.{Valuation, holds_in}
use Rattle.pv_pattern.specs.Patterns.{is_true_of}
use Rattle.pv_pattern.specs.Texts.{reads_brief, KeepsRules, Says, HaveCells}
use Rattle.pv_lower.specs.Lowered.{Lowered, scope_of, lowered}
use Rattle.pv_laws_room.specs.Reached.{IsShortOperand}
use Rattle.pv_laws_lower.specs.Fit.{IsWide, IsLaidOut, IsFit}
use Rattle.pv_laws_lower.specs.Agrees.{outcome}

-- the first variables are these visible cells
abbrev pub Shows : Source → Visible → Valuation → Type 0
Shows source values w = (n : ℕ) → n < visible_len source.cells → w n ≡ slice_index_or values n (pos 0)

-- each of its type
pub record HasVisible (source : Source) (values : Visible) (w : Valuation) : Type 0 where
  pub within : AreWithin (visible_ranges source.cells) values
  pub are : Shows source values w

-- an expression of this type over the entered block's names that reads no brief cell
pub record IsOfVisible (source : Source) (e : ExprTree) (ty : Ty) : Type 0 where
  pub laid : IsLaidOut source source.entry
  pub fit : IsFit source source.entry nothing e ty
  pub visible : reads_brief (scope_of source source.entry) e ≡ false

abbrev pub pattern_lowered : Source → ExprTree → Lowered
pattern_lowered source e = lowered source source.entry nothing e

pub record PatternsHold : Type 0 where
  -- it traps exactly where its first check that is true is that trap, and else has its term's value
  pub value : (source : Source) (e : ExprTree) (ty : Ty) (values : Visible) (w : Valuation) → IsOfVisible source e ty
      → HasVisible source values w → pattern_value source values e ≡ outcome w (pattern_lowered source e)
  -- where it breaks no rule it makes no check, so that it never traps
  pub unchecked : (source : Source) (e : ExprTree) (ty : Ty) → IsOfVisible source e ty → KeepsRules (scope_of source source.entry) e
      → (pattern_lowered source e).checks ≡ []
  -- and is true exactly where its term is
  pub truth : (source : Source) (e : ExprTree) (ty : Ty) (values : Visible) (w : Valuation) → IsOfVisible source e ty
      → KeepsRules (scope_of source source.entry) e → HasVisible source values w
      → is_true_of source values e ≡ holds_in w (pattern_lowered source e).term

-- what one of a pattern's texts says fits, where each byte that they name has a cell
abbrev pub SaidAreFit : Type 0
SaidAreFit = (source : Source) (block : BlockTree) (texts : List (List ℕ)) (text : List ℕ) (e : ExprTree)
    → HaveCells source.bytes texts → Contains texts text → Says (scope_of source block) text e → IsFit source block nothing e Bool

-- an address is as wide as its type exactly where it is one of a bit, a byte, a word or a double word
pub record WidthsAreShort : Type 0 where
  pub wide : (o : OperandTree) → IsShortOperand o → IsWide o
  pub short : (o : OperandTree) → IsWide o → IsShortOperand o

-- a valuation has the visible cells of a scan's beginning, and those of its end, where its first variables are they: they lie in their types
pub record ScansAreSeen : Type 0 where
  pub beginning : (source : Source) (image : Image) (input : Input) (w : Valuation) → AllByRecursion BindsInRange source.cells
      → AreWithin (image_ranges source.cells) image → AreWithin (input_ranges source.cells) input
      → Shows source (scan source image input).beginning w → HasVisible source (scan source image input).beginning w
  pub end : (source : Source) (image : Image) (input : Input) (values : Visible) (w : Valuation) → AllByRecursion BindsInRange source.cells
      → AreWithin (image_ranges source.cells) image → AreWithin (input_ranges source.cells) input
      → (scan source image input).end ≡ ended values → Shows source values w → HasVisible source values w
