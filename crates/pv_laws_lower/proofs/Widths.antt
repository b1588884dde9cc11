-- Addresses as wide as their types are those of a bit, a byte, a word or a double word.
use Rattle.std.proofs.Common.{◌≡◌, ◌⊎◌, inl, inr, ℕ, Bool as Truth, true, false, refl, sym, subst}
use Rattle.std.specs.Prelude.{nat_le, if◌then◌else◌}
use Rattle.pv_word.specs.declared.types.Ty.TheVariants.{Bool, Byte, Word, Dword}
use Rattle.pv_word.specs.Types.{width_of}
use Rattle.pv_tree.specs.declared.expr.Root.TheVariants.{Local, Named, Area}
use Rattle.pv_tree.specs.Things.{type_of_bits}
use Rattle.pv_tree.specs.Tree.{OperandTree, operand}
use Rattle.pv_laws_room.specs.Reached.{IsShortOperand}
use Rattle.pv_laws_lower.specs.Fit.{IsWide}
use Rattle.pv_laws_lower.specs.Patterns.{WidthsAreShort}

abbrev IsShort : ℕ → Type 0
IsShort bits = (bits ≡ 1) ⊎ ((bits ≡ 8) ⊎ ((bits ≡ 16) ⊎ (bits ≡ 32)))

as_wide : (bits n : ℕ) → bits ≡ n → n ≡ width_of (type_of_bits n) → bits ≡ width_of (type_of_bits bits)
as_wide bits n e own = subst (λ (b : ℕ). b ≡ width_of (type_of_bits b)) (sym e) own

bits_wide : (bits : ℕ) → IsShort bits → bits ≡ width_of (type_of_bits bits)
bits_wide bits (inl e) = as_wide bits 1 e refl
bits_wide bits (inr (inl e)) = as_wide bits 8 e refl
bits_wide bits (inr (inr (inl e))) = as_wide bits 16 e refl
bits_wide bits (inr (inr (inr e))) = as_wide bits 32 e refl

bits_short : (bits : ℕ) → bits ≡ width_of (type_of_bits bits) → IsShort bits
bits_short bits e = lead (nat_le bits 1) (nat_le bits 8) (nat_le bits 16) e
  where
    lead : (a b c : Truth) → bits ≡ width_of (if a then Bool else (if b then Byte else (if c then Word else Dword))) → IsShort bits
    lead true b c f = inl f
    lead false true c f = inr (inl f)
    lead false false true f = inr (inr (inl f))
    lead false false false f = inr (inr (inr f))

pub short_wide : (o : OperandTree) → IsShortOperand o → IsWide o
short_wide (operand (Local name hash at) more place) h = tt
short_wide (operand (Named name) more place) h = tt
short_wide (operand (Area area bits byte bit) more place) h = bits_wide bits h

wide_short : (o : OperandTree) → IsWide o → IsShortOperand o
wide_short (operand (Local name hash at) more place) h = tt
wide_short (operand (Named name) more place) h = tt
wide_short (operand (Area area bits byte bit) more place) h = bits_short bits h

pub widths_are_short : WidthsAreShort
widths_are_short = record { wide = short_wide; short = wide_short }
