-- How large the values of tokens are.
use Rattle.std.proofs.Common.{◌≡◌, ℕ, ◌^◌, ◌<◌, ℤ, pos, Bool, true, false, List, arith, refl, subst, sym, to_z, of_z}
use Rattle.std.specs.Int.{w128}
use Rattle.std.proofs.lemmas.Int.{ints, to_z-of_z}
use Rattle.std.specs.Prelude.{FitsSigned, neg_ℤ, ◌≤ℤ◌, ◌-ℤ◌, nat_lt, if◌then◌else◌}
use Rattle.pv_lex.specs.declared.token.Kind.{Kind}
use Rattle.pv_lex.specs.declared.token.Kind.TheVariants as k
use Rattle.pv_lex.specs.Values.{token_value, number_value, magnitude, is_negative}

-- the numbers with a magnitude of at most 64 bits
abbrev pub IsWide : ℤ → Type 0
IsWide v = (neg_ℤ (pos (2 ^ 64)) ≤ℤ v) × (v ≤ℤ pos (2 ^ 64))

signed_is_wide : (negative : Bool) (n : ℕ) → n < 2 ^ 64 → IsWide (if negative then pos 0 -ℤ pos n else pos n)
signed_is_wide true n h = omega (arith, ints, h)
signed_is_wide false n h = omega (arith, ints, h)

number_is_wide : (bytes : List ℕ) (fits : Bool) → nat_lt (magnitude bytes) (2 ^ 64) ≡ fits
    → IsWide (if fits then number_value bytes else pos 0)
number_is_wide bytes true e = unfold number_value in signed_is_wide (is_negative bytes) (magnitude bytes) (grind (arith, e))
number_is_wide bytes false e = omega (arith, ints)

pub token_value_is_wide : (kind : Kind) (bytes : List ℕ) → IsWide (token_value kind bytes)
token_value_is_wide k.Number bytes = number_is_wide bytes (nat_lt (magnitude bytes) (2 ^ 64)) refl
token_value_is_wide k.Word bytes = omega (arith, ints)
token_value_is_wide k.Quoted bytes = omega (arith, ints)
token_value_is_wide k.Real bytes = omega (arith, ints)
token_value_is_wide k.Address bytes = omega (arith, ints)
token_value_is_wide k.Sign bytes = omega (arith, ints)
token_value_is_wide k.End bytes = omega (arith, ints)

-- as the code reads one
pub read_is_wide : (v w : ℤ) → v ≡ w → IsWide w → neg_ℤ (pos (2 ^ 64)) ≤ℤ to_z w128 (of_z w128 v)
read_is_wide v w e h =
    let wide : IsWide v = subst (λ (z : ℤ). IsWide z) (sym e) h in
    let fits : FitsSigned w128 v = omega (arith, ints, wide) in
    subst (λ (z : ℤ). neg_ℤ (pos (2 ^ 64)) ≤ℤ z) (sym (to_z-of_z w128 v fits)) wide.0
