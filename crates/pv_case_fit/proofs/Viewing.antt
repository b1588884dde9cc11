-- The numbers that a case's view has are those of cells.
use Rattle.std.proofs.Common.{◌≡◌, ℕ, ◌<◌, List, length, All, sym, subst}
use Rattle.std.specs.Prelude.{ℤ}
use Rattle.pv_mean.specs.declared.cell.Cell.{Cell}
use Rattle.pv_case_fit.specs.Inputs.{numbers_of, bounds_of}
use Rattle.pv_case_fit.proofs.Numbers.{numbers_below, bounds_below}

pub params_within : (cells : List Cell) (paths : List (List ℕ)) (numbers : List ℕ) → numbers ≡ numbers_of cells paths
    → All (λ n. n < length cells) numbers
params_within cells paths numbers is = subst (All (λ n. n < length cells)) (sym is) (numbers_below cells paths)

pub bounds_within : (cells : List Cell) (bind : List (List ℕ × ℤ)) (bounds : List (ℕ × ℤ)) → bounds ≡ bounds_of cells bind
    → All (λ b. b.0 < length cells) bounds
bounds_within cells bind bounds is = subst (All (λ (b : ℕ × ℤ). b.0 < length cells)) (sym is) (bounds_below cells bind)
