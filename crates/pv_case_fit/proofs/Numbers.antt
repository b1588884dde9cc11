-- Numbers of inputs are those of cells.
use Rattle.std.proofs.Common.{◌≡◌, ℕ, suc, ◌+◌, ◌<◌, List, [], ◌∷◌, length, Bool, true, false, cond, Option, Some, None, All, refl, arith}
use Rattle.std.proofs.lemmas.List.Elements.{All-nil, All-cons}
use Rattle.std.specs.Prelude.{ℤ, option_map, option_and_then, slice_get}
use Rattle.std.specs.List.{cons_option}
use Rattle.pv_place.specs.Roles.{is_input}
use Rattle.pv_mean.specs.declared.cell.Cell.{Cell}
use Rattle.pv_mean.specs.Paths.{has_path, number_from, number_of_path}
use Rattle.pv_case_fit.specs.Inputs.{input_where, number_of_input, numbers_of, bounds_of}

same : {A : Type 0} (x y : A) → Some x ≡ Some y → x ≡ y
same x y e = cc

number_below : (k : ℕ) (cells : List Cell) (path : List ℕ) (n : ℕ) → number_from k cells path ≡ Some n → n < k + length cells
number_below k [] path n e = absurd (cc (e))
number_below k (c ∷ cs) path n e = lead (has_path path c) (λ h. number_below (k + 1) cs path n h) e
  where
    lead : (b : Bool) → (number_from (k + 1) cs path ≡ Some n → n < k + 1 + length cs) → cond b (Some k) (number_from (k + 1) cs path) ≡ Some n
        → n < k + suc (length cs)
    lead true rest h = omega (arith, same k n h)
    lead false rest h = omega (arith, rest h)

input_is : (cell : Option Cell) (m n : ℕ) → input_where cell m ≡ Some n → m ≡ n
input_is None m n e = absurd (cc (e))
input_is (Some cell) m n e = lead (is_input cell.role) e
  where
    lead : (b : Bool) → cond b (Some m) None ≡ Some n → m ≡ n
    lead true h = same m n h
    lead false h = absurd (cc (h))

pub input_below : (cells : List Cell) (path : List ℕ) (n : ℕ) → number_of_input cells path ≡ Some n → n < length cells
input_below cells path n e = lead (number_of_path cells path) refl e
  where
    lead : (o : Option ℕ) → number_of_path cells path ≡ o → option_and_then (λ m. input_where (slice_get cells m) m) o ≡ Some n → n < length cells
    lead None h e = absurd (cc (e))
    lead (Some m) h e = omega (arith, number_below 0 cells path m h, input_is (slice_get cells m) m n e)

pub numbers_below : (cells : List Cell) (paths : List (List ℕ)) → All (λ n. n < length cells) (numbers_of cells paths)
numbers_below cells [] = All-nil (λ n. n < length cells)
numbers_below cells (path ∷ more) = lead (number_of_input cells path) (numbers_below cells more) refl
  where
    lead : (o : Option ℕ) → All (λ n. n < length cells) (numbers_of cells more) → number_of_input cells path ≡ o
        → All (λ n. n < length cells) (cons_option o (numbers_of cells more))
    lead None rest h = rest
    lead (Some n) rest h = All-cons (λ m. m < length cells) n (numbers_of cells more) (input_below cells path n h) rest

pub bounds_below : (cells : List Cell) (bind : List (List ℕ × ℤ)) → All (λ b. b.0 < length cells) (bounds_of cells bind)
bounds_below cells [] = All-nil (λ (b : ℕ × ℤ). b.0 < length cells)
bounds_below cells (b ∷ more) = lead (number_of_input cells b.0) (bounds_below cells more) refl
  where
    lead : (o : Option ℕ) → All (λ (x : ℕ × ℤ). x.0 < length cells) (bounds_of cells more) → number_of_input cells b.0 ≡ o
        → All (λ (x : ℕ × ℤ). x.0 < length cells) (cons_option (option_map (λ n. (n, b.1)) o) (bounds_of cells more))
    lead None rest h = rest
    lead (Some n) rest h =
        All-cons (λ (x : ℕ × ℤ). x.0 < length cells) (n, b.1) (bounds_of cells more) (input_below cells b.0 n h) rest
