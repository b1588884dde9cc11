-- Numbers that are counted up to a bound: what is the same up to it stays so in sums and products, and so in the sizes of types.
use Rattle.std.proofs.Common.{◌≡◌, inl, inr, ℕ, zero, suc, ◌+◌, ◌*◌, ◌≤◌, List, Option, Some, None, refl, sym, ap, ◌∙◌, arith}
use Rattle.std.specs.Prelude.{◌⊎◌, min}
use Rattle.std.proofs.Math.Nat.{min-eq_right, mul_comm}
use Rattle.std.proofs.lemmas.Nat.{mul-le}
use Rattle.pv_types.specs.declared.declaration.Section.{Section}
use Rattle.pv_types.specs.Tree.{TypeTree, plain, array, structure, named, unread, var, VarTrees, no_vars, _then_}
use Rattle.pv_types.specs.Named.{AllNamed, AllNamedIn}
use Rattle.pv_types.specs.Leaves.{Around, section_within, count_between}
use Rattle.pv_types.specs.Sizes.{number_where, size_of_type, size_of_fields, size_of_vars}
use Rattle.pv_mean.specs.declared.count.TheConstants.{BEYOND}
use Rattle.pv_mean.specs.Counts.{capped}

-- ---- numbers

-- both are the same, or both reach the bound
alike : (b x y : ℕ) → min x b ≡ min y b → (x ≡ y) ⊎ ((b ≤ x) × (b ≤ y))
alike zero x y e = inr (omega arith, omega arith)
alike (suc b) zero zero e = inl refl
alike (suc b) zero (suc y) e = absurd (omega (arith, e))
alike (suc b) (suc x) zero e = absurd (omega (arith, e))
alike (suc b) (suc x) (suc y) e =
    elim (alike b x y (omega (arith, e))) [
      | inl same ↦ inl (ap suc same)
      | inr big ↦ inr (omega (arith, big.0), omega (arith, big.1))
    ]

sum_alike : (b x y u v : ℕ) → min x b ≡ min y b → min u b ≡ min v b → min (x + u) b ≡ min (y + v) b
sum_alike b x y u v e f = omega (arith, e, f)

-- where one factor reaches the bound, so does the product, unless the other is 0
big_product : (b x y u : ℕ) → b ≤ x → b ≤ y → min (x * u) b ≡ min (y * u) b
big_product b x y zero p q = let e : x * 0 ≡ y * 0 = omega arith in ap (λ z. min z b) e
big_product b x y (suc u) p q =
    let l = mul-le b 1 x (suc u) p (omega arith) in
    let r = mul-le b 1 y (suc u) q (omega arith) in min-eq_right (omega (arith, l)) ∙ sym (min-eq_right (omega (arith, r)))

one_side : (b x y u : ℕ) → min x b ≡ min y b → min (x * u) b ≡ min (y * u) b
one_side b x y u e = elim (alike b x y e) [ inl same ↦ ap (λ z. min (z * u) b) same | inr big ↦ big_product b x y u big.0 big.1 ]

product_alike : (b x y u v : ℕ) → min x b ≡ min y b → min u b ≡ min v b → min (x * u) b ≡ min (y * v) b
product_alike b x y u v e f =
    one_side b x y u e ∙ ap (λ z. min z b) (mul_comm y u) ∙ one_side b u v y f ∙ ap (λ z. min z b) (mul_comm v y)

pub capped_twice : (n : ℕ) → capped (capped n) ≡ capped n
capped_twice n = omega arith

pub capped_sum : (x y u v : ℕ) → capped x ≡ capped y → capped u ≡ capped v → capped (x + u) ≡ capped (y + v)
capped_sum x y u v e f = sum_alike BEYOND x y u v e f

pub capped_product : (x y u v : ℕ) → capped x ≡ capped y → capped u ≡ capped v → capped (x * u) ≡ capped (y * v)
capped_product x y u v e f = product_alike BEYOND x y u v e f

-- what the code's sum and product are of numbers that are counted so
pub sum_of_capped : (r a b x y : ℕ) → r ≡ capped (a + b) → a ≡ capped x → b ≡ capped y → r ≡ capped (x + y)
sum_of_capped r a b x y is p q =
    is ∙ capped_sum a x b y (ap capped p ∙ capped_twice x) (ap capped q ∙ capped_twice y)

pub product_of_capped : (r a b x y : ℕ) → r ≡ capped (a * b) → a ≡ capped x → b ≡ capped y → r ≡ capped (x * y)
product_of_capped r a b x y is p q =
    is ∙ capped_product a x b y (ap capped p ∙ capped_twice x) (ap capped q ∙ capped_twice y)

-- ---- sizes by two countings that are the same up to the bound

capped_where : (o : Option Section) (m n : ℕ) → capped m ≡ capped n → capped (number_where o m) ≡ capped (number_where o n)
capped_where None m n e = refl
capped_where (Some s) m n e = e

module _ (f g : List ℕ → ℕ) where
  abbrev Alike : List ℕ → Type 0
  Alike key = capped (f key) ≡ capped (g key)

  mutual
    pub capped_type : (t : TypeTree) → AllNamed Alike t → capped (size_of_type f t) ≡ capped (size_of_type g t)
    capped_type (plain ty) same = refl
    capped_type (array low high of place) same =
        capped_product (count_between low high) (count_between low high) (size_of_type f of) (size_of_type g of) refl (capped_type of same)
    capped_type (structure vars) same = capped_fields vars same
    capped_type (named name place) same = same
    capped_type unread same = refl

    capped_fields : (vars : VarTrees) → AllNamedIn Alike vars → capped (size_of_fields f vars) ≡ capped (size_of_fields g vars)
    capped_fields no_vars same = refl
    capped_fields (_then_ (var name section ty start place) xs) same =
        capped_sum (size_of_type f ty) (size_of_type g ty) (size_of_fields f xs) (size_of_fields g xs) (capped_type ty same.0)
        (capped_fields xs same.1)

  pub capped_vars : (around : Around) (vars : VarTrees) → AllNamedIn Alike vars
      → capped (size_of_vars f around vars) ≡ capped (size_of_vars g around vars)
  capped_vars around no_vars same = refl
  capped_vars around (_then_ (var name section ty start place) xs) same =
      capped_sum (number_where (section_within around section) (size_of_type f ty))
      (number_where (section_within around section) (size_of_type g ty)) (size_of_vars f around xs) (size_of_vars g around xs)
      (capped_where (section_within around section) (size_of_type f ty) (size_of_type g ty) (capped_type ty same.0))
      (capped_vars around xs same.1)
