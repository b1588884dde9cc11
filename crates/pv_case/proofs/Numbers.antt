-- Numbers within wider bounds.
use Rattle.std.proofs.Common.{◌≡◌, Bool, true, false, ◌&&◌, IsTrue, true≢false, Option, Some, None, refl, sym}
use Rattle.std.specs.Prelude.{ℤ, int_le}
use Rattle.pv_case.specs.Fields.{lies}

both : (p q : Bool) → p ≡ true → q ≡ true → (p && q) ≡ true
both true q e d = d
both false q e d = absurd (true≢false (sym e))

first : (p q : Bool) → (p && q) ≡ true → p ≡ true
first true q e = refl
first false q e = absurd (true≢false (sym e))

second : (p q : Bool) → (p && q) ≡ true → q ≡ true
second true q e = e
second false q e = absurd (true≢false (sym e))

-- bounds that are further apart
pub wider : (least most low high : ℤ) (o : Option ℤ) → ((n : ℤ) → int_le least n ≡ true → int_le low n ≡ true)
    → ((n : ℤ) → int_le n most ≡ true → int_le n high ≡ true) → IsTrue (lies least most o) → IsTrue (lies low high o)
wider least most low high None below above e = e
wider least most low high (Some n) below above e =
    both (int_le low n) (int_le n high) (below n (first (int_le least n) (int_le n most) e)) (above n (second (int_le least n) (int_le n most) e))
