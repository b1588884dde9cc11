-- Where the variables of a block at work lie, in the code.
use Rattle.std.specs.Prelude.{◌≡◌, ℕ, ◌+◌, ◌-◌, ◌<◌, slice_index_or, nat_lt, cond}
use Rattle.pv_call_terms.specs.declared.places.Places.{Places}
use Rattle.pv_call_terms.specs.Numbers.{narrow}

abbrev pub place_of : Places → ℕ → ℕ
place_of p x = cond (nat_lt x p.shared) (slice_index_or p.bound.items x 0)
    (cond (nat_lt x p.own) (narrow (p.shared_at + (x - p.shared))) (narrow (p.own_at + (x - p.own))))

-- the places of the entry, which has b bound and s shared variables
pub record IsEntry (b s : ℕ) (p : Places) : Type 0 where
  pub numbers : (x : ℕ) → x < b → slice_index_or p.bound.items x 0 ≡ x
  pub shared : p.shared ≡ b
  pub shared_at : p.shared_at ≡ b
  pub own : p.own ≡ b + s
  pub own_at : p.own_at ≡ narrow (b + s)

-- of a block that has so many, whose bound ones are the caller's from `instance` on, and whose own ones lie from `base` on
pub record IsCallee (caller : Places) (instance b s base : ℕ) (p : Places) : Type 0 where
  pub passed : (x : ℕ) → x < b → slice_index_or p.bound.items x 0 ≡ place_of caller (instance + x)
  pub shared : p.shared ≡ b
  pub shared_at : p.shared_at ≡ caller.shared_at
  pub own : p.own ≡ b + s
  pub own_at : p.own_at ≡ base
