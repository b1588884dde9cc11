-- Questions of which the first that fails is one.
use Rattle.std.specs.Prelude.{◌≡◌, ℕ, List}
use Rattle.pv_case.specs.declared.fault.Kind.{Kind}
use Rattle.pv_case.specs.Checks.{Checks}

-- where all is kept nothing is broken, and one rule at most is the first that is, by one member
pub record IsExact (checks : Checks) : Type 0 where
  pub apart : (kind : Kind) (field : List ℕ) → checks.keeps → checks.breaks kind field → ⊥
  pub one : (kind other : Kind) (field name : List ℕ) → checks.breaks kind field → checks.breaks other name
      → (kind ≡ other) × (field ≡ name)
