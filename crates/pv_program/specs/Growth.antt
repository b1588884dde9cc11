-- Programs that grow: what stands in an array stays where it is.
use Rattle.std.specs.Prelude.{◌≡◌, ℕ, ◌+◌, ◌≤◌, List, [], ◌∷◌, ◌++◌, length, slice_get, slice_index_or, Option, Some, None}
use Rattle.pv_run.specs.declared.program.Called.{Called}
use Rattle.pv_run.specs.declared.program.Code.{Code}
use Rattle.pv_run.specs.declared.program.Program.{Program}

-- there is code of the block of this number
abbrev pub Coded : List (Option Code) → ℕ → Type 0
Coded codes n = (c : Code) × (slice_index_or codes n None ≡ Some c)

abbrev pub HasCode : Program → ℕ → Type 0
HasCode p n = Coded p.blocks.items n

-- what stood at a number stands there still
pub record Keeps {A : Type 0} (old new : List A) : Type 0 where
  pub at : (n : ℕ) (a : A) → slice_get old n ≡ Some a → slice_get new n ≡ Some a

-- more was put behind what stood there
pub record Continues {A : Type 0} (old new : List A) : Type 0 where
  pub more : List A
  pub is : new ≡ old ++ more

-- everything that stood in a program stands there still
pub record Extends (old new : Program) : Type 0 where
  pub stmts : Keeps old.stmts.items new.stmts.items
  pub longer : length old.stmts.items ≤ length new.stmts.items
  pub instrs : Continues old.instrs.items new.instrs.items
  pub ranges : old.ranges ≤ new.ranges
  pub arms : Keeps old.arms.items new.arms.items
  pub branches : Keeps old.branches.items new.branches.items
  pub choices : Keeps old.choices.items new.choices.items
  pub calls : Keeps old.calls.items new.calls.items
  pub inward : Keeps old.inward.items new.inward.items
  pub outward : Keeps old.outward.items new.outward.items
  pub values : Keeps old.values.items new.values.items
  pub targets : Keeps old.targets.items new.targets.items
  pub scratch : old.scratch ≤ new.scratch
  pub widest : old.widest ≤ new.widest
  pub types : new.types.items ≡ old.types.items
  pub bound : new.bound ≡ old.bound
  pub entry : new.entry ≡ old.entry
  -- a block that one of the calls runs has code still
  pub coded : (c : ℕ) (call : Called) (n : ℕ) → slice_get old.calls.items c ≡ Some call
      → call.block ≡ Some n → HasCode old n → HasCode new n

-- these stand in an array from a number up to before another
pub data Stands {A : Type 0} (all : List A) : ℕ → ℕ → List A → Type 0 where
  none_stands : {n : ℕ} → Stands all n n []
  stands_then : {n m : ℕ} {a : A} {more : List A} → slice_get all n ≡ Some a
      → Stands all (n + 1) m more
      → Stands all n m (a ∷ more)
