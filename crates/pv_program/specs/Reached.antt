-- The code of the blocks that calls lead to, by the blocks' numbers.
use Rattle.std.specs.Prelude.{◌≡◌, ℕ, ◌<◌, List, length, slice_get, slice_index_or, Option, Some, None, is_some, if◌then◌else◌}
use Rattle.std.specs.List.{sum_by}
use Rattle.pv_tree.specs.Tree.{BlockTree}
use Rattle.pv_mean.specs.Sources.{Source}
use Rattle.pv_run.specs.declared.program.Called.{Called}
use Rattle.pv_run.specs.declared.program.Code.{Code}
use Rattle.pv_run.specs.declared.program.Program.{Program}
use Rattle.pv_run.specs.Code.{IsCode}
use Rattle.pv_program.specs.Growth.{Coded}

-- where there is code of a block, it is that block's
abbrev pub AreCodes : Source → Program → List (Option Code) → Type 0
AreCodes source p codes = (n : ℕ) (block : BlockTree) (c : Code)
    → slice_get source.project.blocks n ≡ Some block → slice_index_or codes n None ≡ Some c
    → IsCode source p block c

-- there is code of the block that a call runs, if it runs one
abbrev pub IsMade : List (Option Code) → Called → Type 0
IsMade codes call = (n : ℕ) → call.block ≡ Some n → Coded codes n

-- so it is of the calls before a number
abbrev pub AreMade : List (Option Code) → List Called → ℕ → Type 0
AreMade codes calls k = (i : ℕ) (call : Called) → i < k → slice_get calls i ≡ Some call
    → IsMade codes call

-- how many blocks have no code
abbrev pub count_without : List (Option Code) → ℕ
count_without codes = sum_by (λ o. if is_some o then 0 else 1) codes

-- there is code of the block of this number now, and still where there was
pub record Adds (old new : List (Option Code)) (n : ℕ) : Type 0 where
  pub long : length new ≡ length old
  pub now : Coded new n
  pub kept : (m : ℕ) → Coded old m → Coded new m
  pub fewer : slice_index_or old n None ≡ None → count_without new < count_without old
