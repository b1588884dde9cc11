-- A partial assignment as a checker keeps it: a mark for each literal, and a list of those that are marked.
use Rattle.std.specs.Prelude.{◌≡◌, ℕ, ◌+◌, ◌*◌, Bool, false, List, length, slice_index_or}
use Rattle.pv_cnf.specs.Clause.{has_outside, has_double}
use Rattle.pv_log.specs.Propagation.{is_false}

-- the literals made false so far, of the variables from 1 to `variables`
pub record Partial : Type 0 where
  pub variables : ℕ
  pub falses : List ℕ

-- The marks say which literals are in the list, and the list has no variable twice.
pub record Agree (variables : ℕ) (marks : List Bool) (falses : List ℕ) : Type 0 where
  pub size : length marks ≡ 2 * variables + 2
  pub marked : (lit : ℕ) → slice_index_or marks lit false ≡ is_false falses lit
  pub inside : has_outside variables falses ≡ false
  pub distinct : has_double falses ≡ false
