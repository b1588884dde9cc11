-- What the parts of a search say.
use Rattle.std.specs.Prelude.{◌≡◌, ℕ, ◌+◌, ◌*◌, ◌<◌, ◌≤◌, false, List, [], ◌∷◌, ◌++◌, length, take}
use Rattle.pv_log.specs.Propagation.{is_false}
use Rattle.pv_watch.specs.Trail.{Path, Rise, LastIs}
use Rattle.pv_watch.specs.Watched.{IsReady}

-- a variable without a value
pub record IsFree (variables : ℕ) (falses : List ℕ) (v : ℕ) : Type 0 where
  pub from_one : 0 < v
  pub to_last : v ≤ variables
  pub not_false : is_false falses (2 * v) ≡ false
  pub not_true : is_false falses (2 * v + 1) ≡ false

-- each variable has a value
abbrev pub AllSet : ℕ → List ℕ → Type 0
AllSet variables falses = (v : ℕ) → IsFree variables falses v → ⊥

-- the last decision was taken back, and what came after it
pub record StepsBack (old new : Path) : Type 0 where
  pub variables : new.variables ≡ old.variables
  pub starts : old.starts ≡ new.starts ++ length new.falses ∷ []
  pub falses : new.falses ≡ take (length new.falses) old.falses
  pub rise : Rise old.starts (length old.falses)
  pub ready : (clauses : List (List ℕ)) → IsReady clauses old → IsReady clauses new

-- the decisions but the first `keep` were taken back
pub record GoesBack (keep : ℕ) (old new : Path) : Type 0 where
  pub variables : new.variables ≡ old.variables
  pub starts : new.starts ≡ take keep old.starts
  pub falses : new.falses ≡ take (length new.falses) old.falses
  pub shorter : length new.falses ≤ length old.falses
  -- where one was, what was false before the last one is left at most
  pub low : keep < length old.starts → (s : ℕ) → LastIs old.starts s → length new.falses ≤ s
  pub rise : Rise new.starts (length new.falses)
  pub ready : (clauses : List (List ℕ)) → IsReady clauses old → IsReady clauses new
