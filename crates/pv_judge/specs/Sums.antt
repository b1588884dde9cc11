-- How far running sums came. No public clause cites this.
use Rattle.std.specs.Prelude.{◌≡◌, ℕ, ◌^◌, ◌<◌, List, Option, Some}
use Rattle.pv_valid.specs.Validity.{first_past}
use Rattle.pv_judge.specs.declared.words.Sum.{Sum}
use Rattle.pv_judge.specs.declared.words.Sum.TheVariants.{UpTo, Past}

-- the first sum past so many words, where these costs are left
abbrev pub Sums : ℕ → List ℕ → Option ℕ → Sum → Type 0
Sums words costs found (UpTo sum) = (found ≡ first_past words sum costs) × (sum < 2 ^ 80)
Sums words costs found (Past sum) = found ≡ Some sum
