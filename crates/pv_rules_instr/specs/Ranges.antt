-- The ranges that the code holds, as numbers of instructions.
use Rattle.std.specs.Prelude.{◌≡◌, ℕ}
use Rattle.pv_rules_instr.specs.AtRanges.{RangeNumbers, number_at, start_at, end_at}
use Rattle.pv_rules_instr.specs.declared.range.Ranges.{Ranges}

pub record IsRanges (ranges : Ranges) (r : RangeNumbers) : Type 0 where
  pub goals : ranges.goals.items ≡ r.goals
  pub lasts : ranges.lasts.items ≡ r.lasts
  pub starts : (n : ℕ) → number_at ranges.starts.items n ≡ start_at r.lasts n
  pub ends : (n : ℕ) → number_at ranges.ends.items n ≡ end_at r.firsts n
