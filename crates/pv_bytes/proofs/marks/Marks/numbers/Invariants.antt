use Rattle.std.proofs.Common.{◌≡◌, ◌++◌, drop}
use Rattle.pv_bytes.specs.Numbers.{numbers_from}
use Rattle.pv_bytes.proofs.marks.Marks.numbers.Given as goal

abbrev pub invariant-loop-flag : goal.invariant-loop-flag
invariant-loop-flag l = record {
  at : l.n ≡ l.flag-index;
  numbers : l.numbers.items ++ numbers_from l.n (drop l.flag-index l.flag-items) ≡ numbers_from 0 l.flag-items;
}
