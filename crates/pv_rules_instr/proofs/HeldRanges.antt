-- The ranges that the code holds are those of where the instructions jump to.
use Rattle.std.proofs.Common.{◌≡◌, ℕ, ◌<◌, ◌≤◌, refl, sym, ap, ◌∙◌, arith, length, Option, Some, None, Bool, true, false}
use Rattle.std.specs.Prelude.{nat_lt}
use Rattle.std.proofs.lemmas.Bool.Decides.{nat_tests}
use Rattle.std.proofs.lemmas.List.{get_or_past}
use Rattle.pv_rules_instr.specs.AtRanges.{Numbers, number_at, lasts_of, firsts_from, numbers_of_goals, start_at, end_at}
use Rattle.pv_rules_instr.specs.Ranges.{IsRanges}
use Rattle.pv_rules_instr.specs.declared.range.Ranges.{Ranges}
use Rattle.pv_rules_instr.proofs.RangeLaws.{around_start}
use Rattle.pv_rules_instr.proofs.RangeNumbers.{range_of_last, inside, lasts_of_long}

less : (a b : ℕ) → nat_lt a b ≡ true → a < b
less a b h = grind (arith, nat_tests)

not_less : (a b : ℕ) → nat_lt a b ≡ false → b ≤ a
not_less a b h = grind (arith, nat_tests)

-- behind the last instruction there is no range
start_beyond : (goals : Numbers) (n : ℕ) → length goals ≤ n → start_at (lasts_of goals) n ≡ None
start_beyond goals n le = by (start_at (lasts_of goals) n) refl
  where
    by : (o : Option ℕ) → start_at (lasts_of goals) n ≡ o → o ≡ None
    by None e = refl
    by (Some f) e =
        let a = around_start goals n f e in
        let x = range_of_last goals f a.0 a.1.range in
        let lt = inside goals a.0 f x.goes in
        let up = a.1.ends in absurd (omega (arith, lt, up, le))

pub is_ranges : (ranges : Ranges) (goals firsts : Numbers) → ranges.goals.items ≡ goals → ranges.lasts.items ≡ lasts_of goals
    → firsts ≡ firsts_from (lasts_of goals) 0 goals → length ranges.starts.items ≡ length (lasts_of goals)
    → ((n : ℕ) → n < length (lasts_of goals) → number_at ranges.starts.items n ≡ start_at (lasts_of goals) n)
    → ((n : ℕ) → number_at ranges.ends.items n ≡ end_at firsts n) → IsRanges ranges (numbers_of_goals goals)
is_ranges ranges goals firsts has_goals has_lasts has_firsts long starts ends = record {
  goals = has_goals;
  lasts = has_lasts;
  starts = λ n. by n (nat_lt n (length (lasts_of goals))) refl;
  ends = λ n. ends n ∙ ap (λ l. end_at l n) has_firsts;
}
  where
    by : (n : ℕ) (b : Bool) → nat_lt n (length (lasts_of goals)) ≡ b → number_at ranges.starts.items n ≡ start_at (lasts_of goals) n
    by n true on = starts n (less n (length (lasts_of goals)) on)
    by n false off =
        let le = not_less n (length (lasts_of goals)) off in
        let all = lasts_of_long goals in
        let past : length ranges.starts.items ≤ n = omega (arith, long, le) in
        let beyond : length goals ≤ n = omega (arith, all, le) in
        get_or_past ranges.starts.items n None past ∙ sym (start_beyond goals n beyond)
