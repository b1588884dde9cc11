use Rattle.std.proofs.Common.{◌≡◌, ◌<◌, length, refl, sym, ap, subst, ◌∙◌}
use Rattle.pv_rules_instr.specs.AtRanges.{lasts_of, firsts_from, start_at, end_at}
use Rattle.pv_rules_instr.proofs.HeldRanges.{is_ranges}
use Rattle.pv_rules_instr.proofs.range.ranges_of_goals.Goals as goal

pub returns : goal.returns
returns c =
    let goals = c.args.goals.items in
    let lasts : c.in_ok-lasts.lasts.items ≡ lasts_of goals = c.in_ok-lasts.ensures ∙ ap lasts_of c.as_slice.ensures.value in
    let seen : c.as_slice-4.result.now ≡ lasts_of goals = c.as_slice-4.ensures.value ∙ lasts in
    is_ranges (record { goals = c.args.goals; lasts = c.in_ok-lasts.lasts; starts = c.in_ok-starts.starts; ends = c.in_ok-ends.ends }) goals
    c.in_ok-firsts.firsts.items refl lasts
    (c.in_ok-firsts.ensures ∙ ap (λ l. firsts_from l 0 c.as_slice-3.result.now) (c.as_slice-2.ensures.value ∙ lasts)
    ∙ ap (firsts_from (lasts_of goals) 0) c.as_slice-3.ensures.value)
    (c.in_ok-starts.ensures.length ∙ ap length seen)
    (λ n lt. c.in_ok-starts.ensures.starts n (subst (λ l. n < length l) (sym seen) lt) ∙ ap (λ l. start_at l n) seen)
    (λ n. c.in_ok-ends.ensures n ∙ ap (λ l. end_at l n) c.as_slice-5.ensures.value)
