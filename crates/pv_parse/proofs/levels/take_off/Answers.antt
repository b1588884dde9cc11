use Rattle.std.proofs.Common.{◌≡◌, ◌+◌, ◌-◌, ◌<◌, ℕ, List, length, Some, reverse, ap, ◌∙◌, sym, rules}
use Rattle.pv_parse.proofs.LevelLaws.{left_end, left_short}
use Rattle.pv_parse.proofs.levels.take_off.Goals as goal

pub returns-then-len-count : goal.returns-then-len-count
returns-then-len-count c =
    let few : length c.args.stack.now.items < c.args.count = search rules in
    left_short c.args.count c.args.stack.now.items few

pub returns : goal.returns
returns c =
    let sum : c.len-2.result - c.args.count + c.args.count ≡ length c.args.stack.now.items = search rules in
    left_end c.args.count (c.len-2.result - c.args.count) c.args.stack.now.items sum
    ∙ ap (λ (z : List ℕ). Some (reverse z)) (sym c.truncate.ensures.items)
