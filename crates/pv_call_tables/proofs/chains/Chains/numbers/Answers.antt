use Rattle.std.proofs.Common.{rules, ℕ, ◌-◌, ◌<◌, List, length, refl, ap, ◌∙◌}
use Rattle.std.specs.Prelude.{slice_index_or}
use Rattle.pv_call_tables.proofs.ChainLaws.{along_step, along_ends}
use Rattle.pv_call_tables.proofs.chains.Chains.numbers.Goals as goal

pub loop-preserved : goal.loop-preserved
loop-preserved c =
    let lt : c.loop.counter < length c.args.self.now.nexts.items = search rules in
    along_step c.args.self.now.nexts.items (length c.args.self.now.nexts.items) c.loop.counter c.loop.left c.link_at-left.result
    (c.loop.left - 1) c.loop.made.items c.push.new.self.items _ lt c.if-left-eq0.false refl c.in_ok-push.ensures.items
    (c.link_at-left.ensures ∙ ap (λ (ns : List ℕ). slice_index_or ns (c.loop.left - 1) 0) c.as_slice-nexts.ensures.value)
    c.loop.invariant

pub returns-then-left-eq0 : goal.returns-then-left-eq0
returns-then-left-eq0 c =
    along_ends c.args.self.now.nexts.items c.loop.made.items _ (length c.args.self.now.nexts.items - c.loop.counter) c.loop.left
    c.if-left-eq0.true c.loop.invariant
