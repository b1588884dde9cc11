use Rattle.std.proofs.Common.{◌≡◌, ◌+◌, suc, map, drop, sym, ap, ◌∙◌, add-one, arith}
use Rattle.std.specs.List.{position_from}
use Rattle.pv_tree.specs.View.{block_tree}
use Rattle.pv_case_fit.specs.Entries.{may_enter}
use Rattle.pv_case_fit.proofs.Walking.{place_here, place_later, place_none}
use Rattle.pv_case_fit.proofs.entry.number_of.Goals as goal

pub returns-then-may_enter : goal.returns-then-may_enter
returns-then-may_enter c =
    sym (c.loop-n.invariant ∙ place_here (may_enter c.args.name.now.key) block_tree c.args.blocks.now c.loop-n.n
    c.loop-n.n c.index-blocks-n.result c.loop-n-test.true c.index-blocks-n.is (sym c.may_enter.ensures ∙ c.if-may_enter.true))

pub loop-n-preserved : goal.loop-n-preserved
loop-n-preserved c =
    let more : c.loop-n.n + 1 ≡ suc c.loop-n.n = omega arith in
    rw add-one (c.loop-n.invariant ∙ place_later (may_enter c.args.name.now.key) block_tree c.args.blocks.now c.loop-n.n
    c.loop-n.n c.index-blocks-n.result c.loop-n-test.true c.index-blocks-n.is (sym c.may_enter.ensures ∙ c.if-may_enter.false)
    ∙ ap (λ m. position_from (may_enter c.args.name.now.key) m (map block_tree (drop (suc c.loop-n.n) c.args.blocks.now))) more)

pub returns : goal.returns
returns c =
    sym (c.loop-n.invariant ∙ place_none (may_enter c.args.name.now.key) block_tree c.args.blocks.now c.loop-n.n c.loop-n.n (omega arith))
