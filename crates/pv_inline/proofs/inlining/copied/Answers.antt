use Rattle.pv_inline.specs.Blocks.{codes_in}
use Rattle.pv_inline.proofs.Coded.{ok_by}
use Rattle.pv_inline.proofs.Whole.{inlining_is}
use Rattle.pv_inline.proofs.inlining.copied.Goals as goal

pub returns-clause-made : goal.returns-clause-made
returns-clause-made c =
    ok_by c.assembled.result (λ q is. inlining_is (codes_in c.args.blocks.now) c.args.entry c.args.parts.now q c.in_ok-vars.vars.items
    c.in_ok-copies.copies.making c.in_ok-copies.copies.text c.in_ok-copies.copies.done c.in_ok-vars.ensures.vars c.in_ok-vars.ensures.few
    c.in_ok-copies.ensures.making c.in_ok-copies.ensures.few c.in_ok-copies.ensures.text c.in_ok-copies.ensures.done is) c.assembled.ensures.made
