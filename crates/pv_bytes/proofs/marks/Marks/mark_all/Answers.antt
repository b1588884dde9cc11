use Rattle.std.proofs.Common.{ap, sym, ◌∙◌}
use Rattle.std.specs.Prelude.{◌||◌}
use Rattle.pv_bytes.specs.Numbers.{flag_at}
use Rattle.pv_bytes.proofs.Marking.{or_false, range_none, next_mark}
use Rattle.pv_bytes.proofs.marks.Marks.mark_all.Goals as goal

pub loop-n-init : goal.loop-n-init
loop-n-init c = λ k.
    or_false (flag_at c.args.self.now.flags.items k) ∙ ap (λ b. flag_at c.args.self.now.flags.items k || b)
    (sym (range_none c.args.first k))

pub loop-n-preserved : goal.loop-n-preserved
loop-n-preserved c = λ k.
    c.mark.ensures k
    ∙ next_mark (flag_at c.args.self.now.flags.items k) (flag_at c.loop-n.self.flags.items k) c.args.first c.loop-n.n k c.loop-n.auto.n
    (c.loop-n.invariant k)
