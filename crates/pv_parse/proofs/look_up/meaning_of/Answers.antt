use Rattle.std.proofs.Common.{◌<◌, length, sym, ◌∙◌, arith, add-one}
use Rattle.pv_parse.proofs.LookUps.{found-here, found-later}
use Rattle.pv_parse.proofs.look_up.meaning_of.Goals as goal

pub returns-then-is_same : goal.returns-then-is_same
returns-then-is_same c = λ other.
    let h : c.loop-entry.entry-index < length c.args.entries.now = omega arith in
    sym (c.loop-entry.invariant other)
    ∙ found-here c.args.text.now other c.args.entries.now c.loop-entry.entry-index _ h (sym c.is_same.ensures ∙ c.if-is_same.true)

pub loop-entry-preserved : goal.loop-entry-preserved
loop-entry-preserved c = λ other.
    let h : c.loop-entry.entry-index < length c.args.entries.now = omega arith in
    rw add-one (sym (found-later c.args.text.now other c.args.entries.now c.loop-entry.entry-index _ h (sym c.is_same.ensures
    ∙ c.if-is_same.false)) ∙ c.loop-entry.invariant other)
