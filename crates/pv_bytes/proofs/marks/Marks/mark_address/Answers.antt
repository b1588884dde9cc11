use Rattle.std.proofs.Common.{sym, ◌∙◌}
use Rattle.pv_bytes.proofs.Marking.{address_marked}
use Rattle.pv_bytes.proofs.marks.Marks.mark_address.Goals as goal

pub returns-in-Some : goal.returns-in-Some
returns-in-Some c = λ k.
    address_marked c.args.area c.args.other c.args.bits c.args.byte c.args.bit c.in-Some.last _ _ k
    (sym c.is_same_area.ensures ∙ c.if-not-is_same_area.false) c.in-Some.ensures.there c.in-Some.ensures.last c.in-Some.ensures.order
    (c.mark_all.ensures k)
