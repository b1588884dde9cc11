use Rattle.std.proofs.Common.{◌∙◌, ap, length}
use Rattle.std.proofs.lemmas.List.Elements.{All-append, All-drop, All-take, All-same}
use Rattle.pv_gate.specs.Node.{Names}
use Rattle.pv_bits.proofs.Loops.{right_is, if_ok_as, if_ok_all, if_ok_width, length-shifted}
use Rattle.pv_bits.proofs.choice.shifted.Goals as goal

pub returns-in_ok-from_slice-clause-word : goal.returns-in_ok-from_slice-clause-word
returns-in_ok-from_slice-clause-word c = if_ok_as c.joined-else-left.result _ _ (right_is c.args.left c.args.a.now c.in_ok-from_slice.field-0 c.as_slice.result.now c.min-gone.result c.args.n c.if-left.false c.min-gone.ensures c.in_ok-from_slice.ensures (c.as_slice.ensures ∙ c.in_ok-zeros.ensures.word)) c.joined-else-left.ensures.word

pub returns-in_ok-from_slice-clause-names : goal.returns-in_ok-from_slice-clause-names
returns-in_ok-from_slice-clause-names c =
    let P = Names (length c.args.g.now.nodes) in
    if_ok_all P c.joined-else-left.result _
    (All-append P _ _ (All-same P _ _ c.in_ok-from_slice.ensures (All-take P _ _ (All-drop P _ c.args.a.now c.requires))) (All-same P _ _ c.as_slice.ensures c.in_ok-zeros.ensures.names))
    c.joined-else-left.ensures.word

pub returns-in_ok-from_slice-clause-width : goal.returns-in_ok-from_slice-clause-width
returns-in_ok-from_slice-clause-width c =
    if_ok_width c.joined-else-left.result _ _ (ap length (right_is c.args.left c.args.a.now c.in_ok-from_slice.field-0 c.as_slice.result.now c.min-gone.result c.args.n c.if-left.false c.min-gone.ensures c.in_ok-from_slice.ensures (c.as_slice.ensures ∙ c.in_ok-zeros.ensures.word)) ∙ length-shifted c.args.left c.args.a.now c.args.n) c.joined-else-left.ensures.word
