use Rattle.std.proofs.Common.{arith, length, ℕ, ◌≤◌, replicate}
use Rattle.std.proofs.lemmas.List.Elements.{All-replicate}
use Rattle.pv_gate.specs.Node.{Names, false_literal}
use Rattle.pv_bits.proofs.Loops.{if_ok_all}
use Rattle.pv_bits.proofs.word.falses.Goals as goal

one_named : (n : ℕ) → 1 ≤ n → Names n false_literal
one_named n h = record { from_one = omega arith; to_last = omega arith }

pub returns-clause-names : goal.returns-clause-names
returns-clause-names c =
    let P = Names (length c.args.g.now.nodes) in
    if_ok_all P c.copies.result (replicate c.args.count false_literal) (All-replicate P _ false_literal (one_named _ c.nodes-count.ensures.one)) c.copies.ensures.word
