use Rattle.std.proofs.Common.{◌+◌, ◌++◌, ◌∷◌, [], drop, sym, ap, ◌∙◌, arith}
use Rattle.pv_report.specs.Places.{starts_behind}
use Rattle.pv_report.proofs.Values.{whole, stepped, all_dropped}
use Rattle.pv_report.proofs.Starts.{starts_yes, starts_no}
use Rattle.pv_report.proofs.places.add_starts.Goals as goal
use Rattle.pv_report.proofs.places.add_starts.Goals.{then-byte-eq10+in_ok-push, else-byte-eq10}

pub loop-at-preserved : goal.loop-at-preserved
loop-at-preserved c =
    let l = c.loop-at in
    let bytes = c.args.bytes.now in
    let rest = starts_behind (l.at + 1) (drop (l.at + 1) bytes) in
    elim c.if-byte-eq10.branch [
      | then-byte-eq10+in_ok-push w ↦
          ap (λ s. s.items ++ rest) w.starts-is
          ∙ ap (λ s. s ++ rest) w.in_ok-push.ensures.items
          ∙ stepped l.starts.items ((l.at + 1) ∷ []) (starts_behind l.at (drop l.at bytes)) rest _ l.invariant
          (starts_yes bytes l.at 0 c.loop-at-test.true w.if-byte-eq10.true)
      | else-byte-eq10 w ↦ ap (λ s. s.items ++ rest) w.starts-is
          ∙ ap (λ r. l.starts.items ++ r) (sym (starts_no bytes l.at 0 c.loop-at-test.true w.if-byte-eq10.false)) ∙ l.invariant
    ]

pub returns : goal.returns
returns c =
    let l = c.loop-at in
    let bytes = c.args.bytes.now in
    whole l.starts.items _ (starts_behind l.at (drop l.at bytes)) l.invariant
    (ap (λ b. starts_behind l.at b) (all_dropped bytes l.at (omega (arith, c.loop-at-test.false))))
