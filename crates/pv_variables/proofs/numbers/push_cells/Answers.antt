use Rattle.std.proofs.Common.{ℕ, List, [], ◌∷◌, ◌++◌, ◌+◌, ◌-◌, ap, ◌∙◌, arith}
use Rattle.std.proofs.lemmas.Bool.{false≢true}
use Rattle.pv_variables.specs.Numbered.{two_apart}
use Rattle.pv_variables.proofs.Filling.{two_more}
use Rattle.pv_variables.proofs.numbers.push_cells.Goals as goal

pub loop-k-preserved : goal.loop-k-preserved
loop-k-preserved c = record {
  cells = ap (λ (l : List ℕ). l ++ two_apart (c.args.count - (c.loop-k._k + 1)) c.in_ok-n.n) c.in_ok-push.ensures.items
      ∙ ap (λ (m : ℕ). (c.loop-k.briefs.items ++ c.loop-k.n ∷ []) ++ two_apart (c.args.count - (c.loop-k._k + 1)) m) c.in_ok-n.ensures.value
      ∙ two_more c.args.count c.loop-k._k c.loop-k.n c.loop-k.briefs.items (omega arith)
      ∙ c.loop-k.invariant.cells;
  next = let e = c.in_ok-n.ensures.value in let h = c.loop-k.invariant.next in omega (arith, e, h);
}

pub returns-in_err-n-clause-room : goal.returns-in_err-n-clause-room
returns-in_err-n-clause-room c = λ few.
    let h = c.loop-k.invariant.next in
    absurd (false≢true (c.in_err-n.ensures.room (omega (arith, few, h))))
