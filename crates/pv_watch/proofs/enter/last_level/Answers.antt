use Rattle.std.proofs.Common.{◌∙◌, ◌<◌, ℕ, List, length, sym, subst, arith}
use Rattle.std.proofs.lemmas.Bool.{eqb-true, eqb-false}
use Rattle.pv_watch.proofs.Entering.{level-none, level-last, empty-is}
use Rattle.pv_watch.proofs.enter.last_level.Goals as goal

pub returns-then-is_empty : goal.returns-then-is_empty
returns-then-is_empty c = level-none c.args.trail.now (sym c.starts.ensures.value ∙ empty-is c.starts.result.now (eqb-true (length c.starts.result.now) 0 (sym c.is_empty.ensures ∙ c.if-is_empty.true)))

pub last_start-requires : goal.last_start-requires
last_start-requires c = subst (λ (ss : List ℕ). 0 < length ss) c.starts.ensures.value (let ne = eqb-false (length c.starts.result.now) 0 (sym c.is_empty.ensures ∙ c.if-is_empty.false) in omega (arith, ne))

pub returns : goal.returns
returns c = level-last c.args.trail.now c.last_start.result c.last_start.ensures.last c.last_start.ensures.rise c.last_start.ensures.bound
