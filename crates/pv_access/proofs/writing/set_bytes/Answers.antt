use Rattle.std.proofs.Common.{ap}
use Rattle.std.proofs.lemmas.Result.{on_ok_weaker}
use Rattle.pv_terms.specs.Forms.{converted}
use Rattle.pv_terms.proofs.ForCallers.{grows_then}
use Rattle.pv_access.specs.Accesses.{pattern_sets, bytes_term}
use Rattle.pv_access.proofs.Pushing.{sets_behind, sets_say, writing_keeps}
use Rattle.pv_access.proofs.writing.set_bytes.Goals as goal

pub returns : goal.returns
returns c = λ w table is.
    let x = c.in_ok-old.ensures table in
    let y = c.in_ok-new.ensures w _ x.grows.table (writing_keeps _ _ c.args.writing w x.grows is) x.at in
    let z = c.in_ok-pattern.ensures _ y.grows.table y.at in
    let grows = grows_then _ _ _ x.grows (grows_then _ _ _ y.grows z.grows) in
    on_ok_weaker c.set_pattern.result
    (λ s. sets_behind _ _ _ _ _ _ grows
    (sets_say _ _ _ _ _ _ (ap (λ ty. pattern_sets ty c.args.n c.args.count
    (converted c.args.own ty (w.value (bytes_term c.args.own c.args.n c.args.count)))) c.pattern_type-ty.ensures) s))
    (c.set_pattern.ensures _ z.grows.table z.at)
