use Rattle.std.proofs.Common.{ap, [], ◌∷◌}
use Rattle.std.proofs.lemmas.Result.{on_ok_weaker}
use Rattle.pv_word.specs.declared.types.Ty.TheVariants.{Byte}
use Rattle.pv_terms.specs.Forms.{converted}
use Rattle.pv_terms.proofs.ForCallers.{grows_then}
use Rattle.pv_access.specs.Accesses.{set_of, right_by}
use Rattle.pv_access.proofs.Pushing.{sets_behind, sets_say}
use Rattle.pv_access.proofs.writing.set_byte.Goals as goal

pub returns : goal.returns
returns c = λ t table at.
    let x = c.in_ok-low.ensures t table at in
    let y = c.in_ok-byte.ensures _ x.grows.table x.at in
    on_ok_weaker c.push_set.result
    (λ s. sets_behind _ _ _ _ _ _ (grows_then _ _ _ x.grows y.grows)
    (sets_say _ _ _ _ _ _ (ap (λ k. set_of c.args.n (converted c.args.ty Byte (right_by c.args.ty k t)) ∷ []) c.in_ok-places.ensures) s))
    (c.push_set.ensures _ y.grows.table y.at)
