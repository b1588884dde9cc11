use Rattle.std.proofs.Common.{length, sym, ap, ◌∙◌, slice_get, Some}
use Rattle.std.proofs.lemmas.Bool.{ltb-true}
use Rattle.std.proofs.lemmas.Option.{slice_get-get_or}
use Rattle.pv_mean.specs.LaidOut.{test_of}
use Rattle.pv_resolve.proofs.Tabling.{var_laid}
use Rattle.pv_resolve.proofs.firsts.PartFirsts.laid.Goals as goal

pub returns-in-Some : goal.returns-in-Some
returns-in-Some c = λ project vars has is.
    let numbers = c.as_slice.result.now in
    let there = slice_get-get_or numbers c.args.number c.in-Some.first.now (ltb-true c.args.number (length numbers) (sym c.in-Some.ensures.lookup.0))
    ∙ ap Some (sym c.in-Some.ensures.lookup.1) in
    var_laid project (test_of c.args.self.now.part) vars c.args.number c.in-Some.first.now c.args.var is
    (ap (λ l. slice_get l c.args.number) (sym has ∙ sym c.as_slice.ensures.value) ∙ there)
    (sym c.has.ensures ∙ c.if-not-has.false)
