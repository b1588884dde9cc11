use Rattle.std.proofs.Common.{◌≡◌, length, sym, ap, ◌∙◌, subst, Some, slice_get}
use Rattle.std.specs.Prelude.{IfSome}
use Rattle.std.proofs.lemmas.Bool.{ltb-true}
use Rattle.std.proofs.lemmas.Option.{slice_get-get_or}
use Rattle.pv_mean.specs.LaidOut.{test_of, laid_tree}
use Rattle.pv_resolve.specs.Firsts.{laid_nth, HasFirsts}
use Rattle.pv_resolve.proofs.Tabling.{table_at}
use Rattle.pv_resolve.proofs.firsts.FirstCells.nth.Goals as goal

pub returns-in-Some : goal.returns-in-Some
returns-in-Some c = λ project b are at same.
    let tables = c.as_slice.result.now in
    let there = slice_get-get_or tables c.args.block c.in-Some.firsts.now (ltb-true c.args.block (length tables) (sym c.in-Some.ensures.lookup.0))
    ∙ ap Some (sym c.in-Some.ensures.lookup.1) in
    subst (λ vs. IfSome c.nth.result (λ laid. laid_nth project (test_of c.args.part) vs c.args.number 0 ≡ Some (laid_tree laid))) same
    (c.nth.ensures project (subst (λ vs. HasFirsts project vs c.in-Some.firsts.now) (sym same)
    (table_at project c.args.self.now.blocks.items project.blocks c.args.block _ b are.tables
    (ap (λ l. slice_get l c.args.block) (sym c.as_slice.ensures.value) ∙ there) at)))
