use Rattle.std.proofs.Common.{rules, sym, ap, ◌∙◌, subst}
use Rattle.std.specs.Prelude.{FitsSigned}
use Rattle.std.specs.Int.{w64}
use Rattle.std.proofs.lemmas.Int.{to_z-of_z}
use Rattle.pv_mean.specs.Spots.{write_spot}
use Rattle.pv_mean.specs.Statements.{counter}
use Rattle.pv_eval.specs.Means.{activation}
use Rattle.pv_eval.specs.Operands.{spot_of}
use Rattle.pv_eval.specs.Writes.{TypesOf}
use Rattle.pv_run.specs.Runs.{frame_in}
use Rattle.pv_run.proofs.Beginning.{begin_stops, begun, as_they_are}
use Rattle.pv_run.proofs.program.Program.begin.Goals as goal

pub returns-in-Ok-clause-value : goal.returns-in-Ok-clause-value
returns-in-Ok-clause-value c =
    λ source block name place a b by types counts.
    let ts = subst (λ xs. TypesOf source xs) (sym c.as_slice.ensures.value) types in
    let p : FitsSigned w64 c.in_ok-count.count = search rules in
    let q : FitsSigned w64 c.in_ok-last.last = search rules in
    let before = frame_in c.args.visible.now c.args.brief.now in
    let after = frame_in c.write_spot.new.visible c.write_spot.new.brief in
    as_they_are (spot_of c.in-Ok.spot) after (to_z-of_z w64 c.in_ok-count.count p) (to_z-of_z w64 c.in_ok-last.last q)
    ∙ begun source (activation block c.args.first) before after name place a b c.in_ok-count.count c.in_ok-last.last (spot_of c.in-Ok.spot)
    (c.in_ok-count.ensures source block a counts.first) (c.in_ok-last.ensures source block b counts.last)
    (c.in-Ok.ensures.value source block (counter name place) counts.variable)
    (ap (λ x. write_spot source before (spot_of c.in-Ok.spot) x) (sym (to_z-of_z w64 c.in_ok-count.count p))
    ∙ c.write_spot.ensures source ts)

pub returns-in-Err-clause-value : goal.returns-in-Err-clause-value
returns-in-Err-clause-value c =
    λ source block name place a b by types counts.
    begin_stops source (activation block c.args.first) (frame_in c.args.visible.now c.args.brief.now) name place a b c.in_ok-count.count
    c.in_ok-last.last
    c.in-Err.stop (c.in_ok-count.ensures source block a counts.first) (c.in_ok-last.ensures source block b counts.last)
    (c.in-Err.ensures.value source block (counter name place) counts.variable)
