use Rattle.std.proofs.Common.{◌≡◌, ℕ, List, length, take, ap, sym, subst, ◌∙◌, arith}
use Rattle.std.specs.List.{AllByRecursion}
use Rattle.std.proofs.lemmas.List.{length-take}
use Rattle.pv_valid.specs.declared.facts.Facts.{Facts}
use Rattle.pv_valid.specs.Cases.{Bounds, AreBetween}
use Rattle.pv_valid.specs.Shown.{IsStretch}
use Rattle.pv_valid.specs.Starts.{state_from}
use Rattle.pv_valid.specs.Claims.{ends_as}
use Rattle.pv_judge.specs.Steps.{FindsEnd, in_range, scans_found}
use Rattle.pv_judge.proofs.Ranged.{all-ranged, few-good, found-from}
use Rattle.pv_judge.proofs.trace.replay.Goals as goal

pub shown-requires-clause-good : goal.shown-requires-clause-good
shown-requires-clause-good g c =
    let case = g.J.Judged.case c.args.case.now in
    let inputs = c.args.inputs.now in
    let ranges = case.facts.input in
    let s = state_from case c.args.start in
    let good = c.stretch-stretch.result.good in
    let end = c.stretch-stretch.result.ending in
    let is : c.in_range-ranged.result ≡ in_range ranges inputs =
    c.in_range-ranged.ensures.counted
    ∙ ap (λ (rs : List Bounds). in_range rs inputs) (c.as_slice.ensures ∙ ap (λ (f : Facts). f.input) c.facts.ensures) in
    let are = subst (λ (n : ℕ). AllByRecursion (AreBetween ranges) (take n inputs)) (sym is) (all-ranged ranges inputs) in
    let stretch = c.stretch-stretch.ensures.stretch c.requires.start are in
    let most = few-good case.machine (take c.in_range-ranged.result inputs) s good end stretch in
    let count = length-take c.in_range-ranged.result inputs in
    omega (arith, most, count)

pub returns-clause-finds : goal.returns-clause-finds
returns-clause-finds g c =
    let case = g.J.Judged.case c.args.case.now in
    let inputs = c.args.inputs.now in
    let ranges = case.facts.input in
    let s = state_from case c.args.start in
    let good = c.stretch-stretch.result.good in
    let end = c.stretch-stretch.result.ending in
    let is : c.in_range-ranged.result ≡ in_range ranges inputs =
    c.in_range-ranged.ensures.counted
    ∙ ap (λ (rs : List Bounds). in_range rs inputs) (c.as_slice.ensures ∙ ap (λ (f : Facts). f.input) c.facts.ensures) in
    let are = subst (λ (n : ℕ). AllByRecursion (AreBetween ranges) (take n inputs)) (sym is) (all-ranged ranges inputs) in
    let stretch = c.stretch-stretch.ensures.stretch c.requires.start are in
    found-from case c.args.claim c.args.first s inputs good end c.shown.result
    (subst (λ (n : ℕ). IsStretch case.machine s (take n inputs) good end) is stretch)
    (subst (λ (n : ℕ). FindsEnd (scans_found (ends_as c.args.claim) c.args.first (length inputs) n good end) end c.shown.result) is c.shown.ensures)
