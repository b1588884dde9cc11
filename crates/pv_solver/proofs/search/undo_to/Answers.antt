use Rattle.std.proofs.Common.{◌∙◌, ◌<◌, ◌≤◌, ℕ, List, length, refl, ap, subst, arith}
use Rattle.std.proofs.lemmas.List.{length_push}
use Rattle.pv_watch.specs.Trail.{Path, Rise}
use Rattle.pv_solver.proofs.Backs.{backs-none, backs-more, backs-end}
use Rattle.pv_solver.proofs.search.undo_to.Goals as goal

pub levels-init : goal.levels-init
levels-init c = record { stored = refl; backs = backs-none c.args.keep c.args.propagator.now.path c.requires; ended = λ lt. absurd (omega (arith, lt)) }

pub undo-requires : goal.undo-requires
undo-requires c =
    let same = ap (λ (ss : List ℕ). length ss) (c.starts.ensures.value ∙ ap (λ (q : Path). q.starts) c.trail.ensures.path) in omega (arith, same, c.levels-test.true)

pub levels-preserved : goal.levels-preserved
levels-preserved c =
    let lt = subst (λ (ss : List ℕ). c.args.keep < length ss) (c.starts.ensures.value ∙ ap (λ (q : Path). q.starts) c.trail.ensures.path) c.levels-test.true in
    record {
      stored = c.undo.ensures.stored ∙ c.levels.invariant.stored;
      backs = backs-more c.args.keep c.args.propagator.now.path c.levels.propagator.path c.undo.new.propagator.path c.levels.invariant.backs lt
          c.undo.ensures.back;
      ended = λ _. c.undo.ensures.ended;
    }

pub levels-smaller : goal.levels-smaller
levels-smaller c =
    let one = ap (λ (ss : List ℕ). length ss) c.undo.ensures.back.starts in
    omega (arith, one, length_push c.undo.new.propagator.path.starts (length c.undo.new.propagator.path.falses))

pub returns-clause-back : goal.returns-clause-back
returns-clause-back c =
    let le = subst (λ (ss : List ℕ). length ss ≤ c.args.keep) (c.starts.ensures.value ∙ ap (λ (q : Path). q.starts) c.trail.ensures.path) (omega (arith, c.levels-test.false)) in
    backs-end c.args.keep c.args.propagator.now.path c.levels.propagator.path c.levels.invariant.backs le
    (subst (λ (q : Path). Rise q.starts (length q.falses)) c.trail.ensures.path c.starts.ensures.rise)

pub returns-clause-ended : goal.returns-clause-ended
returns-clause-ended c = λ lt.
    let le = subst (λ (ss : List ℕ). length ss ≤ c.args.keep) (c.starts.ensures.value ∙ ap (λ (q : Path). q.starts) c.trail.ensures.path) (omega (arith, c.levels-test.false)) in
    c.levels.invariant.ended (omega (arith, le, lt))
