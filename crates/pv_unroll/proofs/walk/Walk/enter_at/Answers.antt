use Rattle.std.proofs.Common.{rules, ◌≡◌, ◌<◌, length, drop, map, true, false, ◌==◌, refl, sym, ap, ◌∙◌}
use Rattle.std.specs.Prelude.{slice_index_or}
use Rattle.std.proofs.lemmas.Bool.{eq-eqb, ne_eqb}
use Rattle.pv_flow.specs.declared.parts.Loop.{Loop}
use Rattle.pv_flow.specs.View.{loop_of}
use Rattle.pv_unroll.specs.Walking.{Walk, entered_at}
use Rattle.pv_unroll.specs.Seen.{walk_seen}
use Rattle.pv_unroll.proofs.Stepping.{entered_stop, entered_more}
use Rattle.pv_unroll.proofs.walk.Walk.enter_at.Goals as goal

pub returns-then-loops-self : goal.returns-then-loops-self
returns-then-loops-self c =
    let lt : c.loop-self.self.next < length c.args.loops.now = search rules in
    let stands : slice_index_or c.args.loops.now c.loop-self.self.next c.index-loops-self.result ≡ c.index-loops-self.result = search rules in
    let off : (c.index-loops-self.result.first == c.loop-self.self.at) ≡ false =
    ap (λ (loop : Loop). loop.first == c.loop-self.self.at) (sym stands)
    ∙ ne_eqb (slice_index_or c.args.loops.now c.loop-self.self.next c.index-loops-self.result).first c.loop-self.self.at c.if-loops-self.true in
    sym (entered_stop c.loop-self.self.at c.loop-self.self.next c.args.loops.now c.index-loops-self.result (walk_seen c.loop-self.self) lt stands refl off)
    ∙ c.loop-self.invariant

pub loop-self-preserved : goal.loop-self-preserved
loop-self-preserved c =
    let lt : c.loop-self.self.next < length c.args.loops.now = search rules in
    let stands : slice_index_or c.args.loops.now c.loop-self.self.next c.index-loops-self.result ≡ c.index-loops-self.result = search rules in
    let on : (c.index-loops-self.result.first == c.loop-self.self.at) ≡ true =
    ap (λ (loop : Loop). loop.first == c.loop-self.self.at) (sym stands)
    ∙ eq-eqb (slice_index_or c.args.loops.now c.loop-self.self.next c.index-loops-self.result).first c.loop-self.self.at c.if-loops-self.false in
    ap (λ (w : Walk). entered_at (drop w.next (map loop_of c.args.loops.now)) w) c.in_ok-enter.ensures
    ∙ sym (entered_more c.loop-self.self.at c.loop-self.self.next c.args.loops.now c.index-loops-self.result (walk_seen c.loop-self.self) lt stands refl on)
    ∙ c.loop-self.invariant
