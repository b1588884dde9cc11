use Rattle.std.proofs.Common.{rules, ◌≡◌, ◌<◌, length, drop, map, true, false, ◌==◌, sym, ap, ◌∙◌}
use Rattle.std.specs.Prelude.{slice_index_or}
use Rattle.std.proofs.lemmas.Bool.{eq-eqb, ne_eqb}
use Rattle.pv_flow.specs.declared.parts.Loop.{Loop}
use Rattle.pv_flow.specs.View.{loop_of}
use Rattle.pv_unroll.specs.Sizing.{Sizing, begun_at}
use Rattle.pv_unroll.specs.Seen.{sizing_seen}
use Rattle.pv_unroll.proofs.Sized.{begun_stop, begun_more}
use Rattle.pv_unroll.proofs.sizing.Sizing.begin_at.Goals as goal

pub returns-then-loops-self : goal.returns-then-loops-self
returns-then-loops-self c =
    let lt : c.loop-self.self.next < length c.args.loops.now = search rules in
    let stands : slice_index_or c.args.loops.now c.loop-self.self.next c.index-loops-self.result ≡ c.index-loops-self.result = search rules in
    let off : (c.index-loops-self.result.first == c.args.at) ≡ false =
    ap (λ (loop : Loop). loop.first == c.args.at) (sym stands)
    ∙ ne_eqb (slice_index_or c.args.loops.now c.loop-self.self.next c.index-loops-self.result).first c.args.at c.if-loops-self.true in
    sym (begun_stop c.args.at c.loop-self.self.next c.args.loops.now c.index-loops-self.result (sizing_seen c.loop-self.self) lt stands off)
    ∙ c.loop-self.invariant

pub loop-self-preserved : goal.loop-self-preserved
loop-self-preserved c =
    let lt : c.loop-self.self.next < length c.args.loops.now = search rules in
    let stands : slice_index_or c.args.loops.now c.loop-self.self.next c.index-loops-self.result ≡ c.index-loops-self.result = search rules in
    let on : (c.index-loops-self.result.first == c.args.at) ≡ true =
    ap (λ (loop : Loop). loop.first == c.args.at) (sym stands)
    ∙ eq-eqb (slice_index_or c.args.loops.now c.loop-self.self.next c.index-loops-self.result).first c.args.at c.if-loops-self.false in
    ap (λ (s : Sizing). begun_at c.args.at (drop s.next (map loop_of c.args.loops.now)) s) c.in_ok-begin.ensures
    ∙ sym (begun_more c.args.at c.loop-self.self.next c.args.loops.now c.index-loops-self.result (sizing_seen c.loop-self.self) lt stands on)
    ∙ c.loop-self.invariant
