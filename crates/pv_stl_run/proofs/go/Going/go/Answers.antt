use Rattle.std.proofs.Common.{◌≡◌, ◌≤◌, length, Some, Ok, arith, ap, sym, refl, ◌∙◌}
use Rattle.std.specs.Prelude.{slice_get}
use Rattle.std.proofs.lemmas.Option.{slice_get_within}
use Rattle.pv_eval.specs.Means.{activation}
use Rattle.pv_stl_run.specs.Views.{frame_in}
use Rattle.pv_stl_run.specs.Code.{working}
use Rattle.pv_stl_run.specs.Going.{nested_at, ranges_in, left_of, frame_end}
use Rattle.pv_stl_run.proofs.TurnLaws.{falls_on}
use Rattle.pv_stl_run.proofs.AtWork.{has_ranges, here_is, at_end, at_call, does_plainly, at_trap, at_next, leads, went_on, went_off, fell_on, where_on, may_less, depth_behind}
use Rattle.pv_stl_run.proofs.go.Going.go.Goals as goal

pub loop-instr-init : goal.loop-instr-init
loop-instr-init c = record {
  within = c.requires;
  room = refl;
  scratch = refl;
  most = omega arith;
  same = λ source calls block room all b types fits are nested ranges depth. record { same = refl; nested = nested; depth_is = depth };
}

pub returns-clause-same : goal.returns-clause-same
returns-clause-same c = λ source calls block room all b types fits are nested ranges depth.
    at_end (c.loop-instr.invariant.same source calls block room all b types fits are nested ranges depth) are (sym c.in_default.ensures)

pub returns-in-Some-call_of-clause-same : goal.returns-in-Some-call_of-clause-same
returns-in-Some-call_of-clause-same c = λ source calls block room all b types fits are nested ranges depth.
    at_call (c.loop-instr.invariant.same source calls block room all b types fits are nested ranges depth) block c.in-Some.instr.now
    c.in-Some-call_of.call (sym c.in-Some.ensures) (sym c.in-Some-call_of.ensures)

pub returns-in-Some-call_of-clause-most : goal.returns-in-Some-call_of-clause-most
returns-in-Some-call_of-clause-most c =
    let s = c.loop-instr in
    omega (
      arith,
      s.invariant.most,
      falls_on c.args.bound c.args.code.now s.self.at
          (slice_get_within c.args.code.now s.self.at c.in-Some.instr.now (sym c.in-Some.ensures)),
    )

pub returns-in-Err-clause-same : goal.returns-in-Err-clause-same
returns-in-Err-clause-same c = λ source calls block room all b types fits are nested ranges depth.
    let s = c.loop-instr in
    let x = c.in-Some.instr.now in
    let g = s.invariant.same source calls block room all b types fits are nested ranges depth in
    let its = here_is are s.self.at x (sym c.in-Some.ensures) in
    let does = does_plainly x.action its.tree its.instr.does (sym c.in_default-call_of.ensures) in
    let enough : room ≤ length s.scratch = omega (arith, fits, s.invariant.scratch) in
    at_trap g its.tree c.in-Err.trap its.is does.0
    (c.in-Err.ensures.same source block room its.tree types enough its.instr.place
    (may_less x.action s.self.registers.depth (nested_at c.args.code.now s.self.at) g.depth_is its.instr.nests) does.1)

pub returns-in-Ok-false-clause-same : goal.returns-in-Ok-false-clause-same
returns-in-Ok-false-clause-same c = λ source calls block room all b types fits are nested ranges depth.
    let s = c.loop-instr in
    let x = c.in-Some.instr.now in
    let g = s.invariant.same source calls block room all b types fits are nested ranges depth in
    let its = here_is are s.self.at x (sym c.in-Some.ensures) in
    let does = does_plainly x.action its.tree its.instr.does (sym c.in_default-call_of.ensures) in
    let enough : room ≤ length s.scratch = omega (arith, fits, s.invariant.scratch) in
    let turns : ranges_in c.args.code.now ≤ length s.turns = omega (arith, ranges, s.invariant.room) in
    let behind = frame_in c.step.new.visible c.step.new.own in
    let before = at_next g its.tree c.in-Ok.next c.step.new.r behind its.is does.0
    (c.in-Ok.ensures.same source block room its.tree types enough its.instr.place
    (may_less x.action s.self.registers.depth (nested_at c.args.code.now s.self.at) g.depth_is its.instr.nests) does.1) in
    let goes = leads all c.args.code.now s.self.at its.tree x.action c.in-Ok.next c.in-Ok.ensures.goes its.instr.jumps in
    ap frame_end (sym before)
    ∙ went_off _ _ _ behind c.in-Ok-false.field-0-test
    (c.in-Ok-false.ensures.same source calls (activation block c.args.first) all its.tree (working c.step.new.r behind) b (has_ranges are)
    g.nested turns goes)

pub returns-in-Err-follows-clause-same : goal.returns-in-Err-follows-clause-same
returns-in-Err-follows-clause-same c = λ source calls block room all b types fits are nested ranges depth.
    let s = c.loop-instr in
    let x = c.in-Some.instr.now in
    let g = s.invariant.same source calls block room all b types fits are nested ranges depth in
    let its = here_is are s.self.at x (sym c.in-Some.ensures) in
    let does = does_plainly x.action its.tree its.instr.does (sym c.in_default-call_of.ensures) in
    let enough : room ≤ length s.scratch = omega (arith, fits, s.invariant.scratch) in
    let turns : ranges_in c.args.code.now ≤ length s.turns = omega (arith, ranges, s.invariant.room) in
    let behind = frame_in c.step.new.visible c.step.new.own in
    let before = at_next g its.tree c.in-Ok.next c.step.new.r behind its.is does.0
    (c.in-Ok.ensures.same source block room its.tree types enough its.instr.place
    (may_less x.action s.self.registers.depth (nested_at c.args.code.now s.self.at) g.depth_is its.instr.nests) does.1) in
    let goes = leads all c.args.code.now s.self.at its.tree x.action c.in-Ok.next c.in-Ok.ensures.goes its.instr.jumps in
    c.in-Err-follows.ensures.same source calls (activation block c.args.first) all its.tree (working c.step.new.r behind) b (has_ranges are)
    g.nested turns goes
    ∙ before

pub loop-instr-preserved : goal.loop-instr-preserved
loop-instr-preserved c =
    let s = c.loop-instr in
    let x = c.in-Some.instr.now in
    let now = c.follows.new.self in
    let behind = frame_in c.step.new.visible c.step.new.own in
    let e : slice_get c.args.code.now s.self.at ≡ Some x = sym c.in-Some.ensures in record {
      within = c.in-Ok-true.ensures.within;
      room = omega arith;
      scratch = omega arith;
      most = omega (
        arith,
        s.invariant.most,
        fell_on _ _ _ c.in-Ok-true.field-0-test
            (c.in-Ok-true.ensures.most (slice_get_within c.args.code.now s.self.at x e)),
      );
      same = λ source calls block room all b types fits are nested ranges depth.
          let g = s.invariant.same source calls block room all b types fits are nested ranges depth in
          let its = here_is are s.self.at x e in
          let does = does_plainly x.action its.tree its.instr.does (sym c.in_default-call_of.ensures) in
          let enough : room ≤ length s.scratch = omega (arith, fits, s.invariant.scratch) in
          let turns : ranges_in c.args.code.now ≤ length s.turns = omega (arith, ranges, s.invariant.room) in
          let before = at_next g its.tree c.in-Ok.next c.step.new.r behind its.is does.0
          (c.in-Ok.ensures.same source block room its.tree types enough its.instr.place
          (may_less x.action s.self.registers.depth (nested_at c.args.code.now s.self.at) g.depth_is its.instr.nests) does.1) in
          let goes = leads all c.args.code.now s.self.at its.tree x.action c.in-Ok.next c.in-Ok.ensures.goes its.instr.jumps in
          let same : now.registers ≡ c.step.new.r = c.in-Ok-true.ensures.registers in
          let deep : now.registers.depth ≡ c.step.new.r.depth = ap (λ r. r.depth) same in record {
            same =
                ap (λ r. left_of source calls (activation block c.args.first) all c.follows.new.turns now.entered now.at (working r behind)) same
                ∙ went_on _ _ _ behind c.in-Ok-true.field-0-test
                (c.in-Ok-true.ensures.same source calls (activation block c.args.first) all its.tree (working c.step.new.r behind) b
                (has_ranges are) g.nested turns goes)
                ∙ before;
            nested = where_on _ _ c.in-Ok-true.field-0-test (c.in-Ok-true.ensures.nested g.nested);
            depth_is = depth_behind all c.args.code.now s.self.at now.at s.self.registers.depth now.registers.depth its.tree x c.in-Ok.next
                (Ok c.in-Ok-true.field-0) (ap Ok c.in-Ok-true.field-0-test) e c.in-Ok.ensures.goes its.instr.jumps g.depth_is
                (omega (arith, deep, c.in-Ok.ensures.depth refl)) c.in-Ok-true.ensures.at c.in-Ok-true.ensures.left;
          };
    }

pub loop-instr-smaller : goal.loop-instr-smaller
loop-instr-smaller c = fell_on _ _ _ c.in-Ok-true.field-0-test
    (c.in-Ok-true.ensures.most (slice_get_within c.args.code.now c.loop-instr.self.at c.in-Some.instr.now (sym c.in-Some.ensures)))
