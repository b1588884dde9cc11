use Rattle.std.proofs.Common.{◌≤◌, sym, subst, arith, ◌∙◌}
use Rattle.pv_stl_run.specs.Views.{registers_of, frame_in}
use Rattle.pv_stl_run.specs.Code.{IsAction, MayDo, working, onward_in, opened}
use Rattle.pv_stl_run.proofs.EffectLaws.{no_call, change_effect, join_effect, write_effect, edge_effect, load_effect, transfer_effect, jump_effect, end_effect, where_effect, goes_plainly, goes_jumping}
use Rattle.pv_stl_run.proofs.steps.effect.Goals as goal

pub returns-in-Change-clause-same : goal.returns-in-Change-clause-same
returns-in-Change-clause-same c = λ source block room i types fits p may does.
    let old = c.args.r.now in
    let frame = frame_in c.args.visible.now c.args.own.now in
    c.onward.ensures.same i c.changes.new.r frame
    ∙ change_effect source block c.args.targets.now room c.in-Change.change i c.args.first c.args.instr.now.place (registers_of old) frame
    c.changes.result c.changes.new.r (subst (λ d. IsAction source block c.args.targets.now room d i) c.in-Change.is does) p
    (c.changes.ensures.same (subst (λ d. MayDo d old.depth) c.in-Change.is may))

pub returns-in-Change-clause-goes : goal.returns-in-Change-clause-goes
returns-in-Change-clause-goes c = goes_plainly c.args.instr.now.action c.onward.result c.onward.ensures.goes

pub returns-in-Change-clause-depth : goal.returns-in-Change-clause-depth
returns-in-Change-clause-depth c = λ ok.
    subst (λ d. c.changes.new.r.depth ≤ opened d c.args.r.now.depth) (sym c.in-Change.is) (c.changes.ensures.depth (c.onward.ensures.ok ok))

pub returns-in-Join-clause-same : goal.returns-in-Join-clause-same
returns-in-Join-clause-same c = λ source block room i types fits p may does.
    let old = frame_in c.args.visible.now c.args.own.now in
    let frame = frame_in c.args.visible.now c.args.own.now in
    c.onward-in-Join.ensures.same i c.joins.new.r frame
    ∙ join_effect source block c.args.targets.now room c.in-Join.n c.in-Join.junction i c.args.first (working c.args.r.now old)
    (onward_in c.joins.result c.joins.new.r frame) (subst (λ d. IsAction source block c.args.targets.now room d i) c.in-Join.is does)
    (λ o is target. c.joins.ensures.same source block room i o fits p is target)

pub returns-in-Join-clause-goes : goal.returns-in-Join-clause-goes
returns-in-Join-clause-goes c = goes_plainly c.args.instr.now.action c.onward-in-Join.result c.onward-in-Join.ensures.goes

pub returns-in-Join-clause-depth : goal.returns-in-Join-clause-depth
returns-in-Join-clause-depth c = λ ok.
    let low : c.joins.new.r.depth ≤ c.args.r.now.depth = omega (arith, c.joins.ensures.depth) in
    subst (λ d. c.joins.new.r.depth ≤ opened d c.args.r.now.depth) (sym c.in-Join.is) low

pub returns-in-Write-clause-same : goal.returns-in-Write-clause-same
returns-in-Write-clause-same c = λ source block room i types fits p may does.
    let old = frame_in c.args.visible.now c.args.own.now in
    let frame = frame_in c.writes.new.visible c.writes.new.own in
    c.onward-in-Write.ensures.same i c.writes.new.r frame
    ∙ write_effect source block c.args.targets.now room c.in-Write.n c.in-Write.written i c.args.first (working c.args.r.now old)
    (onward_in c.writes.result c.writes.new.r frame) (subst (λ d. IsAction source block c.args.targets.now room d i) c.in-Write.is does)
    (λ o is target. c.writes.ensures.same source block room i o types fits p is target)

pub returns-in-Write-clause-goes : goal.returns-in-Write-clause-goes
returns-in-Write-clause-goes c = goes_plainly c.args.instr.now.action c.onward-in-Write.result c.onward-in-Write.ensures.goes

pub returns-in-Write-clause-depth : goal.returns-in-Write-clause-depth
returns-in-Write-clause-depth c = λ ok.
    let low : c.writes.new.r.depth ≤ c.args.r.now.depth = omega (arith, c.writes.ensures.depth) in
    subst (λ d. c.writes.new.r.depth ≤ opened d c.args.r.now.depth) (sym c.in-Write.is) low

pub returns-in-Edge-clause-same : goal.returns-in-Edge-clause-same
returns-in-Edge-clause-same c = λ source block room i types fits p may does.
    let old = frame_in c.args.visible.now c.args.own.now in
    let frame = frame_in c.finds_edge.new.visible c.finds_edge.new.own in
    c.onward-in-Edge.ensures.same i c.finds_edge.new.r frame
    ∙ edge_effect source block c.args.targets.now room c.in-Edge.n c.in-Edge.rising i c.args.first (working c.args.r.now old)
    (onward_in c.finds_edge.result c.finds_edge.new.r frame) (subst (λ d. IsAction source block c.args.targets.now room d i) c.in-Edge.is does)
    (λ o is target. c.finds_edge.ensures.same source block room i o types fits p is target)

pub returns-in-Edge-clause-goes : goal.returns-in-Edge-clause-goes
returns-in-Edge-clause-goes c = goes_plainly c.args.instr.now.action c.onward-in-Edge.result c.onward-in-Edge.ensures.goes

pub returns-in-Edge-clause-depth : goal.returns-in-Edge-clause-depth
returns-in-Edge-clause-depth c = λ ok.
    let low : c.finds_edge.new.r.depth ≤ c.args.r.now.depth = omega (arith, c.finds_edge.ensures.depth) in
    subst (λ d. c.finds_edge.new.r.depth ≤ opened d c.args.r.now.depth) (sym c.in-Edge.is) low

pub returns-in-Load-clause-same : goal.returns-in-Load-clause-same
returns-in-Load-clause-same c = λ source block room i types fits p may does.
    let old = frame_in c.args.visible.now c.args.own.now in
    let frame = frame_in c.args.visible.now c.args.own.now in
    c.onward-in-Load.ensures.same i c.loads.new.r frame
    ∙ load_effect source block c.args.targets.now room c.in-Load.n c.in-Load.ty i c.args.first (working c.args.r.now old)
    (onward_in c.loads.result c.loads.new.r frame) (subst (λ d. IsAction source block c.args.targets.now room d i) c.in-Load.is does)
    (λ o is target none its_type. c.loads.ensures.same source block room i o fits p is target none its_type)

pub returns-in-Load-clause-goes : goal.returns-in-Load-clause-goes
returns-in-Load-clause-goes c = goes_plainly c.args.instr.now.action c.onward-in-Load.result c.onward-in-Load.ensures.goes

pub returns-in-Load-clause-depth : goal.returns-in-Load-clause-depth
returns-in-Load-clause-depth c = λ ok.
    let low : c.loads.new.r.depth ≤ c.args.r.now.depth = omega (arith, c.loads.ensures.depth) in
    subst (λ d. c.loads.new.r.depth ≤ opened d c.args.r.now.depth) (sym c.in-Load.is) low

pub returns-in-Transfer-clause-same : goal.returns-in-Transfer-clause-same
returns-in-Transfer-clause-same c = λ source block room i types fits p may does.
    let old = frame_in c.args.visible.now c.args.own.now in
    let frame = frame_in c.transfers.new.visible c.transfers.new.own in
    c.onward-in-Transfer.ensures.same i c.args.r.now frame
    ∙ transfer_effect source block c.args.targets.now room c.in-Transfer.n c.in-Transfer.ty i c.args.first (working c.args.r.now old)
    (onward_in c.transfers.result c.args.r.now frame) (subst (λ d. IsAction source block c.args.targets.now room d i) c.in-Transfer.is does)
    (λ o is target its_type. c.transfers.ensures.same source block room i o types fits p is target its_type)

pub returns-in-Transfer-clause-goes : goal.returns-in-Transfer-clause-goes
returns-in-Transfer-clause-goes c = goes_plainly c.args.instr.now.action c.onward-in-Transfer.result c.onward-in-Transfer.ensures.goes

pub returns-in-Transfer-clause-depth : goal.returns-in-Transfer-clause-depth
returns-in-Transfer-clause-depth c = λ ok.
    let low : c.args.r.now.depth ≤ c.args.r.now.depth = omega arith in
    subst (λ d. c.args.r.now.depth ≤ opened d c.args.r.now.depth) (sym c.in-Transfer.is) low

pub returns-in-Jump-clause-same : goal.returns-in-Jump-clause-same
returns-in-Jump-clause-same c = λ source block room i types fits p may does.
    let frame = frame_in c.args.visible.now c.args.own.now in
    c.jumps.ensures.same i frame p
    ∙ jump_effect source block c.args.targets.now room c.in-Jump.when c.in-Jump.goal i c.args.first (working c.args.r.now frame)
    (subst (λ d. IsAction source block c.args.targets.now room d i) c.in-Jump.is does)

pub returns-in-Jump-clause-goes : goal.returns-in-Jump-clause-goes
returns-in-Jump-clause-goes c =
    goes_jumping c.args.instr.now.action c.in-Jump.when c.in-Jump.goal c.jumps.result c.in-Jump.is c.jumps.ensures.goal

pub returns-in-Jump-clause-depth : goal.returns-in-Jump-clause-depth
returns-in-Jump-clause-depth c = λ ok.
    let low : c.jumps.new.r.depth ≤ c.args.r.now.depth = omega (arith, c.jumps.ensures.depth) in
    subst (λ d. c.jumps.new.r.depth ≤ opened d c.args.r.now.depth) (sym c.in-Jump.is) low

pub returns-in-End-clause-same : goal.returns-in-End-clause-same
returns-in-End-clause-same c = λ source block room i types fits p may does.
    end_effect source block c.args.targets.now room i c.args.first (working c.args.r.now (frame_in c.args.visible.now c.args.own.now))
    (subst (λ d. IsAction source block c.args.targets.now room d i) c.in-End.is does)

pub returns-in-End-clause-depth : goal.returns-in-End-clause-depth
returns-in-End-clause-depth c = λ ok.
    let low : c.args.r.now.depth ≤ c.args.r.now.depth = omega arith in
    subst (λ d. c.args.r.now.depth ≤ opened d c.args.r.now.depth) (sym c.in-End.is) low

pub returns-in-EndWhere-clause-same : goal.returns-in-EndWhere-clause-same
returns-in-EndWhere-clause-same c = λ source block room i types fits p may does.
    let frame = frame_in c.args.visible.now c.args.own.now in
    c.ends_where.ensures.same i frame p
    ∙ where_effect source block c.args.targets.now room i c.args.first (working c.args.r.now frame)
    (subst (λ d. IsAction source block c.args.targets.now room d i) c.in-EndWhere.is does)

pub returns-in-EndWhere-clause-goes : goal.returns-in-EndWhere-clause-goes
returns-in-EndWhere-clause-goes c = goes_plainly c.args.instr.now.action c.ends_where.result c.ends_where.ensures.goes

pub returns-in-EndWhere-clause-depth : goal.returns-in-EndWhere-clause-depth
returns-in-EndWhere-clause-depth c = λ ok.
    let low : c.ends_where.new.r.depth ≤ c.args.r.now.depth = omega (arith, c.ends_where.ensures.depth) in
    subst (λ d. c.ends_where.new.r.depth ≤ opened d c.args.r.now.depth) (sym c.in-EndWhere.is) low

pub returns-in-Call-clause-same : goal.returns-in-Call-clause-same
returns-in-Call-clause-same c = λ source block room i types fits p may does.
    absurd (no_call source block c.args.targets.now room c.in-Call.field-0 i
    (subst (λ d. IsAction source block c.args.targets.now room d i) c.in-Call.is does))

pub returns-in-Call-clause-depth : goal.returns-in-Call-clause-depth
returns-in-Call-clause-depth c = λ ok.
    let low : c.args.r.now.depth ≤ c.args.r.now.depth = omega arith in
    subst (λ d. c.args.r.now.depth ≤ opened d c.args.r.now.depth) (sym c.in-Call.is) low
