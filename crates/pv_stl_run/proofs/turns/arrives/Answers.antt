use Rattle.std.proofs.Common.{◌≡◌, suc, ◌+◌, ◌-◌, ◌<◌, length, arith, refl, ◌∙◌}
use Rattle.std.proofs.Math.ListN.{set}
use Rattle.pv_stl_run.specs.declared.turns.Turn.{Turn}
use Rattle.pv_stl_run.specs.Going.{entered_of}
use Rattle.pv_stl_run.proofs.TurnLaws.{begins_at}
use Rattle.pv_stl_run.proofs.Moves.{arrived_none, arrived_over, arrived_in, has_room, nested_in, nested_on, most_in_arrived}
use Rattle.pv_stl_run.proofs.turns.arrives.Goals as goal

pub returns-in-None-clause-same : goal.returns-in-None-clause-same
returns-in-None-clause-same c = λ source calls act all w b h nested room.
    arrived_none source calls act all w c.args.code.now c.args.at (entered_of c.args.turns.now c.args.entered) h c.in-None.ensures

pub returns-in-None-clause-nested : goal.returns-in-None-clause-nested
returns-in-None-clause-nested c = λ nested.
    nested_on c.args.code.now c.args.turns.now c.args.entered c.args.at (suc c.args.at) nested (omega arith)

pub returns-then-bound-eq0-clause-same : goal.returns-then-bound-eq0-clause-same
returns-then-bound-eq0-clause-same c = λ source calls act all w b h nested room.
    let at = begins_at c.args.code.now c.args.at c.in-Some.label c.in-Some.ensures in
    arrived_over source calls act all w c.args.code.now c.args.at at.begin c.in-Some.label (entered_of c.args.turns.now c.args.entered) h at.is at.range
    (b ∙ c.if-bound-eq0.true)

pub returns-then-entered-turns-clause-same : goal.returns-then-entered-turns-clause-same
returns-then-entered-turns-clause-same c = λ source calls act all w b h nested room.
    let at = begins_at c.args.code.now c.args.at c.in-Some.label c.in-Some.ensures in
    let t : Turn = record { at = c.args.at; left = c.args.bound - 1 } in
    let more : c.args.bound ≡ suc (c.args.bound - 1) = omega arith in
    arrived_in source calls act all w c.args.code.now c.args.at at.begin c.in-Some.label c.args.turns.now (set c.args.turns.now c.args.entered t)
    c.args.entered (c.args.entered + 1) (c.args.bound - 1) t h at.is at.range (b ∙ more) (omega arith) refl refl refl (omega arith)

pub returns-then-entered-turns-clause-most : goal.returns-then-entered-turns-clause-most
returns-then-entered-turns-clause-most c =
    let at = begins_at c.args.code.now c.args.at c.in-Some.label c.in-Some.ensures in
    let t : Turn = record { at = c.args.at; left = c.args.bound - 1 } in
    most_in_arrived c.args.bound (c.args.bound - 1) c.args.code.now c.args.turns.now (set c.args.turns.now c.args.entered t) c.args.entered c.args.at
    (c.args.entered + 1) at.begin c.in-Some.label t at.is at.range (omega arith) (omega arith) refl refl refl (omega arith)

pub returns-then-entered-turns-clause-nested : goal.returns-then-entered-turns-clause-nested
returns-then-entered-turns-clause-nested c = λ nested.
    let at = begins_at c.args.code.now c.args.at c.in-Some.label c.in-Some.ensures in
    let t : Turn = record { at = c.args.at; left = c.args.bound - 1 } in
    nested_in c.args.code.now c.args.turns.now (set c.args.turns.now c.args.entered t) c.args.entered c.args.at (c.args.entered + 1) at.begin
    c.in-Some.label t at.is at.range nested (omega arith) refl refl (omega arith)

pub returns-clause-same : goal.returns-clause-same
returns-clause-same c = λ source calls act all w b h nested room.
    let at = begins_at c.args.code.now c.args.at c.in-Some.label c.in-Some.ensures in
    let fits : c.args.entered < length c.args.turns.now =
    has_room c.args.code.now c.args.turns.now c.args.entered c.args.at at.begin c.in-Some.label at.is at.range nested room in
    absurd (omega arith)

pub returns-clause-nested : goal.returns-clause-nested
returns-clause-nested c = λ nested.
    nested_on c.args.code.now c.args.turns.now c.args.entered c.args.at (suc c.args.at) nested (omega arith)
