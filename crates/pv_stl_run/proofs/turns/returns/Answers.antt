use Rattle.std.proofs.Common.{◌≡◌, suc, ◌-◌, get_or, Some, None, arith, ap, sym, refl, ◌∙◌}
use Rattle.std.proofs.Math.ListN.{set}
use Rattle.std.specs.Prelude.{slice_get}
use Rattle.pv_stl_run.specs.declared.turns.Turn.{Turn}
use Rattle.pv_stl_run.specs.Going.{turn_at}
use Rattle.pv_stl_run.proofs.TurnLaws.{turn_read, begins_at, ranges_at}
use Rattle.pv_stl_run.proofs.Moves.{left_few, returned_none, returned_over, returned_placed, returned_turn, nested_back, most_in_returned}
use Rattle.pv_stl_run.proofs.turns.returns.Goals as goal

pub returns-then-n-eq0-clause-same : goal.returns-then-n-eq0-clause-same
returns-then-n-eq0-clause-same c = λ source calls act all k limit key w h nested back.
    returned_none source calls act all k c.args.at key w c.args.turns.now c.args.entered c.left_within-n.result back c.left_within-n.ensures
    c.if-n-eq0.true

pub offset_bounds-turns-n : goal.offset_bounds-turns-n
offset_bounds-turns-n c = omega (arith, c.left_within-n.ensures, left_few c.args.at c.args.turns.now c.args.entered)

pub slice_copy_out-turn : goal.slice_copy_out-turn
slice_copy_out-turn c = omega (arith, c.left_within-n.ensures, left_few c.args.at c.args.turns.now c.args.entered)

pub returns-then-turn-gt0-clause-same : goal.returns-then-turn-gt0-clause-same
returns-then-turn-gt0-clause-same c = λ source calls act all k limit key w h nested back.
    let m = c.left_within-n.result - 1 in
    let read = get_or c.args.turns.now m (record { at = 0; left = 0 }) in
    let t : Turn = record { at = c.args.at; left = read.left - 1 } in
    let one : c.left_within-n.result ≡ suc (c.left_within-n.result - 1) = omega arith in
    let left : read.left ≡ suc (read.left - 1) = omega arith in
    let l : (turn_at (slice_get c.args.turns.now m)).left ≡ read.left = ap (λ (x : Turn). x.left) (turn_read c.args.turns.now m) in
    returned_turn source calls act all k c.args.at key w c.args.code.now c.args.turns.now (set c.args.turns.now m t) c.args.entered m
    c.left_within-n.result (read.left - 1) limit t h nested back (sym c.left_within-n.ensures ∙ one) (l ∙ left)
    (omega (arith, c.left_within-n.ensures, left_few c.args.at c.args.turns.now c.args.entered)) refl refl refl one

pub returns-then-turn-gt0-clause-most : goal.returns-then-turn-gt0-clause-most
returns-then-turn-gt0-clause-most c = λ bound.
    let m = c.left_within-n.result - 1 in
    let read = get_or c.args.turns.now m (record { at = 0; left = 0 }) in
    let t : Turn = record { at = c.args.at; left = read.left - 1 } in
    let one : c.left_within-n.result ≡ suc (c.left_within-n.result - 1) = omega arith in
    let left : read.left ≡ suc (read.left - 1) = omega arith in
    let l : (turn_at (slice_get c.args.turns.now m)).left ≡ read.left = ap (λ (x : Turn). x.left) (turn_read c.args.turns.now m) in
    most_in_returned bound (read.left - 1) c.args.code.now c.args.turns.now (set c.args.turns.now m t) c.args.entered c.args.at m
    c.left_within-n.result t (sym c.left_within-n.ensures ∙ one) (l ∙ left) (omega (arith, c.left_within-n.ensures, left_few c.args.at c.args.turns.now c.args.entered)) refl refl refl one

pub returns-then-turn-gt0-clause-nested : goal.returns-then-turn-gt0-clause-nested
returns-then-turn-gt0-clause-nested c = λ limit nested.
    let m = c.left_within-n.result - 1 in
    let read = get_or c.args.turns.now m (record { at = 0; left = 0 }) in
    let t : Turn = record { at = c.args.at; left = read.left - 1 } in
    let one : c.left_within-n.result ≡ suc (c.left_within-n.result - 1) = omega arith in
    nested_back c.args.code.now c.args.turns.now (set c.args.turns.now m t) c.args.at c.args.entered m c.left_within-n.result limit t nested
    (sym c.left_within-n.ensures ∙ one) (omega (arith, c.left_within-n.ensures, left_few c.args.at c.args.turns.now c.args.entered)) refl refl one

pub returns-in-Some-clause-same : goal.returns-in-Some-clause-same
returns-in-Some-clause-same c = λ source calls act all k limit key w h nested back.
    let m = c.left_within-n.result - 1 in
    let read = get_or c.args.turns.now m (record { at = 0; left = 0 }) in
    let one : c.left_within-n.result ≡ suc (c.left_within-n.result - 1) = omega arith in
    let none : read.left ≡ 0 = omega arith in
    let l : (turn_at (slice_get c.args.turns.now m)).left ≡ read.left = ap (λ (x : Turn). x.left) (turn_read c.args.turns.now m) in
    let at = begins_at c.args.code.now c.args.at c.in-Some.label c.in-Some.ensures in
    returned_over source calls act all k c.args.at key w c.args.code.now c.args.turns.now c.args.entered m limit at.begin c.in-Some.label h nested back
    (sym c.left_within-n.ensures ∙ one) (l ∙ none) at.is at.range

pub returns-in-None-clause-same : goal.returns-in-None-clause-same
returns-in-None-clause-same c = λ source calls act all k limit key w h nested back.
    let m = c.left_within-n.result - 1 in
    let one : c.left_within-n.result ≡ suc (c.left_within-n.result - 1) = omega arith in
    let p = returned_placed c.args.code.now all k c.args.at key c.args.turns.now c.args.entered m limit h nested back (sym c.left_within-n.ensures ∙ one) in
    let both : None ≡ Some p.2 = c.in-None.ensures ∙ ranges_at c.args.code.now c.args.at p.0 p.2 p.1 p.3 in
    absurd (cc)
