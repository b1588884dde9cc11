use Rattle.std.proofs.Common.{rules, ◌≡◌, ℕ, suc, ◌+◌, ◌<◌, ◌≤◌, slice_get, refl, sym, subst, ap, ◌∙◌, arith}
use Rattle.std.specs.Prelude.{slice_index_or}
use Rattle.pv_inline.specs.Blocks.{codes_in}
use Rattle.pv_inline.specs.Seen.{copy_seen, making_seen}
use Rattle.pv_inline.specs.Walking.{all_made, base, below, called_made, copy_made}
use Rattle.pv_flow.specs.Calls.{own_count}
use Rattle.pv_flow.specs.View.{parts_of}
use Rattle.pv_call_tables.proofs.ForCallers.{passed_on, not_beyond}
use Rattle.pv_inline.specs.Numbers.{MOST}
use Rattle.pv_inline.proofs.Shorts.{first_short}
use Rattle.pv_inline.proofs.ShortWalks.{work_short, nodes_short, deeds_short, before_copy, own_work, own_made, location_within, called_within, inner_work, begin_short, before_called, deeper_work, deeper_made}
use Rattle.pv_inline.proofs.Coded.{ok_by}
use Rattle.pv_inline.proofs.Coding.{callee_seen, called_some, block_some, copy_is}
use Rattle.pv_inline.proofs.walking.+copying.Goals as goal

pub add_called-returns-clause-made : goal.add_called-returns-clause-made
add_called-returns-clause-made t c =
    let some : 0 < c.args.levels = omega arith in
    ok_by c.add_copy.result (λ u made. called_some (codes_in c.args.blocks.now) c.args.levels (copy_seen c.args.copy.now) c.args.from (making_seen c.args.making.now)
    (making_seen c.draw_in.new.making) (making_seen c.add_copy.new.making) some c.in_ok-draw_in.ensures.drawn made) c.add_copy.ensures.made

pub add_call-returns-clause-made : goal.add_call-returns-clause-made
add_call-returns-clause-made t c =
    let before : c.number_at.result ≡ slice_index_or c.args.copy.now.table.now.widths.bases.items c.args.j 0 = search rules in
    ok_by c.add_called.result (λ u made. block_some (codes_in c.args.blocks.now) (below (codes_in c.args.blocks.now) c.args.levels) (copy_seen c.args.copy.now) _ c.args.l
    c.args.j c.in_ok-from.from (slice_get c.args.copy.now.parts.now.calls.items c.args.j) c.in-Some.call.now c.in-Some-at.callee.now
    (making_seen c.args.making.now) (making_seen c.add_called.new.making) c.in-Some.ensures c.in-Some-at.ensures
    (callee_seen (codes_in c.args.blocks.now) (copy_seen c.args.copy.now) c.args.copy.now.places.now c.args.l c.args.j c.in-Some.call.now c.in-Some-at.callee.now
    c.in_ok-table.table c.in_ok-places.places c.in_ok-body.body c.in_ok-own_at.own_at refl refl
    (c.in_ok-own_at.ensures.sum ∙ ap (λ (n : ℕ). c.args.copy.now.body.free + n) before) c.in_ok-table.ensures.made
    c.in_ok-places.ensures c.in_ok-body.ensures.body) c.in_ok-from.ensures.number made) c.add_called.ensures.made

pub add_copy-returns-clause-made : goal.add_copy-returns-clause-made
add_copy-returns-clause-made t c =
    ok_by c.add_locations.result (λ u made. copy_is (codes_in c.args.blocks.now) (below (codes_in c.args.blocks.now) c.args.levels) (copy_seen c.args.copy.now)
    (copy_seen c.behind_deeds-own.result) c.in_ok-deeds.deeds (making_seen c.args.making.now) (making_seen c.copy_tables.new.making)
    (making_seen c.add_locations.new.making) c.behind_deeds-own.ensures c.in_ok-deeds.ensures.number c.in_ok-copy_tables.ensures.copied made)
    c.add_locations.ensures.made

-- ---- numbers

pub add_called-returns-in_err-draw_in-clause-short : goal.add_called-returns-in_err-draw_in-clause-short
add_called-returns-in_err-draw_in-clause-short t c p all work more =
    passed_on c.from_residual.result c.in_err-draw_in.field-0.0 c.from_residual.ensures.1
    (c.in_err-draw_in.ensures.short (work_short (codes_in c.args.blocks.now) p c.args.levels (copy_seen c.args.copy.now) all work)
    (deeds_short (codes_in c.args.blocks.now) p (making_seen c.args.making.now) (called_made (below (codes_in c.args.blocks.now) c.args.levels) (copy_seen c.args.copy.now) c.args.from (making_seen c.args.making.now)) all
    (before_called (codes_in c.args.blocks.now) c.args.levels (copy_seen c.args.copy.now) c.args.from (making_seen c.args.making.now)) more))

pub add_called-returns-clause-short : goal.add_called-returns-clause-short
add_called-returns-clause-short t c p all work more =
    let some : 0 < c.args.levels = omega arith in
    c.add_copy.ensures.short p all (deeper_work (codes_in c.args.blocks.now) c.args.levels p (copy_seen c.args.copy.now) some work)
    (deeper_made (codes_in c.args.blocks.now) c.args.levels (all_made (codes_in c.args.blocks.now) p) (copy_seen c.args.copy.now) c.args.from (making_seen c.args.making.now) (making_seen c.draw_in.new.making) some c.in_ok-draw_in.ensures.drawn more)

pub add_call-returns-in_err-own_at-clause-short : goal.add_call-returns-in_err-own_at-clause-short
add_call-returns-in_err-own_at-clause-short t c goes begins p all work more =
    let before : c.number_at.result ≡ slice_index_or c.args.copy.now.table.now.widths.bases.items c.args.j 0 = search rules in
    let b = begin_short (codes_in c.args.blocks.now) c.args.levels p (copy_seen c.args.copy.now) c.args.l c.args.j c.in-Some.call.now c.in-Some-at.callee.now all work
    (record { goes_on = goes; begins = begins; is_call = c.in-Some.ensures; is_block = c.in-Some-at.ensures }) in
    passed_on c.from_residual.result c.in_err-own_at.field-0.0 c.from_residual.ensures.1
    (not_beyond _ c.in_err-own_at.field-0.0 (subst (λ (n : ℕ). c.args.copy.now.body.free + n ≤ MOST) (sym before)
    (first_short (base (copy_seen c.args.copy.now) c.args.j) (own_count (parts_of c.in-Some-at.callee.now)) b.variables)) c.in_err-own_at.ensures.large)

pub add_call-returns-in_err-table-clause-short : goal.add_call-returns-in_err-table-clause-short
add_call-returns-in_err-table-clause-short t c goes begins p all work more =
    let b = begin_short (codes_in c.args.blocks.now) c.args.levels p (copy_seen c.args.copy.now) c.args.l c.args.j c.in-Some.call.now c.in-Some-at.callee.now all work
    (record { goes_on = goes; begins = begins; is_call = c.in-Some.ensures; is_block = c.in-Some-at.ensures }) in
    passed_on c.from_residual-in_err-table.result c.in_err-table.field-0.0 c.from_residual-in_err-table.ensures.1
    (c.in_err-table.ensures.short b.table)

pub add_call-returns-in_err-body-clause-short : goal.add_call-returns-in_err-body-clause-short
add_call-returns-in_err-body-clause-short t c goes begins p all work more =
    let before : c.number_at.result ≡ slice_index_or c.args.copy.now.table.now.widths.bases.items c.args.j 0 = search rules in
    let b = begin_short (codes_in c.args.blocks.now) c.args.levels p (copy_seen c.args.copy.now) c.args.l c.args.j c.in-Some.call.now c.in-Some-at.callee.now all work
    (record { goes_on = goes; begins = begins; is_call = c.in-Some.ensures; is_block = c.in-Some-at.ensures }) in
    passed_on c.from_residual-in_err-body.result c.in_err-body.field-0.0 c.from_residual-in_err-body.ensures.1
    (c.in_err-body.ensures.short (work_short (codes_in c.args.blocks.now) p (suc c.args.levels) (copy_seen c.args.copy.now) all work) b.start b.edges
    (subst (λ (n : ℕ). n + own_count (parts_of c.in-Some-at.callee.now) ≤ MOST)
    (sym (c.in_ok-own_at.ensures.sum ∙ ap (λ (n : ℕ). c.args.copy.now.body.free + n) before)) b.variables))

pub add_call-returns-in_err-from-clause-short : goal.add_call-returns-in_err-from-clause-short
add_call-returns-in_err-from-clause-short t c goes begins p all work more =
    passed_on c.from_residual-in_err-from.result c.in_err-from.field-0.0 c.from_residual-in_err-from.ensures.1
    (c.in_err-from.ensures.short (work_short (codes_in c.args.blocks.now) p (suc c.args.levels) (copy_seen c.args.copy.now) all work))

pub add_call-returns-clause-short : goal.add_call-returns-clause-short
add_call-returns-clause-short t c goes begins p all work more =
    let before : c.number_at.result ≡ slice_index_or c.args.copy.now.table.now.widths.bases.items c.args.j 0 = search rules in
    let same = callee_seen (codes_in c.args.blocks.now) (copy_seen c.args.copy.now) c.args.copy.now.places.now c.args.l c.args.j c.in-Some.call.now c.in-Some-at.callee.now
    c.in_ok-table.table c.in_ok-places.places c.in_ok-body.body c.in_ok-own_at.own_at refl refl
    (c.in_ok-own_at.ensures.sum ∙ ap (λ (n : ℕ). c.args.copy.now.body.free + n) before) c.in_ok-table.ensures.made
    c.in_ok-places.ensures c.in_ok-body.ensures.body in
    c.add_called.ensures.short p all
    (inner_work (codes_in c.args.blocks.now) c.args.levels p (copy_seen c.args.copy.now) _ c.args.l c.args.j c.in-Some.call.now c.in-Some-at.callee.now same work
    (record { goes_on = goes; begins = begins; is_call = c.in-Some.ensures; is_block = c.in-Some-at.ensures }))
    (called_within (codes_in c.args.blocks.now) c.args.levels (all_made (codes_in c.args.blocks.now) p) (copy_seen c.args.copy.now) _ (making_seen c.args.making.now) c.args.l c.args.j c.in_ok-from.from c.in-Some.call.now c.in-Some-at.callee.now
    same c.in_ok-from.ensures.number c.in-Some.ensures c.in-Some-at.ensures more)

pub add_locations-returns-in_err-add_location-clause-short : goal.add_locations-returns-in_err-add_location-clause-short
add_locations-returns-in_err-add_location-clause-short t c p all work more =
    passed_on c.from_residual.result c.in_err-add_location.field-0.0 c.from_residual.ensures.1
    (c.in_err-add_location.ensures.short p all work
    (location_within (codes_in c.args.blocks.now) c.args.levels (all_made (codes_in c.args.blocks.now) p) (copy_seen c.args.copy.now) (making_seen c.args.making.now) (making_seen c.loop-l.making) c.loop-l.l c.args.copy.now.parts.now.locations
    c.loop-l-test.true c.loop-l.invariant more))

pub add_copy-returns-in_err-deeds-clause-short : goal.add_copy-returns-in_err-deeds-clause-short
add_copy-returns-in_err-deeds-clause-short t c p all work more =
    passed_on c.from_residual.result c.in_err-deeds.field-0.0 c.from_residual.ensures.1
    (c.in_err-deeds.ensures.short (deeds_short (codes_in c.args.blocks.now) p (making_seen c.args.making.now) (copy_made (codes_in c.args.blocks.now) (below (codes_in c.args.blocks.now) c.args.levels) (copy_seen c.args.copy.now) (making_seen c.args.making.now)) all
    (before_copy (codes_in c.args.blocks.now) c.args.levels (copy_seen c.args.copy.now) (making_seen c.args.making.now)) more))

pub add_copy-returns-in_err-copy_tables-clause-short : goal.add_copy-returns-in_err-copy_tables-clause-short
add_copy-returns-in_err-copy_tables-clause-short t c p all work more =
    passed_on c.from_residual-in_err-copy_tables.result c.in_err-copy_tables.field-0.0 c.from_residual-in_err-copy_tables.ensures.1
    (c.in_err-copy_tables.ensures.short (nodes_short (codes_in c.args.blocks.now) p (making_seen c.args.making.now) (copy_made (codes_in c.args.blocks.now) (below (codes_in c.args.blocks.now) c.args.levels) (copy_seen c.args.copy.now) (making_seen c.args.making.now)) all
    (before_copy (codes_in c.args.blocks.now) c.args.levels (copy_seen c.args.copy.now) (making_seen c.args.making.now)) more))

pub add_copy-returns-clause-short : goal.add_copy-returns-clause-short
add_copy-returns-clause-short t c p all work more =
    c.add_locations.ensures.short p all
    (own_work (codes_in c.args.blocks.now) c.args.levels p (copy_seen c.args.copy.now) (copy_seen c.behind_deeds-own.result) c.in_ok-deeds.deeds (making_seen c.args.making.now) c.behind_deeds-own.ensures
    c.in_ok-deeds.ensures.number work more)
    (own_made (codes_in c.args.blocks.now) c.args.levels (all_made (codes_in c.args.blocks.now) p) (copy_seen c.args.copy.now) (copy_seen c.behind_deeds-own.result) c.in_ok-deeds.deeds (making_seen c.args.making.now)
    (making_seen c.copy_tables.new.making) c.behind_deeds-own.ensures c.in_ok-deeds.ensures.number c.in_ok-copy_tables.ensures.copied more)
