use Rattle.std.proofs.Common.{◌≤◌, ◌∙◌, rules, length, slice_index, sym, ap, Some}
use Rattle.std.specs.List.{between}
use Rattle.pv_cnf.proofs.Parts.{LeadTo_at, parts_from_at}
use Rattle.pv_cnf.proofs.formula.part.Goals as goal

pub offset_bounds-all-start : goal.offset_bounds-all-start
offset_bounds-all-start c =
    let within : (c.start_of-start.result ≤ slice_index c.args.ends.now c.args.n) × (slice_index c.args.ends.now c.args.n ≤ length c.args.all.now) = rw c.start_of-start.ensures (LeadTo_at 0 c.args.ends.now (length c.args.all.now) c.args.n c.requires.covered c.requires.there) in
    search rules

pub slice_bounds-result-count : goal.slice_bounds-result-count
slice_bounds-result-count c =
    let within : (c.start_of-start.result ≤ slice_index c.args.ends.now c.args.n) × (slice_index c.args.ends.now c.args.n ≤ length c.args.all.now) = rw c.start_of-start.ensures (LeadTo_at 0 c.args.ends.now (length c.args.all.now) c.args.n c.requires.covered c.requires.there) in
    search rules

pub slice_bounds-result-start : goal.slice_bounds-result-start
slice_bounds-result-start c =
    let within : (c.start_of-start.result ≤ slice_index c.args.ends.now c.args.n) × (slice_index c.args.ends.now c.args.n ≤ length c.args.all.now) = rw c.start_of-start.ensures (LeadTo_at 0 c.args.ends.now (length c.args.all.now) c.args.n c.requires.covered c.requires.there) in
    search rules

pub slice_bounds-result-end : goal.slice_bounds-result-end
slice_bounds-result-end c =
    let within : (c.start_of-start.result ≤ slice_index c.args.ends.now c.args.n) × (slice_index c.args.ends.now c.args.n ≤ length c.args.all.now) = rw c.start_of-start.ensures (LeadTo_at 0 c.args.ends.now (length c.args.all.now) c.args.n c.requires.covered c.requires.there) in
    search rules

pub returns : goal.returns
returns c = parts_from_at 0 c.args.ends.now c.args.all.now c.args.n c.requires.there ∙ ap (λ start. Some (between start (slice_index c.args.ends.now c.args.n) c.args.all.now)) (sym c.start_of-start.ensures)
