use Rattle.std.proofs.Common.{rules, ◌-◌, pos, length, unsigned_abs, w32, FitsSigned, slice_index_or, ap, ◌∙◌}
use Rattle.std.proofs.lemmas.Int.{to_z-of_z}
use Rattle.std.proofs.lemmas.List.{length-set}
use Rattle.pv_frames.proofs.Laying.{placed-more}
use Rattle.pv_frames.proofs.table.place.Goals as goal

pub loop-k-preserved : goal.loop-k-preserved
loop-k-preserved c =
    let l = slice_index_or c.args.nodes.now c.loop-k.k (pos 0) in
    let fits : FitsSigned w32 l = search rules in
    record {
      placed = placed-more c.loop-k.begins (length c.args.begins.now) c.args.nodes.now c.args.given.now c.loop-k.k _ c.loop-k.invariant.long c.requires.nodes
          c.loop-k-test.true c.requires.given (ap (λ z. unsigned_abs z - 2) (to_z-of_z w32 l fits)) c.loop-k.invariant.placed;
      long = length-set c.loop-k.begins _ _ ∙ c.loop-k.invariant.long;
    }
