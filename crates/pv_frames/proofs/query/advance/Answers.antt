use Rattle.std.proofs.Common.{rules, arith, ℕ, false, pos, map, get_or, w32, FitsSigned, ◌∙◌, sym, ap, cond}
use Rattle.std.proofs.lemmas.Int.{to_z-of_z}
use Rattle.std.proofs.lemmas.List.{get_or-map, length-map, length-set}
use Rattle.pv_circuit.specs.declared.start.Start.{Start}
use Rattle.pv_circuit.specs.declared.start.Start.TheVariants.{Fixed, Free}
use Rattle.pv_circuit.specs.Starts.{is_moved}
use Rattle.pv_frames.specs.Frames.{literal_in}
use Rattle.pv_frames.specs.Tables.{table_frame}
use Rattle.pv_frames.proofs.Scanning.{get-same, next-filled}
use Rattle.pv_frames.proofs.query.advance.Goals as goal

pub loop-k-preserved : goal.loop-k-preserved
loop-k-preserved c =
    let f = literal_in (table_frame c.args.begins.now c.args.gates) in
    let ins = c.args.c.now.state_in.items in
    let outs = c.args.c.now.state_out.items in
    let k = c.loop-k.k in
    let fits_i : FitsSigned w32 c.index.result.now = search rules in
    let fits_o : FitsSigned w32 c.index-in-loop-k.result.now = search rules in
    let at_i = c.index.ensures ∙ get-same ins k c.index.result.now (pos 0) (omega (arith, c.loop-k-test.true, c.requires.start)) in
    let at_o = c.index-in-loop-k.ensures ∙ get-same outs k c.index-in-loop-k.result.now (pos 0) (omega (arith, c.loop-k-test.true, c.requires.start, c.requires.end)) in
    let begin = c.literal-begin.ensures ∙ (ap f (to_z-of_z w32 c.index.result.now fits_i ∙ at_i) ∙ sym (get_or-map f ins k (pos 0) 0 (omega (arith, c.loop-k-test.true, c.requires.start)))) in
    let end = c.literal-end.ensures ∙ (ap f (to_z-of_z w32 c.index-in-loop-k.result.now fits_o ∙ at_o) ∙ sym (get_or-map f outs k (pos 0) 0 (omega (arith, c.loop-k-test.true, c.requires.start, c.requires.end)))) in
    let s = get_or c.args.start.now k (Fixed false) in
    let same = get-same c.args.start.now k (Fixed false) Free c.loop-k-test.true in
    record {
      filled = next-filled c.args.start.now (map f ins) (map f outs) c.loop-k.given _ k c.next_literal.result c.loop-k-test.true
          (length-map ins f ∙ sym c.requires.start) (length-map outs f ∙ (c.requires.end ∙ sym c.requires.start))
          (c.loop-k.invariant.long ∙ (c.requires.given ∙ sym c.requires.start))
          (c.next_literal.ensures ∙ (ap (λ (n : ℕ). cond (is_moved s) n c.literal-begin.result) end
          ∙ (ap (λ (n : ℕ). cond (is_moved s) (get_or (map f outs) k 0) n) begin
          ∙ ap (λ (t : Start). cond (is_moved t) (get_or (map f outs) k 0) (get_or (map f ins) k 0)) same)))
          c.loop-k.invariant.filled;
      long = length-set c.loop-k.given _ _ ∙ c.loop-k.invariant.long;
    }
