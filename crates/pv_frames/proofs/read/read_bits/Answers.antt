use Rattle.std.proofs.Common.{rules, ◌≡◌, ℕ, ℤ, false, pos, length, slice_index_or, w32, FitsSigned, sym, ◌∙◌, ap, subst}
use Rattle.std.proofs.lemmas.Int.{to_z-of_z}
use Rattle.pv_cnf.specs.Literal.{literal_value, is_outside}
use Rattle.pv_frames.specs.Frames.{literal_in}
use Rattle.pv_frames.specs.Tables.{table_frame}
use Rattle.pv_frames.proofs.Inside.{literal-inside}
use Rattle.pv_frames.proofs.Reading.{read-more}
use Rattle.pv_frames.proofs.read.read_bits.Goals as goal

pub is_true-requires : goal.is_true-requires
is_true-requires g c =
    let f = table_frame c.args.begins.now c.args.gates in
    let l = slice_index_or c.args.literals.now c.loop-k.k (pos 0) in
    let fits : FitsSigned w32 l = search rules in
    subst (λ (n : ℕ). is_outside (g.V.Values.assigned c.args.values.now) n ≡ false) (sym (c.literal.ensures ∙ ap (literal_in f) (to_z-of_z w32 l fits)))
    (literal-inside (g.V.Values.assigned c.args.values.now) (length c.args.c.now.gates.nodes) f l c.requires.inside (c.requires.names c.loop-k.k (pos 0) c.loop-k-test.true))

pub loop-k-preserved : goal.loop-k-preserved
loop-k-preserved g c =
    let f = table_frame c.args.begins.now c.args.gates in
    let truth = g.V.Values.truth c.args.values.now in
    let l = slice_index_or c.args.literals.now c.loop-k.k (pos 0) in
    let fits : FitsSigned w32 l = search rules in
    read-more (λ (z : ℤ). literal_value truth (literal_in f z)) c.args.literals.now c.loop-k.k (pos 0) c.loop-k.bits c.push.new.self c.is_true.result c.loop-k-test.true
    (c.is_true.ensures ∙ ap (literal_value truth) (c.literal.ensures ∙ ap (literal_in f) (to_z-of_z w32 l fits)))
    c.loop-k.invariant c.in_ok-push.ensures.ok
