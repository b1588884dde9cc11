use Rattle.std.proofs.Common.{inl, inr, ap, sym, ◌∙◌}
use Rattle.pv_tree.specs.View.{instr_tree}
use Rattle.pv_mean.specs.InstructionReads.{reads}
use Rattle.pv_names.specs.InScope.{scope_of}
use Rattle.pv_sizes.specs.Counts.{capped}
use Rattle.pv_sizes.specs.Steps.{sum_behind}
use Rattle.pv_sizes.proofs.Instructing.{or_behind, load_behind, joined_behind}
use Rattle.pv_sizes.proofs.instructions.behind_size.Goals as goal

pub returns-in-O : goal.returns-in-O
returns-in-O c =
    let i = instr_tree c.args.instr.now in
    let here = scope_of c.args.scope.now in
    or_behind here i c.value_size-in-O.result c.value_size-in-O.ensures ∙ ap (λ o. capped (sum_behind here i (reads i o))) (sym c.in-O.is)

pub returns-in-L : goal.returns-in-L
returns-in-L c =
    let i = instr_tree c.args.instr.now in
    let here = scope_of c.args.scope.now in
    load_behind here i c.load_size.result c.load_size.ensures ∙ ap (λ o. capped (sum_behind here i (reads i o))) (sym c.in-L.is)

pub returns-in-Aw : goal.returns-in-Aw
returns-in-Aw c =
    let i = instr_tree c.args.instr.now in
    let here = scope_of c.args.scope.now in
    let same = joined_behind here i in
    elim c.in-Aw.is [
      | inl a ↦ same ∙ ap (λ o. capped (sum_behind here i (reads i o))) (sym a)
      | inr (inl a) ↦ same ∙ ap (λ o. capped (sum_behind here i (reads i o))) (sym a)
      | inr (inr (inl a)) ↦ same ∙ ap (λ o. capped (sum_behind here i (reads i o))) (sym a)
      | inr (inr (inr (inl a))) ↦ same ∙ ap (λ o. capped (sum_behind here i (reads i o))) (sym a)
      | inr (inr (inr (inr (inl a)))) ↦ same ∙ ap (λ o. capped (sum_behind here i (reads i o))) (sym a)
      | inr (inr (inr (inr (inr a)))) ↦ same ∙ ap (λ o. capped (sum_behind here i (reads i o))) (sym a)
    ]
