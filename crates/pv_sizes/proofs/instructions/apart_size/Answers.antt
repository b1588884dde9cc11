use Rattle.std.proofs.Common.{inl, inr, ap, sym, ◌∙◌}
use Rattle.pv_tree.specs.View.{instr_tree}
use Rattle.pv_sizes.proofs.Instructing.{apart_of, or_apart, load_apart, joined_apart}
use Rattle.pv_sizes.proofs.instructions.apart_size.Goals as goal

pub returns-in-O : goal.returns-in-O
returns-in-O c = let i = instr_tree c.args.instr.now in or_apart i ∙ ap (apart_of i) (sym c.in-O.is)

pub returns-in-L : goal.returns-in-L
returns-in-L c = let i = instr_tree c.args.instr.now in load_apart i ∙ ap (apart_of i) (sym c.in-L.is)

pub returns-in-Aw : goal.returns-in-Aw
returns-in-Aw c =
    let i = instr_tree c.args.instr.now in
    let same = c.joined_size.ensures ∙ joined_apart i in
    elim c.in-Aw.is [
      | inl a ↦ same ∙ ap (apart_of i) (sym a)
      | inr (inl a) ↦ same ∙ ap (apart_of i) (sym a)
      | inr (inr (inl a)) ↦ same ∙ ap (apart_of i) (sym a)
      | inr (inr (inr (inl a))) ↦ same ∙ ap (apart_of i) (sym a)
      | inr (inr (inr (inr (inl a)))) ↦ same ∙ ap (apart_of i) (sym a)
      | inr (inr (inr (inr (inr a)))) ↦ same ∙ ap (apart_of i) (sym a)
    ]
