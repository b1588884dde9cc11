use Rattle.std.proofs.Common.{◌≡◌, ◌∙◌, ◌++◌, [], ◌∷◌, sym, ap, length, arith, drop, take, rules, length-append}
use Rattle.std.proofs.lemmas.Grind.{common_steps}
use Rattle.std.proofs.lemmas.List.{take_at}
use Rattle.pv_cnf.specs.Clause.{Cnf, IsClause}
use Rattle.pv_cnf.specs.Layout.{parts_from}
use Rattle.pv_cnf.proofs.Parts.{length-parts_from, LeadTo-push, parts_from-push}
use Rattle.pv_cnf.proofs.Elements.{AreClauses-push}
use Rattle.pv_cnf.proofs.formula.FormulaClauses.push.Goals as goal

lits_new : (c : goal.In_ok-append) → c.append.new.all.items ≡ c.self.inside.lits.items ++ c.args.lits.now
lits_new c = c.in_ok-append.ensures.lits

ends_new : (c : goal.In_ok-append) → c.append.new.ends.items ≡ c.self.inside.ends.items ++ length (c.self.inside.lits.items ++ c.args.lits.now) ∷ []
ends_new c = c.in_ok-append.ensures.ends ∙ ap (λ xs. c.self.inside.ends.items ++ length xs ∷ []) (lits_new c)

clause : (c : goal.In_ok-append) → IsClause c.self.inside.variables c.args.lits.now
clause c = search rules

marks_new : (c : goal.In_ok-append) → take c.self.inside.marks.len (c.fault_of.new.marks ++ drop (length c.fault_of.new.marks) c.self.inside.marks.items) ≡ c.fault_of.new.marks
marks_new c = take_at c.fault_of.new.marks _ c.self.inside.marks.len (grind (arith, common_steps, c.fault_of.auto.marks, c.deref_mut.ensures.len))

pub invariant_of-self-2 : goal.invariant_of-self-2
invariant_of-self-2 c =
    let lits = c.self.inside.lits.items in
    let ends = c.self.inside.ends.items in
    let count : length ends ≡ length c.args.self.now.clauses = sym (length-parts_from 0 ends lits) ∙ ap (λ (f : Cnf). length f.clauses) c.self.view_is in
    record {
      covered = rw (lits_new c, ends_new c) (LeadTo-push 0 ends (length lits) (length (lits ++ c.args.lits.now)) c.self.invariant.covered (omega (arith, length-append lits c.args.lits.now)));
      valid = rw (lits_new c, ends_new c, parts_from-push 0 ends lits c.args.lits.now c.self.invariant.covered) (AreClauses-push c.self.inside.variables (parts_from 0 ends lits) c.args.lits.now c.self.invariant.valid (clause c));
      few = rw (ends_new c) (omega (arith, length-append ends (length (lits ++ c.args.lits.now) ∷ []), count, c.requires.room));
      one_each = rw (marks_new c) (grind (arith, common_steps, c.fault_of.auto.marks, c.deref_mut.ensures.value, c.self.invariant.one_each));
      clear = rw (marks_new c) c.fault_of.ensures.clear;
    }

pub returns-clause-ok : goal.returns-clause-ok
returns-clause-ok c =
    rw (lits_new c, ends_new c, ← c.self.view_is) (parts_from-push 0 c.self.inside.ends.items c.self.inside.lits.items c.args.lits.now c.self.invariant.covered)
