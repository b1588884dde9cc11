use Rattle.std.proofs.Common.{◌≤◌, sym, subst, ◌∙◌, ap, pos, insert, ℕ}
use Rattle.pv_machine.specs.Machines.{Values}
use Rattle.pv_contracts_machine.proofs.Inserting.{input_length, inserted}
use Rattle.pv_contracts_machine.proofs.without.WithoutReduction.pull.Goals as goal

pub insert-requires : goal.insert-requires
insert-requires c = subst (λ (n : ℕ). c.args.self.now.number ≤ n) (input_length _ c.args.input.now c.requires ∙ sym c.in_ok-all.ensures.len) c.args.self.now.inside

pub returns : goal.returns
returns c = c.in_ok-insert.ensures.items ∙ (ap (λ (v : Values). insert v c.args.self.now.number (pos 0)) c.in_ok-all.ensures.items
    ∙ inserted c.args.self.now.number c.args.input.now (subst (λ (n : ℕ). c.args.self.now.number ≤ n) (input_length _ c.args.input.now c.requires) c.args.self.now.inside))
