use Rattle.std.proofs.Common.{refl, sym, ap, ◌∙◌}
use Rattle.std.specs.Prelude.{bytes_eq, is_some}
use Rattle.std.specs.Map.{lookup}
use Rattle.indexmap.specs.IndexMap.{insert_entry}
use Rattle.pv_rules_decl.proofs.Doubling.{met_again, met_new}
use Rattle.pv_rules_decl.proofs.doubled.Names.meet.Goals as goal

pub returns-then-contains_key-clause-met : goal.returns-then-contains_key-clause-met
returns-then-contains_key-clause-met c = λ all are.
    met_again c.args.self.now (record { seen = c.args.self.now.seen }) all (c.args.name.now, c.args.place.now) (sym (c.contains_key.ensures ∙ ap (λ k. is_some (lookup (bytes_eq k) c.args.self.now.seen.entries)) c.key-own.ensures) ∙ c.if-contains_key.true) refl are

pub returns-clause-met : goal.returns-clause-met
returns-clause-met c = λ all are.
    met_new c.args.self.now (record { seen = c.insert.new.self }) all (c.args.name.now, c.args.place.now)
    (c.in_ok-insert.ensures.entries ∙ ap (λ k. insert_entry bytes_eq c.args.self.now.seen.entries k tt) (c.in_ok-key.ensures.cases ∙ c.key-own.ensures)) are
