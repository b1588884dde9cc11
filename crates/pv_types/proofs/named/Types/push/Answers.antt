use Rattle.std.proofs.Common.{ap, sym, ◌∙◌, map}
use Rattle.std.specs.Prelude.{bytes_eq, is_some}
use Rattle.std.specs.Map.{lookup}
use Rattle.indexmap.specs.IndexMap.{insert_entry}
use Rattle.pv_types.specs.View.{var_trees}
use Rattle.pv_types.proofs.LookUps.{typed, with_known, with_new}
use Rattle.pv_types.proofs.named.Types.push.Goals as goal

pub returns-then-contains_key-clause-pushed : goal.returns-then-contains_key-clause-pushed
returns-then-contains_key-clause-pushed c =
    with_known (λ v. var_trees v.now) c.args.self.now.types.entries c.args.name.now.key c.args.vars
    (sym (c.contains_key.ensures ∙ ap (λ k. is_some (lookup (bytes_eq k) c.args.self.now.types.entries)) c.key-own.ensures)
    ∙ c.if-contains_key.true)

pub returns-clause-pushed : goal.returns-clause-pushed
returns-clause-pushed c =
    ap (map (typed (λ v. var_trees v.now)))
    (c.in_ok-insert.ensures.entries
    ∙ ap (λ k. insert_entry bytes_eq c.args.self.now.types.entries k c.args.vars) (c.in_ok-key.ensures.cases ∙ c.key-own.ensures))
    ∙ with_new (λ v. var_trees v.now) c.args.self.now.types.entries c.args.name.now.key c.args.vars
    (sym (c.contains_key.ensures ∙ ap (λ k. is_some (lookup (bytes_eq k) c.args.self.now.types.entries)) c.key-own.ensures)
    ∙ c.if-contains_key.false)
