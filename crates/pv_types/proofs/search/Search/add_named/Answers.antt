use Rattle.std.proofs.Common.{ap, sym, refl, ◌∙◌}
use Rattle.std.specs.Prelude.{bytes_eq, is_some}
use Rattle.std.specs.Map.{lookup}
use Rattle.indexmap.specs.IndexMap.{insert_entry}
use Rattle.pv_types.specs.Named.{types_of}
use Rattle.pv_types.specs.View.{var_trees}
use Rattle.pv_types.proofs.Searching.{met_covered, named_covered}
use Rattle.pv_types.proofs.search.Search.add_named.Goals as goal

pub returns-then-contains_key : goal.returns-then-contains_key
returns-then-contains_key c =
    met_covered (types_of c.args.named.now) c.args.self.now c.args.name.now.key (sym (c.contains_key.ensures
    ∙ ap (λ k. is_some (lookup (bytes_eq k) c.args.self.now.met.entries)) c.key-own.ensures) ∙ c.if-contains_key.true)

pub returns : goal.returns
returns c =
    named_covered (types_of c.args.named.now) c.args.self.now _ _ c.args.name.now.key (var_trees c.in-Some.vars.now)
    (sym (c.contains_key.ensures ∙ ap (λ k. is_some (lookup (bytes_eq k) c.args.self.now.met.entries)) c.key-own.ensures)
    ∙ c.if-contains_key.false)
    c.in_ok-push.ensures.items
    (c.in_ok-insert.ensures.entries ∙ ap (λ k. insert_entry bytes_eq c.args.self.now.met.entries k tt) (c.in_ok-key.ensures.cases ∙ c.key-own.ensures))
    (λ n. refl) c.in-Some.ensures
