use Rattle.std.proofs.Common.{ap, ◌∙◌, map, [], ◌∷◌}
use Rattle.std.proofs.lemmas.List.{map-append}
use Rattle.pv_tree.specs.View.{stmt_tree}
use Rattle.pv_rules.proofs.statements.add_one.Goals as goal

pub returns : goal.returns
returns c =
    ap (map (λ s. stmt_tree s.now)) c.in_ok-push.ensures.items ∙ map-append (λ s. stmt_tree s.now) c.args.all.now.items (c.args.stmt ∷ [])
