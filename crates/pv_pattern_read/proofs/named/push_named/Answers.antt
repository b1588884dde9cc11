use Rattle.std.proofs.Common.{inl, inr, refl}
use Rattle.std.proofs.lemmas.Result.{on_ok_weaker}
use Rattle.pv_tree.specs.View.{expr_tree}
use Rattle.pv_pattern_read.proofs.TextLaws.{some_is, none_is}
use Rattle.pv_pattern_read.proofs.named.push_named.Goals as goal

pub returns-in-Some : goal.returns-in-Some
returns-in-Some c =
    on_ok_weaker c.push_addresses.result
    (λ g. inl (expr_tree c.in-Some.e, some_is c.args.text.now _ c.in-Some.e c.in-Some.is c.in_ok-e.ensures.found, g)) c.push_addresses.ensures

pub returns-in-None : goal.returns-in-None
returns-in-None c = inr (none_is c.args.text.now _ c.in-None.is c.in_ok-e.ensures.none, refl)
