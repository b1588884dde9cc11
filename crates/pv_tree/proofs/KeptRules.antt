-- What follows of the rules: each law is the rule's own statement, turned round at the place that it names.
use Rattle.std.proofs.Common.{◌≡◌, Bool, true, false, not, ◌&&◌, inl, inr, refl, sym}
use Rattle.std.proofs.lemmas.Bool.{true≢false}
use Rattle.std.specs.Prelude.{IsTrue}
use Rattle.pv_tree.specs.Tree.{BlockTree}
use Rattle.pv_tree.specs.Scopes.{ProjectTree}
use Rattle.pv_tree.specs.Things.{first_place}
use Rattle.pv_tree.specs.Rules.{KeepsRules, missing_type, beyond_bounds, cycle, too_deep}
use Rattle.pv_tree.specs.Rules.Chains.{EndsChain}
use Rattle.pv_tree.specs.RuleLaws.{TypesAreGrounded, CallsAreBounded, IndexesLie}

pub grounded : (project : ProjectTree) → KeepsRules project → TypesAreGrounded project
grounded project keeps = record {
  there = λ block name b n none. keeps missing_type name.1 (b.0, block, b.1, b.2, (n.0, name, n.1, n.2, (refl, inl none)));
  ends = λ block name b n holds. keeps missing_type name.1 (b.0, block, b.1, b.2, (n.0, name, n.1, n.2, (refl, inr holds)));
}

ninth : (project : ProjectTree) → KeepsRules project → (block : BlockTree) → EndsChain project 8 block → ⊥
ninth project keeps block (k, caller, small, at, (ends, (j, s, less, is, run))) =
    keeps too_deep s.call.place (k, caller, small, at, (ends, (j, s, less, is, (refl, (block, run)))))

pub bounded : (project : ProjectTree) → KeepsRules project → CallsAreBounded project
bounded project keeps = record {
  no_return =
      λ caller callee s b c run leads. keeps cycle s.call.place (b.0, caller, b.1, b.2, (c.0, s, c.1, c.2, (refl, (callee, run, leads))));
  no_ninth = ninth project keeps;
}

lies : (a b : Bool) → a ≡ true → (IsTrue (a && not b) → ⊥) → b ≡ true
lies true true p f = refl
lies true false p f = absurd (f refl)
lies false b p f = absurd (true≢false (sym p))

pub indexes_lie : (project : ProjectTree) → KeepsRules project → IndexesLie project
indexes_lie project keeps = λ block p i b c d is. lies _ _ is
    (λ beyond. keeps beyond_bounds (first_place i.index) (b.0, block, b.1, b.2, (c.0, p, c.1, c.2, (d.0, i, d.1, d.2, (refl, beyond)))))
