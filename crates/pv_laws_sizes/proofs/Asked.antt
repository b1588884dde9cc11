-- The blocks about which the limit asks are those to which steps along the calls by number lead.
use Rattle.std.proofs.Common.{◌≡◌, ℕ, zero, suc, ◌<◌, List, [], ◌∷◌, length, Some, is_some, slice_get, slice_index_or, true≢false, sym, ap, subst, ◌∙◌, arith}
use Rattle.pv_tree.specs.Tree.{BlockTree}
use Rattle.pv_tree.specs.Scopes.{ProjectTree}
use Rattle.pv_graph.specs.Graphs.{Leads}
use Rattle.pv_rules_call.specs.Links.{IsFirstBlock, AreLinks}
use Rattle.pv_rules_call.specs.ByNumber.{links_graph}
use Rattle.pv_rules_call.specs.declared.links.Links.{Links}
use Rattle.pv_rules_call.proofs.ForCallers.{Numbered, numbered, leads_down, leads_up, same_graph}
use Rattle.pv_sizes.specs.Limits.{IsAsked, KeepsLimit}
use Rattle.pv_laws_sizes.specs.Walks.{HasNumber, IsWalkedTo, KeepsLimitOnWalks}

same_some : {X : Type 0} (x y : X) → Some x ≡ Some y → x ≡ y
same_some x y e = cc

got_at : {X : Type 0} (xs : List X) (i : ℕ) (x : X) → i < length xs → slice_index_or xs i x ≡ x → slice_get xs i ≡ Some x
got_at [] i x lt is = absurd (omega (arith, lt))
got_at (y ∷ ys) zero x lt is = ap Some is
got_at (y ∷ ys) (suc i) x lt is = got_at ys i x (omega (arith, lt)) is

at_got : {X : Type 0} (xs : List X) (i : ℕ) (x : X) → slice_get xs i ≡ Some x → (i < length xs) × (slice_index_or xs i x ≡ x)
at_got [] i x is = absurd (true≢false (sym (ap is_some is)))
at_got (y ∷ ys) zero x is = (omega arith, same_some y x is)
at_got (y ∷ ys) (suc i) x is = let rest = at_got ys i x is in let lt = rest.0 in (omega (arith, lt), rest.1)

module _ (project : ProjectTree) where
  into : (b : BlockTree) (n : ℕ) → HasNumber project b n → Numbered project b n
  into b n h = let a = at_got project.blocks n b h.there in record {
    at = record { below = a.0; there = a.1 };
    number = h.first;
  }

  back : (b : BlockTree) (n : ℕ) → Numbered project b n → HasNumber project b n
  back b n h = record { there = got_at project.blocks n b h.at.below h.at.there; first = h.number }

pub has_number : (project : ProjectTree) (b : BlockTree) → IsFirstBlock project b → (n : ℕ) × HasNumber project b n
has_number project b is = let n = numbered project b is in (n.0, back project b n.0 n.1)

pub walk_down : (project : ProjectTree) (all : List Links) (entry block : BlockTree) (from : ℕ) → AreLinks project all → HasNumber project entry from
    → IsAsked project entry block → IsWalkedTo project all from block
walk_down project all entry block from are at asked =
    let led = leads_down project entry block from (into project entry from at) asked in
    (led.0, back project block led.0 led.1, subst (λ g. Leads g from led.0) (sym (same_graph project all are)) led.2)

pub walk_up : (project : ProjectTree) (all : List Links) (entry : BlockTree) (from to : ℕ) → AreLinks project all → HasNumber project entry from
    → Leads (links_graph all) from to → (block : BlockTree) × HasNumber project block to × IsAsked project entry block
walk_up project all entry from to are at leads =
    let led = leads_up project entry from to (into project entry from at) (subst (λ g. Leads g from to) (same_graph project all are) leads) in
    (led.0, back project led.0 to led.1, led.2)

asked_there : (project : ProjectTree) (all : List Links) (entry block : BlockTree) (from to : ℕ) → AreLinks project all → HasNumber project entry from
    → Leads (links_graph all) from to → slice_get project.blocks to ≡ Some block → IsAsked project entry block
asked_there project all entry block from to are at leads there =
    let led = walk_up project all entry from to are at leads in
    subst (IsAsked project entry) (same_some led.0 block (sym led.1.there ∙ there)) led.2

pub walk_back : (project : ProjectTree) (all : List Links) (entry block : BlockTree) (from : ℕ) → AreLinks project all → HasNumber project entry from
    → IsWalkedTo project all from block → IsAsked project entry block
walk_back project all entry block from are at w = asked_there project all entry block from w.0 are at w.2 w.1.there

pub kept_down : (project : ProjectTree) (all : List Links) (entry : BlockTree) (from : ℕ) → AreLinks project all → HasNumber project entry from
    → KeepsLimit project entry → KeepsLimitOnWalks project all from
kept_down project all entry from are at keeps =
    λ to block leads there. keeps block (asked_there project all entry block from to are at leads there)

pub kept_up : (project : ProjectTree) (all : List Links) (entry : BlockTree) (from : ℕ) → AreLinks project all → HasNumber project entry from
    → KeepsLimitOnWalks project all from → KeepsLimit project entry
kept_up project all entry from are at keeps =
    λ block asked. (let w = walk_down project all entry block from are at asked in keeps w.0 block w.2 w.1.there)
