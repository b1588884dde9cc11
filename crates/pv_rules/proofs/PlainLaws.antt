-- Blocks tested one by one for instructions.
use Rattle.std.proofs.Common.{◌≡◌, refl, sym, subst, inl, inr, List, [], ◌∷◌, map, Bool, true, false, ◌&&◌, true≢false, IsTrue}
use Rattle.std.specs.Prelude.{◌↔◌}
use Rattle.std.specs.List.{list_all}
use Rattle.pv_tree.specs.declared.block.Block.{Block}
use Rattle.pv_tree.specs.Tree.{BlockTree}
use Rattle.pv_tree.specs.View.{block_tree}
use Rattle.pv_tree.specs.Parts.{instructions_of}
use Rattle.pv_rules_expr.specs.Members.{Has}
use Rattle.pv_rules_expr.proofs.ForCallers.{has_contains, contains_has}
use Rattle.pv_rules.specs.NoInstructions.{is_none, is_plain, ArePlain}

none_nil : {X : Type 0} (xs : List X) → IsTrue (is_none xs) → xs ≡ []
none_nil [] h = refl
none_nil (x ∷ xs) h = absurd (true≢false (sym h))

nil_none : {X : Type 0} (xs : List X) → xs ≡ [] → IsTrue (is_none xs)
nil_none xs e = subst (λ l. IsTrue (is_none l)) (sym e) refl

apart : (a b : Bool) → IsTrue (a && b) → IsTrue a × IsTrue b
apart true b h = (refl, h)
apart false b h = absurd (true≢false (sym h))

of_both : (a b : Bool) → IsTrue a → IsTrue b → IsTrue (a && b)
of_both true b h g = g
of_both false b h g = absurd (true≢false (sym h))

each_plain : (bs : List Block) → IsTrue (list_all (λ b. is_plain (block_tree b)) bs) → (x : BlockTree) → Has (map block_tree bs) x
    → instructions_of x.body ≡ []
each_plain [] h x has = absurd has
each_plain (b ∷ bs) h x (inl is) =
    subst (λ y. instructions_of y.body ≡ []) is
    (none_nil (instructions_of (block_tree b).body) (apart (is_plain (block_tree b)) (list_all (λ b. is_plain (block_tree b)) bs) h).0)
each_plain (b ∷ bs) h x (inr has) =
    each_plain bs (apart (is_plain (block_tree b)) (list_all (λ b. is_plain (block_tree b)) bs) h).1 x has

plain_each : (bs : List Block) → ((x : BlockTree) → Has (map block_tree bs) x → instructions_of x.body ≡ [])
    → IsTrue (list_all (λ b. is_plain (block_tree b)) bs)
plain_each [] all = refl
plain_each (b ∷ bs) all =
    of_both (is_plain (block_tree b)) (list_all (λ b. is_plain (block_tree b)) bs)
    (nil_none (instructions_of (block_tree b).body) (all (block_tree b) (inl refl)))
    (plain_each bs (λ x has. all x (inr has)))

pub plain_tested : (bs : List Block) (t : Bool) → t ≡ list_all (λ b. is_plain (block_tree b)) bs → IsTrue t ↔ ArePlain (map block_tree bs)
plain_tested bs t is = (
  (λ h x c. each_plain bs (subst IsTrue is h) x (contains_has (map block_tree bs) x c)),
  (λ all. subst IsTrue (sym is) (plain_each bs (λ x has. all x (has_contains (map block_tree bs) x has)))),
)
