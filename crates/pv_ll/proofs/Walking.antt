-- Walks, one after another.
use Rattle.std.proofs.Common.{◌≡◌, ℕ, List, [], ◌∷◌, ◌++◌, refl, ap, ◌∙◌, append_assoc}
use Rattle.pv_ll.specs.declared.table.Symbol.{Symbol}
use Rattle.pv_ll.specs.Grammar.{Grammar}
use Rattle.pv_ll.specs.Walk.{Step, Walks, tokens_of}
use Rattle.pv_ll.specs.Walk.Step.{Enter, Pass, Leave}
use Rattle.pv_ll.specs.Walk.Walks.{over, on, through}

pub tokens_append : (a b : List Step) → tokens_of (a ++ b) ≡ tokens_of a ++ tokens_of b
tokens_append [] b = refl
tokens_append (Enter k ∷ a) b = tokens_append a b
tokens_append (Pass t ∷ a) b = ap (λ (z : List ℕ). t ∷ z) (tokens_append a b)
tokens_append (Leave k ∷ a) b = tokens_append a b

-- a walk through symbols and then one through others
pub walks_on : {g : Grammar} {own rest : List ℕ} {ss more : List Symbol} {steps others : List Step} → Walks g own ss steps → Walks g rest more others
    → Walks g (own ++ rest) (ss ++ more) (steps ++ others)
walks_on over e = e
walks_on (on d) e = on (walks_on d e)
walks_on {rest = rest} {others = after} (through {own = o} {rest = r} {inner = inner} {others = others} k p d f t s) e =
    through k p d (walks_on f e)
    (ap (λ (z : List ℕ). z ++ rest) t ∙ ap (λ (z : List ℕ). k ∷ z) (append_assoc o r rest))
    (ap (λ (z : List Step). z ++ after) s ∙ ap (λ (z : List Step). Enter k ∷ z) (append_assoc inner (Leave k ∷ others) after))
