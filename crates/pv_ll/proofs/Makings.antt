-- What symbols do to a stack, and what the steps of a walk do to it.
--
-- `Runs` is by grammar, `run` by steps; a `Runs` has its own walk (`ran`), and in an LL(1) language the text has no other
-- (`runs_to`). So the steps of the walk that the code takes do what any `Runs` of the text does.
use Rattle.std.proofs.Common.{◌≡◌, ℕ, List, [], ◌∷◌, ◌++◌, map, Some, Option, option_and_then, refl, ap, ◌∙◌, sym, subst, append_assoc}
use Rattle.std.proofs.lemmas.List.{append-nil, map-append}
use Rattle.pv_ll.specs.declared.table.Symbol.{Symbol}
use Rattle.pv_ll.specs.declared.table.Symbol.TheVariants.{Token, Name}
use Rattle.pv_ll.specs.Walk.Step.{Enter, Pass, Leave}
use Rattle.pv_ll.specs.Grammar.{Grammar, Derives, IsProduction}
use Rattle.pv_ll.specs.Grammar.Derives.{nothing, token, name}
use Rattle.pv_ll.specs.Walk.{Step, Walks, tokens_of}
use Rattle.pv_ll.specs.Walk.Walks.{over, on, through}
use Rattle.pv_ll.specs.Making.{Making, Runs, run}
use Rattle.pv_ll.specs.Making.Runs.{none, leaf, node}
use Rattle.pv_ll.proofs.Walking.{tokens_append}

-- ---- derivations on a stack, put together

-- the same of equal tokens
pub on_tokens : {T V : Type 0} {g : Grammar} {m : Making T V} {ss : List Symbol} {ts us : List T} {s behind : List V} → ts ≡ us
    → Runs g m ss ts s behind → Runs g m ss us s behind
on_tokens {g = g} {m = m} {ss = ss} {s = s} {behind = behind} e r = subst (λ z. Runs g m ss z s behind) e r

-- two lists of symbols, one behind the other
pub beside : {T V : Type 0} {g : Grammar} {m : Making T V} {a b : List Symbol} {ts us : List T} {s left behind : List V}
    → Runs g m a ts s left → Runs g m b us left behind → Runs g m (a ++ b) (ts ++ us) s behind
beside none e = e
beside (leaf p r) e = leaf p (beside r e)
beside {us = vs} (node {us = us} {ts = ts} k p d r f w) e =
    node k p d r (beside f e) (ap (λ z. z ++ vs) w ∙ append_assoc us ts vs)

-- one name alone, by one of its productions
pub alone : {T V : Type 0} {g : Grammar} {m : Making T V} {n : ℕ} {ts : List T} {s inner behind : List V} (k : ℕ) (body : List Symbol)
    → IsProduction g k n body → Runs g m body ts s inner → m.reduce k inner ≡ Some behind → Runs g m (Name n ∷ []) ts s behind
alone {ts = ts} k body p d r = node k p d r none (sym (append-nil ts))

-- without the stacks it is a derivation
pub forgotten : {T V : Type 0} {g : Grammar} {m : Making T V} {ss : List Symbol} {ts : List T} {s behind : List V}
    → Runs g m ss ts s behind → Derives g ss (map m.kind ts)
forgotten none = nothing
forgotten {g = g} {m = m} (leaf {t = t} {ss = ss} {ts = ts} p r) =
    subst (λ (k : ℕ). Derives g (Token k ∷ ss) (m.kind t ∷ map m.kind ts)) p (token (forgotten r))
forgotten {m = m} (node {us = us} {ts = ts} k p d r f w) =
    name k p (forgotten d) (forgotten f) (ap (λ z. map m.kind z) w ∙ map-append m.kind us ts)

-- ---- the steps of a walk do what its symbols do

pub record Ran {T V : Type 0} (g : Grammar) (m : Making T V) (ss : List Symbol) (ts : List T) (s behind : List V) : Type 0 where
  pub trace : List ℕ
  pub steps : List Step
  pub walks : Walks g trace ss steps
  pub tokens : tokens_of steps ≡ map m.kind ts
  pub runs : (more : List Step) (us : List T) → run m (steps ++ more) (ts ++ us) s ≡ run m more us behind

ran_token : {T V : Type 0} {g : Grammar} {m : Making T V} {ss : List Symbol} {ts : List T} {s behind : List V} (k : ℕ) (t : T) → m.kind t ≡ k
    → Ran g m ss ts (m.leaf t ∷ s) behind → Ran g m (Token k ∷ ss) (t ∷ ts) s behind
ran_token {m = m} {ts = ts} k t p x = record {
  trace = x.trace;
  steps = Pass k ∷ x.steps;
  walks = on x.walks;
  tokens = ap (λ z. z ∷ tokens_of x.steps) (sym p) ∙ ap (λ z. m.kind t ∷ z) x.tokens;
  runs = λ more us. x.runs more us;
}

-- leaving an alternative
left_behind : {T V : Type 0} (m : Making T V) (k : ℕ) (inner left : List V) → m.reduce k inner ≡ Some left → (steps : List Step) (ts : List T)
    → run m (Leave k ∷ steps) ts inner ≡ run m steps ts left
left_behind {T} {V} m k inner left e steps ts =
    ap (λ (o : Option (List V)). option_and_then (λ (x : List T × List V). run m steps x.0 x.1) (option_and_then (λ (y : List V). Some (ts, y)) o)) e

ran_name : {T V : Type 0} {g : Grammar} {m : Making T V} {ss body : List Symbol} {us ts ws : List T} {s inner left behind : List V} (n k : ℕ)
    → IsProduction g k n body → Ran g m body us s inner → m.reduce k inner ≡ Some left → Ran g m ss ts left behind → ws ≡ us ++ ts
    → Ran g m (Name n ∷ ss) ws s behind
ran_name {m = m} {us = us} {ts = ts} {ws = ws} {s = s} {inner = inner} {left = left} n k p x r y w = record {
  trace = k ∷ (x.trace ++ y.trace);
  steps = Enter k ∷ (x.steps ++ Leave k ∷ y.steps);
  walks = through k p x.walks y.walks refl refl;
  tokens =
      tokens_append x.steps (Leave k ∷ y.steps) ∙ ap (λ z. z ++ tokens_of y.steps) x.tokens ∙ ap (λ z. map m.kind us ++ z) y.tokens
      ∙ sym (map-append m.kind us ts) ∙ ap (λ z. map m.kind z) (sym w);
  runs = λ more vs.
      ap (λ z. run m z (ws ++ vs) s) (append_assoc x.steps (Leave k ∷ y.steps) more)
      ∙ ap (λ z. run m (x.steps ++ Leave k ∷ (y.steps ++ more)) z s) (ap (λ z. z ++ vs) w ∙ append_assoc us ts vs)
      ∙ x.runs (Leave k ∷ (y.steps ++ more)) (ts ++ vs)
      ∙ left_behind m k inner left r (y.steps ++ more) (ts ++ vs)
      ∙ y.runs more vs;
}

pub ran : {T V : Type 0} {g : Grammar} {m : Making T V} {ss : List Symbol} {ts : List T} {s behind : List V}
    → Runs g m ss ts s behind → Ran g m ss ts s behind
ran none = record { trace = []; steps = []; walks = over; tokens = refl; runs = λ more us. refl }
ran (leaf {k = k} {t = t} p r) = ran_token k t p (ran r)
ran (node {n = n} k p d r f w) = ran_name n k p (ran d) r (ran f) w
