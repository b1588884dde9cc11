-- what is made of a text along the walk through its derivation: symbols act on a stack of values
use Rattle.std.specs.Prelude.{◌≡◌, ℕ, Bool, false, List, [], ◌∷◌, ◌++◌, map, Option, Some, None, option_and_then}
use Rattle.pv_ll.specs.declared.table.Symbol.{Symbol}
use Rattle.pv_ll.specs.declared.table.Symbol.TheVariants.{Token, Name}
use Rattle.pv_ll.specs.declared.turn.Turn.{Turn}
use Rattle.pv_ll.specs.declared.turn.Turn.TheVariants as turn
use Rattle.pv_ll.specs.Grammar.{Grammar, IsProduction}
use Rattle.pv_ll.specs.Walk.{Step}
use Rattle.pv_ll.specs.Walk.Step.{Enter, Pass, Leave}
use Rattle.pv_ll.specs.Turns.{acts_at}

-- how values are made of tokens: a token that is passed is put on a stack, and an alternative that is left acts on
-- the stack, by its number; none where it finds other values there than it takes. The top of a stack stands first
pub record Making (T V : Type 0) : Type 0 where
  -- the kind of a token, as grammars know it
  pub kind : T → ℕ
  pub leaf : T → V
  pub reduce : ℕ → List V → Option (List V)

-- the symbols derive these tokens, and take the first stack to the second on the way
pub data Runs {T V : Type 0} (g : Grammar) (m : Making T V) : List Symbol → List T → List V → List V → Type 0 where
  none : {s : List V} → Runs g m [] [] s s
  leaf : {k : ℕ} {t : T} {ss : List Symbol} {ts : List T} {s behind : List V} → m.kind t ≡ k
      → Runs g m ss ts (m.leaf t ∷ s) behind → Runs g m (Token k ∷ ss) (t ∷ ts) s behind
  node : {n : ℕ} {ss body : List Symbol} {us ts ws : List T} {s inner left behind : List V} → (k : ℕ) → IsProduction g k n body
      → Runs g m body us s inner → m.reduce k inner ≡ Some left → Runs g m ss ts left behind → ws ≡ us ++ ts
      → Runs g m (Name n ∷ ss) ws s behind

-- what a step of a walk does: the tokens and the values that are left
abbrev pub one_step : {T V : Type 0} → Making T V → Step → List T → List V → Option (List T × List V)
one_step m (Enter k) ts vs = Some (ts, vs)
one_step m (Pass t) [] vs = None
one_step m (Pass t) (x ∷ ts) vs = Some (ts, m.leaf x ∷ vs)
one_step m (Leave k) ts vs = option_and_then (λ left. Some (ts, left)) (m.reduce k vs)

-- what the steps of a walk do: the stack behind them
abbrev pub run : {T V : Type 0} → Making T V → List Step → List T → List V → Option (List V)
run m [] ts vs = Some vs
run m (step ∷ steps) ts vs = option_and_then (λ left. run m steps left.0 left.1) (one_step m step ts vs)

-- what turns do: the stack behind them
abbrev pub play : {T V : Type 0} → Making T V → List Turn → List T → List V → Option (List V)
play m [] ts vs = Some vs
play m (turn.Pass ∷ turns) [] vs = None
play m (turn.Pass ∷ turns) (x ∷ ts) vs = play m turns ts (m.leaf x ∷ vs)
play m (turn.Leave k ∷ turns) ts vs = option_and_then (λ left. play m turns ts left) (m.reduce k vs)

-- an alternative that doesn't act leaves the stack as it is
abbrev pub Idles : {T V : Type 0} → List Bool → Making T V → Type 0
Idles {T} {V} acts m = (k : ℕ) (s : List V) → acts_at acts k ≡ false → m.reduce k s ≡ Some s

-- one making follows another by a function on values: what it does is the function of what the other does
pub record Follows {T V W : Type 0} (f : V → W) (m : Making T V) (n : Making T W) : Type 0 where
  pub leaves : (t : T) → n.leaf t ≡ f (m.leaf t)
  pub reduces : (k : ℕ) (s left : List V) → m.reduce k s ≡ Some left → n.reduce k (map f s) ≡ Some (map f left)
