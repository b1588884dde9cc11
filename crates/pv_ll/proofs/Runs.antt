-- The steps of any walk through a text do what any `Runs` of the text does, and so do its turns.
--
-- A loop over `turns` with what is left of the tokens has the invariant `play m left rest (values stack) ≡ Some behind`, `left` the
-- turns that are left: `plays_to` begins it, and a turn is taken by `play_passed` or `play_left`.
use Rattle.std.proofs.Common.{◌≡◌, ℕ, Bool, true, false, List, [], ◌∷◌, ◌++◌, map, Some, None, Option, option_and_then, refl, ap, ◌∙◌, sym, subst}
use Rattle.std.specs.Prelude.{if◌then◌else◌}
use Rattle.std.proofs.lemmas.List.{append-nil}
use Rattle.std.proofs.lemmas.Option.{option_and_then_some, same_Some}
use Rattle.pv_ll.specs.declared.table.Symbol.TheVariants.{Name}
use Rattle.pv_ll.specs.declared.table.Language.{Language}
use Rattle.pv_ll.specs.declared.turn.Turn.{Turn}
use Rattle.pv_ll.specs.declared.turn.Turn.TheVariants as turn
use Rattle.pv_ll.specs.Grammar.{Grammar, Leftmost}
use Rattle.pv_ll.specs.Table.{grammar_of}
use Rattle.pv_ll.specs.Facts.{IsLL1}
use Rattle.pv_ll.specs.Walk.{Step, Walks, tokens_of}
use Rattle.pv_ll.specs.Walk.Step.{Enter, Pass, Leave}
use Rattle.pv_ll.specs.Turns.{acts_at, turns_of, IsTold}
use Rattle.pv_ll.specs.Making.{Making, Runs, one_step, run, play, Idles, Follows}
use Rattle.pv_ll.proofs.Traces.{one_walk}
use Rattle.pv_ll.proofs.OneTrace.{one_trace, leftmost}
use Rattle.pv_ll.proofs.Makings.{Ran, ran}

-- two walks through one text are one
pub same_steps : {l : Language} → IsLL1 l → {trace other : List ℕ} {steps others : List Step} → Walks (grammar_of l) trace (Name l.start ∷ []) steps
    → Walks (grammar_of l) other (Name l.start ∷ []) others → tokens_of steps ≡ tokens_of others → steps ≡ others
same_steps {l} fits {trace} {other} {steps} {others} d e same =
    let text : Leftmost (grammar_of l) trace (Name l.start ∷ []) (tokens_of others) =
    subst (λ (z : List ℕ). Leftmost (grammar_of l) trace (Name l.start ∷ []) z) same (leftmost d) in
    let one : trace ≡ other = one_trace fits text (leftmost e) in
    one_walk d others (subst (λ (z : List ℕ). Walks (grammar_of l) z (Name l.start ∷ []) others) (sym one) e)

-- the steps of a walk through the text do what the text's symbols do
pub runs_to : {T V : Type 0} {l : Language} → IsLL1 l → {m : Making T V} {ts : List T} {s behind : List V} {trace : List ℕ} {steps : List Step}
    → Walks (grammar_of l) trace (Name l.start ∷ []) steps → tokens_of steps ≡ map m.kind ts → Runs (grammar_of l) m (Name l.start ∷ []) ts s behind
    → run m steps ts s ≡ Some behind
runs_to {l = l} fits {m} {ts} {s} {behind} {trace} {steps} d kinds r =
    let x : Ran (grammar_of l) m (Name l.start ∷ []) ts s behind = ran r in
    let same : steps ≡ x.steps = same_steps fits d x.walks (kinds ∙ sym x.tokens) in
    ap (λ (z : List Step). run m z ts s) (same ∙ sym (append-nil x.steps)) ∙ ap (λ z. run m (x.steps ++ []) z s) (sym (append-nil ts)) ∙ x.runs [] []

-- what a text's symbols do to a stack is one
pub one_end : {T V : Type 0} {l : Language} → IsLL1 l → {m : Making T V} {ts : List T} {s left right : List V}
    → Runs (grammar_of l) m (Name l.start ∷ []) ts s left → Runs (grammar_of l) m (Name l.start ∷ []) ts s right → left ≡ right
one_end {l = l} fits {m} {ts} {s} {left} {right} d e =
    let x : Ran (grammar_of l) m (Name l.start ∷ []) ts s left = ran d in
    let y : run m x.steps ts s ≡ Some left = runs_to fits x.walks x.tokens d in
    let z : run m x.steps ts s ≡ Some right = runs_to fits x.walks x.tokens e in
    cc (y, z)

-- ---- turns

-- leaving an alternative, by what is left of it
left_by : {T V : Type 0} (m : Making T V) (steps : List Step) (turns : List Turn) (ts : List T) → ((s : List V) → run m steps ts s ≡ play m turns ts s)
    → (o : Option (List V)) → option_and_then (λ (x : List T × List V). run m steps x.0 x.1) (option_and_then (λ (y : List V). Some (ts, y)) o)
    ≡ option_and_then (λ (y : List V). play m turns ts y) o
left_by m steps turns ts same None = refl
left_by m steps turns ts same (Some y) = same y

played_left : {T V : Type 0} (m : Making T V) (k : ℕ) (steps : List Step) (turns : List Turn) (ts : List T) (s : List V) (b : Bool)
    → (b ≡ false → m.reduce k s ≡ Some s) → ((s : List V) → run m steps ts s ≡ play m turns ts s)
    → run m (Leave k ∷ steps) ts s ≡ play m (if b then turn.Leave k ∷ turns else turns) ts s
played_left m k steps turns ts s true idle same = left_by m steps turns ts same (m.reduce k s)
played_left {T} {V} m k steps turns ts s false idle same =
    left_by m steps turns ts same (m.reduce k s) ∙ ap (λ (o : Option (List V)). option_and_then (λ (y : List V). play m turns ts y) o) (idle refl)

-- without the steps that do nothing a walk's turns do what it does
pub played : {T V : Type 0} (acts : List Bool) (m : Making T V) → Idles acts m → (steps : List Step) (ts : List T) (s : List V)
    → run m steps ts s ≡ play m (turns_of acts steps) ts s
played acts m idle [] ts s = refl
played acts m idle (Enter k ∷ steps) ts s = played acts m idle steps ts s
played acts m idle (Pass t ∷ steps) [] s = refl
played acts m idle (Pass t ∷ steps) (x ∷ ts) s = played acts m idle steps ts (m.leaf x ∷ s)
played acts m idle (Leave k ∷ steps) ts s =
    played_left m k steps (turns_of acts steps) ts s (acts_at acts k) (idle k s) (λ left. played acts m idle steps ts left)

-- the turns of a text do what its symbols do
pub plays_to : {T V : Type 0} {l : Language} → IsLL1 l → {acts : List Bool} {m : Making T V} → Idles acts m → {w : List ℕ} {turns : List Turn}
    {ts : List T} {s behind : List V} → IsTold (grammar_of l) l.start acts w turns → w ≡ map m.kind ts
    → Runs (grammar_of l) m (Name l.start ∷ []) ts s behind → play m turns ts s ≡ Some behind
plays_to {l = l} fits {acts} {m} idle {ts = ts} {s = s} h kinds r =
    ap (λ (z : List Turn). play m z ts s) h.told ∙ sym (played acts m idle h.steps ts s) ∙ runs_to fits h.walks (h.tokens ∙ kinds) r

-- a text's turns have its trace
pub told_trace : {g : Grammar} {start : ℕ} {acts : List Bool} {w : List ℕ} {turns : List Turn} → (h : IsTold g start acts w turns)
    → Leftmost g h.trace (Name start ∷ []) w
told_trace {g} {start} h = subst (λ (z : List ℕ). Leftmost g h.trace (Name start ∷ []) z) h.tokens (leftmost h.walks)

-- a token that is passed is there
pub play_passed : {T V : Type 0} (m : Making T V) (turns : List Turn) (ts : List T) (s behind : List V) → play m (turn.Pass ∷ turns) ts s ≡ Some behind
    → (x : T) × (rest : List T) × (ts ≡ x ∷ rest) × (play m turns rest (m.leaf x ∷ s) ≡ Some behind)
play_passed m turns [] s behind e = absurd (cc (e))
play_passed m turns (x ∷ ts) s behind e = (x, ts, refl, e)

-- an alternative that is left acts
pub play_left : {T V : Type 0} (m : Making T V) (k : ℕ) (turns : List Turn) (ts : List T) (s behind : List V)
    → play m (turn.Leave k ∷ turns) ts s ≡ Some behind
    → (left : List V) × (m.reduce k s ≡ Some left) × (play m turns ts left ≡ Some behind)
play_left {T} {V} m k turns ts s behind e = of_some (m.reduce k s) refl e
  where
    of_some : (o : Option (List V)) → m.reduce k s ≡ o → option_and_then (λ (y : List V). play m turns ts y) o ≡ Some behind
        → (left : List V) × (m.reduce k s ≡ Some left) × (play m turns ts left ≡ Some behind)
    of_some None f h = absurd (cc (h))
    of_some (Some left) f h = (left, f, h)

-- ---- one making behind another

-- what is in a pair
parted : {X Y : Type 0} (a c : X) (b d : Y) → ◌≡◌ {A = Option (X × Y)} (Some (a, b)) (Some (c, d)) → (a ≡ c) × (b ≡ d)
parted {X} {Y} a c b d e =
    let p : ◌≡◌ {A = X × Y} (a, b) (c, d) = same_Some (a, b) (c, d) e in
    (ap (λ (x : X × Y). x.0) p, ap (λ (x : X × Y). x.1) p)

paired : {X Y : Type 0} (a c : X) (b d : Y) → a ≡ c → b ≡ d → ◌≡◌ {A = Option (X × Y)} (Some (a, b)) (Some (c, d))
paired a c b d e f = rw (e, f) refl

follows_step : {T V W : Type 0} {f : V → W} {m : Making T V} {n : Making T W} → Follows f m n → (step : Step) (ts us : List T) (s left : List V)
    → one_step m step ts s ≡ Some (us, left) → one_step n step ts (map f s) ≡ Some (us, map f left)
follows_step {f = f} h (Enter k) ts us s left e =
    let p = parted ts us s left e in
    paired ts us (map f s) (map f left) p.0 (ap (λ z. map f z) p.1)
follows_step h (Pass t) [] us s left e = absurd (cc)
follows_step {f = f} {m} {n} h (Pass t) (x ∷ ts) us s left e =
    let p = parted ts us (m.leaf x ∷ s) left e in
    paired ts us (n.leaf x ∷ map f s) (map f left) p.0 (ap (λ z. z ∷ map f s) (h.leaves x) ∙ ap (λ z. map f z) p.1)
follows_step {V} {f = f} {m} {n} h (Leave k) ts us s left e =
    option_and_then_some (λ (y : List V). Some (ts, y)) (m.reduce k s) (us, left) e (λ y made is.
    let p = parted ts us y left is in
    let g : n.reduce k (map f s) ≡ Some (map f left) = h.reduces k s left (made ∙ ap (λ (z : List V). Some z) p.1) in
    ap (λ o. option_and_then (λ z. Some (ts, z)) o) g ∙ paired ts us (map f left) (map f left) p.0 refl)

-- what a walk makes by one making, by the function it makes by the other
pub followed : {T V W : Type 0} {f : V → W} {m : Making T V} {n : Making T W} → Follows f m n → (steps : List Step) (ts : List T) (s behind : List V)
    → run m steps ts s ≡ Some behind → run n steps ts (map f s) ≡ Some (map f behind)
followed {f = f} h [] ts s behind e = let a : s ≡ behind = cc (e) in ap (λ z. Some (map f z)) a
followed {T} {V} {W} {f} {m} {n} h (step ∷ steps) ts s behind e =
    option_and_then_some (λ (x : List T × List V). run m steps x.0 x.1) (one_step m step ts s) behind e (λ x done is.
    ap (λ (o : Option (List T × List W)). option_and_then (λ (y : List T × List W). run n steps y.0 y.1) o)
    (follows_step h step ts x.0 s x.1 done)
    ∙ followed h steps x.0 x.1 behind is)

-- and so do its turns
pub play_followed : {T V W : Type 0} {f : V → W} {m : Making T V} {n : Making T W} → Follows f m n → (turns : List Turn) (ts : List T) (s behind : List V)
    → play m turns ts s ≡ Some behind → play n turns ts (map f s) ≡ Some (map f behind)
play_followed {f = f} h [] ts s behind e = let a : s ≡ behind = cc (e) in ap (λ z. Some (map f z)) a
play_followed h (turn.Pass ∷ turns) [] s behind e = absurd (cc (e))
play_followed {f = f} {m} {n} h (turn.Pass ∷ turns) (x ∷ ts) s behind e =
    ap (λ z. play n turns ts (z ∷ map f s)) (h.leaves x) ∙ play_followed h turns ts (m.leaf x ∷ s) behind e
play_followed {W} {f = f} {m} {n} h (turn.Leave k ∷ turns) ts s behind e =
    option_and_then_some (λ left. play m turns ts left) (m.reduce k s) behind e (λ left made is.
    ap (λ (o : Option (List W)). option_and_then (λ (y : List W). play n turns ts y) o) (h.reduces k s left made)
    ∙ play_followed h turns ts left behind is)
