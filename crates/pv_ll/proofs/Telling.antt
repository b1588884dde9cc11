-- What places tell of, as the machine goes on.
--
-- `Retells` takes what the places tell of what is still to come to what is told of the whole, so each step of the machine is a
-- step back here: what the new places tell is what the old ones do. A walk through a body is put together symbol by symbol.
use Rattle.std.proofs.Common.{◌≡◌, ℕ, Bool, true, false, List, [], ◌∷◌, ◌++◌, map, refl, ap, ◌∙◌, sym, subst, append_assoc}
use Rattle.std.specs.Prelude.{if◌then◌else◌}
use Rattle.std.proofs.lemmas.List.{append-nil}
use Rattle.pv_ll.specs.declared.table.Symbol.{Symbol}
use Rattle.pv_ll.specs.declared.table.Symbol.TheVariants.{Token, Name}
use Rattle.pv_ll.specs.declared.table.Language.{Language}
use Rattle.pv_ll.specs.declared.turn.Turn.{Turn}
use Rattle.pv_ll.specs.declared.turn.Turn.TheVariants as turn
use Rattle.pv_ll.specs.declared.turn.Place.{Place}
use Rattle.pv_ll.specs.declared.turn.Place.TheVariants.{Of, Behind}
use Rattle.pv_ll.specs.Grammar.{Grammar, IsProduction}
use Rattle.pv_ll.specs.Table.{grammar_of}
use Rattle.pv_ll.specs.Walk.{Step, Walks, tokens_of}
use Rattle.pv_ll.specs.Walk.Step.{Enter, Pass, Leave}
use Rattle.pv_ll.specs.Walk.Walks.{over, on, through}
use Rattle.pv_ll.specs.Turns.{acts_at, turns_of, IsTold}
use Rattle.pv_ll.specs.Reading.{end_of, Tells, Retells}
use Rattle.pv_ll.specs.Reading.Tells.{nothing, symbol, behind}
use Rattle.pv_ll.proofs.Walking.{tokens_append, walks_on}

-- an alternative that is left gives a turn where it acts
abbrev left_by : List Bool → ℕ → List Turn
left_by acts k = if acts_at acts k then turn.Leave k ∷ [] else []

leave_is : (b : Bool) (k : ℕ) (turns : List Turn)
    → (if b then turn.Leave k ∷ turns else turns) ≡ (if b then turn.Leave k ∷ [] else []) ++ turns
leave_is true k turns = refl
leave_is false k turns = refl

turns_leave : (acts : List Bool) (k : ℕ) (steps : List Step) → turns_of acts (Leave k ∷ steps) ≡ left_by acts k ++ turns_of acts steps
turns_leave acts k steps = leave_is (acts_at acts k) k (turns_of acts steps)

pub turns_append : (acts : List Bool) (a b : List Step) → turns_of acts (a ++ b) ≡ turns_of acts a ++ turns_of acts b
turns_append acts [] b = refl
turns_append acts (Enter k ∷ a) b = turns_append acts a b
turns_append acts (Pass t ∷ a) b = ap (λ (z : List Turn). turn.Pass ∷ z) (turns_append acts a b)
turns_append acts (Leave k ∷ a) b =
    turns_leave acts k (a ++ b)
    ∙ ap (λ (z : List Turn). left_by acts k ++ z) (turns_append acts a b)
    ∙ sym (append_assoc (left_by acts k) (turns_of acts a) (turns_of acts b))
    ∙ ap (λ (z : List Turn). z ++ turns_of acts b) (sym (turns_leave acts k a))

-- what symbols tell before other places
record Parted (g : Grammar) (acts : List Bool) (ss : List Symbol) (ps : List Place) (w : List ℕ) (turns : List Turn) : Type 0 where
  trace : List ℕ
  steps : List Step
  left : List ℕ
  later : List Turn
  walks : Walks g trace ss steps
  others : Tells g acts ps left later
  tokens_are : w ≡ tokens_of steps ++ left
  turns_are : turns ≡ turns_of acts steps ++ later

parted_symbol : {g : Grammar} {acts : List Bool} {s : Symbol} {ss : List Symbol} {ps : List Place} {trace w all : List ℕ} {steps : List Step}
    {turns whole : List Turn} → Walks g trace (s ∷ []) steps → Parted g acts ss ps w turns → all ≡ tokens_of steps ++ w
    → whole ≡ turns_of acts steps ++ turns → Parted g acts (s ∷ ss) ps all whole
parted_symbol {acts = acts} {trace = trace} {steps = steps} d x e f = record {
  trace = trace ++ x.trace;
  steps = steps ++ x.steps;
  left = x.left;
  later = x.later;
  walks = walks_on d x.walks;
  others = x.others;
  tokens_are =
      e ∙ ap (λ (z : List ℕ). tokens_of steps ++ z) x.tokens_are ∙ sym (append_assoc (tokens_of steps) (tokens_of x.steps) x.left)
      ∙ ap (λ (z : List ℕ). z ++ x.left) (sym (tokens_append steps x.steps));
  turns_are =
      f ∙ ap (λ (z : List Turn). turns_of acts steps ++ z) x.turns_are ∙ sym (append_assoc (turns_of acts steps) (turns_of acts x.steps) x.later)
      ∙ ap (λ (z : List Turn). z ++ x.later) (sym (turns_append acts steps x.steps));
}

record First (g : Grammar) (acts : List Bool) (s : Symbol) (ps : List Place) (w : List ℕ) (turns : List Turn) : Type 0 where
  trace : List ℕ
  steps : List Step
  left : List ℕ
  later : List Turn
  walks : Walks g trace (s ∷ []) steps
  others : Tells g acts ps left later
  tokens_are : w ≡ tokens_of steps ++ left
  turns_are : turns ≡ turns_of acts steps ++ later

inv_symbol : {g : Grammar} {acts : List Bool} {s : Symbol} {ps : List Place} {w : List ℕ} {turns : List Turn} → Tells g acts (Of s ∷ ps) w turns
    → First g acts s ps w turns
inv_symbol (symbol {trace = trace} {w = w} {steps = steps} {turns = turns} d e f h) =
    record { trace = trace; steps = steps; left = w; later = turns; walks = d; others = e; tokens_are = f; turns_are = h }

parted : {g : Grammar} {acts : List Bool} {ps : List Place} (ss : List Symbol) {w : List ℕ} {turns : List Turn}
    → Tells g acts (map (λ (s : Symbol). Of s) ss ++ ps) w turns → Parted g acts ss ps w turns
parted [] {w} {turns} d =
    record { trace = []; steps = []; left = w; later = turns; walks = over; others = d; tokens_are = refl; turns_are = refl }
parted (s ∷ ss) d = let x = inv_symbol d in parted_symbol x.walks (parted ss x.others) x.tokens_are x.turns_are

-- the end of an alternative is behind it
record Left (g : Grammar) (acts : List Bool) (k : ℕ) (ps : List Place) (w : List ℕ) (turns : List Turn) : Type 0 where
  later : List Turn
  others : Tells g acts ps w later
  turns_are : turns ≡ left_by acts k ++ later

inv_behind : {g : Grammar} {acts : List Bool} {ps : List Place} {w : List ℕ} {turns : List Turn} (k : ℕ) (b : Bool)
    → Tells g acts ((if b then Behind k ∷ [] else []) ++ ps) w turns
    → (later : List Turn) × (Tells g acts ps w later) × (turns ≡ (if b then turn.Leave k ∷ [] else []) ++ later)
inv_behind k true (behind {turns = turns} d) = (turns, d, refl)
inv_behind {turns = turns} k false d = (turns, d, refl)

inv_end : {g : Grammar} {acts : List Bool} {k : ℕ} {ps : List Place} {w : List ℕ} {turns : List Turn} → Tells g acts (end_of acts k ++ ps) w turns
    → Left g acts k ps w turns
inv_end {acts = acts} {k = k} d = let x = inv_behind k (acts_at acts k) d in record { later = x.0; others = x.1; turns_are = x.2 }

-- an alternative in place of a name tells what the name does
pub told_name : {g : Grammar} {acts : List Bool} {n : ℕ} {ps : List Place} {w : List ℕ} {turns : List Turn} (k : ℕ) (body : List Symbol)
    → IsProduction g k n body → Tells g acts (map (λ (s : Symbol). Of s) body ++ (end_of acts k ++ ps)) w turns
    → Tells g acts (Of (Name n) ∷ ps) w turns
told_name {g} {acts} {n} {ps} {w} {turns} k body p d =
    let x : Parted g acts body (end_of acts k ++ ps) w turns = parted body d in
    let y : Left g acts k ps x.left x.later = inv_end x.others in
    let steps : List Step = Enter k ∷ (x.steps ++ Leave k ∷ []) in
    let tokens_are : tokens_of steps ≡ tokens_of x.steps = tokens_append x.steps (Leave k ∷ []) ∙ append-nil (tokens_of x.steps) in
    let turns_are : turns_of acts steps ≡ turns_of acts x.steps ++ left_by acts k =
    turns_append acts x.steps (Leave k ∷ [])
    ∙ ap (λ (z : List Turn). turns_of acts x.steps ++ z) (turns_leave acts k [] ∙ append-nil (left_by acts k)) in
    symbol (through k p x.walks over refl refl) y.others
    (x.tokens_are ∙ ap (λ (z : List ℕ). z ++ x.left) (sym tokens_are))
    (x.turns_are ∙ ap (λ (z : List Turn). turns_of acts x.steps ++ z) y.turns_are
    ∙ sym (append_assoc (turns_of acts x.steps) (left_by acts k) y.later) ∙ ap (λ (z : List Turn). z ++ y.later) (sym turns_are))

-- ---- what is told of the whole

-- the start alone
pub retells_start : (l : Language) (acts : List Bool) → Retells l acts [] [] (Of (Name l.start) ∷ [])
retells_start l acts w more d =
    let x = inv_symbol d in
    let y = nothing_left x.others in
    record {
      trace = x.trace;
      steps = x.steps;
      walks = x.walks;
      tokens = sym (x.tokens_are ∙ ap (λ (z : List ℕ). tokens_of x.steps ++ z) y.0 ∙ append-nil (tokens_of x.steps));
      told = x.turns_are ∙ ap (λ (z : List Turn). turns_of acts x.steps ++ z) y.1 ∙ append-nil (turns_of acts x.steps);
    }
  where
    nothing_left : {g : Grammar} {acts : List Bool} {w : List ℕ} {turns : List Turn} → Tells g acts [] w turns → (w ≡ []) × (turns ≡ [])
    nothing_left nothing = (refl, refl)

-- a name's alternative is put in its place
pub retells_name : (l : Language) (acts : List Bool) (turns : List Turn) (read : List ℕ) (n k : ℕ) (body : List Symbol) (ps : List Place)
    → IsProduction (grammar_of l) k n body → Retells l acts turns read (Of (Name n) ∷ ps)
    → Retells l acts turns read (map (λ (s : Symbol). Of s) body ++ (end_of acts k ++ ps))
retells_name l acts turns read n k body ps p h w more d = h w more (told_name k body p d)

-- a token is passed
pub retells_token : (l : Language) (acts : List Bool) (turns : List Turn) (read : List ℕ) (t : ℕ) (ps : List Place)
    → Retells l acts turns read (Of (Token t) ∷ ps) → Retells l acts (turns ++ turn.Pass ∷ []) (read ++ t ∷ []) ps
retells_token l acts turns read t ps h w more d =
    subst (λ (z : List ℕ). IsTold (grammar_of l) l.start acts z ((turns ++ turn.Pass ∷ []) ++ more)) (sym (append_assoc read (t ∷ []) w))
    (subst (λ (z : List Turn). IsTold (grammar_of l) l.start acts (read ++ t ∷ w) z) (sym (append_assoc turns (turn.Pass ∷ []) more))
    (h (t ∷ w) (turn.Pass ∷ more) (symbol (on over) d refl refl)))

-- an alternative is left
pub retells_end : (l : Language) (acts : List Bool) (turns : List Turn) (read : List ℕ) (k : ℕ) (ps : List Place)
    → Retells l acts turns read (Behind k ∷ ps) → Retells l acts (turns ++ turn.Leave k ∷ []) read ps
retells_end l acts turns read k ps h w more d =
    subst (λ (z : List Turn). IsTold (grammar_of l) l.start acts (read ++ w) z) (sym (append_assoc turns (turn.Leave k ∷ []) more))
    (h w (turn.Leave k ∷ more) (behind d))

-- nothing is left to walk
pub told_whole : (l : Language) (acts : List Bool) (turns : List Turn) (read : List ℕ) → Retells l acts turns read []
    → IsTold (grammar_of l) l.start acts read turns
told_whole l acts turns read h =
    subst (λ (z : List ℕ). IsTold (grammar_of l) l.start acts z turns) (append-nil read)
    (subst (λ (z : List Turn). IsTold (grammar_of l) l.start acts (read ++ []) z) (append-nil turns) (h [] [] nothing))
