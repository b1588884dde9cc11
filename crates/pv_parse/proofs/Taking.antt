-- Turns, on the tokens and the stack, for any making of values.
use Rattle.std.proofs.Common.{◌≡◌, ℕ, ◌+◌, ◌<◌, ◌≤◌, Bool, false, List, [], ◌∷◌, drop, map, length, get_or, Option, Some, None, Result, Err, IsTrue, refl, ap, ◌∙◌, sym, subst, option_and_then}
use Rattle.std.proofs.lemmas.List.{drop_all, drop_more}
use Rattle.std.proofs.lemmas.Option.{none-some}
use Rattle.pv_ll.specs.declared.table.Symbol.TheVariants.{Name}
use Rattle.pv_ll.specs.declared.table.Language.{Language}
use Rattle.pv_ll.specs.declared.turn.Turn.{Turn}
use Rattle.pv_ll.specs.declared.turn.Turn.TheVariants.{Pass, Leave}
use Rattle.pv_ll.specs.Check.{is_ll1}
use Rattle.pv_ll.specs.Table.{grammar_of}
use Rattle.pv_ll.specs.Turns.{IsTold}
use Rattle.pv_ll.specs.Making.{Making, Runs, play, Idles}
use Rattle.pv_ll.proofs.ForCallers.{ll1_from, plays_to}
use Rattle.pv_tree.specs.Lexemes.{Lexeme}
use Rattle.pv_parse.specs.declared.stack.Stop.{Stop}
use Rattle.pv_parse.specs.declared.stack.Stop.TheVariants as stop
use Rattle.pv_parse.specs.Kinds.{kind_of, kinds_of, marks}
use Rattle.pv_parse.specs.Items.{Missed}
use Rattle.pv_parse.specs.Deeds.{Kinded, kinded, kinded_making}
use Rattle.pv_parse.specs.Building.{RanOut, Plays, Makes, Built}

-- ---- one turn

module _ {V : Type 0} (leaf : Lexeme → V) (reduce : ℕ → List V → Option (List V)) (turn : Turn) where
  abbrev m : Making Kinded V
  m = kinded_making leaf reduce

  -- a token is passed
  pub passed : (t : Lexeme) (others ts : List Lexeme) (s new : List V) → turn ≡ Pass → ts ≡ t ∷ others → new ≡ leaf t ∷ s
      → (turns : List Turn) (behind : List V) → Plays m (turn ∷ turns) ts s behind → Plays m turns others new behind
  passed t others ts s new e p q turns behind h = (
    marks t,
    ap (λ (z : List V). play m turns (kinded (marks t) others) z) q
        ∙ sym (ap (λ (z : List Lexeme). play m (Pass ∷ turns) (kinded h.0 z) s) p)
        ∙ sym (ap (λ (z : Turn). play m (z ∷ turns) (kinded h.0 ts) s) e)
        ∙ h.1,
  )

  -- there is none
  pub not_passed : (ts : List Lexeme) (s : List V) → turn ≡ Pass → ts ≡ [] → (turns : List Turn) (behind : List V)
      → Plays m (turn ∷ turns) ts s behind → ⊥
  not_passed ts s e p turns behind h =
      none-some behind (sym (ap (λ (z : List Lexeme). play m (Pass ∷ turns) (kinded h.0 z) s) p)
      ∙ sym (ap (λ (z : Turn). play m (z ∷ turns) (kinded h.0 ts) s) e) ∙ h.1)

  -- an alternative is left
  left_in : (k : ℕ) (ts : List Kinded) (s new : List V) → turn ≡ Leave k → reduce k s ≡ Some new → (turns : List Turn) (behind : List V)
      → play m (turn ∷ turns) ts s ≡ Some behind → play m turns ts new ≡ Some behind
  left_in k ts s new e f turns behind h =
      sym (ap (λ (o : Option (List V)). option_and_then (λ (z : List V). play m turns ts z) o) f)
      ∙ sym (ap (λ (z : Turn). play m (z ∷ turns) ts s) e) ∙ h

  pub left : (k : ℕ) (ts : List Lexeme) (s new : List V) → turn ≡ Leave k → reduce k s ≡ Some new → (turns : List Turn) (behind : List V)
      → Plays m (turn ∷ turns) ts s behind → Plays m turns ts new behind
  left k ts s new e f turns behind h = (h.0, left_in k (kinded h.0 ts) s new e f turns behind h.1)

  not_left : (k : ℕ) (ts : List Kinded) (s : List V) → turn ≡ Leave k → reduce k s ≡ None → (turns : List Turn) (behind : List V)
      → play m (turn ∷ turns) ts s ≡ Some behind → ⊥
  not_left k ts s e f turns behind h =
      none-some behind (sym (ap (λ (o : Option (List V)). option_and_then (λ (z : List V). play m turns ts z) o) f)
      ∙ sym (ap (λ (z : Turn). play m (z ∷ turns) ts s) e) ∙ h)

  -- or it isn't
  pub missed : (k : ℕ) (ts : List Lexeme) (s : List V) (e : Stop) → turn ≡ Leave k → Missed e (reduce k s) → (turns : List Turn) (behind : List V)
      → Plays m (turn ∷ turns) ts s behind → RanOut e
  missed k ts s stop.Mistyped is f turns behind h = not_left k (kinded h.0 ts) s is f turns behind h.1
  missed k ts s stop.NoMemory is f turns behind h = tt

  -- ---- the same, of any tokens

  pub any_passed : (v : V) (s new : List V) → ((t : Lexeme) → leaf t ≡ v) → turn ≡ Pass → new ≡ v ∷ s → (turns : List Turn) (behind : List V)
      → Makes m (turn ∷ turns) s behind → Makes m turns new behind
  any_passed v s new all e q turns behind h = without h.0 (ap (λ (z : Turn). play m (z ∷ turns) h.0 s) (sym e) ∙ h.1)
    where
      without : (ts : List Kinded) → play m (Pass ∷ turns) ts s ≡ Some behind → Makes m turns new behind
      without [] p = absurd (none-some behind p)
      without (x ∷ ts) p = (
        ts,
        ap (λ (z : List V). play m turns ts z) (q ∙ ap (λ (z : V). z ∷ s) (sym (all x.lexeme))) ∙ p,
      )

  pub any_left : (k : ℕ) (s new : List V) → turn ≡ Leave k → reduce k s ≡ Some new → (turns : List Turn) (behind : List V)
      → Makes m (turn ∷ turns) s behind → Makes m turns new behind
  any_left k s new e f turns behind h = (h.0, left_in k h.0 s new e f turns behind h.1)

  pub any_missed : (k : ℕ) (s : List V) (e : Stop) → turn ≡ Leave k → Missed e (reduce k s) → (turns : List Turn) (behind : List V)
      → Makes m (turn ∷ turns) s behind → RanOut e
  any_missed k s stop.Mistyped is f turns behind h = not_left k h.0 s is f turns behind h.1
  any_missed k s stop.NoMemory is f turns behind h = tt

-- ---- a loop over turns

-- what is left is the next turn and those behind it
pub begun : (P : List Turn → Type 0) (turns : List Turn) (i : ℕ) (d : Turn) → i < length turns → P (drop i turns)
    → P (get_or turns i d ∷ drop (i + 1) turns)
begun P turns i d inside h = subst P (drop_more turns i d inside) h

-- the loop stops there
pub stopped : {Y W : Type 0} (seen : Y → W) (wanted : W) (e : Stop) (result : Result Y Stop) → result ≡ Err e → RanOut e → Built seen result wanted
stopped {Y} seen wanted e result r h = subst (λ (z : Result Y Stop). Built seen z wanted) (sym r) h

-- it is over
pub ended : {V : Type 0} (m : Making Kinded V) (turns : List Turn) (i : ℕ) (ts : List Kinded) (s behind : List V) → length turns ≤ i
    → play m (drop i turns) ts s ≡ Some behind → s ≡ behind
ended m turns i ts s behind over h =
    let e : Some s ≡ Some behind = ap (λ (z : List Turn). play m z ts s) (sym (drop_all i turns over)) ∙ h in
    cc (e)

-- ---- all turns of a text

pub kinds_kinded : (marked : Bool) (ts : List Lexeme) → kinds_of marked ts ≡ map (λ (t : Kinded). t.kind) (kinded marked ts)
kinds_kinded marked [] = refl
kinds_kinded marked (t ∷ ts) = ap (λ (z : List ℕ). kind_of marked t ∷ z) (kinds_kinded (marks t) ts)

-- they make what its symbols make
pub plays : {V : Type 0} (l : Language) (leaf : Lexeme → V) (reduce : ℕ → List V → Option (List V)) (flags : List Bool) (turns : List Turn) (ts : List Lexeme)
    (behind : List V) → IsTrue (is_ll1 l) → Idles flags (kinded_making leaf reduce) → IsTold (grammar_of l) l.start flags (kinds_of false ts) turns
    → Runs (grammar_of l) (kinded_making leaf reduce) (Name l.start ∷ []) (kinded false ts) [] behind
    → Plays (kinded_making leaf reduce) turns ts [] behind
plays l leaf reduce flags turns ts behind fits idles told r = (false, plays_to (ll1_from l fits) idles told (kinds_kinded false ts) r)
