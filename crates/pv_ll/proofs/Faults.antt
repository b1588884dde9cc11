-- From what the stack stands for to what is answered.
use Rattle.std.proofs.Common.{◌≡◌, ℕ, ◌+◌, ◌<◌, ◌≤◌, ◌^◌, Bool, true, List, [], ◌∷◌, ◌++◌, length, get_or, take, drop, refl, ap, ◌∙◌, sym, append_assoc, subst, arith, inl, inr}
use Rattle.std.specs.Prelude.{reverse}
use Rattle.pv_ll.specs.declared.machine.Expected.{Expected}
use Rattle.std.specs.Int.{bit_at}
use Rattle.std.proofs.lemmas.Bool.{cases_eq}
use Rattle.std.proofs.lemmas.List.{append-nil, take_more, drop_more, take-append-drop, take_all}
use Rattle.std.proofs.lemmas.Nat.Bits.{bit_at-pow_other}
use Rattle.pv_ll.specs.declared.table.Symbol.{Symbol}
use Rattle.pv_ll.specs.declared.table.Symbol.TheVariants.{Token, Name}
use Rattle.pv_ll.specs.declared.table.Language.{Language}
use Rattle.pv_ll.specs.declared.turn.Turn.{Turn}
use Rattle.pv_ll.specs.declared.turn.Turn.TheVariants as turn
use Rattle.pv_ll.specs.declared.turn.Place.{Place}
use Rattle.pv_ll.specs.declared.turn.Place.TheVariants.{Of}
use Rattle.pv_ll.specs.Grammar.{IsFault}
use Rattle.pv_ll.specs.Grammar.Derives.{nothing}
use Rattle.pv_ll.specs.Table.{grammar_of, rule}
use Rattle.pv_ll.specs.Facts.{IsLL1, IsSubset}
use Rattle.pv_ll.specs.Turns.{IsTold}
use Rattle.pv_ll.specs.Reading.{IsText, symbols_of, Awaits, Stands, StandsFor, IsStuck, IsRefused, Takes, Expects, Ends}
use Rattle.pv_ll.proofs.Words.{Shift, inv_token, live_word}
use Rattle.pv_ll.proofs.Telling.{retells_start}
use Rattle.pv_ll.proofs.Stack.{token_step, stuck_token}

pub only_end : (k set : ℕ) → bit_at set k ≡ 1 → IsSubset (2 ^ k) set
only_end k set h t i = elim (cases_eq t k) [
  | inl e ↦ ap (λ (x : ℕ). bit_at set x) e ∙ h
  | inr ne ↦ absurd (omega (arith, bit_at-pow_other k t ne, i))
]

-- the start alone on the stack
pub started : {l : Language} → IsLL1 l → (acts : List Bool) → StandsFor l acts [] [] (Of (Name l.start) ∷ [])
started {l} fits acts kind = record {
  awaits = record {
    gives = λ w d. d;
    only = λ w next_is t. t;
    followed = (only_end l.kinds (rule l l.start).follow fits.start_ends, tt);
    lives = (fits.start_lives, tt);
  };
  retells = retells_start l acts;
}

-- what no text goes on with is refused as a token
pub refused : (l : Language) (read : List ℕ) (kind : ℕ) → IsStuck l read kind → IsRefused l read kind
refused l read kind h w i = h (kind ∷ w) refl i

-- the token on top is the one that comes, which is passed
pub takes : (l : Language) (acts : List Bool) (turns later : List Turn) (read : List ℕ) (kind t : ℕ) (ps : List Place) → t ≡ kind
    → later ≡ turns ++ turn.Pass ∷ [] → Stands l acts turns read kind (Of (Token t) ∷ ps) → StandsFor l acts later (read ++ kind ∷ []) ps
takes l acts turns later read kind t ps e f h =
    token_step l acts turns later read kind ps f (subst (λ (x : ℕ). Stands l acts turns read kind (Of (Token x) ∷ ps)) e h)

-- another one comes
pub takes_not : (l : Language) (acts : List Bool) (turns : List Turn) (read : List ℕ) (kind t : ℕ) (ps : List Place) → (t ≡ kind → ⊥)
    → Stands l acts turns read kind (Of (Token t) ∷ ps) → IsRefused l read kind
takes_not l acts turns read kind t ps other h = refused l read kind (stuck_token l read kind t (symbols_of ps) other h.awaits)

pub ends : (l : Language) (read : List ℕ) (kind : ℕ) → Awaits l read kind [] → IsText l read
ends l read kind h = subst (λ (z : List ℕ). IsText l z) (append-nil read) (h.gives [] nothing)

pub ends_not : (l : Language) (read : List ℕ) → IsStuck l read l.kinds → IsText l read → ⊥
ends_not l read h i = h [] refl (subst (λ (z : List ℕ). IsText l z) (sym (append-nil read)) i)

pub ends_not_yet : (l : Language) (read : List ℕ) (t : ℕ) (ss : List Symbol) → Awaits l read l.kinds (Token t ∷ ss) → IsText l read → ⊥
ends_not_yet l read t ss h i =
    let s : Shift (grammar_of l) t ss [] = inv_token (h.only [] refl (subst (λ (z : List ℕ). IsText l z) (sym (append-nil read)) i)) in
    absurd (cc (s.whole))

viable : (l : Language) (acts : List Bool) (turns : List Turn) (read : List ℕ) (ps : List Place) → StandsFor l acts turns read ps
    → (w : List ℕ) × IsText l (read ++ w)
viable l acts turns read ps h = let w = live_word (symbols_of ps) (h 0).awaits.lives in (w.word, (h 0).awaits.gives w.word w.derives)

-- no text goes on with token i
pub fault_at : (l : Language) (acts : List Bool) (turns : List Turn) (tokens : List ℕ) (i : ℕ) (ps : List Place) → i < length tokens
    → StandsFor l acts turns (take i tokens) ps → IsRefused l (take i tokens) (get_or tokens i 0) → IsFault (grammar_of l) l.start tokens i
fault_at l acts turns tokens i ps h s stuck = record {
  within = omega arith;
  viable = viable l acts turns (take i tokens) ps s;
  exact = λ _ w t. stuck w
      (subst (λ (z : List ℕ). IsText l z) (ap (λ (z : List ℕ). z ++ w) (take_more tokens i 0 h) ∙ append_assoc (take i tokens) (get_or tokens i 0 ∷ []) w) t);
  no_sentence = λ t. stuck (drop (i + 1) tokens)
      (subst (λ (z : List ℕ). IsText l z) (sym (take-append-drop i tokens) ∙ ap (λ (z : List ℕ). take i tokens ++ z) (drop_more tokens i 0 h)) t);
}

-- the tokens are no text, but some text begins with them
pub fault_at_end : (l : Language) (acts : List Bool) (turns : List Turn) (tokens : List ℕ) (i : ℕ) (ps : List Place) → length tokens ≤ i
    → StandsFor l acts turns (take i tokens) ps → (IsText l (take i tokens) → ⊥) → IsFault (grammar_of l) l.start tokens (length tokens)
fault_at_end l acts turns tokens i ps h s none = record {
  within = omega arith;
  viable =
      let v = viable l acts turns (take i tokens) ps s in
      (v.0, subst (λ (z : List ℕ). IsText l (z ++ v.0)) (take_all i tokens h ∙ sym (take_all (length tokens) tokens (omega arith))) v.1);
  exact = λ less. absurd (omega arith);
  no_sentence = λ t. none (subst (λ (z : List ℕ). IsText l z) (sym (take_all i tokens h)) t);
}

pub taken : (l : Language) (acts : List Bool) (turns : List Turn) (tokens : List ℕ) (i : ℕ) (ps : List Place) → i < length tokens
    → StandsFor l acts turns (take i tokens ++ get_or tokens i 0 ∷ []) ps → StandsFor l acts turns (take (i + 1) tokens) ps
taken l acts turns tokens i ps h s = subst (λ (z : List ℕ). StandsFor l acts turns z ps) (sym (take_more tokens i 0 h)) s

-- The cases of an answer, as the code has them.
pub expects : (l : Language) (acts : List Bool) (turns : List Turn) (read : List ℕ) (kind : ℕ) (ps : List Place) (x y : Expected) → x ≡ y
    → Expects l acts turns read kind ps x → Expects l acts turns read kind ps y
expects l acts turns read kind ps x y e h = subst (λ (z : Expected). Expects l acts turns read kind ps z) e h

pub takes_as : (l : Language) (acts : List Bool) (turns : List Turn) (read : List ℕ) (kind : ℕ) (ps : List Place) (x y : Bool) → x ≡ y
    → Takes l acts turns read kind ps x → Takes l acts turns read kind ps y
takes_as l acts turns read kind ps x y e h = subst (λ (z : Bool). Takes l acts turns read kind ps z) e h

pub ends_as : (l : Language) (acts : List Bool) (turns : List Turn) (read : List ℕ) (x y : Bool) → x ≡ y → Ends l acts turns read x → Ends l acts turns read y
ends_as l acts turns read x y e h = subst (λ (z : Bool). Ends l acts turns read z) e h

-- the whole text, with what is told of it
pub whole : (l : Language) (acts : List Bool) (turns : List Turn) (tokens : List ℕ) (i : ℕ) → length tokens ≤ i → Ends l acts turns (take i tokens) true
    → IsText l tokens × IsTold (grammar_of l) l.start acts tokens turns
whole l acts turns tokens i h t = subst (λ (z : List ℕ). Ends l acts turns z true) (take_all i tokens h) t

-- the start of the loop, as the code has it
pub on_empty : (l : Language) (acts : List Bool) (turns : List Turn) (read : List ℕ) (x : Place) (before after : List Place) → before ≡ []
    → after ≡ before ++ x ∷ [] → turns ≡ [] → StandsFor l acts [] read (x ∷ []) → StandsFor l acts turns read (reverse after)
on_empty l acts turns read x before after e f g h =
    let one : after ≡ x ∷ [] = f ∙ ap (λ (z : List Place). z ++ x ∷ []) e in
    subst (λ (z : List Turn). StandsFor l acts z read (reverse after)) (sym g)
    (subst (λ (z : List Place). StandsFor l acts [] read (reverse z)) (sym one) h)
