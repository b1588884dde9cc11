-- what the machine's stack stands for, as languages
use Rattle.std.specs.Prelude.{◌≡◌, ℕ, suc, ◌^◌, Bool, true, false, if◌then◌else◌, List, [], ◌∷◌, ◌++◌, map, reverse, Vec, Result, Ok, Err}
use Rattle.std.specs.declared.alloc.Global.{Global}
use Rattle.pv_ll.specs.declared.table.Symbol.{Symbol}
use Rattle.pv_ll.specs.declared.table.Symbol.TheVariants.{Token}
use Rattle.pv_ll.specs.declared.table.Language.{Language}
use Rattle.pv_ll.specs.declared.machine.Expected.{Expected}
use Rattle.pv_ll.specs.declared.machine.Expected.TheVariants.{ThisToken, TheEnd, NoMore}
use Rattle.pv_ll.specs.declared.turn.Turn.{Turn}
use Rattle.pv_ll.specs.declared.turn.Turn.TheVariants as turn
use Rattle.pv_ll.specs.declared.turn.Place.{Place}
use Rattle.pv_ll.specs.declared.turn.Place.TheVariants.{Of, Behind}
use Rattle.pv_ll.specs.Grammar.{Grammar, Derives, IsSentence}
use Rattle.pv_ll.specs.Table.{grammar_of, body_of}
use Rattle.pv_ll.specs.Walk.{Step, Walks, tokens_of}
use Rattle.pv_ll.specs.Turns.{acts_at, turns_of, IsTold}
use Rattle.std.specs.Int.{bit_at}
use Rattle.pv_ll.specs.declared.table.Alternative.{Alternative}
use Rattle.pv_ll.specs.Facts.{Followed, Lives, Selects}

-- an answer, with the list of its turns
abbrev pub answer_of : Result (Vec Turn Global) ℕ → Result (List Turn) ℕ
answer_of (Ok turns) = Ok turns.items
answer_of (Err i) = Err i

-- the next token of a list, or the number of the end
abbrev pub look : ℕ → List ℕ → ℕ
look end [] = end
look end (t ∷ w) = t

abbrev pub IsText : Language → List ℕ → Type 0
IsText l w = IsSentence (grammar_of l) l.start w

-- the places of a stack, its top first
abbrev pub places_of : Vec Place Global → List Place
places_of v = reverse v.items

-- the symbols among them
abbrev pub symbols_of : List Place → List Symbol
symbols_of [] = []
symbols_of (Of s ∷ ps) = s ∷ symbols_of ps
symbols_of (Behind k ∷ ps) = symbols_of ps

-- how many of them are ends
abbrev pub ends_in : List Place → ℕ
ends_in [] = 0
ends_in (Of s ∷ ps) = ends_in ps
ends_in (Behind k ∷ ps) = suc (ends_in ps)

-- the end of an alternative has a place where it acts
abbrev pub end_of : List Bool → ℕ → List Place
end_of acts k = if acts_at acts k then Behind k ∷ [] else []

-- an alternative in place of its name
abbrev pub entered : Language → List Bool → ℕ → Alternative → List Place → List Place
entered l acts k a ps = map (λ s. Of s) (body_of l a) ++ (end_of acts k ++ ps)

-- the turns of walks through places one after another, which pass these tokens together
pub data Tells (g : Grammar) (acts : List Bool) : List Place → List ℕ → List Turn → Type 0 where
  nothing : Tells g acts [] [] []
  symbol : {s : Symbol} {ps : List Place} {trace w all : List ℕ} {steps : List Step} {turns whole : List Turn} → Walks g trace (s ∷ []) steps
      → Tells g acts ps w turns → all ≡ tokens_of steps ++ w → whole ≡ turns_of acts steps ++ turns → Tells g acts (Of s ∷ ps) all whole
  behind : {k : ℕ} {ps : List Place} {w : List ℕ} {turns : List Turn} → Tells g acts ps w turns → Tells g acts (Behind k ∷ ps) w (turn.Leave k ∷ turns)

-- after what was read, with this token next, the symbols stand for what is still to come
pub record Awaits (l : Language) (read : List ℕ) (token : ℕ) (ss : List Symbol) : Type 0 where
  -- what they derive completes a text
  pub gives : (w : List ℕ) → Derives (grammar_of l) ss w → IsText l (read ++ w)
  -- nothing else does that begins with this token
  pub only : (w : List ℕ) → look l.kinds w ≡ token → IsText l (read ++ w) → Derives (grammar_of l) ss w
  pub followed : Followed l (2 ^ l.kinds) ss
  pub lives : Lives (grammar_of l) ss

-- after these turns, what the places tell of what is still to come completes what is told of a text
abbrev pub Retells : Language → List Bool → List Turn → List ℕ → List Place → Type 0
Retells l acts turns read ps =
    (w : List ℕ) (more : List Turn) → Tells (grammar_of l) acts ps w more → IsTold (grammar_of l) l.start acts (read ++ w) (turns ++ more)

-- what the places stand for
pub record Stands (l : Language) (acts : List Bool) (turns : List Turn) (read : List ℕ) (token : ℕ) (ps : List Place) : Type 0 where
  pub awaits : Awaits l read token (symbols_of ps)
  pub retells : Retells l acts turns read ps

-- whatever token comes next
abbrev pub StandsFor : Language → List Bool → List Turn → List ℕ → List Place → Type 0
StandsFor l acts turns read ps = (token : ℕ) → Stands l acts turns read token ps

-- no text goes on with this token
abbrev pub IsStuck : Language → List ℕ → ℕ → Type 0
IsStuck l read token = (w : List ℕ) → look l.kinds w ≡ token → IsText l (read ++ w) → ⊥

-- no text has this token here; the end is no token, whatever its number
abbrev pub IsRefused : Language → List ℕ → ℕ → Type 0
IsRefused l read token = (w : List ℕ) → IsText l (read ++ token ∷ w) → ⊥

-- what the stack says must come, and what stands on it then
abbrev pub Expects : Language → List Bool → List Turn → List ℕ → ℕ → List Place → Expected → Type 0
Expects l acts turns read token ps (ThisToken t) = Stands l acts turns read token (Of (Token t) ∷ ps)
Expects l acts turns read token ps TheEnd = Stands l acts turns read token []
Expects l acts turns read token ps NoMore = IsStuck l read token

-- the token was taken, or no text goes on with it
abbrev pub Takes : Language → List Bool → List Turn → List ℕ → ℕ → List Place → Bool → Type 0
Takes l acts turns read token ps true = StandsFor l acts turns (read ++ token ∷ []) ps
Takes l acts turns read token ps false = IsRefused l read token

-- the text is whole here, and the turns are its own
abbrev pub Ends : Language → List Bool → List Turn → List ℕ → Bool → Type 0
Ends l acts turns read true = IsText l read × IsTold (grammar_of l) l.start acts read turns
Ends l acts turns read false = IsText l read → ⊥

-- alternative k is one of the name, and the token takes it
abbrev pub Chosen : Language → ℕ → ℕ → ℕ → Type 0
Chosen l n token k = (a : Alternative) × (Selects l k a) × (a.name ≡ n) × (bit_at a.when token ≡ 1)

-- the token takes no alternative of the name
abbrev pub NoneFits : Language → ℕ → ℕ → Type 0
NoneFits l n token = (k : ℕ) (a : Alternative) → Selects l k a → a.name ≡ n → bit_at a.when token ≡ 1 → ⊥
