-- what names on the stack lead to before a next token
use Rattle.std.specs.Prelude.{◌≡◌, ℕ, ◌+◌, ◌*◌, ◌<◌, Bool, true, false, List, [], ◌∷◌, ◌++◌, All}
use Rattle.pv_ll.specs.declared.table.Symbol.TheVariants.{Name}
use Rattle.pv_ll.specs.declared.table.Language.{Language}
use Rattle.pv_ll.specs.declared.turn.Turn.{Turn}
use Rattle.pv_ll.specs.declared.turn.Place.{Place}
use Rattle.pv_ll.specs.declared.turn.Place.TheVariants.{Of}
use Rattle.pv_ll.specs.declared.ways.Way.{Way}
use Rattle.pv_ll.specs.declared.ways.Ways.{Ways}
use Rattle.pv_ll.specs.Table.{front}
use Rattle.pv_ll.specs.Reading.{places_of, symbols_of, ends_in, Stands, NoneFits}

-- what is still to be done before the next token
abbrev pub load : Language → List Place → ℕ
load l ps = 2 * front l (symbols_of ps) + ends_in ps

-- before such a token the second places stand for what the first ones do, whatever lies below, and there is less to be done
pub record Leads (l : Language) (acts : List Bool) (token : ℕ) (ps qs : List Place) : Type 0 where
  pub keeps : (turns : List Turn) (read : List ℕ) (below : List Place)
      → Stands l acts turns read token (ps ++ below) → Stands l acts turns read token (qs ++ below)
  pub falls : (below : List Place) → load l (qs ++ below) < load l (ps ++ below)

-- one alternative more was entered, or the stack stays
abbrev pub GoesOn : Language → List Bool → ℕ → List Place → List Place → Bool → Type 0
GoesOn l acts token ps qs true = Leads l acts token ps qs
GoesOn l acts token ps qs false = qs ≡ ps

-- a name on top of these places was led on, or the token takes none of its alternatives
abbrev pub IsLed : Language → List Bool → ℕ → ℕ → List Place → List Place → Bool → Type 0
IsLed l acts name token ps all true = (qs : List Place) × Leads l acts token (Of (Name name) ∷ []) qs × (all ≡ qs ++ ps)
IsLed l acts name token ps all false = NoneFits l name token

abbrev pub IsWay : Language → List Bool → Way → Type 0
IsWay l acts way = Leads l acts way.token (Of (Name way.name) ∷ []) (places_of way.places)

abbrev pub AreWays : Language → List Bool → Ways → Type 0
AreWays l acts ways = All (IsWay l acts) ways.ways.items
