-- Bodies: blocks as flows. Each is laid out as an automaton. What a body's call does is what the called body's flow does, one level down.
use Rattle.std.specs.Prelude.{◌≡◌, ℕ, zero, suc, ◌+◌, ◌≤◌, List, map, length, slice_index_or, true, Option, Some, None, All}
use Rattle.std.specs.List.{list_all}
use Rattle.pv_word.specs.declared.types.Ty.TheVariants.{Bool}
use Rattle.pv_place.specs.declared.place.Place.{Place}
use Rattle.pv_flow.specs.Terms.{Term, Valuation, Types, type_of, IsTyped, names_below}
use Rattle.pv_flow.specs.Automata.{Set, CallEdge, Parts, type_at}
use Rattle.pv_flow.specs.Faults.{set_below}
use Rattle.pv_flow.specs.WellMade.{IsVariable, IsSet}
use Rattle.pv_flow.specs.Runs.{Outcome, done_with}
use Rattle.pv_flow.specs.Calls.{Blocks, Work, numbered, callee_work, cleared}
use Rattle.pv_layout.specs.Spots.{Check}
use Rattle.pv_layout.specs.Flows.{Flow, act, enter, leave, then_, if_, choice, while_, for_, repeat_, Setting, flow, outcome_of_ending}
use Rattle.pv_layout.specs.Layout.{Head, text_of, parts_of}

pub record Body : Type 0 where
  pub head : Head
  pub code : Flow

abbrev pub laid : Body → Parts
laid body = parts_of body.head (text_of body.code)

abbrev pub laid_or : Option Body → Option Parts
laid_or None = None
laid_or (Some body) = Some (laid body)

-- by the blocks' numbers; a block without code has none
abbrev pub Bodies : Type 0
Bodies = List (Option Body)

abbrev pub blocks_of : Bodies → Blocks
blocks_of bodies = map laid_or bodies

abbrev pub body_at : Bodies → ℕ → Option Body
body_at bodies b = slice_index_or bodies b None

-- ---- runs

abbrev pub nowhere : Place
nowhere = record { file = 0; offset = 0 }

-- a call edge; where it begins and ends doesn't matter to what it runs
abbrev pub call_edge : ℕ → ℕ → CallEdge
call_edge block instance = record { from = 0; to = 0; block = block; instance = instance; place = nowhere }

abbrev pub setting_of : Work → (ℕ → ℕ → ℕ → Valuation → Outcome) → ℕ → Setting
setting_of k called n = record { place = k.place; called = called; bound = n }

-- a block's call, by what its number, block and instance say, where calls may go so many levels down; with loop bound n
abbrev pub called_within : Bodies → ℕ → ℕ → Work → ℕ → ℕ → ℕ → Valuation → Outcome
called_within bodies n zero k j block instance w = done_with w
called_within bodies n (suc levels) k j block instance w = elim (body_at bodies block) [
  | None ↦ done_with w
  | Some body ↦ outcome_of_ending (flow
      (setting_of (callee_work (blocks_of bodies) k (numbered j (call_edge block instance)) (laid body))
      (called_within bodies n levels (callee_work (blocks_of bodies) k (numbered j (call_edge block instance)) (laid body))) n)
      0 body.code
      (cleared (callee_work (blocks_of bodies) k (numbered j (call_edge block instance)) (laid body)) w))
]

-- the run of a body at work
abbrev pub run_body : Bodies → ℕ → ℕ → Work → Body → Valuation → Outcome
run_body bodies n levels k body w =
    outcome_of_ending (flow (setting_of k (called_within bodies n levels k) n) 0 body.code w)

-- ---- types

-- a BOOL over the first n variables
pub record IsCondition (n : ℕ) (types : Types) (t : Term) : Type 0 where
  pub typed : IsTyped types t
  pub condition : type_of types t ≡ Bool
  pub names : names_below n t ≡ true

abbrev pub AreChecks : ℕ → Types → List Check → Type 0
AreChecks n types checks = All (λ (check : Check). IsCondition n types check.fails) checks

pub record AreSets (n : ℕ) (types : Types) (sets : List Set) : Type 0 where
  pub typed : All (IsSet types) sets
  pub names : list_all (set_below n) sets ≡ true

-- over the first n variables, each term of its type
abbrev pub IsTypedFlow : ℕ → Types → Flow → Type 0
IsTypedFlow n types (act checks sets) = AreChecks n types checks × AreSets n types sets
IsTypedFlow n types (enter block instance place) = instance ≤ n
IsTypedFlow n types (leave which) = Unit {0}
IsTypedFlow n types (then_ f g) = IsTypedFlow n types f × IsTypedFlow n types g
IsTypedFlow n types (if_ checks c f) = AreChecks n types checks × IsCondition n types c × IsTypedFlow n types f
IsTypedFlow n types (choice checks c f g) =
    AreChecks n types checks × IsCondition n types c × IsTypedFlow n types f × IsTypedFlow n types g
IsTypedFlow n types (while_ checks c f place) = AreChecks n types checks × IsCondition n types c × IsTypedFlow n types f
IsTypedFlow n types (for_ checks c f sets place) =
    AreChecks n types checks × IsCondition n types c × IsTypedFlow n types f × AreSets n types sets
IsTypedFlow n types (repeat_ f checks c place) = AreChecks n types checks × IsCondition n types c × IsTypedFlow n types f

pub record IsTypedBody (body : Body) : Type 0 where
  pub vars : All IsVariable body.head.vars
  pub counts : body.head.bound + body.head.shared ≤ length body.head.vars
  pub code : IsTypedFlow (length body.head.vars) (type_at body.head.vars) body.code
