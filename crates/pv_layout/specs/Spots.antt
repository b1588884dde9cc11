-- Spots: what stands at a location before its edges have numbers. A spot has checks, and then a way on, or two of which a condition
-- chooses one; or it runs another block. Each check that fails is a trap. So exactly one guard of a spot's edges is true.
use Rattle.std.specs.Prelude.{ℕ, suc, ◌+◌, pos, List, [], ◌∷◌, ◌++◌, Bool as Truth, true, false, ◌==◌, Option, Some, None}
use Rattle.pv_word.specs.declared.types.Ty.TheVariants.{Bool}
use Rattle.pv_word.specs.Types.{pattern_of}
use Rattle.pv_place.specs.declared.place.Place.{Place}
use Rattle.pv_place.specs.declared.trap.TrapKind.{TrapKind}
use Rattle.pv_flow.specs.declared.op.UnaryOp.TheVariants.{Not}
use Rattle.pv_flow.specs.declared.op.BinaryOp.TheVariants.{And}
use Rattle.pv_flow.specs.Terms.{Term, constant, unary, binary, Valuation, value_of}
use Rattle.pv_flow.specs.Automata.{Set, Edge}

-- where its term is true it fails
pub record Check : Type 0 where
  pub fails : Term
  pub kind : TrapKind
  pub place : Place

-- where it leads, what it assigns, and the number of the loop of which it starts a turn, if it does
pub record Way : Type 0 where
  pub to : ℕ
  pub sets : List Set
  pub turn : Option ℕ

pub data Spot : Type 0 where
  Act : List Check → Way → Spot
  -- the first way where the condition is true
  Branch : List Check → Term → Way → Way → Spot
  -- the block of this number runs, with its bound variables from this one on; then the location follows
  Enter : ℕ → ℕ → Place → ℕ → Spot

abbrev pub way : ℕ → List Set → Option ℕ → Way
way to sets turn = record { to = to; sets = sets; turn = turn }

abbrev pub checks_of : Spot → List Check
checks_of (Act checks on) = checks
checks_of (Branch checks c one other) = checks
checks_of (Enter block instance place to) = []

-- ---- what is chosen

-- the bit of the term's value: of a BOOL, whether it is true
abbrev pub is_on : Valuation → Term → Truth
is_on w t = pattern_of Bool (value_of w t) == 1

-- the first check that fails
abbrev pub failing : Valuation → List Check → Option Check
failing w [] = None
failing w (check ∷ checks) = elim (is_on w check.fails) [ true ↦ Some check | false ↦ failing w checks ]

-- ---- guards

abbrev pub true_term : Term
true_term = constant Bool (pos 1)

abbrev pub both : Term → Term → Term
both s t = binary And Bool s t

abbrev pub negated : Term → Term
negated t = unary Not Bool t

-- none of those before fails, and none of these
abbrev pub none_of : Term → List Check → Term
none_of none [] = none
none_of none (check ∷ checks) = none_of (both none (negated check.fails)) checks

-- ---- edges

-- of each check, to a location after that where a scan is done: this one fails, and none before it. There are t others before them.
abbrev pub check_edges : ℕ → ℕ → ℕ → Term → List Check → List Edge
check_edges done t l none [] = []
check_edges done t l none (check ∷ checks) =
    record { from = l; to = done + suc t; guard = both check.fails none; sets = [] }
    ∷ check_edges done (suc t) l (both none (negated check.fails)) checks

abbrev pub way_edge : ℕ → Term → Way → Edge
way_edge l guard on = record { from = l; to = on.to; guard = guard; sets = on.sets }

-- of the ways, where none of the checks fails
abbrev pub way_edges : ℕ → Term → Spot → List Edge
way_edges l none (Act checks on) = way_edge l none on ∷ []
way_edges l none (Branch checks c one other) = way_edge l (both c none) one ∷ way_edge l (both (negated c) none) other ∷ []
way_edges l none (Enter block instance place to) = []

-- the edges of the spot at location l
abbrev pub edges_at : ℕ → ℕ → ℕ → Spot → List Edge
edges_at done t l spot =
    check_edges done t l true_term (checks_of spot) ++ way_edges l (none_of true_term (checks_of spot)) spot
