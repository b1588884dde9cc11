-- What a push adds to each list of the parts, as functions on lists of the code's nodes, edges and ends. Of checks each adds three
-- nodes: that it fails and none before it does, that it doesn't, and that none so far does. Of a deed its guard and its sets are seen.
use Rattle.std.specs.Prelude.{ℕ, suc, ◌+◌, List, [], ◌∷◌, ◌++◌, cond, Option}
use Rattle.pv_word.specs.declared.types.Ty.TheVariants.{Bool}
use Rattle.pv_flow.specs.declared.op.UnaryOp.TheVariants.{Not}
use Rattle.pv_flow.specs.declared.op.BinaryOp.TheVariants.{And}
use Rattle.pv_flow.specs.declared.term.Node.{Node}
use Rattle.pv_flow.specs.declared.term.Node.TheVariants as node
use Rattle.pv_flow.specs.declared.parts.Deed.{Deed}
use Rattle.pv_flow.specs.declared.parts.Edge.{Edge}
use Rattle.pv_flow.specs.declared.parts.Set.{Set}
use Rattle.pv_flow.specs.declared.parts.TrapEnd.{TrapEnd}
use Rattle.pv_flow.specs.Automata.{Loop}
use Rattle.pv_layout.specs.Layout.{is_marked, with_turns}
use Rattle.pv_layer.specs.declared.types.Check.{Check}

-- ---- nodes

abbrev pub both_node : ℕ → ℕ → Node
both_node one other = node.Binary And Bool one other

abbrev pub not_node : ℕ → Node
not_node term = node.Unary Not Bool term

-- behind k nodes, where term `none` says that no check before fails
abbrev pub guard_nodes : ℕ → ℕ → List Check → List Node
guard_nodes k none [] = []
guard_nodes k none (check ∷ checks) =
    both_node check.fails none ∷ not_node check.fails ∷ both_node none (k + 1) ∷ guard_nodes (k + 3) (k + 2) checks

-- the term that says that none of all of them fails
abbrev pub last_none : ℕ → ℕ → List Check → ℕ
last_none k none [] = none
last_none k none (check ∷ checks) = last_none (k + 3) (k + 2) checks

-- behind k nodes, of two ways where term `none` says that no check fails
abbrev pub way_nodes : ℕ → ℕ → ℕ → List Node
way_nodes k condition none = both_node condition none ∷ not_node condition ∷ both_node (k + 1) none ∷ []

-- ---- deeds

-- a deed without where its sets lie in memory
pub record Plain : Type 0 where
  pub guard : ℕ
  pub sets : List Set

abbrev pub deed_seen : Deed → Plain
deed_seen deed = record { guard = deed.guard; sets = deed.sets.items }

abbrev pub plain_deed : ℕ → List Set → Plain
plain_deed guard sets = record { guard = guard; sets = sets }

-- of the checks whose guards stand from node k on
abbrev pub trap_deeds : ℕ → List Check → List Plain
trap_deeds k [] = []
trap_deeds k (check ∷ checks) = plain_deed k [] ∷ trap_deeds (k + 3) checks

-- ---- edges

abbrev pub plain_edge : ℕ → ℕ → ℕ → Edge
plain_edge from to deed = record { from = from; to = to; deed = deed }

-- of these checks, from location l, the first to this trap, by deeds from d on
abbrev pub trap_edges : ℕ → ℕ → ℕ → List Check → List Edge
trap_edges l to d [] = []
trap_edges l to d (check ∷ checks) = plain_edge l to d ∷ trap_edges l (suc to) (suc d) checks

-- ---- ends

abbrev pub trap_ends : ℕ → List Check → List TrapEnd
trap_ends l [] = []
trap_ends l (check ∷ checks) = record { location = l; kind = check.kind; place = check.place } ∷ trap_ends (suc l) checks

-- ---- loops

-- edge e starts a turn of the marked one of these loops, which are numbered from i on
abbrev pub turned_once : Option ℕ → ℕ → ℕ → List Loop → List Loop
turned_once mark i e [] = []
turned_once mark i e (loop ∷ loops) =
    cond (is_marked i mark) (with_turns loop (loop.turns ++ e ∷ [])) loop ∷ turned_once mark (suc i) e loops
