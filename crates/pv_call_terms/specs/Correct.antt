-- What is so of copies of terms and deeds: the statements of the laws.
use Rattle.std.specs.Prelude.{◌≡◌, ℕ, ◌+◌, ◌<◌, ◌≤◌, List, ◌++◌, map, length, slice_get, true}
use Rattle.std.specs.List.{list_all}
use Rattle.pv_flow.specs.declared.term.Node.{Node}
use Rattle.pv_flow.specs.declared.parts.Variable.{Variable}
use Rattle.pv_flow.specs.declared.parts.Deed.{Deed}
use Rattle.pv_flow.specs.Terms.{Term}
use Rattle.pv_flow.specs.Automata.{Parts}
use Rattle.pv_flow.specs.Calls.{Blocks, Work, entry_work, Numbered, base_of, callee_work}
use Rattle.pv_flow.specs.Fitting.{IsFit}
use Rattle.pv_flow.specs.View.{terms_of, variable_of, set_of, guard_of, sets_of}
use Rattle.pv_flow.specs.Tables.{are_ordered, has_terms}
use Rattle.pv_call_copies.specs.Renaming.{renamed, renamed_sets, resets}
use Rattle.pv_call_terms.specs.declared.numbers.TheConstants.{MOST}
use Rattle.pv_call_terms.specs.declared.places.Places.{Places}
use Rattle.pv_call_terms.specs.Places.{place_of, IsEntry, IsCallee}
use Rattle.pv_call_terms.specs.Terms.{node_at}
use Rattle.pv_call_terms.specs.Deeds.{deed_seen, deed_at}
use Rattle.pv_call_terms.specs.Resets.{reset_nodes, reset_sets}

-- ---- places

-- the variables of the block at work lie where the code's places say, if that is within 32 bits; shared ones lie one after another
pub record Lie (k : Work) (p : Places) : Type 0 where
  pub variables : (x : ℕ) → x < length k.parts.vars → k.place x ≤ MOST → place_of p x ≡ k.place x
  pub shared : (y : ℕ) → y < k.parts.shared → k.place (k.parts.bound + y) ≡ p.shared_at + y

-- those of the entry
abbrev pub EntryLies : Type 0
EntryLies = (parts : Parts) (p : Places) → IsEntry parts.bound parts.shared p → Lie (entry_work parts) p

-- and those of a called block, if its caller's do
abbrev pub CalleesLie : Type 0
CalleesLie = (blocks : Blocks) (k : Work) (c : Numbered) (callee : Parts) (p q : Places) → Lie k p → IsFit k.parts c.call callee
    → IsCallee p c.call.instance callee.bound callee.shared (base_of blocks k c.number) q → Lie (callee_work blocks k c callee) q

-- ---- terms

-- behind those that were there stand the block's terms, renamed
abbrev pub TermsAreCopied : Type 0
TermsAreCopied = (place : ℕ → ℕ) (old block : List Node) → are_ordered 0 block ≡ true → length old + length block ≤ MOST
    → terms_of (old ++ map (node_at place (length old)) block) ≡ terms_of old ++ map (renamed place) (terms_of block)

-- operands stand before their users
abbrev pub TermsStayOrdered : Type 0
TermsStayOrdered = (place : ℕ → ℕ) (old block : List Node) → are_ordered 0 old ≡ true → are_ordered 0 block ≡ true
    → are_ordered 0 (old ++ map (node_at place (length old)) block) ≡ true

-- ---- deeds

-- behind the deeds `before` stand copies of the block's deeds, whose terms stand behind so many others
abbrev pub AreCopied : (ℕ → ℕ) → ℕ → List Deed → List Deed → List Deed → Type 0
AreCopied place after before block all =
    map deed_seen all ≡ map deed_seen before ++ map (deed_at place after) (map deed_seen block)

-- they have the block's guards and sets, renamed
abbrev pub DeedsAreCopied : Type 0
DeedsAreCopied = (place : ℕ → ℕ) (old block : List Term) (before deeds all : List Deed) (n : ℕ)
    → list_all (has_terms (length block)) deeds ≡ true → length old + length block ≤ MOST → n < length deeds
    → AreCopied place (length old) before deeds all
    → (guard_of (old ++ map (renamed place) block) (slice_get all (length before + n)) ≡ renamed place (guard_of block (slice_get deeds n)))
    × (sets_of (old ++ map (renamed place) block) (slice_get all (length before + n)) ≡ renamed_sets place (sets_of block (slice_get deeds n)))

-- and their numbers name terms
abbrev pub DeedsStayTabled : Type 0
DeedsStayTabled = (place : ℕ → ℕ) (old block : ℕ) (before deeds all : List Deed)
    → list_all (has_terms old) before ≡ true → list_all (has_terms block) deeds ≡ true → AreCopied place old before deeds all
    → list_all (has_terms (old + block)) all ≡ true

-- ---- edges into called blocks

-- what is set there is what the call begins with, where variables lie as they do in the block at work
abbrev pub ResetsAreMade : Type 0
ResetsAreMade = (k : Work) (place : ℕ → ℕ) (old : List Node) (vars : List Variable) → map variable_of vars ≡ k.parts.vars
    → ((x : ℕ) → x < length vars → place x ≡ k.place x) → length old + length (reset_nodes k.parts.bound k.parts.shared 0 vars) ≤ MOST
    → map (set_of (terms_of (old ++ reset_nodes k.parts.bound k.parts.shared 0 vars)))
    (reset_sets place k.parts.bound k.parts.shared (length old) 0 vars) ≡ resets k
