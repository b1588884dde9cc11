-- Parts that have locations and their end alone have short numbers.
use Rattle.std.proofs.Common.{◌≡◌, ℕ, zero, suc, ◌+◌, ◌≤◌, List, [], ◌∷◌, ◌++◌, length, map, slice_get, replicate, Option, Some, None, Result, Ok, Err, IfErr, refl, sym, subst, ap, ◌∙◌, arith}
use Rattle.std.specs.Prelude.{slice_index_or}
use Rattle.std.proofs.lemmas.Option.{none-some}
use Rattle.pv_flow.specs.declared.term.Node.{Node}
use Rattle.pv_flow.specs.declared.parts.Variable.{Variable as CodeVariable}
use Rattle.pv_flow.specs.declared.parts.Deed.{Deed as CodeDeed}
use Rattle.pv_flow.specs.declared.parts.Edge.{Edge as CodeEdge}
use Rattle.pv_flow.specs.declared.parts.Loop.{Loop as CodeLoop}
use Rattle.pv_flow.specs.declared.parts.CallEdge.{CallEdge as CodeCallEdge}
use Rattle.pv_flow.specs.declared.parts.Parts.{Parts as CodeParts}
use Rattle.pv_flow.specs.Calls.{Blocks, needed, needed_by_calls}
use Rattle.pv_flow.specs.View.{variable_of, call_edge_of, parts_of}
use Rattle.pv_call_copies.specs.Inlined.{span, added_by_calls, added, inlined}
use Rattle.pv_call_tables.specs.declared.marks.Standing.{Standing}
use Rattle.pv_call_tables.specs.declared.marks.Standing.TheVariants as standing
use Rattle.pv_call_tables.specs.declared.drawn.Aim.{Aim}
use Rattle.pv_call_tables.specs.Chains.{chains_of, from_of, first_of}
use Rattle.pv_call_tables.specs.Standings.{standings_of, calls_of}
use Rattle.pv_call_tables.specs.Ranks.{counted}
use Rattle.pv_call_tables.specs.Drawing.{next_after}
use Rattle.pv_call_tables.specs.Wanted.{MOST}
use Rattle.pv_call_tables.specs.Widths.{of_call, text_by, text_at, drawn_by, drawn_at, summed, sums_below}
use Rattle.pv_call_terms.specs.Terms.{node_at}
use Rattle.pv_call_terms.specs.Deeds.{deed_seen, deed_at}
use Rattle.pv_inline.specs.Blocks.{blocks_in}
use Rattle.pv_inline.specs.Tables.{span_below, spans_of, sizes_of, starts_in}
use Rattle.pv_inline.specs.Walking.{Making, Copy, with_deeds, turn_by, all_drawn, all_looped, numbers_at, tables_copied, out_drawn, goes_on, made_by, call_made, location_made, locations_made, below, first_making, entry_copy, all_made}
use Rattle.pv_inline.specs.Short.{EachCall, AreSmall, HasShortText, text_of, HasShortTable, HasShortNumbers, IsCalled, IsReached, entry, called, AreShort, HasShortCopies}
use Rattle.pv_inline.specs.declared.fault.TooLarge.{TooLarge}
use Rattle.pv_inline.specs.declared.fault.TooLarge.TheVariants.{Numbers}
use Rattle.pv_inline.specs.Inlining.{IsTooMany}
use Rattle.pv_contracts_flow.specs.Rows.{IsBare, IsBareBlock}

least : (n : ℕ) → 0 ≤ n
least n = omega arith

-- ---- sums of ones

abbrev Ones : (ℕ → ℕ) → Type 0
Ones f = (l : ℕ) → f l ≤ 1

ones_summed : (f : ℕ → ℕ) → Ones f → (n : ℕ) → summed f n ≤ n
ones_summed f ones zero = least 0
ones_summed f ones (suc n) = let h = ones_summed f ones n in let g = ones n in omega (arith, h, g)

snoc_within : (xs : List ℕ) (y most : ℕ) → ((l : ℕ) → slice_index_or xs l 0 ≤ most) → y ≤ most → (l : ℕ) → slice_index_or (xs ++ y ∷ []) l 0 ≤ most
snoc_within [] y most all le zero = le
snoc_within [] y most all le (suc l) = least most
snoc_within (x ∷ xs) y most all le zero = all zero
snoc_within (x ∷ xs) y most all le (suc l) = snoc_within xs y most (λ k. all (suc k)) le l

zero_within : (most l : ℕ) → slice_index_or (0 ∷ []) l 0 ≤ most
zero_within most zero = least most
zero_within most (suc l) = least most

sums_within : (f : ℕ → ℕ) → Ones f → (n most : ℕ) → n ≤ most → (l : ℕ) → slice_index_or (sums_below f n) l 0 ≤ most
sums_within f ones zero most le l = zero_within most l
sums_within f ones (suc n) most le l =
    snoc_within (sums_below f n) (summed f n + f n) most (sums_within f ones n most (omega (arith, le)))
    (let h = ones_summed f ones (suc n) in by (summed f n + f n) n most h le) l
  where
    by : (a m b : ℕ) → a ≤ suc m → suc m ≤ b → a ≤ b
    by a m b h g = omega (arith, h, g)

-- ---- text and edges

nothing_called : (o : Option ℕ) → of_call [] o ≡ 0
nothing_called None = refl
nothing_called (Some j) = refl

text_one : (s : Standing) (n : ℕ) → n ≡ 0 → text_by s n ≤ 1
text_one standing.Nothing n e = omega (arith, e)
text_one standing.Done n e = omega arith
text_one (standing.Trap kind place) n e = omega arith
text_one (standing.Over place) n e = omega arith

text_ones : (ends : List Standing) (calls : List (Option ℕ)) (texts : List ℕ) → texts ≡ [] → Ones (text_at ends calls texts)
text_ones ends calls texts e l =
    text_one (slice_index_or ends l standing.Nothing) (of_call texts (slice_index_or calls l None))
    (ap (λ (ts : List ℕ). of_call ts (slice_index_or calls l None)) e ∙ nothing_called (slice_index_or calls l None))

no_counts : (n l : ℕ) → ◌≡◌ {A = ℕ} (slice_index_or (replicate n 0) l 0) 0
no_counts zero l = refl
no_counts (suc n) zero = refl
no_counts (suc n) (suc l) = no_counts n l

drawn_one : (s : Standing) (o : Option ℕ) (n l : ℕ) → drawn_by [] (replicate n 0) 0 s o l ≤ 1
drawn_one standing.Nothing None n l = let e = no_counts n l in omega (arith, e)
drawn_one standing.Nothing (Some j) n l = omega arith
drawn_one standing.Done o n l = omega arith
drawn_one (standing.Trap kind place) o n l = omega arith
drawn_one (standing.Over place) o n l = omega arith

-- ---- nothing is made

idle_by : (codes : List (Option CodeParts)) (inner : Copy → Making → Making) (c : Copy) (l : ℕ) (m : Making) → c.parts.calls.items ≡ []
    → c.out ≡ None → numbers_at c.table.edges l ≡ [] → (s : Standing) → made_by codes inner c l s m ≡ m
idle_by codes inner c l m calls out edges standing.Nothing = go (slice_index_or c.table.calls l None)
  where
    go : (o : Option ℕ) → goes_on codes inner c l o m ≡ m
    go None = ap (λ (es : List ℕ). all_drawn c es m) edges
    go (Some j) = ap (λ (cs : List CodeCallEdge). call_made codes inner c l j (slice_get cs j) m) calls
idle_by codes inner c l m calls out edges standing.Done = ap (λ (o : Option Aim). out_drawn c l o m) out
idle_by codes inner c l m calls out edges (standing.Trap kind place) = refl
idle_by codes inner c l m calls out edges (standing.Over place) = refl

none_begin : (n l : ℕ) (froms : List ℕ) → froms ≡ [] → numbers_at (chains_of n froms) l ≡ []
none_begin n l froms e = ap (λ (fs : List ℕ). numbers_at (chains_of n fs) l) e

-- ---- one block

pub bare_short : (codes : List (Option CodeParts)) (p : CodeParts) (n end : ℕ) → IsBare n end p → n ≤ MOST → AreShort codes p
bare_short codes p n end bare few = record {
  table = table_short;
  free = subst (λ (vs : List CodeVariable). length vs ≤ MOST) (sym bare.vars) (least MOST);
  copies = λ levels c reached. subst (λ (x : Copy). HasShortNumbers x (length (all_made codes p).deeds)) (sym (reached_entry levels c reached)) entry_short;
  calls = λ levels c l j call q reached is. absurd (not_called levels c l j call q reached is);
  nodes = subst (λ (m : Making). length m.nodes ≤ MOST) (sym all_is)
      (subst (λ (ns : List Node). length (first_making.nodes ++ map (node_at (entry_copy codes p).place 1) ns) ≤ MOST) (sym bare.nodes) (omega arith));
  deeds = subst (λ (m : Making). length m.deeds ≤ MOST) (sym all_is)
      (subst (λ (ds : List CodeDeed). length (first_making.deeds ++ map (deed_at (entry_copy codes p).place 1) (map deed_seen ds)) ≤ MOST)
      (sym bare.deeds) (omega arith));
  locations = subst (λ (m : Making). next_after (slice_index_or (starts_in (blocks_in codes) p) p.locations 0) m.drawn ≤ MOST) (sym all_is)
      (starts_short (spans_of (span (blocks_in codes)) p.calls.items) (no_texts (span (blocks_in codes))) p.locations);
}
  where
    no_texts : (f : ℕ → ℕ) → spans_of f p.calls.items ≡ []
    no_texts f = ap (λ (cs : List CodeCallEdge). spans_of f cs) bare.calls

    long : p.locations ≤ MOST
    long = subst (λ (m : ℕ). m ≤ MOST) (sym bare.locations) few

    le_most : (a b : ℕ) → a ≤ b → b ≤ MOST → a ≤ MOST
    le_most a b h g = omega (arith, h, g)

    starts_short : (texts : List ℕ) → texts ≡ [] → (l : ℕ)
        → slice_index_or (sums_below (text_at (standings_of p) (calls_of p) texts) p.locations) l 0 ≤ MOST
    starts_short texts e l =
        sums_within (text_at (standings_of p) (calls_of p) texts) (text_ones (standings_of p) (calls_of p) texts e) p.locations MOST long l

    drawn_ones : Ones (drawn_at (standings_of p) (calls_of p) (sizes_of (blocks_in codes) p.calls.items) (counted (replicate p.locations 0) p.edges.items) 0)
    drawn_ones l =
        subst (λ (cs : List CodeCallEdge). drawn_at (standings_of p) (calls_of p) (sizes_of (blocks_in codes) cs)
        (counted (replicate p.locations 0) p.edges.items) 0 l ≤ 1) (sym bare.calls)
        (subst (λ (es : List CodeEdge). drawn_at (standings_of p) (calls_of p) [] (counted (replicate p.locations 0) es) 0 l ≤ 1) (sym bare.edges)
        (drawn_one (slice_index_or (standings_of p) l standing.Nothing) (slice_index_or (calls_of p) l None) p.locations l))

    table_short : HasShortTable codes p 0
    table_short = record {
      texts = subst (λ (cs : List CodeCallEdge). EachCall (HasShortText codes (length codes)) cs) (sym bare.calls) tt;
      text = le_most (text_of p (spans_of (span_below (blocks_in codes) (length codes)) p.calls.items)) p.locations
          (ones_summed (text_at (standings_of p) (calls_of p) (spans_of (span_below (blocks_in codes) (length codes)) p.calls.items))
          (text_ones (standings_of p) (calls_of p) (spans_of (span_below (blocks_in codes) (length codes)) p.calls.items)
          (no_texts (span_below (blocks_in codes) (length codes)))) p.locations) long;
      sizes = subst (λ (cs : List CodeCallEdge). AreSmall codes cs) (sym bare.calls) tt;
      edges = subst (λ (es : List CodeEdge). length es ≤ MOST) (sym bare.edges) (least MOST);
      drawn = le_most (summed (drawn_at (standings_of p) (calls_of p) (sizes_of (blocks_in codes) p.calls.items)
          (counted (replicate p.locations 0) p.edges.items) 0) p.locations) p.locations
          (ones_summed (drawn_at (standings_of p) (calls_of p) (sizes_of (blocks_in codes) p.calls.items)
          (counted (replicate p.locations 0) p.edges.items) 0) drawn_ones p.locations) long;
      variables = subst (λ (cs : List CodeCallEdge). needed_by_calls (needed (blocks_in codes)) (map call_edge_of cs) ≤ MOST) (sym bare.calls) (least MOST);
    }

    reached_entry : (levels : ℕ) (c : Copy) → IsReached codes p levels c → c ≡ entry_copy codes p
    reached_entry levels c entry = refl
    reached_entry levels c (called _ d l j call q reached is) =
        absurd (not_at l j call q d (reached_entry _ d reached) is)
      where
        not_at : (l j : ℕ) (call : CodeCallEdge) (q : CodeParts) (d : Copy) → d ≡ entry_copy codes p → IsCalled codes d l j call q → ⊥
        not_at l j call q d same is =
            none-some call (subst (λ (cs : List CodeCallEdge). slice_get cs j ≡ Some call)
            (ap (λ (x : Copy). x.parts.calls.items) same ∙ bare.calls) is.is_call)

    not_called : (levels : ℕ) (c : Copy) (l j : ℕ) (call : CodeCallEdge) (q : CodeParts) → IsReached codes p (suc levels) c
        → IsCalled codes c l j call q → ⊥
    not_called levels c l j call q reached is =
        none-some call (subst (λ (cs : List CodeCallEdge). slice_get cs j ≡ Some call)
        (ap (λ (x : Copy). x.parts.calls.items) (reached_entry (suc levels) c reached) ∙ bare.calls) is.is_call)

    text_short : (l : ℕ) (n m : ℕ) → n ≤ MOST → m ≡ 0 → (0 + n) + m ≤ MOST
    text_short l n m h e = omega (arith, h, e)

    entry_short : HasShortNumbers (entry_copy codes p) (length (all_made codes p).deeds)
    entry_short = record {
      text = λ l. text_short l (slice_index_or (starts_in (blocks_in codes) p) l 0)
          (of_call (spans_of (span (blocks_in codes)) p.calls.items) (slice_index_or (calls_of p) l None))
          (starts_short (spans_of (span (blocks_in codes)) p.calls.items) (no_texts (span (blocks_in codes))) l)
          (ap (λ (ts : List ℕ). of_call ts (slice_index_or (calls_of p) l None)) (no_texts (span (blocks_in codes)))
          ∙ nothing_called (slice_index_or (calls_of p) l None));
      turns = λ e. subst (λ (es : List CodeEdge). turn_by (entry_copy codes p) e (slice_get es e) ≤ MOST) (sym bare.edges) (least MOST);
      deeds = λ e edge at. absurd (none-some edge (subst (λ (es : List CodeEdge). slice_get es e ≡ Some edge) bare.edges at));
    }

    own : Copy
    own = with_deeds 1 (entry_copy codes p)

    idle : (l : ℕ) (m : Making) → location_made codes (below codes (length codes)) own l m ≡ m
    idle l m =
        ap (λ (ls : List ℕ). made_by codes (below codes (length codes)) own l (slice_index_or (standings_of p) l standing.Nothing) (all_looped own ls m))
        (none_begin p.locations l (map first_of p.loops.items) (ap (λ (ls : List CodeLoop). map first_of ls) bare.loops))
        ∙ idle_by codes (below codes (length codes)) own l m bare.calls refl
        (none_begin p.locations l (map from_of p.edges.items) (ap (λ (es : List CodeEdge). map from_of es) bare.edges))
        (slice_index_or (standings_of p) l standing.Nothing)

    all_idle : (l : ℕ) (m : Making) → locations_made codes (below codes (length codes)) own l m ≡ m
    all_idle zero m = refl
    all_idle (suc l) m = idle l (locations_made codes (below codes (length codes)) own l m) ∙ all_idle l m

    all_is : all_made codes p ≡ tables_copied (entry_copy codes p) first_making
    all_is = all_idle p.locations (tables_copied (entry_copy codes p) first_making)

bare_variables : (blocks : Blocks) (p : CodeParts) (n end : ℕ) → IsBare n end p → length (inlined blocks (parts_of p)).vars ≤ MOST
bare_variables blocks p n end bare =
    subst (λ (vs : List CodeVariable). length (map variable_of vs ++ added_by_calls (added blocks) (map call_edge_of p.calls.items)) ≤ MOST)
    (sym bare.vars)
    (subst (λ (cs : List CodeCallEdge). length (added_by_calls (added blocks) (map call_edge_of cs)) ≤ MOST) (sym bare.calls) (least MOST))

-- so that of its copies no number runs out
pub bare_never : (blocks : List (Option CodeParts)) → IsBareBlock blocks → (r : Result CodeParts TooLarge)
    → IfErr r (IsTooMany (blocks_in blocks) blocks 0) → IfErr r (λ fault. fault ≡ Numbers → ⊥)
bare_never blocks one (Ok made) large = tt
bare_never blocks one (Err fault) large = never
  where
    never : fault ≡ Numbers → ⊥
    never same =
        (subst (λ (f : TooLarge). IsTooMany (blocks_in blocks) blocks 0 f) same large).1
        (subst (λ (bs : List (Option CodeParts)). HasShortCopies bs 0) (sym one.block) (
          bare_short (Some one.parts ∷ []) one.parts one.locations one.end one.bare one.few,
          bare_variables (blocks_in (Some one.parts ∷ [])) one.parts one.locations one.end one.bare,
        ))
