-- The automaton of the copies runs as they do: its location i is copy i of the text, the one behind the text is where a scan is done, and
-- those behind that are of traps.
use Rattle.std.proofs.Common.{◌≡◌, ℕ, zero, suc, ◌+◌, ◌*◌, ◌<◌, ◌≤◌, ◌⊎◌, inl, inr, List, [], ◌∷◌, ◌++◌, map, length, slice_get, Bool, true, false, not, ◌||◌, ◌==◌, cond, Option, Some, None, refl, sym, subst, ap, ◌∙◌, arith}
use Rattle.std.specs.List.{AllByRecursion, list_any}
use Rattle.std.proofs.lemmas.Bool.{both_ways, eqb-true, eq-eqb, ne_eqb, or_left, or_right, or_from, or_parts, not-true}
use Rattle.std.proofs.lemmas.Option.{none-some, same_Some}
use Rattle.pv_flow.specs.Terms.{Valuation}
use Rattle.pv_flow.specs.Automata.{Edge, Loop, TrapEnd, OverEnd, Parts, holds, edges_from, calls_from}
use Rattle.pv_flow.specs.Faults.{IsFaultless}
use Rattle.pv_flow.specs.WellMade.{is_end, IsWellMade}
use Rattle.pv_flow.specs.Runs.{End, done, trap, over, Way, run, Counts, Spot, at, past, led, ways_by, trap_at, over_at, or_else, end_at, control_of, first_spot}
use Rattle.pv_flow.proofs.ForCallers.{ArePaired, AreAlike, same_runs}
use Rattle.pv_copies.specs.Copies.{Copy, copy, beyond, location_of, numbers_of, within, target, entered_copy, exit_of_copy, ways_to, ways_of_copy, copies_control, first_copy}
use Rattle.pv_copies.specs.Places.{fits, size, place, IsCopy, stands_in, one_each, Stands}
use Rattle.pv_copies.specs.Unrolled.{CopiedEdge, copied_edges, copied, whole_text, text_size, place_in_text, numbered_by, traps_by, with_trap, with_over, edges_of, traps_of, overs_of, unrolled}
use Rattle.pv_copies.proofs.Nesting.{Side, before, here, behind, side, out_before, in_here, AreInOrder, AreOf, fitting, apart_of, of_before, of_inside, loops_in_order}
use Rattle.pv_copies.proofs.Picking.{size_apart, place_before, place_apart, place_within}
use Rattle.pv_copies.proofs.Forward.{ranges_of, entered_location}
use Rattle.pv_copies.proofs.Rising.{total_none}
use Rattle.pv_copies.proofs.Listing.{Along, IsNumbered}
use Rattle.pv_copies.proofs.Whole.{loops_of, some_locations, first_is, copies_lead_to_copies, text_is_numbered, text_has_copies, text_is_long}

-- ---- the ways of one number

abbrev way_along : CopiedEdge → Way Copy
way_along x = record { guard = x.guard; sets = x.sets; to = x.to }

abbrev pub ways_at : ℕ → List CopiedEdge → List (Way Copy)
ways_at i [] = []
ways_at i (x ∷ xs) = cond (x.from == i) (way_along x ∷ ways_at i xs) (ways_at i xs)

ways_append : (i : ℕ) (xs ys : List CopiedEdge) → ways_at i (xs ++ ys) ≡ ways_at i xs ++ ways_at i ys
ways_append i [] ys = refl
ways_append i (x ∷ xs) ys = by (x.from == i) (ways_append i xs ys)
  where
    by : (b : Bool) → ways_at i (xs ++ ys) ≡ ways_at i xs ++ ways_at i ys
        → cond b (way_along x ∷ ways_at i (xs ++ ys)) (ways_at i (xs ++ ys)) ≡ cond b (way_along x ∷ ways_at i xs) (ways_at i xs) ++ ways_at i ys
    by true h = ap (λ (zs : List (Way Copy)). way_along x ∷ zs) h
    by false h = h

own_ways : (n : ℕ) (loops : List Loop) (i e l : ℕ) (ks : List ℕ) (edges : List Edge)
    → ways_at i (copied_edges n loops i e l ks edges) ≡ ways_to n loops e l ks edges
own_ways n loops i e l ks [] = refl
own_ways n loops i e l ks (edge ∷ edges) = by (edge.from == l) (own_ways n loops i (suc e) l ks edges)
  where
    by : (b : Bool) → ways_at i (copied_edges n loops i (suc e) l ks edges) ≡ ways_to n loops (suc e) l ks edges
        → ways_at i (cond b
        (record { from = i; to = target n loops e l edge.to ks; guard = edge.guard; sets = edge.sets } ∷ copied_edges n loops i (suc e) l ks edges)
        (copied_edges n loops i (suc e) l ks edges))
        ≡ cond b (record { guard = edge.guard; sets = edge.sets; to = target n loops e l edge.to ks } ∷ ways_to n loops (suc e) l ks edges)
        (ways_to n loops (suc e) l ks edges)
    by false h = h
    by true h = ap (λ (t : Bool). cond t
        (record { guard = edge.guard; sets = edge.sets; to = target n loops e l edge.to ks } ∷ ways_at i (copied_edges n loops i (suc e) l ks edges))
        (ways_at i (copied_edges n loops i (suc e) l ks edges))) (eq-eqb i i refl)
        ∙ ap (λ (zs : List (Way Copy)). record { guard = edge.guard; sets = edge.sets; to = target n loops e l edge.to ks } ∷ zs) h

other_ways : (n : ℕ) (loops : List Loop) (j i e l : ℕ) (ks : List ℕ) (edges : List Edge) → (j == i) ≡ false
    → ways_at i (copied_edges n loops j e l ks edges) ≡ []
other_ways n loops j i e l ks [] differ = refl
other_ways n loops j i e l ks (edge ∷ edges) differ = by (edge.from == l) (other_ways n loops j i (suc e) l ks edges differ)
  where
    by : (b : Bool) → ways_at i (copied_edges n loops j (suc e) l ks edges) ≡ []
        → ways_at i (cond b
        (record { from = j; to = target n loops e l edge.to ks; guard = edge.guard; sets = edge.sets } ∷ copied_edges n loops j (suc e) l ks edges)
        (copied_edges n loops j (suc e) l ks edges)) ≡ []
    by false h = h
    by true h = ap (λ (t : Bool). cond t
        (record { guard = edge.guard; sets = edge.sets; to = target n loops e l edge.to ks } ∷ ways_at i (copied_edges n loops j (suc e) l ks edges))
        (ways_at i (copied_edges n loops j (suc e) l ks edges))) differ ∙ h

-- no copy of another number has this one's ways
none_before : (p : Parts) (n k i : ℕ) (cs : List Copy) → i < k → ways_at i (copied p n k cs) ≡ []
none_before p n k i [] lt = refl
none_before p n k i (copy l ks ∷ cs) lt =
    ways_append i (copied_edges n p.loops k 0 l ks p.edges) (copied p n (suc k) cs)
    ∙ ap (λ (zs : List (Way Copy)). zs ++ ways_at i (copied p n (suc k) cs)) (other_ways n p.loops k i 0 l ks p.edges (ne_eqb k i (λ e. absurd (omega (arith, e, lt)))))
    ∙ none_before p n (suc k) i cs (omega (arith, lt))
none_before p n k i (beyond loop ks ∷ cs) lt = none_before p n (suc k) i cs (omega (arith, lt))

pub none_behind : (p : Parts) (n k i : ℕ) (cs : List Copy) → k + length cs ≤ i → ways_at i (copied p n k cs) ≡ []
none_behind p n k i [] le = refl
none_behind p n k i (copy l ks ∷ cs) le =
    ways_append i (copied_edges n p.loops k 0 l ks p.edges) (copied p n (suc k) cs)
    ∙ ap (λ (zs : List (Way Copy)). zs ++ ways_at i (copied p n (suc k) cs)) (other_ways n p.loops k i 0 l ks p.edges (ne_eqb k i (λ e. absurd (omega (arith, e, le)))))
    ∙ none_behind p n (suc k) i cs (omega (arith, le))
none_behind p n k i (beyond loop ks ∷ cs) le = none_behind p n (suc k) i cs (omega (arith, le))

no_more : {X : Type 0} (xs : List X) → xs ++ [] ≡ xs
no_more [] = refl
no_more (x ∷ xs) = ap (λ ys. x ∷ ys) (no_more xs)

pub ways_of_number : (p : Parts) (n k j i : ℕ) (cs : List Copy) (c : Copy) → i ≡ k + j → slice_get cs j ≡ Some c
    → ways_at i (copied p n k cs) ≡ ways_of_copy p n c
ways_of_number p n k j i [] c e g = absurd (none-some c g)
ways_of_number p n k zero i (copy l ks ∷ cs) c e g =
    ways_append i (copied_edges n p.loops k 0 l ks p.edges) (copied p n (suc k) cs)
    ∙ ap (λ (zs : List (Way Copy)). ways_at i (copied_edges n p.loops k 0 l ks p.edges) ++ zs) (none_before p n (suc k) i cs (omega (arith, e)))
    ∙ no_more (ways_at i (copied_edges n p.loops k 0 l ks p.edges))
    ∙ ap (λ (m : ℕ). ways_at m (copied_edges n p.loops k 0 l ks p.edges)) (same e)
    ∙ own_ways n p.loops k 0 l ks p.edges
    ∙ ap (λ (x : Copy). ways_of_copy p n x) (same_Some (copy l ks) c g)
  where
    same : i ≡ k + 0 → i ≡ k
    same e = omega (arith, e)
ways_of_number p n k zero i (beyond loop ks ∷ cs) c e g =
    none_before p n (suc k) i cs (omega (arith, e)) ∙ ap (λ (x : Copy). ways_of_copy p n x) (same_Some (beyond loop ks) c g)
ways_of_number p n k (suc j) i (copy l ks ∷ cs) c e g =
    ways_append i (copied_edges n p.loops k 0 l ks p.edges) (copied p n (suc k) cs)
    ∙ ap (λ (zs : List (Way Copy)). zs ++ ways_at i (copied p n (suc k) cs)) (other_ways n p.loops k i 0 l ks p.edges (ne_eqb k i (λ d. absurd (omega (arith, d, e)))))
    ∙ ways_of_number p n (suc k) j i cs c (omega (arith, e)) g
ways_of_number p n k (suc j) i (beyond loop ks ∷ cs) c e g = ways_of_number p n (suc k) j i cs c (omega (arith, e)) g

-- ---- ends by number

-- what is gone over, of what a copy ends
abbrev only_over : Option End → Option End
only_over None = None
only_over (Some done) = None
only_over (Some (trap kind place)) = None
only_over (Some (over place)) = Some (over place)

over_other : (e : Option End) (i m : ℕ) (ends : List OverEnd) → (i == m) ≡ false → over_at m (with_over e i ends) ≡ over_at m ends
over_other None i m ends differ = refl
over_other (Some done) i m ends differ = refl
over_other (Some (trap kind place)) i m ends differ = refl
over_other (Some (over place)) i m ends differ = ap (λ (t : Bool). cond t (Some (over place)) (over_at m ends)) differ

no_over_before : (p : Parts) (k m : ℕ) (cs : List Copy) → m < k → over_at m (overs_of p k cs) ≡ None
no_over_before p k m [] lt = refl
no_over_before p k m (c ∷ cs) lt = over_other (exit_of_copy p c) k m (overs_of p (suc k) cs) (ne_eqb k m (λ e. absurd (omega (arith, e, lt))))
    ∙ no_over_before p (suc k) m cs (omega (arith, lt))

over_own : (e : Option End) (i : ℕ) (ends : List OverEnd) → over_at i ends ≡ None → over_at i (with_over e i ends) ≡ only_over e
over_own None i ends h = h
over_own (Some done) i ends h = h
over_own (Some (trap kind place)) i ends h = h
over_own (Some (over place)) i ends h = ap (λ (t : Bool). cond t (Some (over place)) (over_at i ends)) (eq-eqb i i refl)

over_of_number : (p : Parts) (k j i : ℕ) (cs : List Copy) (c : Copy) → i ≡ k + j → slice_get cs j ≡ Some c
    → over_at i (overs_of p k cs) ≡ only_over (exit_of_copy p c)
over_of_number p k j i [] c e g = absurd (none-some c g)
over_of_number p k zero i (d ∷ cs) c e g =
    ap (λ (m : ℕ). over_at m (overs_of p k (d ∷ cs))) (same e)
    ∙ over_own (exit_of_copy p d) k (overs_of p (suc k) cs) (no_over_before p (suc k) k cs (omega arith))
    ∙ ap (λ (x : Copy). only_over (exit_of_copy p x)) (same_Some d c g)
  where
    same : i ≡ k + 0 → i ≡ k
    same e = omega (arith, e)
over_of_number p k (suc j) i (d ∷ cs) c e g =
    over_other (exit_of_copy p d) k i (overs_of p (suc k) cs) (ne_eqb k i (λ x. absurd (omega (arith, x, e))))
    ∙ over_of_number p (suc k) j i cs c (omega (arith, e)) g

trap_other : (e : Option End) (i m : ℕ) (ends : List TrapEnd) → (i == m) ≡ false → trap_at m (with_trap e i ends) ≡ trap_at m ends
trap_other None i m ends differ = refl
trap_other (Some done) i m ends differ = refl
trap_other (Some (trap kind place)) i m ends differ = ap (λ (t : Bool). cond t (Some (trap kind place)) (trap_at m ends)) differ
trap_other (Some (over place)) i m ends differ = refl

-- traps stand behind where a scan is done
no_trap_before : (p : Parts) (n t m : ℕ) (xs : List CopiedEdge) → m ≤ text_size p n → trap_at m (traps_of p n t xs) ≡ None
no_trap_before p n t m [] le = refl
no_trap_before p n t m (x ∷ xs) le =
    trap_other (exit_of_copy p x.to) (text_size p n + suc t) m (traps_of p n (traps_by (exit_of_copy p x.to) t) xs)
    (ne_eqb (text_size p n + suc t) m (λ e. absurd (omega (arith, e, le))))
    ∙ no_trap_before p n (traps_by (exit_of_copy p x.to) t) m xs le

-- ---- copies and numbers

-- by what the copy ends
abbrev NumberBy : Parts → ℕ → List TrapEnd → Copy → ℕ → Option End → Type 0
NumberBy p n traps c i None = (slice_get (whole_text p n) i ≡ Some c) × (i < text_size p n)
NumberBy p n traps c i (Some done) = i ≡ text_size p n
NumberBy p n traps c i (Some (trap kind place)) = (text_size p n < i) × (trap_at i traps ≡ Some (trap kind place))
NumberBy p n traps c i (Some (over place)) = (slice_get (whole_text p n) i ≡ Some c) × (i < text_size p n)

abbrev all_copied : Parts → ℕ → List CopiedEdge
all_copied p n = copied p n 0 (whole_text p n)

abbrev IsNumberOf : Parts → ℕ → Copy → Spot → Type 0
IsNumberOf p n c (at i counts) = NumberBy p n (traps_of p n 0 (all_copied p n)) c i (exit_of_copy p c)
IsNumberOf p n c (past place) = ⊥

exit_by : (p : Parts) (n : ℕ) (c : Copy) (i : ℕ) (e : Option End) → exit_of_copy p c ≡ e
    → NumberBy p n (traps_of p n 0 (all_copied p n)) c i e → e ≡ end_at (unrolled p n) i
exit_by p n c i (Some done) x h = sym (ap (λ (t : Bool). cond t (Some done)
    (or_else (trap_at i (traps_of p n 0 (all_copied p n))) (over_at i (overs_of p 0 (whole_text p n))))) (eq-eqb (text_size p n) i (sym h)))
exit_by p n c i (Some (trap kind place)) x h =
    sym (ap (λ (t : Bool). cond t (Some done)
    (or_else (trap_at i (traps_of p n 0 (all_copied p n))) (over_at i (overs_of p 0 (whole_text p n)))))
    (ne_eqb (text_size p n) i (λ e. absurd (omega (arith, e, h.0))))
    ∙ ap (λ (o : Option End). or_else o (over_at i (overs_of p 0 (whole_text p n)))) h.1)
exit_by p n c i None x h =
    sym (ap (λ (t : Bool). cond t (Some done)
    (or_else (trap_at i (traps_of p n 0 (all_copied p n))) (over_at i (overs_of p 0 (whole_text p n)))))
    (ne_eqb (text_size p n) i (λ e. absurd (omega (arith, e, h.1))))
    ∙ ap (λ (o : Option End). or_else o (over_at i (overs_of p 0 (whole_text p n)))) (no_trap_before p n 0 i (all_copied p n) (omega (arith, h.1)))
    ∙ over_of_number p 0 i i (whole_text p n) c (omega arith) h.0 ∙ ap only_over x)
exit_by p n c i (Some (over place)) x h =
    sym (ap (λ (t : Bool). cond t (Some done)
    (or_else (trap_at i (traps_of p n 0 (all_copied p n))) (over_at i (overs_of p 0 (whole_text p n)))))
    (ne_eqb (text_size p n) i (λ e. absurd (omega (arith, e, h.1))))
    ∙ ap (λ (o : Option End). or_else o (over_at i (overs_of p 0 (whole_text p n)))) (no_trap_before p n 0 i (all_copied p n) (omega (arith, h.1)))
    ∙ over_of_number p 0 i i (whole_text p n) c (omega arith) h.0 ∙ ap only_over x)

-- ---- ways

-- a copy that is led to, if it doesn't stand behind the text
abbrev pub IsListed : Parts → ℕ → Copy → Option End → Type 0
IsListed p n c None = (slice_get (whole_text p n) (place_in_text p n c) ≡ Some c) × (place_in_text p n c < text_size p n)
IsListed p n c (Some done) = Unit {0}
IsListed p n c (Some (trap kind place)) = Unit {0}
IsListed p n c (Some (over place)) = (slice_get (whole_text p n) (place_in_text p n c) ≡ Some c) × (place_in_text p n c < text_size p n)

-- what is left has all traps from number t on
abbrev AreLeft : Parts → ℕ → List TrapEnd → ℕ → List CopiedEdge → Type 0
AreLeft p n traps t xs = (m : ℕ) → text_size p n + t < m → trap_at m traps ≡ trap_at m (traps_of p n t xs)

left_after : (p : Parts) (n : ℕ) (traps : List TrapEnd) (t : ℕ) (x : CopiedEdge) (xs : List CopiedEdge) (e : Option End)
    → ((m : ℕ) → text_size p n + t < m → trap_at m traps ≡ trap_at m (with_trap e (text_size p n + suc t) (traps_of p n (traps_by e t) xs)))
    → AreLeft p n traps (traps_by e t) xs
left_after p n traps t x xs None h m lt = h m lt
left_after p n traps t x xs (Some done) h m lt = h m lt
left_after p n traps t x xs (Some (over place)) h m lt = h m lt
left_after p n traps t x xs (Some (trap kind place)) h m lt = h m (omega (arith, lt))
    ∙ trap_other (Some (trap kind place)) (text_size p n + suc t) m (traps_of p n (suc t) xs) (ne_eqb (text_size p n + suc t) m (λ e. absurd (omega (arith, e, lt))))

led_number : (p : Parts) (n : ℕ) (traps : List TrapEnd) (t : ℕ) (c : Copy) (xs : List CopiedEdge) (e : Option End) → IsListed p n c e
    → ((m : ℕ) → text_size p n + t < m → trap_at m traps ≡ trap_at m (with_trap e (text_size p n + suc t) (traps_of p n (traps_by e t) xs)))
    → NumberBy p n traps c (numbered_by e (text_size p n) t (place_in_text p n c)) e
led_number p n traps t c xs None h left = h
led_number p n traps t c xs (Some done) h left = refl
led_number p n traps t c xs (Some (over place)) h left = h
led_number p n traps t c xs (Some (trap kind place)) h left = (
  omega arith,
  left (text_size p n + suc t) (omega arith)
      ∙ ap (λ (b : Bool). cond b (Some (trap kind place)) (trap_at (text_size p n + suc t) (traps_of p n (suc t) xs)))
      (eq-eqb (text_size p n + suc t) (text_size p n + suc t) refl),
)

abbrev pub AllListed : Parts → ℕ → List CopiedEdge → Type 0
AllListed p n xs = AllByRecursion (λ (x : CopiedEdge). IsListed p n x.to (exit_of_copy p x.to)) xs

ways_paired : (p : Parts) (n i : ℕ) (counts : Counts) (e t : ℕ) (xs : List CopiedEdge) → AllListed p n xs
    → AreLeft p n (traps_of p n 0 (all_copied p n)) t xs
    → ArePaired (IsNumberOf p n) (ways_at i xs) (ways_by [] 1 i counts e (edges_of p n t xs))
ways_paired p n i counts e t [] listed left = tt
ways_paired p n i counts e t (x ∷ xs) listed left =
    by (x.from == i) (ways_paired p n i counts (suc e) (traps_by (exit_of_copy p x.to) t) xs listed.1
    (left_after p n (traps_of p n 0 (all_copied p n)) t x xs (exit_of_copy p x.to) left))
  where
    by : (b : Bool)
        → ArePaired (IsNumberOf p n) (ways_at i xs) (ways_by [] 1 i counts (suc e) (edges_of p n (traps_by (exit_of_copy p x.to) t) xs))
        → ArePaired (IsNumberOf p n) (cond b (way_along x ∷ ways_at i xs) (ways_at i xs)) (cond b
        (record {
          guard = x.guard;
          sets = x.sets;
          to = led [] 1 e i (numbered_by (exit_of_copy p x.to) (text_size p n) t (place_in_text p n x.to)) counts;
        } ∷ ways_by [] 1 i counts (suc e) (edges_of p n (traps_by (exit_of_copy p x.to) t) xs))
        (ways_by [] 1 i counts (suc e) (edges_of p n (traps_by (exit_of_copy p x.to) t) xs)))
    by false h = h
    by true h = (
      refl,
      refl,
      led_number p n (traps_of p n 0 (all_copied p n)) t x.to xs (exit_of_copy p x.to) listed.0 left,
      h,
    )

-- ---- what ends has no edges

no_edges : (n : ℕ) (loops : List Loop) (e l : ℕ) (ks : List ℕ) (edges : List Edge) → length (edges_from l edges) ≡ 0
    → ways_to n loops e l ks edges ≡ []
no_edges n loops e l ks [] none = refl
no_edges n loops e l ks (edge ∷ edges) none = by (edge.from == l) refl (λ h. no_edges n loops (suc e) l ks edges h)
  where
    by : (b : Bool) → (edge.from == l) ≡ b → (length (edges_from l edges) ≡ 0 → ways_to n loops (suc e) l ks edges ≡ [])
        → ways_to n loops e l ks (edge ∷ edges) ≡ []
    by false off go = ap (λ (t : Bool). cond t
        (record { guard = edge.guard; sets = edge.sets; to = target n loops e l edge.to ks } ∷ ways_to n loops (suc e) l ks edges)
        (ways_to n loops (suc e) l ks edges)) off
        ∙ go (sym (ap (λ (t : Bool). length (cond t (edge ∷ edges_from l edges) (edges_from l edges))) off) ∙ none)
    by true on go = absurd (omega (arith, sym (ap (λ (t : Bool). length (cond t (edge ∷ edges_from l edges) (edges_from l edges))) on) ∙ none))

end_has_no_ways : (p : Parts) (n : ℕ) → IsWellMade p → (l : ℕ) (ks : List ℕ) → is_end p l ≡ true → ways_of_copy p n (copy l ks) ≡ []
end_has_no_ways p n w l ks end = no_edges n p.loops 0 l ks p.edges (second (length (calls_from l p.calls)) (length (edges_from l p.edges)) (w.ends l end))
  where
    second : (a b : ℕ) → a + b ≡ 0 → b ≡ 0
    second a b e = omega (arith, e)

pub any_behind : (f : ℕ → Bool) (xs ys : List ℕ) → list_any f ys ≡ true → list_any f (xs ++ ys) ≡ true
any_behind f [] ys h = h
any_behind f (x ∷ xs) ys h = or_right (f x) (list_any f (xs ++ ys)) (any_behind f xs ys h)

trap_ends : (l : ℕ) (e : End) (traps : List TrapEnd) (others : List ℕ) → trap_at l traps ≡ Some e
    → list_any (λ (end : ℕ). end == l) (map (λ (end : TrapEnd). end.location) traps ++ others) ≡ true
trap_ends l e [] others h = absurd (none-some e h)
trap_ends l e (end ∷ traps) others h = by (end.location == l) refl (λ g. trap_ends l e traps others g)
  where
    by : (b : Bool) → (end.location == l) ≡ b
        → (trap_at l traps ≡ Some e → list_any (λ (other : ℕ). other == l) (map (λ (other : TrapEnd). other.location) traps ++ others) ≡ true)
        → ((end.location == l) || list_any (λ (other : ℕ). other == l) (map (λ (other : TrapEnd). other.location) traps ++ others)) ≡ true
    by true on go = or_left (end.location == l) (list_any (λ (other : ℕ). other == l) (map (λ (other : TrapEnd). other.location) traps ++ others)) on
    by false off go = or_right (end.location == l) (list_any (λ (other : ℕ). other == l) (map (λ (other : TrapEnd). other.location) traps ++ others))
        (go (sym (ap (λ (t : Bool). cond t (Some (trap end.kind end.place)) (trap_at l traps)) off) ∙ h))

over_ends : (l : ℕ) (e : End) (overs : List OverEnd) → over_at l overs ≡ Some e
    → list_any (λ (end : ℕ). end == l) (map (λ (end : OverEnd). end.location) overs) ≡ true
over_ends l e [] h = absurd (none-some e h)
over_ends l e (end ∷ overs) h = by (end.location == l) refl (λ g. over_ends l e overs g)
  where
    by : (b : Bool) → (end.location == l) ≡ b
        → (over_at l overs ≡ Some e → list_any (λ (other : ℕ). other == l) (map (λ (other : OverEnd). other.location) overs) ≡ true)
        → ((end.location == l) || list_any (λ (other : ℕ). other == l) (map (λ (other : OverEnd). other.location) overs)) ≡ true
    by true on go = or_left (end.location == l) (list_any (λ (other : ℕ). other == l) (map (λ (other : OverEnd). other.location) overs)) on
    by false off go = or_right (end.location == l) (list_any (λ (other : ℕ). other == l) (map (λ (other : OverEnd). other.location) overs))
        (go (sym (ap (λ (t : Bool). cond t (Some (over end.place)) (over_at l overs)) off) ∙ h))

ends_there : (p : Parts) (l : ℕ) (e : End) → end_at p l ≡ Some e → is_end p l ≡ true
ends_there p l e h = by (p.done == l) refl (trap_at l p.traps) refl
  where
    by : (b : Bool) → (p.done == l) ≡ b → (o : Option End) → trap_at l p.traps ≡ o → is_end p l ≡ true
    by true on o g = or_left (p.done == l)
        (list_any (λ (end : ℕ). end == l) (map (λ (end : TrapEnd). end.location) p.traps ++ map (λ (end : OverEnd). end.location) p.overs)) on
    by false off (Some d) g = or_right (p.done == l)
        (list_any (λ (end : ℕ). end == l) (map (λ (end : TrapEnd). end.location) p.traps ++ map (λ (end : OverEnd). end.location) p.overs))
        (trap_ends l d p.traps (map (λ (end : OverEnd). end.location) p.overs) g)
    by false off None g = or_right (p.done == l)
        (list_any (λ (end : ℕ). end == l) (map (λ (end : TrapEnd). end.location) p.traps ++ map (λ (end : OverEnd). end.location) p.overs))
        (any_behind (λ (end : ℕ). end == l) (map (λ (end : TrapEnd). end.location) p.traps) (map (λ (end : OverEnd). end.location) p.overs)
        (over_ends l e p.overs (sym (ap (λ (t : Bool). cond t (Some done) (or_else (trap_at l p.traps) (over_at l p.overs))) off
        ∙ ap (λ (x : Option End). or_else x (over_at l p.overs)) g) ∙ h)))

pub ended_ways : (p : Parts) (n : ℕ) → IsWellMade p → (c : Copy) (e : End) → exit_of_copy p c ≡ Some e → ways_of_copy p n c ≡ []
ended_ways p n w (copy l ks) e h = end_has_no_ways p n w l ks (ends_there p l e h)
ended_ways p n w (beyond loop ks) e h = refl

-- ---- which copies stand in the text

-- one that doesn't end as where a scan is done or as a trap
abbrev pub IsText : Option End → Type 0
IsText None = Unit {0}
IsText (Some done) = ⊥
IsText (Some (trap kind place)) = ⊥
IsText (Some (over place)) = Unit {0}

trap_there : (l : ℕ) (traps : List TrapEnd) (others : Option End) → IsText (or_else (trap_at l traps) others)
    → list_any (λ (end : TrapEnd). end.location == l) traps ≡ false
trap_there l [] others h = refl
trap_there l (end ∷ traps) others h = by (end.location == l) refl (λ g. trap_there l traps others g)
  where
    by : (b : Bool) → (end.location == l) ≡ b
        → (IsText (or_else (trap_at l traps) others) → list_any (λ (other : TrapEnd). other.location == l) traps ≡ false)
        → ((end.location == l) || list_any (λ (other : TrapEnd). other.location == l) traps) ≡ false
    by true on go = absurd (subst (λ (t : Bool). IsText (or_else (cond t (Some (trap end.kind end.place)) (trap_at l traps)) others)) on h)
    by false off go = or_from (end.location == l) (list_any (λ (other : TrapEnd). other.location == l) traps) off
        (go (subst (λ (t : Bool). IsText (or_else (cond t (Some (trap end.kind end.place)) (trap_at l traps)) others)) off h))

text_stands : (p : Parts) (l : ℕ) → IsText (end_at p l) → stands_in p l ≡ true
text_stands p l h = by (p.done == l) refl
  where
    by : (b : Bool) → (p.done == l) ≡ b → stands_in p l ≡ true
    by true on = absurd (subst (λ (t : Bool). IsText (cond t (Some done) (or_else (trap_at l p.traps) (over_at l p.overs)))) on h)
    by false off = ap not (or_from (p.done == l) (list_any (λ (end : TrapEnd). end.location == l) p.traps) off
        (trap_there l p.traps (over_at l p.overs) (subst (λ (t : Bool). IsText (cond t (Some done) (or_else (trap_at l p.traps) (over_at l p.overs)))) off h)))

stands_by : (p : Parts) (c : Copy) → IsText (exit_of_copy p c) → Stands (stands_in p) c
stands_by p (copy l ks) h = text_stands p l h
stands_by p (beyond loop ks) h = tt

pub get_below : {X : Type 0} (xs : List X) (i : ℕ) (x : X) → slice_get xs i ≡ Some x → i < length xs
get_below [] i x h = absurd (none-some x h)
get_below (y ∷ xs) zero x h = omega arith
get_below (y ∷ xs) (suc i) x h = let rest = get_below xs i x h in omega (arith, rest)

listed_in : (p : Parts) (n : ℕ) → IsFaultless p → IsWellMade p → (c : Copy) → IsCopy n p.loops 0 p.locations c → IsText (exit_of_copy p c)
    → (slice_get (whole_text p n) (place_in_text p n c) ≡ Some c) × (place_in_text p n c < text_size p n)
listed_in p n f w c is stands =
    let there = text_has_copies p n c f w is (stands_by p c stands) in
    let short = get_below (whole_text p n) (place_in_text p n c) c there in
    (there, omega (arith, short, text_is_long p n f w))

is_listed : (p : Parts) (n : ℕ) → IsFaultless p → IsWellMade p → (c : Copy) → IsCopy n p.loops 0 p.locations c → (e : Option End) → exit_of_copy p c ≡ e
    → IsListed p n c e
is_listed p n f w c is None h = listed_in p n f w c is (subst IsText (sym h) tt)
is_listed p n f w c is (Some done) h = tt
is_listed p n f w c is (Some (trap kind place)) h = tt
is_listed p n f w c is (Some (over place)) h = listed_in p n f w c is (subst IsText (sym h) tt)

-- ---- all copies of edges lead to copies

each_copied : (p : Parts) (n : ℕ) → IsFaultless p → IsWellMade p → 0 < n → (i e l : ℕ) (ks : List ℕ) (edges : List Edge)
    → IsCopy n p.loops 0 p.locations (copy l ks)
    → ((j : ℕ) (edge : Edge) → slice_get edges j ≡ Some edge → slice_get p.edges (e + j) ≡ Some edge)
    → AllListed p n (copied_edges n p.loops i e l ks edges)
each_copied p n f w some i e l ks [] is known = tt
each_copied p n f w some i e l ks (edge ∷ edges) is known =
    by (edge.from == l) refl (each_copied p n f w some i (suc e) l ks edges is
    (λ j other g. subst (λ (m : ℕ). slice_get p.edges m ≡ Some other) (further e j) (known (suc j) other g)))
  where
    further : (e j : ℕ) → e + suc j ≡ suc e + j
    further e j = omega arith

    first : (e : ℕ) → e + 0 ≡ e
    first e = omega arith

    by : (b : Bool) → (edge.from == l) ≡ b → AllListed p n (copied_edges n p.loops i (suc e) l ks edges)
        → AllListed p n (cond b
        (record { from = i; to = target n p.loops e l edge.to ks; guard = edge.guard; sets = edge.sets } ∷ copied_edges n p.loops i (suc e) l ks edges)
        (copied_edges n p.loops i (suc e) l ks edges))
    by false off h = h
    by true on h = (
      is_listed p n f w (target n p.loops e l edge.to ks) there (exit_of_copy p (target n p.loops e l edge.to ks)) refl,
      h,
    )
      where
        same : edge.from ≡ l
        same = eqb-true edge.from l on

        there : IsCopy n p.loops 0 p.locations (target n p.loops e l edge.to ks)
        there = subst (λ (m : ℕ). IsCopy n p.loops 0 p.locations (target n p.loops e m edge.to ks)) same
            (copies_lead_to_copies p n e edge ks f w some (subst (λ (m : ℕ). slice_get p.edges m ≡ Some edge) (first e) (known 0 edge refl))
            (subst (λ (m : ℕ). IsCopy n p.loops 0 p.locations (copy m ks)) (sym same) is))

all_append : {X : Type 0} (P : X → Type 0) (xs ys : List X) → AllByRecursion P xs → AllByRecursion P ys → AllByRecursion P (xs ++ ys)
all_append P [] ys h g = g
all_append P (x ∷ xs) ys h g = (h.0, all_append P xs ys h.1 g)

pub all_listed_in : (p : Parts) (n : ℕ) → IsFaultless p → IsWellMade p → 0 < n → (i k : ℕ) (cs : List Copy)
    → Along (IsNumbered (stands_in p) n p.loops 0 p.locations) cs k → AllListed p n (copied p n i cs)
all_listed_in p n f w some i k [] are = tt
all_listed_in p n f w some i k (copy l ks ∷ cs) are =
    all_append (λ (x : CopiedEdge). IsListed p n x.to (exit_of_copy p x.to)) (copied_edges n p.loops i 0 l ks p.edges) (copied p n (suc i) cs)
    (each_copied p n f w some i 0 l ks p.edges (are.0).0 (λ j edge g. subst (λ (m : ℕ). slice_get p.edges m ≡ Some edge) (from_none j) g))
    (all_listed_in p n f w some (suc i) (suc k) cs are.1)
  where
    from_none : (j : ℕ) → j ≡ 0 + j
    from_none j = omega arith
all_listed_in p n f w some i k (beyond loop ks ∷ cs) are = all_listed_in p n f w some (suc i) (suc k) cs are.1

-- ---- the relation

numbers_alike : (p : Parts) (n : ℕ) → IsFaultless p → IsWellMade p → 0 < n
    → AreAlike (IsNumberOf p n) (copies_control p n) (control_of (unrolled p n) 1)
numbers_alike p n f w some = record { exits = exits; ways = ways }
  where
    all : AllListed p n (copied p n 0 (whole_text p n))
    all = all_listed_in p n f w some 0 0 (whole_text p n) (text_is_numbered p n f w some)

    exits : (c : Copy) (s : Spot) → IsNumberOf p n c s → (copies_control p n).exit c ≡ (control_of (unrolled p n) 1).exit s
    exits c (at i counts) h = exit_by p n c i (exit_of_copy p c) refl h
    exits c (past place) h = absurd h

    paired : (i : ℕ) (counts : Counts) → ArePaired (IsNumberOf p n) (ways_at i (copied p n 0 (whole_text p n)))
        (ways_by [] 1 i counts 0 (edges_of p n 0 (copied p n 0 (whole_text p n))))
    paired i counts = ways_paired p n i counts 0 0 (copied p n 0 (whole_text p n)) all (λ m lt. refl)

    from_text : (c : Copy) (i : ℕ) (counts : Counts) → ways_at i (copied p n 0 (whole_text p n)) ≡ ways_of_copy p n c
        → ArePaired (IsNumberOf p n) (ways_of_copy p n c) (ways_by [] 1 i counts 0 (edges_of p n 0 (copied p n 0 (whole_text p n))))
    from_text c i counts e = subst (λ (zs : List (Way Copy)). ArePaired (IsNumberOf p n) zs
        (ways_by [] 1 i counts 0 (edges_of p n 0 (copied p n 0 (whole_text p n))))) e (paired i counts)

    behind_text : (i : ℕ) → text_size p n ≤ i → ways_at i (copied p n 0 (whole_text p n)) ≡ []
    behind_text i le = none_behind p n 0 i (whole_text p n) (omega (arith, le, text_is_long p n f w))

    by : (c : Copy) (i : ℕ) (counts : Counts) (e : Option End) → exit_of_copy p c ≡ e
        → NumberBy p n (traps_of p n 0 (copied p n 0 (whole_text p n))) c i e
        → ways_at i (copied p n 0 (whole_text p n)) ≡ ways_of_copy p n c
    by c i counts None x h = ways_of_number p n 0 i i (whole_text p n) c (omega arith) h.0
    by c i counts (Some (over place)) x h = ways_of_number p n 0 i i (whole_text p n) c (omega arith) h.0
    by c i counts (Some done) x h = behind_text i (omega (arith, h)) ∙ sym (ended_ways p n w c done x)
    by c i counts (Some (trap kind place)) x h = behind_text i (omega (arith, h.0)) ∙ sym (ended_ways p n w c (trap kind place) x)

    ways : (c : Copy) (s : Spot) → IsNumberOf p n c s → ArePaired (IsNumberOf p n) ((copies_control p n).ways c) ((control_of (unrolled p n) 1).ways s)
    ways c (at i counts) h = from_text c i counts (by c i counts (exit_of_copy p c) refl h)
    ways c (past place) h = absurd h

-- ---- the beginning

size_none : (w : ℕ → ℕ) (o n : ℕ) (loops : List Loop) (a : ℕ) → AllByRecursion (λ (loop : Loop). loop.first ≤ loop.last) loops
    → size w o n loops a a ≡ 0
size_none w o n [] a ranges = total_none w a a (omega arith)
size_none w o n (loop ∷ loops) a ranges = by (fits loop a a) refl (size_none w o n loops a ranges.1)
  where
    by : (f : Bool) → fits loop a a ≡ f → size w o n loops a a ≡ 0 → size w o n (loop ∷ loops) a a ≡ 0
    by false f h = size_apart w o n loop loops a a f ∙ h
    by true f h = let fit = fitting loop a a f in absurd (omega (arith, fit, ranges.0))

entered_place : (w : ℕ → ℕ) (o n : ℕ) (loops : List Loop) (b : ℕ) → AreInOrder loops → AreOf 0 b loops → 0 < b
    → place w o n loops 0 b (entered_copy loops 0) ≡ 0
entered_place w o n [] b order of some = total_none w 0 0 (omega arith)
entered_place w o n (loop ∷ loops) b order of some =
    by (side loop 0) (fits loop 0 b) refl (λ x g lt. entered_place w o n loops x order.2 g lt)
  where
    out : holds loop 0 ≡ false → entered_copy (loop ∷ loops) 0 ≡ entered_copy loops 0
    out e = ap (λ (t : Bool). cond t (within 0 (entered_copy loops 0)) (entered_copy loops 0)) e

    held : holds loop 0 ≡ true → entered_copy (loop ∷ loops) 0 ≡ within 0 (entered_copy loops 0)
    held e = ap (λ (t : Bool). cond t (within 0 (entered_copy loops 0)) (entered_copy loops 0)) e

    at_0 : location_of (entered_copy loops 0) ≡ 0
    at_0 = entered_location loops 0

    by : Side loop 0 → (f : Bool) → fits loop 0 b ≡ f
        → ((x : ℕ) → AreOf 0 x loops → 0 < x → place w o n loops 0 x (entered_copy loops 0) ≡ 0)
        → place w o n (loop ∷ loops) 0 b (entered_copy (loop ∷ loops) 0) ≡ 0
    by (before lt) true f go = ap (λ (c : Copy). place w o n (loop ∷ loops) 0 b c) (out (out_before loop 0 lt))
        ∙ place_before w o n loop loops 0 b (entered_copy loops 0) f (omega (arith, lt, at_0))
        ∙ go loop.first (of_before loop loops 0 order.0 order.1) lt
    by (before lt) false f go = ap (λ (c : Copy). place w o n (loop ∷ loops) 0 b c) (out (out_before loop 0 lt))
        ∙ place_apart w o n loop loops 0 b (entered_copy loops 0) f ∙ go b of.1 some
    by (behind low lt) f g go = absurd (omega (arith, lt))
    by (here low high) true f go =
        let none : size w o n loops 0 loop.first ≡ 0 =
        ap (λ (m : ℕ). size w o n loops 0 m) (first low) ∙ size_none w o n loops 0 (ranges_of loops order.2) in
        let inner : place w o n loops loop.first (suc loop.last) (entered_copy loops 0) ≡ 0 =
        ap (λ (m : ℕ). place w o n loops m (suc loop.last) (entered_copy loops 0)) (first low)
        ∙ go (suc loop.last) (subst (λ (m : ℕ). AreOf m (suc loop.last) loops) (first low) (of_inside loop loops order.0 order.1)) (omega arith) in
        ap (λ (c : Copy). place w o n (loop ∷ loops) 0 b c) (held (in_here loop 0 low high))
        ∙ place_within w o n loop loops 0 b 0 (entered_copy loops 0) f (omega (arith, at_0, low)) (omega (arith, at_0, high))
        ∙ sum none inner
      where
        first : loop.first ≤ 0 → loop.first ≡ 0
        first low = omega (arith, low)

        sum : size w o n loops 0 loop.first ≡ 0 → place w o n loops loop.first (suc loop.last) (entered_copy loops 0) ≡ 0
            → size w o n loops 0 loop.first + (0 * size w o n loops loop.first (suc loop.last) + place w o n loops loop.first (suc loop.last) (entered_copy loops 0)) ≡ 0
        sum x y = omega (arith, x, y)
    by (here low high) false f go = absurd (apart (apart_of loop 0 b of.0 f))
      where
        apart : (loop.last < 0) ⊎ (b ≤ loop.first) → ⊥
        apart (inl lt) = omega (arith, lt)
        apart (inr le) = omega (arith, le, low, some)

entered_form : (loops : List Loop) (m : ℕ) → entered_copy loops m ≡ copy m (numbers_of (entered_copy loops m))
entered_form [] m = refl
entered_form (loop ∷ loops) m = by (holds loop m) (entered_copy loops m) (entered_form loops m)
  where
    by : (b : Bool) (c : Copy) → c ≡ copy m (numbers_of c) → cond b (within 0 c) c ≡ copy m (numbers_of (cond b (within 0 c) c))
    by false c h = h
    by true (copy l ks) h = ap (λ (x : Copy). within 0 x) h
    by true (beyond other ks) h = ap (λ (x : Copy). within 0 x) h

over_text : (l : ℕ) (overs : List OverEnd) → IsText (over_at l overs)
over_text l [] = tt
over_text l (end ∷ overs) = by (end.location == l) (over_text l overs)
  where
    by : (b : Bool) → IsText (over_at l overs) → IsText (cond b (Some (over end.place)) (over_at l overs))
    by true h = tt
    by false h = h

no_trap : (l : ℕ) (traps : List TrapEnd) → list_any (λ (end : TrapEnd). end.location == l) traps ≡ false → trap_at l traps ≡ None
no_trap l [] h = refl
no_trap l (end ∷ traps) h =
    let both = or_parts (end.location == l) (list_any (λ (other : TrapEnd). other.location == l) traps) h in
    ap (λ (t : Bool). cond t (Some (trap end.kind end.place)) (trap_at l traps)) both.0 ∙ no_trap l traps both.1

pub stands_text : (p : Parts) (l : ℕ) → stands_in p l ≡ true → IsText (end_at p l)
stands_text p l h = subst IsText (sym shown) (over_text l p.overs)
  where
    both : ((p.done == l) ≡ false) × (list_any (λ (end : TrapEnd). end.location == l) p.traps ≡ false)
    both = or_parts (p.done == l) (list_any (λ (end : TrapEnd). end.location == l) p.traps)
        (not-true ((p.done == l) || list_any (λ (end : TrapEnd). end.location == l) p.traps) h)

    shown : end_at p l ≡ over_at l p.overs
    shown = ap (λ (t : Bool). cond t (Some done) (or_else (trap_at l p.traps) (over_at l p.overs))) both.0
        ∙ ap (λ (o : Option End). or_else o (over_at l p.overs)) (no_trap l p.traps both.1)

-- a run doesn't end where it begins
pub goes_on_first : (p : Parts) → IsWellMade p → end_at p 0 ≡ None
goes_on_first p w = by (end_at p 0) refl
  where
    by : (o : Option End) → end_at p 0 ≡ o → end_at p 0 ≡ None
    by None h = h
    by (Some e) h = absurd (both_ways (is_end p 0) w.begins (ends_there p 0 e h))

first_number : (p : Parts) (n : ℕ) → IsFaultless p → IsWellMade p → 0 < n → IsNumberOf p n (first_copy p) (first_spot (unrolled p n))
first_number p n f w some = by (exit_of_copy p (entered_copy p.loops 0)) text
  where
    text : IsText (exit_of_copy p (entered_copy p.loops 0))
    text = subst (λ (c : Copy). IsText (exit_of_copy p c)) (sym (entered_form p.loops 0)) (subst IsText (sym (goes_on_first p w)) tt)

    listed : (slice_get (whole_text p n) (place_in_text p n (entered_copy p.loops 0)) ≡ Some (entered_copy p.loops 0))
        × (place_in_text p n (entered_copy p.loops 0) < text_size p n)
    listed = listed_in p n f w (entered_copy p.loops 0) (first_is p n f w some) text

    number : place_in_text p n (entered_copy p.loops 0) ≡ 0
    number = entered_place (one_each (stands_in p)) 1 n p.loops p.locations (loops_in_order p f w) (loops_of p f) (some_locations p f)

    there : (slice_get (whole_text p n) 0 ≡ Some (entered_copy p.loops 0)) × (0 < text_size p n)
    there = subst (λ (m : ℕ). (slice_get (whole_text p n) m ≡ Some (entered_copy p.loops 0)) × (m < text_size p n)) number listed

    by : (e : Option End) → IsText e → NumberBy p n (traps_of p n 0 (copied p n 0 (whole_text p n))) (entered_copy p.loops 0) 0 e
    by None h = there
    by (Some done) h = absurd h
    by (Some (trap kind place)) h = absurd h
    by (Some (over place)) h = there

pub copies_are_numbers : (p : Parts) (n steps : ℕ) (begin : Valuation) → IsFaultless p → IsWellMade p → 0 < n
    → run (copies_control p n) steps (first_copy p) begin ≡ run (control_of (unrolled p n) 1) steps (first_spot (unrolled p n)) begin
copies_are_numbers p n steps begin f w some =
    same_runs (IsNumberOf p n) (copies_control p n) (control_of (unrolled p n) 1) (numbers_alike p n f w some) steps (first_copy p) (first_spot (unrolled p n)) begin
    (first_number p n f w some)

-- nor does one of the automaton of the copies
pub numbers_go_on_first : (p : Parts) (n : ℕ) → IsFaultless p → IsWellMade p → 0 < n → end_at (unrolled p n) 0 ≡ None
numbers_go_on_first p n f w some = sym ((numbers_alike p n f w some).exits (first_copy p) (first_spot (unrolled p n)) (first_number p n f w some))
    ∙ ap (λ (c : Copy). exit_of_copy p c) (entered_form p.loops 0) ∙ goes_on_first p w
