-- Tables of locations: the first trap, over and call edge of a location counts.
use Rattle.std.proofs.Common.{◌≡◌, ℕ, suc, ◌<◌, List, [], ◌∷◌, map, length, replicate, Bool, true, false, ◌==◌, cond, Option, Some, None, refl, sym, subst, ap, ◌∙◌}
use Rattle.std.specs.Prelude.{slice_index_or, slice_set}
use Rattle.std.proofs.lemmas.Bool.{eqb-true, eqb-false}
use Rattle.std.proofs.lemmas.List.{get_or-set_same, get_or-set_other, get_or-replicate, length-set, length-replicate}
use Rattle.pv_flow.specs.declared.parts.TrapEnd.{TrapEnd as CodeTrapEnd}
use Rattle.pv_flow.specs.declared.parts.OverEnd.{OverEnd as CodeOverEnd}
use Rattle.pv_flow.specs.declared.parts.CallEdge.{CallEdge as CodeCallEdge}
use Rattle.pv_flow.specs.declared.parts.Parts.{Parts as CodeParts}
use Rattle.pv_flow.specs.Runs.{End, done, trap, over, trap_at, over_at, or_else}
use Rattle.pv_flow.specs.Calls.{Numbered, numbered, call_from}
use Rattle.pv_flow.specs.View.{trap_end_of, over_end_of, call_edge_of}
use Rattle.pv_call_tables.specs.declared.marks.Standing.{Standing}
use Rattle.pv_call_tables.specs.declared.marks.Standing.TheVariants as standing
use Rattle.pv_call_tables.specs.Standings.{with_traps, with_overs, standings_of, with_calls}
use Rattle.pv_call_tables.specs.Known.{standing_of, number_of, StandingsAre, CallsAre}

-- ---- one place of a list

abbrev end_in : List Standing → ℕ → Standing
end_in ends l = slice_index_or ends l standing.Nothing

set_here : (ends : List Standing) (i l : ℕ) (s : Standing) → i ≡ l → l < length ends → end_in (slice_set ends i s) l ≡ s
set_here ends i l s same lt =
    ap (λ (k : ℕ). end_in (slice_set ends k s) l) same ∙ get_or-set_same ends l s standing.Nothing lt

set_elsewhere : (ends : List Standing) (i l : ℕ) (s : Standing) → (i ≡ l → ⊥) → end_in (slice_set ends i s) l ≡ end_in ends l
set_elsewhere ends i l s other = get_or-set_other ends i l s standing.Nothing (λ e. other (sym e))

-- ---- traps and overs

abbrev standing_or : Option End → Standing → Standing
standing_or None s = s
standing_or (Some end) s = standing_of (Some end)

traps_long : (ends : List Standing) (traps : List CodeTrapEnd) → length (with_traps ends traps) ≡ length ends
traps_long ends [] = refl
traps_long ends (t ∷ traps) = length-set (with_traps ends traps) t.location (standing.Trap t.kind t.place) ∙ traps_long ends traps

overs_long : (ends : List Standing) (overs : List CodeOverEnd) → length (with_overs ends overs) ≡ length ends
overs_long ends [] = refl
overs_long ends (o ∷ overs) = length-set (with_overs ends overs) o.location (standing.Over o.place) ∙ overs_long ends overs

traps_at : (ends : List Standing) (traps : List CodeTrapEnd) (l : ℕ) → l < length ends
    → end_in (with_traps ends traps) l ≡ standing_or (trap_at l (map trap_end_of traps)) (end_in ends l)
traps_at ends [] l lt = refl
traps_at ends (t ∷ traps) l lt = by (t.location == l) refl (traps_at ends traps l lt)
  where
    here : l < length (with_traps ends traps)
    here = subst (λ (n : ℕ). l < n) (sym (traps_long ends traps)) lt

    by : (b : Bool) → (t.location == l) ≡ b → end_in (with_traps ends traps) l ≡ standing_or (trap_at l (map trap_end_of traps)) (end_in ends l)
        → end_in (slice_set (with_traps ends traps) t.location (standing.Trap t.kind t.place)) l
        ≡ standing_or (cond (t.location == l) (Some (trap t.kind t.place)) (trap_at l (map trap_end_of traps))) (end_in ends l)
    by true e go =
        set_here (with_traps ends traps) t.location l (standing.Trap t.kind t.place) (eqb-true t.location l e) here
        ∙ sym (ap (λ (b : Bool). standing_or (cond b (Some (trap t.kind t.place)) (trap_at l (map trap_end_of traps))) (end_in ends l)) e)
    by false e go =
        set_elsewhere (with_traps ends traps) t.location l (standing.Trap t.kind t.place) (eqb-false t.location l e)
        ∙ go
        ∙ sym (ap (λ (b : Bool). standing_or (cond b (Some (trap t.kind t.place)) (trap_at l (map trap_end_of traps))) (end_in ends l)) e)

overs_at : (ends : List Standing) (overs : List CodeOverEnd) (l : ℕ) → l < length ends
    → end_in (with_overs ends overs) l ≡ standing_or (over_at l (map over_end_of overs)) (end_in ends l)
overs_at ends [] l lt = refl
overs_at ends (o ∷ overs) l lt = by (o.location == l) refl (overs_at ends overs l lt)
  where
    here : l < length (with_overs ends overs)
    here = subst (λ (n : ℕ). l < n) (sym (overs_long ends overs)) lt

    by : (b : Bool) → (o.location == l) ≡ b → end_in (with_overs ends overs) l ≡ standing_or (over_at l (map over_end_of overs)) (end_in ends l)
        → end_in (slice_set (with_overs ends overs) o.location (standing.Over o.place)) l
        ≡ standing_or (cond (o.location == l) (Some (over o.place)) (over_at l (map over_end_of overs))) (end_in ends l)
    by true e go =
        set_here (with_overs ends overs) o.location l (standing.Over o.place) (eqb-true o.location l e) here
        ∙ sym (ap (λ (b : Bool). standing_or (cond b (Some (over o.place)) (over_at l (map over_end_of overs))) (end_in ends l)) e)
    by false e go =
        set_elsewhere (with_overs ends overs) o.location l (standing.Over o.place) (eqb-false o.location l e)
        ∙ go
        ∙ sym (ap (λ (b : Bool). standing_or (cond b (Some (over o.place)) (over_at l (map over_end_of overs))) (end_in ends l)) e)

one_of : (a b : Option End) → standing_or a (standing_or b standing.Nothing) ≡ standing_of (or_else a b)
one_of None None = refl
one_of None (Some b) = refl
one_of (Some a) b = refl

-- ---- what each location ends

marked : (p : CodeParts) (l : ℕ) → l < p.locations → (b : Bool) → (p.done == l) ≡ b
    → end_in (standings_of p) l ≡ standing_of (cond (p.done == l) (Some done) (or_else (trap_at l (map trap_end_of p.traps.items))
    (over_at l (map over_end_of p.overs.items))))
marked p l lt true e =
    set_here (with_traps (with_overs (replicate p.locations standing.Nothing) p.overs.items) p.traps.items) p.done l standing.Done
    (eqb-true p.done l e)
    (subst (λ (n : ℕ). l < n) (sym (traps_long (with_overs (replicate p.locations standing.Nothing) p.overs.items) p.traps.items
    ∙ overs_long (replicate p.locations standing.Nothing) p.overs.items ∙ length-replicate p.locations standing.Nothing)) lt)
    ∙ sym (ap (λ (b : Bool). standing_of (cond b (Some done) (or_else (trap_at l (map trap_end_of p.traps.items))
    (over_at l (map over_end_of p.overs.items))))) e)
marked p l lt false e =
    set_elsewhere (with_traps (with_overs (replicate p.locations standing.Nothing) p.overs.items) p.traps.items) p.done l standing.Done
    (eqb-false p.done l e)
    ∙ traps_at (with_overs (replicate p.locations standing.Nothing) p.overs.items) p.traps.items l
    (subst (λ (n : ℕ). l < n) (sym (overs_long (replicate p.locations standing.Nothing) p.overs.items
    ∙ length-replicate p.locations standing.Nothing)) lt)
    ∙ ap (standing_or (trap_at l (map trap_end_of p.traps.items)))
    (overs_at (replicate p.locations standing.Nothing) p.overs.items l
    (subst (λ (n : ℕ). l < n) (sym (length-replicate p.locations standing.Nothing)) lt)
    ∙ ap (standing_or (over_at l (map over_end_of p.overs.items)))
    (get_or-replicate p.locations l standing.Nothing standing.Nothing lt))
    ∙ one_of (trap_at l (map trap_end_of p.traps.items)) (over_at l (map over_end_of p.overs.items))
    ∙ sym (ap (λ (b : Bool). standing_of (cond b (Some done) (or_else (trap_at l (map trap_end_of p.traps.items))
    (over_at l (map over_end_of p.overs.items))))) e)

pub standings_are : StandingsAre
standings_are p l lt = marked p l lt (p.done == l) refl

-- ---- call edges

abbrev number_in : List (Option ℕ) → ℕ → Option ℕ
number_in calls l = slice_index_or calls l None

abbrev number_or : Option Numbered → Option ℕ → Option ℕ
number_or None other = other
number_or (Some c) other = Some c.number

calls_long : (at : List (Option ℕ)) (j : ℕ) (calls : List CodeCallEdge) → length (with_calls at j calls) ≡ length at
calls_long at j [] = refl
calls_long at j (c ∷ calls) = length-set (with_calls at (suc j) calls) c.from (Some j) ∙ calls_long at (suc j) calls

call_here : (calls : List (Option ℕ)) (i l j : ℕ) → i ≡ l → l < length calls → number_in (slice_set calls i (Some j)) l ≡ Some j
call_here calls i l j same lt =
    ap (λ (k : ℕ). number_in (slice_set calls k (Some j)) l) same ∙ get_or-set_same calls l (Some j) None lt

call_elsewhere : (calls : List (Option ℕ)) (i l j : ℕ) → (i ≡ l → ⊥) → number_in (slice_set calls i (Some j)) l ≡ number_in calls l
call_elsewhere calls i l j other = get_or-set_other calls i l (Some j) None (λ e. other (sym e))

numbers_at : (at : List (Option ℕ)) (j : ℕ) (calls : List CodeCallEdge) (l : ℕ) → l < length at
    → number_in (with_calls at j calls) l ≡ number_or (call_from l j (map call_edge_of calls)) (number_in at l)
numbers_at at j [] l lt = refl
numbers_at at j (c ∷ calls) l lt = by (c.from == l) refl (numbers_at at (suc j) calls l lt)
  where
    here : l < length (with_calls at (suc j) calls)
    here = subst (λ (n : ℕ). l < n) (sym (calls_long at (suc j) calls)) lt

    by : (b : Bool) → (c.from == l) ≡ b → number_in (with_calls at (suc j) calls) l ≡ number_or (call_from l (suc j) (map call_edge_of calls)) (number_in at l)
        → number_in (slice_set (with_calls at (suc j) calls) c.from (Some j)) l
        ≡ number_or (cond (c.from == l) (Some (numbered j (call_edge_of c))) (call_from l (suc j) (map call_edge_of calls))) (number_in at l)
    by true e go =
        call_here (with_calls at (suc j) calls) c.from l j (eqb-true c.from l e) here
        ∙ sym (ap (λ (b : Bool). number_or (cond b (Some (numbered j (call_edge_of c))) (call_from l (suc j) (map call_edge_of calls)))
        (number_in at l)) e)
    by false e go =
        call_elsewhere (with_calls at (suc j) calls) c.from l j (eqb-false c.from l e)
        ∙ go
        ∙ sym (ap (λ (b : Bool). number_or (cond b (Some (numbered j (call_edge_of c))) (call_from l (suc j) (map call_edge_of calls)))
        (number_in at l)) e)

or_none : (o : Option Numbered) → number_or o None ≡ number_of o
or_none None = refl
or_none (Some c) = refl

pub calls_are : CallsAre
calls_are p l lt =
    numbers_at (replicate p.locations None) 0 p.calls.items l (subst (λ (n : ℕ). l < n) (sym (length-replicate {A = Option ℕ} p.locations None)) lt)
    ∙ ap (number_or (call_from l 0 (map call_edge_of p.calls.items))) (get_or-replicate p.locations l None None lt)
    ∙ or_none (call_from l 0 (map call_edge_of p.calls.items))
