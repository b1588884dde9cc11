-- What drawn edges become, read by the tables of terms and deeds, is what is defined.
use Rattle.std.proofs.Common.{◌≡◌, ℕ, ◌+◌, ◌<◌, ◌≤◌, List, [], ◌∷◌, ◌++◌, length, drop, map, slice_get, refl, sym, subst, ap, ◌∙◌, arith}
use Rattle.std.specs.Prelude.{slice_index_or}
use Rattle.std.proofs.lemmas.List.{drop_more}
use Rattle.pv_flow.specs.declared.parts.Deed.{Deed as CodeDeed}
use Rattle.pv_flow.specs.declared.parts.TrapEnd.{TrapEnd as CodeTrapEnd}
use Rattle.pv_flow.specs.declared.parts.OverEnd.{OverEnd as CodeOverEnd}
use Rattle.pv_flow.specs.Terms.{Term}
use Rattle.pv_flow.specs.Automata.{Edge, TrapEnd, OverEnd}
use Rattle.pv_flow.specs.View.{edge_of, guard_of, sets_of, trap_end_of, over_end_of}
use Rattle.pv_call_copies.specs.Inlined.{Aim as Plain_aim, to_location, to_trap, to_over, location_by, next_by, with_trap, with_over, edges_of as plain_edges, traps_of as plain_traps, overs_of as plain_overs, behind as plain_behind}
use Rattle.pv_call_tables.specs.declared.drawn.Aim.{Aim}
use Rattle.pv_call_tables.specs.declared.drawn.Aim.TheVariants as aim
use Rattle.pv_call_tables.specs.declared.drawn.Drawn.{Drawn}
use Rattle.pv_call_tables.specs.Drawing.{aim_seen, drawn_seen, trap_by, over_by, edges_by, traps_by, overs_by, next_after}

pub edges_are : (terms : List Term) (deeds : List CodeDeed) (next : ℕ) (ds : List Drawn)
    → map (edge_of terms deeds) (edges_by next ds) ≡ plain_edges next (map (drawn_seen terms deeds) ds)
edges_are terms deeds next [] = refl
edges_are terms deeds next (d ∷ ds) =
    ap (λ (es : List Edge). record {
      from = d.from;
      to = location_by (aim_seen d.aim) next;
      guard = guard_of terms (slice_get deeds d.deed);
      sets = sets_of terms (slice_get deeds d.deed);
    } ∷ es) (edges_are terms deeds (next_by (aim_seen d.aim) next) ds)

trap_is : (a : Aim) (next : ℕ) (rest : List CodeTrapEnd) (ends : List TrapEnd) → map trap_end_of rest ≡ ends
    → map trap_end_of (trap_by a next ++ rest) ≡ with_trap (aim_seen a) next ends
trap_is (aim.Location l) next rest ends is = is
trap_is (aim.Trap kind place) next rest ends is = ap (λ (es : List TrapEnd). record { location = next; kind = kind; place = place } ∷ es) is
trap_is (aim.Over place) next rest ends is = is

pub traps_are : (terms : List Term) (deeds : List CodeDeed) (next : ℕ) (ds : List Drawn)
    → map trap_end_of (traps_by next ds) ≡ plain_traps next (map (drawn_seen terms deeds) ds)
traps_are terms deeds next [] = refl
traps_are terms deeds next (d ∷ ds) =
    trap_is d.aim next (traps_by (next_by (aim_seen d.aim) next) ds) (plain_traps (next_by (aim_seen d.aim) next) (map (drawn_seen terms deeds) ds))
    (traps_are terms deeds (next_by (aim_seen d.aim) next) ds)

over_is : (a : Aim) (next : ℕ) (rest : List CodeOverEnd) (ends : List OverEnd) → map over_end_of rest ≡ ends
    → map over_end_of (over_by a next ++ rest) ≡ with_over (aim_seen a) next ends
over_is (aim.Location l) next rest ends is = is
over_is (aim.Trap kind place) next rest ends is = is
over_is (aim.Over place) next rest ends is = ap (λ (es : List OverEnd). record { location = next; place = place } ∷ es) is

pub overs_are : (terms : List Term) (deeds : List CodeDeed) (next : ℕ) (ds : List Drawn)
    → map over_end_of (overs_by next ds) ≡ plain_overs next (map (drawn_seen terms deeds) ds)
overs_are terms deeds next [] = refl
overs_are terms deeds next (d ∷ ds) =
    over_is d.aim next (overs_by (next_by (aim_seen d.aim) next) ds) (plain_overs (next_by (aim_seen d.aim) next) (map (drawn_seen terms deeds) ds))
    (overs_are terms deeds (next_by (aim_seen d.aim) next) ds)

pub behind_is : (terms : List Term) (deeds : List CodeDeed) (next : ℕ) (ds : List Drawn)
    → next_after next ds ≡ plain_behind next (map (drawn_seen terms deeds) ds)
behind_is terms deeds next [] = refl
behind_is terms deeds next (d ∷ ds) = behind_is terms deeds (next_by (aim_seen d.aim) next) ds

-- ---- numbers don't fall

pub rises : (next : ℕ) (d : Drawn) (ds : List Drawn) → next_by (aim_seen d.aim) next ≤ next_after next (d ∷ ds)
rises next d ds = after (next_by (aim_seen d.aim) next) ds
  where
    one : (a : Plain_aim) (n : ℕ) → n ≤ next_by a n
    one (to_location l) n = omega arith
    one (to_trap kind place) n = omega arith
    one (to_over place) n = omega arith

    after : (n : ℕ) (all : List Drawn) → n ≤ next_after n all
    after n [] = omega arith
    after n (x ∷ xs) =
        let low = one (aim_seen x.aim) n in
        let high = after (next_by (aim_seen x.aim) n) xs in
        omega (arith, low, high)

-- of a loop over them, by what is left
pub next_within : (next first : ℕ) (ds : List Drawn) (i : ℕ) (d : Drawn) → i < length ds → next_after next (drop i ds) ≡ next_after first ds
    → next_by (aim_seen (slice_index_or ds i d).aim) next ≤ next_after first ds
next_within next first ds i d lt same =
    subst (λ (n : ℕ). next_by (aim_seen (slice_index_or ds i d).aim) next ≤ n)
    (ap (λ (xs : List Drawn). next_after next xs) (sym (drop_more ds i d lt)) ∙ same)
    (rises next (slice_index_or ds i d) (drop (i + 1) ds))
