-- Edges counted by the locations where they begin are those that begin there.
use Rattle.std.proofs.Common.{◌≡◌, ℕ, zero, suc, ◌+◌, ◌<◌, ◌≤◌, List, [], ◌∷◌, map, length, take, slice_get, replicate, Bool, true, false, ◌==◌, cond, Some, refl, sym, subst, ap, ◌∙◌, arith}
use Rattle.std.specs.Prelude.{slice_index_or, slice_set}
use Rattle.std.proofs.lemmas.Bool.{eqb-true, eq-eqb, both_ways}
use Rattle.std.proofs.lemmas.List.{length-replicate}
use Rattle.std.proofs.lemmas.Option.{same_Some, none-some}
use Rattle.pv_flow.specs.declared.parts.Edge.{Edge as CodeEdge}
use Rattle.pv_flow.specs.declared.parts.Deed.{Deed as CodeDeed}
use Rattle.pv_flow.specs.Terms.{Term}
use Rattle.pv_flow.specs.Automata.{Edge, edges_from}
use Rattle.pv_flow.specs.View.{edge_of}
use Rattle.pv_call_tables.specs.Numbers.{raised}
use Rattle.pv_call_tables.specs.Wanted.{MOST}
use Rattle.pv_call_tables.specs.Ranks.{counted, ranks_by}
use Rattle.pv_call_tables.proofs.Lists.{put_length, at_put, at_other, zero_at}

-- ---- a count is no more than the edges that were counted

abbrev pub AreAtMost : ℕ → List ℕ → Type 0
AreAtMost most counts = (l : ℕ) → slice_index_or counts l 0 ≤ most

put_within : (n x most : ℕ) (xs : List ℕ) → AreAtMost most xs → x ≤ most → AreAtMost most (slice_set xs n x)
put_within n x most [] all le l = all l
put_within zero x most (y ∷ ys) all le zero = le
put_within zero x most (y ∷ ys) all le (suc l) = all (suc l)
put_within (suc n) x most (y ∷ ys) all le zero = all zero
put_within (suc n) x most (y ∷ ys) all le (suc l) = put_within n x most ys (λ k. all (suc k)) le l

pub raised_within : (most from : ℕ) (counts : List ℕ) → AreAtMost most counts → AreAtMost (most + 1) (raised counts from)
raised_within most from counts all =
    put_within from (slice_index_or counts from 0 + 1) (most + 1) counts (λ l. let h = all l in omega (arith, h)) (let h = all from in omega (arith, h))

pub none_within : (locations : ℕ) → AreAtMost 0 (replicate locations 0)
none_within locations l = let e = zero_at l locations in omega (arith, e)

pub count_short : (i k from : ℕ) (counts now : List ℕ) → i < k → now ≡ counts → AreAtMost i counts → k ≤ MOST
    → slice_index_or now from 0 + 1 ≤ MOST
count_short i k from counts now lt same all short =
    subst (λ (ns : List ℕ). slice_index_or ns from 0 + 1 ≤ MOST) (sym same) (let h = all from in omega (arith, lt, h, short))

-- ---- counts

raised_here : (counts : List ℕ) (from l : ℕ) → (from == l) ≡ true → l < length counts
    → slice_index_or (raised counts from) l 0 ≡ suc (slice_index_or counts l 0)
raised_here counts from l on lt =
    ap (λ (n : ℕ). slice_index_or (raised counts n) l 0) (eqb-true from l on)
    ∙ at_put l counts (slice_index_or counts l 0 + 1) 0 lt
    ∙ next (slice_index_or counts l 0)
  where
    next : (n : ℕ) → n + 1 ≡ suc n
    next n = omega arith

raised_elsewhere : (counts : List ℕ) (from l : ℕ) → (from == l) ≡ false → slice_index_or (raised counts from) l 0 ≡ slice_index_or counts l 0
raised_elsewhere counts from l off =
    at_other from l counts (slice_index_or counts from 0 + 1) 0 (λ same. absurd (both_ways (from == l) off (eq-eqb from l same)))

raised_long : (counts : List ℕ) (from l : ℕ) → l < length counts → l < length (raised counts from)
raised_long counts from l lt =
    subst (λ (n : ℕ). l < n) (sym (put_length from counts (slice_index_or counts from 0 + 1))) lt

none_more : (n : ℕ) → n ≡ n + 0
none_more n = omega arith

one_more : (a b k : ℕ) → a ≡ suc b → a + k ≡ b + suc k
one_more a b k e = omega (arith, e)

same_more : (a b k : ℕ) → a ≡ b → a + k ≡ b + k
same_more a b k e = omega (arith, e)

counted_at : (terms : List Term) (deeds : List CodeDeed) (counts : List ℕ) (edges : List CodeEdge) (l : ℕ) → l < length counts
    → slice_index_or (counted counts edges) l 0 ≡ slice_index_or counts l 0 + length (edges_from l (map (edge_of terms deeds) edges))
counted_at terms deeds counts [] l lt = none_more (slice_index_or counts l 0)
counted_at terms deeds counts (edge ∷ edges) l lt =
    counted_at terms deeds (raised counts edge.from) edges l (raised_long counts edge.from l lt) ∙ by (edge.from == l) refl
  where
    rest : List Edge
    rest = edges_from l (map (edge_of terms deeds) edges)

    by : (b : Bool) → (edge.from == l) ≡ b → slice_index_or (raised counts edge.from) l 0 + length rest
        ≡ slice_index_or counts l 0 + length (cond b (edge_of terms deeds edge ∷ rest) rest)
    by true on = one_more (slice_index_or (raised counts edge.from) l 0) (slice_index_or counts l 0) (length rest) (raised_here counts edge.from l on lt)
    by false off = same_more (slice_index_or (raised counts edge.from) l 0) (slice_index_or counts l 0) (length rest) (raised_elsewhere counts edge.from l off)

ranked_at : (terms : List Term) (deeds : List CodeDeed) (counts : List ℕ) (edges : List CodeEdge) (e : ℕ) (edge : CodeEdge)
    → slice_get edges e ≡ Some edge → edge.from < length counts
    → slice_index_or (ranks_by counts edges) e 0
    ≡ slice_index_or counts edge.from 0 + length (edges_from edge.from (take e (map (edge_of terms deeds) edges)))
ranked_at terms deeds counts [] e edge at lt = absurd (none-some edge at)
ranked_at terms deeds counts (x ∷ xs) zero edge at lt =
    ap (λ (y : CodeEdge). slice_index_or counts y.from 0) (same_Some x edge at) ∙ none_more (slice_index_or counts edge.from 0)
ranked_at terms deeds counts (x ∷ xs) (suc e) edge at lt =
    ranked_at terms deeds (raised counts x.from) xs e edge at (raised_long counts x.from edge.from lt) ∙ by (x.from == edge.from) refl
  where
    rest : List Edge
    rest = edges_from edge.from (take e (map (edge_of terms deeds) xs))

    by : (b : Bool) → (x.from == edge.from) ≡ b → slice_index_or (raised counts x.from) edge.from 0 + length rest
        ≡ slice_index_or counts edge.from 0 + length (cond b (edge_of terms deeds x ∷ rest) rest)
    by true on = one_more (slice_index_or (raised counts x.from) edge.from 0) (slice_index_or counts edge.from 0) (length rest)
        (raised_here counts x.from edge.from on lt)
    by false off = same_more (slice_index_or (raised counts x.from) edge.from 0) (slice_index_or counts edge.from 0) (length rest)
        (raised_elsewhere counts x.from edge.from off)

none_before : (l locations k : ℕ) (xs : List ℕ) → xs ≡ replicate locations 0 → slice_index_or xs l 0 + k ≡ k
none_before l locations k xs e = plain (slice_index_or xs l 0) (ap (λ (ys : List ℕ). slice_index_or ys l 0) e ∙ zero_at l locations)
  where
    plain : (n : ℕ) → n ≡ 0 → n + k ≡ k
    plain n h = omega (arith, h)

-- how many begin at a location
pub counts_are : (terms : List Term) (deeds : List CodeDeed) (locations l : ℕ) (edges : List CodeEdge) → l < locations
    → slice_index_or (counted (replicate locations 0) edges) l 0 ≡ length (edges_from l (map (edge_of terms deeds) edges))
counts_are terms deeds locations l edges lt =
    counted_at terms deeds (replicate locations 0) edges l (subst (λ (n : ℕ). l < n) (sym (length-replicate {A = ℕ} locations 0)) lt)
    ∙ none_before l locations (length (edges_from l (map (edge_of terms deeds) edges))) (replicate locations 0) refl

-- and before an edge
pub ranks_are : (terms : List Term) (deeds : List CodeDeed) (locations e : ℕ) (edges : List CodeEdge) (edge : CodeEdge)
    → slice_get edges e ≡ Some edge → edge.from < locations
    → slice_index_or (ranks_by (replicate locations 0) edges) e 0 ≡ length (edges_from edge.from (take e (map (edge_of terms deeds) edges)))
ranks_are terms deeds locations e edges edge at lt =
    ranked_at terms deeds (replicate locations 0) edges e edge at
    (subst (λ (n : ℕ). edge.from < n) (sym (length-replicate {A = ℕ} locations 0)) lt)
    ∙ none_before edge.from locations (length (edges_from edge.from (take e (map (edge_of terms deeds) edges)))) (replicate locations 0) refl
