-- The chain of a location has the numbers of its edges, in their order.
use Rattle.std.proofs.Common.{◌≡◌, ℕ, zero, suc, ◌+◌, ◌<◌, ◌≤◌, List, [], ◌∷◌, length, Bool, true, false, ◌==◌, cond, refl, sym, subst, ap, ◌∙◌, arith}
use Rattle.std.specs.Prelude.{slice_index_or, slice_set}
use Rattle.std.specs.List.{AllByRecursion}
use Rattle.std.proofs.lemmas.Bool.{eqb-true, eq-eqb, both_ways}
use Rattle.pv_flow.specs.declared.parts.Edge.{Edge}
use Rattle.pv_unroll.specs.Chains.{Chains, all_chained, along}
use Rattle.pv_unroll.proofs.Lists.{put_length, at_put, at_other}

-- of these edges, numbered from e on, those that begin at the location
abbrev pub numbers_from : ℕ → ℕ → List Edge → List ℕ
numbers_from l e [] = []
numbers_from l e (edge ∷ edges) = cond (edge.from == l) (e ∷ numbers_from l (suc e) edges) (numbers_from l (suc e) edges)

-- they are e at least
numbers_above : (l e k : ℕ) (edges : List Edge) → k ≤ e → AllByRecursion (λ (i : ℕ). k ≤ i) (numbers_from l e edges)
numbers_above l e k [] le = tt
numbers_above l e k (edge ∷ edges) le = by (edge.from == l) (numbers_above l (suc e) k edges (omega (arith, le)))
  where
    by : (b : Bool) → AllByRecursion (λ (i : ℕ). k ≤ i) (numbers_from l (suc e) edges)
        → AllByRecursion (λ (i : ℕ). k ≤ i) (cond b (e ∷ numbers_from l (suc e) edges) (numbers_from l (suc e) edges))
    by true h = (le, h)
    by false h = h

-- a chain doesn't see what stands before all its numbers
along_kept : (nexts : List ℕ) (e x most number : ℕ) → AllByRecursion (λ (i : ℕ). suc e ≤ i) (along nexts most number)
    → along (slice_set nexts e x) most number ≡ along nexts most number
along_kept nexts e x zero number all = refl
along_kept nexts e x (suc most) zero all = refl
along_kept nexts e x (suc most) (suc number) all =
    ap (λ (next : ℕ). number ∷ along (slice_set nexts e x) most next) (at_other e number nexts x 0 (λ same. absurd (omega (arith, same, all.0))))
    ∙ ap (λ (ns : List ℕ). number ∷ ns) (along_kept nexts e x most (slice_index_or nexts number 0) all.1)

none_along : (nexts : List ℕ) (most : ℕ) → along nexts most 0 ≡ []
none_along nexts zero = refl
none_along nexts (suc most) = refl

heads_length : (e : ℕ) (edges : List Edge) (c : Chains) → length (all_chained e edges c).heads ≡ length c.heads
heads_length e [] c = refl
heads_length e (edge ∷ edges) c =
    put_length edge.from (all_chained (suc e) edges c).heads (suc e) ∙ heads_length (suc e) edges c

nexts_length : (e : ℕ) (edges : List Edge) (c : Chains) → length (all_chained e edges c).nexts ≡ length c.nexts
nexts_length e [] c = refl
nexts_length e (edge ∷ edges) c =
    put_length e (all_chained (suc e) edges c).nexts (slice_index_or (all_chained (suc e) edges c).heads edge.from 0) ∙ nexts_length (suc e) edges c

pub chain_is : (e : ℕ) (edges : List Edge) (c : Chains) (l most : ℕ) → ((k : ℕ) → slice_index_or c.heads k 0 ≡ 0)
    → AllByRecursion (λ (edge : Edge). edge.from < length c.heads) edges → e + length edges ≤ length c.nexts → length edges ≤ most
    → along (all_chained e edges c).nexts most (slice_index_or (all_chained e edges c).heads l 0) ≡ numbers_from l e edges
chain_is e [] c l most empty froms room fuel = ap (λ (head : ℕ). along c.nexts most head) (empty l) ∙ none_along c.nexts most
chain_is e (edge ∷ edges) c l zero empty froms room fuel = absurd (omega (arith, fuel))
chain_is e (edge ∷ edges) c l (suc most) empty froms room fuel =
    by (edge.from == l) refl (λ k m le. chain_is (suc e) edges c k m empty froms.1 (omega (arith, room)) le)
  where
    above : ((k m : ℕ) → length edges ≤ m
        → along (all_chained (suc e) edges c).nexts m (slice_index_or (all_chained (suc e) edges c).heads k 0) ≡ numbers_from k (suc e) edges)
        → (k m : ℕ) → length edges ≤ m
        → AllByRecursion (λ (i : ℕ). suc e ≤ i) (along (all_chained (suc e) edges c).nexts m (slice_index_or (all_chained (suc e) edges c).heads k 0))
    above known k m le = subst (λ (ns : List ℕ). AllByRecursion (λ (i : ℕ). suc e ≤ i) ns) (sym (known k m le)) (numbers_above k (suc e) (suc e) edges (omega arith))

    by : (b : Bool) → (edge.from == l) ≡ b
        → ((k m : ℕ) → length edges ≤ m
        → along (all_chained (suc e) edges c).nexts m (slice_index_or (all_chained (suc e) edges c).heads k 0) ≡ numbers_from k (suc e) edges)
        → along (slice_set (all_chained (suc e) edges c).nexts e (slice_index_or (all_chained (suc e) edges c).heads edge.from 0)) (suc most)
        (slice_index_or (slice_set (all_chained (suc e) edges c).heads edge.from (suc e)) l 0)
        ≡ cond b (e ∷ numbers_from l (suc e) edges) (numbers_from l (suc e) edges)
    by true on known =
        ap (λ (n : ℕ). along (slice_set (all_chained (suc e) edges c).nexts e (slice_index_or (all_chained (suc e) edges c).heads edge.from 0)) (suc most)
        (slice_index_or (slice_set (all_chained (suc e) edges c).heads edge.from (suc e)) n 0)) (sym (eqb-true edge.from l on))
        ∙ ap (λ (n : ℕ). along (slice_set (all_chained (suc e) edges c).nexts e (slice_index_or (all_chained (suc e) edges c).heads edge.from 0)) (suc most) n)
        (at_put edge.from (all_chained (suc e) edges c).heads (suc e) 0 (subst (λ (n : ℕ). edge.from < n) (sym (heads_length (suc e) edges c)) froms.0))
        ∙ ap (λ (n : ℕ). e ∷ along (slice_set (all_chained (suc e) edges c).nexts e (slice_index_or (all_chained (suc e) edges c).heads edge.from 0)) most n)
        (at_put e (all_chained (suc e) edges c).nexts (slice_index_or (all_chained (suc e) edges c).heads edge.from 0) 0
        (subst (λ (n : ℕ). e < n) (sym (nexts_length (suc e) edges c)) (omega (arith, room))))
        ∙ ap (λ (ns : List ℕ). e ∷ ns) (along_kept (all_chained (suc e) edges c).nexts e (slice_index_or (all_chained (suc e) edges c).heads edge.from 0) most
        (slice_index_or (all_chained (suc e) edges c).heads edge.from 0) (above known edge.from most (omega (arith, fuel))))
        ∙ ap (λ (ns : List ℕ). e ∷ ns) (known edge.from most (omega (arith, fuel)))
        ∙ ap (λ (n : ℕ). e ∷ numbers_from n (suc e) edges) (eqb-true edge.from l on)
    by false off known =
        ap (λ (n : ℕ). along (slice_set (all_chained (suc e) edges c).nexts e (slice_index_or (all_chained (suc e) edges c).heads edge.from 0)) (suc most) n)
        (at_other edge.from l (all_chained (suc e) edges c).heads (suc e) 0 (λ same. absurd (both_ways (edge.from == l) off (eq-eqb edge.from l same))))
        ∙ along_kept (all_chained (suc e) edges c).nexts e (slice_index_or (all_chained (suc e) edges c).heads edge.from 0) (suc most)
        (slice_index_or (all_chained (suc e) edges c).heads l 0) (above known l (suc most) (omega (arith, fuel)))
        ∙ known l (suc most) (omega (arith, fuel))
