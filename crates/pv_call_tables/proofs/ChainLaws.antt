-- The chain of a location has the numbers of what begins there, in their order.
use Rattle.std.proofs.Common.{◌≡◌, ℕ, zero, suc, ◌+◌, ◌-◌, ◌<◌, ◌≤◌, List, [], ◌∷◌, ◌++◌, append_assoc, append-nil, length, drop, replicate, Bool, true, false, ◌==◌, cond, refl, sym, subst, ap, ◌∙◌, arith}
use Rattle.std.specs.Prelude.{slice_index_or, slice_set}
use Rattle.std.specs.List.{AllByRecursion}
use Rattle.std.proofs.lemmas.Bool.{eqb-true, eq-eqb, both_ways}
use Rattle.std.proofs.lemmas.List.{length-replicate}
use Rattle.pv_call_tables.specs.Chains.{Chains, chained, all_chained, chains_of, along, numbers_from}
use Rattle.pv_call_tables.proofs.Lists.{put_length, at_put, at_other, zero_at}

-- ---- making chains

put_before : (m e : ℕ) (froms : List ℕ) (s base : Chains) → m < length froms → s ≡ all_chained (suc e) (drop (suc m) froms) base
    → chained e (slice_index_or froms m 0) s ≡ all_chained e (drop m froms) base
put_before m e [] s base lt is = absurd (omega (arith, lt))
put_before zero e (from ∷ froms) s base lt is = ap (λ (c : Chains). chained e from c) is
put_before (suc m) e (from ∷ froms) s base lt is = put_before m e froms s base (omega (arith, lt)) is

pub chain_step : (n : ℕ) (froms : List ℕ) (from : ℕ) (s next base : Chains) → 0 < n → n ≤ length froms
    → from ≡ slice_index_or froms (n - 1) 0 → next ≡ chained (n - 1) from s → s ≡ all_chained n (drop n froms) base
    → next ≡ all_chained (n - 1) (drop (n - 1) froms) base
chain_step n froms from s next base some within at put is =
    put
    ∙ ap (λ (k : ℕ). chained (n - 1) k s) at
    ∙ put_before (n - 1) (n - 1) froms s base (omega (arith, some, within)) (is ∙ ap (λ (k : ℕ). all_chained k (drop k froms) base) same)
  where
    same : n ≡ suc (n - 1)
    same = omega (arith, some)

-- ---- going along them

none_along : (nexts : List ℕ) (most : ℕ) → along nexts most 0 ≡ []
none_along nexts zero = refl
none_along nexts (suc most) = refl

pub along_step : (nexts : List ℕ) (n counter left more number : ℕ) (made next whole : List ℕ) → counter < n → (left ≡ 0 → ⊥)
    → number ≡ left - 1 → next ≡ made ++ number ∷ [] → more ≡ slice_index_or nexts number 0
    → made ++ along nexts (n - counter) left ≡ whole → next ++ along nexts (n - (counter + 1)) more ≡ whole
along_step nexts n counter left more number made next whole lt some same pushed after is =
    ap (λ (ns : List ℕ). ns ++ along nexts (n - (counter + 1)) more) pushed
    ∙ append_assoc made (number ∷ []) (along nexts (n - (counter + 1)) more)
    ∙ ap (λ (m : ℕ). made ++ (number ∷ along nexts (n - (counter + 1)) m)) after
    ∙ ap (λ (k : ℕ). made ++ (k ∷ along nexts (n - (counter + 1)) (slice_index_or nexts k 0))) same
    ∙ sym (ap (λ (m : ℕ). made ++ along nexts m left) further ∙ ap (λ (m : ℕ). made ++ along nexts (suc (n - (counter + 1))) m) (head left some))
    ∙ is
  where
    further : n - counter ≡ suc (n - (counter + 1))
    further = omega (arith, lt)

    head : (m : ℕ) → (m ≡ 0 → ⊥) → m ≡ suc (m - 1)
    head zero h = absurd (h refl)
    head (suc m) h = omega arith

pub along_ends : (nexts made whole : List ℕ) (n left : ℕ) → left ≡ 0 → made ++ along nexts n left ≡ whole → made ≡ whole
along_ends nexts made whole n left none is =
    sym (append-nil made) ∙ ap (λ (ns : List ℕ). made ++ ns) (sym (none_along nexts n) ∙ ap (λ (m : ℕ). along nexts n m) (sym none)) ∙ is

-- ---- what is met

-- they are e at least
numbers_above : (l e k : ℕ) (froms : List ℕ) → k ≤ e → AllByRecursion (λ (i : ℕ). k ≤ i) (numbers_from l e froms)
numbers_above l e k [] le = tt
numbers_above l e k (from ∷ froms) le = by (from == l) (numbers_above l (suc e) k froms (omega (arith, le)))
  where
    by : (b : Bool) → AllByRecursion (λ (i : ℕ). k ≤ i) (numbers_from l (suc e) froms)
        → AllByRecursion (λ (i : ℕ). k ≤ i) (cond b (e ∷ numbers_from l (suc e) froms) (numbers_from l (suc e) froms))
    by true h = (le, h)
    by false h = h

-- a chain doesn't see what stands before all its numbers
along_kept : (nexts : List ℕ) (e x most number : ℕ) → AllByRecursion (λ (i : ℕ). suc e ≤ i) (along nexts most number)
    → along (slice_set nexts e x) most number ≡ along nexts most number
along_kept nexts e x zero number all = refl
along_kept nexts e x (suc most) zero all = refl
along_kept nexts e x (suc most) (suc number) all =
    ap (λ (next : ℕ). number ∷ along (slice_set nexts e x) most next) (at_other e number nexts x 0 (λ same. absurd (omega (arith, same, all.0))))
    ∙ ap (λ (ns : List ℕ). number ∷ ns) (along_kept nexts e x most (slice_index_or nexts number 0) all.1)

heads_length : (e : ℕ) (froms : List ℕ) (c : Chains) → length (all_chained e froms c).heads ≡ length c.heads
heads_length e [] c = refl
heads_length e (from ∷ froms) c =
    put_length from (all_chained (suc e) froms c).heads (suc e) ∙ heads_length (suc e) froms c

nexts_length : (e : ℕ) (froms : List ℕ) (c : Chains) → length (all_chained e froms c).nexts ≡ length c.nexts
nexts_length e [] c = refl
nexts_length e (from ∷ froms) c =
    put_length e (all_chained (suc e) froms c).nexts (slice_index_or (all_chained (suc e) froms c).heads from 0) ∙ nexts_length (suc e) froms c

chain_is : (e : ℕ) (froms : List ℕ) (c : Chains) (l most : ℕ) → ((k : ℕ) → slice_index_or c.heads k 0 ≡ 0)
    → AllByRecursion (λ (from : ℕ). from < length c.heads) froms → e + length froms ≤ length c.nexts → length froms ≤ most
    → along (all_chained e froms c).nexts most (slice_index_or (all_chained e froms c).heads l 0) ≡ numbers_from l e froms
chain_is e [] c l most empty below room fuel = ap (λ (head : ℕ). along c.nexts most head) (empty l) ∙ none_along c.nexts most
chain_is e (from ∷ froms) c l zero empty below room fuel = absurd (omega (arith, fuel))
chain_is e (from ∷ froms) c l (suc most) empty below room fuel =
    by (from == l) refl (λ k m le. chain_is (suc e) froms c k m empty below.1 (omega (arith, room)) le)
  where
    heads : List ℕ
    heads = (all_chained (suc e) froms c).heads

    nexts : List ℕ
    nexts = (all_chained (suc e) froms c).nexts

    above : ((k m : ℕ) → length froms ≤ m → along nexts m (slice_index_or heads k 0) ≡ numbers_from k (suc e) froms)
        → (k m : ℕ) → length froms ≤ m
        → AllByRecursion (λ (i : ℕ). suc e ≤ i) (along nexts m (slice_index_or heads k 0))
    above known k m le = subst (λ (ns : List ℕ). AllByRecursion (λ (i : ℕ). suc e ≤ i) ns) (sym (known k m le)) (numbers_above k (suc e) (suc e) froms (omega arith))

    by : (b : Bool) → (from == l) ≡ b
        → ((k m : ℕ) → length froms ≤ m → along nexts m (slice_index_or heads k 0) ≡ numbers_from k (suc e) froms)
        → along (slice_set nexts e (slice_index_or heads from 0)) (suc most) (slice_index_or (slice_set heads from (suc e)) l 0)
        ≡ cond b (e ∷ numbers_from l (suc e) froms) (numbers_from l (suc e) froms)
    by true on known =
        ap (λ (n : ℕ). along (slice_set nexts e (slice_index_or heads from 0)) (suc most) (slice_index_or (slice_set heads from (suc e)) n 0))
        (sym (eqb-true from l on))
        ∙ ap (λ (n : ℕ). along (slice_set nexts e (slice_index_or heads from 0)) (suc most) n)
        (at_put from heads (suc e) 0 (subst (λ (n : ℕ). from < n) (sym (heads_length (suc e) froms c)) below.0))
        ∙ ap (λ (n : ℕ). e ∷ along (slice_set nexts e (slice_index_or heads from 0)) most n)
        (at_put e nexts (slice_index_or heads from 0) 0 (subst (λ (n : ℕ). e < n) (sym (nexts_length (suc e) froms c)) (omega (arith, room))))
        ∙ ap (λ (ns : List ℕ). e ∷ ns) (along_kept nexts e (slice_index_or heads from 0) most
        (slice_index_or heads from 0) (above known from most (omega (arith, fuel))))
        ∙ ap (λ (ns : List ℕ). e ∷ ns) (known from most (omega (arith, fuel)))
        ∙ ap (λ (n : ℕ). e ∷ numbers_from n (suc e) froms) (eqb-true from l on)
    by false off known =
        ap (λ (n : ℕ). along (slice_set nexts e (slice_index_or heads from 0)) (suc most) n)
        (at_other from l heads (suc e) 0 (λ same. absurd (both_ways (from == l) off (eq-eqb from l same))))
        ∙ along_kept nexts e (slice_index_or heads from 0) (suc most)
        (slice_index_or heads l 0) (above known l (suc most) (omega (arith, fuel)))
        ∙ known l (suc most) (omega (arith, fuel))

-- the chain of a location in the table of all
pub numbers_are : (locations l : ℕ) (froms : List ℕ) → AllByRecursion (λ (from : ℕ). from < locations) froms
    → along (chains_of locations froms).nexts (length (chains_of locations froms).nexts) (slice_index_or (chains_of locations froms).heads l 0)
    ≡ numbers_from l 0 froms
numbers_are locations l froms below =
    chain_is 0 froms base l (length (chains_of locations froms).nexts) (λ k. zero_at k locations)
    (subst (λ (n : ℕ). AllByRecursion (λ (from : ℕ). from < n) froms) (sym (length-replicate {A = ℕ} locations 0)) below)
    (subst (λ (n : ℕ). 0 + length froms ≤ n) (sym (length-replicate {A = ℕ} (length froms) 0)) (omega arith))
    (subst (λ (n : ℕ). length froms ≤ n) (sym (nexts_length 0 froms base ∙ length-replicate {A = ℕ} (length froms) 0)) (omega arith))
  where
    base : Chains
    base = record { heads = replicate locations 0; nexts = replicate (length froms) 0 }
