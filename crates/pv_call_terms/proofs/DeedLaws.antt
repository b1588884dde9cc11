-- Deeds of copies: their guards and sets are the block's, renamed.
use Rattle.std.proofs.Common.{◌≡◌, ℕ, zero, suc, ◌+◌, ◌<◌, ◌≤◌, List, [], ◌∷◌, ◌++◌, map, length, slice_get, Bool, true, ◌&&◌, nat_lt, Option, Some, None, refl, sym, ap, ◌∙◌, arith}
use Rattle.std.specs.List.{list_all}
use Rattle.std.proofs.lemmas.Bool.{and_parts, and_from}
use Rattle.std.proofs.lemmas.List.{length-map}
use Rattle.pv_flow.specs.declared.parts.Set.{Set as CodeSet}
use Rattle.pv_flow.specs.declared.parts.Deed.{Deed}
use Rattle.pv_flow.specs.Terms.{Term}
use Rattle.pv_flow.specs.Automata.{Set}
use Rattle.pv_flow.specs.View.{false_term, term_at, set_of, guard_of, sets_of}
use Rattle.pv_flow.specs.Tables.{has_terms}
use Rattle.pv_call_copies.specs.Renaming.{renamed, renamed_sets}
use Rattle.pv_call_terms.specs.declared.numbers.TheConstants.{MOST}
use Rattle.pv_call_terms.specs.Numbers.{narrow}
use Rattle.pv_call_terms.specs.Deeds.{Plain, deed_seen, set_at, deed_at}
use Rattle.pv_call_terms.specs.Correct.{AreCopied, DeedsAreCopied, DeedsStayTabled}
use Rattle.pv_call_terms.proofs.Small.{later, later_still}
use Rattle.pv_call_terms.proofs.Copied.{operand_copied}

-- ---- what deeds mean, by what is seen of them

abbrev pub plain_guard : List Term → Option Plain → Term
plain_guard terms None = false_term
plain_guard terms (Some deed) = term_at terms deed.guard

abbrev pub plain_sets : List Term → Option Plain → List Set
plain_sets terms None = []
plain_sets terms (Some deed) = map (set_of terms) deed.sets

abbrev pub seen_in : Option Deed → Option Plain
seen_in None = None
seen_in (Some deed) = Some (deed_seen deed)

pub seen_at : (deeds : List Deed) (n : ℕ) → seen_in (slice_get deeds n) ≡ slice_get (map deed_seen deeds) n
seen_at [] n = refl
seen_at (deed ∷ deeds) zero = refl
seen_at (deed ∷ deeds) (suc n) = seen_at deeds n

pub guard_seen : (terms : List Term) (o : Option Deed) → guard_of terms o ≡ plain_guard terms (seen_in o)
guard_seen terms None = refl
guard_seen terms (Some deed) = refl

pub sets_seen : (terms : List Term) (o : Option Deed) → sets_of terms o ≡ plain_sets terms (seen_in o)
sets_seen terms None = refl
sets_seen terms (Some deed) = refl

get_behind : {X : Type 0} (xs ys : List X) (n : ℕ) → slice_get (xs ++ ys) (length xs + n) ≡ slice_get ys n
get_behind [] ys n = ap (λ (i : ℕ). slice_get ys i) (none n)
  where
    none : (n : ℕ) → 0 + n ≡ n
    none n = omega arith
get_behind (x ∷ xs) ys n = ap (λ (i : ℕ). slice_get (x ∷ (xs ++ ys)) i) (next (length xs) n) ∙ get_behind xs ys n
  where
    next : (k n : ℕ) → suc k + n ≡ suc (k + n)
    next k n = omega arith

-- what stands behind those that were there
copy_at : (place : ℕ → ℕ) (m : ℕ) (before deeds all : List Deed) (n : ℕ) → AreCopied place m before deeds all
    → seen_in (slice_get all (length before + n)) ≡ slice_get (map (deed_at place m) (map deed_seen deeds)) n
copy_at place m before deeds all n are =
    seen_at all (length before + n)
    ∙ ap (λ (ds : List Plain). slice_get ds (length before + n)) are
    ∙ ap (λ (i : ℕ). slice_get (map deed_seen before ++ map (deed_at place m) (map deed_seen deeds)) (i + n)) (sym (length-map before deed_seen))
    ∙ get_behind (map deed_seen before) (map (deed_at place m) (map deed_seen deeds)) n

-- ---- copies

abbrev set_to : ℕ → Term → Set
set_to n t = record { variable = n; value = t }

sets_copied : (place : ℕ → ℕ) (old block : List Term) (m : ℕ) (sets : List CodeSet) → m ≡ length old → m + length block ≤ MOST
    → list_all (λ (set : CodeSet). nat_lt set.value (length block)) sets ≡ true
    → map (set_of (old ++ map (renamed place) block)) (map (set_at place m) sets) ≡ renamed_sets place (map (set_of block) sets)
sets_copied place old block m [] is most has = refl
sets_copied place old block m (set ∷ sets) is most has =
    let both = and_parts (nat_lt set.value (length block)) (list_all (λ (other : CodeSet). nat_lt other.value (length block)) sets) has in
    ap (λ (t : Term). set_to (place set.variable) t ∷ map (set_of (old ++ map (renamed place) block)) (map (set_at place m) sets))
    (operand_copied place old block m set.value is most both.0)
    ∙ ap (λ (ss : List Set). set_to (place set.variable) (renamed place (term_at block set.value)) ∷ ss)
    (sets_copied place old block m sets is most both.1)

none_below : (n : ℕ) → n < 0 → ⊥
none_below n h = absurd (omega (arith, h))

before_last : (n k : ℕ) → suc n < suc k → n < k
before_last n k h = omega (arith, h)

pub guards_mean : (place : ℕ → ℕ) (old block : List Term) (m : ℕ) (deeds : List Deed) (n : ℕ) → m ≡ length old → m + length block ≤ MOST
    → list_all (has_terms (length block)) deeds ≡ true → n < length deeds
    → plain_guard (old ++ map (renamed place) block) (slice_get (map (deed_at place m) (map deed_seen deeds)) n)
    ≡ renamed place (guard_of block (slice_get deeds n))
guards_mean place old block m [] n is most has lt = absurd (none_below n lt)
guards_mean place old block m (deed ∷ deeds) zero is most has lt =
    let both = and_parts (has_terms (length block) deed) (list_all (has_terms (length block)) deeds) has in
    let own = and_parts (nat_lt deed.guard (length block)) (list_all (λ (set : CodeSet). nat_lt set.value (length block)) deed.sets.items) both.0 in
    operand_copied place old block m deed.guard is most own.0
guards_mean place old block m (deed ∷ deeds) (suc n) is most has lt =
    let both = and_parts (has_terms (length block) deed) (list_all (has_terms (length block)) deeds) has in
    guards_mean place old block m deeds n is most both.1 (before_last n (length deeds) lt)

pub sets_mean : (place : ℕ → ℕ) (old block : List Term) (m : ℕ) (deeds : List Deed) (n : ℕ) → m ≡ length old → m + length block ≤ MOST
    → list_all (has_terms (length block)) deeds ≡ true → n < length deeds
    → plain_sets (old ++ map (renamed place) block) (slice_get (map (deed_at place m) (map deed_seen deeds)) n)
    ≡ renamed_sets place (sets_of block (slice_get deeds n))
sets_mean place old block m [] n is most has lt = absurd (none_below n lt)
sets_mean place old block m (deed ∷ deeds) zero is most has lt =
    let both = and_parts (has_terms (length block) deed) (list_all (has_terms (length block)) deeds) has in
    let own = and_parts (nat_lt deed.guard (length block)) (list_all (λ (set : CodeSet). nat_lt set.value (length block)) deed.sets.items) both.0 in
    sets_copied place old block m deed.sets.items is most own.1
sets_mean place old block m (deed ∷ deeds) (suc n) is most has lt =
    let both = and_parts (has_terms (length block) deed) (list_all (has_terms (length block)) deeds) has in
    sets_mean place old block m deeds n is most both.1 (before_last n (length deeds) lt)

pub deeds_are_copied : DeedsAreCopied
deeds_are_copied place old block before deeds all n has most lt are = (
  guard_seen (old ++ map (renamed place) block) (slice_get all (length before + n))
      ∙ ap (plain_guard (old ++ map (renamed place) block)) (copy_at place (length old) before deeds all n are)
      ∙ guards_mean place old block (length old) deeds n refl most has lt,
  sets_seen (old ++ map (renamed place) block) (slice_get all (length before + n))
      ∙ ap (plain_sets (old ++ map (renamed place) block)) (copy_at place (length old) before deeds all n are)
      ∙ sets_mean place old block (length old) deeds n refl most has lt,
)

-- ---- numbers of terms

abbrev pub values_below : ℕ → List CodeSet → Bool
values_below k sets = list_all (λ (set : CodeSet). nat_lt set.value k) sets

abbrev pub plain_has : ℕ → Plain → Bool
plain_has k deed = nat_lt deed.guard k && values_below k deed.sets

pub all_seen : (k : ℕ) (deeds : List Deed) → list_all (has_terms k) deeds ≡ list_all (plain_has k) (map deed_seen deeds)
all_seen k [] = refl
all_seen k (deed ∷ deeds) = ap (λ (b : Bool). has_terms k deed && b) (all_seen k deeds)

all_joined : (p : Plain → Bool) (xs ys : List Plain) → list_all p xs ≡ true → list_all p ys ≡ true → list_all p (xs ++ ys) ≡ true
all_joined p [] ys first rest = rest
all_joined p (x ∷ xs) ys first rest =
    let both = and_parts (p x) (list_all p xs) first in
    and_from (p x) (list_all p (xs ++ ys)) both.0 (all_joined p xs ys both.1 rest)

values_still : (k more : ℕ) (sets : List CodeSet) → values_below k sets ≡ true → values_below (k + more) sets ≡ true
values_still k more [] has = refl
values_still k more (set ∷ sets) has =
    let both = and_parts (nat_lt set.value k) (values_below k sets) has in
    and_from (nat_lt set.value (k + more)) (values_below (k + more) sets) (later_still k set.value more both.0) (values_still k more sets both.1)

all_still : (k more : ℕ) (deeds : List Plain) → list_all (plain_has k) deeds ≡ true → list_all (plain_has (k + more)) deeds ≡ true
all_still k more [] has = refl
all_still k more (deed ∷ deeds) has =
    let both = and_parts (plain_has k deed) (list_all (plain_has k) deeds) has in
    let own = and_parts (nat_lt deed.guard k) (values_below k deed.sets) both.0 in
    and_from (plain_has (k + more) deed) (list_all (plain_has (k + more)) deeds)
    (and_from (nat_lt deed.guard (k + more)) (values_below (k + more) deed.sets) (later_still k deed.guard more own.0)
    (values_still k more deed.sets own.1))
    (all_still k more deeds both.1)

values_later : (place : ℕ → ℕ) (m k : ℕ) (sets : List CodeSet) → values_below k sets ≡ true → values_below (m + k) (map (set_at place m) sets) ≡ true
values_later place m k [] has = refl
values_later place m k (set ∷ sets) has =
    let both = and_parts (nat_lt set.value k) (values_below k sets) has in
    and_from (nat_lt (narrow (m + set.value)) (m + k)) (values_below (m + k) (map (set_at place m) sets)) (later m set.value k both.0)
    (values_later place m k sets both.1)

pub all_later : (place : ℕ → ℕ) (m k : ℕ) (deeds : List Plain) → list_all (plain_has k) deeds ≡ true
    → list_all (plain_has (m + k)) (map (deed_at place m) deeds) ≡ true
all_later place m k [] has = refl
all_later place m k (deed ∷ deeds) has =
    let both = and_parts (plain_has k deed) (list_all (plain_has k) deeds) has in
    let own = and_parts (nat_lt deed.guard k) (values_below k deed.sets) both.0 in
    and_from (plain_has (m + k) (deed_at place m deed)) (list_all (plain_has (m + k)) (map (deed_at place m) deeds))
    (and_from (nat_lt (narrow (m + deed.guard)) (m + k)) (values_below (m + k) (map (set_at place m) deed.sets)) (later m deed.guard k own.0)
    (values_later place m k deed.sets own.1))
    (all_later place m k deeds both.1)

pub deeds_stay_tabled : DeedsStayTabled
deeds_stay_tabled place old block before deeds all first rest are =
    all_seen (old + block) all
    ∙ ap (list_all (plain_has (old + block))) are
    ∙ all_joined (plain_has (old + block)) (map deed_seen before) (map (deed_at place old) (map deed_seen deeds))
    (all_still old block (map deed_seen before) (sym (all_seen old before) ∙ first))
    (all_later place old block (map deed_seen deeds) (sym (all_seen block deeds) ∙ rest))
