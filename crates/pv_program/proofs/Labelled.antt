-- Labels in tables, met one by one, and where jumps to them lead.
use Rattle.std.proofs.Common.{inl, inr, ◌≡◌, ◌≢◌, ℕ, zero, suc, ◌+◌, ◌<◌, ◌≤◌, refl, sym, ap, subst, ◌∙◌, arith, List, [], ◌∷◌, ◌++◌, drop, length, Option, Some, None, Bool, true, false, ◌||◌, length-append}
use Rattle.std.specs.Prelude.{bytes_eq, slice_get, is_some}
use Rattle.std.proofs.lemmas.Option.{same_Some, none-some, slice_get_within}
use Rattle.std.proofs.lemmas.Bool.{le-leb, lt-leb}
use Rattle.std.proofs.Math.Nat.{eq-or-lt_of_le}
use Rattle.std.proofs.lemmas.Slice.Eq.{bytes_eq-Decides}
use Rattle.pv_tree.specs.Tree.{PlacedName, InstrTree}
use Rattle.pv_tree.specs.InstructionGroups.{label_of_jump}
use Rattle.pv_names.specs.Firsts.{number_in, or_number}
use Rattle.pv_names.specs.declared.firsts.Firsts.{Firsts}
use Rattle.pv_mean.specs.InstructionRuns.{is_named, is_jumped_to}
use Rattle.pv_stl_run.specs.declared.instr.Goal.TheVariants.{Ahead, Back}
use Rattle.pv_stl_run.specs.Going.{LeadsTo, range_of, range_by, place_where}
use Rattle.pv_program.specs.Labels.{StandsAt, NoneHas, LabelAt, FindsLabels, is_from, FindsJumps, IsUnmet}

-- ---- an element more

-- of each element of a list with one more
pub split : {A : Type 0} (P : ℕ → A → Type 0) (xs : List A) (x : A) → ((k : ℕ) (a : A) → slice_get xs k ≡ Some a → P k a) → P (length xs) x
    → (k : ℕ) (a : A) → slice_get (xs ++ x ∷ []) k ≡ Some a → P k a
split P [] x old new zero a at = subst (P 0) (same_Some x a at) new
split P [] x old new (suc k) a at = absurd (none-some a at)
split P (y ∷ ys) x old new zero a at = old zero a at
split P (y ∷ ys) x old new (suc k) a at = split (λ n b. P (suc n) b) ys x (λ n b e. old (suc n) b e) new k a at

-- ---- where labels stand

met-by : (key : List ℕ) (before : List InstrTree) (i : InstrTree) (o : Option ℕ) (b : Bool) → is_named key i.label ≡ b → (b ≡ true → o ≡ None)
    → LabelAt key before o → LabelAt key (before ++ i ∷ []) (or_number o b (length before))
met-by key before i (Some n) true e alone h = absurd (none-some n (sym (alone refl)))
met-by key before i (Some n) false e alone h = record {
  within = omega (arith, h.within, length-append before (i ∷ []));
  named = λ a at. split (λ k a. k ≡ n → is_named key a.label ≡ true) before i
      (λ k a at is. h.named a (subst (λ m. slice_get before m ≡ Some a) is at))
      (λ is. absurd (omega (arith, is, h.within))) n a at refl;
  others = λ k a other at. split (λ k a. k ≢ n → is_named key a.label ≡ false) before i
      (λ k a at other. h.others k a other at) (λ other. e) k a at other;
}
met-by key before i None true e alone h = record {
  within = omega (arith, length-append before (i ∷ []));
  named = λ a at. split (λ k a. k ≡ length before → is_named key a.label ≡ true) before i
      (λ k a at is. absurd (omega (arith, is, slice_get_within before k a at)))
      (λ is. e) (length before) a at refl;
  others = λ k a other at. split (λ k a. k ≢ length before → is_named key a.label ≡ false) before i
      (λ k a at other. h k a at) (λ other. absurd (other refl)) k a at other;
}
met-by key before i None false e alone h = split (λ k a. is_named key a.label ≡ false) before i h e

not-one : (o : Option ℕ) (n : ℕ) → or_number o false n ≡ o
not-one (Some i) n = refl
not-one None n = refl

pub met-some : (old new : Firsts) (before : List InstrTree) (i : InstrTree) (l : PlacedName) (k : ℕ) → i.label ≡ Some l → k ≡ length before
    → number_in old l.0.key ≡ None → ((key : List ℕ) → number_in new key ≡ or_number (number_in old key) (bytes_eq key l.0.key) k)
    → FindsLabels old before → FindsLabels new (before ++ i ∷ [])
met-some old new before i l k has long none step h = λ key.
    subst (λ o. LabelAt key (before ++ i ∷ []) o)
    (sym (step key ∙ ap (λ n. or_number (number_in old key) (bytes_eq key l.0.key) n) long))
    (met-by key before i (number_in old key) (bytes_eq key l.0.key) (ap (is_named key) has)
    (λ t. ap (number_in old) ((bytes_eq-Decides key l.0.key).0 t) ∙ none) (h key))

pub met-none : (table : Firsts) (before : List InstrTree) (i : InstrTree) → i.label ≡ None → FindsLabels table before
    → FindsLabels table (before ++ i ∷ [])
met-none table before i has h = λ key.
    subst (λ o. LabelAt key (before ++ i ∷ []) o) (not-one (number_in table key) (length before))
    (met-by key before i (number_in table key) false (ap (is_named key) has) (λ t. absurd (cc)) (h key))

-- ---- the last jumps

-- behind the last one, or at a jump
from-here : (o : Option ℕ) (t : Bool) (k : ℕ) (rest : Bool) → rest ≡ is_from (suc k) o → ((n : ℕ) → o ≡ Some n → suc k ≤ n)
    → (t || rest) ≡ is_from k (or_number o t k)
from-here None true k rest e inside = sym (le-leb k k (omega arith))
from-here None false k rest e inside = e
from-here (Some n) true k rest e inside = sym (le-leb k n (omega (arith, inside n refl)))
from-here (Some n) false k rest e inside =
    e ∙ le-leb (suc k) n (inside n refl) ∙ sym (le-leb k n (omega (arith, inside n refl)))

-- from behind it on
above : (o : Option ℕ) (t : Bool) (k j : ℕ) (rest : Bool) → k < j → rest ≡ is_from j o → rest ≡ is_from j (or_number o t k)
above None true k j rest le e = e ∙ sym (lt-leb j k le)
above None false k j rest le e = e
above (Some n) true k j rest le e = e
above (Some n) false k j rest le e = e

drop-here : {A : Type 0} (xs : List A) (k : ℕ) (x : A) → slice_get xs k ≡ Some x → drop k xs ≡ x ∷ drop (suc k) xs
drop-here [] k x at = absurd (none-some x at)
drop-here (y ∷ ys) zero x at = ap (λ z. z ∷ ys) (same_Some y x at)
drop-here (y ∷ ys) (suc k) x at = drop-here ys k x at

pub jump-noted : (old new : Firsts) (all : List InstrTree) (k : ℕ) (i : InstrTree) → slice_get all k ≡ Some i
    → ((key : List ℕ) → number_in new key ≡ or_number (number_in old key) (is_named key (label_of_jump i)) k)
    → FindsJumps old all (k + 1) → FindsJumps new all k
jump-noted old new all k i at step h = record {
  last = λ key j le. elim (eq-or-lt_of_le le) [
    | inl same ↦ subst (λ n. is_jumped_to key (drop n all) ≡ is_from n (number_in new key)) same (here key)
    | inr above ↦ above-it key j above
  ];
  inside = λ key n is. inside-of (number_in old key) (is_named key (label_of_jump i)) n (λ m e. h.inside key m e) (sym (step key) ∙ is);
}
  where
    here : (key : List ℕ) → is_jumped_to key (drop k all) ≡ is_from k (number_in new key)
    here key =
        let one-more : k + 1 ≡ suc k = omega arith in
        ap (is_jumped_to key) (drop-here all k i at)
        ∙ from-here (number_in old key) (is_named key (label_of_jump i)) k (is_jumped_to key (drop (suc k) all))
        (subst (λ n. is_jumped_to key (drop n all) ≡ is_from n (number_in old key)) one-more (h.last key (k + 1) (omega arith)))
        (λ n e. omega (arith, h.inside key n e))
        ∙ ap (is_from k) (sym (step key))

    above-it : (key : List ℕ) (j : ℕ) → k < j → is_jumped_to key (drop j all) ≡ is_from j (number_in new key)
    above-it key j le =
        above (number_in old key) (is_named key (label_of_jump i)) k j (is_jumped_to key (drop j all)) le (h.last key j (omega (arith, le)))
        ∙ ap (is_from j) (sym (step key))

    inside-of : (o : Option ℕ) (t : Bool) (n : ℕ) → ((m : ℕ) → o ≡ Some m → k + 1 ≤ m) → or_number o t k ≡ Some n → k ≤ n
    inside-of None true n h e = omega (arith, same_Some k n e)
    inside-of None false n h e = absurd (none-some n e)
    inside-of (Some m) t n h e = omega (arith, h m refl, same_Some m n e)

pub no-jump-noted : (table : Firsts) (all : List InstrTree) (k : ℕ) (i : InstrTree) → slice_get all k ≡ Some i → label_of_jump i ≡ None
    → FindsJumps table all (k + 1) → FindsJumps table all k
no-jump-noted table all k i at none h =
    jump-noted table table all k i at
    (λ key. sym (not-one (number_in table key) k) ∙ ap (λ t. or_number (number_in table key) t k) (sym (ap (is_named key) none))) h

pub label-noted : (old new : Firsts) (all : List InstrTree) (k : ℕ) (i : InstrTree) (l : PlacedName) → slice_get all k ≡ Some i
    → label_of_jump i ≡ Some l → ((key : List ℕ) → number_in new key ≡ or_number (number_in old key) (bytes_eq key l.0.key) k)
    → FindsJumps old all (k + 1) → FindsJumps new all k
label-noted old new all k i l at is step h =
    jump-noted old new all k i at (λ key. step key ∙ ap (λ t. or_number (number_in old key) t k) (sym (ap (is_named key) is))) h

-- ---- where a jump leads

pub leads-ahead : (all : List InstrTree) (k to : ℕ) (key : List ℕ) → StandsAt key all to → k < to → LeadsTo all k key (Ahead to)
leads-ahead all k to key h le = record {
  ahead = le;
  goal = (found all to h.within).0;
  at = (found all to h.within).1;
  named = h.named (found all to h.within).0 (found all to h.within).1;
  between = λ n i from before at. h.others n i (λ is. absurd (omega (arith, is, before))) at;
}
  where
    found : {A : Type 0} (xs : List A) (n : ℕ) → n < length xs → (x : A) × (slice_get xs n ≡ Some x)
    found [] n le = absurd (omega (arith, le))
    found (x ∷ xs) zero le = (x, refl)
    found (x ∷ xs) (suc n) le = found xs n (omega (arith, le))

pub leads-back : (all : List InstrTree) (k to : ℕ) (key : List ℕ) → StandsAt key all to → to ≤ k → LeadsTo all k key (Back to)
leads-back all k to key h le = record {
  behind = λ n i from before at. h.others n i (λ is. absurd (omega (arith, is, from, le))) at;
  named = λ i at. h.named i at;
  others = λ n i other at. h.others n i other at;
}

-- a label that none has
pub leads-nowhere : (all : List InstrTree) (k to : ℕ) (key : List ℕ) → NoneHas key all → length all ≤ to → LeadsTo all k key (Back to)
leads-nowhere all k to key h le = record {
  behind = λ n i from before at. h n i at;
  named = λ i at. absurd (omega (arith, le, slice_get_within all to i at));
  others = λ n i other at. h n i at;
}

pub label-at : (table : Firsts) (all : List InstrTree) (key : List ℕ) (o : Option ℕ) → o ≡ number_in table key → FindsLabels table all
    → LabelAt key all o
label-at table all key o e h = subst (λ n. LabelAt key all n) (sym e) (h key)

-- ---- where a range begins

pub range-here : (last : Firsts) (all : List InstrTree) (k : ℕ) (i : InstrTree) (l : PlacedName) (b : Bool) → slice_get all k ≡ Some i
    → i.label ≡ Some l → b ≡ is_from k (number_in last l.0.key) → FindsJumps last all 0 → place_where l.1 b ≡ range_of (drop k all)
range-here last all k i l b at is test h =
    ap (place_where l.1) (test ∙ sym (h.last l.0.key k (omega arith)))
    ∙ ap (λ d. place_where l.1 (is_jumped_to l.0.key d)) (drop-here all k i at)
    ∙ sym (ap range_of (drop-here all k i at) ∙ ap (range_by (i ∷ drop (suc k) all)) is)

pub no-range : (all : List InstrTree) (k : ℕ) (i : InstrTree) → slice_get all k ≡ Some i → i.label ≡ None → None ≡ range_of (drop k all)
no-range all k i at is = sym (ap range_of (drop-here all k i at) ∙ ap (range_by (i ∷ drop (suc k) all)) is)

-- ---- the goals of jumps

pub goal-ahead : (table : Firsts) (all : List InstrTree) (k at : ℕ) (key : List ℕ) → Some at ≡ number_in table key → k < at
    → FindsLabels table all → LeadsTo all k key (Ahead at)
goal-ahead table all k at key e le h = leads-ahead all k at key (label-at table all key (Some at) e h) le

pub goal-back : (table : Firsts) (all : List InstrTree) (k at : ℕ) (key : List ℕ) → Some at ≡ number_in table key → at ≤ k
    → FindsLabels table all → LeadsTo all k key (Back at)
goal-back table all k at key e le h = leads-back all k at key (label-at table all key (Some at) e h) le

pub goal-nowhere : (table : Firsts) (all : List InstrTree) (k to : ℕ) (key : List ℕ) → None ≡ number_in table key → length all ≤ to
    → FindsLabels table all → LeadsTo all k key (Back to)
goal-nowhere table all k to key e le h = leads-nowhere all k to key (label-at table all key None e h) le

pub unmet : (o n : Option ℕ) (b : Bool) → b ≡ is_some o → b ≡ false → o ≡ n → n ≡ None
unmet None n b is e same = sym same
unmet (Some x) n b is e same = absurd (cc)

slice_get_there : {X : Type 0} (xs : List X) (n : ℕ) → n < length xs → (x : X) × (slice_get xs n ≡ Some x)
slice_get_there [] n lt = absurd (omega (arith, lt))
slice_get_there (x ∷ xs) zero lt = (x, refl)
slice_get_there (x ∷ xs) (suc n) lt = slice_get_there xs n (omega (arith, lt))

-- a label that the table has stands before
pub met-twice : (table : Firsts) (before : List InstrTree) (i : InstrTree) (l : PlacedName) (o : Option ℕ) (b : Bool) → i.label ≡ Some l
    → b ≡ is_some o → b ≡ true → o ≡ number_in table l.0.key → FindsLabels table before → IsUnmet before i → ⊥
met-twice table before i l None b has is e same h free = cc
met-twice table before i l (Some n) b has is e same h free =
    let w = label-at table before l.0.key (Some n) same h in
    let there = slice_get_there before n w.within in
    free n there.0 l there.1 has (w.named there.0 there.1)
