-- Labels and ranges of a block's instructions: what the rules say of them.
use Rattle.std.proofs.Common.{◌≡◌, ℕ, zero, suc, ◌<◌, ◌≤◌, List, [], ◌∷◌, ◌++◌, map, drop, Bool, true, false, cond, Option, Some, None, Contains, refl, sym, ap, ◌∙◌, arith}
use Rattle.std.specs.Prelude.{◌||◌, slice_get, option_map}
use Rattle.std.specs.List.{cons_option}
use Rattle.std.proofs.lemmas.Bool.{true≢false, false≢true}
use Rattle.std.proofs.lemmas.Option.{none-some}
use Rattle.std.proofs.lemmas.Slice.Eq.{bytes_eq-Decides}
use Rattle.pv_tree.specs.Tree.{PlacedName, InstrTree}
use Rattle.pv_tree.specs.InstructionGroups.{label_of_jump}
use Rattle.pv_tree.specs.Interfaces.{IsLater}
use Rattle.pv_tree.specs.Rules.Jumps.{labels_of}
use Rattle.pv_mean.specs.InstructionRuns.{is_named, is_jumped_to}
use Rattle.pv_laws_steps.specs.Machine.{place_of_label, jumps_from}

pub same_some : {X : Type 0} (x y : X) → Some x ≡ Some y → x ≡ y
same_some x y e = cc

-- ---- lists behind a number

pub got_at : {X : Type 0} (xs : List X) (k : ℕ) (x : X) (more : List X) → drop k xs ≡ x ∷ more → slice_get xs k ≡ Some x
got_at [] zero x more e = ap (λ l. slice_get l 0) e
got_at [] (suc k) x more e = ap (λ l. slice_get l 0) e
got_at (y ∷ ys) zero x more e = ap (λ l. slice_get l 0) e
got_at (y ∷ ys) (suc k) x more e = got_at ys k x more e

same_tail : {X : Type 0} (a b : X) (us vs : List X) → a ∷ us ≡ b ∷ vs → us ≡ vs
same_tail a b us vs e = cc

pub next_drop : {X : Type 0} (xs : List X) (k : ℕ) (x : X) (more : List X) → drop k xs ≡ x ∷ more → drop (suc k) xs ≡ more
next_drop [] zero x more e = absurd (none-some x (ap (λ l. slice_get l 0) e))
next_drop [] (suc k) x more e = absurd (none-some x (ap (λ l. slice_get l 0) e))
next_drop (y ∷ ys) zero x more e = same_tail y x ys more e
next_drop (y ∷ ys) (suc k) x more e = next_drop ys k x more e

pub none_at : {X : Type 0} (xs : List X) (k : ℕ) → drop k xs ≡ [] → slice_get xs k ≡ None
none_at [] zero e = refl
none_at [] (suc k) e = refl
none_at (y ∷ ys) zero e = ap (λ l. slice_get l 0) e
none_at (y ∷ ys) (suc k) e = none_at ys k e

pub none_behind : {X : Type 0} (xs : List X) (k b : ℕ) (x : X) → drop k xs ≡ [] → k ≤ b → slice_get xs b ≡ Some x → ⊥
none_behind [] k b x e le g = none-some x g
none_behind (y ∷ ys) zero b x e le g = none-some y (sym (ap (λ l. slice_get l 0) e))
none_behind (y ∷ ys) (suc k) zero x e le g = omega (arith, le)
none_behind (y ∷ ys) (suc k) (suc b) x e le g = none_behind ys k b x e (omega (arith, le)) g

-- ---- names

pub named_is : (key : List ℕ) (l : PlacedName) → is_named key (Some l) ≡ true → key ≡ l.0.key
named_is key l e = (bytes_eq-Decides key l.0.key).0 e

pub is_so_named : (key : List ℕ) (l : PlacedName) → key ≡ l.0.key → is_named key (Some l) ≡ true
is_so_named key l e = (bytes_eq-Decides key l.0.key).1 e

-- ---- where a label is

pub record Labelled (instructions : List InstrTree) (key : List ℕ) (m : ℕ) : Type 0 where
  pub it : InstrTree
  pub label : PlacedName
  pub there : slice_get instructions m ≡ Some it
  pub has : it.label ≡ Some label
  pub is : key ≡ label.0.key

labelled_of : (instructions : List InstrTree) (key : List ℕ) (m : ℕ) (i : InstrTree) → slice_get instructions m ≡ Some i
    → is_named key i.label ≡ true → Labelled instructions key m
labelled_of instructions key m i there e = lead i.label refl e
  where
    lead : (o : Option PlacedName) → i.label ≡ o → is_named key o ≡ true → Labelled instructions key m
    lead None has f = absurd (false≢true f)
    lead (Some l) has f = record { it = i; label = l; there = there; has = has; is = named_is key l f }

pred : (a b : ℕ) → suc a ≡ suc b → a ≡ b
pred a b e = omega (arith, e)

not_zero : (a : ℕ) → 0 ≡ suc a → ⊥
not_zero a e = omega (arith, e)

pub map_none : (o : Option ℕ) → option_map suc o ≡ None → o ≡ None
map_none None e = refl
map_none (Some n) e = absurd (none-some (suc n) (sym e))

suc_some : (o : Option ℕ) (m : ℕ) → option_map suc o ≡ Some (suc m) → o ≡ Some m
suc_some None m e = absurd (none-some (suc m) e)
suc_some (Some n) m e = let s = same_some (suc n) (suc m) e in ap Some (pred n m s)

suc_zero : (o : Option ℕ) → option_map suc o ≡ Some 0 → ⊥
suc_zero None e = none-some 0 e
suc_zero (Some n) e = not_zero n (sym (same_some (suc n) 0 e))

pub place_labelled : (instructions : List InstrTree) (key : List ℕ) (m : ℕ) → place_of_label key instructions ≡ Some m
    → Labelled instructions key m
place_labelled [] key m e = absurd (none-some m e)
place_labelled (i ∷ more) key zero e = lead (is_named key i.label) refl e
  where
    lead : (b : Bool) → is_named key i.label ≡ b → cond b (Some 0) (option_map suc (place_of_label key more)) ≡ Some 0
        → Labelled (i ∷ more) key 0
    lead true f g = labelled_of (i ∷ more) key 0 i refl f
    lead false f g = absurd (suc_zero (place_of_label key more) g)
place_labelled (i ∷ more) key (suc m) e = lead (is_named key i.label) e (λ g. place_labelled more key m g)
  where
    behind : Labelled more key m → Labelled (i ∷ more) key (suc m)
    behind w = record { it = w.it; label = w.label; there = w.there; has = w.has; is = w.is }

    lead : (b : Bool) → cond b (Some 0) (option_map suc (place_of_label key more)) ≡ Some (suc m)
        → (place_of_label key more ≡ Some m → Labelled more key m) → Labelled (i ∷ more) key (suc m)
    lead true g below = absurd (not_zero m (same_some 0 (suc m) g))
    lead false g below = behind (below (suc_some (place_of_label key more) m g))

-- it is the first of the name
pub place_first : (instructions : List InstrTree) (key : List ℕ) (m k : ℕ) (i : InstrTree) → place_of_label key instructions ≡ Some m
    → slice_get instructions k ≡ Some i → is_named key i.label ≡ true → m ≤ k
place_first [] key m k i e g n = absurd (none-some i g)
place_first (j ∷ more) key zero k i e g n = omega arith
place_first (j ∷ more) key (suc m) zero i e g n =
    absurd (lead (is_named key j.label) (ap (λ x. is_named key x.label) (same_some j i g) ∙ n) e)
  where
    lead : (b : Bool) → b ≡ true → cond b (Some 0) (option_map suc (place_of_label key more)) ≡ Some (suc m) → ⊥
    lead true f h = not_zero m (same_some 0 (suc m) h)
    lead false f h = absurd (false≢true f)
place_first (j ∷ more) key (suc m) (suc k) i e g n = lead (is_named key j.label) e (λ h. place_first more key m k i h g n)
  where
    lead : (b : Bool) → cond b (Some 0) (option_map suc (place_of_label key more)) ≡ Some (suc m)
        → (place_of_label key more ≡ Some m → m ≤ k) → suc m ≤ suc k
    lead true h below = absurd (not_zero m (same_some 0 (suc m) h))
    lead false h below = let l = below (suc_some (place_of_label key more) m h) in omega (arith, l)

-- a label that isn't found is none
pub place_none : (instructions : List InstrTree) (key : List ℕ) (k : ℕ) (i : InstrTree) → place_of_label key instructions ≡ None
    → slice_get instructions k ≡ Some i → is_named key i.label ≡ false
place_none [] key k i e g = absurd (none-some i g)
place_none (j ∷ more) key zero i e g = lead (is_named key j.label) refl e
  where
    lead : (b : Bool) → is_named key j.label ≡ b → cond b (Some 0) (option_map suc (place_of_label key more)) ≡ None
        → is_named key i.label ≡ false
    lead true f h = absurd (none-some 0 (sym h))
    lead false f h = ap (λ x. is_named key x.label) (sym (same_some j i g)) ∙ f
place_none (j ∷ more) key (suc k) i e g = lead (is_named key j.label) e (λ h. place_none more key k i h g)
  where
    lead : (b : Bool) → cond b (Some 0) (option_map suc (place_of_label key more)) ≡ None
        → (place_of_label key more ≡ None → is_named key i.label ≡ false) → is_named key i.label ≡ false
    lead true h below = absurd (none-some 0 (sym h))
    lead false h below = below (map_none (place_of_label key more) h)

-- ---- jumps from somewhere on

or_left : (a b : Bool) → a ≡ true → a || b ≡ true
or_left true b e = refl
or_left false b e = absurd (false≢true e)

or_right : (a b : Bool) → b ≡ true → a || b ≡ true
or_right true b e = refl
or_right false b e = e

-- an instruction from n on that jumps to the label
pub jumps_there : (instructions : List InstrTree) (key : List ℕ) (n j : ℕ) (i : InstrTree) → n ≤ j → slice_get instructions j ≡ Some i
    → is_named key (label_of_jump i) ≡ true → jumps_from instructions n key ≡ true
jumps_there [] key n j i le g e = absurd (none-some i g)
jumps_there (x ∷ more) key zero zero i le g e =
    or_left (is_named key (label_of_jump x)) (is_jumped_to key more) (ap (λ y. is_named key (label_of_jump y)) (same_some x i g) ∙ e)
jumps_there (x ∷ more) key zero (suc j) i le g e =
    or_right (is_named key (label_of_jump x)) (is_jumped_to key more) (jumps_there more key zero j i (omega arith) g e)
jumps_there (x ∷ more) key (suc n) zero i le g e = absurd (omega (arith, le))
jumps_there (x ∷ more) key (suc n) (suc j) i le g e = jumps_there more key n j i (omega (arith, le)) g e

-- the last of the instructions from n on that jump to the label
pub record LastJump (instructions : List InstrTree) (key : List ℕ) (n : ℕ) : Type 0 where
  pub last : ℕ
  pub it : InstrTree
  pub from : n ≤ last
  pub there : slice_get instructions last ≡ Some it
  pub jumps : is_named key (label_of_jump it) ≡ true
  pub none_later : jumps_from instructions (suc last) key ≡ false

pub last_jump : (instructions : List InstrTree) (key : List ℕ) (n : ℕ) → jumps_from instructions n key ≡ true
    → LastJump instructions key n
last_jump [] key zero e = absurd (false≢true e)
last_jump [] (key) (suc n) e = absurd (false≢true e)
last_jump (x ∷ more) key (suc n) e =
    let w = last_jump more key n e in
    record { last = suc w.last; it = w.it; from = (let f = w.from in omega (arith, f)); there = w.there; jumps = w.jumps; none_later = w.none_later }
last_jump (x ∷ more) key zero e = lead (is_jumped_to key more) refl (is_named key (label_of_jump x)) refl e (λ f. last_jump more key zero f)
  where
    lead : (b : Bool) → is_jumped_to key more ≡ b → (a : Bool) → is_named key (label_of_jump x) ≡ a → a || b ≡ true
        → (is_jumped_to key more ≡ true → LastJump more key 0) → LastJump (x ∷ more) key 0
    lead true i a j f below =
        let w = below i in
        record { last = suc w.last; it = w.it; from = omega arith; there = w.there; jumps = w.jumps; none_later = w.none_later }
    lead false i true j f below = record { last = 0; it = x; from = omega arith; there = refl; jumps = j; none_later = i }
    lead false i false j f below = absurd (false≢true f)

-- none jumps from farther on where none does from here on
pub none_farther : (instructions : List InstrTree) (key : List ℕ) (n m : ℕ) → n ≤ m → jumps_from instructions n key ≡ false
    → jumps_from instructions m key ≡ false
none_farther instructions key n m le e = lead (jumps_from instructions m key) refl
  where
    lead : (b : Bool) → jumps_from instructions m key ≡ b → jumps_from instructions m key ≡ false
    lead false f = f
    lead true f =
        let w = last_jump instructions key m f in
        absurd (true≢false (sym (jumps_there instructions key n w.last w.it (let g = w.from in omega (arith, g, le)) w.there w.jumps) ∙ e))

-- ---- the rules: labels stand once

split_at : (instructions : List InstrTree) (k : ℕ) (i : InstrTree) (l : PlacedName) → slice_get instructions k ≡ Some i → i.label ≡ Some l
    → (front : List PlacedName) × (back : List PlacedName) × (labels_of instructions ≡ front ++ l ∷ back)
split_at [] k i l g e = absurd (none-some i g)
split_at (x ∷ more) zero i l g e = ([], labels_of more, lead x.label (ap (λ y. y.label) (same_some x i g) ∙ e))
  where
    lead : (o : Option PlacedName) → o ≡ Some l
        → cons_option o (labels_of more) ≡ l ∷ labels_of more
    lead None f = absurd (none-some l f)
    lead (Some y) f = ap (λ z. z ∷ labels_of more) (same_some y l f)
split_at (x ∷ more) (suc k) i l g e = lead x.label (split_at more k i l g e)
  where
    lead : (o : Option PlacedName) → (front : List PlacedName) × (back : List PlacedName) × (labels_of more ≡ front ++ l ∷ back)
        → (front : List PlacedName) × (back : List PlacedName)
        × (cons_option o (labels_of more) ≡ front ++ l ∷ back)
    lead None w = w
    lead (Some y) w = (y ∷ w.0, w.1, ap (λ z. y ∷ z) w.2)

contains_behind : {X : Type 0} (x y : X) (xs : List X) → Contains xs y → Contains (x ∷ xs) y
contains_behind x y xs (k, lt, e) = (suc k, omega (arith, lt), e)

-- a label that stands a second time is doubled there
pub doubled : (instructions : List InstrTree) (m k : ℕ) (a b : InstrTree) (l n : PlacedName) → m < k → slice_get instructions m ≡ Some a
    → a.label ≡ Some l → slice_get instructions k ≡ Some b → b.label ≡ Some n → l.0.key ≡ n.0.key → IsLater (labels_of instructions) n.1
doubled [] m k a b l n lt g e h f same = absurd (none-some a g)
doubled (x ∷ more) m zero a b l n lt g e h f same = absurd (omega (arith, lt))
doubled (x ∷ more) zero (suc k) a b l n lt g e h f same = lead x.label (ap (λ y. y.label) (same_some x a g) ∙ e) (split_at more k b n h f)
  where
    lead : (o : Option PlacedName) → o ≡ Some l → (front : List PlacedName) × (back : List PlacedName) × (labels_of more ≡ front ++ n ∷ back)
        → IsLater (cons_option o (labels_of more)) n.1
    lead None i w = absurd (none-some l i)
    lead (Some y) i w = record {
      front = y ∷ w.0;
      later = n;
      back = w.1;
      split = ap (λ z. y ∷ z) w.2;
      is_before = (0, omega arith, ap (λ z. z.0.key) (same_some y l i) ∙ same);
      is_at = refl;
    }
doubled (x ∷ more) (suc m) (suc k) a b l n lt g e h f same = lead x.label (doubled more m k a b l n (omega (arith, lt)) g e h f same)
  where
    lead : (o : Option PlacedName) → IsLater (labels_of more) n.1
        → IsLater (cons_option o (labels_of more)) n.1
    lead None w = w
    lead (Some y) w = record {
      front = y ∷ w.front;
      later = w.later;
      back = w.back;
      split = ap (λ z. y ∷ z) w.split;
      is_before = contains_behind y.0.key w.later.0.key (map (λ z. z.0.key) w.front) w.is_before;
      is_at = w.is_at;
    }
