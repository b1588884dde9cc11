-- A table that passes the test is that of an LL(1) grammar.
--
-- A language is a table in flat arrays, without references inside, and its sets are `u128` masks: so the test `is_ll1` is computed by
-- the check with no proof file (185 productions: 17 s of processor time in all).
-- A crate with a grammar writes `fn NAME() -> Language` with `ll1 { IsTrue (is_ll1 result) }` and `grammar { grammar_of result ≡
-- NAME_grammar }`, both proved with no file, and calls `recognize(alloc, &NAME(), kinds)`: its own clause then cites `NAME_grammar`
-- alone. src/sample.rt is the pattern; tools/ll_table.py writes the table, names conflicts, left recursion and dead names, and isn't
-- trusted.
use Rattle.std.proofs.Common.{◌≡◌, ℕ, zero, suc, ◌+◌, ◌-◌, ◌<◌, ◌≤◌, ◌^◌, Bool, true, false, cond, List, [], ◌∷◌, length, get_or, take, Some, refl, ap, ◌∙◌, sym, subst, arith, inl, inr, ltb-true, leb-true, eqb-true, eq-eqb}
use Rattle.std.specs.Prelude.{slice_get, bit_or, bit_and, not, ◌&&◌, ◌||◌, ◌==◌, nat_lt, nat_le}
use Rattle.std.specs.List.{list_all}
use Rattle.std.specs.Int.{bit_at}
use Rattle.std.proofs.lemmas.Bool.{and_parts, cases_eq, cases_lt, cases_order}
use Rattle.std.proofs.lemmas.Option.{slice_get-get_or}
use Rattle.std.proofs.lemmas.List.{append-nil, get_or-take, get_or-drop, get_or_past, length-take, length-drop}
use Rattle.std.proofs.lemmas.Nat.Bits.{bit_at_or, bit_at-lt, bit_at-zero, bit_at-pow_other}
use Rattle.pv_ll.specs.declared.table.Symbol.{Symbol}
use Rattle.pv_ll.specs.declared.table.Symbol.TheVariants.{Token, Name}
use Rattle.pv_ll.specs.declared.table.Alternative.{Alternative}
use Rattle.pv_ll.specs.declared.table.Rule.{Rule}
use Rattle.pv_ll.specs.declared.table.Language.{Language}
use Rattle.pv_ll.specs.Grammar.{IsSentence, IsProduction}
use Rattle.pv_ll.specs.Grammar.Derives.{nothing, name}
use Rattle.pv_ll.specs.Table.{part, body_of, grammar_of, rule, no_rule, vanish, next, front}
use Rattle.pv_ll.specs.Check.{is_subset, is_among, one_round, rounds, live_names, are_followed, serves, is_apart, are_apart, are_placed, own_their_parts, is_ll1}
use Rattle.pv_ll.specs.Facts.{IsLL1, Serves, Selects, IsSubset, Followed, Lives, IsWithin}
use Rattle.pv_ll.proofs.Sets.{subset_from, disjoint}
use Rattle.pv_ll.proofs.Words.{Word, live_word}
use Rattle.pv_ll.proofs.Steps.{production_at}

all_at : {X : Type 0} (p : X → Bool) (xs : List X) → list_all p xs ≡ true → (k : ℕ) (x : X) → slice_get xs k ≡ Some x → p x ≡ true
all_at p [] h k x e = absurd (cc)
all_at p (y ∷ xs) h zero x e = let same : y ≡ x = cc in ap p (sym same) ∙ (and_parts (p y) (list_all p xs) h).0
all_at p (y ∷ xs) h (suc k) x e = all_at p xs (and_parts (p y) (list_all p xs) h).1 k x e

subset : (x y : ℕ) → is_subset x y ≡ true → IsSubset x y
subset x y h = subset_from x y (eqb-true (bit_or x y) y h)

-- names of a set that derive something
Sound : Language → ℕ → Type 0
Sound l names = (n : ℕ) → bit_at names n ≡ 1 → (w : List ℕ) × IsSentence (grammar_of l) n w

live_body : (l : Language) (names : ℕ) → Sound l names → (ss : List Symbol) → list_all (is_among l.kinds names) ss ≡ true → Lives (grammar_of l) ss
unfolding Sound
live_body l names s [] h = tt
live_body l names s (Token t ∷ ss) h = live_body l names s ss (and_parts (nat_lt t l.kinds) (list_all (is_among l.kinds names) ss) h).1
live_body l names s (Name n ∷ ss) h =
    let p = and_parts (bit_at names n == 1) (list_all (is_among l.kinds names) ss) h in
    (s n (eqb-true (bit_at names n) 1 p.0), live_body l names s ss p.1)

within_body : (kinds names : ℕ) (ss : List Symbol) → list_all (is_among kinds names) ss ≡ true → IsWithin kinds ss
within_body kinds names [] h = tt
within_body kinds names (Token t ∷ ss) h =
    let p = and_parts (nat_lt t kinds) (list_all (is_among kinds names) ss) h in
    (ltb-true t kinds p.0, within_body kinds names ss p.1)
within_body kinds names (Name n ∷ ss) h =
    within_body kinds names ss (and_parts (bit_at names n == 1) (list_all (is_among kinds names) ss) h).1

add_name : (l : Language) (names n k : ℕ) (body : List Symbol) → IsProduction (grammar_of l) k n body → Sound l names → (b : Bool)
    → (b ≡ true → Lives (grammar_of l) body) → Sound l (cond b (bit_or names (2 ^ n)) names)
unfolding Sound
add_name l names n k body p s false h m i = s m i
add_name l names n k body p s true h m i = elim (cases_eq m n) [
  | inr ne ↦ s m (omega (arith, bit_at_or names (2 ^ n) m, bit_at-pow_other n m ne, i, bit_at-lt names m))
  | inl e ↦
      let w : Word (grammar_of l) body = live_word body (h refl) in
      (w.word, subst (λ (x : ℕ). IsSentence (grammar_of l) x w.word) (sym e) (name k p w.derives nothing (sym (append-nil w.word))))
]

sound_round : (l : Language) (rest : List Alternative) → ((j : ℕ) (a : Alternative) → slice_get rest j ≡ Some a → (k : ℕ) × Selects l k a)
    → (names : ℕ) → Sound l names → Sound l (one_round l rest names)
sound_round l [] h names s = s
sound_round l (a ∷ rest) h names s =
    let here = h 0 a refl in
    let b : Bool = list_all (is_among l.kinds names) (body_of l a) in
    sound_round l rest (λ j x e. h (suc j) x e) (cond b (bit_or names (2 ^ a.name)) names)
    (add_name l names a.name here.0 (body_of l a) (production_at l here.0 a.name a here.1 refl) s b (λ e. live_body l names s (body_of l a) e))

sound_rounds : (l : Language) (n : ℕ) → Sound l (rounds l n)
unfolding Sound
sound_rounds l zero = λ n i. absurd (omega (arith, bit_at-zero n, i))
sound_rounds l (suc n) = sound_round l l.alternatives.now (λ j a e. (j, e)) (rounds l n) (sound_rounds l n)

followed_from : (l : Language) (after : ℕ) (ss : List Symbol) → are_followed l after ss ≡ true → Followed l after ss
followed_from l after [] h = tt
followed_from l after (Token t ∷ ss) h = followed_from l after ss h
followed_from l after (Name n ∷ ss) h =
    let p = and_parts (is_subset (next l after ss) (rule l n).follow) (are_followed l after ss) h in
    (subset (next l after ss) (rule l n).follow p.0, followed_from l after ss p.1)

implied : (x y : Bool) → (not x || y) ≡ true → x ≡ true → y ≡ true
implied true y h e = h
implied false y h e = absurd (cc)

serves_from : (l : Language) (live : ℕ) (a : Alternative) → Sound l live → serves l live a ≡ true → Serves l a
serves_from l live a sound h =
    let body : List Symbol = body_of l a in
    let r : Rule = rule l a.name in
    let b1 : Bool = is_subset (next l r.follow body) a.when in
    let b2 : Bool = is_subset (next l 0 body) r.first in
    let b3 : Bool = not (vanish l body) || r.nullable in
    let b4 : Bool = are_followed l r.follow body in
    let b5 : Bool = nat_lt (front l body) r.weight in
    let b6 : Bool = list_all (is_among l.kinds live) body in
    let p5 = and_parts (b1 && b2 && b3 && b4 && b5) b6 h in
    let p4 = and_parts (b1 && b2 && b3 && b4) b5 p5.0 in
    let p3 = and_parts (b1 && b2 && b3) b4 p4.0 in
    let p2 = and_parts (b1 && b2) b3 p3.0 in
    let p1 = and_parts b1 b2 p2.0 in
    record {
      predicted = subset (next l r.follow body) a.when p1.0;
      first = subset (next l 0 body) r.first p1.1;
      nullable = implied (vanish l body) r.nullable p2.1;
      followed = followed_from l r.follow body p3.1;
      falls = ltb-true (front l body) r.weight p4.1;
      lives = live_body l live sound body p5.1;
      within = within_body l.kinds live body p5.1;
    }

apart_later : (xs : List Alternative) → are_apart xs ≡ true → (j k : ℕ) (a b : Alternative) → slice_get xs j ≡ Some a → slice_get xs k ≡ Some b
    → j < k → is_apart a b ≡ true
apart_later [] h j k a b e f less = absurd (cc)
apart_later (x ∷ xs) h zero zero a b e f less = absurd (omega arith)
apart_later (x ∷ xs) h zero (suc k) a b e f less =
    let same : x ≡ a = cc in
    ap (λ (y : Alternative). is_apart y b) (sym same) ∙ all_at (is_apart x) xs (and_parts (list_all (is_apart x) xs) (are_apart xs) h).0 k b f
apart_later (x ∷ xs) h (suc j) zero a b e f less = absurd (omega arith)
apart_later (x ∷ xs) h (suc j) (suc k) a b e f less =
    apart_later xs (and_parts (list_all (is_apart x) xs) (are_apart xs) h).1 j k a b e f (omega arith)

apart_kinds : (a b : Alternative) → is_apart a b ≡ true → a.name ≡ b.name → (t : ℕ) → bit_at a.when t ≡ 1 → bit_at b.when t ≡ 1 → ⊥
apart_kinds a b h e t i j =
    disjoint a.when b.when t (eqb-true (bit_and a.when b.when) 0 (implied (a.name == b.name) (bit_and a.when b.when == 0) h (eq-eqb a.name b.name e))) i j

apart_from : (l : Language) → are_apart l.alternatives.now ≡ true → (j k : ℕ) (a b : Alternative) → Selects l j a → Selects l k b → a.name ≡ b.name
    → (t : ℕ) → bit_at a.when t ≡ 1 → bit_at b.when t ≡ 1 → j ≡ k
apart_from l h j k a b e f same t i u = elim (cases_order j k) [
  | inl eq ↦ eq
  | inr (inl less) ↦ absurd (apart_kinds a b (apart_later l.alternatives.now h j k a b e f less) same t i u)
  | inr (inr more) ↦ absurd (apart_kinds b a (apart_later l.alternatives.now h k j b a f e more) (sym same) t u i)
]

placed_from : (l : Language) (k : ℕ) (xs : List Alternative) → are_placed l k xs ≡ true → (j : ℕ) (a : Alternative) → slice_get xs j ≡ Some a
    → ((rule l a.name).from ≤ k + j) × (k + j < (rule l a.name).to)
placed_from l k [] h j a e = absurd (cc)
placed_from l k (x ∷ xs) h zero a e =
    let same : x ≡ a = cc in
    let p = and_parts (nat_le (rule l x.name).from k && nat_lt k (rule l x.name).to) (are_placed l (suc k) xs) h in
    let q = and_parts (nat_le (rule l x.name).from k) (nat_lt k (rule l x.name).to) p.0 in
    let from : (rule l a.name).from ≤ k = subst (λ (y : Alternative). (rule l y.name).from ≤ k) same (leb-true (rule l x.name).from k q.0) in
    let to : k < (rule l a.name).to = subst (λ (y : Alternative). k < (rule l y.name).to) same (ltb-true k (rule l x.name).to q.1) in
    (omega arith, omega arith)
placed_from l k (x ∷ xs) h (suc j) a e =
    let p = and_parts (nat_le (rule l x.name).from k && nat_lt k (rule l x.name).to) (are_placed l (suc k) xs) h in
    let q = placed_from l (suc k) xs p.1 j a e in
    (omega (arith, q.0), omega (arith, q.1))

record Own (l : Language) (n : ℕ) (r : Rule) : Type 0 where
  within : r.to ≤ length l.alternatives.now
  named : list_all (λ (a : Alternative). a.name == n) (part l.alternatives.now r.from r.to) ≡ true

own_from : (l : Language) (n : ℕ) (rs : List Rule) → own_their_parts l n rs ≡ true → (j : ℕ) (r : Rule) → slice_get rs j ≡ Some r → Own l (n + j) r
own_from l n [] h j r e = absurd (cc)
own_from l n (x ∷ rs) h zero r e =
    let same : x ≡ r = cc in
    let b1 : Bool = nat_le x.to (length l.alternatives.now) in
    let b2 : Bool = list_all (λ (a : Alternative). a.name == n) (part l.alternatives.now x.from x.to) in
    let p = and_parts (b1 && b2) (own_their_parts l (suc n) rs) h in
    let q = and_parts b1 b2 p.0 in
    let own : Own l n x = record { within = leb-true x.to (length l.alternatives.now) q.0; named = q.1 } in
    let plus : n ≡ n + 0 = omega arith in
    subst (λ (m : ℕ). Own l m r) plus (subst (λ (y : Rule). Own l n y) same own)
own_from l n (x ∷ rs) h (suc j) r e =
    let b1 : Bool = nat_le x.to (length l.alternatives.now) in
    let b2 : Bool = list_all (λ (a : Alternative). a.name == n) (part l.alternatives.now x.from x.to) in
    let p = and_parts (b1 && b2) (own_their_parts l (suc n) rs) h in
    let plus : suc n + j ≡ n + suc j = omega arith in
    subst (λ (m : ℕ). Own l m r) plus (own_from l (suc n) rs p.1 j r e)

own_at : (l : Language) (n k : ℕ) (r : Rule) (d : Alternative) → Own l n r → r.from ≤ k → k < r.to
    → (a : Alternative) × (Selects l k a) × (a.name ≡ n)
own_at l n k r d own h i =
    let xs : List Alternative = l.alternatives.now in
    let less : k - r.from < length (part xs r.from r.to) =
    omega (arith, own.within, length-take r.to xs, length-drop r.from (take r.to xs)) in
    let inside : r.from + (k - r.from) < r.to = omega arith in
    let place : r.from + (k - r.from) ≡ k = omega arith in
    let read : get_or (part xs r.from r.to) (k - r.from) d ≡ get_or xs k d =
    get_or-drop r.from (take r.to xs) (k - r.from) d ∙ get_or-take r.to xs (r.from + (k - r.from)) d inside ∙ ap (λ (m : ℕ). get_or xs m d) place in
    let named : (get_or (part xs r.from r.to) (k - r.from) d).name ≡ n =
    eqb-true (get_or (part xs r.from r.to) (k - r.from) d).name n
    (all_at (λ (a : Alternative). a.name == n) (part xs r.from r.to) own.named (k - r.from) (get_or (part xs r.from r.to) (k - r.from) d)
    (slice_get-get_or (part xs r.from r.to) (k - r.from) d less)) in
    (get_or xs k d, slice_get-get_or xs k d (omega (arith, own.within)), ap (λ (a : Alternative). a.name) (sym read) ∙ named)

owned_from : (l : Language) → own_their_parts l 0 l.rules.now ≡ true → (n k : ℕ) → (rule l n).from ≤ k → k < (rule l n).to
    → (a : Alternative) × (Selects l k a) × (a.name ≡ n)
owned_from l h n k f t = elim (cases_lt n (length l.rules.now)) [
  | inl less ↦
      own_at l n k (rule l n) (record { name = 0; when = 0; from = 0; to = 0 })
      (subst (λ (m : ℕ). Own l m (rule l n)) (omega arith) (own_from l 0 l.rules.now h n (rule l n) (slice_get-get_or l.rules.now n no_rule less))) f t
  | inr past ↦
      let none : (rule l n).to ≡ 0 = ap (λ (r : Rule). r.to) (get_or_past l.rules.now n no_rule past) in
      absurd (omega (arith, none, t))
]

live_start : (l : Language) (live : ℕ) → Sound l live → bit_at live l.start ≡ 1 → (w : List ℕ) × IsSentence (grammar_of l) l.start w
unfolding Sound
live_start l live s h = s l.start h

placed_at : (l : Language) (k : ℕ) (a : Alternative) → ((rule l a.name).from ≤ 0 + k) × (0 + k < (rule l a.name).to)
    → ((rule l a.name).from ≤ k) × (k < (rule l a.name).to)
placed_at l k a h = (omega (arith, h.0), omega (arith, h.1))

-- What the test makes sure of.
pub ll1_from : (l : Language) → is_ll1 l ≡ true → IsLL1 l
ll1_from l h =
    let live : ℕ = live_names l in
    let b1 : Bool = nat_lt l.kinds 128 in
    let b2 : Bool = bit_at (rule l l.start).follow l.kinds == 1 in
    let b3 : Bool = bit_at live l.start == 1 in
    let b4 : Bool = list_all (serves l live) l.alternatives.now in
    let b5 : Bool = are_apart l.alternatives.now in
    let b6 : Bool = are_placed l 0 l.alternatives.now in
    let b7 : Bool = own_their_parts l 0 l.rules.now in
    let p6 = and_parts (b1 && b2 && b3 && b4 && b5 && b6) b7 h in
    let p5 = and_parts (b1 && b2 && b3 && b4 && b5) b6 p6.0 in
    let p4 = and_parts (b1 && b2 && b3 && b4) b5 p5.0 in
    let p3 = and_parts (b1 && b2 && b3) b4 p4.0 in
    let p2 = and_parts (b1 && b2) b3 p3.0 in
    let p1 = and_parts b1 b2 p2.0 in
    let sound : Sound l live = sound_rounds l (length l.rules.now) in
    record {
      kinds = ltb-true l.kinds 128 p1.0;
      start_ends = eqb-true (bit_at (rule l l.start).follow l.kinds) 1 p1.1;
      start_lives = live_start l live sound (eqb-true (bit_at live l.start) 1 p2.1);
      serves = λ k a e. serves_from l live a sound (all_at (serves l live) l.alternatives.now p3.1 k a e);
      apart = apart_from l p4.1;
      placed = λ k a e. placed_at l k a (placed_from l 0 l.alternatives.now p5.1 k a e);
      owned = owned_from l p6.1;
    }
