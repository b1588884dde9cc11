-- How many variables frames have: no more than nodes and the bits' literals leave, since no bit's node stands twice.
use Rattle.std.proofs.Common.{◌≡◌, ℕ, ◌+◌, ◌-◌, ◌*◌, ◌<◌, ◌≤◌, zero, suc, ℤ, pos, Bool, true, false, cond, ltb, ◌&&◌, ◌||◌, List, [], ◌∷◌, ◌++◌, length, take, map, get_or, All, Option, Some, None, unsigned_abs, int_eq, refl, sym, ◌∙◌, ap, subst, arith, inl, inr, lit≤, take-suc, suc-mul}
use Rattle.std.specs.List.{count_by, list_any}
use Rattle.std.specs.List.Sorted.{IsPermutation}
use Rattle.std.specs.Option.{is_some, is_none}
use Rattle.std.proofs.lemmas.Bool.{cases_eq, lt-ltb, ltb-true, ltb-false, or_parts, false_from_ne_true}
use Rattle.std.proofs.lemmas.Cmp.{int_eq_equiv}
use Rattle.std.proofs.lemmas.List.{take_all, length-map}
use Rattle.std.proofs.lemmas.List.Sorted.{sum_by-IsPermutation}
use Rattle.std.proofs.lemmas.List.Sums.{sum_by-cons, sum_by-append, sum_by_push, sum_by-take-drop}
use Rattle.pv_gate.proofs.ForCallers.{int_eq-true}
use Rattle.pv_circuit.specs.declared.start.Start.{Start}
use Rattle.pv_circuit.specs.Circuits.{Circuit, input_literals}
use Rattle.pv_circuit.specs.Starts.{next_of}
use Rattle.pv_cert.specs.declared.proof.Query.{Query}
use Rattle.pv_frames.specs.Frames.{literal_in}
use Rattle.pv_frames.specs.Queries.{first_of, given_for, is_own, own_below, frame_at, next_literals, table}
use Rattle.pv_frames.specs.Tables.{IsBegin}
use Rattle.pv_frames.proofs.Giving.{bit, given-more, own-none}

cond-one : (b : Bool) → bit b ≤ 1
cond-one true = lit≤ tt
cond-one false = lit≤ tt

-- nodes from 2 on alone have variables of their own
own-most : (given : ℕ → Option ℕ) (n : ℕ) → own_below given n ≤ n - 2
own-most given zero = lit≤ tt
own-most given (suc n) = by (ltb 1 n) refl (own-most given n)
  where
    by : (b : Bool) → ltb 1 n ≡ b → own_below given n ≤ n - 2 → own_below given n + bit (b && is_none (given n)) ≤ suc n - 2
    by true e rest = let two = ltb-true 1 n e in let few = cond-one (is_none (given n)) in omega (arith, two, few, rest)
    by false e rest = let small = ltb-false 1 n e in omega (arith, small, rest)

-- ---- one more literal that is given

given-below : (f g : ℕ → Option ℕ) (m n : ℕ) → n ≤ m → ((i : ℕ) → (i ≡ m → ⊥) → g i ≡ f i) → own_below g n ≡ own_below f n
given-below f g m zero le same = refl
given-below f g m (suc n) le same =
    ap (λ (o : Option ℕ). own_below g n + bit (ltb 1 n && is_none o)) (same n (λ e. omega arith))
    ∙ ap (λ (k : ℕ). k + bit (is_own f n)) (given-below f g m n (omega arith) same)

none-or-some : (o : Option ℕ) → bit (is_none o) + bit (is_some o) ≡ 1
none-or-some (Some x) = refl
none-or-some None = refl

given-at : (f g : ℕ → Option ℕ) (m n : ℕ) → 2 ≤ m → m < n → f m ≡ None → ((i : ℕ) → (i ≡ m → ⊥) → g i ≡ f i)
    → own_below g n + bit (is_some (g m)) ≡ own_below f n
given-at f g m zero two lt none same = absurd (omega arith)
given-at f g m (suc n) two lt none same = elim (cases_eq m n) [
  | inl e ↦
      let below = given-below f g m m (omega arith) same in
      let gm : bit (is_own g m) ≡ bit (is_none (g m)) = ap (λ (b : Bool). bit (b && is_none (g m))) (lt-ltb 1 m (omega arith)) in
      let fm : bit (is_own f m) ≡ 1 = ap bit (own-none f m two none) in
      subst (λ (i : ℕ). (own_below g i + bit (is_own g i)) + bit (is_some (g m)) ≡ own_below f i + bit (is_own f i)) e
      (omega (arith, below, gm, fm, none-or-some (g m)))
  | inr ne ↦
      let rest = given-at f g m n two (omega arith) none same in
      let one : bit (is_own g n) ≡ bit (is_own f n) = ap (λ (o : Option ℕ). bit (ltb 1 n && is_none o)) (same n (λ e. ne (sym e))) in
      omega (arith, rest, one)
]

-- ---- the literals of a state's bits

-- no literal stands among those before it
abbrev pub Distinct : List ℤ → Type 0
Distinct ls = (k : ℕ) → k < length ls → list_any (λ l. int_eq l (get_or ls k (pos 0))) (take k ls) ≡ false

given-absent : (found : Option ℕ) (ls : List ℤ) (gs : List (Option ℕ)) (n : ℕ) → list_any (λ l. int_eq l (pos n)) ls ≡ false → given_for found ls gs n ≡ found
given-absent found [] gs n h = refl
given-absent found (l ∷ ls) [] n h = refl
given-absent found (l ∷ ls) (g ∷ gs) n h =
    let parts = or_parts (int_eq l (pos n)) (list_any (λ x. int_eq x (pos n)) ls) h in
    ap (λ (b : Bool). given_for (cond b g found) ls gs n) parts.0 ∙ given-absent found ls gs n parts.1

some-more : (gs : List (Option ℕ)) (k : ℕ) → k < length gs
    → count_by (λ (o : Option ℕ). is_some o) (take (suc k) gs) ≡ count_by (λ (o : Option ℕ). is_some o) (take k gs) + bit (is_some (get_or gs k None))
some-more gs k lt =
    ap (count_by (λ (o : Option ℕ). is_some o)) (take-suc gs k None lt)
    ∙ sum_by_push (λ (o : Option ℕ). bit (is_some o)) (take k gs) (get_or gs k None)

own-taken : (m inputs : ℕ) (ls : List ℤ) (gs : List (Option ℕ)) → length gs ≡ length ls → All (IsBegin inputs) ls → 1 + inputs ≤ m → Distinct ls
    → (k : ℕ) → k ≤ length ls
    → own_below (given_for None (take k ls) (take k gs)) (1 + m) + count_by (λ (o : Option ℕ). is_some o) (take k gs) ≤ m - 1
own-taken m inputs ls gs long all room apart zero le =
    let most = own-most (given_for None (take 0 ls) (take 0 gs)) (1 + m) in
    let none : count_by (λ (o : Option ℕ). is_some o) (take 0 gs) ≡ 0 = refl in
    omega (arith, most, none)
own-taken m inputs ls gs long all room apart (suc k) le =
    let l = get_or ls k (pos 0) in
    let is = all k (pos 0) (omega arith) in
    let n = unsigned_abs l in
    let f : ℕ → Option ℕ = given_for None (take k ls) (take k gs) in
    let g : ℕ → Option ℕ = given_for None (take (suc k) ls) (take (suc k) gs) in
    let more : (i : ℕ) → g i ≡ cond (int_eq l (pos i)) (get_or gs k None) (f i) = λ i. given-more None ls gs k i (pos 0) None (omega arith) (omega (arith, long)) in
    let none : f n ≡ None = given-absent None (take k ls) (take k gs) n (subst (λ (z : ℤ). list_any (λ x. int_eq x z) (take k ls) ≡ false) is.positive (apart k (omega arith))) in
    let same : (i : ℕ) → (i ≡ n → ⊥) → g i ≡ f i = λ i ne. more i ∙ ap (λ (b : Bool). cond b (get_or gs k None) (f i))
    (false_from_ne_true (int_eq l (pos i)) (λ e. ne (sym (ap unsigned_abs (int_eq-true l (pos i) e))))) in
    let it : int_eq l (pos n) ≡ true = subst (λ (z : ℤ). int_eq l z ≡ true) is.positive (int_eq_equiv.refl l) in
    let at : g n ≡ get_or gs k None = more n ∙ ap (λ (b : Bool). cond b (get_or gs k None) (f n)) it in
    let step = given-at f g n (1 + m) is.from_two (omega (arith, is.to_last)) none same in
    let here : bit (is_some (g n)) ≡ bit (is_some (get_or gs k None)) = ap (λ (o : Option ℕ). bit (is_some o)) at in
    let rest = own-taken m inputs ls gs long all room apart k (omega arith) in
    omega (arith, step, here, some-more gs k (omega (arith, long)), rest)

-- what nodes and literals leave
pub own-few : (m inputs : ℕ) (ls : List ℤ) (gs : List (Option ℕ)) → length gs ≡ length ls → All (IsBegin inputs) ls → 1 + inputs ≤ m → Distinct ls
    → own_below (given_for None ls gs) (1 + m) + count_by (λ (o : Option ℕ). is_some o) gs ≤ m - 1
own-few m inputs ls gs long all room apart =
    subst (λ (os : List (Option ℕ)). own_below (given_for None ls os) (1 + m) + count_by (λ (o : Option ℕ). is_some o) os ≤ m - 1)
    (take_all (length ls) gs (omega (arith, long)))
    (subst (λ (zs : List ℤ). own_below (given_for None zs (take (length ls) gs)) (1 + m) + count_by (λ (o : Option ℕ). is_some o) (take (length ls) gs) ≤ m - 1)
    (take_all (length ls) ls (omega arith)) (own-taken m inputs ls gs long all room apart (length ls) (omega arith)))

some-map : {A : Type 0} (f : A → Option ℕ) (xs : List A) → count_by (λ (o : Option ℕ). is_some o) (map f xs) ≡ count_by (λ (x : A). is_some (f x)) xs
some-map f [] = refl
some-map f (x ∷ xs) =
    sum_by-cons (λ (o : Option ℕ). bit (is_some o)) (f x) (map f xs)
    ∙ (ap (λ (k : ℕ). bit (is_some (f x)) + k) (some-map f xs) ∙ sym (sum_by-cons (λ x. bit (is_some (f x))) x xs))

some-all : (lits : List ℕ) → count_by (λ (o : Option ℕ). is_some o) (map (λ (lit : ℕ). Some lit) lits) ≡ length lits
some-all [] = refl
some-all (l ∷ lits) = let rest = some-all lits in sum_by-cons (λ (o : Option ℕ). bit (is_some o)) (Some l) (map (λ (lit : ℕ). Some lit) lits) ∙ omega (arith, rest)

pub length-next_of : {A : Type 0} (start : List Start) (xs ys : List A) → length xs ≡ length start → length ys ≡ length start → length (next_of start xs ys) ≡ length start
length-next_of [] xs ys p q = refl
length-next_of (s ∷ start) [] ys p q = absurd (omega (arith, p))
length-next_of (s ∷ start) (x ∷ xs) [] p q = absurd (omega (arith, q))
length-next_of (s ∷ start) (x ∷ xs) (y ∷ ys) p q = let rest = length-next_of start xs ys (omega (arith, p)) (omega (arith, q)) in omega (arith, rest)

-- ---- frame by frame

-- the first variable behind a frame
pub next-few : (c : Circuit) (start : List Start) (q : Query) (inputs : ℕ) → length start ≡ length c.state_in → length c.state_out ≡ length c.state_in
    → All (IsBegin inputs) c.state_in → 1 + inputs ≤ length c.nodes → Distinct c.state_in → (j : ℕ)
    → (frame_at c start q j).next
    ≤ 1 + ((length c.nodes - count_by (λ s. is_some (first_of q s)) start) + j * (length c.nodes - (1 + length c.state_in)))
next-few c start q inputs starts ends all room apart zero =
    let gs = map (first_of q) start in
    let few = own-few (length c.nodes) inputs c.state_in gs (length-map start (first_of q) ∙ starts) all room apart in
    let none : 0 * (length c.nodes - (1 + length c.state_in)) ≡ 0 = omega arith in
    omega (arith, few, some-map (first_of q) start, none, room)
next-few c start q inputs starts ends all room apart (suc j) =
    let f = table c start q j in
    let lits = next_literals c start f in
    let gs = map (λ (lit : ℕ). Some lit) lits in
    let long : length lits ≡ length start =
    length-next_of start (map (literal_in f) c.state_in) (map (literal_in f) c.state_out)
    (length-map c.state_in (literal_in f) ∙ sym starts) (length-map c.state_out (literal_in f) ∙ (ends ∙ sym starts)) in
    let few = own-few (length c.nodes) inputs c.state_in gs (length-map lits (λ (lit : ℕ). Some lit) ∙ (long ∙ starts)) all room apart in
    let before = next-few c start q inputs starts ends all room apart j in
    omega (arith, few, some-all lits, long, starts, before, suc-mul j (length c.nodes - (1 + length c.state_in)), room)

-- ---- the literals of a circuit's inputs, in any order

-- how often a literal stands
abbrev times : ℤ → List ℤ → ℕ
times l ls = count_by (λ x. int_eq x l) ls

times-none : (l : ℤ) (from n : ℕ) → unsigned_abs l < 2 + from → times l (input_literals from n) ≡ 0
times-none l from zero low = refl
times-none l from (suc n) low =
    let rest = times-none l (from + 1) n (omega arith) in
    let apart : int_eq (pos (2 + from)) l ≡ false =
    false_from_ne_true (int_eq (pos (2 + from)) l) (λ e. omega (arith, ap unsigned_abs (int_eq-true (pos (2 + from)) l e))) in
    let whole : times l (input_literals from (suc n)) ≡ bit (int_eq (pos (2 + from)) l) + times l (input_literals (from + 1) n) =
    sum_by-cons (λ x. bit (int_eq x l)) (pos (2 + from)) (input_literals (from + 1) n) in
    let here : bit (int_eq (pos (2 + from)) l) ≡ 0 = ap bit apart in
    omega (arith, whole, here, rest)

times-one : (l : ℤ) (from n : ℕ) → times l (input_literals from n) ≤ 1
times-one l from zero = lit≤ tt
times-one l from (suc n) = by (int_eq (pos (2 + from)) l) refl (times-one l (from + 1) n)
  where
    whole : times l (input_literals from (suc n)) ≡ bit (int_eq (pos (2 + from)) l) + times l (input_literals (from + 1) n)
    whole = sum_by-cons (λ x. bit (int_eq x l)) (pos (2 + from)) (input_literals (from + 1) n)

    by : (b : Bool) → int_eq (pos (2 + from)) l ≡ b → times l (input_literals (from + 1) n) ≤ 1 → times l (input_literals from (suc n)) ≤ 1
    by true e rest =
        let low = ap unsigned_abs (int_eq-true (pos (2 + from)) l e) in
        let none = times-none l (from + 1) n (omega (arith, low)) in
        let here : bit (int_eq (pos (2 + from)) l) ≡ 1 = ap bit e in
        omega (arith, whole, none, here)
    by false e rest = let here : bit (int_eq (pos (2 + from)) l) ≡ 0 = ap bit e in omega (arith, whole, rest, here)

any-times : (l : ℤ) (ls : List ℤ) → list_any (λ x. int_eq x l) ls ≡ true → 1 ≤ times l ls
any-times l [] h = absurd (cc)
any-times l (x ∷ ls) h = by (int_eq x l) refl h (any-times l ls)
  where
    whole : times l (x ∷ ls) ≡ bit (int_eq x l) + times l ls
    whole = sum_by-cons (λ y. bit (int_eq y l)) x ls

    by : (b : Bool) → int_eq x l ≡ b → (b || list_any (λ y. int_eq y l) ls) ≡ true → (list_any (λ y. int_eq y l) ls ≡ true → 1 ≤ times l ls) → 1 ≤ times l (x ∷ ls)
    by true e h rest = let here : bit (int_eq x l) ≡ 1 = ap bit e in omega (arith, whole, here)
    by false e h rest = omega (arith, whole, rest h)

-- each stands once
pub distinct : (n : ℕ) (ls others : List ℤ) → IsPermutation (input_literals 0 n) (ls ++ others) → Distinct ls
distinct n ls others shuffled k lt = false_from_ne_true (list_any (λ x. int_eq x l) (take k ls)) (λ found.
    let some = any-times l (take k ls) found in
    let here : bit (int_eq l l) ≡ 1 = ap bit (int_eq_equiv.refl l) in
    omega (arith, some, here, more, part, both, all, once))
  where
    l : ℤ
    l = get_or ls k (pos 0)

    more : times l (take (suc k) ls) ≡ times l (take k ls) + bit (int_eq l l)
    more = ap (times l) (take-suc ls k (pos 0) lt) ∙ sum_by_push (λ x. bit (int_eq x l)) (take k ls) l

    part : times l (take (suc k) ls) ≤ times l ls
    part = let split = sum_by-take-drop (λ x. bit (int_eq x l)) ls (suc k) in omega (arith, split)

    both : times l (ls ++ others) ≡ times l ls + times l others
    both = sum_by-append (λ x. bit (int_eq x l)) ls others

    all : times l (ls ++ others) ≡ times l (input_literals 0 n)
    all = sum_by-IsPermutation (λ x. bit (int_eq x l)) (input_literals 0 n) (ls ++ others) shuffled

    once : times l (input_literals 0 n) ≤ 1
    once = times-one l 0 n
