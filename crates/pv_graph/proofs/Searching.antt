-- A search from nodes: what it has seen leads from them, and once nothing is left to be left it has seen all that does.
use Rattle.std.proofs.Common.{◌≡◌, ℕ, suc, zero, ◌+◌, ◌<◌, ◌≤◌, List, [], ◌∷◌, ◌++◌, Bool, true, false, length, refl, ap, sym, subst, ◌∙◌, arith, inl, inr, get_or, replicate}
use Rattle.std.specs.Prelude.{◌⊎◌, ◌↔◌, slice_index_or, nat_le, nat_lt, Result, IfOk}
use Rattle.std.specs.List.{list_all}
use Rattle.std.proofs.lemmas.Bool.{and_parts, true≢false, leb-true, ltb-true}
use Rattle.pv_graph.specs.declared.targets.Targets.{Targets}
use Rattle.pv_graph.specs.Members.{HasSome, Has}
use Rattle.pv_graph.specs.Graphs.{lists_of, next_of, Leads, here, by, LeadFrom}
use Rattle.pv_graph.specs.Searches.{Marks, all_marked}
use Rattle.pv_graph.proofs.Members.{has_front, has_behind, has_either}
use Rattle.pv_graph.proofs.Marking.{IsSeen, unseen, grown_all}

pub record IsSearch (g : List (List ℕ)) (starts : List ℕ) (m : Marks) : Type 0 where
  pub length_is : length m.seen ≡ length g
  pub sound : (a : ℕ) → IsSeen m.seen a → LeadFrom g starts a
  pub begun : (a : ℕ) → Has starts a → a < length g → IsSeen m.seen a
  pub closed : (a b : ℕ) → IsSeen m.seen a → Has (next_of g a) b → b < length g → Has m.work a ⊎ IsSeen m.seen b
  pub queued : (a : ℕ) → Has m.work a → IsSeen m.seen a

pub none_seen : (n a : ℕ) → IsSeen (replicate n false) a → ⊥
none_seen zero a s = true≢false (sym s)
none_seen (suc n) zero s = true≢false (sym s)
none_seen (suc n) (suc a) s = none_seen n a s

pub length_same : (n : ℕ) → length (replicate n false) ≡ n
length_same zero = refl
length_same (suc n) = ap suc (length_same n)

pub has_where : {X : Type 0} {P Q : X → Type 0} (xs : List X) → ((x : X) → P x → Q x) → HasSome P xs → HasSome Q xs
has_where [] f h = absurd h
has_where (x ∷ xs) f (inl p) = inl (f x p)
has_where (x ∷ xs) f (inr h) = inr (has_where xs f h)

-- the one that has it
pub some_of : {X : Type 0} (P : X → Type 0) (xs : List X) → HasSome P xs → (x : X) × Has xs x × P x
some_of P [] h = absurd h
some_of P (x ∷ xs) (inl p) = (x, inl refl, p)
some_of P (x ∷ xs) (inr h) = let rest = some_of P xs h in (rest.0, inr rest.1, rest.2)

pub of_some : {X : Type 0} (P : X → Type 0) (xs : List X) (x : X) → Has xs x → P x → HasSome P xs
of_some P [] x h p = absurd h
of_some P (y ∷ ys) x (inl same) p = inl (subst P (sym same) p)
of_some P (y ∷ ys) x (inr h) p = inr (of_some P ys x h p)

pub begun_search : (g : List (List ℕ)) (starts : List ℕ) (n : ℕ) → n ≡ length g
    → IsSearch g starts (all_marked (record { seen = replicate n false; work = [] }) starts)
begun_search g starts n is =
    let all = grown_all (record { seen = replicate n false; work = [] }) starts in record {
      length_is = all.length_kept ∙ (length_same n ∙ is);
      sound = λ a s. elim (all.only a s) [
        | inl was ↦ absurd (none_seen n a was)
        | inr h ↦ has_where starts (λ y same. subst (λ z. Leads g y z) same here) h
      ];
      begun = λ a h lt. all.reached a h (subst (λ k. a < k) (sym (length_same n ∙ is)) lt);
      closed = λ a b s h lt. elim (all.newly a s) [ inl was ↦ absurd (none_seen n a was) | inr w ↦ inl w ];
      queued = λ a h. elim (all.work_only a h) [ inl never ↦ absurd never | inr s ↦ s ];
    }

pub leads_then : (g : List (List ℕ)) (a b c : ℕ) → Leads g a b → Leads g b c → Leads g a c
leads_then g a b c here l = l
leads_then g a b c (by h k) l = by h (leads_then g _ b c k l)

pub stepped : (g : List (List ℕ)) (starts : List ℕ) (m : Marks) (rest : List ℕ) (a : ℕ) → IsSearch g starts m → m.work ≡ rest ++ a ∷ []
    → IsSearch g starts (all_marked (record { seen = m.seen; work = rest }) (next_of g a))
stepped g starts m rest a search is =
    let all = grown_all (record { seen = m.seen; work = rest }) (next_of g a) in record {
      length_is = all.length_kept ∙ search.length_is;
      sound = λ x s. elim (all.only x s) [
        | inl was ↦ search.sound x was
        | inr h ↦ has_where starts (λ y l. leads_then g y a x l (by h here)) (search.sound a taken)
      ];
      begun = λ x h lt. all.seen_kept x (search.begun x h lt);
      closed = λ x y s h lt. elim (all.newly x s) [
        | inl was ↦ elim (search.closed x y was h lt) [
          | inl w ↦ elim (has_either (λ z. z ≡ x) rest (a ∷ []) (subst (λ l. Has l x) is w)) [
            | inl front ↦ inl (all.work_kept x front)
            | inr last ↦ elim last [
              | inl same ↦ inr (all.reached y (subst (λ z. Has (next_of g z) y) (sym same) h) (subst (λ k. y < k) (sym search.length_is) lt))
              | inr never ↦ absurd never
            ]
          ]
          | inr seen ↦ inr (all.seen_kept y seen)
        ]
        | inr w ↦ inl w
      ];
      queued = λ x h. elim (all.work_only x h) [
        | inl front ↦ all.seen_kept x (search.queued x (subst (λ l. Has l x) (sym is) (has_front (λ z. z ≡ x) rest (a ∷ []) front)))
        | inr s ↦ s
      ];
    }
  where
    taken : IsSeen m.seen a
    taken = search.queued a (subst (λ l. Has l a) (sym is) (has_behind (λ z. z ≡ a) rest (a ∷ []) (inl refl)))

pub fewer_left : (m : Marks) (rest : List ℕ) (a : ℕ) (nodes : List ℕ) → m.work ≡ rest ++ a ∷ []
    → unseen (all_marked (record { seen = m.seen; work = rest }) nodes).seen + length (all_marked (record { seen = m.seen; work = rest }) nodes).work
    < unseen m.seen + length m.work
fewer_left m rest a nodes is =
    let all = grown_all (record { seen = m.seen; work = rest }) nodes in
    let same = all.measure in
    let more : length m.work ≡ length rest + 1 = ap length is ∙ behind rest in omega (arith, same, more)
  where
    behind : (xs : List ℕ) → length (xs ++ a ∷ []) ≡ length xs + 1
    behind [] = refl
    behind (x ∷ xs) = let less = behind xs in omega (arith, less)

-- what leads on is a node
pub node_below : (g : List (List ℕ)) (a b : ℕ) → Has (next_of g a) b → a < length g
node_below [] a b h = absurd h
node_below (xs ∷ g) zero b h = omega arith
node_below (xs ∷ g) (suc a) b h = let below = node_below g a b h in omega (arith, below)

along : (g : List (List ℕ)) (starts : List ℕ) (m : Marks) → IsSearch g starts m → m.work ≡ [] → (a to : ℕ) → Leads g a to → to < length g
    → (a < length g → IsSeen m.seen a) → IsSeen m.seen to
along g starts m search empty a to here lt seen = seen lt
along g starts m search empty a to (by {b = b} h l) lt seen =
    along g starts m search empty b to l lt (λ below. elim (search.closed a b (seen (node_below g a b h)) h below) [
      | inl w ↦ absurd (subst (λ l. Has l a) empty w)
      | inr s ↦ s
    ])

pub ended : (g : List (List ℕ)) (starts : List ℕ) (m : Marks) (to : ℕ) → IsSearch g starts m → m.work ≡ [] → to < length g
    → (b : Bool) → b ≡ get_or m.seen to false → (b ≡ true) ↔ LeadFrom g starts to
ended g starts m to search empty lt b is = (
  (λ so. search.sound to (sym is ∙ so)),
  (λ leads. let one = some_of (λ a. Leads g a to) starts leads in is ∙ along g starts m search empty one.0 to one.2 lt (search.begun one.0 one.1)),
)

-- ---- numbers that no step raises

pub order_kept : (g : List (List ℕ)) (order : List ℕ) → ((a b : ℕ) → Has (next_of g a) b → slice_index_or order b 0 ≤ slice_index_or order a 0)
    → (a b : ℕ) → Leads g a b → slice_index_or order b 0 ≤ slice_index_or order a 0
order_kept g order falls a b here = omega arith
order_kept g order falls a b (by {b = c} h l) =
    let one = falls a c h in let rest = order_kept g order falls c b l in omega (arith, one, rest)

pub none_back : (g : List (List ℕ)) (order : List ℕ) (to : ℕ) (starts : List ℕ) → ((a b : ℕ) → Has (next_of g a) b → slice_index_or order b 0 ≤ slice_index_or order a 0)
    → ((a : ℕ) → Has starts a → slice_index_or order a 0 < slice_index_or order to 0) → LeadFrom g starts to → ⊥
none_back g order to starts falls below leads =
    let one = some_of (λ a. Leads g a to) starts leads in
    let le = order_kept g order falls one.0 to one.2 in
    let lt = below one.0 one.1 in omega (arith, le, lt)

-- ---- as the code has it

pub nodes_counted : (ts : List Targets) → length (lists_of ts) ≡ length ts
nodes_counted [] = refl
nodes_counted (t ∷ ts) = ap suc (nodes_counted ts)

pub begun_at : (ts : List Targets) (starts : List ℕ) (s : List Bool) (w : List ℕ) (m : Marks) → s ≡ replicate (length ts) false → w ≡ []
    → m ≡ all_marked (record { seen = s; work = w }) starts → IsSearch (lists_of ts) starts m
begun_at ts starts s w m es ew em =
    subst (IsSearch (lists_of ts) starts)
    (sym (em ∙ (ap (λ x. all_marked (record { seen = x; work = w }) starts) es
    ∙ ap (λ x. all_marked (record { seen = replicate (length ts) false; work = x }) starts) ew)))
    (begun_search (lists_of ts) starts (length ts) (sym (nodes_counted ts)))

marked_so : (m p : Marks) (rest nodes more : List ℕ) → nodes ≡ more → p ≡ all_marked (record { seen = m.seen; work = rest }) nodes
    → p ≡ all_marked (record { seen = m.seen; work = rest }) more
marked_so m p rest nodes more same is = is ∙ ap (all_marked (record { seen = m.seen; work = rest })) same

pub stepped_at : (ts : List Targets) (starts : List ℕ) (m p : Marks) (rest nodes : List ℕ) (a : ℕ) → IsSearch (lists_of ts) starts m
    → m.work ≡ rest ++ a ∷ [] → nodes ≡ next_of (lists_of ts) a → p ≡ all_marked (record { seen = m.seen; work = rest }) nodes
    → IsSearch (lists_of ts) starts p
stepped_at ts starts m p rest nodes a search is same to =
    subst (IsSearch (lists_of ts) starts) (sym (marked_so m p rest nodes (next_of (lists_of ts) a) same to))
    (stepped (lists_of ts) starts m rest a search is)

pub fewer_at : (m p : Marks) (rest nodes : List ℕ) (a : ℕ) → m.work ≡ rest ++ a ∷ []
    → p ≡ all_marked (record { seen = m.seen; work = rest }) nodes
    → unseen p.seen + length p.work < unseen m.seen + length m.work
fewer_at m p rest nodes a is to =
    subst (λ q. unseen q.seen + length q.work < unseen m.seen + length m.work) (sym to) (fewer_left m rest a nodes is)

pub ended_at : (ts : List Targets) (starts : List ℕ) (m : Marks) (to : ℕ) → IsSearch (lists_of ts) starts m → m.work ≡ [] → to < length ts
    → (b : Bool) → b ≡ get_or m.seen to b → (b ≡ true) ↔ LeadFrom (lists_of ts) starts to
ended_at ts starts m to search empty lt b is =
    let below : to < length (lists_of ts) = subst (λ n. to < n) (sym (nodes_counted ts)) lt in
    ended (lists_of ts) starts m to search empty below b (is ∙ same m.seen to (subst (λ n. to < n) (sym search.length_is) below))
  where
    same : (xs : List Bool) (i : ℕ) → i < length xs → get_or xs i b ≡ get_or xs i false
    same [] i lt = absurd (omega (arith, lt))
    same (x ∷ xs) zero lt = refl
    same (x ∷ xs) (suc i) lt = same xs i (omega (arith, lt))

-- ---- tests of numbers

passing : {X : Type 0} (test : X → Bool) (xs : List X) → list_all test xs ≡ true → (x : X) → Has xs x → test x ≡ true
passing test [] all x h = absurd h
passing test (y ∷ ys) all x (inl same) = subst (λ z. test z ≡ true) same (and_parts (test y) (list_all test ys) all).0
passing test (y ∷ ys) all x (inr h) = passing test ys (and_parts (test y) (list_all test ys) all).1 x h

targets_there : (ts : List Targets) (i : ℕ) (t : Targets) → i < length ts → t ≡ get_or ts i t → next_of (lists_of ts) i ≡ t.list.items
targets_there [] i t lt is = absurd (omega (arith, lt))
targets_there (x ∷ xs) zero t lt is = ap (λ y. y.list.items) (sym is)
targets_there (x ∷ xs) (suc i) t lt is = targets_there xs i t (omega (arith, lt)) is

-- one more node whose targets have no higher numbers
pub falls_more : (ts : List Targets) (order nodes : List ℕ) (n limit : ℕ) (t : Targets) (r : Bool) → n < length ts → t ≡ get_or ts n t → nodes ≡ t.list.items
    → limit ≡ slice_index_or order n 0 → r ≡ list_all (λ b. nat_le (slice_index_or order b 0) limit) nodes → r ≡ true
    → ((a b : ℕ) → a < n → Has (next_of (lists_of ts) a) b → slice_index_or order b 0 ≤ slice_index_or order a 0)
    → (a b : ℕ) → a < n + 1 → Has (next_of (lists_of ts) a) b → slice_index_or order b 0 ≤ slice_index_or order a 0
falls_more ts order nodes n limit t r lt is at lim all so before = λ a b below h.
    elim (lt_or_eq a n (omega (arith, below))) [
      | inl less ↦ before a b less h
      | inr same ↦
          let there : Has nodes b = subst (λ l. Has l b) (targets_there ts n t lt is ∙ sym at) (subst (λ x. Has (next_of (lists_of ts) x) b) same h) in
          let le = leb-true (slice_index_or order b 0) limit (passing (λ x. nat_le (slice_index_or order x 0) limit) nodes (sym all ∙ so) b there) in
          let its = ap (λ x. slice_index_or order x 0) same in omega (arith, le, lim, its)
    ]
  where
    lt_or_eq : (a n : ℕ) → a ≤ n → (a < n) ⊎ (a ≡ n)
    lt_or_eq a zero le = inr (omega (arith, le))
    lt_or_eq zero (suc n) le = inl (omega arith)
    lt_or_eq (suc a) (suc n) le = elim (lt_or_eq a n (omega (arith, le))) [ inl less ↦ inl (omega (arith, less)) | inr same ↦ inr (ap suc same) ]

-- a step from the one node of a list
pub one_leads : (g : List (List ℕ)) (a to : ℕ) (b : Bool) → (b ≡ true) ↔ LeadFrom g (a ∷ []) to → (b ≡ true) ↔ Leads g a to
one_leads g a to b both = (
  (λ so. elim (both.0 so) [ inl l ↦ l | inr never ↦ absurd never ]),
  (λ l. both.1 (inl l)),
)

pub none_lead : (g : List (List ℕ)) (order nodes : List ℕ) (to limit : ℕ) (r : Bool) → ((a b : ℕ) → Has (next_of g a) b → slice_index_or order b 0 ≤ slice_index_or order a 0)
    → limit ≡ slice_index_or order to 0 → r ≡ list_all (λ b. nat_lt (slice_index_or order b 0) limit) nodes → r ≡ true → LeadFrom g nodes to → ⊥
none_lead g order nodes to limit r falls lim all so =
    none_back g order to nodes falls (λ a h.
    let lt = ltb-true (slice_index_or order a 0) limit (passing (λ x. nat_lt (slice_index_or order x 0) limit) nodes (sym all ∙ so) a h) in omega (arith, lt, lim))

-- a node of a lower number leads to none of a higher
pub never_leads : (g : List (List ℕ)) (order numbers : List ℕ) (a b m n : ℕ) → ((x y : ℕ) → Has (next_of g x) y → slice_index_or order y 0 ≤ slice_index_or order x 0)
    → numbers ≡ order → m ≡ slice_index_or numbers a 0 → n ≡ slice_index_or numbers b 0 → m < n → Leads g a b → ⊥
never_leads g order numbers a b m n falls same em en lt l =
    let le = order_kept g order falls a b l in
    let at = ap (λ o. slice_index_or o a 0) same in
    let bt = ap (λ o. slice_index_or o b 0) same in omega (arith, le, at, bt, em, en, lt)

pub never_back : (g : List (List ℕ)) (order numbers nodes more : List ℕ) (to limit : ℕ) (r : Bool) → ((a b : ℕ) → Has (next_of g a) b → slice_index_or order b 0 ≤ slice_index_or order a 0)
    → numbers ≡ order → nodes ≡ more → limit ≡ slice_index_or numbers to 0 → r ≡ list_all (λ b. nat_lt (slice_index_or numbers b 0) limit) nodes → r ≡ true
    → LeadFrom g more to → ⊥
never_back g order numbers nodes more to limit r falls same at lim all so leads =
    none_lead g numbers nodes to limit r (subst (λ o. (a b : ℕ) → Has (next_of g a) b → slice_index_or o b 0 ≤ slice_index_or o a 0) (sym same) falls) lim all so
    (subst (λ l. LeadFrom g l to) (sym at) leads)

pub lead_same : {E : Type 0} (r : Result Bool E) (ts us : List Targets) (xs ys : List ℕ) (to : ℕ) → ts ≡ us → xs ≡ ys
    → IfOk r (λ b. (b ≡ true) ↔ LeadFrom (lists_of ts) xs to) → IfOk r (λ b. (b ≡ true) ↔ LeadFrom (lists_of us) ys to)
lead_same r ts us xs ys to same at found =
    subst (λ l. IfOk r (λ b. (b ≡ true) ↔ LeadFrom (lists_of us) l to)) at
    (subst (λ l. IfOk r (λ b. (b ≡ true) ↔ LeadFrom (lists_of l) xs to)) same found)
