-- The automaton with copies has as many edges as are counted: at each location of a block that is well made stand its edges, or one call
-- edge, or none where a scan ends. So what is drawn at the locations one by one adds up to what the lists of edges and call edges have.
use Rattle.std.proofs.Common.{◌≡◌, ℕ, zero, suc, ◌+◌, ◌<◌, ◌≤◌, ◌⊎◌, inl, inr, List, [], ◌∷◌, ◌++◌, map, length, Bool, true, false, ◌&&◌, ◌||◌, ◌==◌, nat_lt, cond, Option, Some, None, refl, sym, ap, ◌∙◌, arith}
use Rattle.std.specs.List.{list_any, list_all}
use Rattle.std.proofs.lemmas.Bool.{true≢false, false≢true, ltb-true, eqb-true, eq-eqb, ne_eqb, and_parts, or_left}
use Rattle.std.proofs.lemmas.Option.{same_Some, none-some}
use Rattle.pv_flow.specs.Automata.{Edge, CallEdge, TrapEnd, OverEnd, Parts, edges_from, calls_from}
use Rattle.pv_flow.specs.WellMade.{is_end}
use Rattle.pv_flow.specs.Runs.{End, done, trap, over, trap_at, over_at, or_else, end_at}
use Rattle.pv_flow.specs.Calls.{Numbered, numbered, call_from}
use Rattle.pv_call_copies.specs.Inlined.{size_by_calls}

-- ---- sums over locations

abbrev pub summed : (ℕ → ℕ) → ℕ → ℕ
summed f zero = 0
summed f (suc n) = summed f n + f n

pub summed_alike : (f g : ℕ → ℕ) (n : ℕ) → ((l : ℕ) → l < n → f l ≡ g l) → summed f n ≡ summed g n
summed_alike f g zero same = refl
summed_alike f g (suc n) same =
    both (summed_alike f g n (λ l lt. same l (omega (arith, lt)))) (same n (omega arith))
  where
    both : {a b c d : ℕ} → a ≡ b → c ≡ d → a + c ≡ b + d
    both {a} {b} {c} {d} e h = omega (arith, e, h)

pub summed_plus : (f g : ℕ → ℕ) (n : ℕ) → summed (λ l. f l + g l) n ≡ summed f n + summed g n
summed_plus f g zero = refl
summed_plus f g (suc n) = by (summed (λ l. f l + g l) n) (summed f n) (summed g n) (f n) (g n) (summed_plus f g n)
  where
    by : (a b c d e : ℕ) → a ≡ b + c → a + (d + e) ≡ (b + d) + (c + e)
    by a b c d e h = omega (arith, h)

summed_none : (a v n : ℕ) → n ≤ a → summed (λ l. cond (a == l) v 0) n ≡ 0
summed_none a v zero le = refl
summed_none a v (suc n) le =
    ap (λ (m : ℕ). m + cond (a == n) v 0) (summed_none a v n (omega (arith, le)))
    ∙ ap (λ (b : Bool). 0 + cond b v 0) (ne_eqb a n (λ e. absurd (omega (arith, e, le))))

-- of what stands at one location alone
pub summed_one : (a v n : ℕ) → a < n → summed (λ l. cond (a == l) v 0) n ≡ v
summed_one a v zero lt = absurd (omega (arith, lt))
summed_one a v (suc n) lt = by (a == n) refl (λ below. summed_one a v n below)
  where
    last : summed (λ l. cond (a == l) v 0) n ≡ 0 → summed (λ l. cond (a == l) v 0) n + v ≡ v
    last e = omega (arith, e)

    earlier : summed (λ l. cond (a == l) v 0) n ≡ v → summed (λ l. cond (a == l) v 0) n + 0 ≡ v
    earlier e = omega (arith, e)

    not_last : (a == n) ≡ false → a < n
    not_last off = less (λ same. absurd (true≢false (sym (eq-eqb a n same) ∙ off)))
      where
        less : (a ≡ n → ⊥) → a < n
        less away = omega (arith, lt, away)

    by : (b : Bool) → (a == n) ≡ b → (a < n → summed (λ l. cond (a == l) v 0) n ≡ v)
        → summed (λ l. cond (a == l) v 0) n + cond (a == n) v 0 ≡ v
    by true on go = ap (λ (b : Bool). summed (λ l. cond (a == l) v 0) n + cond b v 0) on
        ∙ last (summed_none a v n (let e : a ≡ n = eqb-true a n on in omega (arith, e)))
    by false off go = ap (λ (b : Bool). summed (λ l. cond (a == l) v 0) n + cond b v 0) off ∙ earlier (go (not_last off))

-- ---- edges and call edges by their locations

edges_split : (edge : Edge) (more : List Edge) (l : ℕ)
    → length (edges_from l (edge ∷ more)) ≡ cond (edge.from == l) 1 0 + length (edges_from l more)
edges_split edge more l = by (edge.from == l)
  where
    by : (b : Bool) → length (cond b (edge ∷ edges_from l more) (edges_from l more)) ≡ cond b 1 0 + length (edges_from l more)
    by true = omega arith
    by false = omega arith

pub summed_edges : (n : ℕ) (edges : List Edge) → list_all (λ (edge : Edge). nat_lt edge.from n && nat_lt edge.to n) edges ≡ true
    → summed (λ l. length (edges_from l edges)) n ≡ length edges
summed_edges n [] below = zeros n
  where
    zeros : (n : ℕ) → summed (λ l. 0) n ≡ 0
    zeros zero = refl
    zeros (suc n) = ap (λ (m : ℕ). m + 0) (zeros n)
summed_edges n (edge ∷ more) below =
    summed_alike (λ l. length (edges_from l (edge ∷ more))) (λ l. cond (edge.from == l) 1 0 + length (edges_from l more)) n
    (λ l lt. edges_split edge more l)
    ∙ (summed_plus (λ l. cond (edge.from == l) 1 0) (λ l. length (edges_from l more)) n
    ∙ both (summed_one edge.from 1 n (ltb-true edge.from n (and_parts (nat_lt edge.from n) (nat_lt edge.to n) parts.0).0))
    (summed_edges n more parts.1))
  where
    parts : ((nat_lt edge.from n && nat_lt edge.to n) ≡ true)
        × (list_all (λ (other : Edge). nat_lt other.from n && nat_lt other.to n) more ≡ true)
    parts = and_parts (nat_lt edge.from n && nat_lt edge.to n) (list_all (λ (other : Edge). nat_lt other.from n && nat_lt other.to n) more) below

    both : {a b : ℕ} → a ≡ 1 → b ≡ length more → a + b ≡ suc (length more)
    both {a} {b} e h = omega (arith, e, h)

calls_split : (sizes : ℕ → ℕ) (call : CallEdge) (more : List CallEdge) (l : ℕ)
    → size_by_calls sizes (calls_from l (call ∷ more)) ≡ cond (call.from == l) (2 + sizes call.block) 0 + size_by_calls sizes (calls_from l more)
calls_split sizes call more l = by (call.from == l)
  where
    by : (b : Bool) → size_by_calls sizes (cond b (call ∷ calls_from l more) (calls_from l more))
        ≡ cond b (2 + sizes call.block) 0 + size_by_calls sizes (calls_from l more)
    by true = refl
    by false = omega arith

pub summed_calls : (sizes : ℕ → ℕ) (n : ℕ) (calls : List CallEdge)
    → list_all (λ (call : CallEdge). nat_lt call.from n && nat_lt call.to n) calls ≡ true
    → summed (λ l. size_by_calls sizes (calls_from l calls)) n ≡ size_by_calls sizes calls
summed_calls sizes n [] below = zeros n
  where
    zeros : (n : ℕ) → summed (λ l. 0) n ≡ 0
    zeros zero = refl
    zeros (suc n) = ap (λ (m : ℕ). m + 0) (zeros n)
summed_calls sizes n (call ∷ more) below =
    summed_alike (λ l. size_by_calls sizes (calls_from l (call ∷ more)))
    (λ l. cond (call.from == l) (2 + sizes call.block) 0 + size_by_calls sizes (calls_from l more)) n (λ l lt. calls_split sizes call more l)
    ∙ (summed_plus (λ l. cond (call.from == l) (2 + sizes call.block) 0) (λ l. size_by_calls sizes (calls_from l more)) n
    ∙ both (summed_one call.from (2 + sizes call.block) n (ltb-true call.from n (and_parts (nat_lt call.from n) (nat_lt call.to n) parts.0).0))
    (summed_calls sizes n more parts.1))
  where
    parts : ((nat_lt call.from n && nat_lt call.to n) ≡ true)
        × (list_all (λ (other : CallEdge). nat_lt other.from n && nat_lt other.to n) more ≡ true)
    parts = and_parts (nat_lt call.from n && nat_lt call.to n) (list_all (λ (other : CallEdge). nat_lt other.from n && nat_lt other.to n) more) below

    both : {a b c d : ℕ} → a ≡ c → b ≡ d → a + b ≡ c + d
    both {a} {b} {c} {d} e h = omega (arith, e, h)

-- ---- what stands at a location

-- the first of the call edges from a location, by the number with which they begin
pub first_call : (l j : ℕ) (calls : List CallEdge) (c : Numbered) → call_from l j calls ≡ Some c
    → (rest : List CallEdge) × (calls_from l calls ≡ c.call ∷ rest)
first_call l j [] c e = absurd (none-some c e)
first_call l j (call ∷ more) c e = by (call.from == l) e (λ h. first_call l (suc j) more c h)
  where
    by : (b : Bool) → cond b (Some (numbered j call)) (call_from l (suc j) more) ≡ Some c
        → (call_from l (suc j) more ≡ Some c → (rest : List CallEdge) × (calls_from l more ≡ c.call ∷ rest))
        → (rest : List CallEdge) × (cond b (call ∷ calls_from l more) (calls_from l more) ≡ c.call ∷ rest)
    by true h go = (calls_from l more, ap (λ (d : Numbered). d.call ∷ calls_from l more) (same_Some (numbered j call) c h))
    by false h go = go h

pub no_calls : (l j : ℕ) (calls : List CallEdge) → call_from l j calls ≡ None → calls_from l calls ≡ []
no_calls l j [] e = refl
no_calls l j (call ∷ more) e = by (call.from == l) e (λ h. no_calls l (suc j) more h)
  where
    by : (b : Bool) → cond b (Some (numbered j call)) (call_from l (suc j) more) ≡ None
        → (call_from l (suc j) more ≡ None → calls_from l more ≡ []) → cond b (call ∷ calls_from l more) (calls_from l more) ≡ []
    by true h go = absurd (none-some (numbered j call) (sym h))
    by false h go = go h

trap_is_named : (l : ℕ) (traps : List TrapEnd) (end : End) → trap_at l traps ≡ Some end
    → list_any (λ m. m == l) (map (λ (t : TrapEnd). t.location) traps) ≡ true
trap_is_named l [] end e = absurd (none-some end e)
trap_is_named l (t ∷ more) end e = by (t.location == l) e (λ h. trap_is_named l more end h)
  where
    by : (b : Bool) → cond b (Some (trap t.kind t.place)) (trap_at l more) ≡ Some end
        → (trap_at l more ≡ Some end → list_any (λ m. m == l) (map (λ (t : TrapEnd). t.location) more) ≡ true)
        → (b || list_any (λ m. m == l) (map (λ (t : TrapEnd). t.location) more)) ≡ true
    by true h go = or_left true (list_any (λ m. m == l) (map (λ (t : TrapEnd). t.location) more)) refl
    by false h go = go h

over_is_named : (l : ℕ) (overs : List OverEnd) (end : End) → over_at l overs ≡ Some end
    → list_any (λ m. m == l) (map (λ (t : OverEnd). t.location) overs) ≡ true
over_is_named l [] end e = absurd (none-some end e)
over_is_named l (t ∷ more) end e = by (t.location == l) e (λ h. over_is_named l more end h)
  where
    by : (b : Bool) → cond b (Some (over t.place)) (over_at l more) ≡ Some end
        → (over_at l more ≡ Some end → list_any (λ m. m == l) (map (λ (t : OverEnd). t.location) more) ≡ true)
        → (b || list_any (λ m. m == l) (map (λ (t : OverEnd). t.location) more)) ≡ true
    by true h go = or_left true (list_any (λ m. m == l) (map (λ (t : OverEnd). t.location) more)) refl
    by false h go = go h

any_of_both : (f : ℕ → Bool) (xs ys : List ℕ) → (list_any f xs ≡ true) ⊎ (list_any f ys ≡ true) → list_any f (xs ++ ys) ≡ true
any_of_both f [] ys (inl h) = absurd (false≢true h)
any_of_both f [] ys (inr h) = h
any_of_both f (x ∷ xs) ys h = by (f x) h (λ g. any_of_both f xs ys g)
  where
    by : (b : Bool) → ((b || list_any f xs) ≡ true) ⊎ (list_any f ys ≡ true)
        → ((list_any f xs ≡ true) ⊎ (list_any f ys ≡ true) → list_any f (xs ++ ys) ≡ true) → (b || list_any f (xs ++ ys)) ≡ true
    by true g go = or_left true (list_any f (xs ++ ys)) refl
    by false g go = go g

-- what ends something is an end
pub ends_are_ends : (p : Parts) (l : ℕ) (end : End) → end_at p l ≡ Some end → is_end p l ≡ true
ends_are_ends p l end e = by (p.done == l) e
  where
    others : Bool
    others = list_any (λ m. m == l) (map (λ (t : TrapEnd). t.location) p.traps ++ map (λ (t : OverEnd). t.location) p.overs)

    named : (o : Option End) → trap_at l p.traps ≡ o → or_else o (over_at l p.overs) ≡ Some end → others ≡ true
    named None none h = any_of_both (λ m. m == l) (map (λ (t : TrapEnd). t.location) p.traps) (map (λ (t : OverEnd). t.location) p.overs)
        (inr (over_is_named l p.overs end h))
    named (Some first) some h = any_of_both (λ m. m == l) (map (λ (t : TrapEnd). t.location) p.traps) (map (λ (t : OverEnd). t.location) p.overs)
        (inl (trap_is_named l p.traps first some))

    by : (b : Bool) → cond b (Some done) (or_else (trap_at l p.traps) (over_at l p.overs)) ≡ Some end → (b || others) ≡ true
    by true h = or_left true others refl
    by false h = named (trap_at l p.traps) refl h
