-- Where a copy's variables lie: the list of all variables has room for what each call adds, after the caller's, and there they have their
-- types.
use Rattle.std.proofs.Common.{◌≡◌, ℕ, zero, suc, ◌+◌, ◌-◌, ◌<◌, ◌≤◌, ◌⊎◌, inl, inr, append-nil, append_assoc, List, [], ◌∷◌, ◌++◌, map, length, length-append, length-drop, take, drop, slice_get, Bool as Truth, true, false, ◌==◌, nat_lt, cond, IfSome, MatchOption, Option, Some, All, refl, sym, subst, ap, ◌∙◌, arith}
use Rattle.std.specs.List.{AllByRecursion}
use Rattle.std.proofs.Math.Seq.{take-append_seam}
use Rattle.std.proofs.lemmas.Bool.{cases_lt, cond-true, cond-false, lt-ltb, le-ltb}
use Rattle.std.proofs.lemmas.List.{length-map}
use Rattle.std.proofs.lemmas.List.Elements.{recursion_from_All}
use Rattle.std.proofs.lemmas.Option.{same_Some, none-some}
use Rattle.pv_flow.specs.Automata.{Variable, CallEdge, Parts, type_in, type_at, types_of}
use Rattle.pv_flow.specs.Calls.{Blocks, block_at, own_count, needed_by_calls, needed, Work, entry_work, Numbered, numbered, call_from, base_of, place_in, callee_work}
use Rattle.pv_flow.specs.Fitting.{IsFit, FitsIn, AreFitting}
use Rattle.pv_call_copies.specs.Inlined.{own_variable, added_by_calls, added_in, added}
use Rattle.pv_call_copies.proofs.Added.{by_calls, variables_are_needed}
use Rattle.pv_call_copies.proofs.Levels.{added_is}

-- ---- elements of lists

pub get_behind : {X : Type 0} (xs ys : List X) (n : ℕ) → slice_get (xs ++ ys) (length xs + n) ≡ slice_get ys n
get_behind [] ys n = ap (λ (m : ℕ). slice_get ys m) (none n)
  where
    none : (n : ℕ) → 0 + n ≡ n
    none n = omega arith
get_behind (x ∷ xs) ys n = ap (λ (m : ℕ). slice_get (x ∷ (xs ++ ys)) m) (one (length xs) n) ∙ get_behind xs ys n
  where
    one : (k n : ℕ) → suc k + n ≡ suc (k + n)
    one k n = omega arith

pub get_ahead : {X : Type 0} (xs ys : List X) (n : ℕ) → n < length xs → slice_get (xs ++ ys) n ≡ slice_get xs n
get_ahead [] ys n lt = absurd (omega (arith, lt))
get_ahead (x ∷ xs) ys zero lt = refl
get_ahead (x ∷ xs) ys (suc n) lt = get_ahead xs ys n (omega (arith, lt))

get_dropped : (k : ℕ) (xs : List Variable) (n : ℕ) → slice_get (drop k xs) n ≡ slice_get xs (k + n)
get_dropped zero xs n = ap (λ (m : ℕ). slice_get xs m) (none n)
  where
    none : (n : ℕ) → n ≡ 0 + n
    none n = omega arith
get_dropped (suc k) [] n = refl
get_dropped (suc k) (x ∷ xs) n = get_dropped k xs n ∙ ap (λ (m : ℕ). slice_get (x ∷ xs) m) (one k n)
  where
    one : (k n : ℕ) → suc (k + n) ≡ suc k + n
    one k n = omega arith

-- a block's own variable keeps its type
own_type : (vars : List Variable) (n : ℕ) → type_at (map own_variable vars) n ≡ type_at vars n
own_type [] n = refl
own_type (v ∷ vars) zero = refl
own_type (v ∷ vars) (suc n) = own_type vars n

-- ---- call edges

-- the call edge at a location stands after as many others as its number says
pub record IsCut (j : ℕ) (calls : List CallEdge) (c : Numbered) : Type 0 where
  pub first : List CallEdge
  pub rest : List CallEdge
  pub is : calls ≡ first ++ (c.call ∷ rest)
  pub number : c.number ≡ j + length first

cut_there : (l j : ℕ) (calls : List CallEdge) (c : Numbered) → call_from l j calls ≡ Some c → IsCut j calls c
cut_there l j [] c e = absurd (none-some c e)
cut_there l j (call ∷ calls) c e = by (call.from == l) e (λ f. cut_there l (suc j) calls c f)
  where
    nothing : (j : ℕ) → j ≡ j + 0
    nothing j = omega arith

    shifted : (j n : ℕ) → suc j + n ≡ j + suc n
    shifted j n = omega arith

    by : (b : Truth) → cond b (Some (numbered j call)) (call_from l (suc j) calls) ≡ Some c
        → (call_from l (suc j) calls ≡ Some c → IsCut (suc j) calls c) → IsCut j (call ∷ calls) c
    by true f go = subst (λ (d : Numbered). IsCut j (call ∷ calls) d) (same_Some (numbered j call) c f)
        (record { first = []; rest = calls; is = refl; number = nothing j })
    by false f go = let h : IsCut (suc j) calls c = go f in record {
      first = call ∷ h.first;
      rest = h.rest;
      is = ap (λ (others : List CallEdge). call ∷ others) h.is;
      number = h.number ∙ shifted j (length h.first);
    }

added_append : (f : ℕ → List Variable) (xs ys : List CallEdge) → added_by_calls f (xs ++ ys) ≡ added_by_calls f xs ++ added_by_calls f ys
added_append f [] ys = refl
added_append f (x ∷ xs) ys = ap (λ (vars : List Variable). f x.block ++ vars) (added_append f xs ys)
    ∙ sym (append_assoc (f x.block) (added_by_calls f xs) (added_by_calls f ys))

-- a call edge of blocks that fit has a block that fits it
fits_there : (blocks : Blocks) (p q : Parts) (calls : List CallEdge) (l j : ℕ) (c : Numbered) → AllByRecursion (FitsIn blocks p) calls
    → call_from l j calls ≡ Some c → block_at blocks c.call.block ≡ Some q → IsFit p c.call q
fits_there blocks p q [] l j c all e at = absurd (none-some c e)
fits_there blocks p q (call ∷ calls) l j c all e at = by (call.from == l) e (λ f. fits_there blocks p q calls l (suc j) c all.1 f at)
  where
    here : (d : Numbered) → d ≡ c → FitsIn blocks p d.call → IsFit p c.call q
    here d same h = subst (λ (o : Option Parts). MatchOption o ⊥ (λ callee. IsFit p c.call callee)) at
        (subst (λ (x : Numbered). FitsIn blocks p x.call) same h)

    by : (b : Truth) → cond b (Some (numbered j call)) (call_from l (suc j) calls) ≡ Some c
        → (call_from l (suc j) calls ≡ Some c → IsFit p c.call q) → IsFit p c.call q
    by true f go = here (numbered j call) (same_Some (numbered j call) c f) all.0
    by false f go = go f

pub call_fits : (blocks : Blocks) → AreFitting blocks → (b : ℕ) (p q : Parts) (l : ℕ) (c : Numbered) → block_at blocks b ≡ Some p
    → call_from l 0 p.calls ≡ Some c → block_at blocks c.call.block ≡ Some q → IsFit p c.call q
call_fits blocks fit b p q l c at call there =
    fits_there blocks p q p.calls l 0 c (recursion_from_All (FitsIn blocks p) p.calls fits) call there
  where
    fits : All (FitsIn blocks p) p.calls
    fits = subst (λ (o : Option Parts). IfSome o (λ r. All (FitsIn blocks r) r.calls)) at (fit.calls b)

-- ---- rooms

-- variable x of the block at work has its type where it lies
pub record IsPlaced (vars : List Variable) (k : Work) (x : ℕ) : Type 0 where
  pub exists : k.place x < length vars
  pub has_type : type_at vars (k.place x) ≡ types_of k.parts x

-- what the block's calls add stands after all that was free before them
pub record HasRoom (blocks : Blocks) (vars : List Variable) (k : Work) : Type 0 where
  pub ahead : List Variable
  pub more : List Variable
  pub is : vars ≡ ahead ++ (added_by_calls (added blocks) k.parts.calls ++ more)
  pub long : length ahead ≡ k.free
  pub placed : (x : ℕ) → x < length k.parts.vars → IsPlaced vars k x

pub entry_room : (blocks : Blocks) (p : Parts) → HasRoom blocks (p.vars ++ added_by_calls (added blocks) p.calls) (entry_work p)
entry_room blocks p = record {
  ahead = p.vars;
  more = [];
  is = ap (λ (vars : List Variable). p.vars ++ vars) (sym (append-nil (added_by_calls (added blocks) p.calls)));
  long = refl;
  placed = λ x lt. record {
    exists = subst (λ (n : ℕ). x < n) (sym (length-append p.vars (added_by_calls (added blocks) p.calls))) (longer (length p.vars) x lt);
    has_type = ap (λ (o : Option Variable). type_in o) (get_ahead p.vars (added_by_calls (added blocks) p.calls) x lt);
  };
}
  where
    longer : (n x : ℕ) → x < n → x < n + length (added_by_calls (added blocks) p.calls)
    longer n x lt = omega (arith, lt)

regrouped : (front below own copy rest back : List Variable)
    → front ++ ((below ++ ((own ++ copy) ++ rest)) ++ back) ≡ (front ++ (below ++ own)) ++ (copy ++ (rest ++ back))
regrouped front below own copy rest back =
    ap (λ (xs : List Variable). front ++ xs)
    (append_assoc below ((own ++ copy) ++ rest) back
    ∙ (ap (λ (xs : List Variable). below ++ xs)
    (ap (λ (xs : List Variable). xs ++ back) (append_assoc own copy rest)
    ∙ (append_assoc own (copy ++ rest) back ∙ ap (λ (xs : List Variable). own ++ xs) (append_assoc copy rest back)))
    ∙ sym (append_assoc below own (copy ++ (rest ++ back)))))
    ∙ sym (append_assoc front (below ++ own) (copy ++ (rest ++ back)))

pub callee_room : (blocks : Blocks) → AreFitting blocks → (vars : List Variable) (k : Work) (l : ℕ) (c : Numbered) (q : Parts)
    → HasRoom blocks vars k → call_from l 0 k.parts.calls ≡ Some c → block_at blocks c.call.block ≡ Some q → IsFit k.parts c.call q
    → k.parts.bound + k.parts.shared ≤ length k.parts.vars → HasRoom blocks vars (callee_work blocks k c q)
callee_room blocks fit vars k l c q room call at fits counts = record {
  ahead = room.ahead ++ (firsts ++ own);
  more = rests ++ room.more;
  is = all;
  long = length-append room.ahead (firsts ++ own) ∙ (ap (λ (n : ℕ). length room.ahead + n) (length-append firsts own)
      ∙ sum (length room.ahead) (length firsts) (length own) base (own_count q) based own_long);
  placed = placed;
}
  where
    cut : IsCut 0 k.parts.calls c
    cut = cut_there l 0 k.parts.calls c call

    base : ℕ
    base = base_of blocks k c.number

    s : ℕ
    s = q.bound + q.shared

    firsts : List Variable
    firsts = added_by_calls (added blocks) cut.first

    own : List Variable
    own = map own_variable (drop s q.vars)

    inner : List Variable
    inner = added_by_calls (added blocks) q.calls

    rests : List Variable
    rests = added_by_calls (added blocks) cut.rest

    those : added blocks c.call.block ≡ own ++ inner
    those = added_is blocks fit c.call.block ∙ ap (λ (o : Option Parts). added_in (added blocks) o) at

    all : vars ≡ (room.ahead ++ (firsts ++ own)) ++ (inner ++ (rests ++ room.more))
    all = room.is
        ∙ (ap (λ (calls : List CallEdge). room.ahead ++ (added_by_calls (added blocks) calls ++ room.more)) cut.is
        ∙ (ap (λ (more : List Variable). room.ahead ++ (more ++ room.more)) (added_append (added blocks) cut.first (c.call ∷ cut.rest))
        ∙ (ap (λ (some : List Variable). room.ahead ++ ((firsts ++ (some ++ rests)) ++ room.more)) those
        ∙ regrouped room.ahead firsts own inner rests room.more)))

    own_long : length own ≡ own_count q
    own_long = length-map (drop s q.vars) own_variable ∙ length-drop s q.vars

    number : c.number ≡ length cut.first
    number = cut.number ∙ plain (length cut.first)
      where
        plain : (n : ℕ) → 0 + n ≡ n
        plain n = omega arith

    taken : take c.number k.parts.calls ≡ cut.first
    taken = ap (λ (n : ℕ). take n k.parts.calls) number
        ∙ (ap (λ (calls : List CallEdge). take (length cut.first) calls) cut.is ∙ take-append_seam cut.first (c.call ∷ cut.rest))

    based : length room.ahead + length firsts ≡ base
    based = both room.long
        (by_calls (added blocks) (needed blocks) (variables_are_needed blocks) cut.first
        ∙ ap (λ (calls : List CallEdge). needed_by_calls (needed blocks) calls) (sym taken))
      where
        both : {a b d e : ℕ} → a ≡ b → d ≡ e → a + d ≡ b + e
        both {a} {b} {d} {e} h g = omega (arith, h, g)

    sum : (a f o b n : ℕ) → a + f ≡ b → o ≡ n → a + (f + o) ≡ b + n
    sum a f o b n h g = omega (arith, h, g)

    -- where the callee's variable has the place of one of the caller's
    through : (x y : ℕ) → place_in k c.call q base x ≡ k.place y → y < length k.parts.vars → types_of q x ≡ types_of k.parts y
        → IsPlaced vars (callee_work blocks k c q) x
    through x y e lt same = record {
      exists = subst (λ (n : ℕ). n < length vars) (sym e) (room.placed y lt).exists;
      has_type = ap (λ (n : ℕ). type_at vars n) e ∙ ((room.placed y lt).has_type ∙ sym same);
    }

    of_own : (x : ℕ) → s ≤ x → x < length q.vars → place_in k c.call q base x ≡ base + (x - s) → IsPlaced vars (callee_work blocks k c q) x
    of_own x low lt e = record {
      exists = subst (λ (n : ℕ). n < length vars) (sym e) (inside (length room.ahead) (length firsts) (length own)
          (length (inner ++ (rests ++ room.more))) x based own_long low lt
          (ap (λ (xs : List Variable). length xs) all ∙ (length-append (room.ahead ++ (firsts ++ own)) (inner ++ (rests ++ room.more))
          ∙ ap (λ (n : ℕ). n + length (inner ++ (rests ++ room.more)))
          (length-append room.ahead (firsts ++ own) ∙ ap (λ (n : ℕ). length room.ahead + n) (length-append firsts own)))));
      has_type = ap (λ (n : ℕ). type_at vars n) e
          ∙ (ap (λ (xs : List Variable). type_at xs (base + (x - s))) (all ∙ seen_from)
          ∙ (ap (λ (n : ℕ). type_at ((room.ahead ++ firsts) ++ (own ++ (inner ++ (rests ++ room.more)))) (n + (x - s))) (sym ahead_long)
          ∙ (ap (λ (o : Option Variable). type_in o) (get_behind (room.ahead ++ firsts) (own ++ (inner ++ (rests ++ room.more))) (x - s))
          ∙ (ap (λ (o : Option Variable). type_in o) (get_ahead own (inner ++ (rests ++ room.more)) (x - s) (short (length own) x own_long low lt))
          ∙ (own_type (drop s q.vars) (x - s)
          ∙ (ap (λ (o : Option Variable). type_in o) (get_dropped s q.vars (x - s))
          ∙ ap (λ (n : ℕ). type_at q.vars n) (whole x low)))))));
    }
      where
        inside : (a f o r x : ℕ) → a + f ≡ base → o ≡ own_count q → s ≤ x → x < length q.vars → length vars ≡ (a + (f + o)) + r
            → base + (x - s) < length vars
        inside a f o r x h g low lt e = omega (arith, h, g, low, lt, e)

        short : (o x : ℕ) → o ≡ own_count q → s ≤ x → x < length q.vars → x - s < o
        short o x g low lt = omega (arith, g, low, lt)

        whole : (x : ℕ) → s ≤ x → s + (x - s) ≡ x
        whole x low = omega (arith, low)

        ahead_long : length (room.ahead ++ firsts) ≡ base
        ahead_long = length-append room.ahead firsts ∙ based

        seen_from : (room.ahead ++ (firsts ++ own)) ++ (inner ++ (rests ++ room.more))
            ≡ (room.ahead ++ firsts) ++ (own ++ (inner ++ (rests ++ room.more)))
        seen_from = ap (λ (xs : List Variable). xs ++ (inner ++ (rests ++ room.more))) (sym (append_assoc room.ahead firsts own))
            ∙ append_assoc (room.ahead ++ firsts) own (inner ++ (rests ++ room.more))

    of_bound : (x : ℕ) → x < q.bound → IsPlaced vars (callee_work blocks k c q) x
    of_bound x small = through x (c.call.instance + x)
        (cond-true (nat_lt x q.bound) (k.place (c.call.instance + x))
        (cond (nat_lt x s) (k.place (k.parts.bound + (x - q.bound))) (base + (x - s))) (lt-ltb x q.bound small))
        (room_for c.call.instance x fits.room small) (fits.bound x small)
      where
        room_for : (i x : ℕ) → i + q.bound ≤ length k.parts.vars → x < q.bound → i + x < length k.parts.vars
        room_for i x h lt = omega (arith, h, lt)

    of_shared : (x : ℕ) → q.bound ≤ x → x < s → IsPlaced vars (callee_work blocks k c q) x
    of_shared x low small = through x (k.parts.bound + (x - q.bound))
        (cond-false (nat_lt x q.bound) (k.place (c.call.instance + x))
        (cond (nat_lt x s) (k.place (k.parts.bound + (x - q.bound))) (base + (x - s))) (le-ltb x q.bound low)
        ∙ cond-true (nat_lt x s) (k.place (k.parts.bound + (x - q.bound))) (base + (x - s)) (lt-ltb x s small))
        (room_for k.parts.bound k.parts.shared q.bound q.shared x (length k.parts.vars) fits.count low small counts)
        (ap (λ (n : ℕ). types_of q n) (whole q.bound x low) ∙ fits.shared (x - q.bound) (less q.bound q.shared x low small))
      where
        room_for : (b h qb qs x n : ℕ) → qs ≡ h → qb ≤ x → x < qb + qs → b + h ≤ n → b + (x - qb) < n
        room_for b h qb qs x n e low lt le = omega (arith, e, low, lt, le)

        whole : (b x : ℕ) → b ≤ x → x ≡ b + (x - b)
        whole b x low = omega (arith, low)

        less : (b h x : ℕ) → b ≤ x → x < b + h → x - b < h
        less b h x low lt = omega (arith, low, lt)

    of_others : (x : ℕ) → s ≤ x → x < length q.vars → IsPlaced vars (callee_work blocks k c q) x
    of_others x low lt = of_own x low lt
        (cond-false (nat_lt x q.bound) (k.place (c.call.instance + x))
        (cond (nat_lt x s) (k.place (k.parts.bound + (x - q.bound))) (base + (x - s))) (le-ltb x q.bound (under q.bound q.shared x low))
        ∙ cond-false (nat_lt x s) (k.place (k.parts.bound + (x - q.bound))) (base + (x - s)) (le-ltb x s low))
      where
        under : (b h x : ℕ) → b + h ≤ x → b ≤ x
        under b h x le = omega (arith, le)

    placed : (x : ℕ) → x < length q.vars → IsPlaced vars (callee_work blocks k c q) x
    placed x lt = by (cases_lt x q.bound) (cases_lt x s)
      where
        by : (x < q.bound) ⊎ (q.bound ≤ x) → (x < s) ⊎ (s ≤ x) → IsPlaced vars (callee_work blocks k c q) x
        by (inl small) others = of_bound x small
        by (inr low) (inl small) = of_shared x low small
        by (inr low) (inr large) = of_others x large lt
