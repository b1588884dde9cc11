-- Numbers of edges: those of a copy's own edges, by which the turn edges of its loops are told, and where an edge of the whole stands as
-- seen from a copy.
use Rattle.std.proofs.Common.{◌≡◌, ℕ, zero, suc, ◌+◌, ◌-◌, ◌<◌, ◌≤◌, ◌⊎◌, inl, inr, List, [], ◌∷◌, ◌++◌, map, length, length-append, take, slice_get, Bool, true, false, ◌||◌, ◌==◌, nat_lt, cond, Option, Some, None, refl, sym, subst, ap, ◌∙◌, arith}
use Rattle.std.specs.List.{AllByRecursion, list_any, list_all}
use Rattle.std.proofs.lemmas.Bool.{true≢false, false≢true, eqb-true, eq-eqb, ne_eqb, ltb-true, cases_lt, and_parts}
use Rattle.std.proofs.lemmas.List.{length-map}
use Rattle.std.proofs.lemmas.Option.{same_Some, none-some, slice_get_within}
use Rattle.pv_flow.specs.Automata.{Edge, CallEdge, Parts, edges_from, calls_from}
use Rattle.pv_flow.specs.Runs.{End, end_at}
use Rattle.pv_flow.specs.Calls.{Blocks, Numbered, call_from}
use Rattle.pv_flow.specs.Fitting.{IsSound}
use Rattle.pv_call_copies.specs.Inlined.{Body, Drawn, drawn_edge, drawn_from, drawn_by, drawn_below, drawn, drawn_all, drawn_before, turn_by, turn_number}
use Rattle.pv_call_copies.proofs.Counting.{first_call, ends_are_ends}
use Rattle.pv_call_copies.proofs.Placed.{end_of_body}
use Rattle.pv_call_copies.proofs.Rooms.{get_behind, get_ahead}
use Rattle.pv_call_copies.proofs.Aims.{IsAround, Site}

-- ---- edges of a location, by their ranks

-- how many edges of the location stand before edge e
abbrev pub rank : List Edge → ℕ → ℕ → ℕ
rank edges l e = length (edges_from l (take e edges))

-- an edge stands at its rank among those of its location
pub at_rank : (l e : ℕ) (edges : List Edge) (edge : Edge) → slice_get edges e ≡ Some edge → (edge.from == l) ≡ true
    → slice_get (edges_from l edges) (rank edges l e) ≡ Some edge
at_rank l e [] edge at from = absurd (none-some edge at)
at_rank l zero (x ∷ more) edge at from =
    by (x.from == l) (ap (λ (y : Edge). y.from == l) (same_Some x edge at) ∙ from)
  where
    by : (b : Bool) → b ≡ true → slice_get (cond b (x ∷ edges_from l more) (edges_from l more)) 0 ≡ Some edge
    by true on = at
    by false off = absurd (false≢true off)
at_rank l (suc e) (x ∷ more) edge at from = by (x.from == l) (at_rank l e more edge at from)
  where
    by : (b : Bool) → slice_get (edges_from l more) (rank more l e) ≡ Some edge
        → slice_get (cond b (x ∷ edges_from l more) (edges_from l more)) (length (cond b (x ∷ edges_from l (take e more)) (edges_from l (take e more)))) ≡ Some edge
    by true h = h
    by false h = h

-- the edge of this rank
pub record HasRank (edges : List Edge) (l k : ℕ) (edge : Edge) : Type 0 where
  pub number : ℕ
  pub at : slice_get edges number ≡ Some edge
  pub from : (edge.from == l) ≡ true
  pub is : rank edges l number ≡ k

pub of_rank : (l k : ℕ) (edges : List Edge) (edge : Edge) → slice_get (edges_from l edges) k ≡ Some edge → HasRank edges l k edge
of_rank l k [] edge at = absurd (none-some edge at)
of_rank l k (x ∷ more) edge at = by (x.from == l) refl k at (λ j h. of_rank l j more edge h)
  where
    later : (j : ℕ) (b : Bool) → (x.from == l) ≡ b → HasRank more l j edge → (n : ℕ) → length (cond b (x ∷ []) []) + j ≡ n → HasRank (x ∷ more) l n edge
    later j true on h n e = record {
      number = suc h.number;
      at = h.at;
      from = h.from;
      is = ap (λ (b : Bool). length (cond b (x ∷ edges_from l (take h.number more)) (edges_from l (take h.number more)))) on
          ∙ (ap suc h.is ∙ (one j ∙ e));
    }
      where
        one : (j : ℕ) → suc j ≡ 1 + j
        one j = omega arith
    later j false off h n e = record {
      number = suc h.number;
      at = h.at;
      from = h.from;
      is = ap (λ (b : Bool). length (cond b (x ∷ edges_from l (take h.number more)) (edges_from l (take h.number more)))) off
          ∙ (h.is ∙ (none j ∙ e));
    }
      where
        none : (j : ℕ) → j ≡ 0 + j
        none j = omega arith

    by : (b : Bool) → (x.from == l) ≡ b → (n : ℕ) → slice_get (cond b (x ∷ edges_from l more) (edges_from l more)) n ≡ Some edge
        → ((j : ℕ) → slice_get (edges_from l more) j ≡ Some edge → HasRank more l j edge) → HasRank (x ∷ more) l n edge
    by true on zero h go = record {
      number = 0;
      at = h;
      from = subst (λ (y : Edge). (y.from == l) ≡ true) (same_Some x edge h) on;
      is = refl;
    }
    by true on (suc n) h go = later n true on (go n h) (suc n) (one n)
      where
        one : (n : ℕ) → 1 + n ≡ suc n
        one n = omega arith
    by false off n h go = later n false off (go n h) n (none n)
      where
        none : (n : ℕ) → 0 + n ≡ n
        none n = omega arith

-- of two edges of a location that have one rank
pub one_rank : (l e f : ℕ) (edges : List Edge) (a b : Edge) → slice_get edges e ≡ Some a → (a.from == l) ≡ true → slice_get edges f ≡ Some b
    → (b.from == l) ≡ true → rank edges l e ≡ rank edges l f → e ≡ f
one_rank l e f [] a b at from bt begin same = absurd (none-some a at)
one_rank l zero zero (x ∷ more) a b at from bt begin same = refl
one_rank l zero (suc f) (x ∷ more) a b at from bt begin same =
    by (x.from == l) (ap (λ (y : Edge). y.from == l) (same_Some x a at) ∙ from) same
  where
    by : (c : Bool) → c ≡ true → 0 ≡ length (cond c (x ∷ edges_from l (take f more)) (edges_from l (take f more))) → 0 ≡ suc f
    by true on h = absurd (never (length (edges_from l (take f more))) h)
      where
        never : (n : ℕ) → 0 ≡ suc n → ⊥
        never n e = omega (arith, e)
    by false off h = absurd (false≢true off)
one_rank l (suc e) zero (x ∷ more) a b at from bt begin same =
    by (x.from == l) (ap (λ (y : Edge). y.from == l) (same_Some x b bt) ∙ begin) same
  where
    by : (c : Bool) → c ≡ true → length (cond c (x ∷ edges_from l (take e more)) (edges_from l (take e more))) ≡ 0 → suc e ≡ 0
    by true on h = absurd (never (length (edges_from l (take e more))) h)
      where
        never : (n : ℕ) → suc n ≡ 0 → ⊥
        never n e = omega (arith, e)
    by false off h = absurd (false≢true off)
one_rank l (suc e) (suc f) (x ∷ more) a b at from bt begin same =
    by (x.from == l) same (λ h. one_rank l e f more a b at from bt begin h)
  where
    by : (c : Bool) → length (cond c (x ∷ edges_from l (take e more)) (edges_from l (take e more)))
        ≡ length (cond c (x ∷ edges_from l (take f more)) (edges_from l (take f more)))
        → (rank more l e ≡ rank more l f → e ≡ f) → suc e ≡ suc f
    by true h go = ap suc (go (peeled (rank more l e) (rank more l f) h))
      where
        peeled : (a b : ℕ) → suc a ≡ suc b → a ≡ b
        peeled a b e = omega (arith, e)
    by false h go = ap suc (go h)

-- ---- what is drawn before a location

abbrev pub drawn_at : Blocks → Body → ℕ → List Drawn
drawn_at blocks body l = drawn_by blocks (drawn blocks) body l (end_at body.work.parts l)

pub next_before : (blocks : Blocks) (body : Body) (l : ℕ) → drawn_before blocks body (suc l) ≡ drawn_before blocks body l + length (drawn_at blocks body l)
next_before blocks body l = length-append (drawn_below blocks (drawn blocks) body l) (drawn_at blocks body l)

pub before_grows : (blocks : Blocks) (body : Body) (l m : ℕ) → l ≤ m → drawn_before blocks body l ≤ drawn_before blocks body m
before_grows blocks body l zero le = let e : l ≡ 0 = omega (arith, le) in
    subst (λ (k : ℕ). drawn_before blocks body k ≤ drawn_before blocks body 0) (sym e) (omega arith)
before_grows blocks body l (suc m) le = by (cases_lt l (suc m)) (λ small. before_grows blocks body l m small)
  where
    by : (l < suc m) ⊎ (suc m ≤ l) → (l ≤ m → drawn_before blocks body l ≤ drawn_before blocks body m)
        → drawn_before blocks body l ≤ drawn_before blocks body (suc m)
    by (inl lt) go = wider (drawn_before blocks body l) (drawn_before blocks body m) (length (drawn_at blocks body m)) (drawn_before blocks body (suc m))
        (go (omega (arith, lt))) (next_before blocks body m)
      where
        wider : (a b w c : ℕ) → a ≤ b → c ≡ b + w → a ≤ c
        wider a b w c h e = omega (arith, h, e)
    by (inr high) go = let e : l ≡ suc m = omega (arith, le, high) in
        subst (λ (k : ℕ). drawn_before blocks body k ≤ drawn_before blocks body (suc m)) (sym e) (omega arith)

-- a number among a copy's edges is that of one location
pub one_location : (blocks : Blocks) (body : Body) (l k m j : ℕ) → k < length (drawn_at blocks body l) → j < length (drawn_at blocks body m)
    → drawn_before blocks body l + k ≡ drawn_before blocks body m + j → l ≡ m
one_location blocks body l k m j lt less same = by (cases_lt l m) (cases_lt m l)
  where
    apart : (x y i n : ℕ) → i < length (drawn_at blocks body x) → x < y → drawn_before blocks body x + i ≡ drawn_before blocks body y + n → ⊥
    apart x y i n small below e = never (drawn_before blocks body x) (drawn_before blocks body (suc x)) (drawn_before blocks body y)
        (length (drawn_at blocks body x)) (next_before blocks body x) (before_grows blocks body (suc x) y (omega (arith, below))) small e
      where
        never : (p q r v : ℕ) → q ≡ p + v → q ≤ r → i < v → p + i ≡ r + n → ⊥
        never p q r v f g h k = omega (arith, f, g, h, k)

    by : (l < m) ⊎ (m ≤ l) → (m < l) ⊎ (l ≤ m) → l ≡ m
    by (inl below) other = absurd (apart l m k j lt below same)
    by (inr le) (inl below) = absurd (apart m l j k less below (sym same))
    by (inr le) (inr ge) = omega (arith, le, ge)

-- ---- own edges

-- where an edge begins nothing ends and no call edge begins
pub record IsOwn (p : Parts) (l : ℕ) : Type 0 where
  pub goes_on : end_at p l ≡ None
  pub no_call : call_from l 0 p.calls ≡ None

pub own_location : (p : Parts) → IsSound p → (e : ℕ) (edge : Edge) → slice_get p.edges e ≡ Some edge → IsOwn p edge.from
own_location p s e edge at = record { goes_on = by_end (end_at p l) refl; no_call = by_call (call_from l 0 p.calls) refl }
  where
    l : ℕ
    l = edge.from

    some : 0 < length (edges_from l p.edges)
    some = positive (rank p.edges l e) (length (edges_from l p.edges))
        (slice_get_within (edges_from l p.edges) (rank p.edges l e) edge (at_rank l e p.edges edge at (eq-eqb l l refl)))
      where
        positive : (a b : ℕ) → a < b → 0 < b
        positive a b h = omega (arith, h)

    by_end : (end : Option End) → end_at p l ≡ end → end_at p l ≡ None
    by_end None f = f
    by_end (Some end) f = absurd (nothing (length (calls_from l p.calls)) (length (edges_from l p.edges)) some (s.well_made.ends l (ends_are_ends p l end f)))
      where
        nothing : (a b : ℕ) → 0 < b → a + b ≡ 0 → ⊥
        nothing a b h g = omega (arith, h, g)

    by_call : (o : Option Numbered) → call_from l 0 p.calls ≡ o → call_from l 0 p.calls ≡ None
    by_call None f = f
    by_call (Some c) f = absurd (both (length (calls_from l p.calls)) (length (edges_from l p.edges)) (length found.0) long some (s.well_made.calls l several))
      where
        found : (rest : List CallEdge) × (calls_from l p.calls ≡ c.call ∷ rest)
        found = first_call l 0 p.calls c f

        long : length (calls_from l p.calls) ≡ suc (length found.0)
        long = ap (λ (calls : List CallEdge). length calls) found.1

        several : 0 < length (calls_from l p.calls)
        several = positive (length (calls_from l p.calls)) (length found.0) long
          where
            positive : (a b : ℕ) → a ≡ suc b → 0 < a
            positive a b h = omega (arith, h)

        both : (a b n : ℕ) → a ≡ suc n → 0 < b → a + b ≡ 1 → ⊥
        both a b n h g k = omega (arith, h, g, k)

pub own_drawn : (blocks : Blocks) (body : Body) (l : ℕ) → IsOwn body.work.parts l
    → drawn_at blocks body l ≡ map (drawn_edge blocks body) (edges_from l body.work.parts.edges)
own_drawn blocks body l own =
    ap (λ (end : Option End). drawn_by blocks (drawn blocks) body l end) own.goes_on
    ∙ ap (λ (o : Option Numbered). drawn_from blocks (drawn blocks) body l o) own.no_call

-- the number of the copy of edge e among the copy's edges, after i others
pub record HasNumber (blocks : Blocks) (body : Body) (i e : ℕ) (edge : Edge) : Type 0 where
  pub is : turn_number blocks body i e ≡ i + (drawn_before blocks body edge.from + rank body.work.parts.edges edge.from e)
  pub small : rank body.work.parts.edges edge.from e < length (drawn_at blocks body edge.from)

pub has_number : (blocks : Blocks) (body : Body) → IsSound body.work.parts → (i e : ℕ) (edge : Edge) → slice_get body.work.parts.edges e ≡ Some edge
    → HasNumber blocks body i e edge
has_number blocks body s i e edge at = record {
  is = ap (λ (o : Option Edge). turn_by blocks body i e o) at
      ∙ grouped i (drawn_before blocks body edge.from) (rank body.work.parts.edges edge.from e);
  small = subst (λ (n : ℕ). rank body.work.parts.edges edge.from e < n)
      (sym (ap (λ (ds : List Drawn). length ds) (own_drawn blocks body edge.from (own_location body.work.parts s e edge at))
      ∙ length-map (edges_from edge.from body.work.parts.edges) (drawn_edge blocks body)))
      (slice_get_within (edges_from edge.from body.work.parts.edges) (rank body.work.parts.edges edge.from e) edge
      (at_rank edge.from e body.work.parts.edges edge at (eq-eqb edge.from edge.from refl)));
}
  where
    grouped : (a b c : ℕ) → (a + b) + c ≡ a + (b + c)
    grouped a b c = omega arith

-- ---- turns

-- whether one of these is the number
abbrev one_of : ℕ → List ℕ → Bool
one_of n ns = list_any (λ m. m == n) ns

pub edge_there : (edges : List Edge) (e : ℕ) → e < length edges → (edge : Edge) × (slice_get edges e ≡ Some edge)
edge_there [] e lt = absurd (omega (arith, lt))
edge_there (x ∷ more) zero lt = (x, refl)
edge_there (x ∷ more) (suc e) lt = edge_there more e (omega (arith, lt))

-- the turns' numbers, none of which is this one
pub never_turns : (blocks : Blocks) (body : Body) (i n : ℕ) (turns : List ℕ) → list_all (λ e. nat_lt e (length body.work.parts.edges)) turns ≡ true
    → ((e : ℕ) (edge : Edge) → slice_get body.work.parts.edges e ≡ Some edge → turn_number blocks body i e ≡ n → ⊥)
    → one_of n (map (turn_number blocks body i) turns) ≡ false
never_turns blocks body i n [] below never = refl
never_turns blocks body i n (e ∷ turns) below never =
    let parts = and_parts (nat_lt e (length body.work.parts.edges)) (list_all (λ f. nat_lt f (length body.work.parts.edges)) turns) below in
    let edge = edge_there body.work.parts.edges e (ltb-true e (length body.work.parts.edges) parts.0) in
    ap (λ (b : Bool). b || one_of n (map (turn_number blocks body i) turns))
    (ne_eqb (turn_number blocks body i e) n (λ same. never e edge.0 edge.1 same))
    ∙ never_turns blocks body i n turns parts.1 never

-- or one where the edge is
pub same_turns : (blocks : Blocks) (body : Body) (i n e : ℕ) (turns : List ℕ) → list_all (λ f. nat_lt f (length body.work.parts.edges)) turns ≡ true
    → turn_number blocks body i e ≡ n
    → ((f : ℕ) (edge : Edge) → slice_get body.work.parts.edges f ≡ Some edge → turn_number blocks body i f ≡ n → f ≡ e)
    → one_of n (map (turn_number blocks body i) turns) ≡ one_of e turns
same_turns blocks body i n e [] below is only = refl
same_turns blocks body i n e (f ∷ turns) below is only =
    let parts = and_parts (nat_lt f (length body.work.parts.edges)) (list_all (λ g. nat_lt g (length body.work.parts.edges)) turns) below in
    let edge = edge_there body.work.parts.edges f (ltb-true f (length body.work.parts.edges) parts.0) in
    ap (λ (b : Bool). b || one_of n (map (turn_number blocks body i) turns)) (same edge.0 edge.1 (f == e) refl)
    ∙ ap (λ (b : Bool). (f == e) || b) (same_turns blocks body i n e turns parts.1 is only)
  where
    same : (edge : Edge) → slice_get body.work.parts.edges f ≡ Some edge → (b : Bool) → (f == e) ≡ b → (turn_number blocks body i f == n) ≡ (f == e)
    same edge at true on = eq-eqb (turn_number blocks body i f) n (ap (λ (g : ℕ). turn_number blocks body i g) (eqb-true f e on) ∙ is) ∙ sym on
    same edge at false off = ne_eqb (turn_number blocks body i f) n
        (λ equal. absurd (true≢false (sym (eq-eqb f e (only f edge at equal)) ∙ off))) ∙ sym off

-- ---- an edge of the whole, as seen from a copy

pub data Where (blocks : Blocks) (body : Body) (i n : ℕ) (d : Drawn) : Type 0 where
  away : IsAround body.start (end_of_body blocks body) d
      → ((l k : ℕ) → l < body.work.parts.locations → k < length (drawn_at blocks body l) → n ≡ i + (drawn_before blocks body l + k) → ⊥)
      → Where blocks body i n d
  stands : (l k : ℕ) → l < body.work.parts.locations → slice_get (drawn_at blocks body l) k ≡ Some d → n ≡ i + (drawn_before blocks body l + k)
      → Where blocks body i n d

pub all_here : (P : Drawn → Type 0) (ds : List Drawn) (n : ℕ) (d : Drawn) → AllByRecursion P ds → slice_get ds n ≡ Some d → P d
all_here P [] n d are at = absurd (none-some d at)
all_here P (x ∷ ds) zero d are at = subst P (same_Some x d at) are.0
all_here P (x ∷ ds) (suc n) d are at = all_here P ds n d are.1 at

record IsBelow (blocks : Blocks) (body : Body) (n j : ℕ) (d : Drawn) : Type 0 where
  location : ℕ
  index : ℕ
  exists : location < n
  at : slice_get (drawn_at blocks body location) index ≡ Some d
  is : j ≡ drawn_before blocks body location + index

found_below : (blocks : Blocks) (body : Body) (n j : ℕ) (d : Drawn) → slice_get (drawn_below blocks (drawn blocks) body n) j ≡ Some d
    → IsBelow blocks body n j d
found_below blocks body zero j d at = absurd (none-some d at)
found_below blocks body (suc n) j d at = by (cases_lt j (drawn_before blocks body n)) (λ h. found_below blocks body n j d h)
  where
    by : (j < drawn_before blocks body n) ⊎ (drawn_before blocks body n ≤ j)
        → (slice_get (drawn_below blocks (drawn blocks) body n) j ≡ Some d → IsBelow blocks body n j d) → IsBelow blocks body (suc n) j d
    by (inl lt) go =
        let h : IsBelow blocks body n j d = go (sym (get_ahead (drawn_below blocks (drawn blocks) body n) (drawn_at blocks body n) j lt) ∙ at) in
        record { location = h.location; index = h.index; exists = up h.location h.exists; at = h.at; is = h.is }
      where
        up : (m : ℕ) → m < n → m < suc n
        up m g = omega (arith, g)
    by (inr le) go = record {
      location = n;
      index = j - drawn_before blocks body n;
      exists = omega arith;
      at = sym (get_behind (drawn_below blocks (drawn blocks) body n) (drawn_at blocks body n) (j - drawn_before blocks body n))
          ∙ (ap (λ (m : ℕ). slice_get (drawn_below blocks (drawn blocks) body (suc n)) m) (sym (split (drawn_before blocks body n) le)) ∙ at);
      is = split (drawn_before blocks body n) le;
    }
      where
        split : (a : ℕ) → a ≤ j → j ≡ a + (j - a)
        split a h = omega (arith, h)

pub where_is : (blocks : Blocks) (p : Parts) (body : Body) (n : ℕ) (d : Drawn) (front back : List Drawn) → (site : Site blocks p body front back)
    → slice_get (drawn_all blocks p) n ≡ Some d → Where blocks body (length front) n d
where_is blocks p body n d front back site at = by_front (cases_lt n i)
  where
    own : List Drawn
    own = drawn_below blocks (drawn blocks) body body.work.parts.locations

    i : ℕ
    i = length front

    here : slice_get (front ++ (own ++ back)) n ≡ Some d
    here = ap (λ (ds : List Drawn). slice_get ds n) (sym site.placed.is) ∙ at

    -- no number of the copy's edges
    outside : (l k : ℕ) → l < body.work.parts.locations → k < length (drawn_at blocks body l) → drawn_before blocks body l + k < length own
    outside l k lt small = sum (drawn_before blocks body l) (drawn_before blocks body (suc l)) (length (drawn_at blocks body l)) (length own)
        (next_before blocks body l) (before_grows blocks body (suc l) body.work.parts.locations (omega (arith, lt))) small
      where
        sum : (a b w c : ℕ) → b ≡ a + w → b ≤ c → k < w → a + k < c
        sum a b w c e h g = omega (arith, e, h, g)

    by_back : (j : ℕ) → n ≡ i + j → (j < length own) ⊎ (length own ≤ j) → Where blocks body i n d
    by_back j e (inl lt) = stands h.location h.index h.exists h.at (e ∙ ap (λ (m : ℕ). i + m) h.is)
      where
        h : IsBelow blocks body body.work.parts.locations j d
        h = found_below blocks body body.work.parts.locations j d
            (sym (get_ahead own back j lt) ∙ (sym (get_behind front (own ++ back) j) ∙ (ap (λ (m : ℕ). slice_get (front ++ (own ++ back)) m) (sym e) ∙ here)))
    by_back j e (inr le) = away
        (all_here (IsAround body.start (end_of_body blocks body)) back (j - length own) d site.after_it
        (sym (get_behind own back (j - length own)) ∙ (ap (λ (m : ℕ). slice_get (own ++ back) m) (split (length own) le)
        ∙ (sym (get_behind front (own ++ back) j) ∙ (ap (λ (m : ℕ). slice_get (front ++ (own ++ back)) m) (sym e) ∙ here)))))
        (λ l k lt small same. never (drawn_before blocks body l + k) (outside l k lt small) same)
      where
        split : (a : ℕ) → a ≤ j → a + (j - a) ≡ j
        split a h = omega (arith, h)

        never : (m : ℕ) → m < length own → n ≡ i + m → ⊥
        never m lt same = omega (arith, e, le, lt, same)

    by_front : (n < i) ⊎ (i ≤ n) → Where blocks body i n d
    by_front (inl lt) = away
        (all_here (IsAround body.start (end_of_body blocks body)) front n d site.before_it (sym (get_ahead front (own ++ back) n lt) ∙ here))
        (λ l k small less same. never (drawn_before blocks body l + k) same)
      where
        never : (m : ℕ) → n ≡ i + m → ⊥
        never m same = omega (arith, lt, same)
    by_front (inr le) = by_back (n - i) (split i le) (cases_lt (n - i) (length own))
      where
        split : (a : ℕ) → a ≤ n → n ≡ a + (n - a)
        split a h = omega (arith, h)
