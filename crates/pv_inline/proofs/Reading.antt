-- What is made stays, whatever is made besides.
use Rattle.std.proofs.Common.{◌≡◌, ℕ, zero, suc, ◌+◌, ◌<◌, ◌≤◌, List, [], ◌∷◌, ◌++◌, map, length, length-append, append_assoc, append-nil, slice_get, Bool, true, nat_lt, Option, Some, refl, sym, subst, ap, ◌∙◌, arith}
use Rattle.std.specs.List.{list_all}
use Rattle.std.proofs.lemmas.Bool.{ltb-true, lt-ltb, and_parts, and_from}
use Rattle.std.proofs.lemmas.List.{map-append, get_or_append_left}
use Rattle.std.proofs.lemmas.Option.{same_Some, none-some}
use Rattle.pv_flow.specs.declared.term.Node.{Node}
use Rattle.pv_flow.specs.declared.parts.Set.{Set as CodeSet}
use Rattle.pv_flow.specs.Terms.{Term}
use Rattle.pv_flow.specs.Automata.{Set, Loop}
use Rattle.pv_flow.specs.View.{false_term, term_at, term_of, terms_after, terms_of, set_of}
use Rattle.pv_call_copies.specs.Inlined.{Drawn as Plain_drawn}
use Rattle.pv_call_tables.specs.declared.drawn.Drawn.{Drawn}
use Rattle.pv_call_tables.specs.Drawing.{aim_seen}
use Rattle.pv_call_terms.specs.Deeds.{Plain}
use Rattle.pv_call_terms.proofs.ForCallers.{terms_joined, terms_count}
use Rattle.pv_inline.specs.Walking.{Making, drawn_more, looped}
use Rattle.pv_inline.specs.Reading.{guard_in, sets_in, values_below, has_nodes, read, has_deed, IsGood, Added}

-- ---- lists

pub get_ahead : {X : Type 0} (xs ys : List X) (n : ℕ) → n < length xs → slice_get (xs ++ ys) n ≡ slice_get xs n
get_ahead [] ys n lt = absurd (omega (arith, lt))
get_ahead (x ∷ xs) ys zero lt = refl
get_ahead (x ∷ xs) ys (suc n) lt = get_ahead xs ys n (omega (arith, lt))

pub get_behind : {X : Type 0} (xs ys : List X) (n : ℕ) → slice_get (xs ++ ys) (length xs + n) ≡ slice_get ys n
get_behind [] ys n = ap (λ (i : ℕ). slice_get ys i) (none n)
  where
    none : (n : ℕ) → 0 + n ≡ n
    none n = omega arith
get_behind (x ∷ xs) ys n = ap (λ (i : ℕ). slice_get (x ∷ (xs ++ ys)) i) (next (length xs) n) ∙ get_behind xs ys n
  where
    next : (k n : ℕ) → suc k + n ≡ suc (k + n)
    next k n = omega arith

pub all_joined : {X : Type 0} (p : X → Bool) (xs ys : List X) → list_all p xs ≡ true → list_all p ys ≡ true → list_all p (xs ++ ys) ≡ true
all_joined p [] ys first rest = rest
all_joined p (x ∷ xs) ys first rest =
    let both = and_parts (p x) (list_all p xs) first in
    and_from (p x) (list_all p (xs ++ ys)) both.0 (all_joined p xs ys both.1 rest)

pub all_parts : {X : Type 0} (p : X → Bool) (xs ys : List X) → list_all p (xs ++ ys) ≡ true → list_all p ys ≡ true
all_parts p [] ys all = all
all_parts p (x ∷ xs) ys all = all_parts p xs ys (and_parts (p x) (list_all p (xs ++ ys)) all).1

-- an element of the list passes
pub all_at : {X : Type 0} (p : X → Bool) (xs : List X) (n : ℕ) (x : X) → list_all p xs ≡ true → slice_get xs n ≡ Some x → p x ≡ true
all_at p [] n x all at = absurd (none-some x at)
all_at p (y ∷ ys) zero x all at = subst (λ z. p z ≡ true) (same_Some y x at) (and_parts (p y) (list_all p ys) all).0
all_at p (y ∷ ys) (suc n) x all at = all_at p ys n x (and_parts (p y) (list_all p ys) all).1 at

pub all_wider : {X : Type 0} (p q : X → Bool) → ((x : X) → p x ≡ true → q x ≡ true) → (xs : List X) → list_all p xs ≡ true → list_all q xs ≡ true
all_wider p q more [] all = refl
all_wider p q more (x ∷ xs) all =
    let both = and_parts (p x) (list_all p xs) all in
    and_from (q x) (list_all q xs) (more x both.0) (all_wider p q more xs both.1)

pub below_more : (a k n : ℕ) → nat_lt a k ≡ true → nat_lt a (k + n) ≡ true
below_more a k n lt = lt-ltb a (k + n) (further (ltb-true a k lt))
  where
    further : a < k → a < k + n
    further h = omega (arith, h)

pub some_there : {X : Type 0} (xs : List X) (n : ℕ) → n < length xs → (x : X) × (slice_get xs n ≡ Some x)
some_there [] n lt = absurd (omega (arith, lt))
some_there (x ∷ xs) zero lt = (x, refl)
some_there (x ∷ xs) (suc n) lt = some_there xs n (omega (arith, lt))

-- ---- terms

term_kept : (terms : List Term) (nodes : List Node) (n : ℕ) → n < length terms → term_at (terms_after terms nodes) n ≡ term_at terms n
term_kept terms [] n lt = refl
term_kept terms (node ∷ nodes) n lt =
    term_kept (terms ++ term_of terms node ∷ []) nodes n
    (subst (λ (k : ℕ). n < k) (sym (length-append terms (term_of terms node ∷ []))) (omega (arith, lt)))
    ∙ get_or_append_left terms (term_of terms node ∷ []) false_term n lt

pub term_stays : (nodes more : List Node) (n : ℕ) → n < length nodes → term_at (terms_of (nodes ++ more)) n ≡ term_at (terms_of nodes) n
term_stays nodes more n lt =
    ap (λ (ts : List Term). term_at ts n) (terms_joined [] nodes more)
    ∙ term_kept (terms_of nodes) more n (subst (λ (k : ℕ). n < k) (sym (terms_count nodes)) lt)

sets_stay : (nodes more : List Node) (sets : List CodeSet) → values_below (length nodes) sets ≡ true
    → map (set_of (terms_of (nodes ++ more))) sets ≡ map (set_of (terms_of nodes)) sets
sets_stay nodes more [] all = refl
sets_stay nodes more (set ∷ sets) all =
    let both = and_parts (nat_lt set.value (length nodes)) (values_below (length nodes) sets) all in
    ap (λ (t : Term). let s : Set = record { variable = set.variable; value = t } in s ∷ map (set_of (terms_of (nodes ++ more))) sets)
    (term_stays nodes more set.value (ltb-true set.value (length nodes) both.0))
    ∙ ap (λ (ss : List Set). set_of (terms_of nodes) set ∷ ss) (sets_stay nodes more sets both.1)

-- ---- deeds

-- a deed that names nodes that there are
guard_stays : (nodes more : List Node) (o : Option Plain) (deed : Plain) → o ≡ Some deed → has_nodes (length nodes) deed ≡ true
    → guard_in (terms_of (nodes ++ more)) o ≡ guard_in (terms_of nodes) o
guard_stays nodes more o deed at has =
    ap (λ (p : Option Plain). guard_in (terms_of (nodes ++ more)) p) at
    ∙ (term_stays nodes more deed.guard
    (ltb-true deed.guard (length nodes) (and_parts (nat_lt deed.guard (length nodes)) (values_below (length nodes) deed.sets) has).0)
    ∙ sym (ap (λ (p : Option Plain). guard_in (terms_of nodes) p) at))

those_stay : (nodes more : List Node) (o : Option Plain) (deed : Plain) → o ≡ Some deed → has_nodes (length nodes) deed ≡ true
    → sets_in (terms_of (nodes ++ more)) o ≡ sets_in (terms_of nodes) o
those_stay nodes more o deed at has =
    ap (λ (p : Option Plain). sets_in (terms_of (nodes ++ more)) p) at
    ∙ (sets_stay nodes more deed.sets (and_parts (nat_lt deed.guard (length nodes)) (values_below (length nodes) deed.sets) has).1
    ∙ sym (ap (λ (p : Option Plain). sets_in (terms_of nodes) p) at))

pub guard_kept : (nodes more : List Node) (deeds later : List Plain) (n : ℕ) → list_all (has_nodes (length nodes)) deeds ≡ true → n < length deeds
    → guard_in (terms_of (nodes ++ more)) (slice_get (deeds ++ later) n) ≡ guard_in (terms_of nodes) (slice_get deeds n)
guard_kept nodes more deeds later n all lt =
    let found = some_there deeds n lt in
    ap (λ (o : Option Plain). guard_in (terms_of (nodes ++ more)) o) (get_ahead deeds later n lt)
    ∙ guard_stays nodes more (slice_get deeds n) found.0 found.1 (all_at (has_nodes (length nodes)) deeds n found.0 all found.1)

pub sets_kept : (nodes more : List Node) (deeds later : List Plain) (n : ℕ) → list_all (has_nodes (length nodes)) deeds ≡ true → n < length deeds
    → sets_in (terms_of (nodes ++ more)) (slice_get (deeds ++ later) n) ≡ sets_in (terms_of nodes) (slice_get deeds n)
sets_kept nodes more deeds later n all lt =
    let found = some_there deeds n lt in
    ap (λ (o : Option Plain). sets_in (terms_of (nodes ++ more)) o) (get_ahead deeds later n lt)
    ∙ those_stay nodes more (slice_get deeds n) found.0 found.1 (all_at (has_nodes (length nodes)) deeds n found.0 all found.1)

-- ---- edges

abbrev plain_drawn : ℕ → Drawn → Term → List Set → Plain_drawn
plain_drawn n d guard sets = record { from = d.from; aim = aim_seen d.aim; guard = guard; sets = sets }

reads_stay : (nodes more : List Node) (deeds later : List Plain) (ds : List Drawn) → list_all (has_nodes (length nodes)) deeds ≡ true
    → list_all (has_deed (length deeds)) ds ≡ true → map (read (nodes ++ more) (deeds ++ later)) ds ≡ map (read nodes deeds) ds
reads_stay nodes more deeds later [] all has = refl
reads_stay nodes more deeds later (d ∷ ds) all has =
    let both = and_parts (nat_lt d.deed (length deeds)) (list_all (has_deed (length deeds)) ds) has in
    let lt = ltb-true d.deed (length deeds) both.0 in
    ap (λ (t : Term). plain_drawn 0 d t (sets_in (terms_of (nodes ++ more)) (slice_get (deeds ++ later) d.deed))
    ∷ map (read (nodes ++ more) (deeds ++ later)) ds) (guard_kept nodes more deeds later d.deed all lt)
    ∙ (ap (λ (ss : List Set). plain_drawn 0 d (guard_in (terms_of nodes) (slice_get deeds d.deed)) ss
    ∷ map (read (nodes ++ more) (deeds ++ later)) ds) (sets_kept nodes more deeds later d.deed all lt)
    ∙ ap (λ (rest : List Plain_drawn). read nodes deeds d ∷ rest) (reads_stay nodes more deeds later ds all both.1))

-- ---- one after another

pub nothing_added : (m : Making) → IsGood m → Added m m [] []
nothing_added m good = record {
  more_nodes = [];
  nodes = sym (append-nil m.nodes);
  more_deeds = [];
  deeds = sym (append-nil m.deeds);
  more_drawn = [];
  drawn = sym (append-nil m.drawn);
  is_read = refl;
  loops = sym (append-nil m.loops);
  good = good;
}

pub added_then : (a b c : Making) (es ds : List Plain_drawn) (ks ls : List Loop) → Added a b es ks → Added b c ds ls → Added a c (es ++ ds) (ks ++ ls)
added_then a b c es ds ks ls h g = record {
  more_nodes = h.more_nodes ++ g.more_nodes;
  nodes = g.nodes ∙ (ap (λ (ns : List Node). ns ++ g.more_nodes) h.nodes ∙ append_assoc a.nodes h.more_nodes g.more_nodes);
  more_deeds = h.more_deeds ++ g.more_deeds;
  deeds = g.deeds ∙ (ap (λ (ns : List Plain). ns ++ g.more_deeds) h.deeds ∙ append_assoc a.deeds h.more_deeds g.more_deeds);
  more_drawn = h.more_drawn ++ g.more_drawn;
  drawn = g.drawn ∙ (ap (λ (ns : List Drawn). ns ++ g.more_drawn) h.drawn ∙ append_assoc a.drawn h.more_drawn g.more_drawn);
  is_read = map-append (read c.nodes c.deeds) h.more_drawn g.more_drawn
      ∙ (ap (λ (rs : List Plain_drawn). rs ++ map (read c.nodes c.deeds) g.more_drawn) (earlier ∙ h.is_read)
      ∙ ap (λ (rs : List Plain_drawn). es ++ rs) g.is_read);
  loops = g.loops ∙ (ap (λ (ns : List Loop). ns ++ ls) h.loops ∙ append_assoc a.loops ks ls);
  good = g.good;
}
  where
    earlier : map (read c.nodes c.deeds) h.more_drawn ≡ map (read b.nodes b.deeds) h.more_drawn
    earlier =
        ap (λ (ns : List Node). map (read ns c.deeds) h.more_drawn) g.nodes
        ∙ (ap (λ (ns : List Plain). map (read (b.nodes ++ g.more_nodes) ns) h.more_drawn) g.deeds
        ∙ reads_stay b.nodes g.more_nodes b.deeds g.more_deeds h.more_drawn h.good.deeds
        (all_parts (has_deed (length b.deeds)) a.drawn h.more_drawn
        (subst (λ (ds : List Drawn). list_all (has_deed (length b.deeds)) ds ≡ true) h.drawn h.good.drawn)))

-- ---- one edge, one loop

pub one_edge : (m : Making) (d : Drawn) (e : Plain_drawn) → IsGood m → d.deed < length m.deeds → read m.nodes m.deeds d ≡ e
    → Added m (drawn_more d m) (e ∷ []) []
one_edge m d e good lt is = record {
  more_nodes = [];
  nodes = sym (append-nil m.nodes);
  more_deeds = [];
  deeds = sym (append-nil m.deeds);
  more_drawn = d ∷ [];
  drawn = refl;
  is_read = ap (λ (r : Plain_drawn). r ∷ []) is;
  loops = sym (append-nil m.loops);
  good = record {
    nodes = good.nodes;
    deeds = good.deeds;
    drawn = all_joined (has_deed (length m.deeds)) m.drawn (d ∷ []) good.drawn
        (and_from (nat_lt d.deed (length m.deeds)) true (lt-ltb d.deed (length m.deeds) lt) refl);
    truth = good.truth;
    plain = good.plain;
    some = good.some;
  };
}

pub one_loop : (m : Making) (loop : Loop) → IsGood m → Added m (looped loop m) [] (loop ∷ [])
one_loop m loop good = record {
  more_nodes = [];
  nodes = sym (append-nil m.nodes);
  more_deeds = [];
  deeds = sym (append-nil m.deeds);
  more_drawn = [];
  drawn = sym (append-nil m.drawn);
  is_read = refl;
  loops = refl;
  good = record {
    nodes = good.nodes;
    deeds = good.deeds;
    drawn = good.drawn;
    truth = good.truth;
    plain = good.plain;
    some = good.some;
  };
}

-- ---- the nodes grow

pub longer : (m new : Making) (es : List Plain_drawn) (ls : List Loop) → Added m new es ls → length m.nodes ≤ length new.nodes
longer m new es ls h = subst (λ (n : ℕ). length m.nodes ≤ n) (sym (ap (λ (ns : List Node). length ns) h.nodes ∙ length-append m.nodes h.more_nodes)) (omega arith)
