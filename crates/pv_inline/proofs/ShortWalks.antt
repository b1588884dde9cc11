-- That numbers are short goes down the walk.
use Rattle.std.proofs.Common.{◌≡◌, ℕ, zero, suc, ◌+◌, ◌-◌, ◌<◌, ◌≤◌, ◌⊎◌, inl, inr, List, length, slice_get, Option, Some, None, sym, subst, arith}
use Rattle.std.specs.Prelude.{slice_index_or}
use Rattle.std.proofs.lemmas.Bool.{cases_lt}
use Rattle.pv_flow.specs.declared.parts.Edge.{Edge as CodeEdge}
use Rattle.pv_flow.specs.declared.parts.CallEdge.{CallEdge as CodeCallEdge}
use Rattle.pv_flow.specs.declared.parts.Parts.{Parts as CodeParts}
use Rattle.pv_call_tables.specs.declared.marks.Standing.{Standing}
use Rattle.pv_call_tables.specs.declared.marks.Standing.TheVariants as standing
use Rattle.pv_inline.specs.Numbers.{MOST}
use Rattle.pv_inline.specs.Blocks.{code_at}
use Rattle.pv_inline.specs.Walking.{Making, Copy, with_deeds, number, turn_by, all_looped, numbers_at, tables_copied, edge_in_made, callee_copy, called_made, block_made, call_made, goes_on, made_by, location_made, locations_made, copy_made, below, first_making, entry_copy, all_made}
use Rattle.pv_inline.specs.Short.{BeginsShort, IsCalled, entry, called, AreShort, IsShort, HasNoMore, IsAtWork}
use Rattle.pv_inline.proofs.Coded.{next}
use Rattle.pv_inline.proofs.Growing.{GrowsBy, grow_then, stays, in_grows, location_grows, copy_grows, below_grows}
use Rattle.pv_inline.proofs.Shorts.{first_short}

-- ---- one copy

pub number_short : (c : Copy) (l : ℕ) → IsShort c → number c l ≤ MOST
number_short c l short = first_short (number c l) _ (short.text l)

pub turn_short : (c : Copy) (e : ℕ) (edge : CodeEdge) → slice_get c.parts.edges.items e ≡ Some edge → IsShort c
    → (c.edges + slice_index_or c.table.drawn edge.from 0) + slice_index_or c.table.ranks e 0 ≤ MOST
turn_short c e edge at short = subst (λ (o : Option CodeEdge). turn_by c e o ≤ MOST) at (short.turns e)

-- ---- copies at work

more_by : (a b n : ℕ) → a ≤ b → b + n ≤ MOST → a + n ≤ MOST
more_by a b n le short = omega (arith, le, short)

pub work_short : (codes : List (Option CodeParts)) (p : CodeParts) (levels : ℕ) (c : Copy) → AreShort codes p
    → IsAtWork codes p levels c → IsShort c
work_short codes p levels c all work =
    let s = all.copies levels (with_deeds 0 c) work.reached in record {
      text = s.text;
      turns = s.turns;
      deeds = λ e edge at. more_by c.deeds (length (all_made codes p).deeds) edge.deed work.deeds (s.deeds e edge at);
    }

-- so many are made in all
pub nodes_short : (codes : List (Option CodeParts)) (p : CodeParts) (m new : Making) → AreShort codes p → HasNoMore m new
    → HasNoMore new (all_made codes p) → length m.nodes ≤ MOST
nodes_short codes p m new all le more = by le.nodes more.nodes all.nodes
  where
    by : {a b c : ℕ} → a ≤ b → b ≤ c → c ≤ MOST → a ≤ MOST
    by {a} {b} {c} h g f = omega (arith, h, g, f)

pub deeds_short : (codes : List (Option CodeParts)) (p : CodeParts) (m new : Making) → AreShort codes p → HasNoMore m new
    → HasNoMore new (all_made codes p) → length m.deeds ≤ MOST
deeds_short codes p m new all le more = by le.deeds more.deeds all.deeds
  where
    by : {a b c : ℕ} → a ≤ b → b ≤ c → c ≤ MOST → a ≤ MOST
    by {a} {b} {c} h g f = omega (arith, h, g, f)

-- ---- a copy

pub before_copy : (codes : List (Option CodeParts)) (levels : ℕ) (c : Copy) (m : Making)
    → HasNoMore m (copy_made codes (below codes levels) c m)
before_copy codes levels c m = copy_grows codes (below codes levels) (below_grows codes levels) c m

pub own_work : (codes : List (Option CodeParts)) (levels : ℕ) (p : CodeParts) (c own : Copy) (deeds : ℕ) (m : Making)
    → own ≡ with_deeds deeds c
    → deeds ≡ length m.deeds → IsAtWork codes p (suc levels) c → HasNoMore (copy_made codes (below codes levels) c m) (all_made codes p)
    → IsAtWork codes p (suc levels) own
own_work codes levels p c own deeds m same is work more =
    subst (λ (o : Copy). IsAtWork codes p (suc levels) o) (sym same) (record {
      reached = work.reached;
      deeds = by is (before_copy codes levels c m).deeds more.deeds;
    })
  where
    by : {d a b t : ℕ} → d ≡ a → a ≤ b → b ≤ t → d ≤ t
    by {d} {a} {b} {t} e h g = omega (arith, e, h, g)

pub own_made : (codes : List (Option CodeParts)) (levels : ℕ) (t : Making) (c own : Copy) (deeds : ℕ) (m mid : Making)
    → own ≡ with_deeds deeds c
    → deeds ≡ length m.deeds → mid ≡ tables_copied c m → HasNoMore (copy_made codes (below codes levels) c m) t
    → HasNoMore (locations_made codes (below codes levels) own own.parts.locations mid) t
own_made codes levels t c own deeds m mid same is copied more =
    subst (λ (o : Copy). HasNoMore (locations_made codes (below codes levels) o o.parts.locations mid) t) (sym same)
    (subst (λ (n : ℕ). HasNoMore (locations_made codes (below codes levels) (with_deeds n c) c.parts.locations mid) t) (sym is)
    (subst (λ (x : Making). HasNoMore (locations_made codes (below codes levels) (with_deeds (length m.deeds) c) c.parts.locations x) t) (sym copied) more))

-- ---- locations

more_locations : (blocks : List (Option CodeParts)) (inner : Copy → Making → Making) → GrowsBy inner
    → (c : Copy) (m : Making) (k n : ℕ) → k ≤ n
    → HasNoMore (locations_made blocks inner c k m) (locations_made blocks inner c n m)
more_locations blocks inner grows c m k zero le =
    subst (λ (i : ℕ). HasNoMore (locations_made blocks inner c k m) (locations_made blocks inner c i m)) (let e : k ≡ 0 = omega (arith, le) in e)
    (stays (locations_made blocks inner c k m))
more_locations blocks inner grows c m k (suc n) le = by (cases_lt n k) (λ low. more_locations blocks inner grows c m k n low)
  where
    by : (n < k) ⊎ (k ≤ n) → (k ≤ n → HasNoMore (locations_made blocks inner c k m) (locations_made blocks inner c n m))
        → HasNoMore (locations_made blocks inner c k m) (locations_made blocks inner c (suc n) m)
    by (inl lt) go =
        let e : k ≡ suc n = omega (arith, le, lt) in
        subst (λ (i : ℕ). HasNoMore (locations_made blocks inner c k m) (locations_made blocks inner c i m)) e
        (stays (locations_made blocks inner c k m))
    by (inr low) go =
        grow_then (locations_made blocks inner c k m) (locations_made blocks inner c n m) (locations_made blocks inner c (suc n) m) (go low)
        (location_grows blocks inner grows c n (locations_made blocks inner c n m))

pub location_within : (codes : List (Option CodeParts)) (levels : ℕ) (t : Making) (c : Copy) (m mid : Making) (l n : ℕ) → l < n
    → mid ≡ locations_made codes (below codes levels) c l m → HasNoMore (locations_made codes (below codes levels) c n m) t
    → HasNoMore (location_made codes (below codes levels) c l mid) t
location_within codes levels t c m mid l n lt is more =
    subst (λ (x : Making). HasNoMore (location_made codes (below codes levels) c l x) t) (sym is)
    (grow_then (locations_made codes (below codes levels) c (suc l) m) (locations_made codes (below codes levels) c n m) t
    (more_locations codes (below codes levels) (below_grows codes levels) c m (suc l) n lt) more)

-- ---- a call

pub call_within : (codes : List (Option CodeParts)) (levels : ℕ) (t : Making) (c : Copy) (m mid : Making) (l j : ℕ)
    → mid ≡ all_looped c (numbers_at c.table.loops l) m → slice_index_or c.table.ends l standing.Nothing ≡ standing.Nothing
    → slice_index_or c.table.calls l None ≡ Some j → HasNoMore (location_made codes (below codes levels) c l m) t
    → HasNoMore (call_made codes (below codes levels) c l j (slice_get c.parts.calls.items j) mid) t
call_within codes levels t c m mid l j is goes begins more =
    subst (λ (x : Making). HasNoMore (call_made codes (below codes levels) c l j (slice_get c.parts.calls.items j) x) t) (sym is)
    (subst (λ (o : Option ℕ). HasNoMore (goes_on codes (below codes levels) c l o looped) t) begins
    (subst (λ (s : Standing). HasNoMore (made_by codes (below codes levels) c l s looped) t) goes more))
  where
    looped : Making
    looped = all_looped c (numbers_at c.table.loops l) m

pub called_within : (codes : List (Option CodeParts)) (levels : ℕ) (t : Making) (c inner : Copy) (m : Making) (l j from : ℕ) (call : CodeCallEdge)
    (q : CodeParts) → inner ≡ callee_copy codes c l j call q → from ≡ number c l → slice_get c.parts.calls.items j ≡ Some call
    → code_at codes call.block ≡ Some q
    → HasNoMore (call_made codes (below codes levels) c l j (slice_get c.parts.calls.items j) m) t
    → HasNoMore (called_made (below codes levels) inner from m) t
called_within codes levels t c inner m l j from call q same here call_is block_is more =
    subst (λ (o : Copy). HasNoMore (called_made (below codes levels) o from m) t) (sym same)
    (subst (λ (n : ℕ). HasNoMore (called_made (below codes levels) (callee_copy codes c l j call q) n m) t) (sym here)
    (subst (λ (o : Option CodeParts). HasNoMore (block_made codes (below codes levels) c l j call o m) t) block_is
    (subst (λ (o : Option CodeCallEdge). HasNoMore (call_made codes (below codes levels) c l j o m) t) call_is more)))

pub inner_work : (codes : List (Option CodeParts)) (levels : ℕ) (p : CodeParts) (c inner : Copy) (l j : ℕ) (call : CodeCallEdge) (q : CodeParts)
    → inner ≡ callee_copy codes c l j call q → IsAtWork codes p (suc levels) c → IsCalled codes c l j call q → IsAtWork codes p levels inner
inner_work codes levels p c inner l j call q same work is =
    subst (λ (o : Copy). IsAtWork codes p levels o) (sym same) (record {
      reached = called levels (with_deeds 0 c) l j call q work.reached
          (record { goes_on = is.goes_on; begins = is.begins; is_call = is.is_call; is_block = is.is_block });
      deeds = least (length (all_made codes p).deeds);
    })
  where
    least : (n : ℕ) → 0 ≤ n
    least n = omega arith

pub begin_short : (codes : List (Option CodeParts)) (levels : ℕ) (p : CodeParts) (c : Copy) (l j : ℕ) (call : CodeCallEdge) (q : CodeParts)
    → AreShort codes p → IsAtWork codes p (suc levels) c → IsCalled codes c l j call q → BeginsShort codes c l j q
begin_short codes levels p c l j call q all work is =
    let s = all.calls levels (with_deeds 0 c) l j call q work.reached
    (record { goes_on = is.goes_on; begins = is.begins; is_call = is.is_call; is_block = is.is_block }) in record {
      table = s.table;
      start = s.start;
      edges = s.edges;
      variables = s.variables;
    }

-- ---- into a called block

pub before_called : (codes : List (Option CodeParts)) (levels : ℕ) (c : Copy) (from : ℕ) (m : Making)
    → HasNoMore m (called_made (below codes levels) c from m)
before_called codes levels c from m =
    grow_then m (edge_in_made c from m) (called_made (below codes levels) c from m) (in_grows c from m)
    (below_grows codes levels c (edge_in_made c from m))

pub deeper_work : (codes : List (Option CodeParts)) (levels : ℕ) (p : CodeParts) (c : Copy) → 0 < levels → IsAtWork codes p levels c
    → IsAtWork codes p (suc (levels - 1)) c
deeper_work codes levels p c some work = subst (λ (n : ℕ). IsAtWork codes p n c) (next levels some) work

pub deeper_made : (codes : List (Option CodeParts)) (levels : ℕ) (t : Making) (c : Copy) (from : ℕ) (m mid : Making) → 0 < levels
    → mid ≡ edge_in_made c from m → HasNoMore (called_made (below codes levels) c from m) t
    → HasNoMore (copy_made codes (below codes (levels - 1)) c mid) t
deeper_made codes levels t c from m mid some is more =
    subst (λ (x : Making). HasNoMore (copy_made codes (below codes (levels - 1)) c x) t) (sym is)
    (subst (λ (n : ℕ). HasNoMore (called_made (below codes n) c from m) t) (next levels some) more)

-- ---- the entry

pub entry_work : (codes : List (Option CodeParts)) (p : CodeParts) (c : Copy) (levels : ℕ) → c ≡ entry_copy codes p → levels ≡ length codes
    → IsAtWork codes p (suc levels) c
entry_work codes p c levels same long =
    subst (λ (o : Copy). IsAtWork codes p (suc levels) o) (sym same)
    (subst (λ (n : ℕ). IsAtWork codes p (suc n) (entry_copy codes p)) (sym long) (record { reached = entry; deeds = least (length (all_made codes p).deeds) }))
  where
    least : (n : ℕ) → 0 ≤ n
    least n = omega arith

pub entry_made : (codes : List (Option CodeParts)) (p : CodeParts) (c : Copy) (levels : ℕ) (m : Making) → c ≡ entry_copy codes p
    → levels ≡ length codes → m ≡ first_making → HasNoMore (copy_made codes (below codes levels) c m) (all_made codes p)
entry_made codes p c levels m same long first =
    subst (λ (o : Copy). HasNoMore (copy_made codes (below codes levels) o m) (all_made codes p)) (sym same)
    (subst (λ (n : ℕ). HasNoMore (copy_made codes (below codes n) (entry_copy codes p) m) (all_made codes p)) (sym long)
    (subst (λ (x : Making). HasNoMore (copy_made codes (below codes (length codes)) (entry_copy codes p) x) (all_made codes p)) (sym first)
    (stays (all_made codes p))))
