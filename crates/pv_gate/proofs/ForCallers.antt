-- What crates above cite of circuits: how buildings are put together, what the literals that they make are, and the laws on
-- literals, nodes and their values.
use Rattle.std.proofs.Common.{◌≡◌, ℕ, ◌<◌, ◌≤◌, ◌+◌, ℤ, pos, suc, zero, neg_ℤ, Bool, true, false, not, ◌&&◌, List, [], ◌∷◌, ◌++◌, length, drop, drop-cons, map, get_or, All, Result, Ok, Err, to_z, of_z, w32, refl, ◌∙◌, sym, ap, subst, cond, arith}
use Rattle.std.specs.Result.{IfOk, OnOk}
use Rattle.std.specs.List.{fold, AllZip}
use Rattle.std.specs.Result.{IsErrAnd}
use mir.Val.{SFits}
use Rattle.std.proofs.lemmas.Int.{to_z-of_z}
use Rattle.std.proofs.lemmas.List.Elements.{All-cons}
use Rattle.std.proofs.lemmas.Result.{err_from_is_err_and}
use Rattle.pv_gate.specs.declared.fault.GateFault.{GateFault}
use Rattle.pv_gate.specs.declared.fault.GateFault.TheVariants.{NoMemory}
use Rattle.pv_gate.specs.declared.netlist.Node.{Node}
use Rattle.pv_gate.specs.Node.{Names, gate_count, true_literal, false_literal}
use Rattle.pv_gate.specs.Value.{value_of, exclusive_or}
use Rattle.pv_gate.specs.Netlist.{Netlist, IsNetlist, Extends}
use Rattle.pv_gate.specs.Build.{Made, and_gate, or_gate, xor_gate, mux_gate}
use Rattle.pv_gate.specs.Building.{Built, Building, done, and_then, built, make_and, make_or, make_xor, make_mux, each, pairs, Has, Have, IsBuilding, Makes, Gives}
use Rattle.pv_gate.proofs.Again.{IsMade, InOrder, made_and, made_or, made_xor, made_mux, order_and, order_or, order_xor, order_mux}
pub use Rattle.pv_gate.proofs.CallerLemmas.{extends_itself, extends_twice, length-extends, gate_count-extends, input_count-extends, keeps_twice, length-node_values, node_values_only}
pub use Rattle.pv_gate.proofs.Building.{Builds, Names-neg, Names-more, Names-lower, Names-higher, value_of-neg, value_of-true, value_of-false, int_eq-true}
pub use Rattle.pv_gate.proofs.Lists.{IsNetlist-push, one_node}
pub use Rattle.pv_gate.proofs.Values.{value_of-append, node_values_at}
pub use Rattle.pv_gate.proofs.OperationValues.{and_builds, or_builds, xor_builds, mux_builds}

-- ---- built once, found again

pub building_done : {A : Type 0} (x : A) → IsBuilding (done x)
unfolding done
building_done x = record { extends = λ nodes. extends_itself nodes; again = λ nodes all e. refl }

-- one building behind another
pub building_then : {A B : Type 0} (f : Building A) (k : A → Building B) → IsBuilding f → ((x : A) → IsBuilding (k x)) → IsBuilding (and_then f k)
unfolding and_then
building_then f k p q = record {
  extends = λ nodes. extends_twice _ _ _ (p.extends nodes) ((q (f nodes).out).extends (f nodes).nodes);
  again = λ nodes all e.
      let first = p.again nodes all (extends_twice _ _ _ ((q (f nodes).out).extends (f nodes).nodes) e) in
      ap (λ m. k m.out m.nodes) first ∙ (q (f nodes).out).again (f nodes).nodes all e;
}

building_gate : (g : List Node → Made) → IsMade g → IsBuilding (λ nodes. built (g nodes))
building_gate g h = record {
  extends = λ nodes. h.extends nodes;
  again = λ nodes all e. ap built (h.again nodes all e);
}

pub building_and : (a b : ℤ) → IsBuilding (make_and a b)
unfolding make_and
building_and a b = building_gate (λ nodes. and_gate nodes a b) (made_and a b)

pub building_or : (a b : ℤ) → IsBuilding (make_or a b)
unfolding make_or
building_or a b = building_gate (λ nodes. or_gate nodes a b) (made_or a b)

pub building_xor : (a b : ℤ) → IsBuilding (make_xor a b)
unfolding make_xor
building_xor a b = building_gate (λ nodes. xor_gate nodes a b) (made_xor a b)

pub building_mux : (s a b : ℤ) → IsBuilding (make_mux s a b)
unfolding make_mux
building_mux s a b = building_gate (λ nodes. mux_gate nodes s a b) (made_mux s a b)

pub building_each : {S E : Type 0} (step : S → E → Building S) → ((s : S) (e : E) → IsBuilding (step s e)) → (s : S) (es : List E) → IsBuilding (each step s es)
unfolding each
building_each step h s [] = building_done s
building_each step h s (e ∷ es) = building_then (step s e) (λ t. each step t es) (h s e) (λ t. building_each step h t es)

-- ---- what is made

-- older literals keep their values
pub has_more : {inputs : ℕ → Bool} {old new : List Node} {l : ℤ} {v : Bool} → Extends old new → Has inputs old l v → Has inputs new l v
has_more {inputs} {old} {new} {l} {v} e h = record {
  names = Names-more (length old) (length new) l (length-extends old new e) h.names;
  value = ap (λ ns. value_of inputs ns l) e.is ∙ (value_of-append inputs old e.added l h.names ∙ h.value);
}

pub along_more : {E W : Type 0} (R T : E → W → Type 0) → ((e : E) (w : W) → R e w → T e w) → (es : List E) (ws : List W) → AllZip R es ws → AllZip T es ws
along_more R T f [] [] h = tt
along_more R T f [] (w ∷ ws) h = h
along_more R T f (e ∷ es) [] h = h
along_more R T f (e ∷ es) (w ∷ ws) h = (f e w h.0, along_more R T f es ws h.1)

pub have_more : {inputs : ℕ → Bool} {old new : List Node} {ls : List ℤ} {vs : List Bool} → Extends old new → Have inputs old ls vs → Have inputs new ls vs
have_more {inputs} {old} {new} {ls} {vs} e h =
    record { each = along_more (Has inputs old) (Has inputs new) (λ l v p. has_more e p) ls vs h.each }

pub makes_done : {A : Type 0} {nodes : List Node} {P : List Node → A → Type 0} (x : A) → IsNetlist nodes → P nodes x → Makes nodes P (done x)
unfolding done
makes_done {A} {nodes} {P} x h p = record { netlist = h; extends = extends_itself nodes; out = p }

-- what is made behind it
pub makes_then : {A B : Type 0} {nodes : List Node} {P : List Node → A → Type 0} {Q : List Node → B → Type 0} {f : Building A} {k : A → Building B} → Makes nodes P f → ((ms : List Node) (x : A) → IsNetlist ms → Extends nodes ms → P ms x → Makes ms Q (k x)) → Makes nodes Q (and_then f k)
unfolding and_then
makes_then {A} {B} {nodes} {P} {Q} {f} {k} p q =
    let r = q (f nodes).nodes (f nodes).out p.netlist p.extends p.out in
    record { netlist = r.netlist; extends = extends_twice _ _ _ p.extends r.extends; out = r.out }

-- the same said otherwise
pub makes_as : {A : Type 0} {nodes : List Node} {P Q : List Node → A → Type 0} {f : Building A} → ((ms : List Node) (x : A) → P ms x → Q ms x) → Makes nodes P f → Makes nodes Q f
makes_as {A} {nodes} {P} {Q} {f} g h = record { netlist = h.netlist; extends = h.extends; out = g (f nodes).nodes (f nodes).out h.out }

pub has_true : {inputs : ℕ → Bool} {nodes : List Node} → IsNetlist nodes → Has inputs nodes true_literal true
has_true {inputs} {nodes} h = record {
  names = record { from_one = omega arith; to_last = omega (arith, one_node nodes h) };
  value = value_of-true inputs nodes h;
}

pub has_not : {inputs : ℕ → Bool} {nodes : List Node} {l : ℤ} {v : Bool} → Has inputs nodes l v → Has inputs nodes (neg_ℤ l) (not v)
has_not {inputs} {nodes} {l} {v} h = record {
  names = Names-neg (length nodes) l h.names;
  value = value_of-neg inputs nodes (length nodes) l h.names ∙ ap not h.value;
}

pub has_false : {inputs : ℕ → Bool} {nodes : List Node} → IsNetlist nodes → Has inputs nodes false_literal false
has_false h = has_not (has_true h)

makes_gate : {inputs : ℕ → Bool} {nodes : List Node} {v : (ℕ → Bool) → Bool} {w : Bool} {g : List Node → Made} → InOrder (g nodes) → Builds nodes v (g nodes) → v inputs ≡ w → Makes nodes (λ ms l. Has inputs ms l w) (λ ns. built (g ns))
makes_gate {inputs} {nodes} {v} {w} {g} order h e = record {
  netlist = order.netlist;
  extends = h.extends;
  out = record { names = h.names; value = h.value inputs ∙ e };
}

pub makes_and : {inputs : ℕ → Bool} {nodes : List Node} {a b : ℤ} {x y : Bool} → IsNetlist nodes → Has inputs nodes a x → Has inputs nodes b y → Makes nodes (λ ms l. Has inputs ms l (x && y)) (make_and a b)
unfolding make_and
makes_and {inputs} {nodes} {a} {b} {x} {y} h p q =
    makes_gate {g = λ ns. and_gate ns a b} (order_and nodes a b h p.names q.names) (and_builds nodes a b h p.names q.names)
    (ap (λ t. t && value_of inputs nodes b) p.value ∙ ap (λ t. x && t) q.value)

pub makes_or : {inputs : ℕ → Bool} {nodes : List Node} {a b : ℤ} {x y : Bool} → IsNetlist nodes → Has inputs nodes a x → Has inputs nodes b y → Makes nodes (λ ms l. Has inputs ms l (not (not x && not y))) (make_or a b)
unfolding make_or
makes_or {inputs} {nodes} {a} {b} {x} {y} h p q =
    makes_gate {g = λ ns. or_gate ns a b} (order_or nodes a b h p.names q.names) (or_builds nodes a b h p.names q.names)
    (ap (λ t. not (not t && not (value_of inputs nodes b))) p.value ∙ ap (λ t. not (not x && not t)) q.value)

pub makes_xor : {inputs : ℕ → Bool} {nodes : List Node} {a b : ℤ} {x y : Bool} → IsNetlist nodes → Has inputs nodes a x → Has inputs nodes b y → Makes nodes (λ ms l. Has inputs ms l (exclusive_or x y)) (make_xor a b)
unfolding make_xor
makes_xor {inputs} {nodes} {a} {b} {x} {y} h p q =
    makes_gate {g = λ ns. xor_gate ns a b} (order_xor nodes a b h p.names q.names) (xor_builds nodes a b h p.names q.names)
    (ap (λ t. exclusive_or t (value_of inputs nodes b)) p.value ∙ ap (exclusive_or x) q.value)

pub makes_mux : {inputs : ℕ → Bool} {nodes : List Node} {s a b : ℤ} {z x y : Bool} → IsNetlist nodes → Has inputs nodes s z → Has inputs nodes a x → Has inputs nodes b y → Makes nodes (λ ms l. Has inputs ms l (cond z x y)) (make_mux s a b)
unfolding make_mux
makes_mux {inputs} {nodes} {s} {a} {b} {z} {x} {y} h o p q =
    makes_gate {g = λ ns. mux_gate ns s a b} (order_mux nodes s a b h o.names p.names q.names) (mux_builds nodes s a b h o.names p.names q.names)
    (ap (λ t. cond t (value_of inputs nodes a) (value_of inputs nodes b)) o.value ∙ (ap (λ t. cond z t (value_of inputs nodes b)) p.value ∙ ap (cond z x) q.value))

-- what a step keeps, all of them keep: R of the states, Q of the elements
pub makes_each : {S E V W : Type 0} (R : List Node → S → V → Type 0) (Q : List Node → E → W → Type 0) (step : S → E → Building S) (change : V → W → V) → ((ns ms : List Node) (e : E) (w : W) → Extends ns ms → Q ns e w → Q ms e w) → ((ns : List Node) (s : S) (v : V) (e : E) (w : W) → IsNetlist ns → R ns s v → Q ns e w → Makes ns (λ ms t. R ms t (change v w)) (step s e)) → (ns : List Node) (s : S) (v : V) (es : List E) (ws : List W) → IsNetlist ns → R ns s v → AllZip (Q ns) es ws → Makes ns (λ ms t. R ms t (fold change v ws)) (each step s es)
unfolding each
makes_each R Q step change more h ns s v [] [] net r q = makes_done s net r
makes_each R Q step change more h ns s v [] (w ∷ ws) net r q = absurd q
makes_each R Q step change more h ns s v (e ∷ es) [] net r q = absurd q
makes_each R Q step change more h ns s v (e ∷ es) (w ∷ ws) net r q =
    makes_then (h ns s v e w net r q.0)
    (λ ms t netlist up kept. makes_each R Q step change more h ms t (change v w) es ws netlist kept (along_more (Q ns) (Q ms) (λ i j. more ns ms i j up) es ws q.1))

-- ---- two lists by pairs

abbrev pub HasBoth : (ℕ → Bool) → List Node → ℤ × ℤ → Bool × Bool → Type 0
HasBoth inputs nodes l v = Has inputs nodes l.0 v.0 × Has inputs nodes l.1 v.1

pub has_both_more : (inputs : ℕ → Bool) (old new : List Node) (l : ℤ × ℤ) (v : Bool × Bool) → Extends old new → HasBoth inputs old l v → HasBoth inputs new l v
has_both_more inputs old new l v e h = (has_more e h.0, has_more e h.1)

along_pairs : (inputs : ℕ → Bool) (nodes : List Node) (ls ks : List ℤ) (xs ys : List Bool) → AllZip (Has inputs nodes) ls xs → AllZip (Has inputs nodes) ks ys → AllZip (HasBoth inputs nodes) (pairs ls ks) (pairs xs ys)
along_pairs inputs nodes [] ks [] ys p q = tt
along_pairs inputs nodes [] ks (x ∷ xs) ys p q = absurd p
along_pairs inputs nodes (l ∷ ls) ks [] ys p q = absurd p
along_pairs inputs nodes (l ∷ ls) [] (x ∷ xs) [] p q = tt
along_pairs inputs nodes (l ∷ ls) [] (x ∷ xs) (y ∷ ys) p q = absurd q
along_pairs inputs nodes (l ∷ ls) (k ∷ ks) (x ∷ xs) [] p q = absurd q
along_pairs inputs nodes (l ∷ ls) (k ∷ ks) (x ∷ xs) (y ∷ ys) p q = ((p.0, q.0), along_pairs inputs nodes ls ks xs ys p.1 q.1)

pub have_pairs : {inputs : ℕ → Bool} {nodes : List Node} {ls ks : List ℤ} {xs ys : List Bool} → Have inputs nodes ls xs → Have inputs nodes ks ys → AllZip (HasBoth inputs nodes) (pairs ls ks) (pairs xs ys)
have_pairs {inputs} {nodes} {ls} {ks} {xs} {ys} p q = along_pairs inputs nodes ls ks xs ys p.each q.each

-- ---- lists of literals

pub have_none : {inputs : ℕ → Bool} {nodes : List Node} → Have inputs nodes [] []
have_none = record { each = tt }

pub have_cons : {inputs : ℕ → Bool} {nodes : List Node} {l : ℤ} {v : Bool} {ls : List ℤ} {vs : List Bool} → Has inputs nodes l v → Have inputs nodes ls vs → Have inputs nodes (l ∷ ls) (v ∷ vs)
have_cons p q = record { each = (p, q.each) }

along_append : {E W : Type 0} (R : E → W → Type 0) (es fs : List E) (ws us : List W) → AllZip R es ws → AllZip R fs us → AllZip R (es ++ fs) (ws ++ us)
along_append R [] fs [] us p q = q
along_append R [] fs (w ∷ ws) us p q = absurd p
along_append R (e ∷ es) fs [] us p q = absurd p
along_append R (e ∷ es) fs (w ∷ ws) us p q = (p.0, along_append R es fs ws us p.1 q)

pub have_append : {inputs : ℕ → Bool} {nodes : List Node} {ls ks : List ℤ} {vs us : List Bool} → Have inputs nodes ls vs → Have inputs nodes ks us → Have inputs nodes (ls ++ ks) (vs ++ us)
have_append {inputs} {nodes} {ls} {ks} {vs} {us} p q = record { each = along_append (Has inputs nodes) ls ks vs us p.each q.each }

pub have_push : {inputs : ℕ → Bool} {nodes : List Node} {ls : List ℤ} {l : ℤ} {vs : List Bool} {v : Bool} → Have inputs nodes ls vs → Has inputs nodes l v → Have inputs nodes (ls ++ l ∷ []) (vs ++ v ∷ [])
have_push p q = have_append p (have_cons q have_none)

along_length : {E W : Type 0} (R : E → W → Type 0) (es : List E) (ws : List W) → AllZip R es ws → length es ≡ length ws
along_length R [] [] h = refl
along_length R [] (w ∷ ws) h = absurd h
along_length R (e ∷ es) [] h = absurd h
along_length R (e ∷ es) (w ∷ ws) h = ap suc (along_length R es ws h.1)

pub length-have : {inputs : ℕ → Bool} {nodes : List Node} {ls : List ℤ} {vs : List Bool} → Have inputs nodes ls vs → length ls ≡ length vs
length-have {inputs} {nodes} {ls} {vs} h = along_length (Has inputs nodes) ls vs h.each

-- ---- calls, one after another

-- what is left to make, over the nodes that there are now, leads to what is to be made in all
pub record Leads {A : Type 0} (old now : Netlist) (whole rest : Building A) : Type 0 where
  pub same : whole old.nodes ≡ rest now.nodes
  pub older : Extends old.nodes now.nodes
  pub same_limit : now.limit ≡ old.limit
  pub within : gate_count now.nodes ≤ now.limit

pub leads_start : {A : Type 0} (old : Netlist) (f : Building A) → gate_count old.nodes ≤ old.limit → Leads old old f f
leads_start old f h = record { same = refl; older = extends_itself old.nodes; same_limit = refl; within = h }

-- the same said otherwise
pub leads_as : {A : Type 0} {old now : Netlist} {whole f : Building A} (g : Building A) → f ≡ g → Leads old now whole f → Leads old now whole g
leads_as {A} {old} {now} {whole} {f} g e h =
    record { same = h.same ∙ ap (λ (b : Building A). b now.nodes) e; older = h.older; same_limit = h.same_limit; within = h.within }

-- behind one building
pub leads_then : {A B : Type 0} {old now new : Netlist} {whole : Building B} {f : Building A} (k : A → Building B) {x : A} → Leads old now whole (and_then f k) → Gives now new f (Ok x) → Leads old new whole (k x)
unfolding and_then
leads_then {A} {B} {old} {now} {new} {whole} {f} k {x} h g = record {
  same = h.same ∙ ap (λ m. k m.out m.nodes) g.made;
  older = extends_twice _ _ _ h.older g.older;
  same_limit = g.same_limit ∙ h.same_limit;
  within = omega (arith, ap (λ (m : Built A). gate_count m.nodes) g.made, g.within, g.same_limit);
}

-- behind one step of many
pub leads_each : {S E : Type 0} {old now new : Netlist} {whole : Building S} (step : S → E → Building S) (s : S) {t : S} (e : E) (es : List E) → Leads old now whole (each step s (e ∷ es)) → Gives now new (step s e) (Ok t) → Leads old new whole (each step t es)
unfolding each
leads_each step s e es h g = leads_then (λ t. each step t es) h g

pub leads_each_then : {S E B : Type 0} {old now new : Netlist} {whole : Building B} (step : S → E → Building S) (s : S) {t : S} (e : E) (es : List E) (k : S → Building B) → Leads old now whole (and_then (each step s (e ∷ es)) k) → Gives now new (step s e) (Ok t) → Leads old new whole (and_then (each step t es) k)
unfolding each and_then
leads_each_then {S} {E} {B} {old} {now} {new} {whole} step s {t} e es k h g = record {
  same = h.same ∙ ap (λ m. k (each step m.out es m.nodes).out (each step m.out es m.nodes).nodes) g.made;
  older = extends_twice _ _ _ h.older g.older;
  same_limit = g.same_limit ∙ h.same_limit;
  within = omega (arith, ap (λ (m : Built S). gate_count m.nodes) g.made, g.within, g.same_limit);
}

-- no step is left
pub leads_all_then : {S E B : Type 0} {old now : Netlist} {whole : Building B} (step : S → E → Building S) (s : S) (k : S → Building B) → Leads old now whole (and_then (each step s []) k) → Leads old now whole (k s)
unfolding each and_then done
leads_all_then step s k h = record { same = h.same; older = h.older; same_limit = h.same_limit; within = h.within }

pub leads_all : {S E : Type 0} {old now : Netlist} {whole : Building S} (step : S → E → Building S) (s : S) → Leads old now whole (each step s []) → Leads old now whole (done s)
unfolding each
leads_all step s h = h

-- all is made
pub gives_done : {A : Type 0} {old now : Netlist} {whole : Building A} {x : A} → Leads old now whole (done x) → Gives old now whole (Ok x)
unfolding done
gives_done {A} {old} {now} {whole} {x} h = record {
  made = h.same;
  within = omega (arith, ap (λ (m : Built A). gate_count m.nodes) h.same, h.within, h.same_limit);
  limit = λ e. cc;
  older = h.older;
  same_limit = h.same_limit;
}

-- the last call makes what is left
pub gives_last : {A : Type 0} {old now new : Netlist} {whole f : Building A} {result : Result A GateFault} → Leads old now whole f → Gives now new f result → Gives old new whole result
gives_last {A} {old} {now} {new} {whole} {f} {result} h g = record {
  made = made_last result g.made;
  within = within_last result g.within;
  limit = λ e. omega (arith, ap (λ (m : Built A). gate_count m.nodes) h.same, g.limit e, h.same_limit);
  older = extends_twice _ _ _ h.older g.older;
  same_limit = g.same_limit ∙ h.same_limit;
}
  where
    made_last : (r : Result A GateFault) → IfOk r (λ out. f now.nodes ≡ record { out = out; nodes = new.nodes }) → IfOk r (λ out. whole old.nodes ≡ record { out = out; nodes = new.nodes })
    made_last (Ok x) p = h.same ∙ p
    made_last (Err e) p = tt

    within_last : (r : Result A GateFault) → OnOk r (gate_count (f now.nodes).nodes ≤ now.limit) → OnOk r (gate_count (whole old.nodes).nodes ≤ old.limit)
    within_last (Ok x) p = omega (arith, ap (λ (m : Built A). gate_count m.nodes) h.same, h.same_limit)
    within_last (Err e) p = tt

-- ---- exits

-- what stops a part stops the whole
pub gives_fault : {A B : Type 0} {old now new : Netlist} {whole : Building B} {f : Building A} (k : A → Building B) (fault : GateFault) (result : Result B GateFault) → IsErrAnd result (λ e. e ≡ fault) → Leads old now whole (and_then f k) → ((x : A) → IsBuilding (k x)) → Gives now new f (Err fault) → Gives old new whole result
unfolding and_then
gives_fault {A} {B} {old} {now} {new} {whole} {f} k fault result is h later g =
    let p = err_from_is_err_and result is in
    let at : result ≡ Err fault = p.1 ∙ ap Err p.2 in
    let P : Result B GateFault → Type 0 = λ r. Gives old new whole r in
    let more = gate_count-extends _ _ ((later (f now.nodes).out).extends (f now.nodes).nodes) in
    subst P (sym at) (record {
      made = tt;
      within = tt;
      limit = λ e. omega (arith, ap (λ (m : Built B). gate_count m.nodes) h.same, more, g.limit (cc e), h.same_limit);
      older = extends_twice _ _ _ h.older g.older;
      same_limit = g.same_limit ∙ h.same_limit;
    })

-- what stops one step of many stops them all
pub gives_fault_each : {S E : Type 0} {old now new : Netlist} {whole : Building S} (step : S → E → Building S) (s : S) (e : E) (es : List E) (fault : GateFault) (result : Result S GateFault) → IsErrAnd result (λ x. x ≡ fault) → Leads old now whole (each step s (e ∷ es)) → ((s : S) (e : E) → IsBuilding (step s e)) → Gives now new (step s e) (Err fault) → Gives old new whole result
unfolding each
gives_fault_each {S} {E} {old} {now} {new} {whole} step s e es fault result is h later g =
    gives_fault (λ t. each step t es) fault result is h (λ t. building_each step later t es) g

pub gives_fault_each_then : {S E B : Type 0} {old now new : Netlist} {whole : Building B} (step : S → E → Building S) (s : S) (e : E) (es : List E) (k : S → Building B) (fault : GateFault) (result : Result B GateFault) → IsErrAnd result (λ x. x ≡ fault) → Leads old now whole (and_then (each step s (e ∷ es)) k) → ((s : S) (e : E) → IsBuilding (step s e)) → ((s : S) → IsBuilding (k s)) → Gives now new (step s e) (Err fault) → Gives old new whole result
unfolding each and_then
gives_fault_each_then {S} {E} {B} {old} {now} {new} {whole} step s e es k fault result is h later last g =
    gives_fault {f = step s e} (λ t. and_then (each step t es) k) fault result is
    (record { same = h.same; older = h.older; same_limit = h.same_limit; within = h.within })
    (λ t. building_then (each step t es) k (building_each step later t es) last) g

-- want of memory
pub gives_no_memory : {A : Type 0} {old now : Netlist} {whole rest : Building A} (result : Result A GateFault) → IsErrAnd result (λ e. e ≡ NoMemory) → Leads old now whole rest → Gives old now whole result
gives_no_memory {A} {old} {now} {whole} {rest} result is h =
    let p = err_from_is_err_and result is in
    let at : result ≡ Err NoMemory = p.1 ∙ ap Err p.2 in
    let P : Result A GateFault → Type 0 = λ r. Gives old now whole r in
    subst P (sym at) (record { made = tt; within = tt; limit = λ e. cc; older = h.older; same_limit = h.same_limit })

-- ---- loops over the bits of words

drop_pairs_from : (ls ks : List ℤ) (i : ℕ) → i < length ls → i < length ks → drop i (pairs ls ks) ≡ (get_or ls i (pos 0), get_or ks i (pos 0)) ∷ drop (suc i) (pairs ls ks)
drop_pairs_from [] ks i p q = absurd (omega arith)
drop_pairs_from (l ∷ ls) [] i p q = absurd (omega arith)
drop_pairs_from (l ∷ ls) (k ∷ ks) zero p q = refl
drop_pairs_from (l ∷ ls) (k ∷ ks) (suc i) p q = drop_pairs_from ls ks i (omega arith) (omega arith)

pub drop_pairs : (ls ks : List ℤ) (i : ℕ) → i < length ls → i < length ks → drop i (pairs ls ks) ≡ (get_or ls i (pos 0), get_or ks i (pos 0)) ∷ drop (i + 1) (pairs ls ks)
drop_pairs ls ks i p q =
    let e : suc i ≡ i + 1 = omega arith in
    drop_pairs_from ls ks i p q ∙ ap (λ n. (get_or ls i (pos 0), get_or ks i (pos 0)) ∷ drop n (pairs ls ks)) e

pub drop_bits : (ls : List ℤ) (i : ℕ) → i < length ls → drop i ls ≡ get_or ls i (pos 0) ∷ drop (i + 1) ls
drop_bits ls i p =
    let e : suc i ≡ i + 1 = omega arith in
    drop-cons ls i (pos 0) p ∙ ap (λ n. get_or ls i (pos 0) ∷ drop n ls) e

pub no_pairs : (ls ks : List ℤ) (i : ℕ) → length ls ≤ i → drop i (pairs ls ks) ≡ []
no_pairs [] ks zero p = refl
no_pairs [] ks (suc i) p = refl
no_pairs (l ∷ ls) [] zero p = refl
no_pairs (l ∷ ls) [] (suc i) p = refl
no_pairs (l ∷ ls) (k ∷ ks) zero p = absurd (omega arith)
no_pairs (l ∷ ls) (k ∷ ks) (suc i) p = no_pairs ls ks i (omega arith)

-- a number of 32 bits that is passed by value is itself
pub passed : (x y : ℤ) → SFits w32 x → x ≡ y → to_z w32 (of_z w32 x) ≡ y
passed x y fits e = to_z-of_z w32 x fits ∙ e

pub all_more : (m n : ℕ) (ls : List ℤ) → m ≤ n → All (Names m) ls → All (Names n) ls
all_more m n ls le h = λ k d lt. Names-more m n (get_or ls k d) le (h k d lt)

-- literals that name nodes have the values that they have
pub have_values : (inputs : ℕ → Bool) (nodes : List Node) (ls : List ℤ) → All (Names (length nodes)) ls → Have inputs nodes ls (map (λ l. value_of inputs nodes l) ls)
have_values inputs nodes [] h = have_none
have_values inputs nodes (l ∷ ls) h =
    have_cons (record { names = h 0 l (omega arith); value = refl }) (have_values inputs nodes ls (λ k d lt. h (suc k) d (omega arith)))

pub all_named : {inputs : ℕ → Bool} {nodes : List Node} (ls : List ℤ) (vs : List Bool) → Have inputs nodes ls vs → All (Names (length nodes)) ls
all_named [] vs h = λ k d lt. absurd (omega arith)
all_named (l ∷ ls) [] h = λ k d lt. absurd h.each
all_named {inputs} {nodes} (l ∷ ls) (v ∷ vs) h = All-cons (Names (length nodes)) l ls h.each.0.names (all_named ls vs (record { each = h.each.1 }))
