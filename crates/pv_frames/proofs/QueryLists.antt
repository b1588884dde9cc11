-- The clauses of a query, part by part.
use Rattle.std.proofs.Common.{◌≡◌, ℕ, ◌+◌, ◌*◌, ◌<◌, ◌≤◌, zero, suc, false, List, [], ◌∷◌, ◌++◌, length, map, refl, sym, ◌∙◌, ap, subst, arith, append-nil, length-append, suc-mul}
use Rattle.std.specs.List.{flat_map, AllByRecursion, range_with_len}
use Rattle.std.proofs.lemmas.Grind.{flat_map-append}
use Rattle.std.proofs.lemmas.List.FromFn.{map-range_with_len_more}
use Rattle.pv_gate.specs.Node.{gate_count}
use Rattle.pv_circuit.specs.declared.start.Start.{Start}
use Rattle.pv_circuit.specs.Circuits.{Circuit}
use Rattle.pv_cert.specs.declared.proof.Query.{Query}
use Rattle.pv_cnf.specs.Literal.{is_outside}
use Rattle.pv_cnf.specs.Clause.{AreClauses}
use Rattle.pv_frames.specs.Frames.{Frame, frame_clauses}
use Rattle.pv_frames.specs.Formulas.{unit, written}
use Rattle.pv_frames.specs.Queries.{frame_count, table, asked_in, asked, query_clauses, variable_count}
use Rattle.pv_frames.specs.Short.{clauses_of}
use Rattle.pv_frames.specs.declared.short.Short.TheVariants.{One}
use Rattle.pv_frames.specs.Tables.{IsFit, gate_clauses}
use Rattle.pv_frames.proofs.FrameLists.{unit-valid, written-few}
use Rattle.pv_frames.proofs.Inside.{gates-valid, table-inside, asked-inside}

frames-clauses : (c : Circuit) (start : List Start) (q : Query) (n : ℕ)
    → flat_map written (flat_map (λ (frame : Frame). frame_clauses frame 1 c.nodes) (map (table c start q) (range_with_len 0 n))) ≡ gate_clauses c start q n
frames-clauses c start q zero = refl
frames-clauses c start q (suc n) =
    let h : Frame → List (List ℕ) = λ frame. frame_clauses frame 1 c.nodes in
    let fs = map (table c start q) (range_with_len 0 n) in
    let f = table c start q n in
    let e : suc n ≡ n + 1 = omega arith in
    ap (λ (m : ℕ). flat_map written (flat_map h (map (table c start q) (range_with_len 0 m)))) e
    ∙ (ap (λ (xs : List Frame). flat_map written (flat_map h xs)) (map-range_with_len_more (table c start q) 0 n n (omega arith))
    ∙ (ap (flat_map written) (flat_map-append h fs (f ∷ []))
    ∙ (flat_map-append written (flat_map h fs) (flat_map h (f ∷ []))
    ∙ (ap (λ (cs : List (List ℕ)). flat_map written (flat_map h fs) ++ flat_map written cs) (append-nil (h f))
    ∙ ap (λ (cs : List (List ℕ)). cs ++ flat_map written (h f)) (frames-clauses c start q n)))))

units-written : (lits : List ℕ) → flat_map written (map unit lits) ≡ map unit lits
units-written [] = refl
units-written (l ∷ lits) = ap (λ (cs : List (List ℕ)). (l ∷ []) ∷ cs) (units-written lits)

ones-are : (lits : List ℕ) → flat_map clauses_of (map (λ (lit : ℕ). One lit) lits) ≡ map unit lits
ones-are [] = refl
ones-are (l ∷ lits) = ap (λ (cs : List (List ℕ)). (l ∷ []) ∷ cs) (ones-are lits)

-- variable 1, the gates of each frame, and what has to be true
pub query-is : (c : Circuit) (start : List Start) (q : Query)
    → query_clauses c start q ≡ ((2 ∷ []) ∷ gate_clauses c start q (frame_count q)) ++ flat_map clauses_of (map (λ (lit : ℕ). One lit) (asked c start q))
query-is c start q =
    let h : Frame → List (List ℕ) = λ frame. frame_clauses frame 1 c.nodes in
    let fs = map (table c start q) (range_with_len 0 (frame_count q)) in
    ap (λ (cs : List (List ℕ)). (2 ∷ []) ∷ cs)
    (flat_map-append written (flat_map h fs) (map unit (asked c start q))
    ∙ (ap (λ (cs : List (List ℕ)). cs ++ flat_map written (map unit (asked c start q))) (frames-clauses c start q (frame_count q))
    ∙ ap (λ (cs : List (List ℕ)). gate_clauses c start q (frame_count q) ++ cs) (units-written (asked c start q) ∙ sym (ones-are (asked c start q)))))

-- ---- they are clauses

units-valid : (v : ℕ) (lits : List ℕ) → AllByRecursion (λ lit. is_outside v lit ≡ false) lits → AreClauses v (map unit lits)
units-valid v [] all = tt
units-valid v (l ∷ lits) all = ((unit-valid v l all.0).0, units-valid v lits all.1)

all-range : {A : Type 0} (P : A → Type 0) (f : ℕ → A) (a n : ℕ) → ((j : ℕ) → a ≤ j → j < a + n → P (f j)) → AllByRecursion P (map f (range_with_len a n))
all-range P f a zero each = tt
all-range P f a (suc n) each = (each a (omega arith) (omega arith), all-range P f (a + 1) n (λ j from to. each j (omega arith) (omega arith)))

-- what has to be true, over the formula's variables
pub asked-valid : (c : Circuit) (start : List Start) (q : Query) (v : ℕ) → IsFit c start q → variable_count c start q ≤ v
    → AreClauses v (flat_map clauses_of (map (λ (lit : ℕ). One lit) (asked c start q)))
asked-valid c start q v fit room =
    subst (AreClauses v) (sym (ones-are (asked c start q)))
    (units-valid v (asked c start q)
    (all-range (λ lit. is_outside v lit ≡ false) (asked_in c start q) 0 (frame_count q) (λ j from to.
    let inside = fit.inside j (omega arith) in
    asked-inside c start q fit.state_in fit.state_out fit.ok fit.fail j v (omega (arith, inside, room)))))

-- the gates of a frame
pub frame-clauses-valid : (c : Circuit) (start : List Start) (q : Query) (v j : ℕ) → IsFit c start q → variable_count c start q ≤ v → j < frame_count q
    → AreClauses v (flat_map written (frame_clauses (table c start q j) 1 c.nodes))
frame-clauses-valid c start q v j fit room lt =
    let inside = fit.inside j lt in
    gates-valid v (table c start q j) c.nodes fit.netlist (table-inside c start q fit.state_in fit.state_out j v (omega (arith, inside, room)))

-- ---- they are few

pub gates-few : (c : Circuit) (start : List Start) (q : Query) (j : ℕ) → length (gate_clauses c start q j) ≤ j * (4 * gate_count c.nodes)
gates-few c start q zero = let none : 0 * (4 * gate_count c.nodes) ≡ 0 = omega arith in omega (arith, none)
gates-few c start q (suc j) =
    let before = gates-few c start q j in
    let here = written-few (table c start q j) 1 c.nodes in
    let both = length-append (gate_clauses c start q j) (flat_map written (frame_clauses (table c start q j) 1 c.nodes)) in
    omega (arith, before, here, both, suc-mul j (4 * gate_count c.nodes))
