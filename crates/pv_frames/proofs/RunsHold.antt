-- Each run that meets a query comes from values by which its formula holds: frame by frame, those of the nodes. A variable of a frame
-- has the value of its node, which is found by counting; literals that are given have values before.
use Rattle.std.proofs.Common.{◌≡◌, ℕ, ℤ, pos, ◌+◌, ◌-◌, ◌*◌, ◌<◌, ◌≤◌, zero, suc, Bool, true, false, not, cond, eqb, ltb, ◌&&◌, ◌||◌, List, [], ◌∷◌, ◌++◌, length, map, Option, Some, None, unwrap_or, int_eq, refl, sym, ◌∙◌, ap, subst, arith, inl, inr, lit≤}
use Rattle.std.specs.List.{list_all, flat_map, range_with_len, AllByRecursion}
use Rattle.std.proofs.lemmas.Bool.{cases_eq, and_from, or_parts, eq-eqb, ne_eqb, lt-ltb, le-ltb, ltb-false}
use Rattle.std.proofs.lemmas.List.Folds.{list_all-append}
use Rattle.pv_gate.specs.declared.netlist.Node.{Node}
use Rattle.pv_gate.specs.Netlist.{IsNetlist}
use Rattle.pv_gate.specs.Value.{value_of}
use Rattle.pv_gate.proofs.ForCallers.{int_eq-true, value_of-true}
use Rattle.pv_circuit.specs.declared.start.Start.{Start}
use Rattle.pv_circuit.specs.declared.start.Start.TheVariants.{Fixed, Begins, Free}
use Rattle.pv_circuit.specs.Circuits.{Circuit, IsCircuit, values_of}
use Rattle.pv_circuit.specs.Starts.{next_of, MayBe, MayBegin, AreState, AreStart}
use Rattle.pv_cert.specs.declared.proof.Query.{Query}
use Rattle.pv_cert.specs.declared.proof.Query.TheVariants.{Base, Step}
use Rattle.pv_cnf.specs.Literal.{variable_of, is_negated, literal_value, is_outside}
use Rattle.pv_cnf.specs.Clause.{clause_value, Holds}
use Rattle.pv_frames.specs.Frames.{Frame, literal_in, frame_clauses}
use Rattle.pv_frames.specs.Formulas.{unit}
use Rattle.pv_frames.specs.Values.{AreFrameValues}
use Rattle.pv_frames.specs.Queries.{frame_count, first_of, given_for, is_own, own_below, numbered, Numbered, frame_by, frame_at, next_literals, table, asked_in, query_clauses}
use Rattle.pv_frames.specs.Runs.{BitRun, FailsAtLast, Meets, run_with, input_in, run_of, HasValues, AreScans}
use Rattle.pv_frames.specs.Tables.{Inside}
use Rattle.pv_frames.proofs.Literals.{value-plain}
use Rattle.pv_frames.proofs.Written.{written-means}
use Rattle.pv_frames.proofs.Giving.{bit, own-none, numbered-is}
use Rattle.pv_frames.proofs.Inside.{GivenInside, first-inside, literals-inside, next-inside, own-rises, next-two, table-inside}
use Rattle.pv_frames.proofs.FrameValues.{frame-holds, literal-is}
use Rattle.pv_frames.proofs.RunValues.{or_false, Parts, parts-of, scan-of, map-next_of, map-twice, map-values, constant-value, state_at}

-- ---- values of the variables of one frame

-- the value of variable u, where the nodes below n have theirs from variable v on
abbrev own_value : (ℕ → Option ℕ) → ℕ → (ℕ → Bool) → List Node → ℕ → ℕ → Bool
own_value given v inputs nodes zero u = false
own_value given v inputs nodes (suc n) u =
    cond (eqb u (v + own_below given n) && is_own given n) (value_of inputs nodes (pos n)) (own_value given v inputs nodes n u)

own-at : (given : ℕ → Option ℕ) (v : ℕ) (inputs : ℕ → Bool) (nodes : List Node) (m n : ℕ) → n < m → is_own given n ≡ true
    → own_value given v inputs nodes m (v + own_below given n) ≡ value_of inputs nodes (pos n)
own-at given v inputs nodes zero n lt own = absurd (omega (arith, lt))
own-at given v inputs nodes (suc m) n lt own = elim (cases_eq n m) [
  | inl e ↦
      let u = v + own_below given n in
      let it : eqb u (v + own_below given m) ≡ true = eq-eqb u (v + own_below given m) (ap (λ (i : ℕ). v + own_below given i) e) in
      let both = and_from (eqb u (v + own_below given m)) (is_own given m) it (subst (λ (i : ℕ). is_own given i ≡ true) e own) in
      ap (λ (b : Bool). cond b (value_of inputs nodes (pos m)) (own_value given v inputs nodes m u)) both
      ∙ ap (λ (i : ℕ). value_of inputs nodes (pos i)) (sym e)
  | inr ne ↦
      let u = v + own_below given n in
      let one : bit (is_own given n) ≡ 1 = ap bit own in
      let up : own_below given n + bit (is_own given n) ≤ own_below given m = own-rises given (suc n) m (omega (arith, lt, ne)) in
      let other : eqb u (v + own_below given m) ≡ false = ne_eqb u (v + own_below given m) (λ e. omega (arith, e, one, up)) in
      ap (λ (b : Bool). cond (b && is_own given m) (value_of inputs nodes (pos m)) (own_value given v inputs nodes m u)) other
      ∙ own-at given v inputs nodes m n (omega (arith, lt, ne)) own
]

-- the values of the variables before v, and those of one more frame
abbrev with_frame : (ℕ → Option ℕ) → ℕ → (ℕ → Bool) → List Node → (ℕ → Bool) → ℕ → Bool
with_frame given v inputs nodes before u = cond (ltb u v) (before u) (own_value given v inputs nodes (1 + length nodes) u)

with-before : (given : ℕ → Option ℕ) (v : ℕ) (inputs : ℕ → Bool) (nodes : List Node) (before : ℕ → Bool) (u : ℕ) → u < v
    → with_frame given v inputs nodes before u ≡ before u
with-before given v inputs nodes before u lt =
    ap (λ (b : Bool). cond b (before u) (own_value given v inputs nodes (1 + length nodes) u)) (lt-ltb u v lt)

with-own : (given : ℕ → Option ℕ) (v : ℕ) (inputs : ℕ → Bool) (nodes : List Node) (before : ℕ → Bool) (n : ℕ) → n ≤ length nodes → is_own given n ≡ true
    → with_frame given v inputs nodes before (v + own_below given n) ≡ value_of inputs nodes (pos n)
with-own given v inputs nodes before n le own =
    let u = v + own_below given n in
    ap (λ (b : Bool). cond b (before u) (own_value given v inputs nodes (1 + length nodes) u)) (le-ltb u v (omega arith))
    ∙ own-at given v inputs nodes (1 + length nodes) n (omega (arith, le)) own

-- a literal's value is that of its variable
literal-agrees : (f g : ℕ → Bool) (v lit : ℕ) → ((u : ℕ) → u ≤ v → f u ≡ g u) → is_outside v lit ≡ false → literal_value f lit ≡ literal_value g lit
literal-agrees f g v lit same inside =
    let parts = or_parts (eqb (variable_of lit) 0) (ltb v (variable_of lit)) inside in
    ap (λ (b : Bool). cond (is_negated lit) (not b) b) (same (variable_of lit) (ltb-false v (variable_of lit) parts.1))

frame-kept : (inputs : ℕ → Bool) (nodes : List Node) (f g : ℕ → Bool) (frame : Frame) (v : ℕ) → Inside v (length nodes) frame → ((u : ℕ) → u ≤ v → g u ≡ f u)
    → AreFrameValues inputs nodes f frame → AreFrameValues inputs nodes g frame
frame-kept inputs nodes f g frame v inside same are n one le = literal-agrees g f v (frame n) same (inside n one le) ∙ are n one le

-- ---- literals that are given

abbrev GivenIs : (ℕ → Bool) → Option ℕ → Bool → Type 0
GivenIs g None b = Unit {0}
GivenIs g (Some lit) b = literal_value g lit ≡ b

-- each that is given has its bit's value
abbrev AreGiven : (ℕ → Bool) → List (Option ℕ) → List Bool → Type 0
AreGiven g [] [] = Unit {0}
AreGiven g [] (b ∷ bs) = ⊥
AreGiven g (o ∷ os) [] = ⊥
AreGiven g (o ∷ os) (b ∷ bs) = GivenIs g o b × AreGiven g os bs

given-value : (g inputs : ℕ → Bool) (nodes : List Node) (found : Option ℕ) (ls : List ℤ) (os : List (Option ℕ)) (n : ℕ) → GivenIs g found (value_of inputs nodes (pos n))
    → AreGiven g os (map (value_of inputs nodes) ls) → GivenIs g (given_for found ls os n) (value_of inputs nodes (pos n))
given-value g inputs nodes found [] os n here all = here
given-value g inputs nodes found (l ∷ ls) [] n here all = here
given-value g inputs nodes found (l ∷ ls) (o ∷ os) n here all =
    given-value g inputs nodes (cond (int_eq l (pos n)) o found) ls os n (by (int_eq l (pos n)) refl) all.1
  where
    by : (b : Bool) → int_eq l (pos n) ≡ b → GivenIs g (cond b o found) (value_of inputs nodes (pos n))
    by true e = subst (λ (z : ℤ). GivenIs g o (value_of inputs nodes z)) (int_eq-true l (pos n) e) all.0
    by false e = here

given-agrees : (f g : ℕ → Bool) (v : ℕ) (os : List (Option ℕ)) (bs : List Bool) → ((u : ℕ) → u ≤ v → f u ≡ g u) → AllByRecursion (GivenInside v) os
    → AreGiven g os bs → AreGiven f os bs
given-agrees f g v [] [] same inside all = tt
given-agrees f g v [] (b ∷ bs) same inside all = all
given-agrees f g v (o ∷ os) [] same inside all = all
given-agrees f g v (o ∷ os) (b ∷ bs) same inside all = (by o inside.0 all.0, given-agrees f g v os bs same inside.1 all.1)
  where
    by : (o : Option ℕ) → GivenInside v o → GivenIs g o b → GivenIs f o b
    by None h p = tt
    by (Some lit) h p = literal-agrees f g v lit same h ∙ p

given-all : (g : ℕ → Bool) (lits : List ℕ) → AreGiven g (map (λ (lit : ℕ). Some lit) lits) (map (literal_value g) lits)
given-all g [] = tt
given-all g (l ∷ lits) = (refl, given-all g lits)

-- a frame's nodes have their values, if the literals that are given have
frame-has : (c : Circuit) (os : List (Option ℕ)) (v : ℕ) (inputs before : ℕ → Bool) → 2 ≤ v → before 1 ≡ true → IsNetlist c.nodes
    → AreGiven (with_frame (given_for None c.state_in os) v inputs c.nodes before) os (values_of inputs c.nodes c.state_in)
    → AreFrameValues inputs c.nodes (with_frame (given_for None c.state_in os) v inputs c.nodes before) (numbered (given_for None c.state_in os) v)
frame-has c os v inputs before two first net all n one le = elim (cases_eq n 1) [
  | inl e ↦
      ap (λ (b : Bool). literal_value values (cond b 2 (unwrap_or (given n) (2 * (v + own_below given n))))) (eq-eqb n 1 e)
      ∙ (value-plain values 2 1 refl refl
      ∙ (with-before given v inputs c.nodes before 1 (omega (arith, two))
      ∙ (first ∙ (sym (value_of-true inputs c.nodes net) ∙ ap (λ (i : ℕ). value_of inputs c.nodes (pos i)) (sym e)))))
  | inr ne ↦
      ap (literal_value values) (numbered-is given v n (omega (arith, one, ne)))
      ∙ by (given n) refl (omega (arith, one, ne)) (given-value values inputs c.nodes None c.state_in os n tt all)
]
  where
    given : ℕ → Option ℕ
    given = given_for None c.state_in os

    values : ℕ → Bool
    values = with_frame given v inputs c.nodes before

    by : (o : Option ℕ) → given n ≡ o → 2 ≤ n → GivenIs values o (value_of inputs c.nodes (pos n))
        → literal_value values (unwrap_or o (2 * (v + own_below given n))) ≡ value_of inputs c.nodes (pos n)
    by (Some lit) is far h = h
    by None is far h =
        value-plain values (2 * (v + own_below given n)) (v + own_below given n) (omega arith) (omega arith)
        ∙ with-own given v inputs c.nodes before n le (own-none given n far is)

-- ---- frame by frame

-- what is given for frame j, and its first variable
abbrev givens : Circuit → List Start → Query → ℕ → List (Option ℕ)
givens c start q zero = map (first_of q) start
givens c start q (suc j) = map (λ lit. Some lit) (next_literals c start (table c start q j))

abbrev first_variable : Circuit → List Start → Query → ℕ → ℕ
first_variable c start q zero = 2
first_variable c start q (suc j) = (frame_at c start q j).next

frame-is : (c : Circuit) (start : List Start) (q : Query) (j : ℕ) → frame_at c start q j ≡ frame_by c (givens c start q j) (first_variable c start q j)
frame-is c start q zero = refl
frame-is c start q (suc j) = refl

first-two : (c : Circuit) (start : List Start) (q : Query) (j : ℕ) → 2 ≤ first_variable c start q j
first-two c start q zero = lit≤ tt
first-two c start q (suc j) = next-two c start q j

first-next : (c : Circuit) (start : List Start) (q : Query) (j : ℕ) → first_variable c start q j ≤ (frame_at c start q j).next
first-next c start q j = omega (arith, ap (λ (f : Numbered). f.next) (frame-is c start q j))

-- what is given is over the variables before
givens-inside : (c : Circuit) (start : List Start) (q : Query) (j : ℕ) → IsCircuit c
    → AllByRecursion (GivenInside (first_variable c start q j - 1)) (givens c start q j)
givens-inside c start q zero is = first-inside 1 q start (lit≤ tt)
givens-inside c start q (suc j) is =
    let v = (frame_at c start q j).next - 1 in
    let two = next-two c start q j in
    let f = table c start q j in
    let inside = table-inside c start q is.state_in is.state_out j v (omega (arith, two)) in
    next-inside v start (map (literal_in f) c.state_in) (map (literal_in f) c.state_out)
    (literals-inside v (length c.nodes) f c.state_in inside is.state_in) (literals-inside v (length c.nodes) f c.state_out inside is.state_out)

-- the values before frame j, and those of frame j where the circuit's inputs have these
abbrev values_in : Circuit → List Start → Query → ℕ → (ℕ → Bool) → (ℕ → Bool) → ℕ → Bool
values_in c start q j inputs before =
    with_frame (given_for None c.state_in (givens c start q j)) (first_variable c start q j) inputs c.nodes before

values-kept : (c : Circuit) (start : List Start) (q : Query) (j : ℕ) (inputs before : ℕ → Bool) (u : ℕ) → u < first_variable c start q j
    → values_in c start q j inputs before u ≡ before u
values-kept c start q j inputs before u lt =
    with-before (given_for None c.state_in (givens c start q j)) (first_variable c start q j) inputs c.nodes before u lt

frame-made : (c : Circuit) (start : List Start) (q : Query) (j : ℕ) (inputs before : ℕ → Bool) (s : List Bool) → IsCircuit c → before 1 ≡ true
    → values_of inputs c.nodes c.state_in ≡ s → AreGiven before (givens c start q j) s
    → AreFrameValues inputs c.nodes (values_in c start q j inputs before) (table c start q j)
frame-made c start q j inputs before s is first state all =
    let os = givens c start q j in
    let v = first_variable c start q j in
    let two = first-two c start q j in
    let values = values_in c start q j inputs before in
    let known : AreGiven values os s =
    given-agrees values before (v - 1) os s (λ u le. values-kept c start q j inputs before u (omega (arith, le, two))) (givens-inside c start q j is) all in
    let there : AreGiven values os (values_of inputs c.nodes c.state_in) = subst (AreGiven values os) (sym state) known in
    subst (AreFrameValues inputs c.nodes values) (sym (ap (λ (f : Numbered). f.frame) (frame-is c start q j)))
    (frame-has c os v inputs before two first is.netlist there)

-- what is given for the next frame
next-given : (c : Circuit) (start : List Start) (q : Query) (j : ℕ) (values inputs : ℕ → Bool) (s : List Bool) → IsCircuit c
    → AreFrameValues inputs c.nodes values (table c start q j) → values_of inputs c.nodes c.state_in ≡ s
    → AreGiven values (givens c start q (suc j)) (next_of start s (values_of inputs c.nodes c.state_out))
next-given c start q j values inputs s is are state =
    let g = literal_value values in
    let f = table c start q j in
    let ins : map g (map (literal_in f) c.state_in) ≡ s =
    map-twice g (literal_in f) c.state_in ∙ (map-values values inputs f c.nodes c.state_in are is.state_in ∙ state) in
    let outs : map g (map (literal_in f) c.state_out) ≡ values_of inputs c.nodes c.state_out =
    map-twice g (literal_in f) c.state_out ∙ map-values values inputs f c.nodes c.state_out are is.state_out in
    subst (AreGiven values (map (λ (lit : ℕ). Some lit) (next_literals c start f)))
    (map-next_of g start (map (literal_in f) c.state_in) (map (literal_in f) c.state_out)
    ∙ (ap (λ (bs : List Bool). next_of start bs (map g (map (literal_in f) c.state_out))) ins
    ∙ ap (λ (bs : List Bool). next_of start s bs) outs))
    (given-all values (next_literals c start f))

-- values by which frame j and the r behind it are the scans of a run
record Runs (c : Circuit) (start : List Start) (q : Query) (j r : ℕ) (s : List Bool) (inputs : List (List Bool)) (before : ℕ → Bool) : Type 0 where
  values : ℕ → Bool
  kept : (u : ℕ) → u < first_variable c start q j → values u ≡ before u
  gates : (i : ℕ) → j ≤ i → i < j + suc r → list_all (clause_value values) (frame_clauses (table c start q i) 1 c.nodes) ≡ true
  goals : (i : ℕ) → j ≤ i → i < j + suc r → literal_value values (asked_in c start q i) ≡ true
  state : state_at c start q values j ≡ s
  read : map (input_in c values) (map (table c start q) (range_with_len j (suc r))) ≡ inputs

-- what has to be true in a frame is
asked-true : (c : Circuit) (start : List Start) (q : Query) (j : ℕ) (values inputs : ℕ → Bool) (b : Bool) → IsCircuit c → eqb (suc j) (frame_count q) ≡ b
    → AreFrameValues inputs c.nodes values (table c start q j) → value_of inputs c.nodes (cond b c.fail c.ok) ≡ true
    → literal_value values (asked_in c start q j) ≡ true
asked-true c start q j values inputs b is last are true_there =
    ap (λ (x : Bool). literal_value values (literal_in (table c start q j) (cond x c.fail c.ok))) last ∙ (by b ∙ true_there)
  where
    by : (b : Bool) → literal_value values (literal_in (table c start q j) (cond b c.fail c.ok)) ≡ value_of inputs c.nodes (cond b c.fail c.ok)
    by true = literal-is values inputs (table c start q j) c.nodes c.fail are is.fail
    by false = literal-is values inputs (table c start q j) c.nodes c.ok are is.ok

runs-from : (c : Circuit) (start : List Start) (q : Query) → IsCircuit c → (r j : ℕ) → j + suc r ≡ frame_count q → (s : List Bool) (inputs : List (List Bool))
    → length inputs ≡ suc r → FailsAtLast c start s inputs → (before : ℕ → Bool) → before 1 ≡ true → AreGiven before (givens c start q j) s
    → Runs c start q j r s inputs before
runs-from c start q is zero j end s [] long fails before first given = absurd (omega (arith, long))
runs-from c start q is zero j end s (i ∷ k ∷ inputs) long fails before first given = absurd (omega (arith, long))
runs-from c start q is zero j end s (i ∷ []) long fails before first given =
    let scan = fails.0 in
    let f = table c start q j in
    let values = values_in c start q j scan.inputs before in
    let are : AreFrameValues scan.inputs c.nodes values (table c start q j) = frame-made c start q j scan.inputs before s is first scan.state_is given in
    let goal = asked-true c start q j values scan.inputs true is (eq-eqb (suc j) (frame_count q) (omega (arith, end))) are fails.1 in
    let gates = frame-holds values scan.inputs f c.nodes is.netlist are in
    record {
      values = values;
      kept = values-kept c start q j scan.inputs before;
      gates = λ m lo hi. let e : j ≡ m = omega (arith, lo, hi) in subst (λ (n : ℕ). list_all (clause_value values) (frame_clauses (table c start q n) 1 c.nodes) ≡ true) e gates;
      goals = λ m lo hi. let e : j ≡ m = omega (arith, lo, hi) in subst (λ (n : ℕ). literal_value values (asked_in c start q n) ≡ true) e goal;
      state = map-values values scan.inputs f c.nodes c.state_in are is.state_in ∙ scan.state_is;
      read = ap (λ (bs : List Bool). bs ∷ []) (map-values values scan.inputs f c.nodes c.input are is.input ∙ scan.input_is);
    }
runs-from c start q is (suc r) j end s [] long fails before first given = absurd (omega (arith, long))
runs-from c start q is (suc r) j end s (i ∷ []) long fails before first given = absurd (omega (arith, long))
runs-from c start q is (suc r) j end s (i ∷ k ∷ inputs) long fails before first given =
    let scan = fails.0 in
    let f = table c start q j in
    let here = values_in c start q j scan.inputs before in
    let made : AreFrameValues scan.inputs c.nodes here (table c start q j) = frame-made c start q j scan.inputs before s is first scan.state_is given in
    let two = first-two c start q j in
    let up = first-next c start q j in
    let more = runs-from c start q is r (suc j) (omega (arith, end)) (next_of start s (values_of scan.inputs c.nodes c.state_out)) (k ∷ inputs) (omega (arith, long))
    fails.2 here (values-kept c start q j scan.inputs before 1 (omega (arith, two)) ∙ first) (next-given c start q j here scan.inputs s is made scan.state_is) in
    let last = (frame_at c start q j).next - 1 in
    let inside = table-inside c start q is.state_in is.state_out j last (omega (arith, next-two c start q j)) in
    let are = frame-kept scan.inputs c.nodes here more.values f last inside (λ u le. more.kept u (omega (arith, le, next-two c start q j))) made in
    let goal = asked-true c start q j more.values scan.inputs false is (ne_eqb (suc j) (frame_count q) (λ e. omega (arith, end, e))) are fails.1 in
    let gates = frame-holds more.values scan.inputs f c.nodes is.netlist are in
    let e : suc j ≡ j + 1 = omega arith in
    record {
      values = more.values;
      kept = λ u lt. more.kept u (omega (arith, lt, up)) ∙ values-kept c start q j scan.inputs before u lt;
      gates = λ m lo hi. elim (cases_eq j m) [
        | inl e ↦ subst (λ (n : ℕ). list_all (clause_value more.values) (frame_clauses (table c start q n) 1 c.nodes) ≡ true) e gates
        | inr ne ↦ more.gates m (omega (arith, lo, ne)) (omega (arith, hi))
      ];
      goals = λ m lo hi. elim (cases_eq j m) [
        | inl e ↦ subst (λ (n : ℕ). literal_value more.values (asked_in c start q n) ≡ true) e goal
        | inr ne ↦ more.goals m (omega (arith, lo, ne)) (omega (arith, hi))
      ];
      state = map-values more.values scan.inputs f c.nodes c.state_in are is.state_in ∙ scan.state_is;
      read = ap (λ (bs : List Bool). bs ∷ map (input_in c more.values) (map (table c start q) (range_with_len (j + 1) (suc r))))
          (map-values more.values scan.inputs f c.nodes c.input are is.input ∙ scan.input_is)
          ∙ ap (λ (iss : List (List Bool)). i ∷ iss)
          (subst (λ (n : ℕ). map (input_in c more.values) (map (table c start q) (range_with_len n (suc r))) ≡ k ∷ inputs) e more.read);
    }

-- ---- the whole formula

frames-true : (values : ℕ → Bool) (nodes : List Node) (t : ℕ → Frame) (a n : ℕ)
    → ((j : ℕ) → a ≤ j → j < a + n → list_all (clause_value values) (frame_clauses (t j) 1 nodes) ≡ true)
    → list_all (clause_value values) (flat_map (λ (f : Frame). frame_clauses f 1 nodes) (map t (range_with_len a n))) ≡ true
frames-true values nodes t a zero each = refl
frames-true values nodes t a (suc n) each =
    let rest = flat_map (λ (f : Frame). frame_clauses f 1 nodes) (map t (range_with_len (a + 1) n)) in
    list_all-append (clause_value values) (frame_clauses (t a) 1 nodes) rest
    ∙ and_from (list_all (clause_value values) (frame_clauses (t a) 1 nodes)) (list_all (clause_value values) rest) (each a (omega arith) (omega arith))
    (frames-true values nodes t (a + 1) n (λ j lo hi. each j (omega (arith, lo)) (omega (arith, hi))))

units-true : (values : ℕ → Bool) (f : ℕ → ℕ) (a n : ℕ) → ((j : ℕ) → a ≤ j → j < a + n → literal_value values (f j) ≡ true)
    → list_all (clause_value values) (map unit (map f (range_with_len a n))) ≡ true
units-true values f a zero each = refl
units-true values f a (suc n) each =
    and_from (literal_value values (f a) || false) (list_all (clause_value values) (map unit (map f (range_with_len (a + 1) n))))
    (or_false (literal_value values (f a)) ∙ each a (omega arith) (omega arith))
    (units-true values f (a + 1) n (λ j lo hi. each j (omega (arith, lo)) (omega (arith, hi))))

pub holds-by : (c : Circuit) (start : List Start) (q : Query) (values : ℕ → Bool) → Parts c start q values → Holds values (query_clauses c start q)
holds-by c start q values parts =
    let n = frame_count q in
    let gates = flat_map (λ (f : Frame). frame_clauses f 1 c.nodes) (map (table c start q) (range_with_len 0 n)) in
    let goals = map unit (map (asked_in c start q) (range_with_len 0 n)) in
    written-means values (unit 2 ∷ (gates ++ goals))
    ∙ and_from (values 1 || false) (list_all (clause_value values) (gates ++ goals)) (or_false (values 1) ∙ parts.first)
    (list_all-append (clause_value values) gates goals
    ∙ and_from (list_all (clause_value values) gates) (list_all (clause_value values) goals)
    (frames-true values c.nodes (table c start q) 0 n (λ j lo hi. parts.gates j (omega (arith, hi))))
    (units-true values (asked_in c start q) 0 n (λ j lo hi. parts.goals j (omega (arith, hi)))))

-- variable 1 alone
abbrev at_first : ℕ → Bool
at_first u = eqb u 1

by-run : (c : Circuit) (start : List Start) (q : Query) (run : BitRun) → IsCircuit c → (r : ℕ) → suc r ≡ frame_count q → length run.inputs ≡ suc r
    → FailsAtLast c start run.state run.inputs → AreGiven at_first (map (first_of q) start) run.state → HasValues c start q run
by-run c start q run is r end long fails given =
    let runs = runs-from c start q is r 0 (omega (arith, end)) run.state run.inputs long fails at_first refl given in
    let read = subst (λ (n : ℕ). map (input_in c runs.values) (map (table c start q) (range_with_len 0 n)) ≡ run.inputs) end runs.read in
    record {
      values = runs.values;
      holds = holds-by c start q runs.values (record {
        first = runs.kept 1 (lit≤ tt);
        gates = λ j lt. runs.gates j (omega arith) (omega (arith, lt, end));
        goals = λ j lt. runs.goals j (omega arith) (omega (arith, lt, end));
      });
      read = ap (λ (bs : List Bool). run_with bs (run_of c start q runs.values).inputs) runs.state
          ∙ ap (λ (iss : List (List Bool)). run_with run.state iss) read;
    }

start-given : (k : ℕ) (start : List Start) (s : List Bool) → AreStart start s → AreGiven at_first (map (first_of (Base k)) start) s
start-given k [] [] h = tt
start-given k [] (b ∷ s) h = h
start-given k (x ∷ start) [] h = h
start-given k (x ∷ start) (b ∷ s) h = (by x h.0, start-given k start s h.1)
  where
    by : (x : Start) → MayBegin x b → GivenIs at_first (first_of (Base k) x) b
    by (Fixed y) e = constant-value at_first y refl ∙ sym e
    by (Begins y) e = constant-value at_first y refl ∙ sym e
    by Free e = tt

state-given : (k : ℕ) (start : List Start) (s : List Bool) → AreState start s → AreGiven at_first (map (first_of (Step k)) start) s
state-given k [] [] h = tt
state-given k [] (b ∷ s) h = h
state-given k (x ∷ start) [] h = h
state-given k (x ∷ start) (b ∷ s) h = (by x h.0, state-given k start s h.1)
  where
    by : (x : Start) → MayBe x b → GivenIs at_first (first_of (Step k) x) b
    by (Fixed y) e = constant-value at_first y refl ∙ sym e
    by (Begins y) e = tt
    by Free e = tt

-- each run that meets a query has values
pub run-holds : (c : Circuit) (start : List Start) (q : Query) (run : BitRun) → IsCircuit c → Meets c start q run → HasValues c start q run
run-holds c start (Base zero) run is meets = absurd (none run.inputs meets.1 meets.2)
  where
    none : (inputs : List (List Bool)) → length inputs ≡ 0 → FailsAtLast c start run.state inputs → ⊥
    none [] long fails = fails
    none (i ∷ inputs) long fails = omega (arith, long)
run-holds c start (Base (suc r)) run is meets = by-run c start (Base (suc r)) run is r refl meets.1 meets.2 (start-given (suc r) start run.state meets.0)
run-holds c start (Step k) run is meets =
    by-run c start (Step k) run is k (omega arith) (omega (arith, meets.1)) meets.2 (state-given k start run.state meets.0)

-- ---- the formula holds exactly where each frame is a scan

pub scans-hold : (c : Circuit) (start : List Start) (q : Query) (values : ℕ → Bool) → IsCircuit c → AreScans c start q values → Holds values (query_clauses c start q)
scans-hold c start q values is scans = holds-by c start q values (record {
  first = scans.first;
  gates = λ j lt. let scan = scans.each j lt in frame-holds values scan.inputs (table c start q j) c.nodes is.netlist scan.nodes;
  goals = λ j lt.
      let scan = scans.each j lt in
      asked-true c start q j values scan.inputs (eqb (suc j) (frame_count q)) is refl scan.nodes scan.asked;
})

pub holds-scans : (c : Circuit) (start : List Start) (q : Query) (values : ℕ → Bool) → IsCircuit c → Holds values (query_clauses c start q) → AreScans c start q values
holds-scans c start q values is holds =
    let parts = parts-of c start q values holds in
    record {
      first = parts.first;
      each = λ j lt.
          let scan = scan-of c start q values is parts j lt in
          record {
            inputs = scan.0;
            nodes = scan.1;
            asked = asked-back c start q j values scan.0 (eqb (suc j) (frame_count q)) is refl scan.1 (parts.goals j lt);
          };
    }
  where
    asked-back : (c : Circuit) (start : List Start) (q : Query) (j : ℕ) (values inputs : ℕ → Bool) (b : Bool) → IsCircuit c → eqb (suc j) (frame_count q) ≡ b
        → AreFrameValues inputs c.nodes values (table c start q j) → literal_value values (asked_in c start q j) ≡ true
        → value_of inputs c.nodes (cond b c.fail c.ok) ≡ true
    asked-back c start q j values inputs true is last are h =
        sym (literal-is values inputs (table c start q j) c.nodes c.fail are is.fail)
        ∙ (sym (ap (λ (x : Bool). literal_value values (literal_in (table c start q j) (cond x c.fail c.ok))) last) ∙ h)
    asked-back c start q j values inputs false is last are h =
        sym (literal-is values inputs (table c start q j) c.nodes c.ok are is.ok)
        ∙ (sym (ap (λ (x : Bool). literal_value values (literal_in (table c start q j) (cond x c.fail c.ok))) last) ∙ h)
