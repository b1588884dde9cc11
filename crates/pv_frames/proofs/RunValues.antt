-- Values by which the formula of a query holds stand for a run that meets it.
use Rattle.std.proofs.Common.{◌≡◌, ℕ, ℤ, pos, ◌+◌, ◌*◌, ◌<◌, ◌≤◌, zero, suc, Bool, true, false, not, cond, eqb, ◌||◌, List, [], ◌∷◌, ◌++◌, length, take, map, get_or, All, Option, Some, None, unwrap_or, unsigned_abs, int_eq, refl, sym, ◌∙◌, ap, subst, arith, length-take-le}
use Rattle.std.specs.List.{list_all, list_any, flat_map, range_with_len}
use Rattle.std.proofs.lemmas.Bool.{and_parts, eq-eqb, ne_eqb, eqb-true, eqb-false, or_left, or_right, true≢false, false_from_ne_true}
use Rattle.std.proofs.lemmas.Cmp.{int_eq_equiv}
use Rattle.std.proofs.lemmas.List.{length-map, take_all, get_or-map, get_or-take, ext_get_or}
use Rattle.std.proofs.lemmas.List.Folds.{list_all-append}
use Rattle.std.proofs.lemmas.List.FromFn.{length-map-range_with_len}
use Rattle.pv_gate.proofs.ForCallers.{int_eq-true}
use Rattle.pv_gate.specs.declared.netlist.Node.{Node}
use Rattle.pv_gate.specs.Node.{Names, input_count}
use Rattle.pv_gate.specs.Value.{value_of}
use Rattle.pv_circuit.specs.declared.start.Start.{Start}
use Rattle.pv_circuit.specs.declared.start.Start.TheVariants.{Fixed, Begins, Free}
use Rattle.pv_circuit.specs.Circuits.{Circuit, IsCircuit, values_of}
use Rattle.pv_circuit.specs.Starts.{is_moved, next_of, MayBe, MayBegin, AreState, AreStart}
use Rattle.pv_cert.specs.declared.proof.Query.{Query}
use Rattle.pv_cert.specs.declared.proof.Query.TheVariants.{Base, Step}
use Rattle.pv_cnf.specs.Literal.{literal_value}
use Rattle.pv_cnf.specs.Clause.{clause_value, Holds}
use Rattle.pv_frames.specs.Frames.{Frame, literal_in, frame_clauses}
use Rattle.pv_frames.specs.Formulas.{unit}
use Rattle.pv_frames.specs.Values.{AreFrameValues}
use Rattle.pv_frames.specs.Queries.{IsAsked, frame_count, first_of, constant, given_for, numbered, own_below, frame_at, next_literals, table, asked_in, query_clauses}
use Rattle.pv_frames.specs.Runs.{FailsAtLast, Meets, input_in, run_of}
use Rattle.pv_frames.proofs.Written.{written-means}
use Rattle.pv_frames.proofs.Giving.{given-more, numbered-is}
use Rattle.pv_frames.proofs.Counting.{Distinct, distinct, length-next_of}
use Rattle.pv_frames.proofs.FromCircuit.{begins-of}
use Rattle.pv_frames.proofs.FrameValues.{frame-only, literal-is}

-- ---- the formula's parts

pub or_false : (b : Bool) → (b || false) ≡ b
or_false true = refl
or_false false = refl

frame-true : (values : ℕ → Bool) (nodes : List Node) (t : ℕ → Frame) (a n : ℕ)
    → list_all (clause_value values) (flat_map (λ (f : Frame). frame_clauses f 1 nodes) (map t (range_with_len a n))) ≡ true
    → (j : ℕ) → a ≤ j → j < a + n → list_all (clause_value values) (frame_clauses (t j) 1 nodes) ≡ true
frame-true values nodes t a zero h j from to = absurd (omega (arith, from, to))
frame-true values nodes t a (suc n) h j from to =
    let rest = flat_map (λ (f : Frame). frame_clauses f 1 nodes) (map t (range_with_len (a + 1) n)) in
    let parts = and_parts (list_all (clause_value values) (frame_clauses (t a) 1 nodes)) (list_all (clause_value values) rest)
    (sym (list_all-append (clause_value values) (frame_clauses (t a) 1 nodes) rest) ∙ h) in
    by (eqb j a) refl parts.0 (λ ne. frame-true values nodes t (a + 1) n parts.1 j (omega arith) (omega arith))
  where
    by : (b : Bool) → eqb j a ≡ b → list_all (clause_value values) (frame_clauses (t a) 1 nodes) ≡ true
        → ((j ≡ a → ⊥) → list_all (clause_value values) (frame_clauses (t j) 1 nodes) ≡ true)
        → list_all (clause_value values) (frame_clauses (t j) 1 nodes) ≡ true
    by true e here more = subst (λ (i : ℕ). list_all (clause_value values) (frame_clauses (t i) 1 nodes) ≡ true) (sym (eqb-true j a e)) here
    by false e here more = more (eqb-false j a e)

unit-true : (values : ℕ → Bool) (f : ℕ → ℕ) (a n : ℕ) → list_all (clause_value values) (map unit (map f (range_with_len a n))) ≡ true
    → (j : ℕ) → a ≤ j → j < a + n → literal_value values (f j) ≡ true
unit-true values f a zero h j from to = absurd (omega (arith, from, to))
unit-true values f a (suc n) h j from to =
    let parts = and_parts (literal_value values (f a) || false) (list_all (clause_value values) (map unit (map f (range_with_len (a + 1) n)))) h in
    by (eqb j a) refl (sym (or_false (literal_value values (f a))) ∙ parts.0)
    (λ ne. unit-true values f (a + 1) n parts.1 j (omega arith) (omega arith))
  where
    by : (b : Bool) → eqb j a ≡ b → literal_value values (f a) ≡ true → ((j ≡ a → ⊥) → literal_value values (f j) ≡ true) → literal_value values (f j) ≡ true
    by true e here more = subst (λ (i : ℕ). literal_value values (f i) ≡ true) (sym (eqb-true j a e)) here
    by false e here more = more (eqb-false j a e)

-- what a formula that holds says
pub record Parts (c : Circuit) (start : List Start) (q : Query) (values : ℕ → Bool) : Type 0 where
  pub first : values 1 ≡ true
  pub gates : (j : ℕ) → j < frame_count q → list_all (clause_value values) (frame_clauses (table c start q j) 1 c.nodes) ≡ true
  pub goals : (j : ℕ) → j < frame_count q → literal_value values (asked_in c start q j) ≡ true

pub parts-of : (c : Circuit) (start : List Start) (q : Query) (values : ℕ → Bool) → Holds values (query_clauses c start q) → Parts c start q values
parts-of c start q values holds =
    let n = frame_count q in
    let gates = flat_map (λ (f : Frame). frame_clauses f 1 c.nodes) (map (table c start q) (range_with_len 0 n)) in
    let goals = map unit (map (asked_in c start q) (range_with_len 0 n)) in
    let all = sym (written-means values (unit 2 ∷ (gates ++ goals))) ∙ holds in
    let one = and_parts (values 1 || false) (list_all (clause_value values) (gates ++ goals)) all in
    let two = and_parts (list_all (clause_value values) gates) (list_all (clause_value values) goals) (sym (list_all-append (clause_value values) gates goals) ∙ one.1) in
    record {
      first = sym (or_false (values 1)) ∙ one.0;
      gates = λ j lt. frame-true values c.nodes (table c start q) 0 n two.0 j (omega arith) (omega (arith, lt));
      goals = λ j lt. unit-true values (asked_in c start q) 0 n two.1 j (omega arith) (omega (arith, lt));
    }

-- ---- what the bits' literals are

any-at : (p : ℤ → Bool) (xs : List ℤ) (k : ℕ) → k < length xs → p (get_or xs k (pos 0)) ≡ true → list_any p xs ≡ true
any-at p [] k lt h = absurd (omega (arith, lt))
any-at p (x ∷ xs) zero lt h = or_left (p x) (list_any p xs) h
any-at p (x ∷ xs) (suc k) lt h = or_right (p x) (list_any p xs) (any-at p xs k (omega (arith, lt)) h)

stands-before : (ls : List ℤ) (k m : ℕ) → m < length ls → k < m → get_or ls k (pos 0) ≡ get_or ls m (pos 0)
    → list_any (λ l. int_eq l (get_or ls m (pos 0))) (take m ls) ≡ false → ⊥
stands-before ls k m lt before same apart =
    let here : get_or (take m ls) k (pos 0) ≡ get_or ls m (pos 0) = get_or-take m ls k (pos 0) before ∙ same in
    let it : int_eq (get_or (take m ls) k (pos 0)) (get_or ls m (pos 0)) ≡ true =
    subst (λ (z : ℤ). int_eq z (get_or ls m (pos 0)) ≡ true) (sym here) (int_eq_equiv.refl (get_or ls m (pos 0))) in
    true≢false (sym (any-at (λ l. int_eq l (get_or ls m (pos 0))) (take m ls) k (omega (arith, before, lt, length-take-le m ls (omega (arith, lt)))) it) ∙ apart)

-- what is given beside a node's literal is given for the node
given-kept : (ls : List ℤ) (gs : List (Option ℕ)) (k : ℕ) (l : ℤ) (n : ℕ) → length gs ≡ length ls → Distinct ls → k < length ls → l ≡ get_or ls k (pos 0) → l ≡ pos n
    → (m : ℕ) → k < m → m ≤ length ls → given_for None (take m ls) (take m gs) n ≡ get_or gs k None
given-kept ls gs k l n long apart lt at is zero from to = absurd (omega (arith, from))
given-kept ls gs k l n long apart lt at is (suc m) from to =
    by (eqb k m) refl (λ before. given-kept ls gs k l n long apart lt at is m before (omega arith))
  where
    more : given_for None (take (suc m) ls) (take (suc m) gs) n ≡ cond (int_eq (get_or ls m (pos 0)) (pos n)) (get_or gs m None) (given_for None (take m ls) (take m gs) n)
    more = given-more None ls gs m n (pos 0) None (omega (arith, to)) (omega (arith, to, long))

    by : (b : Bool) → eqb k m ≡ b → (k < m → given_for None (take m ls) (take m gs) n ≡ get_or gs k None)
        → given_for None (take (suc m) ls) (take (suc m) gs) n ≡ get_or gs k None
    by true e rest =
        let same = eqb-true k m e in
        let it : int_eq (get_or ls m (pos 0)) (pos n) ≡ true = subst (λ (z : ℤ). int_eq z (pos n) ≡ true)
        (sym is ∙ (at ∙ ap (λ (i : ℕ). get_or ls i (pos 0)) same)) (int_eq_equiv.refl (pos n)) in
        more ∙ (ap (λ (b : Bool). cond b (get_or gs m None) (given_for None (take m ls) (take m gs) n)) it ∙ ap (λ (i : ℕ). get_or gs i None) (sym same))
    by false e rest =
        let ne = eqb-false k m e in
        let before : k < m = omega (arith, from) in
        let other : int_eq (get_or ls m (pos 0)) (pos n) ≡ false = false_from_ne_true (int_eq (get_or ls m (pos 0)) (pos n))
        (λ found. stands-before ls k m (omega (arith, to)) before (sym at ∙ (is ∙ sym (int_eq-true (get_or ls m (pos 0)) (pos n) found))) (apart m (omega (arith, to)))) in
        more ∙ (ap (λ (b : Bool). cond b (get_or gs m None) (given_for None (take m ls) (take m gs) n)) other ∙ rest before)

-- the literal of a state's bit is what is given for it, if something is
bit-literal : (c : Circuit) (gs : List (Option ℕ)) (v k : ℕ) → IsCircuit c → length gs ≡ length c.state_in → k < length c.state_in
    → (own : ℕ) × (literal_in (numbered (given_for None c.state_in gs) v) (get_or c.state_in k (pos 0)) ≡ unwrap_or (get_or gs k None) own)
bit-literal c gs v k is long lt =
    let ls = c.state_in in
    let l = get_or c.state_in k (pos 0) in
    let begin = begins-of c is k (pos 0) lt in
    let n = unsigned_abs l in
    let apart = distinct (input_count c.nodes) c.state_in c.input is.all_inputs in
    let f = numbered (given_for None c.state_in gs) v in
    let kept = given-kept c.state_in gs k l n long apart lt refl begin.positive (length c.state_in) lt (omega arith) in
    let given : given_for None c.state_in gs n ≡ get_or gs k None =
    sym (ap (λ (zs : List ℤ). given_for None zs (take (length c.state_in) gs) n) (take_all (length c.state_in) c.state_in (omega arith))
    ∙ ap (λ (os : List (Option ℕ)). given_for None c.state_in os n) (take_all (length c.state_in) gs (omega (arith, long))))
    ∙ kept in (
      2 * (v + own_below (given_for None c.state_in gs) n),
      ap (literal_in f) begin.positive
          ∙ (numbered-is (given_for None c.state_in gs) v n begin.from_two
          ∙ ap (λ (o : Option ℕ). unwrap_or o (2 * (v + own_below (given_for None c.state_in gs) n))) given),
    )

-- in a later frame they are those behind the frame before it
next-literals : (c : Circuit) (start : List Start) (q : Query) (j : ℕ) → IsCircuit c → length start ≡ length c.state_in
    → map (literal_in (table c start q (suc j))) c.state_in ≡ next_literals c start (table c start q j)
next-literals c start q j is starts =
    let lits = next_literals c start (table c start q j) in
    let gs = map (λ (lit : ℕ). Some lit) lits in
    let f = table c start q (suc j) in
    let long : length lits ≡ length c.state_in =
    length-next_of start (map (literal_in (table c start q j)) c.state_in) (map (literal_in (table c start q j)) c.state_out)
    (length-map c.state_in (literal_in (table c start q j)) ∙ sym starts) (length-map c.state_out (literal_in (table c start q j)) ∙ (is.same_state ∙ sym starts)) ∙ starts in
    ext_get_or 0 (map (literal_in f) c.state_in) lits (length-map c.state_in (literal_in f) ∙ sym long) (λ k lt.
    let below : k < length c.state_in = omega (arith, lt, length-map c.state_in (literal_in f)) in
    let found = bit-literal c gs (frame_at c start q j).next k is (length-map lits (λ (lit : ℕ). Some lit) ∙ long) below in
    get_or-map (literal_in f) c.state_in k (pos 0) 0 below
    ∙ (found.1 ∙ ap (λ (o : Option ℕ). unwrap_or o found.0) (get_or-map (λ (lit : ℕ). Some lit) lits k 0 None (omega (arith, below, long)))))

pub map-next_of : (g : ℕ → Bool) (start : List Start) (xs ys : List ℕ) → map g (next_of start xs ys) ≡ next_of start (map g xs) (map g ys)
map-next_of g [] xs ys = refl
map-next_of g (s ∷ start) [] ys = refl
map-next_of g (s ∷ start) (x ∷ xs) [] = refl
map-next_of g (s ∷ start) (x ∷ xs) (y ∷ ys) =
    ap (λ (b : Bool). b ∷ map g (next_of start xs ys)) (by (is_moved s)) ∙ ap (λ (bs : List Bool). cond (is_moved s) (g y) (g x) ∷ bs) (map-next_of g start xs ys)
  where
    by : (b : Bool) → g (cond b y x) ≡ cond b (g y) (g x)
    by true = refl
    by false = refl

pub map-twice : {A B C : Type 0} (g : B → C) (f : A → B) (xs : List A) → map g (map f xs) ≡ map (λ x. g (f x)) xs
map-twice g f [] = refl
map-twice g f (x ∷ xs) = ap (λ ys. g (f x) ∷ ys) (map-twice g f xs)

pub map-values : (values inputs : ℕ → Bool) (f : Frame) (nodes : List Node) (ls : List ℤ) → AreFrameValues inputs nodes values f → All (Names (length nodes)) ls
    → map (λ l. literal_value values (literal_in f l)) ls ≡ values_of inputs nodes ls
map-values values inputs f nodes [] are names = refl
map-values values inputs f nodes (l ∷ ls) are names =
    ap (λ (b : Bool). b ∷ map (λ l. literal_value values (literal_in f l)) ls) (literal-is values inputs f nodes l are (names 0 l (omega arith)))
    ∙ ap (λ (bs : List Bool). value_of inputs nodes l ∷ bs) (map-values values inputs f nodes ls are (λ k d lt. names (suc k) d (omega arith)))

-- ---- the first frame

first-bits : {P : Start → Bool → Type 0} → (P_all : List Start → List Bool → Type 0)
    → P_all [] [] → ((s : Start) (start : List Start) (b : Bool) (bits : List Bool) → P s b → P_all start bits → P_all (s ∷ start) (b ∷ bits))
    → (start : List Start) (bits : List Bool) → length bits ≡ length start
    → ((k : ℕ) → k < length start → P (get_or start k Free) (get_or bits k false)) → P_all start bits
first-bits P_all none more [] [] long each = none
first-bits P_all none more [] (b ∷ bits) long each = absurd (omega (arith, long))
first-bits P_all none more (s ∷ start) [] long each = absurd (omega (arith, long))
first-bits {P} P_all none more (s ∷ start) (b ∷ bits) long each =
    more s start b bits (each 0 (omega arith)) (first-bits {P = P} P_all none more start bits (omega (arith, long)) (λ k lt. each (suc k) (omega (arith, lt))))

pub constant-value : (values : ℕ → Bool) (b : Bool) → values 1 ≡ true → literal_value values (constant b) ≡ b
constant-value values true h = h
constant-value values false h = ap not h

-- the bits of frame j's state and input
abbrev pub state_at : Circuit → List Start → Query → (ℕ → Bool) → ℕ → List Bool
state_at c start q values j = map (λ l. literal_value values (literal_in (table c start q j) l)) c.state_in

first-bit : (c : Circuit) (start : List Start) (q : Query) (values : ℕ → Bool) (k : ℕ) → IsCircuit c → length start ≡ length c.state_in → k < length start
    → (own : ℕ) × (get_or (state_at c start q values 0) k false ≡ literal_value values (unwrap_or (first_of q (get_or start k Free)) own))
first-bit c start q values k is starts lt =
    let gs = map (first_of q) start in
    let found = bit-literal c gs 2 k is (length-map start (first_of q) ∙ starts) (omega (arith, lt, starts)) in (
      found.0,
      get_or-map (λ l. literal_value values (literal_in (table c start q 0) l)) c.state_in k (pos 0) false (omega (arith, lt, starts))
          ∙ ap (literal_value values) (found.1 ∙ ap (λ (o : Option ℕ). unwrap_or o found.0) (get_or-map (first_of q) start k Free None lt)),
    )

are-start : (c : Circuit) (start : List Start) (n : ℕ) (values : ℕ → Bool) → IsCircuit c → length start ≡ length c.state_in → values 1 ≡ true
    → AreStart start (state_at c start (Base n) values 0)
are-start c start n values is starts first =
    first-bits {P = MayBegin} AreStart tt (λ s start b bits p ps. (p, ps)) start (state_at c start (Base n) values 0)
    (length-map c.state_in (λ l. literal_value values (literal_in (table c start (Base n) 0) l)) ∙ sym starts)
    (λ k lt. let found = first-bit c start (Base n) values k is starts lt in by (get_or start k Free) found.0 (get_or (state_at c start (Base n) values 0) k false) found.1)
  where
    by : (s : Start) (own : ℕ) (b : Bool) → b ≡ literal_value values (unwrap_or (first_of (Base n) s) own) → MayBegin s b
    by (Fixed x) own b e = e ∙ constant-value values x first
    by (Begins x) own b e = e ∙ constant-value values x first
    by Free own b e = tt

are-state : (c : Circuit) (start : List Start) (n : ℕ) (values : ℕ → Bool) → IsCircuit c → length start ≡ length c.state_in → values 1 ≡ true
    → AreState start (state_at c start (Step n) values 0)
are-state c start n values is starts first =
    first-bits {P = MayBe} AreState tt (λ s start b bits p ps. (p, ps)) start (state_at c start (Step n) values 0)
    (length-map c.state_in (λ l. literal_value values (literal_in (table c start (Step n) 0) l)) ∙ sym starts)
    (λ k lt. let found = first-bit c start (Step n) values k is starts lt in by (get_or start k Free) found.0 (get_or (state_at c start (Step n) values 0) k false) found.1)
  where
    by : (s : Start) (own : ℕ) (b : Bool) → b ≡ literal_value values (unwrap_or (first_of (Step n) s) own) → MayBe s b
    by (Fixed x) own b e = e ∙ constant-value values x first
    by (Begins x) own b e = tt
    by Free own b e = tt

-- ---- frame by frame

pub first-node : (c : Circuit) (start : List Start) (q : Query) (j : ℕ) → table c start q j 1 ≡ 2
first-node c start q zero = refl
first-node c start q (suc j) = refl

pub scan-of : (c : Circuit) (start : List Start) (q : Query) (values : ℕ → Bool) → IsCircuit c → Parts c start q values → (j : ℕ) → j < frame_count q
    → (inputs : ℕ → Bool) × AreFrameValues inputs c.nodes values (table c start q j)
scan-of c start q values is parts j lt =
    frame-only values (table c start q j) c.nodes is.netlist (ap (literal_value values) (first-node c start q j) ∙ parts.first) (parts.gates j lt)

state-next : (c : Circuit) (start : List Start) (q : Query) (values inputs : ℕ → Bool) (j : ℕ) → IsCircuit c → length start ≡ length c.state_in
    → AreFrameValues inputs c.nodes values (table c start q j)
    → state_at c start q values (suc j) ≡ next_of start (state_at c start q values j) (values_of inputs c.nodes c.state_out)
state-next c start q values inputs j is starts are =
    let g = literal_value values in
    let f = table c start q j in
    sym (map-twice g (literal_in (table c start q (suc j))) c.state_in)
    ∙ (ap (map g) (next-literals c start q j is starts)
    ∙ (map-next_of g start (map (literal_in f) c.state_in) (map (literal_in f) c.state_out)
    ∙ (ap (λ (bs : List Bool). next_of start bs (map g (map (literal_in f) c.state_out))) (map-twice g (literal_in f) c.state_in)
    ∙ ap (λ (bs : List Bool). next_of start (state_at c start q values j) bs) (map-twice g (literal_in f) c.state_out ∙ map-values values inputs f c.nodes c.state_out are is.state_out))))

fails-from : (c : Circuit) (start : List Start) (q : Query) (values : ℕ → Bool) → IsCircuit c → length start ≡ length c.state_in → Parts c start q values
    → (r j : ℕ) → j + suc r ≡ frame_count q
    → FailsAtLast c start (state_at c start q values j) (map (input_in c values) (map (table c start q) (range_with_len j (suc r))))
fails-from c start q values is starts parts zero j end =
    let found = scan-of c start q values is parts j (omega (arith, end)) in
    let f = table c start q j in
    let last : suc j ≡ frame_count q = omega (arith, end) in
    let goal = ap (λ (b : Bool). literal_value values (literal_in f (cond b c.fail c.ok))) (eq-eqb (suc j) (frame_count q) last) in (
      record {
        inputs = found.0;
        state_is = sym (map-values values found.0 f c.nodes c.state_in found.1 is.state_in);
        input_is = sym (map-values values found.0 f c.nodes c.input found.1 is.input);
      },
      sym (literal-is values found.0 f c.nodes c.fail found.1 is.fail) ∙ (sym goal ∙ parts.goals j (omega (arith, end))),
    )
fails-from c start q values is starts parts (suc r) j end =
    let found = scan-of c start q values is parts j (omega (arith, end)) in
    let f = table c start q j in
    let goal = ap (λ (b : Bool). literal_value values (literal_in f (cond b c.fail c.ok))) (ne_eqb (suc j) (frame_count q) (λ e. omega (arith, end, e))) in
    let e : suc j ≡ j + 1 = omega arith in
    let next : state_at c start q values (j + 1) ≡ next_of start (state_at c start q values j) (values_of found.0 c.nodes c.state_out) =
    subst (λ (n : ℕ). state_at c start q values n ≡ next_of start (state_at c start q values j) (values_of found.0 c.nodes c.state_out)) e
    (state-next c start q values found.0 j is starts found.1) in (
      record {
        inputs = found.0;
        state_is = sym (map-values values found.0 f c.nodes c.state_in found.1 is.state_in);
        input_is = sym (map-values values found.0 f c.nodes c.input found.1 is.input);
      },
      sym (literal-is values found.0 f c.nodes c.ok found.1 is.ok) ∙ (sym goal ∙ parts.goals j (omega (arith, end))),
      subst (λ (s : List Bool). FailsAtLast c start s (map (input_in c values) (map (table c start q) (range_with_len (j + 1) (suc r))))) next
          (fails-from c start q values is starts parts r (j + 1) (omega (arith, end))),
    )

inputs-count : (c : Circuit) (start : List Start) (q : Query) (values : ℕ → Bool) (n : ℕ)
    → length (map (input_in c values) (map (table c start q) (range_with_len 0 n))) ≡ n
inputs-count c start q values n =
    length-map (map (table c start q) (range_with_len 0 n)) (input_in c values) ∙ length-map-range_with_len (table c start q) 0 n

-- values that make the formula hold stand for a run that meets the query
pub run-meets : (c : Circuit) (start : List Start) (q : Query) (values : ℕ → Bool) → IsCircuit c → length start ≡ length c.state_in → IsAsked q
    → Holds values (query_clauses c start q) → Meets c start q (run_of c start q values)
run-meets c start (Base zero) values is starts asks holds = absurd (omega (arith, asks.0))
run-meets c start (Base (suc r)) values is starts asks holds =
    let parts = parts-of c start (Base (suc r)) values holds in (
      are-start c start (suc r) values is starts parts.first,
      inputs-count c start (Base (suc r)) values (suc r),
      fails-from c start (Base (suc r)) values is starts parts r 0 (omega arith),
    )
run-meets c start (Step k) values is starts asks holds =
    let q = Step k in
    let parts = parts-of c start (Step k) values holds in
    let e : suc k ≡ k + 1 = omega arith in (
      are-state c start k values is starts parts.first,
      inputs-count c start (Step k) values (k + 1),
      subst (λ (n : ℕ). FailsAtLast c start (state_at c start (Step k) values 0) (map (input_in c values) (map (table c start (Step k)) (range_with_len 0 n)))) e
          (fails-from c start (Step k) values is starts parts k 0 (omega arith)),
    )
