-- The clauses of a query are clauses over the variables up to the last one of its last frame.
use Rattle.std.proofs.Common.{◌≡◌, ℕ, ◌+◌, ◌*◌, ◌≤◌, zero, suc, ℤ, pos, negsuc, Bool, true, false, cond, eqb, List, [], ◌∷◌, length, take, map, All, Option, Some, None, unwrap_or, int_eq, refl, ◌∙◌, ap, subst, arith, inl, inr, lit≤, length-take-le}
use Rattle.std.specs.List.{flat_map, AllByRecursion}
use Rattle.std.proofs.lemmas.Bool.{cases_eq, eq-eqb}
use Rattle.std.proofs.lemmas.Option.{slice_get_within}
use Rattle.pv_gate.specs.declared.netlist.Node.{Node}
use Rattle.pv_gate.specs.declared.netlist.Node.TheVariants.{True, Input, And, Xor, Mux}
use Rattle.pv_gate.specs.Node.{Names}
use Rattle.pv_gate.specs.Netlist.{IsNetlist, MayFollow}
use Rattle.pv_gate.proofs.ForCallers.{Names-more}
use Rattle.pv_circuit.specs.declared.start.Start.{Start}
use Rattle.pv_circuit.specs.declared.start.Start.TheVariants.{Fixed, Begins, Free}
use Rattle.pv_circuit.specs.Circuits.{Circuit}
use Rattle.pv_circuit.specs.Starts.{is_moved, next_of}
use Rattle.pv_cert.specs.declared.proof.Query.{Query}
use Rattle.pv_cert.specs.declared.proof.Query.TheVariants.{Base, Step}
use Rattle.pv_cnf.specs.Literal.{is_outside}
use Rattle.pv_cnf.specs.Clause.{AreClauses}
use Rattle.pv_frames.specs.Frames.{Frame, literal_in, node_clauses, frame_clauses}
use Rattle.pv_frames.specs.Formulas.{written}
use Rattle.pv_frames.specs.Queries.{constant, first_of, given_for, is_own, own_below, numbered, frame_at, next_literals, table, asked_in, frame_count}
use Rattle.pv_frames.specs.Tables.{Inside}
use Rattle.pv_frames.proofs.Literals.{outside-complement}
use Rattle.pv_frames.proofs.FrameLists.{AreInside, written-all, inside-variable, and-inside, xor-inside, mux-inside, frame-valid}
use Rattle.pv_frames.proofs.Giving.{bit, own-none, numbered-is}

pub literal-inside : (v m : ℕ) (f : Frame) (l : ℤ) → Inside v m f → Names m l → is_outside v (literal_in f l) ≡ false
literal-inside v m f (pos n) all h = all n (omega (arith, h.from_one)) (omega (arith, h.to_last))
literal-inside v m f (negsuc n) all h = outside-complement v (f (suc n)) ∙ all (suc n) (omega arith) (omega (arith, h.to_last))

-- ---- the clauses of a frame

node-inside : (v m n : ℕ) (f : Frame) (before : List Node) (node : Node) → Inside v m f → 1 ≤ n → n ≤ m → length before ≤ m → MayFollow before node
    → AreClauses v (flat_map written (node_clauses f n node))
node-inside v m n f before node all one few less follows = written-all v (node_clauses f n node) (by node follows)
  where
    gate : is_outside v (f n) ≡ false
    gate = all n one few

    operand : (l : ℤ) → Names (length before) l → is_outside v (literal_in f l) ≡ false
    operand l h = literal-inside v m f l all (Names-more (length before) m l less h)

    by : (node : Node) → MayFollow before node → AllByRecursion (AreInside v) (node_clauses f n node)
    by True h = tt
    by (Input i) h = tt
    by (And a b) h = and-inside v _ _ _ gate (operand a h.0) (operand b h.1)
    by (Xor a b) h = xor-inside v _ _ _ gate (operand a h.0) (operand b h.1)
    by (Mux s a b) h = mux-inside v _ _ _ _ gate (operand s h.0) (operand a h.1.0) (operand b h.1.1)

pub gates-valid : (v : ℕ) (f : Frame) (nodes : List Node) → IsNetlist nodes → Inside v (length nodes) f → AreClauses v (flat_map written (frame_clauses f 1 nodes))
gates-valid v f nodes net all = frame-valid f v 1 nodes (λ k node at.
    let below = slice_get_within nodes k node at in
    let taken = length-take-le k nodes (omega arith) in
    node-inside v (length nodes) (1 + k) f (take k nodes) node all (omega arith) (omega arith) (omega arith) (net.each k node at))

-- ---- literals that are given

abbrev pub GivenInside : ℕ → Option ℕ → Type 0
GivenInside v None = Unit {0}
GivenInside v (Some lit) = is_outside v lit ≡ false

pub given-inside : (v : ℕ) (found : Option ℕ) (ls : List ℤ) (gs : List (Option ℕ)) (n : ℕ) → GivenInside v found → AllByRecursion (GivenInside v) gs
    → GivenInside v (given_for found ls gs n)
given-inside v found [] gs n here all = here
given-inside v found (l ∷ ls) [] n here all = here
given-inside v found (l ∷ ls) (g ∷ gs) n here all = given-inside v (cond (int_eq l (pos n)) g found) ls gs n (by (int_eq l (pos n))) all.1
  where
    by : (b : Bool) → GivenInside v (cond b g found)
    by true = all.0
    by false = here

pub own-rises : (given : ℕ → Option ℕ) (m n : ℕ) → m ≤ n → own_below given m ≤ own_below given n
own-rises given m zero le = let e : 0 ≡ m = omega arith in subst (λ (i : ℕ). own_below given i ≤ own_below given 0) e (lit≤ tt)
own-rises given m (suc n) le = elim (cases_eq m (suc n)) [
  | inl e ↦ subst (λ (i : ℕ). own_below given m ≤ own_below given i) e (omega arith)
  | inr ne ↦ let rest = own-rises given m n (omega arith) in omega (arith, rest)
]

variable-inside : (v : ℕ) (given : ℕ → Option ℕ) (first m n : ℕ) (o : Option ℕ) → 1 ≤ first → first + own_below given (1 + m) ≤ 1 + v → 2 ≤ n → n ≤ m
    → given n ≡ o → GivenInside v o → is_outside v (unwrap_or o (2 * (first + own_below given n))) ≡ false
variable-inside v given first m n (Some lit) one room two few is h = h
variable-inside v given first m n None one room two few is h =
    let own : bit (is_own given n) ≡ 1 = ap bit (own-none given n two is) in
    let up : own_below given n + bit (is_own given n) ≤ own_below given (1 + m) = own-rises given (suc n) (1 + m) (omega arith) in
    inside-variable v (2 * (first + own_below given n)) (omega arith) (omega (arith, own, up))

-- each literal of a frame is given or one of its variables
numbered-inside : (v : ℕ) (given : ℕ → Option ℕ) (first m : ℕ) → 1 ≤ first → first + own_below given (1 + m) ≤ 1 + v → 1 ≤ v
    → ((n : ℕ) → GivenInside v (given n)) → Inside v m (numbered given first)
numbered-inside v given first m one room some each n from to = elim (cases_eq n 1) [
  | inl e ↦
      ap (λ (b : Bool). is_outside v (cond b 2 (unwrap_or (given n) (2 * (first + own_below given n))))) (eq-eqb n 1 e)
      ∙ inside-variable v 2 (lit≤ tt) (omega arith)
  | inr ne ↦
      ap (is_outside v) (numbered-is given first n (omega arith))
      ∙ variable-inside v given first m n (given n) one room (omega arith) to refl (each n)
]

constant-inside : (v : ℕ) (b : Bool) → 1 ≤ v → is_outside v (constant b) ≡ false
constant-inside v true some = inside-variable v 2 (lit≤ tt) (omega arith)
constant-inside v false some = inside-variable v 3 (lit≤ tt) (omega arith)

pub first-inside : (v : ℕ) (q : Query) (start : List Start) → 1 ≤ v → AllByRecursion (GivenInside v) (map (first_of q) start)
first-inside v q [] some = tt
first-inside v q (s ∷ start) some = (by q s, first-inside v q start some)
  where
    by : (q : Query) (s : Start) → GivenInside v (first_of q s)
    by (Base k) (Fixed b) = constant-inside v b some
    by (Base k) (Begins b) = constant-inside v b some
    by (Base k) Free = tt
    by (Step k) (Fixed b) = constant-inside v b some
    by (Step k) (Begins b) = tt
    by (Step k) Free = tt

pub literals-inside : (v m : ℕ) (f : Frame) (ls : List ℤ) → Inside v m f → All (Names m) ls → AllByRecursion (λ lit. is_outside v lit ≡ false) (map (literal_in f) ls)
literals-inside v m f [] all names = tt
literals-inside v m f (l ∷ ls) all names =
    (literal-inside v m f l all (names 0 l (omega arith)), literals-inside v m f ls all (λ k d lt. names (suc k) d (omega arith)))

pub next-inside : (v : ℕ) (start : List Start) (xs ys : List ℕ) → AllByRecursion (λ lit. is_outside v lit ≡ false) xs → AllByRecursion (λ lit. is_outside v lit ≡ false) ys
    → AllByRecursion (GivenInside v) (map (λ lit. Some lit) (next_of start xs ys))
next-inside v [] xs ys p q = tt
next-inside v (s ∷ start) [] ys p q = tt
next-inside v (s ∷ start) (x ∷ xs) [] p q = tt
next-inside v (s ∷ start) (x ∷ xs) (y ∷ ys) p q = (by (is_moved s), next-inside v start xs ys p.1 q.1)
  where
    by : (b : Bool) → is_outside v (cond b y x) ≡ false
    by true = q.0
    by false = p.0

-- ---- frame by frame

pub next-two : (c : Circuit) (start : List Start) (q : Query) (j : ℕ) → 2 ≤ (frame_at c start q j).next
next-two c start q zero = omega arith
next-two c start q (suc j) = let before = next-two c start q j in omega (arith, before)

pub next-up : (c : Circuit) (start : List Start) (q : Query) (j k : ℕ) → j ≤ k → (frame_at c start q j).next ≤ (frame_at c start q k).next
next-up c start q j zero le = let e : 0 ≡ j = omega arith in subst (λ (i : ℕ). (frame_at c start q i).next ≤ (frame_at c start q 0).next) e (omega arith)
next-up c start q j (suc k) le = elim (cases_eq j (suc k)) [
  | inl e ↦ subst (λ (i : ℕ). (frame_at c start q j).next ≤ (frame_at c start q i).next) e (omega arith)
  | inr ne ↦ let rest = next-up c start q j k (omega arith) in omega (arith, rest)
]

pub table-inside : (c : Circuit) (start : List Start) (q : Query) → All (Names (length c.nodes)) c.state_in → All (Names (length c.nodes)) c.state_out
    → (j v : ℕ) → (frame_at c start q j).next ≤ 1 + v → Inside v (length c.nodes) (table c start q j)
table-inside c start q ins outs zero v room =
    let gs = map (first_of q) start in
    let some : 1 ≤ v = omega (arith, next-two c start q 0) in
    numbered-inside v (given_for None c.state_in gs) 2 (length c.nodes) (lit≤ tt) room some
    (λ n. given-inside v None c.state_in gs n tt (first-inside v q start some))
table-inside c start q ins outs (suc j) v room =
    let before = table-inside c start q ins outs j v (omega (arith, room, next-up c start q j (suc j) (omega arith))) in
    let f = table c start q j in
    let gs = map (λ (lit : ℕ). Some lit) (next_literals c start f) in
    let two = next-two c start q j in
    numbered-inside v (given_for None c.state_in gs) (frame_at c start q j).next (length c.nodes) (omega arith) room
    (omega (arith, room, next-two c start q (suc j)))
    (λ n. given-inside v None c.state_in gs n tt (next-inside v start (map (literal_in f) c.state_in) (map (literal_in f) c.state_out)
    (literals-inside v (length c.nodes) f c.state_in before ins) (literals-inside v (length c.nodes) f c.state_out before outs)))

-- what has to be true in a frame
pub asked-inside : (c : Circuit) (start : List Start) (q : Query) → All (Names (length c.nodes)) c.state_in → All (Names (length c.nodes)) c.state_out
    → Names (length c.nodes) c.ok → Names (length c.nodes) c.fail
    → (j v : ℕ) → (frame_at c start q j).next ≤ 1 + v → is_outside v (asked_in c start q j) ≡ false
asked-inside c start q ins outs ok fail j v room = by (eqb (suc j) (frame_count q))
  where
    by : (b : Bool) → is_outside v (literal_in (table c start q j) (cond b c.fail c.ok)) ≡ false
    by true = literal-inside v (length c.nodes) (table c start q j) c.fail (table-inside c start q ins outs j v room) fail
    by false = literal-inside v (length c.nodes) (table c start q j) c.ok (table-inside c start q ins outs j v room) ok
