-- From frame to frame: the table, what is given for the next one, and what has to be true.
use Rattle.std.proofs.Common.{◌≡◌, ℕ, ◌+◌, ◌-◌, ◌<◌, ◌≤◌, zero, suc, ℤ, Bool, true, false, cond, eqb, List, [], ◌∷◌, ◌++◌, length, take, drop, map, set, get_or, All, Option, Some, None, refl, sym, ◌∙◌, ap, subst, arith, append_assoc, append-nil, drop-cons, inl, inr}
use Rattle.std.specs.List.{flat_map, range_with_len}
use Rattle.std.proofs.lemmas.Bool.{cases_eq}
use Rattle.std.proofs.lemmas.List.{take_more_set, take_all}
use Rattle.std.proofs.lemmas.List.FromFn.{map-range_with_len_more}
use Rattle.pv_gate.specs.Node.{Names}
use Rattle.pv_circuit.specs.declared.start.Start.{Start}
use Rattle.pv_circuit.specs.declared.start.Start.TheVariants.{Free}
use Rattle.pv_circuit.specs.Circuits.{Circuit}
use Rattle.pv_circuit.specs.Starts.{is_moved, next_of}
use Rattle.pv_cert.specs.declared.proof.Query.{Query}
use Rattle.pv_cnf.specs.declared.clauses.PushFault.TheVariants.{NoMemory}
use Rattle.pv_frames.specs.Frames.{Frame, literal_in, frame_clauses}
use Rattle.pv_frames.specs.Formulas.{written}
use Rattle.pv_frames.specs.Queries.{first_of, given_for, own_below, numbered, frame_by, frame_at, next_literals, table, asked_in, frame_count}
use Rattle.pv_frames.specs.Pushing.{Overflow, StopsAt}
use Rattle.pv_frames.specs.declared.short.Short.{Short}
use Rattle.pv_frames.specs.declared.short.Short.TheVariants.{One}
use Rattle.pv_frames.specs.Tables.{table_frame, IsBegin, IsTable, gate_clauses}
use Rattle.pv_frames.proofs.Giving.{given-past, own-behind, table-same}
use Rattle.pv_frames.proofs.Agreeing.{Agree, literal-same}

-- ---- the table

-- what is laid is the table of the frame
pub table-of : (c : Circuit) (gs : List (Option ℕ)) (v : ℕ) (begins : List (Option ℕ)) (gates : ℕ) → All (IsBegin (length begins)) c.state_in
    → 1 + length begins ≤ length c.nodes
    → ((i : ℕ) → i < length begins → get_or begins i None ≡ Some (numbered (given_for None c.state_in gs) v (2 + i)))
    → gates ≡ v + own_below (given_for None c.state_in gs) (2 + length begins)
    → IsTable c begins gates (frame_by c gs v)
table-of c gs v begins gates all room laid next =
    let given = given_for None c.state_in gs in
    let none : (i : ℕ) → 2 + length begins ≤ i → given_for None c.state_in gs i ≡ None = λ i far. given-past (length begins) None c.state_in gs i all far in
    let more = own-behind (given_for None c.state_in gs) (2 + length begins) (1 + length c.nodes) (omega arith) (omega (arith, room)) none in
    record {
      same = λ n one le. table-same (given_for None c.state_in gs) begins v gates n laid none next one;
      next = omega (arith, next, more, room);
    }

map-same : (f g : Frame) (m : ℕ) (ls : List ℤ) → Agree m f g → All (Names m) ls → map (literal_in f) ls ≡ map (literal_in g) ls
map-same f g m [] same names = refl
map-same f g m (l ∷ ls) same names =
    ap (λ (x : ℕ). x ∷ map (literal_in f) ls) (literal-same f g m l same (names 0 l (omega arith)))
    ∙ ap (λ (xs : List ℕ). literal_in g l ∷ xs) (map-same f g m ls same (λ k d lt. names (suc k) d (omega arith)))

-- what is given by the table is given by the frame
pub literals-same : (c : Circuit) (start : List Start) (f g : Frame) → Agree (length c.nodes) f g → All (Names (length c.nodes)) c.state_in → All (Names (length c.nodes)) c.state_out
    → next_literals c start f ≡ next_literals c start g
literals-same c start f g same ins outs =
    ap (λ (xs : List ℕ). next_of start xs (map (literal_in f) c.state_out)) (map-same f g (length c.nodes) c.state_in same ins)
    ∙ ap (λ (ys : List ℕ). next_of start (map (literal_in g) c.state_in) ys) (map-same f g (length c.nodes) c.state_out same outs)

-- the table of the next frame
pub table-next : (c : Circuit) (start : List Start) (q : Query) (j : ℕ) (old : List (Option ℕ)) (before : ℕ) (ls : List ℤ) (gs begins : List (Option ℕ)) (v gates many : ℕ)
    → IsTable c old before (frame_at c start q j) → All (Names (length c.nodes)) c.state_in → All (Names (length c.nodes)) c.state_out
    → gs ≡ map (λ (lit : ℕ). Some lit) (next_literals c start (table_frame old before))
    → v ≡ before + (length c.nodes - (1 + length old))
    → All (IsBegin (length begins)) c.state_in → 1 + length begins ≤ length c.nodes → ls ≡ c.state_in → length begins ≡ many
    → ((i : ℕ) → i < many → get_or begins i None ≡ Some (numbered (given_for None ls gs) v (2 + i)))
    → gates ≡ v + own_below (given_for None ls gs) (2 + many)
    → IsTable c begins gates (frame_at c start q (suc j))
table-next c start q j old before ls gs begins v gates many was ins outs given at all room these long laid next =
    let same = literals-same c start (table_frame old before) (table c start q j) was.same ins outs in
    let is : gs ≡ map (λ (lit : ℕ). Some lit) (next_literals c start (table c start q j)) = given ∙ ap (map (λ (lit : ℕ). Some lit)) same in
    let there : v ≡ (frame_at c start q j).next = at ∙ was.next in
    let laid_there : (i : ℕ) → i < length begins → get_or begins i None ≡ Some (numbered (given_for None c.state_in gs) v (2 + i)) =
    λ i lt. laid i (omega (arith, lt, long)) ∙ ap (λ (zs : List ℤ). Some (numbered (given_for None zs gs) v (2 + i))) these in
    let next_there : gates ≡ v + own_below (given_for None c.state_in gs) (2 + length begins) =
    next ∙ (ap (λ (zs : List ℤ). v + own_below (given_for None zs gs) (2 + many)) these
    ∙ ap (λ (n : ℕ). v + own_below (given_for None c.state_in gs) (2 + n)) (sym long)) in
    subst (λ (n : ℕ). IsTable c begins gates (frame_by c (map (λ (lit : ℕ). Some lit) (next_literals c start (table c start q j))) n)) there
    (subst (λ (os : List (Option ℕ)). IsTable c begins gates (frame_by c os v)) is
    (table-of c gs v begins gates all room laid_there next_there))

-- the table of the first one
pub table-first : (c : Circuit) (start : List Start) (q : Query) (ls : List ℤ) (gs begins : List (Option ℕ)) (gates many : ℕ)
    → gs ≡ map (first_of q) start → All (IsBegin (length begins)) c.state_in → 1 + length begins ≤ length c.nodes → ls ≡ c.state_in → length begins ≡ many
    → ((i : ℕ) → i < many → get_or begins i None ≡ Some (numbered (given_for None ls gs) 2 (2 + i)))
    → gates ≡ 2 + own_below (given_for None ls gs) (2 + many)
    → IsTable c begins gates (frame_at c start q 0)
table-first c start q ls gs begins gates many is all room these long laid next =
    let laid_there : (i : ℕ) → i < length begins → get_or begins i None ≡ Some (numbered (given_for None c.state_in gs) 2 (2 + i)) =
    λ i lt. laid i (omega (arith, lt, long)) ∙ ap (λ (zs : List ℤ). Some (numbered (given_for None zs gs) 2 (2 + i))) these in
    let next_there : gates ≡ 2 + own_below (given_for None c.state_in gs) (2 + length begins) =
    next ∙ (ap (λ (zs : List ℤ). 2 + own_below (given_for None zs gs) (2 + many)) these
    ∙ ap (λ (n : ℕ). 2 + own_below (given_for None c.state_in gs) (2 + n)) (sym long)) in
    subst (λ (os : List (Option ℕ)). IsTable c begins gates (frame_by c os 2)) is
    (table-of c gs 2 begins gates all room laid_there next_there)

-- ---- what is given

-- what stands at a place doesn't hang on what would be read past the end
pub get-same : {A : Type 0} (xs : List A) (k : ℕ) (d e : A) → k < length xs → get_or xs k d ≡ get_or xs k e
get-same [] k d e lt = absurd (omega (arith, lt))
get-same (x ∷ xs) zero d e lt = refl
get-same (x ∷ xs) (suc k) d e lt = get-same xs k d e (omega (arith, lt))

-- one more bit is filled
pub next-filled : (start : List Start) (xs ys : List ℕ) (given whole : List (Option ℕ)) (k lit : ℕ) → k < length start → length xs ≡ length start → length ys ≡ length start
    → length given ≡ length start → lit ≡ cond (is_moved (get_or start k Free)) (get_or ys k 0) (get_or xs k 0)
    → take k given ++ map (λ (lit : ℕ). Some lit) (next_of (drop k start) (drop k xs) (drop k ys)) ≡ whole
    → take (k + 1) (set given k (Some lit)) ++ map (λ (lit : ℕ). Some lit) (next_of (drop (k + 1) start) (drop (k + 1) xs) (drop (k + 1) ys)) ≡ whole
next-filled start xs ys given whole k lit lt long_xs long_ys long made before =
    let some : List ℕ → List (Option ℕ) = map (λ (lit : ℕ). Some lit) in
    let s = get_or start k Free in
    let x = get_or xs k 0 in
    let y = get_or ys k 0 in
    let rest = next_of (drop (suc k) start) (drop (suc k) xs) (drop (suc k) ys) in
    let step : next_of (drop k start) (drop k xs) (drop k ys) ≡ cond (is_moved s) y x ∷ rest =
    ap (λ (ss : List Start). next_of ss (drop k xs) (drop k ys)) (drop-cons start k Free lt)
    ∙ (ap (λ (zs : List ℕ). next_of (s ∷ drop (suc k) start) zs (drop k ys)) (drop-cons xs k 0 (omega (arith, lt, long_xs)))
    ∙ ap (λ (zs : List ℕ). next_of (s ∷ drop (suc k) start) (x ∷ drop (suc k) xs) zs) (drop-cons ys k 0 (omega (arith, lt, long_ys)))) in
    let next : suc k ≡ k + 1 = omega arith in
    subst (λ (n : ℕ). take (k + 1) (set given k (Some lit)) ++ map (λ (lit : ℕ). Some lit) (next_of (drop n start) (drop n xs) (drop n ys)) ≡ whole) next
    (ap (λ (gs : List (Option ℕ)). gs ++ some rest) (take_more_set given k (Some lit) (omega (arith, lt, long)))
    ∙ (append_assoc (take k given) (Some lit ∷ []) (some rest)
    ∙ (ap (λ (n : ℕ). take k given ++ (Some n ∷ some rest)) made
    ∙ (ap (λ (zs : List ℕ). take k given ++ some zs) (sym step) ∙ before))))

-- all are
pub all-filled : (start : List Start) (xs ys : List ℕ) (given whole : List (Option ℕ)) (k : ℕ) → length start ≤ k → length given ≡ length start
    → take k given ++ map (λ (lit : ℕ). Some lit) (next_of (drop k start) (drop k xs) (drop k ys)) ≡ whole → given ≡ whole
all-filled start xs ys given whole k le long filled =
    let none : drop k start ≡ [] = drop-all start k le in
    sym (ap (λ (ss : List Start). take k given ++ map (λ (lit : ℕ). Some lit) (next_of ss (drop k xs) (drop k ys))) none
    ∙ (append-nil (take k given) ∙ take_all k given (omega (arith, le, long))))
    ∙ filled
  where
    drop-all : (ss : List Start) (n : ℕ) → length ss ≤ n → drop n ss ≡ []
    drop-all [] zero le = refl
    drop-all [] (suc n) le = refl
    drop-all (s ∷ ss) zero le = absurd (omega (arith, le))
    drop-all (s ∷ ss) (suc n) le = drop-all ss n (omega (arith, le))

-- ---- what has to be true

pub goals-more : (f : ℕ → ℕ) (goals : List Short) (j : ℕ) (x : Short) → j < length goals → x ≡ One (f j)
    → take j goals ≡ map (λ (lit : ℕ). One lit) (map f (range_with_len 0 j))
    → take (j + 1) (set goals j x) ≡ map (λ (lit : ℕ). One lit) (map f (range_with_len 0 (j + 1)))
goals-more f goals j x lt is before =
    take_more_set goals j x lt
    ∙ (ap (λ (gs : List Short). gs ++ x ∷ []) before
    ∙ (ap (λ (y : Short). map (λ (lit : ℕ). One lit) (map f (range_with_len 0 j)) ++ y ∷ []) is
    ∙ (sym (map-append-one (map f (range_with_len 0 j)) (f j))
    ∙ ap (map (λ (lit : ℕ). One lit)) (sym (map-range_with_len_more f 0 j j (omega arith))))))
  where
    map-append-one : (lits : List ℕ) (n : ℕ) → map (λ (lit : ℕ). One lit) (lits ++ n ∷ []) ≡ map (λ (lit : ℕ). One lit) lits ++ One n ∷ []
    map-append-one [] n = refl
    map-append-one (l ∷ lits) n = ap (λ (gs : List Short). One l ∷ gs) (map-append-one lits n)

-- all of them
pub goals-all : (f : ℕ → ℕ) (goals : List Short) (j n : ℕ) → n ≤ j → length goals ≡ n → j ≤ n
    → take j goals ≡ map (λ (lit : ℕ). One lit) (map f (range_with_len 0 j))
    → goals ≡ map (λ (lit : ℕ). One lit) (map f (range_with_len 0 n))
goals-all f goals j n from long to filled =
    let e : j ≡ n = omega (arith, from, to) in
    sym (take_all j goals (omega (arith, long, from))) ∙ (filled ∙ ap (λ (m : ℕ). map (λ (lit : ℕ). One lit) (map f (range_with_len 0 m))) e)

-- it is the literal of the frame
pub goal-is : (c : Circuit) (start : List Start) (q : Query) (f : Frame) (j count : ℕ) → Agree (length c.nodes) f (table c start q j)
    → Names (length c.nodes) c.ok → Names (length c.nodes) c.fail → count ≡ frame_count q
    → literal_in f (cond (eqb (j + 1) count) c.fail c.ok) ≡ asked_in c start q j
goal-is c start q f j count same ok fail is =
    literal-same f (table c start q j) (length c.nodes) (cond (eqb (j + 1) count) c.fail c.ok) same (by (eqb (j + 1) count))
    ∙ (let e : j + 1 ≡ suc j = omega arith in
    ap (λ (n : ℕ). literal_in (table c start q j) (cond (eqb n count) c.fail c.ok)) e
    ∙ ap (λ (n : ℕ). literal_in (table c start q j) (cond (eqb (suc j) n) c.fail c.ok)) is)
  where
    by : (b : Bool) → Names (length c.nodes) (cond b c.fail c.ok)
    by true = fail
    by false = ok

-- the gates of one frame among those of all
pub gates-around : (c : Circuit) (start : List Start) (q : Query) (j n : ℕ) → j < n
    → (behind : List (List ℕ)) × (gate_clauses c start q n ≡ gate_clauses c start q j ++ (flat_map written (frame_clauses (table c start q j) 1 c.nodes) ++ behind))
gates-around c start q j zero lt = absurd (omega (arith, lt))
gates-around c start q j (suc n) lt = elim (cases_eq j n) [
  | inl e ↦
      let part = flat_map written (frame_clauses (table c start q j) 1 c.nodes) in (
        [],
        subst (λ (m : ℕ). gate_clauses c start q (suc m) ≡ gate_clauses c start q j ++ (flat_map written (frame_clauses (table c start q j) 1 c.nodes) ++ [])) e
            (ap (λ (cs : List (List ℕ)). gate_clauses c start q j ++ cs) (sym (append-nil part))),
      )
  | inr ne ↦
      let rest = gates-around c start q j n (omega (arith, lt, ne)) in
      let part = flat_map written (frame_clauses (table c start q j) 1 c.nodes) in
      let last = flat_map written (frame_clauses (table c start q n) 1 c.nodes) in (
        rest.0 ++ last,
        ap (λ (cs : List (List ℕ)). cs ++ last) rest.1
            ∙ (append_assoc (gate_clauses c start q j) (part ++ rest.0) last
            ∙ ap (λ (cs : List (List ℕ)). gate_clauses c start q j ++ cs) (append_assoc part rest.0 last)),
      )
]

-- ---- nothing is pushed

-- memory ran out before the first clause
pub stops-first : (f : Overflow) (old clauses rest : List (List ℕ)) (first : List ℕ) → clauses ≡ first ∷ rest → StopsAt f old clauses old NoMemory
stops-first f old clauses rest first is = record {
  before = [];
  refused = first;
  rest = rest;
  split = is;
  pushed = record { stand = sym (append-nil old); fit = tt };
  refusal = tt;
}
