-- The operations of nodes leave what the nodes do.
use Rattle.std.proofs.Common.{◌≡◌, ℕ, zero, suc, ◌+◌, ◌<◌, ◌≤◌, ℤ, pos, List, [], ◌∷◌, ◌++◌, length, take, drop, Option, Some, None, refl, sym, subst, ◌∙◌, ap, arith, length-append, length-take, length-set}
use Rattle.std.specs.Prelude.{unsigned_abs, slice_get, slice_set, option_and_then, unwrap_or}
use Rattle.std.proofs.Common.{◌⊎◌, inl, inr}
use Rattle.std.proofs.lemmas.Bool.{cases_lt}
use Rattle.std.proofs.lemmas.List.{get_or_append_left, get_or_at, get_or-set_same, get_or-set_other}
use Rattle.pv_place.specs.declared.place.Place.{Place}
use Rattle.pv_mean.specs.Frames.{Frame}
use Rattle.pv_mean.specs.Endings.{Tried, Value, got, trap, and_then}
use Rattle.pv_mean.specs.Spots.{read_spot}
use Rattle.pv_eval.specs.declared.node.Spot.{Spot}
use Rattle.pv_eval.specs.declared.node.Spot.TheVariants.{Visible, Brief, Bit, Bytes, Fixed, Nowhere}
use Rattle.pv_eval.specs.declared.node.Operand.{Operand}
use Rattle.pv_eval.specs.declared.node.Operand.TheVariants as operand
use Rattle.pv_eval.specs.declared.node.Node.{Node}
use Rattle.pv_eval.specs.declared.node.Node.TheVariants as node
use Rattle.pv_eval.specs.declared.op.Arg.{Arg}
use Rattle.pv_eval.specs.declared.op.Arg.TheVariants as arg
use Rattle.pv_eval.specs.declared.op.Access.TheVariants as access
use Rattle.pv_eval.specs.declared.op.Deed.{Deed}
use Rattle.pv_eval.specs.declared.op.Deed.TheVariants as deed
use Rattle.pv_eval.specs.declared.op.Op.{Op}
use Rattle.pv_eval.specs.Operators.{one_result, two_result, three_result}
use Rattle.pv_eval.specs.Operands.{at, spot_of, spot_in, spot_at, IsOperand}
use Rattle.pv_eval.specs.Nodes.{node_value, run}
use Rattle.pv_eval.specs.Order.{AreBelow, most_of, MayFollow, AreNodes, AreWithin, IsRoomFor}
use Rattle.pv_eval.specs.Ops.{fetched, done, cell_number, run_ops, IsAccess, HasSpot, AreOps}
use Rattle.pv_eval.specs.Lowered.{copied_spot, copied_operand, copied, arg_of, access_of, read_of, deed_of, with_op, ops_of}
use Rattle.pv_eval.proofs.Numbers.{room_for, most_value, within_push, number_same}

-- ---- lists from a number on

pub at_front : {X : Type 0} (xs : List X) (k : ℕ) (x : X) (more : List X) → drop k xs ≡ x ∷ more → slice_get xs k ≡ Some x
at_front [] zero x more e = cc
at_front [] (suc k) x more e = cc
at_front (y ∷ ys) zero x more e = cc
at_front (y ∷ ys) (suc k) x more e = at_front ys k x more e

pub behind_front : {X : Type 0} (xs : List X) (k : ℕ) (x : X) (more : List X) → drop k xs ≡ x ∷ more → drop (suc k) xs ≡ more
behind_front [] zero x more e = cc
behind_front [] (suc k) x more e = cc
behind_front (y ∷ ys) zero x more e = cc
behind_front (y ∷ ys) (suc k) x more e = behind_front ys k x more e

-- ---- what only copies

copies_spot : (first : ℕ) (frame : Frame) (us : List ℤ) (place : Place) (spot : Spot) (a : Arg) → copied_spot spot ≡ Some a → read_spot frame place (spot_of spot) ≡ got (fetched first frame us a)
copies_spot first frame us place (Visible n) a e = let s : arg.Visible n ≡ a = cc in ap (λ b. let t : Value = got (fetched first frame us b) in t) s
copies_spot first frame us place (Brief ty n) a e = cc
copies_spot first frame us place (Bit n b) a e = cc
copies_spot first frame us place (Bytes ty n count) a e = cc
copies_spot first frame us place (Fixed v) a e = let s : arg.Constant v ≡ a = cc in ap (λ b. let t : Value = got (fetched first frame us b) in t) s
copies_spot first frame us place Nowhere a e = let s : arg.Constant (pos 0) ≡ a = cc in ap (λ b. let t : Value = got (fetched first frame us b) in t) s

copies_operand : (first : ℕ) (frame : Frame) (ws us : List ℤ) (place : Place) (o : Operand) (a : Arg) → copied_operand o ≡ Some a → read_spot frame place (spot_at first ws o) ≡ got (fetched first frame us a)
copies_operand first frame ws us place (operand.At spot) a e = copies_spot first frame us place spot a e
copies_operand first frame ws us place (operand.Own n) a e = let s : arg.Own n ≡ a = cc in ap (λ b. let t : Value = got (fetched first frame us b) in t) s
copies_operand first frame ws us place (operand.Element part offset address) a e = cc

-- whatever the values are
pub copies : (first : ℕ) (frame : Frame) (ws us : List ℤ) (x : Node) (a : Arg) → copied x ≡ Some a → node_value first frame ws x ≡ got (fetched first frame us a)
copies first frame ws us (node.Constant v) a e = let s : arg.Constant v ≡ a = cc in ap (λ b. let t : Value = got (fetched first frame us b) in t) s
copies first frame ws us (node.Read o place) a e = copies_operand first frame ws us place o a e
copies first frame ws us (node.One op ty n) a e = cc
copies first frame ws us (node.Two op ty place left right) a e = cc
copies first frame ws us (node.Three op p q r) a e = cc
copies first frame ws us (node.Element from index low high stride most place) a e = cc

got_same : (v w : ℤ) (t : Value) → t ≡ got v → t ≡ got w → v ≡ w
got_same v w t e f = cc

steady : (first : ℕ) (frame : Frame) (us vs : List ℤ) (x : Node) (a : Arg) → copied x ≡ Some a → fetched first frame us a ≡ fetched first frame vs a
steady first frame us vs x a e = got_same (fetched first frame us a) (fetched first frame vs a) (node_value first frame us x) (copies first frame us us x a e) (copies first frame us vs x a e)

none_read : (nodes : List Node) (o : Operand) (place : Place) (c : Option Arg) (a : Arg) → c ≡ Some a → read_of nodes o place c ≡ None
none_read nodes o place None a e = cc
none_read nodes o place (Some b) a e = refl

none_of : (nodes : List Node) (x : Node) (a : Arg) → copied x ≡ Some a → deed_of nodes x ≡ None
none_of nodes (node.Constant v) a e = refl
none_of nodes (node.Read o place) a e = none_read nodes o place (copied_operand o) a e
none_of nodes (node.One op ty n) a e = cc
none_of nodes (node.Two op ty place left right) a e = cc
none_of nodes (node.Three op p q r) a e = cc
none_of nodes (node.Element from index low high stride most place) a e = cc

-- ---- values that agree

-- of so many nodes
pub record Agrees (first : ℕ) (frame : Frame) (nodes : List Node) (k : ℕ) (ws us : List ℤ) : Type 0 where
  pub each : (n : ℕ) → n < k → fetched first frame us (arg_of nodes n) ≡ at ws n

before_or_last : (n k : ℕ) → n < suc k → (n < k) ⊎ (n ≡ k)
before_or_last n k lt = elim (cases_lt n k) [ inl less ↦ inl less | inr more ↦ inr (omega arith) ]

arg_at : (nodes : List Node) (n : ℕ) (x : Node) → slice_get nodes n ≡ Some x → arg_of nodes n ≡ unwrap_or (copied x) (arg.Value n)
arg_at nodes n x e = ap (λ o. unwrap_or (option_and_then copied o) (arg.Value n)) e

module _ (first : ℕ) (frame : Frame) (nodes : List Node) (k : ℕ) (x : Node) (ws us : List ℤ) (v : ℤ) (here : slice_get nodes k ≡ Some x) (len : length ws ≡ k) (h : Agrees first frame nodes k ws us) where
  last_copy : (a : Arg) → copied x ≡ Some a → v ≡ fetched first frame us a → fetched first frame us (arg_of nodes k) ≡ at (ws ++ v ∷ []) k
  last_copy a e is =
      ap (fetched first frame us) (arg_at nodes k x here ∙ ap (λ o. unwrap_or o (arg.Value k)) e) ∙ sym is
      ∙ sym (get_or_at ws v [] (pos 0) k len)

  -- a node that only copies
  pub agrees_copy : (a : Arg) → copied x ≡ Some a → v ≡ fetched first frame us a → Agrees first frame nodes (suc k) (ws ++ v ∷ []) us
  agrees_copy a e is = record {
    each = λ n lt. elim (before_or_last n k lt) [
      | inl less ↦ h.each n less ∙ sym (get_or_append_left ws (v ∷ []) (pos 0) n (omega (arith, len)))
      | inr same ↦ subst (λ m. fetched first frame us (arg_of nodes m) ≡ at (ws ++ v ∷ []) m) (sym same) (last_copy a e is)
    ];
  }

  other_arg : (n : ℕ) (c : Option Arg) (y : Node) → copied y ≡ c → (n ≡ k → ⊥) → fetched first frame (slice_set us k v) (unwrap_or c (arg.Value n)) ≡ fetched first frame us (unwrap_or c (arg.Value n))
  other_arg n None y e ne = get_or-set_other us k n v (pos 0) ne
  other_arg n (Some a) y e ne = steady first frame (slice_set us k v) us y a e

  other_at : (n : ℕ) (o : Option Node) → (n ≡ k → ⊥) → fetched first frame (slice_set us k v) (unwrap_or (option_and_then copied o) (arg.Value n)) ≡ fetched first frame us (unwrap_or (option_and_then copied o) (arg.Value n))
  other_at n None ne = get_or-set_other us k n v (pos 0) ne
  other_at n (Some y) ne = other_arg n (copied y) y refl ne

  last_op : copied x ≡ None → k < length us → fetched first frame (slice_set us k v) (arg_of nodes k) ≡ at (ws ++ v ∷ []) k
  last_op e room =
      ap (fetched first frame (slice_set us k v)) (arg_at nodes k x here ∙ ap (λ o. unwrap_or o (arg.Value k)) e)
      ∙ get_or-set_same us k v (pos 0) room ∙ sym (get_or_at ws v [] (pos 0) k len)

  -- one that leaves a value
  pub agrees_op : copied x ≡ None → k < length us → Agrees first frame nodes (suc k) (ws ++ v ∷ []) (slice_set us k v)
  agrees_op e room = record {
    each = λ n lt. elim (before_or_last n k lt) [
      | inl less ↦ other_at n (slice_get nodes n) (λ same. omega (arith, less, same)) ∙ h.each n less ∙ sym (get_or_append_left ws (v ∷ []) (pos 0) n (omega (arith, len)))
      | inr same ↦ subst (λ m. fetched first frame (slice_set us k v) (arg_of nodes m) ≡ at (ws ++ v ∷ []) m) (sym same) (last_op e room)
    ];
  }

-- ---- an operation does what its node does

module _ (first : ℕ) (frame : Frame) (nodes : List Node) (k : ℕ) (ws us : List ℤ) (h : Agrees first frame nodes k ws us) where
  does_read : (o : Operand) (place : Place) (d : Deed) → read_of nodes o place (copied_operand o) ≡ Some d → AreBelow k (node.Read o place) → read_spot frame place (spot_at first ws o) ≡ done first frame us d
  does_read (operand.At (Visible n)) place d e b = cc
  does_read (operand.At (Brief ty n)) place d e b = let s : deed.Read (access.At (Brief ty n)) place ≡ d = cc in ap (done first frame us) s
  does_read (operand.At (Bit n i)) place d e b = let s : deed.Read (access.At (Bit n i)) place ≡ d = cc in ap (done first frame us) s
  does_read (operand.At (Bytes ty n count)) place d e b = let s : deed.Read (access.At (Bytes ty n count)) place ≡ d = cc in ap (done first frame us) s
  does_read (operand.At (Fixed v)) place d e b = cc
  does_read (operand.At Nowhere) place d e b = cc
  does_read (operand.Own n) place d e b = cc
  does_read (operand.Element part offset address) place d e b =
      let s : deed.Read (access.Element part offset (arg_of nodes address)) place ≡ d = cc in
      ap (λ z. read_spot frame place (spot_in part first (offset + unsigned_abs z))) (sym (h.each address b)) ∙ ap (done first frame us) s

  pub does : (x : Node) (d : Deed) → deed_of nodes x ≡ Some d → AreBelow k x → IsRoomFor ws x → node_value first frame ws x ≡ done first frame us d
  does (node.Constant v) d e b room = cc
  does (node.Read o place) d e b room = does_read o place d e b
  does (node.One op ty n) d e b room =
      let s : deed.One op ty (arg_of nodes n) ≡ d = cc in
      ap (λ z. let t : Value = got (one_result op ty z) in t) (sym (h.each n b)) ∙ ap (done first frame us) s
  does (node.Two op ty place left right) d e b room =
      let s : deed.Two op ty place (arg_of nodes left) (arg_of nodes right) ≡ d = cc in
      ap (λ z. two_result op ty place z (at ws right)) (sym (h.each left b.0))
      ∙ ap (λ z. two_result op ty place (fetched first frame us (arg_of nodes left)) z) (sym (h.each right b.1))
      ∙ ap (done first frame us) s
  does (node.Three op p q r) d e b room =
      let s : deed.Three op (arg_of nodes p) (arg_of nodes q) (arg_of nodes r) ≡ d = cc in
      ap (λ z. let t : Value = got (three_result op z (at ws q) (at ws r)) in t) (sym (h.each p b.0))
      ∙ ap (λ z. let t : Value = got (three_result op (fetched first frame us (arg_of nodes p)) z (at ws r)) in t) (sym (h.each q b.1))
      ∙ ap (λ z. let t : Value = got (three_result op (fetched first frame us (arg_of nodes p)) (fetched first frame us (arg_of nodes q)) z) in t) (sym (h.each r b.2))
      ∙ ap (done first frame us) s
  does (node.Element from index low high stride most place) d e b room =
      let s : deed.Element (arg_of nodes from) (arg_of nodes index) low high (pos stride) place ≡ d = cc in
      number_same (at ws from) (at ws index) low high stride place room.0 room.1
      ∙ ap (λ z. cell_number z (at ws index) low high (pos stride) place) (sym (h.each from b.0))
      ∙ ap (λ z. cell_number (fetched first frame us (arg_of nodes from)) z low high (pos stride) place) (sym (h.each index b.1))
      ∙ ap (done first frame us) s

some_read : (nodes : List Node) (o : Operand) (place : Place) (c : Option Arg) → c ≡ None → (d : Deed) × (read_of nodes o place c ≡ Some d)
some_read nodes o place None e = (deed.Read (access_of nodes o) place, refl)
some_read nodes o place (Some a) e = cc

some_of : (nodes : List Node) (x : Node) → copied x ≡ None → (d : Deed) × (deed_of nodes x ≡ Some d)
some_of nodes (node.Constant v) e = cc
some_of nodes (node.Read o place) e = some_read nodes o place (copied_operand o) e
some_of nodes (node.One op ty n) e = (deed.One op ty (arg_of nodes n), refl)
some_of nodes (node.Two op ty place left right) e = (deed.Two op ty place (arg_of nodes left) (arg_of nodes right), refl)
some_of nodes (node.Three op p q r) e = (deed.Three op (arg_of nodes p) (arg_of nodes q) (arg_of nodes r), refl)
some_of nodes (node.Element from index low high stride most place) e = (deed.Element (arg_of nodes from) (arg_of nodes index) low high (pos stride) place, refl)

-- ---- one after the other

module _ {A : Type 0} (first : ℕ) (frame : Frame) (nodes : List Node) (order : AreNodes nodes) (f g : List ℤ → A) where
  -- what is read off a run of nodes is read off that of their operations
  abbrev pub Leads : (rest : List Node) (k : ℕ) (ws us : List ℤ) → Type 0
  Leads rest k ws us =
      and_then (run first frame rest ws) (λ w. got (f w)) ≡ and_then (run_ops first frame (ops_of nodes k rest) us) (λ u. got (g u))

  module _ (x : Node) (xs : List Node) (k : ℕ) (ws us : List ℤ) (here : slice_get nodes k ≡ Some x) (few : k < length nodes) (len : length ws ≡ k) (enough : length nodes ≤ length us) (h : Agrees first frame nodes k ws us) (w : AreWithin nodes ws) (next : (ws' us' : List ℤ) → length ws' ≡ suc k → length nodes ≤ length us' → Agrees first frame nodes (suc k) ws' us' → AreWithin nodes ws' → Leads xs (suc k) ws' us') where
    follow : MayFollow (take k nodes) x
    follow = order.each k x here

    within_one : (v : ℤ) → node_value first frame ws x ≡ got v → AreWithin nodes (ws ++ v ∷ [])
    within_one v is =
        within_push nodes ws k x v len (ap (option_and_then most_of) here) w
        (λ m e. most_value first frame nodes ws k x v m follow len (omega arith) w is e)

    leads_copy : (a : Arg) → copied x ≡ Some a → Leads (x ∷ xs) k ws us
    leads_copy a e =
        let v = fetched first frame us a in
        let value : node_value first frame ws x ≡ got v = copies first frame ws us x a e in
        ap (λ t. and_then (and_then t (λ z. run first frame xs (ws ++ z ∷ []))) (λ z. got (f z))) value
        ∙ next (ws ++ v ∷ []) us (omega (arith, len, length-append ws (v ∷ []))) enough (agrees_copy first frame nodes k x ws us v here len h a e refl) (within_one v value)
        ∙ ap (λ o. and_then (run_ops first frame (with_op k o (ops_of nodes (suc k) xs)) us) (λ u. got (g u))) (sym (none_of nodes x a e))

    leads_done : (t : Value) → node_value first frame ws x ≡ t → copied x ≡ None → and_then (and_then t (λ z. run first frame xs (ws ++ z ∷ []))) (λ z. got (f z)) ≡ and_then (and_then t (λ z. run_ops first frame (ops_of nodes (suc k) xs) (slice_set us k z))) (λ u. got (g u))
    leads_done (got v) is e =
        next (ws ++ v ∷ []) (slice_set us k v) (omega (arith, len, length-append ws (v ∷ []))) (omega (arith, enough, length-set us k v))
        (agrees_op first frame nodes k x ws us v here len h e (omega (arith, few, enough))) (within_one v is)
    leads_done (trap kind place) is e = refl

    leads_op : copied x ≡ None → Leads (x ∷ xs) k ws us
    leads_op e =
        let s = some_of nodes x e in
        let below : AreBelow k x = subst (λ n. AreBelow n x) (omega (arith, length-take k nodes)) follow.below in
        let value : node_value first frame ws x ≡ done first frame us s.0 = does first frame nodes k ws us h x s.0 s.1 below (room_for nodes ws k x follow len (omega arith) w) in
        ap (λ t. and_then (and_then t (λ z. run first frame xs (ws ++ z ∷ []))) (λ z. got (f z))) value
        ∙ leads_done (done first frame us s.0) value e
        ∙ ap (λ o. and_then (run_ops first frame (with_op k o (ops_of nodes (suc k) xs)) us) (λ u. got (g u))) (sym s.1)

    leads_one : (o : Option Arg) → copied x ≡ o → Leads (x ∷ xs) k ws us
    leads_one None e = leads_op e
    leads_one (Some a) e = leads_copy a e

  pub lowered : ((ws us : List ℤ) → Agrees first frame nodes (length nodes) ws us → f ws ≡ g us) → (rest : List Node) (k : ℕ) (ws us : List ℤ) → drop k nodes ≡ rest → k + length rest ≡ length nodes → length ws ≡ k → length nodes ≤ length us → Agrees first frame nodes k ws us → AreWithin nodes ws → Leads rest k ws us
  lowered same [] k ws us e all len enough h w =
      ap (λ z. let t : Tried A = got z in t) (same ws us (subst (λ n. Agrees first frame nodes n ws us) (omega (arith, all)) h))
  lowered same (x ∷ xs) k ws us e all len enough h w =
      leads_one x xs k ws us (at_front nodes k x xs e) (omega (arith, all)) len enough h w
      (λ ws' us' len' enough' h' w'. lowered same xs (suc k) ws' us' (behind_front nodes k x xs e) (omega (arith, all)) len' enough' h' w')
      (copied x) refl

-- ---- their spots

spot_of_read : (nodes : List Node) (o : Operand) (place : Place) (d : Deed) (k : ℕ) → read_of nodes o place (copied_operand o) ≡ Some d → IsOperand k o → HasSpot d
spot_of_read nodes (operand.At (Visible n)) place d k e h = cc
spot_of_read nodes (operand.At (Brief ty n)) place d k e h = let s : deed.Read (access.At (Brief ty n)) place ≡ d = cc in subst HasSpot s h
spot_of_read nodes (operand.At (Bit n i)) place d k e h = let s : deed.Read (access.At (Bit n i)) place ≡ d = cc in subst HasSpot s h
spot_of_read nodes (operand.At (Bytes ty n count)) place d k e h = let s : deed.Read (access.At (Bytes ty n count)) place ≡ d = cc in subst HasSpot s h
spot_of_read nodes (operand.At (Fixed v)) place d k e h = cc
spot_of_read nodes (operand.At Nowhere) place d k e h = cc
spot_of_read nodes (operand.Own n) place d k e h = cc
spot_of_read nodes (operand.Element part offset address) place d k e h =
    let s : deed.Read (access.Element part offset (arg_of nodes address)) place ≡ d = cc in subst HasSpot s tt

spot_of_deed : (nodes : List Node) (x : Node) (d : Deed) (k : ℕ) → deed_of nodes x ≡ Some d → AreBelow k x → HasSpot d
spot_of_deed nodes (node.Constant v) d k e h = cc
spot_of_deed nodes (node.Read o place) d k e h = spot_of_read nodes o place d k e h
spot_of_deed nodes (node.One op ty n) d k e h = let s : deed.One op ty (arg_of nodes n) ≡ d = cc in subst HasSpot s tt
spot_of_deed nodes (node.Two op ty place left right) d k e h = let s : deed.Two op ty place (arg_of nodes left) (arg_of nodes right) ≡ d = cc in subst HasSpot s tt
spot_of_deed nodes (node.Three op p q r) d k e h = let s : deed.Three op (arg_of nodes p) (arg_of nodes q) (arg_of nodes r) ≡ d = cc in subst HasSpot s tt
spot_of_deed nodes (node.Element from index low high stride most place) d k e h =
    let s : deed.Element (arg_of nodes from) (arg_of nodes index) low high (pos stride) place ≡ d = cc in subst HasSpot s tt

spots_with : (k : ℕ) (o : Option Deed) (ops : List Op) → ((d : Deed) → o ≡ Some d → HasSpot d) → AreOps ops → AreOps (with_op k o ops)
spots_with k None ops h are = are
spots_with k (Some d) ops h are = record { each = at }
  where
    at : (j : ℕ) (op : Op) → slice_get (with_op k (Some d) ops) j ≡ Some op → HasSpot op.deed
    at zero op e = subst HasSpot (ap (λ p. p.deed) (first_is op e)) (h d refl)
      where
        first_is : (op : Op) → slice_get (with_op k (Some d) ops) 0 ≡ Some op → (let p : Op = record { to = k; deed = d } in p) ≡ op
        first_is op e = cc
    at (suc j) op e = are.each j op e

spots_from : (nodes : List Node) (order : AreNodes nodes) (rest : List Node) (k : ℕ) → drop k nodes ≡ rest → AreOps (ops_of nodes k rest)
spots_from nodes order [] k e = record { each = λ j op h. cc }
spots_from nodes order (x ∷ xs) k e =
    spots_with k (deed_of nodes x) (ops_of nodes (suc k) xs) (λ d is. spot_of_deed nodes x d (length (take k nodes)) is (order.each k x (at_front nodes k x xs e)).below)
    (spots_from nodes order xs (suc k) (behind_front nodes k x xs e))

pub are_ops : (nodes : List Node) → AreNodes nodes → AreOps (ops_of nodes 0 nodes)
are_ops nodes order = spots_from nodes order nodes 0 refl

pub is_access : (nodes : List Node) (o : Operand) (k : ℕ) → IsOperand k o → IsAccess (access_of nodes o)
is_access nodes (operand.At spot) k h = h
is_access nodes (operand.Own n) k h = tt
is_access nodes (operand.Element part offset address) k h = tt
