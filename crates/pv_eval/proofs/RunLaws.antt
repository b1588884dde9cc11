-- Runs of nodes: in parts, how many values there are, and that values stay.
use Rattle.std.proofs.Common.{◌≡◌, ℕ, ◌+◌, suc, ℤ, List, [], ◌∷◌, ◌++◌, length, refl, sym, ◌∙◌, ap, arith, length-append, append_assoc}
use Rattle.std.proofs.lemmas.List.{append-nil}
use Rattle.pv_mean.specs.Frames.{Frame}
use Rattle.pv_mean.specs.Endings.{Tried, Value, got, trap, and_then}
use Rattle.pv_eval.specs.declared.node.Node.{Node}
use Rattle.pv_eval.specs.Nodes.{node_value, run}

-- ---- and_then

pub and_then-assoc : {A B C : Type 0} (t : Tried A) (f : A → Tried B) (g : B → Tried C) → and_then (and_then t f) g ≡ and_then t (λ a. and_then (f a) g)
and_then-assoc (got a) f g = refl
and_then-assoc (trap kind place) f g = refl

pub and_then-same : {A B : Type 0} (t : Tried A) (f g : A → Tried B) → ((a : A) → t ≡ got a → f a ≡ g a) → and_then t f ≡ and_then t g
and_then-same (got a) f g h = h a refl
and_then-same (trap kind place) f g h = refl

-- ---- runs

pub run-append : (first : ℕ) (frame : Frame) (a b : List Node) (values : List ℤ) → run first frame (a ++ b) values ≡ and_then (run first frame a values) (λ ws. run first frame b ws)
run-append first frame [] b values = refl
run-append first frame (x ∷ xs) b values =
    and_then-same (node_value first frame values x) (λ v. run first frame (xs ++ b) (values ++ v ∷ [])) (λ v. and_then (run first frame xs (values ++ v ∷ [])) (λ ws. run first frame b ws))
    (λ v _. run-append first frame xs b (values ++ v ∷ []))
    ∙ sym (and_then-assoc (node_value first frame values x) (λ v. run first frame xs (values ++ v ∷ [])) (λ ws. run first frame b ws))

-- the values so far stand first, and each node has one more
pub record Follows (values ws : List ℤ) (n : ℕ) : Type 0 where
  pub more : List ℤ
  pub behind : ws ≡ values ++ more
  pub count : length ws ≡ length values + n

follow_step : (values ws : List ℤ) (v : ℤ) (count : ℕ) → Follows (values ++ v ∷ []) ws count → Follows values ws (suc count)
follow_step values ws v count f = record {
  more = v ∷ f.more;
  behind = f.behind ∙ append_assoc values (v ∷ []) f.more;
  count = omega (arith, f.count, length-append values (v ∷ []));
}

pub run-follows : (first : ℕ) (frame : Frame) (nodes : List Node) (values ws : List ℤ) → run first frame nodes values ≡ got ws → Follows values ws (length nodes)
run-follows first frame [] values ws h =
    let e : ws ≡ values = cc in
    record { more = []; behind = e ∙ sym (append-nil values); count = omega (arith, ap length e) }
run-follows first frame (x ∷ xs) values ws h =
    lead (node_value first frame values x) (λ v k. run-follows first frame xs (values ++ v ∷ []) ws k) h
  where
    lead : (t : Value) → ((v : ℤ) → run first frame xs (values ++ v ∷ []) ≡ got ws → Follows (values ++ v ∷ []) ws (length xs)) → and_then t (λ v. run first frame xs (values ++ v ∷ [])) ≡ got ws → Follows values ws (suc (length xs))
    lead (got v) next h = follow_step values ws v (length xs) (next v h)
    lead (trap kind place) next h = cc

-- one node more
pub run-push : (first : ℕ) (frame : Frame) (nodes : List Node) (x : Node) (values : List ℤ) → run first frame (nodes ++ x ∷ []) values ≡ and_then (run first frame nodes values) (λ ws. and_then (node_value first frame ws x) (λ v. got (ws ++ v ∷ [])))
run-push first frame nodes x values = run-append first frame nodes (x ∷ []) values
