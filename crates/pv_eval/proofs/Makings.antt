-- What nodes mean that are put behind others: one after the other, and a node more.
use Rattle.std.proofs.Common.{◌≡◌, ℕ, ℤ, pos, List, [], ◌∷◌, ◌++◌, length, refl, sym, ◌∙◌, ap, arith, length-append, append_assoc}
use Rattle.std.proofs.lemmas.List.{append-nil, get_or_append_left, get_or_at}
use Rattle.pv_mean.specs.Frames.{Frame}
use Rattle.pv_mean.specs.Endings.{Tried, Value, got, trap, and_then}
use Rattle.pv_eval.specs.declared.node.Node.{Node}
use Rattle.pv_eval.specs.Operands.{at}
use Rattle.pv_eval.specs.Nodes.{node_value, run}
use Rattle.pv_eval.specs.Means.{Makes}
use Rattle.pv_eval.proofs.RunLaws.{and_then-assoc, and_then-same, run-append, run-follows}

-- what needs no node
pub makes-none : {A : Type 0} (old : List Node) (out : ℕ → A) → Makes old old (λ first ws. out first) (λ first frame. got (out first))
makes-none old out = record {
  code = [];
  extends = sym (append-nil old);
  same = λ first frame values e. refl;
  kept = λ first ws more h. refl;
}

-- a meaning that is another
pub makes-along : {A : Type 0} (old new : List Node) (out : ℕ → List ℤ → A) (meaning other : ℕ → Frame → Tried A) → ((first : ℕ) (frame : Frame) → meaning first frame ≡ other first frame) → Makes old new out meaning → Makes old new out other
makes-along old new out meaning other e m = record {
  code = m.code;
  extends = m.extends;
  same = λ first frame values h. m.same first frame values h ∙ e first frame;
  kept = m.kept;
}

-- something else that is read off the same values
pub makes-map : {A B : Type 0} (old new : List Node) (out : ℕ → List ℤ → A) (meaning : ℕ → Frame → Tried A) (f : ℕ → A → B) → Makes old new out meaning → Makes old new (λ first ws. f first (out first ws)) (λ first frame. and_then (meaning first frame) (λ a. got (f first a)))
makes-map old new out meaning f m = record {
  code = m.code;
  extends = m.extends;
  same = λ first frame values h.
      sym (and_then-assoc (run first frame m.code values) (λ ws. got (out first ws)) (λ a. got (f first a)))
      ∙ ap (λ t. and_then t (λ a. got (f first a))) (m.same first frame values h);
  kept = λ first ws more h. ap (f first) (m.kept first ws more h);
}

module _ {A B C : Type 0} (old mid new : List Node) (f : ℕ → List ℤ → A) (g : ℕ → List ℤ → B) (l : ℕ → Frame → Tried A) (r : ℕ → Frame → Tried B) (both : A → B → C) (m : Makes old mid f l) (n : Makes mid new g r) where
  -- behind the first part, what is read off it stays
  second_part : (first : ℕ) (frame : Frame) (w : List ℤ) → length w ≡ length mid → and_then (run first frame n.code w) (λ ws. got (both (f first ws) (g first ws))) ≡ and_then (r first frame) (λ b. got (both (f first w) b))
  second_part first frame w e =
      and_then-same (run first frame n.code w) (λ ws. got (both (f first ws) (g first ws))) (λ ws. got (both (f first w) (g first ws)))
      (λ ws is. let k = run-follows first frame n.code w ws is in
      ap (λ v. got (both v (g first ws))) (ap (f first) k.behind ∙ m.kept first w k.more (omega (arith, e))))
      ∙ sym (and_then-assoc (run first frame n.code w) (λ ws. got (g first ws)) (λ b. got (both (f first w) b)))
      ∙ ap (λ t. and_then t (λ b. got (both (f first w) b))) (n.same first frame w e)

  both_parts : (first : ℕ) (frame : Frame) (values : List ℤ) → length values ≡ length old → and_then (run first frame (m.code ++ n.code) values) (λ ws. got (both (f first ws) (g first ws))) ≡ and_then (l first frame) (λ a. and_then (r first frame) (λ b. got (both a b)))
  both_parts first frame values e =
      ap (λ t. and_then t (λ ws. got (both (f first ws) (g first ws)))) (run-append first frame m.code n.code values)
      ∙ and_then-assoc (run first frame m.code values) (λ w. run first frame n.code w) (λ ws. got (both (f first ws) (g first ws)))
      ∙ and_then-same (run first frame m.code values) (λ w. and_then (run first frame n.code w) (λ ws. got (both (f first ws) (g first ws)))) (λ w. and_then (r first frame) (λ b. got (both (f first w) b)))
      (λ w is. second_part first frame w (omega (arith, (run-follows first frame m.code values w is).count, e, ap length m.extends, length-append old m.code)))
      ∙ sym (and_then-assoc (run first frame m.code values) (λ w. got (f first w)) (λ a. and_then (r first frame) (λ b. got (both a b))))
      ∙ ap (λ t. and_then t (λ a. and_then (r first frame) (λ b. got (both a b)))) (m.same first frame values e)

  -- one part behind the other
  pub makes-then : Makes old new (λ first ws. both (f first ws) (g first ws)) (λ first frame. and_then (l first frame) (λ a. and_then (r first frame) (λ b. got (both a b))))
  makes-then = record {
    code = m.code ++ n.code;
    extends = n.extends ∙ ap (λ ns. ns ++ n.code) m.extends ∙ append_assoc old m.code n.code;
    same = both_parts;
    kept = λ first ws more h.
        ap (λ a. both a (g first (ws ++ more))) (m.kept first ws more (omega (arith, h, ap length n.extends, length-append mid n.code)))
        ∙ ap (λ b. both (f first ws) b) (n.kept first ws more h);
  }

module _ {A : Type 0} (old new : List Node) (f : ℕ → List ℤ → A) (l : ℕ → Frame → Tried A) (x : Node) (g : ℕ → Frame → A → Value) (is : (first : ℕ) (frame : Frame) (ws : List ℤ) → length ws ≡ length new → node_value first frame ws x ≡ g first frame (f first ws)) (m : Makes old new f l) where
  last_one : (first : ℕ) (frame : Frame) (w : List ℤ) → length w ≡ length new → and_then (run first frame (x ∷ []) w) (λ ws. got (at ws (length new))) ≡ g first frame (f first w)
  last_one first frame w e =
      and_then-assoc (node_value first frame w x) (λ v. got (w ++ v ∷ [])) (λ ws. got (at ws (length new)))
      ∙ and_then-same (node_value first frame w x) (λ v. got (at (w ++ v ∷ []) (length new))) (λ v. got v)
      (λ v _. ap got (get_or_at w v [] (pos 0) (length new) e))
      ∙ itself (node_value first frame w x) ∙ is first frame w e
    where
      itself : (t : Value) → and_then t (λ v. got v) ≡ t
      itself (got v) = refl
      itself (trap kind place) = refl

  with_one : (first : ℕ) (frame : Frame) (values : List ℤ) → length values ≡ length old → and_then (run first frame (m.code ++ x ∷ []) values) (λ ws. got (at ws (length new))) ≡ and_then (l first frame) (λ a. g first frame a)
  with_one first frame values e =
      ap (λ t. and_then t (λ ws. got (at ws (length new)))) (run-append first frame m.code (x ∷ []) values)
      ∙ and_then-assoc (run first frame m.code values) (λ w. run first frame (x ∷ []) w) (λ ws. got (at ws (length new)))
      ∙ and_then-same (run first frame m.code values) (λ w. and_then (run first frame (x ∷ []) w) (λ ws. got (at ws (length new)))) (λ w. g first frame (f first w))
      (λ w k. last_one first frame w (omega (arith, (run-follows first frame m.code values w k).count, e, ap length m.extends, length-append old m.code)))
      ∙ sym (and_then-assoc (run first frame m.code values) (λ w. got (f first w)) (λ a. g first frame a))
      ∙ ap (λ t. and_then t (λ a. g first frame a)) (m.same first frame values e)

  -- a node more, of what was read off
  pub makes-push : Makes old (new ++ x ∷ []) (λ first ws. at ws (length new)) (λ first frame. and_then (l first frame) (λ a. g first frame a))
  makes-push = record {
    code = m.code ++ x ∷ [];
    extends = ap (λ ns. ns ++ x ∷ []) m.extends ∙ append_assoc old m.code (x ∷ []);
    same = with_one;
    kept = λ first ws more h. get_or_append_left ws more (pos 0) (length new) (omega (arith, h, length-append new (x ∷ [])));
  }
