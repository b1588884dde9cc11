-- The way along an operand's steps, one step more.
use Rattle.std.proofs.Common.{◌≡◌, ℕ, ◌+◌, ℤ, pos, List, [], ◌∷◌, ◌++◌, refl, sym, subst, ◌∙◌, ap, arith}
use Rattle.std.specs.Prelude.{Option, Some, None, unsigned_abs}
use Rattle.pv_place.specs.declared.place.Place.{Place}
use Rattle.pv_types.specs.declared.name.Name.{Name}
use Rattle.pv_tree.specs.declared.expr.Root.{Root}
use Rattle.pv_tree.specs.Tree.{ExprTree, StepTree, field, index, StepTrees, no_steps, OperandTree, operand, BlockTree}
use Rattle.pv_tree.specs.View.{steps_of}
use Rattle.pv_mean.specs.Sources.{Source}
use Rattle.pv_mean.specs.Frames.{Frame}
use Rattle.pv_mean.specs.Endings.{Tried, got, trap, and_then}
use Rattle.pv_mean.specs.Activations.{Activation, Begins, in_visible, in_brief, at, root_begins, spot_of}
use Rattle.pv_mean.specs.Values.{value, locate, field_begins, element_begins, behind, step_behind}
use Rattle.pv_eval.specs.declared.node.Operand.{Operand}
use Rattle.pv_eval.specs.declared.node.Node.{Node}
use Rattle.pv_eval.specs.declared.node.Node.TheVariants.{Constant}
use Rattle.pv_eval.specs.Operands as operands
use Rattle.pv_eval.specs.Means.{Makes, Means, Names, activation}
use Rattle.pv_eval.proofs.ForCallers.{and_then-assoc, and_then-same, makes-none, makes-along, makes-map, makes-then}
use Rattle.pv_resolve.specs.declared.begin.Begin.{Begin}
use Rattle.pv_resolve.specs.declared.walk.Walk.{Walk}
use Rattle.pv_resolve.specs.Begins.{HoldsBlock, begin_at, begins_further, begins_behind, address_value, walk_at}
use Rattle.pv_resolve.specs.Growing.{Adds}
use Rattle.pv_resolve.specs.Walks.{IsWalk, number_and_index, GoesOn}
use Rattle.pv_resolve.proofs.FormLaws.{pushed, both_parts_then, makes-read}

alone : {A : Type 0} (t : Tried A) → and_then t (λ a. got a) ≡ t
alone (got a) = refl
alone (trap kind place) = refl

-- ---- the beginning

pub walk_begins : (source : Source) (block : BlockTree) (base : List Node) (b : Begin) (o : Option ℕ) (root : Root)
    → HoldsBlock source.project b o → ((first : ℕ) → begin_at b first ≡ root_begins source (activation block first) root)
    → IsWalk source block base base (record { begin = b; address = None; block = o }) root no_steps
walk_begins source block base b o root holds is = record {
  meaning = λ first frame. got (pos 0);
  makes = makes-none base (λ first. pos 0);
  holds = holds;
  leads = λ first frame. ap (λ (b : Begins). let t : Tried Begins = got b in t) (is first);
}

-- ---- a node of 0 for the address

none_further : (b : Begins) → begins_further 0 b ≡ b
none_further (in_visible l) =
    let e : 0 + l.first ≡ l.first = omega arith in ap (λ n. let b : Begins = in_visible (record { ty = l.ty; first = n }) in b) e
none_further (in_brief l) =
    let e : 0 + l.first ≡ l.first = omega arith in ap (λ n. let b : Begins = in_brief (record { ty = l.ty; first = n }) in b) e
none_further (at spot) = refl

pub walk_addressed : (source : Source) (block : BlockTree) (base old new : List Node) (b : Begin) (o : Option ℕ) (n : ℕ) (root : Root) (more : StepTrees)
    → Adds old new (Constant (pos 0)) n → IsWalk source block base old (record { begin = b; address = None; block = o }) root more
    → IsWalk source block base new (record { begin = b; address = Some n; block = o }) root more
walk_addressed source block base old new b o n root more adds w = record {
  meaning = λ first frame. and_then (w.meaning first frame) (λ a. got (pos 0));
  makes = pushed base old new (λ first ws. pos 0) w.meaning (Constant (pos 0)) n (λ first frame a. got (pos 0)) adds
      (λ first frame ws h. refl) w.makes;
  holds = w.holds;
  leads = λ first frame.
      and_then-assoc (w.meaning first frame) (λ a. got (pos 0)) (λ a. got (begins_further (unsigned_abs a) (begin_at b first)))
      ∙ and_then-same (w.meaning first frame) (λ a. got (begins_further 0 (begin_at b first))) (λ a. got (begin_at b first))
      (λ a _. ap (λ (b : Begins). let t : Tried Begins = got b in t) (none_further (begin_at b first)))
      ∙ w.leads first frame;
}

-- ---- a step more

behind-more : (source : Source) (act : Activation) (frame : Frame) (b : Begins) (xs : List StepTree) (s : StepTree)
    → behind source act frame b (steps_of (xs ++ s ∷ []))
    ≡ and_then (behind source act frame b (steps_of xs)) (λ c. step_behind source act frame c s)
behind-more source act frame b [] s = alone (step_behind source act frame b s)
behind-more source act frame b (x ∷ xs) s =
    and_then-same (step_behind source act frame b x) (λ c. behind source act frame c (steps_of (xs ++ s ∷ [])))
    (λ c. and_then (behind source act frame c (steps_of xs)) (λ d. step_behind source act frame d s))
    (λ c _. behind-more source act frame c xs s)
    ∙ sym (and_then-assoc (step_behind source act frame b x) (λ c. behind source act frame c (steps_of xs))
    (λ d. step_behind source act frame d s))

pub walk_field : (source : Source) (block : BlockTree) (base new : List Node) (b next : Begin) (o address : Option ℕ) (root : Root)
    (xs : List StepTree) (s : StepTree) (name : Name) (place : Place) → s ≡ field name place
    → ((address : Option ℕ) (a : ℤ) (first : ℕ) → begins_behind address a (begin_at next first)
    ≡ field_begins source (begins_behind address a (begin_at b first)) name.key)
    → IsWalk source block base new (record { begin = b; address = address; block = o }) root (steps_of xs)
    → IsWalk source block base new (record { begin = next; address = address; block = None }) root (steps_of (xs ++ s ∷ []))
walk_field source block base new b next o address root xs s name place is leads w =
    subst (λ x. IsWalk source block base new (record { begin = next; address = address; block = None }) root (steps_of (xs ++ x ∷ []))) (sym is) (record {
      meaning = w.meaning;
      makes = w.makes;
      holds = tt;
      leads = λ first frame.
          and_then-same (w.meaning first frame) (λ a. got (begins_behind address a (begin_at next first)))
          (λ a. got (field_begins source (begins_behind address a (begin_at b first)) name.key))
          (λ a _. ap (λ (b : Begins). let t : Tried Begins = got b in t) (leads address a first))
          ∙ sym (and_then-assoc (w.meaning first frame) (λ a. got (begins_behind address a (begin_at b first)))
          (λ c. got (field_begins source c name.key)))
          ∙ ap (λ t. and_then t (λ c. got (field_begins source c name.key))) (w.leads first frame)
          ∙ sym (behind-more source (activation block first) frame (root_begins source (activation block first) root) xs (field name place));
    })

-- the number of a walk's address and the value of an index behind it
abbrev pub number_then : (meaning : ℕ → Frame → Tried ℤ) → Source → BlockTree → ExprTree → ℕ → Frame → Tried (List ℤ)
number_then meaning source block e first frame =
    and_then (meaning first frame) (λ a. and_then (value source (activation block first) frame e) (λ v. got (a ∷ v ∷ [])))

walk_goes : (source : Source) (block : BlockTree) (base old new : List Node) (b : Begin) (o : Option ℕ) (from : ℕ) (next : Walk) (root : Root)
    (xs : List StepTree) (e : ExprTree) (place : Place)
    → (w : IsWalk source block base old (record { begin = b; address = Some from; block = o }) root (steps_of xs))
    → GoesOn source base new b next place (number_then w.meaning source block e)
    → IsWalk source block base new next root (steps_of (xs ++ index e place ∷ []))
walk_goes source block base old new b o from next root xs e place w g = record {
  meaning = g.meaning;
  makes = g.makes;
  holds = g.holds;
  leads = λ first frame.
      g.leads first frame
      ∙ both_parts_then (w.meaning first frame) (value source (activation block first) frame e)
      (λ a v. element_begins source (begins_further (unsigned_abs a) (begin_at b first)) v place)
      ∙ sym (and_then-assoc (w.meaning first frame) (λ a. got (begins_further (unsigned_abs a) (begin_at b first)))
      (λ c. step_behind source (activation block first) frame c (index e place)))
      ∙ ap (λ t. and_then t (λ c. step_behind source (activation block first) frame c (index e place))) (w.leads first frame)
      ∙ sym (behind-more source (activation block first) frame (root_begins source (activation block first) root) xs (index e place));
}

pub index_makes : (source : Source) (block : BlockTree) (base old mid : List Node) (b : Begin) (o : Option ℕ) (from i : ℕ) (root : Root) (xs : List StepTree)
    (e : ExprTree) → (w : IsWalk source block base old (record { begin = b; address = Some from; block = o }) root (steps_of xs))
    → Means source block old mid i e → Makes base mid (λ first ws. number_and_index from i ws) (number_then w.meaning source block e)
index_makes source block base old mid b o from i root xs e w n =
    makes-then base old mid (λ first ws. operands.at ws from) (λ first ws. operands.at ws i) w.meaning
    (λ first frame. value source (activation block first) frame e) (λ a v. a ∷ v ∷ []) w.makes n.makes

pub walk_index : (source : Source) (block : BlockTree) (base old new : List Node) (b : Begin) (o : Option ℕ) (from : ℕ) (next : Walk) (root : Root)
    (xs : List StepTree) (s : StepTree) (e : ExprTree) (place : Place) → s ≡ index e place
    → (w : IsWalk source block base old (record { begin = b; address = Some from; block = o }) root (steps_of xs))
    → GoesOn source base new b next place (number_then w.meaning source block e)
    → IsWalk source block base new next root (steps_of (xs ++ s ∷ []))
walk_index source block base old new b o from next root xs s e place is w goes =
    subst (λ x. IsWalk source block base new next root (steps_of (xs ++ x ∷ []))) (sym is)
    (walk_goes source block base old new b o from next root xs e place w goes)

-- ---- the end

pub walk_ends : (source : Source) (block : BlockTree) (base new : List Node) (w : Walk) (o : Operand) (root : Root) (more : StepTrees)
    (place : Place) (named : OperandTree) → named ≡ operand root more place
    → ((first : ℕ) (values : List ℤ) → operands.spot_at first values o ≡ spot_of (walk_at w first (address_value w.address values)))
    → IsWalk source block base new w root more → Names source block base new o named
walk_ends source block base new w o root more place named is spot m =
    subst (Names source block base new o) (sym is) (record {
      makes = makes-along base new (λ first ws. operands.spot_at first ws o)
          (λ first frame. and_then (m.meaning first frame) (λ a. got (spot_of (walk_at w first a))))
          (λ first frame. locate source (activation block first) frame (operand root more place))
          (λ first frame.
          sym (and_then-assoc (m.meaning first frame) (λ a. got (walk_at w first a)) (λ b. got (spot_of b)))
          ∙ ap (λ t. and_then t (λ b. got (spot_of b))) (m.leads first frame))
          (makes-read base new (λ first ws. spot_of (walk_at w first (address_value w.address ws))) (λ first ws. operands.spot_at first ws o)
          (λ first frame. and_then (m.meaning first frame) (λ a. got (spot_of (walk_at w first a))))
          (λ first ws. sym (spot first ws))
          (makes-map base new (λ first ws. address_value w.address ws) m.meaning (λ first a. spot_of (walk_at w first a)) m.makes));
    })
