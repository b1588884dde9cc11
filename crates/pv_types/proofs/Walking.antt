-- Steps of a walk: the first variable, or the first element, and what stays on the stack.
use Rattle.std.specs.Prelude.{◌≡◌, ◌<◌, ◌≤◌, ℕ, ◌+◌, ◌-◌, ℤ, List, [], ◌∷◌, ◌++◌, Some, Result, Ok, Err, OnOk, length, take, drop, refl, true, false}
use Rattle.std.proofs.Common.{ap, subst, sym, ◌∙◌, append_assoc, arith, length-take-le, true≢false}
use Rattle.std.specs.Fmt.{signed_decimal}
use Rattle.std.proofs.lemmas.List.{append_cancel_left, length-append, take-append-drop}
use Rattle.pv_types.specs.declared.declaration.Section.{Section}
use Rattle.pv_types.specs.declared.var.Var.{Var}
use Rattle.pv_types.specs.declared.name.Name.{Name}
use Rattle.pv_types.specs.declared.leaf.Leaf.{Leaf}
use Rattle.pv_types.specs.declared.walk.Walk.{Walk}
use Rattle.pv_types.specs.declared.layout.TheConstants.{MAX_LEAVES}
use Rattle.pv_types.specs.declared.walk.Frame.{Frame}
use Rattle.pv_types.specs.declared.walk.Rest.{Rest}
use Rattle.pv_types.specs.declared.walk.Rest.TheVariants.{Vars, Elements}
use Rattle.pv_types.specs.Tree.{VarTree, var, VarTrees, no_vars, _then_}
use Rattle.pv_types.specs.View.{type_tree, var_tree, trees_from, listed}
use Rattle.pv_types.specs.Named.{NamedType}
use Rattle.pv_types.specs.Leaves.{Around, section_within, field_path, start_value, leaves_where, leaves_of_type, leaves_of_vars}
use Rattle.pv_types.specs.Walk.{
  AreLow,
  pending,
  work_left,
  work_of_type,
  work_of_vars,
  work_of_named,
  work_of_rest,
  leaves_of_rest,
  IsSound,
  Adds,
  Pops,
  Steps,
  all_leaves,
}
use Rattle.pv_types.proofs.Stack.{pending_front, pending_push, work_push, low_raise, low_pop}

pub on_ok : {T E : Type 0} (r : Result T E) {P Q : Type 0} → (P → Q) → OnOk r P → OnOk r Q
on_ok (Ok x) f p = f p
on_ok (Err e) f p = p

-- what a name puts behind a path
abbrev pub field_behind : List ℕ → Name → List ℕ
field_behind [] name = name.spelled
field_behind (c ∷ path) name = 46 ∷ name.spelled

pub field_path_longer : (path : List ℕ) (name : Name) → field_path path name ≡ path ++ field_behind path name
field_path_longer [] name = refl
field_path_longer (c ∷ path) name = refl

-- a walk whose path is longer is sound where the other is
pub longer_sound : (mid new : Walk) (more : List ℕ) → IsSound mid → new.frames.items ≡ mid.frames.items
    → new.leaves.items ≡ mid.leaves.items
    → new.path.items ≡ mid.path.items ++ more → IsSound new
longer_sound mid new more sound frames leaves path = record {
  low = subst (λ fs. AreLow fs (length new.path.items)) (sym frames)
      (low_raise mid.frames.items (length mid.path.items) (length new.path.items) sound.low
      (omega (arith, ap length path, length-append mid.path.items more)));
  room = subst (λ ls. length ls ≤ MAX_LEAVES) (sym leaves) sound.room;
}

-- what stays is put on the stack first, then what comes first is laid out beneath a longer path
pub deeper : (types : List NamedType) (old mid inner new : Walk) (rest first : List Leaf) (behind : List ℕ) (m n : ℕ)
    → mid.leaves.items ≡ old.leaves.items
    → inner.frames.items ≡ mid.frames.items → inner.leaves.items ≡ mid.leaves.items → inner.path.items ≡ mid.path.items ++ behind
    → Adds types old mid rest m → Adds types inner new first n → Adds types old new (first ++ rest) (m + n)
deeper types old mid inner new rest first behind m n kept frames leaves path below above =
    let left = pending types old.path.items old.frames.items in
    let here : pending types mid.path.items mid.frames.items ≡ rest ++ left =
    append_cancel_left old.leaves.items _ _ (ap (λ l. l ++ pending types mid.path.items mid.frames.items) (sym kept) ∙ below.total) in
    let same : pending types inner.path.items inner.frames.items ≡ rest ++ left =
    ap (λ p. pending types p inner.frames.items) path ∙ ap (pending types (mid.path.items ++ behind)) frames
    ∙ pending_front types mid.path.items behind mid.frames.items below.sound.low ∙ here in
    record {
      sound = above.sound;
      total = above.total ∙ ap (λ l. l ++ (first ++ pending types inner.path.items inner.frames.items)) (leaves ∙ kept)
          ∙ ap (λ l. old.leaves.items ++ (first ++ l)) same ∙ ap (λ l. old.leaves.items ++ l) (sym (append_assoc first rest left));
      work_falls = omega (arith, below.work_falls, above.work_falls, ap (work_left types) frames);
    }

pub re_adds : (types : List NamedType) (old new : Walk) (more now : List Leaf) (m n : ℕ) → more ≡ now → m ≤ n → Adds types old new more m
    → Adds types old new now n
re_adds types old new more now m n same le a = record {
  sound = a.sound;
  total = a.total ∙ ap (λ l. old.leaves.items ++ (l ++ pending types old.path.items old.frames.items)) same;
  work_falls = omega (arith, a.work_falls, le);
}

-- the leaves of variables, by the first of them
pub leaves_first : (expand : List ℕ → List ℕ → Section → List Leaf) (around : Around) (path : List ℕ) (v : Var) (vs all : List VarTree)
    (s : Section) → all ≡ var_tree v ∷ vs
    → Some s ≡ section_within around v.of.now.section
    → leaves_of_type expand (field_path path v.name.now) (start_value v.of.now.start) s (type_tree v.of.now.ty)
    ++ leaves_of_vars expand around path (listed vs)
    ≡ leaves_of_vars expand around path (listed all)
leaves_first expand around path v vs all s are some =
    ap (λ o. leaves_where o (λ s. leaves_of_type expand (field_path path v.name.now) (start_value v.of.now.start) s (type_tree v.of.now.ty))
    ++ leaves_of_vars expand around path (listed vs)) some
    ∙ ap (λ l. leaves_of_vars expand around path (listed l)) (sym are)

pub work_first : (work : List ℕ → ℕ) (v : Var) (vs all : List VarTree) → all ≡ var_tree v ∷ vs
    → work_of_vars work (listed all) ≡ 1 + work_of_type work (type_tree v.of.now.ty) + work_of_vars work (listed vs)
work_first work v vs all are = ap (λ l. work_of_vars work (listed l)) are

-- what an index puts behind a path
abbrev pub element_behind : ℤ → List ℕ
element_behind index = 91 ∷ (signed_decimal index ++ 93 ∷ [])

-- a frame that was pushed last is taken off
pub popped : (types : List NamedType) (old new : Walk) (fs : List Frame) (f : Frame) → IsSound old → old.frames.items ≡ fs ++ f ∷ []
    → new.frames.items ≡ fs
    → new.path.items ≡ take f.path_len old.path.items → new.leaves.items ≡ old.leaves.items → Pops types old new f
popped types old new fs f sound was now path leaves =
    let low = low_pop fs f (length old.path.items) (subst (λ l. AreLow l (length old.path.items)) was sound.low) in
    let len : length new.path.items ≡ f.path_len = ap length path ∙ length-take-le f.path_len old.path.items low.1 in
    let whole : take f.path_len old.path.items ++ drop f.path_len old.path.items ≡ old.path.items =
    take-append-drop f.path_len old.path.items in
    let short : AreLow fs (length (take f.path_len old.path.items)) =
    subst (λ n. AreLow fs n) (sym (length-take-le f.path_len old.path.items low.1)) low.0 in
    let front : pending types old.path.items fs ≡ pending types new.path.items new.frames.items =
    ap (λ p. pending types p fs) (sym whole)
    ∙ pending_front types (take f.path_len old.path.items) (drop f.path_len old.path.items) fs short
    ∙ ap (λ p. pending types p fs) (sym path) ∙ ap (pending types new.path.items) (sym now) in
    record {
      sound = record {
        low = subst (λ l. AreLow l (length new.path.items)) (sym now) (subst (λ n. AreLow fs n) (sym len) low.0);
        room = subst (λ ls. length ls ≤ MAX_LEAVES) (sym leaves) sound.room;
      };
      leaves = leaves;
      total = ap (pending types old.path.items) was ∙ pending_push types old.path.items fs f
          ∙ ap (λ l. leaves_of_rest types f.levels (take f.path_len old.path.items) f.rest ++ l) front
          ∙ ap (λ p. leaves_of_rest types f.levels p f.rest ++ pending types new.path.items new.frames.items) (sym path);
      work = ap (work_left types) was ∙ work_push types fs f ∙ ap (λ l. work_left types l + work_of_rest types f.levels f.rest) (sym now);
    }

vars_take_steps : (work : List ℕ → ℕ) (vars : VarTrees) → 1 ≤ work_of_vars work vars
vars_take_steps work no_vars = omega arith
vars_take_steps work (_then_ (var name section ty start place) xs) = omega arith

rest_takes_steps : (types : List NamedType) (n : ℕ) (rest : Rest) → 1 ≤ work_of_rest types n rest
rest_takes_steps types n (Vars vars from around) = vars_take_steps (work_of_named types n) (listed (trees_from vars.now from))
rest_takes_steps types n (Elements of span section) = omega arith

pub stepped : (types : List NamedType) (old mid new : Walk) (f : Frame) → Pops types old mid f
    → Adds types mid new (leaves_of_rest types f.levels mid.path.items f.rest) (work_of_rest types f.levels f.rest - 1)
    → Steps types old new true
stepped types old mid new f p a = record {
  sound = a.sound;
  total = a.total ∙ ap (λ l. l ++ (leaves_of_rest types f.levels mid.path.items f.rest ++ pending types mid.path.items mid.frames.items))
      p.leaves
      ∙ ap (λ l. old.leaves.items ++ l) (sym p.total);
  falls = λ going. let some = rest_takes_steps types f.levels f.rest in omega (arith, a.work_falls, p.work, some);
  ends = λ no. absurd (true≢false no);
}

-- leaves that don't fit any more are too many
pub too_many : (types : List NamedType) (old mid : Walk) (f : Frame) → Pops types old mid f
    → MAX_LEAVES < length mid.leaves.items + length (leaves_of_rest types f.levels mid.path.items f.rest)
    → MAX_LEAVES < length (all_leaves types old)
too_many types old mid f p over =
    let first = leaves_of_rest types f.levels mid.path.items f.rest in
    let left = pending types mid.path.items mid.frames.items in
    omega (
      arith,
      over,
      ap length p.leaves,
      ap length p.total,
      length-append first left,
      length-append old.leaves.items
          (pending types old.path.items old.frames.items),
    )

pub ended : (types : List NamedType) (old new : Walk) → IsSound old → old.frames.items ≡ [] → new.frames.items ≡ []
    → new.leaves.items ≡ old.leaves.items
    → new.path.items ≡ old.path.items → Steps types old new false
ended types old new sound was now leaves path = record {
  sound = record {
    low = subst (λ l. AreLow l (length new.path.items)) (sym now) tt;
    room = subst (λ ls. length ls ≤ MAX_LEAVES) (sym leaves) sound.room;
  };
  total = ap (λ l. l ++ pending types new.path.items new.frames.items) leaves
      ∙ ap (λ l. old.leaves.items ++ l) (ap (pending types new.path.items) now ∙ sym (ap (pending types old.path.items) was));
  falls = λ going. absurd (true≢false (sym going));
  ends = λ no. now;
}
