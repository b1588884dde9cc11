-- The element at an index, by the number of its cell.
use Rattle.std.proofs.Common.{◌≡◌, ℕ, ◌+◌, ◌<◌, ℤ, pos, List, refl, sym, subst, ◌∙◌, ap, arith}
use Rattle.std.specs.Prelude.{Some, None, unsigned_abs, int_le, Bool as Truth, true, false, ◌&&◌, if◌then◌else◌}
use Rattle.std.proofs.lemmas.Int.{ints}
use Rattle.pv_place.specs.declared.place.Place.{Place}
use Rattle.pv_place.specs.declared.trap.TrapKind.TheVariants.{Index}
use Rattle.pv_types.specs.Tree.{TypeTree, plain, array, structure, named, unread}
use Rattle.pv_names.specs.Views.{held_tree}
use Rattle.pv_mean.specs.declared.count.TheConstants.{BEYOND}
use Rattle.pv_mean.specs.Counts.{capped}
use Rattle.pv_mean.specs.Sized.{sized_project}
use Rattle.pv_mean.specs.Layout as layout
use Rattle.pv_mean.specs.Sources.{Source}
use Rattle.pv_mean.specs.Frames.{Frame}
use Rattle.pv_mean.specs.Endings.{Tried, Value, got, trap, and_then}
use Rattle.pv_mean.specs.Spots as spots
use Rattle.pv_mean.specs.Activations.{Begins, in_visible, in_brief, at}
use Rattle.pv_mean.specs.Values.{argument, arguments_behind, element_begins, element_where}
use Rattle.pv_eval.specs.declared.node.Node.{Node}
use Rattle.pv_eval.specs.declared.node.Node.TheVariants.{Element}
use Rattle.pv_eval.specs.declared.node.Spot.{Spot}
use Rattle.pv_eval.specs.declared.node.Spot.TheVariants.{Nowhere}
use Rattle.pv_eval.specs.Operands as operands
use Rattle.pv_eval.specs.Nodes.{element_number}
use Rattle.pv_eval.specs.Means.{Makes}
use Rattle.pv_eval.proofs.ForCallers.{and_then-assoc, and_then-same, makes-map}
use Rattle.pv_resolve.specs.declared.context.Context.{Context}
use Rattle.pv_resolve.specs.Contexts.{IsContext}
use Rattle.pv_resolve.specs.declared.begin.Begin.{Begin}
use Rattle.pv_resolve.specs.declared.begin.Begin.TheVariants.{In, At}
use Rattle.pv_resolve.specs.declared.begin.Where.{Where}
use Rattle.pv_resolve.specs.declared.begin.Where.TheVariants.{Own, Visible, Brief}
use Rattle.pv_resolve.specs.declared.laid.LaidLevel.{LaidLevel}
use Rattle.pv_resolve.specs.Laying.{laid_tree}
use Rattle.pv_resolve.specs.Begins.{begins_in, begins_further}
use Rattle.pv_resolve.specs.Growing.{Adds}
use Rattle.pv_resolve.specs.Walks.{number_and_index, GoesOn}
use Rattle.pv_resolve.proofs.Beginning.{exact_number}
use Rattle.pv_resolve.proofs.FormLaws.{pushed}

-- ---- what holds no parts names nothing behind an index

pub goes_nowhere : (source : Source) (base new : List Node) (b : Begin) (from index : ℕ) (place : Place) (values : ℕ → Frame → Tried (List ℤ))
    (spot : Spot) → b ≡ At spot → Makes base new (λ first ws. number_and_index from index ws) values
    → GoesOn source base new b (record { begin = At Nowhere; address = None; block = None }) place values
goes_nowhere source base new b from index place values spot is m =
    subst (λ x. GoesOn source base new x (record { begin = At Nowhere; address = None; block = None }) place values) (sym is) (record {
      meaning = λ first frame. and_then (values first frame) (λ vs. got (pos 0));
      makes = makes-map base new (λ first ws. number_and_index from index ws) values (λ first vs. pos 0) m;
      holds = tt;
      leads = λ first frame. and_then-assoc (values first frame) (λ vs. got (pos 0)) (λ a. let t : Tried Begins = got (at spots.nowhere) in t);
    })

-- ---- elements of arrays

chosen_element : (in_part : layout.Laid → Begins) (c : Truth) (k s f : ℕ) (ty : TypeTree) (place : Place)
    → and_then (if c then got (pos (k + s)) else trap Index place) (λ b. got (in_part (record { ty = ty; first = unsigned_abs b + f })))
    ≡ element_where in_part (if c then Some (record { ty = ty; first = k + f + s }) else None) place
chosen_element in_part true k s f ty place =
    let e : k + s + f ≡ k + f + s = omega arith in
    ap (λ n. let t : Tried Begins = got (in_part (record { ty = ty; first = n })) in t) e
chosen_element in_part false k s f ty place = refl

element_leads : (source : Source) (part : Where) (first from : ℕ) (low high : ℤ) (of : TypeTree) (p place : Place) (a i : ℤ)
    → and_then (element_number a i low high (layout.size_in source.project of) place)
    (λ b. got (begins_further (unsigned_abs b) (begins_in part first (record { ty = of; first = from }))))
    ≡ element_begins source (begins_further (unsigned_abs a) (begins_in part first (record { ty = array low high of p; first = from }))) i place
element_leads source Own first from low high of p place a i =
    chosen_element in_visible (int_le low i && int_le i high) (unsigned_abs a) (operands.span low i (layout.size_in source.project of)) (first + from) of
    place
element_leads source Visible first from low high of p place a i =
    chosen_element in_visible (int_le low i && int_le i high) (unsigned_abs a) (operands.span low i (layout.size_in source.project of)) from of place
element_leads source Brief first from low high of p place a i =
    chosen_element in_brief (int_le low i && int_le i high) (unsigned_abs a) (operands.span low i (layout.size_in source.project of)) from of place

-- the value of an element's node
abbrev element : ℤ → ℤ → ℕ → Place → List ℤ → Value
element low high stride place vs = element_number (argument vs) (argument (arguments_behind vs)) low high stride place

element_found : (source : Source) (part : Where) (first : ℕ) (l inner : LaidLevel) (low high : ℤ) (stride : ℕ) (of : TypeTree) (p place : Place)
    (vs : List ℤ) → held_tree l.ty ≡ array low high of p → held_tree inner.ty ≡ of → inner.first ≡ l.first
    → stride ≡ layout.size_in source.project of
    → and_then (element low high stride place vs) (λ a. got (begins_further (unsigned_abs a) (begins_in part first (laid_tree inner))))
    ≡ element_begins source (begins_further (unsigned_abs (argument vs)) (begins_in part first (laid_tree l))) (argument (arguments_behind vs)) place
element_found source part first l inner low high stride of p place vs ty inner_ty same_first size =
    ap (λ s. and_then (element low high s place vs) (λ a. got (begins_further (unsigned_abs a) (begins_in part first (laid_tree inner))))) size
    ∙ ap (λ t. and_then (element low high (layout.size_in source.project of) place vs)
    (λ a. got (begins_further (unsigned_abs a) (begins_in part first (record { ty = t; first = inner.first }))))) inner_ty
    ∙ ap (λ f. and_then (element low high (layout.size_in source.project of) place vs)
    (λ a. got (begins_further (unsigned_abs a) (begins_in part first (record { ty = of; first = f }))))) same_first
    ∙ element_leads source part first l.first low high of p place (argument vs) (argument (arguments_behind vs))
    ∙ ap (λ t. element_begins source (begins_further (unsigned_abs (argument vs)) (begins_in part first (record { ty = t; first = l.first })))
    (argument (arguments_behind vs)) place) (sym ty)

pub goes_element : (source : Source) (base old new : List Node) (b : Begin) (part : Where) (l inner : LaidLevel) (from index n : ℕ) (low high : ℤ)
    (stride most : ℕ) (of : TypeTree) (p place : Place) (values : ℕ → Frame → Tried (List ℤ)) → b ≡ In part l
    → held_tree l.ty ≡ array low high of p → held_tree inner.ty ≡ of → inner.first ≡ l.first → stride ≡ layout.size_in source.project of
    → Adds old new (Element from index low high stride most place) n → Makes base old (λ first ws. number_and_index from index ws) values
    → GoesOn source base new b (record { begin = In part inner; address = Some n; block = None }) place values
goes_element source base old new b part l inner from index n low high stride most of p place values is ty inner_ty same_first size adds m =
    subst (λ x. GoesOn source base new x (record { begin = In part inner; address = Some n; block = None }) place values) (sym is) (record {
      meaning = λ first frame. and_then (values first frame) (λ vs. element low high stride place vs);
      makes = pushed base old new (λ first ws. number_and_index from index ws) values (Element from index low high stride most place) n
          (λ first frame vs. element low high stride place vs) adds (λ first frame ws h. refl) m;
      holds = tt;
      leads = λ first frame.
          and_then-assoc (values first frame) (λ vs. element low high stride place vs)
          (λ a. got (begins_further (unsigned_abs a) (begins_in part first (laid_tree inner))))
          ∙ and_then-same (values first frame) _ _ (λ vs _.
          element_found source part first l inner low high stride of p place vs ty inner_ty same_first size);
    })

-- by the code's bounds and size
pub goes_array : (c : Context) (source : Source) (base old new : List Node) (part : Where) (l inner : LaidLevel) (from index n : ℕ)
    (lo hi low high : ℤ) (stride most : ℕ) (of : TypeTree) (p place : Place) (values : ℕ → Frame → Tried (List ℤ)) → IsContext c source
    → held_tree l.ty ≡ array low high of p → held_tree inner.ty ≡ of → inner.first ≡ l.first
    → stride ≡ capped (layout.size_in (sized_project c.sizes.now) of) → stride < BEYOND → lo ≡ low → hi ≡ high
    → Adds old new (Element from index lo hi stride most place) n → Makes base old (λ first ws. number_and_index from index ws) values
    → GoesOn source base new (In part l) (record { begin = In part inner; address = Some n; block = None }) place values
goes_array c source base old new part l inner from index n lo hi low high stride most of p place values is ty inner_ty same_first size below
    same_low same_high adds m =
    goes_element source base old new (In part l) part l inner from index n low high stride most of p place values refl ty inner_ty same_first
    (exact_number stride (layout.size_in (sized_project c.sizes.now) of) size below ∙ ap (λ q. layout.size_in q of) is.sizes)
    (subst (λ z. Adds old new (Element from index low z stride most place) n) same_high
    (subst (λ z. Adds old new (Element from index z hi stride most place) n) same_low adds))
    m

-- bounds that were passed on
pub same_bounds : (ty : TypeTree) (low high lo hi : ℤ) (of : TypeTree) (p : Place) → ty ≡ array low high of p → lo ≡ low → hi ≡ high
    → ty ≡ array lo hi of p
same_bounds ty low high lo hi of p is same_low same_high = is ∙ ap (λ z. array z high of p) (sym same_low) ∙ ap (λ z. array lo z of p) (sym same_high)

-- ---- what isn't an array traps at any index

abbrev pub IsNoArray : TypeTree → Type 0
IsNoArray (plain ty) = Unit {0}
IsNoArray (array low high of place) = ⊥
IsNoArray (structure vars) = Unit {0}
IsNoArray (named name place) = Unit {0}
IsNoArray unread = Unit {0}

never : (i : ℤ) → (int_le (pos 1) i && int_le i (pos 0)) ≡ false
never i = grind (arith, ints)

no_number : (a i : ℤ) (place : Place) → element_number a i (pos 1) (pos 0) 0 place ≡ trap Index place
no_number a i place = ap (λ b. let t : Value = if b then got (pos (unsigned_abs a + operands.span (pos 1) i 0)) else trap Index place in t) (never i)

trap_leads : (source : Source) (part : Where) (first k f : ℕ) (t : TypeTree) (i : ℤ) (place : Place) → IsNoArray t
    → element_begins source (begins_further k (begins_in part first (record { ty = t; first = f }))) i place ≡ trap Index place
trap_leads source Own first k f (plain ty) i place h = refl
trap_leads source Own first k f (array low high of p) i place h = absurd h
trap_leads source Own first k f (structure vars) i place h = refl
trap_leads source Own first k f (named name p) i place h = refl
trap_leads source Own first k f unread i place h = refl
trap_leads source Visible first k f (plain ty) i place h = refl
trap_leads source Visible first k f (array low high of p) i place h = absurd h
trap_leads source Visible first k f (structure vars) i place h = refl
trap_leads source Visible first k f (named name p) i place h = refl
trap_leads source Visible first k f unread i place h = refl
trap_leads source Brief first k f (plain ty) i place h = refl
trap_leads source Brief first k f (array low high of p) i place h = absurd h
trap_leads source Brief first k f (structure vars) i place h = refl
trap_leads source Brief first k f (named name p) i place h = refl
trap_leads source Brief first k f unread i place h = refl

pub goes_trap : (source : Source) (base old new : List Node) (b : Begin) (part : Where) (l : LaidLevel) (from index n most : ℕ) (place : Place)
    (values : ℕ → Frame → Tried (List ℤ)) → b ≡ In part l → IsNoArray (held_tree l.ty)
    → Adds old new (Element from index (pos 1) (pos 0) 0 most place) n → Makes base old (λ first ws. number_and_index from index ws) values
    → GoesOn source base new b (record { begin = At Nowhere; address = Some n; block = None }) place values
goes_trap source base old new b part l from index n most place values is none adds m =
    subst (λ x. GoesOn source base new x (record { begin = At Nowhere; address = Some n; block = None }) place values) (sym is) (record {
      meaning = λ first frame. and_then (values first frame) (λ vs. element (pos 1) (pos 0) 0 place vs);
      makes = pushed base old new (λ first ws. number_and_index from index ws) values (Element from index (pos 1) (pos 0) 0 most place) n
          (λ first frame vs. element (pos 1) (pos 0) 0 place vs) adds (λ first frame ws h. refl) m;
      holds = tt;
      leads = λ first frame.
          and_then-assoc (values first frame) (λ vs. element (pos 1) (pos 0) 0 place vs) (λ a. let t : Tried Begins = got (at spots.nowhere) in t)
          ∙ and_then-same (values first frame) _ _ (λ vs _.
          ap (λ t. and_then t (λ a. let u : Tried Begins = got (at spots.nowhere) in u)) (no_number (argument vs) (argument (arguments_behind vs)) place)
          ∙ sym (trap_leads source part first (unsigned_abs (argument vs)) l.first (held_tree l.ty) (argument (arguments_behind vs)) place none));
    })
