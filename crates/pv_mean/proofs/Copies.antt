-- What is copied at a call, and what isn't touched by it.
use Rattle.std.proofs.Common.{◌≡◌, ℤ, List, [], ◌∷◌, refl, ap, ◌∙◌, Option, Some, None}
use Rattle.std.specs.Prelude.{find}
use Rattle.pv_tree.specs.Tree.{ArgTree}
use Rattle.pv_tree.specs.Callees.{CallSite}
use Rattle.pv_tree.specs.Parts.{operand_of}
use Rattle.pv_mean.specs.Sources.{Source}
use Rattle.pv_mean.specs.Endings.{Tried, got, trap, and_then}
use Rattle.pv_mean.specs.Spots.{read_spot, write_spot}
use Rattle.pv_mean.specs.Activations.{Activation}
use Rattle.pv_mean.specs.Values.{value}
use Rattle.pv_mean.specs.Calls.{Linked, outside, inside, with_inside, Passed, is_for, argument_for, copy_in, copy_all_in, hand_over, copy_all_out}
use Rattle.pv_mean.specs.Doings.{HoldsIfGot}

-- ---- copying in leaves the caller's brief cells

in-outer : (source : Source) (caller : Activation) (site : CallSite) (callee : Activation) (p : Passed) (l : Linked)
    → HoldsIfGot (λ m. m.outer ≡ l.outer) (copy_in source caller site callee p l)
in-outer source caller site callee p l = lead (argument_for site callee.block p)
  where
    taken : (v : Tried ℤ) → HoldsIfGot (λ (m : Linked). m.outer ≡ l.outer)
        (and_then v (λ w. got (with_inside l (write_spot source (inside l) p.spot w))))
    taken (got w) = refl
    taken (trap kind place) = tt

    lead : (arg : Option ArgTree) → HoldsIfGot (λ (m : Linked). m.outer ≡ l.outer) (elim arg [
      | None ↦ got l
      | Some a ↦ and_then (value source caller (outside l) a.value)
          (λ v. got (with_inside l (write_spot source (inside l) p.spot v)))
    ])
    lead None = refl
    lead (Some a) = taken (value source caller (outside l) a.value)

pub all_in-outer : (source : Source) (caller : Activation) (site : CallSite) (callee : Activation) (ps : List Passed) (l : Linked)
    → HoldsIfGot (λ m. m.outer ≡ l.outer) (copy_all_in source caller site callee ps l)
all_in-outer source caller site callee [] l = refl
all_in-outer source caller site callee (p ∷ ps) l =
    lead (copy_in source caller site callee p l) (in-outer source caller site callee p l)
    (λ m. all_in-outer source caller site callee ps m)
  where
    further : (m : Linked) → m.outer ≡ l.outer → (t : Tried Linked) → HoldsIfGot (λ (k : Linked). k.outer ≡ m.outer) t
        → HoldsIfGot (λ (k : Linked). k.outer ≡ l.outer) t
    further m is (got k) same = same ∙ is
    further m is (trap kind place) same = tt

    lead : (t : Tried Linked) → HoldsIfGot (λ (m : Linked). m.outer ≡ l.outer) t
        → ((m : Linked) → HoldsIfGot (λ (k : Linked). k.outer ≡ m.outer) (copy_all_in source caller site callee ps m))
        → HoldsIfGot (λ (k : Linked). k.outer ≡ l.outer) (and_then t (λ m. copy_all_in source caller site callee ps m))
    lead (got m) is rest = further m is (copy_all_in source caller site callee ps m) (rest m)
    lead (trap kind place) is rest = tt

-- ---- a call without arguments copies nothing

none-for : (site : CallSite) (callee : Activation) (p : Passed) → site.call.args ≡ [] → argument_for site callee.block p ≡ None
none-for site callee p none = ap (λ (args : List ArgTree). find (is_for site.how callee.block p.param.key) args) none

pub all_in-none : (source : Source) (caller : Activation) (site : CallSite) (callee : Activation) (ps : List Passed) (l : Linked)
    → site.call.args ≡ [] → copy_all_in source caller site callee ps l ≡ got l
all_in-none source caller site callee [] l none = refl
all_in-none source caller site callee (p ∷ ps) l none =
    ap (λ (arg : Option ArgTree). let t : Tried Linked = elim arg [
      | None ↦ got l
      | Some a ↦ and_then (value source caller (outside l) a.value)
          (λ v. got (with_inside l (write_spot source (inside l) p.spot v)))
    ] in and_then t (λ m. copy_all_in source caller site callee ps m)) (none-for site callee p none)
    ∙ all_in-none source caller site callee ps l none

pub all_out-none : (source : Source) (caller : Activation) (site : CallSite) (callee : Activation) (ps : List Passed) (l : Linked)
    → site.call.args ≡ [] → copy_all_out source caller site callee ps l ≡ got l
all_out-none source caller site callee [] l none = refl
all_out-none source caller site callee (p ∷ ps) l none =
    ap (λ (arg : Option ArgTree). let t : Tried Linked = elim arg [
      | None ↦ got l
      | Some a ↦ and_then (read_spot (inside l) site.call.place p.spot)
          (λ v. hand_over source caller (operand_of a.value) v l)
    ] in and_then t (λ m. copy_all_out source caller site callee ps m)) (none-for site callee p none)
    ∙ all_out-none source caller site callee ps l none
