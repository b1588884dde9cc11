-- What a call hands in and out, along the arrays: parameters without an argument are passed over.
use Rattle.std.proofs.Common.{◌≡◌, ℕ, ◌+◌, ◌<◌, List, map, Option, Some, None, refl, ap, subst, ◌∙◌, arith}
use Rattle.std.specs.Prelude.{slice_get}
use Rattle.pv_tree.specs.Tree.{ArgTree, BlockTree}
use Rattle.pv_tree.specs.Callees.{CallSite}
use Rattle.pv_tree.specs.Parts.{operand_of}
use Rattle.pv_mean.specs.Sources.{Source}
use Rattle.pv_mean.specs.Endings.{Tried, got, and_then}
use Rattle.pv_mean.specs.Spots.{Spot, read_spot, write_spot}
use Rattle.pv_mean.specs.Activations.{Activation}
use Rattle.pv_mean.specs.Values.{value}
use Rattle.pv_mean.specs.Calls.{Linked, outside, inside, with_inside, copy_all_in, hand_over, copy_all_out}
use Rattle.pv_eval.specs.Means.{activation}
use Rattle.pv_run.specs.declared.program.Inward.{Inward}
use Rattle.pv_run.specs.declared.program.Outward.{Outward}
use Rattle.pv_run.specs.declared.program.Program.{Program}
use Rattle.pv_run.specs.Handing.{Handed, passed_from, argument_of}
use Rattle.pv_run.specs.Code.{IsValue, AreInward, none_in, not_given, given, AreOutward, none_out, not_taken, taken, GoesTo, slot_spot}
use Rattle.pv_run.proofs.Lists.{the_one, not_both}

-- ---- in

-- an argument's value goes to a spot
abbrev pub given_to : Source → Activation → ArgTree → (ℕ → Spot) → ℕ → Linked → Tried Linked
given_to source caller arg spot first l =
    and_then (value source caller (outside l) arg.value)
    (λ v. got (with_inside l (write_spot source (inside l) (spot first) v)))

abbrev pub all_in : Source → Activation → CallSite → BlockTree → ℕ → List Handed → Linked → Tried Linked
all_in source caller site callee first hs l =
    copy_all_in source caller site (activation callee first) (map (passed_from first) hs) l

chosen_in : (o : Option ArgTree) (source : Source) (caller : Activation) (h : Handed) (first : ℕ) (arg : ArgTree) (l : Linked)
    → o ≡ Some arg
    → elim o [
      | None ↦ got l
      | Some a ↦ given_to source caller a h.spot first l
    ] ≡ given_to source caller arg h.spot first l
chosen_in o source caller h first arg l e = ap (λ x. elim x [
  | None ↦ got l
  | Some a ↦ given_to source caller a h.spot first l
]) e

passed_over : (o : Option ArgTree) (source : Source) (caller : Activation) (h : Handed) (first : ℕ) (l : Linked) → o ≡ None
    → elim o [
      | None ↦ got l
      | Some a ↦ given_to source caller a h.spot first l
    ] ≡ got l
passed_over o source caller h first l e = ap (λ x. elim x [
  | None ↦ got l
  | Some a ↦ given_to source caller a h.spot first l
]) e

pub record NextIn (source : Source) (block : BlockTree) (p : Program) (site : CallSite) (callee : BlockTree) (n m : ℕ) (c : Inward)
    (hs : List Handed) : Type 0 where
  pub arg : ArgTree
  pub spot : ℕ → Spot
  pub more : List Handed
  pub is : IsValue source block p c.value arg.value
  pub goes : (first : ℕ) → slot_spot first c.to ≡ spot first
  pub rest : AreInward source block p site callee (n + 1) m more
  pub same : (caller : Activation) (first : ℕ) (l : Linked) → all_in source caller site callee first hs l
      ≡ and_then (given_to source caller arg spot first l) (λ k. all_in source caller site callee first more k)

pub next_in : {source : Source} {block : BlockTree} {p : Program} {site : CallSite} {callee : BlockTree} {n m : ℕ} {hs : List Handed}
    → AreInward source block p site callee n m hs → n < m → (c : Inward) → slice_get p.inward.items n ≡ Some c
    → NextIn source block p site callee n m c hs
next_in none_in lt c e = absurd (omega arith)
next_in {source} {block} {p} {site} {callee} {n} {m} (not_given {h = h} {more = more} without rest) lt c e =
    let next = next_in rest lt c e in record {
      arg = next.arg;
      spot = next.spot;
      more = next.more;
      is = next.is;
      goes = next.goes;
      rest = next.rest;
      same = λ caller first l. ap (λ t. and_then t (λ k. all_in source caller site callee first more k))
          (passed_over (argument_of site callee h) source caller h first l without) ∙ next.same caller first l;
    }
next_in {source} {block} {p} {site} {callee} {n} {m} (given {h = h} {more = more} d arg at lt2 held is goes rest) lt c e =
    let same_entry = the_one (slice_get p.inward.items n) d c at e in record {
      arg = arg;
      spot = h.spot;
      more = more;
      is = subst (λ x. IsValue source block p x.value arg.value) same_entry is;
      goes = subst (λ x. (first : ℕ) → slot_spot first x.to ≡ h.spot first) same_entry goes;
      rest = rest;
      same = λ caller first l. ap (λ t. and_then t (λ k. all_in source caller site callee first more k))
          (chosen_in (argument_of site callee h) source caller h first arg l held);
    }

pub no_next_in : {source : Source} {block : BlockTree} {p : Program} {site : CallSite} {callee : BlockTree} {n m : ℕ} {hs : List Handed}
    → AreInward source block p site callee n m hs → n < m → slice_get p.inward.items n ≡ None → ⊥
no_next_in none_in lt e = omega arith
no_next_in (not_given without rest) lt e = no_next_in rest lt e
no_next_in {p = p} {n = n} (given d arg at lt2 held is goes rest) lt e = not_both (slice_get p.inward.items n) d at e

pub last_in : {source : Source} {block : BlockTree} {p : Program} {site : CallSite} {callee : BlockTree} {n m : ℕ} {hs : List Handed}
    → AreInward source block p site callee n m hs → (n < m → ⊥)
    → (caller : Activation) (first : ℕ) (l : Linked) → all_in source caller site callee first hs l ≡ got l
last_in none_in e caller first l = refl
last_in {source} {block} {p} {site} {callee} (not_given {h = h} {more = more} without rest) e caller first l =
    ap (λ t. and_then t (λ k. all_in source caller site callee first more k))
    (passed_over (argument_of site callee h) source caller h first l without) ∙ last_in rest e caller first l
last_in (given d arg at lt held is goes rest) e caller first l = absurd (e lt)

-- ---- out

-- a parameter's value goes to the argument, if it is an operand
abbrev pub taken_to : Source → Activation → CallSite → ArgTree → (ℕ → Spot) → ℕ → Linked → Tried Linked
taken_to source caller site arg spot first l =
    and_then (read_spot (inside l) site.call.place (spot first))
    (λ v. hand_over source caller (operand_of arg.value) v l)

abbrev pub all_out : Source → Activation → CallSite → BlockTree → ℕ → List Handed → Linked → Tried Linked
all_out source caller site callee first hs l =
    copy_all_out source caller site (activation callee first) (map (passed_from first) hs) l

chosen_out : (o : Option ArgTree) (source : Source) (caller : Activation) (site : CallSite) (h : Handed) (first : ℕ) (arg : ArgTree)
    (l : Linked)
    → o ≡ Some arg
    → elim o [
      | None ↦ got l
      | Some a ↦ taken_to source caller site a h.spot first l
    ] ≡ taken_to source caller site arg h.spot first l
chosen_out o source caller site h first arg l e = ap (λ x. elim x [
  | None ↦ got l
  | Some a ↦ taken_to source caller site a h.spot first l
]) e

out_passed_over : (o : Option ArgTree) (source : Source) (caller : Activation) (site : CallSite) (h : Handed) (first : ℕ) (l : Linked)
    → o ≡ None
    → elim o [
      | None ↦ got l
      | Some a ↦ taken_to source caller site a h.spot first l
    ] ≡ got l
out_passed_over o source caller site h first l e = ap (λ x. elim x [
  | None ↦ got l
  | Some a ↦ taken_to source caller site a h.spot first l
]) e

pub record NextOut (source : Source) (block : BlockTree) (p : Program) (site : CallSite) (callee : BlockTree) (n m : ℕ) (c : Outward)
    (hs : List Handed) : Type 0 where
  pub arg : ArgTree
  pub spot : ℕ → Spot
  pub more : List Handed
  pub to : GoesTo source block p c.to (operand_of arg.value)
  pub comes : (first : ℕ) → slot_spot first c.from ≡ spot first
  pub rest : AreOutward source block p site callee (n + 1) m more
  pub same : (caller : Activation) (first : ℕ) (l : Linked) → all_out source caller site callee first hs l
      ≡ and_then (taken_to source caller site arg spot first l) (λ k. all_out source caller site callee first more k)

pub next_out : {source : Source} {block : BlockTree} {p : Program} {site : CallSite} {callee : BlockTree} {n m : ℕ} {hs : List Handed}
    → AreOutward source block p site callee n m hs → n < m → (c : Outward) → slice_get p.outward.items n ≡ Some c
    → NextOut source block p site callee n m c hs
next_out none_out lt c e = absurd (omega arith)
next_out {source} {block} {p} {site} {callee} {n} {m} (not_taken {h = h} {more = more} without rest) lt c e =
    let next = next_out rest lt c e in record {
      arg = next.arg;
      spot = next.spot;
      more = next.more;
      to = next.to;
      comes = next.comes;
      rest = next.rest;
      same = λ caller first l. ap (λ t. and_then t (λ k. all_out source caller site callee first more k))
          (out_passed_over (argument_of site callee h) source caller site h first l without) ∙ next.same caller first l;
    }
next_out {source} {block} {p} {site} {callee} {n} {m} (taken {h = h} {more = more} d arg at lt2 held to comes rest) lt c e =
    let same_entry = the_one (slice_get p.outward.items n) d c at e in record {
      arg = arg;
      spot = h.spot;
      more = more;
      to = subst (λ x. GoesTo source block p x.to (operand_of arg.value)) same_entry to;
      comes = subst (λ x. (first : ℕ) → slot_spot first x.from ≡ h.spot first) same_entry comes;
      rest = rest;
      same = λ caller first l. ap (λ t. and_then t (λ k. all_out source caller site callee first more k))
          (chosen_out (argument_of site callee h) source caller site h first arg l held);
    }

pub no_next_out : {source : Source} {block : BlockTree} {p : Program} {site : CallSite} {callee : BlockTree} {n m : ℕ} {hs : List Handed}
    → AreOutward source block p site callee n m hs → n < m → slice_get p.outward.items n ≡ None → ⊥
no_next_out none_out lt e = omega arith
no_next_out (not_taken without rest) lt e = no_next_out rest lt e
no_next_out {p = p} {n = n} (taken d arg at lt2 held to comes rest) lt e = not_both (slice_get p.outward.items n) d at e

pub last_out : {source : Source} {block : BlockTree} {p : Program} {site : CallSite} {callee : BlockTree} {n m : ℕ} {hs : List Handed}
    → AreOutward source block p site callee n m hs → (n < m → ⊥)
    → (caller : Activation) (first : ℕ) (l : Linked) → all_out source caller site callee first hs l ≡ got l
last_out none_out e caller first l = refl
last_out {source} {block} {p} {site} {callee} (not_taken {h = h} {more = more} without rest) e caller first l =
    ap (λ t. and_then t (λ k. all_out source caller site callee first more k))
    (out_passed_over (argument_of site callee h) source caller site h first l without) ∙ last_out rest e caller first l
last_out (taken d arg at lt held to comes rest) e caller first l = absurd (e lt)
