-- What is handed in and out, at a turn of the loop over it.
use Rattle.std.proofs.Common.{◌≡◌, ℕ, ◌+◌, ◌<◌, ℤ, List, Option, Some, None, refl, sym, ap, ◌∙◌}
use Rattle.std.specs.Prelude.{slice_get}
use Rattle.pv_tree.specs.Tree.{ExprTree, OperandTree, BlockTree}
use Rattle.pv_tree.specs.Callees.{CallSite}
use Rattle.pv_tree.specs.Parts.{operand_of}
use Rattle.pv_mean.specs.Sources.{Source}
use Rattle.pv_mean.specs.Endings.{Tried, got, trap, ended, end_of, and_then}
use Rattle.pv_mean.specs.Spots.{read_spot, write_spot}
use Rattle.pv_mean.specs.Values.{value}
use Rattle.pv_mean.specs.Calls.{Linked, outside, inside, with_inside, hand_over}
use Rattle.pv_eval.specs.Means.{activation}
use Rattle.pv_run.specs.declared.program.Inward.{Inward}
use Rattle.pv_run.specs.declared.program.Outward.{Outward}
use Rattle.pv_run.specs.declared.program.Program.{Program}
use Rattle.pv_run.specs.declared.stop.Stop.{Stop}
use Rattle.pv_run.specs.Ends.{stop_end}
use Rattle.pv_run.specs.Handing.{Handed}
use Rattle.pv_run.specs.Code.{IsValue, slot_spot, GoesTo}
use Rattle.pv_run.proofs.Endings.{got_by}
use Rattle.pv_run.proofs.Beginning.{stops_on}
use Rattle.pv_run.proofs.Handing.{all_in, all_out, next_in, no_next_in, last_in, NextOut, next_out, no_next_out, last_out}
use Rattle.pv_run.proofs.Left.{InLeft, OutLeft}

again_out : {A B C : Type 0} (t : Tried A) (f : A → Tried B) (g : B → Tried C)
    → and_then t (λ v. and_then (f v) g) ≡ and_then (and_then t f) g
again_out (got a) f g = refl
again_out (trap kind place) f g = refl

-- ---- in

pub in_missing : {source : Source} {block : BlockTree} {p : Program} {site : CallSite} {callee : BlockTree} {caller_first first n m : ℕ}
    {handed : List Handed} {before now : Linked}
    → InLeft source block p site callee caller_first first n m handed before now → n < m → slice_get p.inward.items n ≡ None → ⊥
in_missing l lt e = no_next_in l.are lt e

pub in_stops : {source : Source} {block : BlockTree} {p : Program} {site : CallSite} {callee : BlockTree} {caller_first first n m : ℕ}
    {handed : List Handed} {before now : Linked}
    → InLeft source block p site callee caller_first first n m handed before now → n < m → (c : Inward)
    → slice_get p.inward.items n ≡ Some c
    → (s : Stop) → ((e : ExprTree) → IsValue source block p c.value e
    → stop_end s ≡ end_of (value source (activation block caller_first) (outside now) e))
    → stop_end s ≡ end_of (all_in source (activation block caller_first) site callee first handed before)
in_stops {source} {block} {p} {site} {callee} {caller_first} {first} {n} {m} {handed} {before} {now} l lt c at s stops =
    let next = next_in l.are lt c at in
    stops_on (value source (activation block caller_first) (outside now) next.arg.value) s (stops next.arg.value next.is) (λ v. and_then
    (got (with_inside now (write_spot source (inside now) (next.spot first) v)))
    (λ k. all_in source (activation block caller_first) site callee first next.more k))
    ∙ ap end_of (again_out (value source (activation block caller_first) (outside now) next.arg.value)
    (λ v. got (with_inside now (write_spot source (inside now) (next.spot first) v)))
    (λ k. all_in source (activation block caller_first) site callee first next.more k)
    ∙ sym (l.same ∙ next.same (activation block caller_first) first now))

pub in_goes_on : {source : Source} {block : BlockTree} {p : Program} {site : CallSite} {callee : BlockTree} {caller_first first n m : ℕ}
    {handed : List Handed} {before now : Linked}
    → InLeft source block p site callee caller_first first n m handed before now → n < m → (c : Inward)
    → slice_get p.inward.items n ≡ Some c
    → (v : ℤ) → ((e : ExprTree) → IsValue source block p c.value e
    → ended v ≡ end_of (value source (activation block caller_first) (outside now) e))
    → (after : Linked) → with_inside now (write_spot source (inside now) (slot_spot first c.to) v) ≡ after
    → InLeft source block p site callee caller_first first (n + 1) m handed before after
in_goes_on {source} {block} {p} {site} {callee} {caller_first} {first} {n} {m} {handed} {before} {now} l lt c at v gives after wrote =
    let next = next_in l.are lt c at in record {
      rest = next.more;
      are = next.rest;
      same = l.same ∙ next.same (activation block caller_first) first now
          ∙ ap (λ t. and_then (and_then t (λ u. got (with_inside now (write_spot source (inside now) (next.spot first) u))))
          (λ k. all_in source (activation block caller_first) site callee first next.more k))
          (got_by (value source (activation block caller_first) (outside now) next.arg.value) v (gives next.arg.value next.is))
          ∙ ap (λ k. all_in source (activation block caller_first) site callee first next.more k)
          (ap (λ spot. with_inside now (write_spot source (inside now) spot v)) (sym (next.goes first)) ∙ wrote);
    }

pub in_over : {source : Source} {block : BlockTree} {p : Program} {site : CallSite} {callee : BlockTree} {caller_first first n m : ℕ}
    {handed : List Handed} {before now : Linked}
    → InLeft source block p site callee caller_first first n m handed before now → (n < m → ⊥)
    → ended now ≡ end_of (all_in source (activation block caller_first) site callee first handed before)
in_over {source} {block} {p} {site} {callee} {caller_first} {first} {now = now} l e =
    sym (ap end_of (l.same ∙ last_in l.are e (activation block caller_first) first now))

-- ---- out

pub out_missing : {source : Source} {block : BlockTree} {p : Program} {site : CallSite} {callee : BlockTree} {caller_first first n m : ℕ}
    {handed : List Handed} {before now : Linked}
    → OutLeft source block p site callee caller_first first n m handed before now → n < m → slice_get p.outward.items n ≡ None → ⊥
out_missing l lt e = no_next_out l.are lt e

pub out_unread : {source : Source} {block : BlockTree} {p : Program} {site : CallSite} {callee : BlockTree} {caller_first first n m : ℕ}
    {handed : List Handed} {before now : Linked}
    → OutLeft source block p site callee caller_first first n m handed before now → n < m → (c : Outward)
    → slice_get p.outward.items n ≡ Some c
    → (s : Stop) → stop_end s ≡ end_of (read_spot (inside now) site.call.place (slot_spot first c.from))
    → stop_end s ≡ end_of (all_out source (activation block caller_first) site callee first handed before)
out_unread {source} {block} {p} {site} {callee} {caller_first} {first} {n} {m} {handed} {before} {now} l lt c at s stops =
    let next = next_out l.are lt c at in
    let caller = activation block caller_first in
    stops_on (read_spot (inside now) site.call.place (next.spot first)) s
    (stops ∙ ap (λ spot. end_of (read_spot (inside now) site.call.place spot)) (next.comes first))
    (λ v. and_then (hand_over source caller (operand_of next.arg.value) v now) (λ k. all_out source caller site callee first next.more k))
    ∙ ap end_of (again_out (read_spot (inside now) site.call.place (next.spot first)) (λ v. hand_over source caller
    (operand_of next.arg.value) v now)
    (λ k. all_out source caller site callee first next.more k)
    ∙ sym (l.same ∙ next.same caller first now))

read_first : {source : Source} {block : BlockTree} {p : Program} {site : CallSite} {callee : BlockTree} {caller_first first n m : ℕ} {handed
    : List Handed} {before now : Linked}
    → (l : OutLeft source block p site callee caller_first first n m handed before now) → (c : Outward)
    → (next : NextOut source block p site callee n m c l.rest)
    → (v : ℤ) → ended v ≡ end_of (read_spot (inside now) site.call.place (slot_spot first c.from))
    → all_out source (activation block caller_first) site callee first handed before
    ≡ and_then (hand_over source (activation block caller_first) (operand_of next.arg.value) v now)
    (λ k. all_out source (activation block caller_first) site callee first next.more k)
read_first {source} {block} {p} {site} {callee} {caller_first} {first} {n} {m} {handed} {before} {now} l c next v gives =
    let caller = activation block caller_first in
    l.same ∙ next.same caller first now
    ∙ ap (λ t. and_then (and_then t (λ u. hand_over source caller (operand_of next.arg.value) u now))
    (λ k. all_out source caller site callee first next.more k))
    (got_by (read_spot (inside now) site.call.place (next.spot first)) v
    (gives ∙ ap (λ spot. end_of (read_spot (inside now) site.call.place spot)) (next.comes first)))

pub out_stops : {source : Source} {block : BlockTree} {p : Program} {site : CallSite} {callee : BlockTree} {caller_first first n m : ℕ}
    {handed : List Handed} {before now : Linked}
    → OutLeft source block p site callee caller_first first n m handed before now → n < m → (c : Outward)
    → slice_get p.outward.items n ≡ Some c
    → (v : ℤ) → ended v ≡ end_of (read_spot (inside now) site.call.place (slot_spot first c.from))
    → (s : Stop) → ((o : Option OperandTree) → GoesTo source block p c.to o
    → stop_end s ≡ end_of (hand_over source (activation block caller_first) o v now))
    → stop_end s ≡ end_of (all_out source (activation block caller_first) site callee first handed before)
out_stops {source} {block} {p} {site} {callee} {caller_first} {first} {n} {m} {handed} {before} {now} l lt c at v gives s stops =
    let next = next_out l.are lt c at in
    let caller = activation block caller_first in
    stops_on (hand_over source caller (operand_of next.arg.value) v now) s (stops (operand_of next.arg.value) next.to)
    (λ k. all_out source caller site callee first next.more k)
    ∙ sym (ap end_of (read_first l c next v gives))

pub out_goes_on : {source : Source} {block : BlockTree} {p : Program} {site : CallSite} {callee : BlockTree} {caller_first first n m : ℕ}
    {handed : List Handed} {before now : Linked}
    → OutLeft source block p site callee caller_first first n m handed before now → n < m → (c : Outward)
    → slice_get p.outward.items n ≡ Some c
    → (v : ℤ) → ended v ≡ end_of (read_spot (inside now) site.call.place (slot_spot first c.from))
    → (after : Linked) → ((o : Option OperandTree) → GoesTo source block p c.to o
    → ended after ≡ end_of (hand_over source (activation block caller_first) o v now))
    → OutLeft source block p site callee caller_first first (n + 1) m handed before after
out_goes_on {source} {block} {p} {site} {callee} {caller_first} {first} {n} {m} {handed} {before} {now} l lt c at v gives after hands =
    let next = next_out l.are lt c at in
    let caller = activation block caller_first in record {
      rest = next.more;
      are = next.rest;
      same = read_first l c next v gives
          ∙ ap (λ t. and_then t (λ k. all_out source caller site callee first next.more k))
          (got_by (hand_over source caller (operand_of next.arg.value) v now) after (hands (operand_of next.arg.value) next.to));
    }

pub out_over : {source : Source} {block : BlockTree} {p : Program} {site : CallSite} {callee : BlockTree} {caller_first first n m : ℕ}
    {handed : List Handed} {before now : Linked}
    → OutLeft source block p site callee caller_first first n m handed before now → (n < m → ⊥)
    → ended now ≡ end_of (all_out source (activation block caller_first) site callee first handed before)
out_over {source} {block} {p} {site} {callee} {caller_first} {first} {now = now} l e =
    sym (ap end_of (l.same ∙ last_out l.are e (activation block caller_first) first now))
