use Rattle.std.proofs.Common.{◌≡◌, false, ◌+◌, ◌++◌, ◌∷◌, [], List, ℕ, length, set, sym, subst, arith}
use Rattle.std.proofs.lemmas.List.{length_push}
use Rattle.pv_cnf.specs.Clause.{has_double}
use Rattle.pv_watch.specs.Trail.{Path, Agree}
use Rattle.pv_watch.proofs.Places.{Unset, room, Agree-push, Rise-wider}
use Rattle.pv_watch.proofs.trail.Trail.imply.Goals as goal

pub overflow_cast-place : goal.overflow_cast-place
overflow_cast-place c =
    let u = subst (λ (p : Path). Unset p.variables p.falses c.args.lit) (sym c.self.view_is) (record {
      inside = c.requires.inside;
      not_false = c.requires.not_false;
      not_true = c.requires.not_true;
    }) in
    let i = c.self.inside in let a = c.self.invariant.0 in
    let short = room i.variables i.places.items i.falses.items i.reasons.items i.starts.items a c.args.lit u in
    omega (arith, a.small)

pub index_mut-requires-2 : goal.index_mut-requires-2
index_mut-requires-2 c =
    let u = subst (λ (p : Path). Unset p.variables p.falses c.args.lit) (sym c.self.view_is) (record {
      inside = c.requires.inside;
      not_false = c.requires.not_false;
      not_true = c.requires.not_true;
    }) in
    let i = c.self.inside in let a = c.self.invariant.0 in
    let short = room i.variables i.places.items i.falses.items i.reasons.items i.starts.items a c.args.lit u in
    omega (arith, a.reasons_size)

pub unwrap-requires : goal.unwrap-requires
unwrap-requires c =
    let u = subst (λ (p : Path). Unset p.variables p.falses c.args.lit) (sym c.self.view_is) (record {
      inside = c.requires.inside;
      not_false = c.requires.not_false;
      not_true = c.requires.not_true;
    }) in
    let i = c.self.inside in let a = c.self.invariant.0 in
    let short = room i.variables i.places.items i.falses.items i.reasons.items i.starts.items a c.args.lit u in
    c.push.ensures.succeeds (omega (arith, c.self.invariant.1))

pub invariant_of-self : goal.invariant_of-self
invariant_of-self c =
    let u = subst (λ (p : Path). Unset p.variables p.falses c.args.lit) (sym c.self.view_is) (record {
      inside = c.requires.inside;
      not_false = c.requires.not_false;
      not_true = c.requires.not_true;
    }) in
    let i = c.self.inside in let a = c.self.invariant.0 in
    let items : c.push.new.self.items ≡ i.falses.items ++ c.args.lit ∷ [] = rw c.unwrap.ensures at c.push.ensures.items in
    let after = Agree-push i.variables i.places.items i.falses.items i.reasons.items i.starts.items a c.args.lit u c.args.reason
    i.starts.items (Rise-wider i.starts.items (length i.falses.items) (length i.falses.items + 1) (omega arith) a.rise) in
    let len : c.len-place.result ≡ length i.falses.items = omega (arith, c.len-place.ensures) in (
      subst (λ (t : List ℕ). Agree i.variables (set i.places.items c.args.lit c.len-place.result) t (set i.reasons.items c.len-place.result
          c.args.reason) i.starts.items) (sym items)
          (subst (λ (n : ℕ). Agree i.variables (set i.places.items c.args.lit n) (i.falses.items ++ c.args.lit ∷ [])
          (set i.reasons.items n c.args.reason) i.starts.items) (sym len) after),
      omega (arith, c.self.invariant.1, c.push.ensures.capacity),
      c.self.invariant.2,
    )

pub returns-clause-bound : goal.returns-clause-bound
returns-clause-bound c =
    let u = subst (λ (p : Path). Unset p.variables p.falses c.args.lit) (sym c.self.view_is) (record {
      inside = c.requires.inside;
      not_false = c.requires.not_false;
      not_true = c.requires.not_true;
    }) in
    let i = c.self.inside in
    let short = room i.variables i.places.items i.falses.items i.reasons.items i.starts.items c.self.invariant.0 c.args.lit u in
    let items : c.push.new.self.items ≡ i.falses.items ++ c.args.lit ∷ [] = rw c.unwrap.ensures at c.push.ensures.items in
    rw items (omega (arith, length_push i.falses.items c.args.lit))

pub returns-clause-room : goal.returns-clause-room
returns-clause-room c =
    let u = subst (λ (p : Path). Unset p.variables p.falses c.args.lit) (sym c.self.view_is) (record {
      inside = c.requires.inside;
      not_false = c.requires.not_false;
      not_true = c.requires.not_true;
    }) in
    let i = c.self.inside in let a = c.self.invariant.0 in
    let short = room i.variables i.places.items i.falses.items i.reasons.items i.starts.items a c.args.lit u in
    rw (← c.self.view_is) (omega (arith, a.reasons_size))

pub returns-clause-distinct : goal.returns-clause-distinct
returns-clause-distinct c =
    let u = subst (λ (p : Path). Unset p.variables p.falses c.args.lit) (sym c.self.view_is) (record {
      inside = c.requires.inside;
      not_false = c.requires.not_false;
      not_true = c.requires.not_true;
    }) in
    let i = c.self.inside in let a = c.self.invariant.0 in
    let items : c.push.new.self.items ≡ i.falses.items ++ c.args.lit ∷ [] = rw c.unwrap.ensures at c.push.ensures.items in
    let after = Agree-push i.variables i.places.items i.falses.items i.reasons.items i.starts.items a c.args.lit u c.args.reason
    i.starts.items (Rise-wider i.starts.items (length i.falses.items) (length i.falses.items + 1) (omega arith) a.rise) in
    subst (λ (t : List ℕ). has_double t ≡ false) (sym items) after.distinct
