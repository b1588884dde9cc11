use Rattle.std.proofs.Common.{◌≡◌, ◌+◌, ◌∷◌, [], ◌++◌, ◌≤◌, ℕ, List, length, take, refl, sym, ap, subst, ◌∙◌, arith}
use Rattle.std.proofs.lemmas.List.{length_push, take_all, take_at, take-take}
use Rattle.pv_watch.specs.Trail.{Agree, Rise}
use Rattle.pv_watch.proofs.Places.{Agree-pop, Agree-starts, Rise-front, Rise-wider}
use Rattle.pv_watch.proofs.trail.Trail.undo.Goals as goal

pub back-init : goal.back-init
back-init c =
    let i = c.self.inside in let a = c.self.invariant.0 in
    let items : i.starts.items ≡ c.pop.new.self.items ++ c.unwrap-start.result ∷ [] = rw c.unwrap-start.ensures at c.pop.ensures.items in
    let r = Rise-front c.pop.new.self.items c.unwrap-start.result (length i.falses.items)
    (subst (λ (ss : List ℕ). Rise ss (length i.falses.items)) items a.rise) in
    let le : c.unwrap-start.result ≤ length i.falses.items = omega (arith, r.1) in
    record {
      agree = Agree-starts i.variables i.places.items i.falses.items i.reasons.items i.starts.items c.pop.new.self.items a
          (Rise-wider c.pop.new.self.items c.unwrap-start.result (length i.falses.items) le r.0);
      room = c.self.invariant.1;
      more_room = omega (arith, c.self.invariant.2, c.pop.ensures.capacity);
      variables = refl;
      reasons = refl;
      starts = refl;
      shorter = omega arith;
      falses = sym (take_all (length i.falses.items) i.falses.items (omega arith));
      enough = le;
      rise = r.0;
    }

pub back-preserved-in-Some : goal.back-preserved-in-Some
back-preserved-in-Some c =
    let i = c.back.self-inside in let v = c.back.invariant in
    let items : i.falses.items ≡ c.pop-in-back.new.self.items ++ c.in-Some.lit ∷ [] = c.in-Some.ensures.items in
    let new = c.pop-in-back.new.self.items in
    let count : length i.falses.items ≡ length c.pop-in-back.new.self.items + 1 = ap (λ (xs : List ℕ). length xs) items
    ∙ length_push c.pop-in-back.new.self.items c.in-Some.lit in
    let front : take (length c.pop-in-back.new.self.items) i.falses.items ≡ c.pop-in-back.new.self.items =
    ap (take (length c.pop-in-back.new.self.items)) items ∙ take_at c.pop-in-back.new.self.items (c.in-Some.lit ∷ [])
    (length c.pop-in-back.new.self.items) refl in
    let longer = c.back-test.true in
    record {
      agree = Agree-pop i.variables i.places.items new i.reasons.items i.starts.items c.in-Some.lit
          (subst (λ (t : List ℕ). Agree i.variables i.places.items t i.reasons.items i.starts.items) items v.agree)
          (Rise-wider i.starts.items c.unwrap-start.result (length new) (omega arith) v.rise);
      room = omega (arith, v.room, c.in-Some.ensures.capacity);
      more_room = v.more_room;
      variables = v.variables;
      reasons = v.reasons;
      starts = v.starts;
      shorter = omega (arith, v.shorter);
      falses = sym front ∙ ap (take (length c.pop-in-back.new.self.items)) v.falses ∙ take-take (length c.pop-in-back.new.self.items)
          (length i.falses.items) c.self.inside.falses.items (omega arith);
      enough = omega arith;
      rise = v.rise;
    }
