use Rattle.std.proofs.Common.{◌≡◌, ◌<◌, ℕ, length, sym, subst, arith}
use Rattle.std.specs.Prelude.{All}
use Rattle.std.proofs.lemmas.List.Elements.{recursion_from_All}
use Rattle.pv_log.specs.Filing.{Filed, IsFiled}
use Rattle.pv_log.proofs.FilingLaws.{place-below, filed-as}
use Rattle.pv_log.proofs.filing.Filing.add.Goals as goal

pub index-requires : goal.index-requires
index-requires c =
    let some = subst (λ (f : Filed). 0 < length f.heads) (sym c.self.view_is) c.requires.some in
    let all = subst (λ (f : Filed). All (λ lit. lit < length f.heads) c.args.lits.now) (sym c.self.view_is) c.requires.inside in
    let below : c.rarest-lit.result < length c.self.inside.heads.items = place-below (length c.self.inside.heads.items) c.args.lits.now c.rarest-lit.result some (recursion_from_All (λ (lit : ℕ). lit < length c.self.inside.heads.items) c.args.lits.now all) c.rarest-lit.ensures in
    omega (arith, below)

pub index_mut-requires : goal.index_mut-requires
index_mut-requires c =
    let some = subst (λ (f : Filed). 0 < length f.heads) (sym c.self.view_is) c.requires.some in
    let all = subst (λ (f : Filed). All (λ lit. lit < length f.heads) c.args.lits.now) (sym c.self.view_is) c.requires.inside in
    let below : c.rarest-lit.result < length c.self.inside.heads.items = place-below (length c.self.inside.heads.items) c.args.lits.now c.rarest-lit.result some (recursion_from_All (λ (lit : ℕ). lit < length c.self.inside.heads.items) c.args.lits.now all) c.rarest-lit.ensures in
    omega (arith, below)

pub index-requires-2 : goal.index-requires-2
index-requires-2 c =
    let some = subst (λ (f : Filed). 0 < length f.heads) (sym c.self.view_is) c.requires.some in
    let all = subst (λ (f : Filed). All (λ lit. lit < length f.heads) c.args.lits.now) (sym c.self.view_is) c.requires.inside in
    let below : c.rarest-lit.result < length c.self.inside.heads.items = place-below (length c.self.inside.heads.items) c.args.lits.now c.rarest-lit.result some (recursion_from_All (λ (lit : ℕ). lit < length c.self.inside.heads.items) c.args.lits.now all) c.rarest-lit.ensures in
    let same : length c.self.inside.sizes.items ≡ length c.self.inside.heads.items = c.self.invariant in
    omega (arith, below, same)

pub index_mut-requires-2 : goal.index_mut-requires-2
index_mut-requires-2 c =
    let some = subst (λ (f : Filed). 0 < length f.heads) (sym c.self.view_is) c.requires.some in
    let all = subst (λ (f : Filed). All (λ lit. lit < length f.heads) c.args.lits.now) (sym c.self.view_is) c.requires.inside in
    let below : c.rarest-lit.result < length c.self.inside.heads.items = place-below (length c.self.inside.heads.items) c.args.lits.now c.rarest-lit.result some (recursion_from_All (λ (lit : ℕ). lit < length c.self.inside.heads.items) c.args.lits.now all) c.rarest-lit.ensures in
    let same : length c.self.inside.sizes.items ≡ length c.self.inside.heads.items = c.self.invariant in
    omega (arith, below, same)

pub returns : goal.returns
returns c = record {
  filed = λ v clauses f.
      let some = subst (λ (f : Filed). 0 < length f.heads) (sym c.self.view_is) c.requires.some in
      let all = subst (λ (f : Filed). All (λ lit. lit < length f.heads) c.args.lits.now) (sym c.self.view_is) c.requires.inside in
      let below : c.rarest-lit.result < length c.self.inside.heads.items = place-below (length c.self.inside.heads.items) c.args.lits.now c.rarest-lit.result some (recursion_from_All (λ (lit : ℕ). lit < length c.self.inside.heads.items) c.args.lits.now all) c.rarest-lit.ensures in
      let id-is : c.len-id.result ≡ length c.self.inside.nexts.items = omega (arith, c.len-id.ensures) in
      let old = subst (λ (p : Filed). IsFiled v p clauses) (sym c.self.view_is) f in
      filed-as v clauses c.self.inside.heads.items c.self.inside.nexts.items c.rarest-lit.result c.len-id.result c.index.result.now c.push.new.self.items c.args.lits.now old below c.rarest-lit.ensures id-is c.in_ok-push.ensures.items c.index.ensures;
}
