use Rattle.std.proofs.Common.{arith, ◌*◌, ◌++◌, ℕ, List, [], ◌∷◌, length, map, refl, sym, ◌∙◌, ap, subst, mul-le-mul, length-append}
use Rattle.std.specs.List.{flat_map}
use Rattle.std.proofs.lemmas.List.{length-map}
use Rattle.std.proofs.lemmas.List.FromFn.{length-map-range_with_len}
use Rattle.std.proofs.lemmas.Result.{err_from_is_err_and}
use Rattle.pv_gate.specs.Node.{gate_count}
use Rattle.pv_cnf.specs.Clause.{AreClauses}
use Rattle.pv_circuit.specs.Made.{circuit_seen}
use Rattle.pv_frames.specs.Queries.{frame_count, asked, asked_in}
use Rattle.pv_frames.specs.Pushing.{ArePushed, StopsAt, Pushes}
use Rattle.pv_frames.specs.Short.{clauses_of}
use Rattle.pv_frames.specs.Tables.{gate_clauses}
use Rattle.pv_frames.specs.declared.short.Short.{Short}
use Rattle.pv_frames.specs.declared.short.Short.TheVariants.{One}
use Rattle.pv_frames.proofs.FromCircuit.{few-frames}
use Rattle.pv_frames.proofs.Pushed.{none_pushed, pushed_more, stops_within, pushes_behind}
use Rattle.pv_frames.proofs.QueryLists.{query-is, asked-valid, gates-few}
use Rattle.pv_frames.proofs.query.push_laid.Goals as goal

pub returns-in_err-push_short-clause-pushes : goal.returns-in_err-push_short-clause-pushes
returns-in_err-push_short-clause-pushes g c =
    let p = err_from_is_err_and c.from_residual.result c.from_residual.ensures.1 in
    let seen = circuit_seen c.args.c.now in
    let start = c.args.start.now in
    let q = c.args.query in
    let refused = subst (λ (l : ℕ). StopsAt (g.C.Clauses.overflow c.args.into.now) (g.C.Clauses.clauses c.args.into.now) ((l ∷ []) ∷ []) (g.C.Clauses.clauses c.push_short.new.into) c.in_err-push_short.field-0.0) c.constant.ensures c.in_err-push_short.ensures.pushes in
    rw (p.1, p.2)
    (subst (λ (t : List (List ℕ)). StopsAt (g.C.Clauses.overflow c.args.into.now) (g.C.Clauses.clauses c.args.into.now) t (g.C.Clauses.clauses c.push_short.new.into) c.in_err-push_short.field-0.0)
    (sym (query-is seen start q))
    (stops_within (g.C.Clauses.overflow c.args.into.now) (g.C.Clauses.overflow c.args.into.now) (g.C.Clauses.clauses c.args.into.now) (g.C.Clauses.clauses c.args.into.now) (g.C.Clauses.clauses c.push_short.new.into) [] ((2 ∷ []) ∷ [])
    (gate_clauses seen start q (frame_count q) ++ flat_map clauses_of (map (λ (lit : ℕ). One lit) (asked seen start q)))
    c.in_err-push_short.field-0.0 (λ all. refl) (none_pushed (g.C.Clauses.overflow c.args.into.now) (g.C.Clauses.clauses c.args.into.now)) refused))

pub returns-in_err-push_scans-clause-pushes : goal.returns-in_err-push_scans-clause-pushes
returns-in_err-push_scans-clause-pushes g c =
    let p = err_from_is_err_and c.from_residual-in_err-push_scans.result c.from_residual-in_err-push_scans.ensures.1 in
    let seen = circuit_seen c.args.c.now in
    let start = c.args.start.now in
    let q = c.args.query in
    let first = subst (λ (l : ℕ). ArePushed (g.C.Clauses.overflow c.args.into.now) (g.C.Clauses.clauses c.args.into.now) ((l ∷ []) ∷ []) (g.C.Clauses.clauses c.push_short.new.into)) c.constant.ensures c.in_ok-push_short.ensures.pushes in
    rw (p.1, p.2)
    (subst (λ (t : List (List ℕ)). StopsAt (g.C.Clauses.overflow c.args.into.now) (g.C.Clauses.clauses c.args.into.now) t (g.C.Clauses.clauses c.push_scans.new.into) c.in_err-push_scans.field-0.0)
    (sym (query-is seen start q))
    (stops_within (g.C.Clauses.overflow c.args.into.now) (g.C.Clauses.overflow c.push_short.new.into) (g.C.Clauses.clauses c.args.into.now) (g.C.Clauses.clauses c.push_short.new.into) (g.C.Clauses.clauses c.push_scans.new.into) ((2 ∷ []) ∷ [])
    (gate_clauses seen start q (frame_count q)) (flat_map clauses_of (map (λ (lit : ℕ). One lit) (asked seen start q)))
    c.in_err-push_scans.field-0.0 c.push_short.ensures.overflow_kept first c.in_err-push_scans.ensures.pushes))

pub push_all-requires-clause-valid : goal.push_all-requires-clause-valid
push_all-requires-clause-valid g c =
    let seen = circuit_seen c.args.c.now in
    subst (λ (n : ℕ). AreClauses n (flat_map clauses_of c.push_scans.new.goals)) (sym (c.push_scans.ensures.variables_kept ∙ c.push_short.ensures.variables_kept))
    (subst (λ (xs : List Short). AreClauses (g.C.Clauses.variables c.args.into.now) (flat_map clauses_of xs)) (sym c.in_ok-push_scans.ensures.goals)
    (asked-valid seen c.args.start.now c.args.query (g.C.Clauses.variables c.args.into.now) c.requires.fit c.requires.variables))

pub push_all-requires-clause-room : goal.push_all-requires-clause-room
push_all-requires-clause-room g c =
    let seen = circuit_seen c.args.c.now in
    let start = c.args.start.now in
    let q = c.args.query in
    let first = subst (λ (l : ℕ). ArePushed (g.C.Clauses.overflow c.args.into.now) (g.C.Clauses.clauses c.args.into.now) ((l ∷ []) ∷ []) (g.C.Clauses.clauses c.push_short.new.into)) c.constant.ensures c.in_ok-push_short.ensures.pushes in
    let front = pushed_more (g.C.Clauses.overflow c.args.into.now) (g.C.Clauses.overflow c.push_short.new.into) (g.C.Clauses.clauses c.args.into.now) (g.C.Clauses.clauses c.push_short.new.into) (g.C.Clauses.clauses c.push_scans.new.into)
    ((2 ∷ []) ∷ []) (gate_clauses seen start q (frame_count q)) c.push_short.ensures.overflow_kept first c.in_ok-push_scans.ensures.pushes in
    let few = gates-few seen start q (frame_count q) in
    let frames = few-frames q c.requires.query in
    let most = mul-le-mul {n₁ = frame_count q} {m₁ = 4 * gate_count c.args.c.now.gates.nodes} {n₂ = 65} {m₂ = 40000000}
    (omega (arith, frames)) (omega (arith, c.requires.few_gates)) in
    omega (
      arith,
      c.requires.room,
      frames,
      few,
      most,
      ap (λ (xs : List Short). length xs) c.in_ok-push_scans.ensures.goals,
      length-map (asked seen start q) (λ (lit : ℕ). One lit),
      length-map-range_with_len (asked_in seen start q) 0 (frame_count q),
      ap (λ (t : List (List ℕ)). length t) front.stand,
      length-append (g.C.Clauses.clauses c.args.into.now) (((2 ∷ []) ∷ []) ++ gate_clauses seen start q (frame_count q)),
    )

pub returns-clause-pushes : goal.returns-clause-pushes
returns-clause-pushes g c =
    let seen = circuit_seen c.args.c.now in
    let start = c.args.start.now in
    let q = c.args.query in
    let first = subst (λ (l : ℕ). ArePushed (g.C.Clauses.overflow c.args.into.now) (g.C.Clauses.clauses c.args.into.now) ((l ∷ []) ∷ []) (g.C.Clauses.clauses c.push_short.new.into)) c.constant.ensures c.in_ok-push_short.ensures.pushes in
    let front = pushed_more (g.C.Clauses.overflow c.args.into.now) (g.C.Clauses.overflow c.push_short.new.into) (g.C.Clauses.clauses c.args.into.now) (g.C.Clauses.clauses c.push_short.new.into) (g.C.Clauses.clauses c.push_scans.new.into)
    ((2 ∷ []) ∷ []) (gate_clauses seen start q (frame_count q)) c.push_short.ensures.overflow_kept first c.in_ok-push_scans.ensures.pushes in
    let last = subst (λ (xs : List Short). Pushes (g.C.Clauses.overflow c.push_scans.new.into) (g.C.Clauses.clauses c.push_scans.new.into) (flat_map clauses_of xs) (g.C.Clauses.clauses c.push_all.new.into) c.push_all.result)
    c.in_ok-push_scans.ensures.goals c.push_all.ensures.pushes in
    pushes_behind (g.C.Clauses.overflow c.args.into.now) (g.C.Clauses.overflow c.push_scans.new.into) (g.C.Clauses.clauses c.args.into.now) (g.C.Clauses.clauses c.push_scans.new.into) (g.C.Clauses.clauses c.push_all.new.into)
    ((2 ∷ []) ∷ gate_clauses seen start q (frame_count q)) (flat_map clauses_of (map (λ (lit : ℕ). One lit) (asked seen start q))) _ c.push_all.result
    (query-is seen start q) (λ all. c.push_scans.ensures.overflow_kept all ∙ c.push_short.ensures.overflow_kept all) front last
