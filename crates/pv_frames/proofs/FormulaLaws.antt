-- The formula of a query: clauses over its variables, of which there aren't too many.
use Rattle.std.proofs.Common.{◌≡◌, ℕ, ◌+◌, ◌-◌, ◌*◌, ◌≤◌, zero, suc, List, [], ◌∷◌, length, map, sym, ap, subst, arith, lit≤, mul-le-mul, length-append}
use Rattle.std.specs.List.{flat_map}
use Rattle.std.proofs.lemmas.List.{length-map}
use Rattle.std.proofs.lemmas.List.FromFn.{length-map-range_with_len}
use Rattle.pv_gate.specs.Node.{gate_count}
use Rattle.pv_circuit.specs.declared.start.Start.{Start}
use Rattle.pv_circuit.specs.Circuits.{Circuit, IsCircuit}
use Rattle.pv_cert.specs.declared.proof.Query.{Query}
use Rattle.pv_cnf.specs.Clause.{AreClauses}
use Rattle.pv_frames.specs.Frames.{frame_clauses}
use Rattle.pv_frames.specs.Formulas.{written}
use Rattle.pv_frames.specs.Queries.{IsAsked, frame_count, table, asked, asked_in, variable_count, IsFormula}
use Rattle.pv_frames.specs.Short.{clauses_of}
use Rattle.pv_frames.specs.declared.short.Short.TheVariants.{One}
use Rattle.pv_frames.specs.Tables.{IsFit, gate_clauses}
use Rattle.pv_frames.proofs.Lists.{clauses-both, length-shorts}
use Rattle.pv_frames.proofs.FrameLists.{inside-variable, unit-valid}
use Rattle.pv_frames.proofs.Inside.{next-two}
use Rattle.pv_frames.proofs.FromCircuit.{few-frames, some-frames, fit}
use Rattle.pv_frames.proofs.QueryLists.{query-is, asked-valid, frame-clauses-valid, gates-few}

gates-valid : (c : Circuit) (start : List Start) (q : Query) (v : ℕ) → IsFit c start q → variable_count c start q ≤ v → (j : ℕ) → j ≤ frame_count q
    → AreClauses v (gate_clauses c start q j)
gates-valid c start q v fits room zero le = tt
gates-valid c start q v fits room (suc j) le =
    clauses-both v (gate_clauses c start q j) (flat_map written (frame_clauses (table c start q j) 1 c.nodes))
    (gates-valid c start q v fits room j (omega (arith, le))) (frame-clauses-valid c start q v j fits room (omega (arith, le)))

some-variables : (c : Circuit) (start : List Start) (q : Query) → IsFit c start q → IsAsked q → 1 ≤ variable_count c start q
some-variables c start q fits asks =
    let inside = fits.inside 0 (omega (arith, some-frames q asks)) in
    omega (arith, inside, next-two c start q 0)

pub is-formula : (c : Circuit) (start : List Start) (q : Query) → IsCircuit c → length start ≡ length c.state_in → IsAsked q → length c.nodes ≤ 30000000
    → gate_count c.nodes ≤ 10000000 → IsFormula c start q
is-formula c start q is starts asks nodes gates =
    let fits = fit c start q ∣ is ∣₁ is.netlist starts asks nodes in
    let frames = few-frames q asks in
    let few = gates-few c start q (frame_count q) in
    let most = mul-le-mul {n₁ = frame_count q} {m₁ = 4 * gate_count c.nodes} {n₂ = 65} {m₂ = 40000000} (omega (arith, frames)) (omega (arith, gates)) in
    let later = mul-le-mul {n₁ = frame_count q - 1} {m₁ = length c.nodes - (1 + length c.state_in)} {n₂ = 64} {m₂ = 30000000} (omega (arith, frames)) (omega (arith, nodes)) in
    record {
      clauses = subst (AreClauses (variable_count c start q)) (sym (query-is c start q))
          (clauses-both (variable_count c start q) ((2 ∷ []) ∷ gate_clauses c start q (frame_count q)) (flat_map clauses_of (map (λ (lit : ℕ). One lit) (asked c start q)))
          (clauses-both (variable_count c start q) ((2 ∷ []) ∷ []) (gate_clauses c start q (frame_count q))
          (unit-valid (variable_count c start q) 2 (inside-variable (variable_count c start q) 2 (lit≤ tt) (omega (arith, some-variables c start q fits asks))))
          (gates-valid c start q (variable_count c start q) fits (omega arith) (frame_count q) (omega arith)))
          (asked-valid c start q (variable_count c start q) fits (omega arith)));
      few = omega (
        arith,
        frames,
        few,
        most,
        ap (λ (t : List (List ℕ)). length t) (query-is c start q),
        length-append ((2 ∷ []) ∷ gate_clauses c start q (frame_count q)) (flat_map clauses_of (map (λ (lit : ℕ). One lit) (asked c start q))),
        length-shorts (map (λ (lit : ℕ). One lit) (asked c start q)),
        length-map (asked c start q) (λ (lit : ℕ). One lit),
        length-map-range_with_len (asked_in c start q) 0 (frame_count q),
      );
      variables = omega (arith, later, nodes);
    }
