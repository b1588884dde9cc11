-- A clause or lemma of a region by its number.
use Rattle.std.proofs.Common.{◌≡◌, ℕ, zero, suc, ◌+◌, ◌-◌, ◌*◌, ◌<◌, ◌≤◌, ◌≢◌, if◌then◌else◌, Bool, List, [], ◌∷◌, length, map, refl, sym, ap, subst, ◌∙◌, arith, Some, slice_get, option_map}
use Rattle.std.specs.List.{between}
use Rattle.std.proofs.lemmas.Bool.{eq-eqb, ne_eqb}
use Rattle.std.proofs.lemmas.List.{length-map}
use Rattle.std.proofs.lemmas.Option.{slice_get-map}
use Rattle.pv_region.specs.Stored.{Hinted, count_of, all_lits, all_hints}
use Rattle.pv_region.specs.Layout.{start_in, end_at, start_after, lemma_in, FitsLemma, clauses_in, lemmas_in, Block, stored_of, IsLaidOut}
use Rattle.pv_region.proofs.Parts.{get-left, get-right, length-parts, parts-get, start-below, part-inside}
use Rattle.pv_region.proofs.Laid.{in_order, lemma_order}

end-last : (words : List ℕ) (end last id : ℕ) → id ≡ last → end_at words end last id ≡ end
end-last words end last id e = ap (λ (b : Bool). if b then end else start_in words (id + 1)) (eq-eqb id last e)

end-next : (words : List ℕ) (end last id : ℕ) → id ≢ last → end_at words end last id ≡ start_in words (id + 1)
end-next words end last id ne = ap (λ (b : Bool). if b then end else start_in words (id + 1)) (ne_eqb id last ne)

abbrev none_of : List ℕ → List ℕ
none_of lits = []

module _ (b : Block) (laid : IsLaidOut b) where
  pub clause-count : length (clauses_in b.words b.clauses_end b.clauses) ≡ b.clauses
  clause-count = length-parts (start_after b.words 0) (λ x y. between x y b.words) b.clauses_end b.clauses

  pub lemma-count : length (lemmas_in b.words b.clauses b.end b.lemmas) ≡ b.lemmas
  lemma-count = length-parts (start_after b.words b.clauses) (lemma_in b.words) b.end b.lemmas

  pub count-is : count_of (stored_of b) ≡ b.clauses + b.lemmas
  count-is = omega (arith, clause-count, lemma-count)

  pub split-within : b.clauses_end ≤ b.end
  split-within = start-below (start_after b.words b.clauses) (FitsLemma b.words)
      (lemma_order b.words) b.clauses_end b.end b.lemmas laid.lemmas

  module _ (id : ℕ) (some : 0 < id) where
    module _ (le : id ≤ b.clauses) where
      abbrev stop : ℕ
      stop = end_at b.words b.clauses_end b.clauses id

      at-start : start_after b.words 0 id ≡ start_in b.words id
      at-start = let same : 0 + id ≡ id = omega arith in ap (start_in b.words) same

      next-start : id ≢ b.clauses → stop ≡ start_after b.words 0 (id + 1)
      next-start ne =
          let same : 0 + (id + 1) ≡ id + 1 = omega arith in
          end-next b.words b.clauses_end b.clauses id ne ∙ sym (ap (start_in b.words) same)

      pub clause-fits : (start_in b.words id ≤ stop) × (stop ≤ b.clauses_end)
      clause-fits =
          let within = part-inside (start_after b.words 0) (λ start end. start ≤ end) in_order
          (2 * b.variables) b.clauses_end b.clauses id stop laid.clauses some le
          (end-last b.words b.clauses_end b.clauses id) next-start in
          (omega (arith, within.0, at-start), within.2)

      pub clause-lits : slice_get (all_lits (stored_of b)) (id - 1) ≡ Some (between (start_in b.words id) stop b.words)
      clause-lits =
          get-left (clauses_in b.words b.clauses_end b.clauses) (map (λ lemma. lemma.lits) (lemmas_in b.words b.clauses b.end b.lemmas))
          (id - 1) (omega (arith, clause-count))
          ∙ parts-get (start_after b.words 0) (λ x y. between x y b.words) b.clauses_end b.clauses id stop some le
          (end-last b.words b.clauses_end b.clauses id) next-start
          ∙ ap (λ (n : ℕ). Some (between n stop b.words)) at-start

      no-hints : (cs : List (List ℕ)) (n : ℕ) → n < length cs → slice_get (map none_of cs) n ≡ Some []
      no-hints [] n lt = absurd (omega arith)
      no-hints (x ∷ cs) zero lt = refl
      no-hints (x ∷ cs) (suc n) lt = no-hints cs n (omega arith)

      pub clause-hints : slice_get (all_hints (stored_of b)) (id - 1) ≡ Some []
      clause-hints =
          let cs = clauses_in b.words b.clauses_end b.clauses in
          get-left (map none_of cs) (map (λ lemma. lemma.hints) (lemmas_in b.words b.clauses b.end b.lemmas)) (id - 1) (omega
          (arith, clause-count, length-map cs none_of))
          ∙ no-hints cs (id - 1) (omega (arith, clause-count))

    module _ (past : b.clauses < id) (le : id ≤ b.clauses + b.lemmas) where
      abbrev last_stop : ℕ
      last_stop = end_at b.words b.end (b.clauses + b.lemmas) id

      after : b.clauses + (id - b.clauses) ≡ id
      after = omega (arith, past)

      lemma-start : start_after b.words b.clauses (id - b.clauses) ≡ start_in b.words id
      lemma-start = ap (start_in b.words) after

      lemma-last : id - b.clauses ≡ b.lemmas → last_stop ≡ b.end
      lemma-last e = end-last b.words b.end (b.clauses + b.lemmas) id (omega (arith, e, past))

      lemma-next : id - b.clauses ≢ b.lemmas → last_stop ≡ start_after b.words b.clauses (id - b.clauses + 1)
      lemma-next ne =
          let same : b.clauses + (id - b.clauses + 1) ≡ id + 1 = omega (arith, past) in
          end-next b.words b.end (b.clauses + b.lemmas) id (λ e. ne (omega (arith, e, past))) ∙ sym (ap (start_in b.words) same)

      pub lemma-fits : FitsLemma b.words (start_in b.words id) last_stop × (last_stop ≤ b.end)
      lemma-fits =
          let within = part-inside (start_after b.words b.clauses) (FitsLemma b.words)
          (lemma_order b.words) b.clauses_end b.end b.lemmas (id - b.clauses) last_stop laid.lemmas (omega (arith, past)) (omega
          (arith, le)) lemma-last lemma-next in
          (subst (λ (n : ℕ). FitsLemma b.words n last_stop) lemma-start within.0, within.2)

      the-lemma : slice_get (lemmas_in b.words b.clauses b.end b.lemmas) (id - b.clauses - 1) ≡ Some (lemma_in b.words
          (start_in b.words id) last_stop)
      the-lemma =
          parts-get (start_after b.words b.clauses) (lemma_in b.words) b.end b.lemmas (id - b.clauses) last_stop (omega (arith, past))
          (omega (arith, le)) lemma-last lemma-next
          ∙ ap (λ (n : ℕ). Some (lemma_in b.words n last_stop)) lemma-start

      pub lemma-lits : slice_get (all_lits (stored_of b)) (id - 1) ≡ Some (lemma_in b.words (start_in b.words id) last_stop).lits
      lemma-lits =
          let ls = lemmas_in b.words b.clauses b.end b.lemmas in
          get-right (clauses_in b.words b.clauses_end b.clauses) (map (λ lemma. lemma.lits) ls) (id - 1) (id - b.clauses - 1) (omega
          (arith, clause-count, past))
          ∙ slice_get-map (λ (l : Hinted). l.lits) ls (id - b.clauses - 1)
          ∙ ap (option_map (λ (l : Hinted). l.lits)) the-lemma

      pub lemma-hints : slice_get (all_hints (stored_of b)) (id - 1) ≡ Some (lemma_in b.words (start_in b.words id) last_stop).hints
      lemma-hints =
          let cs = clauses_in b.words b.clauses_end b.clauses in
          let ls = lemmas_in b.words b.clauses b.end b.lemmas in
          get-right (map none_of cs) (map (λ lemma. lemma.hints) ls) (id - 1) (id - b.clauses - 1) (omega
          (arith, clause-count, length-map cs none_of, past))
          ∙ slice_get-map (λ (l : Hinted). l.hints) ls (id - b.clauses - 1)
          ∙ ap (option_map (λ (l : Hinted). l.hints)) the-lemma
