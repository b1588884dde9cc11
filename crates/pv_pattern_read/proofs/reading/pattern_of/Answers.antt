use Rattle.std.proofs.Common.{[], ◌∷◌, ap, ◌∙◌}
use Rattle.pv_case.specs.declared.case.PatternKind.TheVariants as kind
use Rattle.pv_pattern_read.specs.Kinds.{count_of}
use Rattle.pv_pattern_read.proofs.PatternLaws.{of_terms, found_invariant, found_forbidden, found_reach, found_implication, found_within, found_between}
use Rattle.pv_pattern_read.proofs.reading.pattern_of.Goals as goal

pub only-requires : goal.only-requires
only-requires c = c.requires ∙ ap count_of c.in-Invariant.is

pub returns-in-Invariant : goal.returns-in-Invariant
returns-in-Invariant c = λ con all h.
    let t = c.only.result in
    of_terms con c.args.kind kind.Invariant c.args.terms.items (t ∷ []) all _ c.in-Invariant.is c.only.ensures (found_invariant con t all) h

pub only-requires-in-Forbidden : goal.only-requires-in-Forbidden
only-requires-in-Forbidden c = c.requires ∙ ap count_of c.in-Forbidden.is

pub returns-in-Forbidden : goal.returns-in-Forbidden
returns-in-Forbidden c = λ con all h.
    let t = c.only-in-Forbidden.result in
    of_terms con c.args.kind kind.Forbidden c.args.terms.items (t ∷ []) all _ c.in-Forbidden.is c.only-in-Forbidden.ensures (found_forbidden con t all) h

pub pair-a-requires : goal.pair-a-requires
pair-a-requires c = c.requires ∙ ap count_of c.in-Implication.is

pub returns-in-Implication : goal.returns-in-Implication
returns-in-Implication c = λ con all h.
    let s = c.pair-a.result.0 in
    let t = c.pair-a.result.1 in
    of_terms con c.args.kind kind.Implication c.args.terms.items (s ∷ t ∷ []) all _ c.in-Implication.is c.pair-a.ensures
    (found_implication con s t all) h

pub pair-a-requires-in-Within : goal.pair-a-requires-in-Within
pair-a-requires-in-Within c = c.requires ∙ ap count_of c.in-Within.is

pub returns-in-Within : goal.returns-in-Within
returns-in-Within c = λ con all h.
    let s = c.pair-a-in-Within.result.0 in
    let t = c.pair-a-in-Within.result.1 in
    of_terms con c.args.kind kind.Within c.args.terms.items (s ∷ t ∷ []) all _ c.in-Within.is c.pair-a-in-Within.ensures (found_within con s t all) h

pub triple-a-requires : goal.triple-a-requires
triple-a-requires c = c.requires ∙ ap count_of c.in-Between.is

pub returns-in-Between : goal.returns-in-Between
returns-in-Between c = λ con all h.
    let r = c.triple-a.result.0 in
    let s = c.triple-a.result.1 in
    let t = c.triple-a.result.2 in
    of_terms con c.args.kind kind.Between c.args.terms.items (r ∷ s ∷ t ∷ []) all _ c.in-Between.is c.triple-a.ensures
    (found_between con r s t all) h

pub only-requires-in-Reach : goal.only-requires-in-Reach
only-requires-in-Reach c = c.requires ∙ ap count_of c.in-Reach.is

pub returns-in-Reach : goal.returns-in-Reach
returns-in-Reach c = λ con all h.
    let t = c.only-in-Reach.result in
    of_terms con c.args.kind kind.Reach c.args.terms.items (t ∷ []) all _ c.in-Reach.is c.only-in-Reach.ensures (found_reach con t all) h
