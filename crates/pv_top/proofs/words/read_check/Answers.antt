use Rattle.std.proofs.Common.{codes, [], ◌∷◌, string_bytes, ap, sym, ◌∙◌, arith}
use Rattle.std.proofs.lemmas.Slice.Eq.{bytes_eq-Decides}
use Rattle.pv_top.proofs.WordsLemmas.{two}
use Rattle.pv_top.proofs.words.read_check.Goals as goal

pub returns-in-len2-clause-some : goal.returns-in-len2-clause-some
returns-in-len2-clause-some c = two (codes "check") c.args.words.now c.verb-item.result c.case-item.result (omega arith) c.verb-item.is c.case-item.is (sym c.as_str.ensures.value ∙ (bytes_eq-Decides c.as_str.result.now (codes "check")).0 (sym c.if-eq.ensures))
    ∙ ap (λ w. codes "check" ∷ w ∷ []) (sym c.as_str-in-len2.ensures.value)
