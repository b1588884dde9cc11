use Rattle.std.proofs.Common.{codes, [], ◌∷◌, string_bytes, ap, sym, ◌∙◌, arith}
use Rattle.std.proofs.lemmas.Slice.Eq.{bytes_eq-Decides}
use Rattle.pv_top.proofs.WordsLemmas.{three}
use Rattle.pv_top.proofs.words.read_two.Goals as goal

pub returns-in-len3-clause-some : goal.returns-in-len3-clause-some
returns-in-len3-clause-some c = three (codes "replay") c.args.words.now c.verb-item.result c.case-item.result c.trace-item.result (omega arith) c.verb-item.is c.case-item.is c.trace-item.is (sym c.as_str.ensures.value ∙ (bytes_eq-Decides c.as_str.result.now (codes "replay")).0 (sym c.if-eq.ensures))
    ∙ ap (λ w. codes "replay" ∷ w ∷ string_bytes c.trace-item.result ∷ []) (sym c.as_str-in-len3.ensures.value)
    ∙ ap (λ w. codes "replay" ∷ c.as_str-in-len3.result.now ∷ w ∷ []) (sym c.as_str-in-len3-2.ensures.value)

pub returns-in-len3-2-clause-some : goal.returns-in-len3-2-clause-some
returns-in-len3-2-clause-some c = three (codes "recheck") c.args.words.now c.verb-item-then-words-lt4.result c.case-item-then-words-lt4.result c.certificate-item.result (omega arith) c.verb-item-then-words-lt4.is c.case-item-then-words-lt4.is c.certificate-item.is (sym c.as_str-then-words-lt4.ensures.value ∙ (bytes_eq-Decides c.as_str-then-words-lt4.result.now (codes "recheck")).0 (sym c.if-eq-2.ensures))
    ∙ ap (λ w. codes "recheck" ∷ w ∷ string_bytes c.certificate-item.result ∷ []) (sym c.as_str-in-len3-2-2.ensures.value)
    ∙ ap (λ w. codes "recheck" ∷ c.as_str-in-len3-2-2.result.now ∷ w ∷ []) (sym c.as_str-in-len3-2-3.ensures.value)

pub returns-in-len3-3-clause-some : goal.returns-in-len3-3-clause-some
returns-in-len3-3-clause-some c = three (codes "show") c.args.words.now c.verb-item-then-words-lt4-2.result c.case-item-then-words-lt4-2.result c.shown-item.result (omega arith) c.verb-item-then-words-lt4-2.is c.case-item-then-words-lt4-2.is c.shown-item.is (sym c.as_str-then-words-lt4-2.ensures.value ∙ (bytes_eq-Decides c.as_str-then-words-lt4-2.result.now (codes "show")).0 (sym c.if-eq-3.ensures))
    ∙ ap (λ w. codes "show" ∷ w ∷ string_bytes c.shown-item.result ∷ []) (sym c.as_str-in-len3-3.ensures.value)
    ∙ ap (λ w. codes "show" ∷ c.as_str-in-len3-3.result.now ∷ w ∷ []) (sym c.as_str-in-len3-3-2.ensures.value)
