-- Reading goes on byte by byte.
use Rattle.std.proofs.Common.{◌≡◌, ℕ, ◌+◌, ◌<◌, List, [], ◌∷◌, ◌++◌, length, get_or, take, Option, Some, None, refl, ap, ◌∙◌}
use Rattle.std.proofs.lemmas.List.{take_more}
use Rattle.pv_log.specs.declared.line.Line.{Line}
use Rattle.pv_log.specs.declared.stage.Stage.{Stage}
use Rattle.pv_log.specs.Reading.{after_byte, after_bytes}

-- what is read after bytes, from what was read before them
abbrev pub onward : Option (Line × Stage) → List ℕ → Option (Line × Stage)
onward None bytes = None
onward (Some p) bytes = after_bytes p bytes

onward-next : (q : Option (Line × Stage)) (xs ys : List ℕ) → ((p : Line × Stage) → after_bytes p (xs ++ ys) ≡ onward (after_bytes p xs) ys) → (elim q [ None ↦ None | Some next ↦ after_bytes next (xs ++ ys) ]) ≡ onward (elim q [ None ↦ None | Some next ↦ after_bytes next xs ]) ys
onward-next None xs ys h = refl
onward-next (Some p) xs ys h = h p

pub after_bytes-append : (p : Line × Stage) (xs ys : List ℕ) → after_bytes p (xs ++ ys) ≡ onward (after_bytes p xs) ys
after_bytes-append p [] ys = refl
after_bytes-append p (x ∷ xs) ys = onward-next (after_byte p x) xs ys (λ q. after_bytes-append q xs ys)

one-more : (q : Option (Line × Stage)) → (elim q as (λ _. Option (Line × Stage)) [ None ↦ None | Some next ↦ after_bytes next [] ]) ≡ q
one-more None = refl
one-more (Some p) = refl

pub after-one : (p : Line × Stage) (byte : ℕ) → after_bytes p (byte ∷ []) ≡ after_byte p byte
after-one p byte = one-more (after_byte p byte)

-- two parts that are read one after the other
pub then-read : (p q : Line × Stage) (xs ys : List ℕ) (r : Option (Line × Stage)) → after_bytes p xs ≡ Some q → after_bytes q ys ≡ r → after_bytes p (xs ++ ys) ≡ r
then-read p q xs ys r e f = after_bytes-append p xs ys ∙ ap (λ (o : Option (Line × Stage)). onward o ys) e ∙ f

-- one more byte of a text
pub after_bytes-more : (p q : Line × Stage) (text : List ℕ) (at : ℕ) → at < length text → after_bytes p (take at text) ≡ Some q → after_bytes p (take (at + 1) text) ≡ after_byte q (get_or text at 0)
after_bytes-more p q text at lt e =
    ap (after_bytes p) (take_more text at 0 lt) ∙ then-read p q (take at text) (get_or text at 0 ∷ []) (after_byte q (get_or text at 0)) e (after-one q (get_or text at 0))
