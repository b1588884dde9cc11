-- What loops over the front of a text keep.
use Rattle.std.proofs.Common.{◌≡◌, ℕ, ◌<◌, length, drop, Bool, true, false, cond, List, [], ◌∷◌, Option, Some, None, refl, ap, ◌∙◌}
use Rattle.std.specs.Prelude.{◌&&◌, ◌==◌, slice_index}
use Rattle.std.specs.Option.{option_and_then}
use Rattle.std.proofs.lemmas.Bool.{false≢true}
use Rattle.pv_lex.specs.declared.class.Class.{Class}
use Rattle.pv_lex.specs.declared.class.Class.TheVariants as c
use Rattle.pv_lex.specs.Shapes.{begins, is_one_of, decimal_prefixes, hex_prefixes, time_prefixes, behind_prefix, signed, hex, duration, never}
use Rattle.pv_lex.specs.Shapes.Shape.{one}
use Rattle.pv_lex.specs.Scans.{past, past_joined, goes_on, past_close, scan, past_form}

pub joined-on : (class : Class) (text : List ℕ) → goes_on class text ≡ true → past_joined class text ≡ past_joined class (drop 1 text)
joined-on class [] on = refl
joined-on class (b ∷ others) on = ap (λ (v : Bool). cond v (past_joined class others) (b ∷ others)) on

pub joined-off : (class : Class) (text : List ℕ) → goes_on class text ≡ false → past_joined class text ≡ text
joined-off class [] off = refl
joined-off class (b ∷ others) off = ap (λ (v : Bool). cond v (past_joined class others) (b ∷ others)) off

pub close-on : (text : List ℕ) → slice_index text 0 ≡ 42 → begins (c.Byte 41) (drop 1 text) ≡ true
    → past_close text ≡ Some (drop 1 (drop 1 text))
close-on [] is on = absurd (false≢true on)
close-on (b ∷ others) is on = rw (is, on) refl

pub close-off : (text : List ℕ) → 0 < length text → (slice_index text 0 == 42 && begins (c.Byte 41) (drop 1 text)) ≡ false
    → past_close text ≡ past_close (drop 1 text)
close-off [] some off = refl
close-off (b ∷ others) some off = ap (λ (v : Bool). cond v (Some (drop 1 others)) (past_close others)) off

never_scans : (text : List ℕ) → scan never text ≡ None
never_scans [] = refl
never_scans (b ∷ others) = refl

none_then : (o : Option (List ℕ)) → ◌≡◌ {A = Option (List ℕ)} None (option_and_then (λ (rest : List ℕ). None) o)
none_then None = refl
none_then (Some rest) = refl

form_of : (decimal hexadecimal time : Bool) (text : List ℕ)
    → scan (cond decimal (one (c.Byte 35) signed) (cond hexadecimal (one (c.Byte 35) hex) (cond time (one (c.Byte 35) duration) never)))
    text
    ≡ option_and_then (λ rest. cond decimal (scan signed rest) (cond hexadecimal (scan hex rest) (cond time (scan duration rest) None)))
    (past (c.Byte 35) text)
form_of true hexadecimal time text = refl
form_of false true time text = refl
form_of false false true text = refl
form_of false false false text = never_scans text ∙ none_then (past (c.Byte 35) text)

-- behind the word of a number
pub form_behind : (prefix text : List ℕ) → scan (behind_prefix prefix) text ≡ option_and_then (past_form prefix) (past (c.Byte 35) text)
unfolding behind_prefix past_form
form_behind prefix text = form_of (is_one_of decimal_prefixes prefix) (is_one_of hex_prefixes prefix) (is_one_of time_prefixes prefix) text
