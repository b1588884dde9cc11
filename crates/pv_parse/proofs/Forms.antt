-- Forms on lists of tokens with their kinds, put together.
use Rattle.std.proofs.Common.{◌≡◌, List, [], ◌∷◌, ◌++◌, refl, ap, ◌∙◌}
use Rattle.std.proofs.lemmas.List.{append-nil, map-append}
use Rattle.pv_tree.specs.Lexemes.{Lexeme, one, IsAt, ◌⨾◌}
use Rattle.pv_parse.proofs.Sorts.{Sure, lexemes}

-- the last symbol of a body
pub last : (ws us : List Sure) → ws ≡ us ++ [] → ws ≡ us
last ws us e = e ∙ append-nil us

-- tokens in two parts
pub parted : (ws us vs : List Sure) → ws ≡ us ++ vs → lexemes ws ≡ lexemes us ++ lexemes vs
parted ws us vs e = ap (λ z. lexemes z) e ∙ map-append (λ (t : Sure). t.lexeme) us vs

-- one token
pub single : {P : Lexeme → Type 0} (t : Lexeme) → P t → one P (t ∷ [])
single t h = record { token = t; alone = refl; is = h }

pub single_at : {P : Lexeme → Type 0} (t : Lexeme) → P t → one (IsAt P t.place) (t ∷ [])
single_at t h = record { token = t; alone = refl; is = record { is = h; at = refl } }

-- a token before others
pub led : {P F : List Lexeme → Type 0} (t : Lexeme) (ts : List Lexeme) → P (t ∷ []) → F ts → (P ⨾ F) (t ∷ ts)
led t ts p f = record { front = t ∷ []; back = ts; parts = refl; in_front = p; behind = f }

-- tokens of one form before those of another
pub joined : {F G : List Lexeme → Type 0} (us vs ws : List Lexeme) → ws ≡ us ++ vs → F us → G vs → (F ⨾ G) ws
joined us vs ws e f g = record { front = us; back = vs; parts = e; in_front = f; behind = g }

-- tokens before one
pub closed_by : {F P : List Lexeme → Type 0} (us : List Lexeme) (t : Lexeme) → F us → P (t ∷ []) → (F ⨾ P) (us ++ t ∷ [])
closed_by us t f p = record { front = us; back = t ∷ []; parts = refl; in_front = f; behind = p }
