-- Names behind `#` and `.`, as their tokens spell them.
use Rattle.std.proofs.Common.{◌≡◌, inl, inr, [], ◌∷◌, ◌++◌, refl}
use Rattle.pv_lex.specs.declared.token.Kind.TheVariants as k
use Rattle.pv_tree.specs.Lexemes.{Lexeme}
use Rattle.pv_tree.specs.Words.{plain_name, pair_name, quoted_name, SpellsWord, SpellsName}
use Rattle.pv_parse.specs.KindNumbers as kn
use Rattle.pv_parse.proofs.ForCallers.{Sure, IsPrefix, single_at}
use Rattle.pv_stl_parse.proofs.Facts as fact

pub prefix_pair : (w n : Lexeme) → IsPrefix w → n.kind ≡ k.Number → SpellsName (pair_name (w.bytes ++ n.bytes)) w.place (w ∷ n ∷ [])
prefix_pair w n h c =
    inr (inr (inr (record { prefix = w; number = n; parts = refl; at = refl; word = h.word; is_prefix = h.is_prefix; counts = c; names = refl })))

pub prefix_word : (w : Lexeme) → IsPrefix w → SpellsWord (plain_name w.bytes) w.place (w ∷ [])
prefix_word w h = single_at w (fact.plain_prefix w h)

pub free_word_spelled : (t : Sure) → t.kind ≡ kn.free_word → SpellsWord (plain_name t.lexeme.bytes) t.lexeme.place (t.lexeme ∷ [])
free_word_spelled t p = single_at t.lexeme (fact.free_word t p)

pub free_numbered_spelled : (t : Sure) → t.kind ≡ kn.free_numbered → SpellsName (plain_name t.lexeme.bytes) t.lexeme.place (t.lexeme ∷ [])
free_numbered_spelled t p = inr (inr (inl (single_at t.lexeme (fact.free_numbered t p))))

pub quoted_spelled : (t : Sure) → t.kind ≡ kn.quoted → SpellsName (quoted_name t.lexeme.bytes) t.lexeme.place (t.lexeme ∷ [])
quoted_spelled t p = inr (inl (single_at t.lexeme (fact.quoted t p)))
