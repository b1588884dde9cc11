-- Laws of the productions of bodies of blocks.
use Rattle.std.proofs.Common.{List, ◌∷◌, [], ◌++◌, All, ◌≡◌, refl, ap, ◌∙◌, sym, subst}
use Rattle.pv_tree.specs.Tree.{StartTree, InstrTree, BodyTree, stl}
use Rattle.pv_tree.specs.Lexemes.{each}
use Rattle.pv_tree.specs.Instructions.{SpellsInstrs, IsFormedInstr}
use Rattle.pv_tree.specs.Blocks.{SpellsDataValue, IsFormedStart}
use Rattle.pv_ll.specs.Meaning.DoesAll.{nil, tok, val}
use Rattle.pv_parse.specs.FrontNames as name
use Rattle.pv_parse.specs.Items as i
use Rattle.pv_parse.specs.InstrStack.{instrs_of}
use Rattle.pv_parse.proofs.ForCallers.{Sure, lexemes, decls, instrs, begins_code, adds_instrs, begins_data, are_values, a_body, a_data_body, single, led, last}
use Rattle.pv_parse_source.proofs.ForCallers.{moved, beside, begin_word_is}
use Rattle.pv_stl_parse.specs.OwnBodies as b
use Rattle.pv_stl_parse.proofs.StlSorts.{Lawful}

-- tokens behind a name without any
none_before : (all us rest vs : List Sure) → all ≡ us ++ rest → us ≡ [] → rest ≡ vs ++ [] → all ≡ vs
none_before all us rest vs p e q = p ∙ ap (λ (z : List Sure). z ++ rest) e ∙ last rest vs q

pub body_1 : Lawful b.body_1 name.body b.body_1_body
body_1 s inner ws w (tok {t = t} q (val {us = us} {ts = rest} {ws = all} (instrs (begins_code e)) (val {us = vs} (instrs (adds_instrs _ x new h f k)) nil r) p)) =
    let is : x ≡ stl new = k [] refl in
    let same : new ≡ instrs_of x = sym (ap (λ (z : BodyTree). instrs_of z) is) in
    let spelled : SpellsInstrs new (lexemes all) = subst (λ (z : List Sure). SpellsInstrs new (lexemes z)) (sym (none_before all us rest vs p e r)) h in
    record {
      after = i.body (stl (instrs_of x)) ∷ s;
      makes = refl;
      mean = decls (a_body (stl (instrs_of x)) (led t.lexeme (lexemes all) (single t.lexeme (begin_word_is t q))
          (subst (λ (z : List InstrTree). SpellsInstrs z (lexemes all)) same spelled)) (subst (λ (z : List InstrTree). All IsFormedInstr z) same f));
    }

pub data_body_1 : Lawful b.data_body_1 name.data_body b.data_body_1_body
data_body_1 s inner ws w (val {us = us} {ts = rest} (decls (begins_data h)) (val {us = vs} (decls (are_values _ new after g f r)) nil e2) e1) = record {
  after = i.values after ∷ s;
  makes = refl;
  mean = decls (a_data_body after (beside ws us rest e1 h (moved (each SpellsDataValue after) rest vs e2
      (subst (λ (z : List StartTree). each SpellsDataValue z (lexemes vs)) (sym r) g))) (subst (λ (z : List StartTree). All IsFormedStart z) (sym r) f));
}
