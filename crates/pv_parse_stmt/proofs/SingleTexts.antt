-- EXIT, CONTINUE and RETURN by their texts.
use Rattle.std.proofs.Common.{◌≡◌, ℕ, true, cond, List, ap}
use Rattle.std.specs.Prelude.{codes}
use Rattle.std.specs.Str.{bytes_eq, str_eq_ignore_ascii_case}
use Rattle.pv_place.specs.declared.place.Place.{Place}
use Rattle.pv_tree.specs.Tree.{exit_, continue_, return_}
use Rattle.pv_tree.specs.Lexemes.{Lexeme, IsWord}
use Rattle.pv_parse.specs.StmtDeeds.{single_of}
use Rattle.pv_parse.proofs.ForCallers.{small, same-small}

single-small : (bytes word : List ℕ) (place : Place) → str_eq_ignore_ascii_case bytes word ≡ true → single_of bytes place ≡ single_of word place
unfolding single_of
single-small bytes word place h =
    ap (λ (z : List ℕ). cond (bytes_eq z (small (codes "EXIT"))) (exit_ place)
    (cond (bytes_eq z (small (codes "CONTINUE"))) (continue_ place) (return_ place))) (same-small bytes word h)

pub single-exit : (t : Lexeme) → IsWord "EXIT" t → single_of t.bytes t.place ≡ exit_ t.place
unfolding single_of
single-exit t h = single-small t.bytes (codes "EXIT") t.place h.bytes

pub single-continue : (t : Lexeme) → IsWord "CONTINUE" t → single_of t.bytes t.place ≡ continue_ t.place
unfolding single_of
single-continue t h = single-small t.bytes (codes "CONTINUE") t.place h.bytes

pub single-return : (t : Lexeme) → IsWord "RETURN" t → single_of t.bytes t.place ≡ return_ t.place
unfolding single_of
single-return t h = single-small t.bytes (codes "RETURN") t.place h.bytes
