-- What a token of a declaration or a block is that has a kind, as the laws of productions ask for it.
use Rattle.std.proofs.Common.{◌≡◌, ◌⊎◌, inl, inr, ℕ, true, cond, List, [], ◌∷◌, ap, sym, subst}
use Rattle.std.specs.Prelude.{codes}
use Rattle.std.specs.Str.{bytes_eq, str_eq_ignore_ascii_case}
use Rattle.pv_word.specs.declared.types.Ty.{Ty}
use Rattle.pv_word.specs.declared.types.Ty.TheVariants as ty
use Rattle.pv_types.specs.declared.declaration.Section.{Section}
use Rattle.pv_types.specs.declared.declaration.Section.TheVariants as section
use Rattle.pv_tree.specs.Lexemes.{Lexeme, IsSign, IsWord}
use Rattle.pv_tree.specs.Words.{type_word}
use Rattle.pv_tree.specs.Declarations.{IsTypeWord, SpellsSectionWord}
use Rattle.pv_parse.specs.KindNumbers as n
use Rattle.pv_parse.specs.DeclTexts.{type_of_word, section_of_word}
use Rattle.pv_parse.proofs.ForCallers.{small, same-small, Sure, single, has}
use Rattle.pv_parse.proofs.ForCallers as by

-- ---- signs and words

pub colon : (t : Sure) → t.kind ≡ n.colon → IsSign ":" t.lexeme
colon t p = by.is-colon t.lexeme (has t n.colon p)

pub semicolon : (t : Sure) → t.kind ≡ n.semicolon → IsSign ";" t.lexeme
semicolon t p = by.is-semicolon t.lexeme (has t n.semicolon p)

pub dots : (t : Sure) → t.kind ≡ n.dots → IsSign ".." t.lexeme
dots t p = by.is-dots t.lexeme (has t n.dots p)

pub date_and_time : (t : Sure) → t.kind ≡ n.date_and_time → IsWord "DATE_AND_TIME" t.lexeme
date_and_time t p = by.is-date-and-time t.lexeme (has t n.date_and_time p)

pub void_word : (t : Sure) → t.kind ≡ n.void_word → IsWord "VOID" t.lexeme
void_word t p = by.is-void-word t.lexeme (has t n.void_word p)

pub array_word : (t : Sure) → t.kind ≡ n.array_word → IsWord "ARRAY" t.lexeme
array_word t p = by.is-array-word t.lexeme (has t n.array_word p)

pub of_word : (t : Sure) → t.kind ≡ n.of_word → IsWord "OF" t.lexeme
of_word t p = by.is-of-word t.lexeme (has t n.of_word p)

pub struct_word : (t : Sure) → t.kind ≡ n.struct_word → IsWord "STRUCT" t.lexeme
struct_word t p = by.is-struct-word t.lexeme (has t n.struct_word p)

pub end_struct : (t : Sure) → t.kind ≡ n.end_struct → IsWord "END_STRUCT" t.lexeme
end_struct t p = by.is-end-struct t.lexeme (has t n.end_struct p)

pub end_var : (t : Sure) → t.kind ≡ n.end_var → IsWord "END_VAR" t.lexeme
end_var t p = by.is-end-var t.lexeme (has t n.end_var p)

pub const_word : (t : Sure) → t.kind ≡ n.const_word → IsWord "CONST" t.lexeme
const_word t p = by.is-const-word t.lexeme (has t n.const_word p)

pub end_const : (t : Sure) → t.kind ≡ n.end_const → IsWord "END_CONST" t.lexeme
end_const t p = by.is-end-const t.lexeme (has t n.end_const p)

pub begin_word : (t : Sure) → t.kind ≡ n.begin_word → IsWord "BEGIN" t.lexeme
begin_word t p = by.is-begin-word t.lexeme (has t n.begin_word p)

pub function_block : (t : Sure) → t.kind ≡ n.function_block → IsWord "FUNCTION_BLOCK" t.lexeme
function_block t p = by.is-function-block t.lexeme (has t n.function_block p)

pub end_function_block : (t : Sure) → t.kind ≡ n.end_function_block → IsWord "END_FUNCTION_BLOCK" t.lexeme
end_function_block t p = by.is-end-function-block t.lexeme (has t n.end_function_block p)

pub function_word : (t : Sure) → t.kind ≡ n.function_word → IsWord "FUNCTION" t.lexeme
function_word t p = by.is-function-word t.lexeme (has t n.function_word p)

pub end_function : (t : Sure) → t.kind ≡ n.end_function → IsWord "END_FUNCTION" t.lexeme
end_function t p = by.is-end-function t.lexeme (has t n.end_function p)

pub organization_block : (t : Sure) → t.kind ≡ n.organization_block → IsWord "ORGANIZATION_BLOCK" t.lexeme
organization_block t p = by.is-organization-block t.lexeme (has t n.organization_block p)

pub end_organization_block : (t : Sure) → t.kind ≡ n.end_organization_block → IsWord "END_ORGANIZATION_BLOCK" t.lexeme
end_organization_block t p = by.is-end-organization-block t.lexeme (has t n.end_organization_block p)

pub data_block : (t : Sure) → t.kind ≡ n.data_block → IsWord "DATA_BLOCK" t.lexeme
data_block t p = by.is-data-block t.lexeme (has t n.data_block p)

pub end_data_block : (t : Sure) → t.kind ≡ n.end_data_block → IsWord "END_DATA_BLOCK" t.lexeme
end_data_block t p = by.is-end-data-block t.lexeme (has t n.end_data_block p)

pub type_word_of : (t : Sure) → t.kind ≡ n.type_word → IsWord "TYPE" t.lexeme
type_word_of t p = by.is-type-word t.lexeme (has t n.type_word p)

pub end_type : (t : Sure) → t.kind ≡ n.end_type → IsWord "END_TYPE" t.lexeme
end_type t p = by.is-end-type t.lexeme (has t n.end_type p)

-- ---- simple types

type_small : (bytes word : List ℕ) → str_eq_ignore_ascii_case bytes word ≡ true → type_of_word bytes ≡ type_of_word word
unfolding type_of_word
type_small bytes word h =
    ap (λ (z : List ℕ). cond (bytes_eq z (small (codes "BOOL"))) ty.Bool (cond (bytes_eq z (small (codes "BYTE"))) ty.Byte
    (cond (bytes_eq z (small (codes "WORD"))) ty.Word (cond (bytes_eq z (small (codes "DWORD"))) ty.Dword
    (cond (bytes_eq z (small (codes "INT"))) ty.Int (cond (bytes_eq z (small (codes "DINT"))) ty.Dint ty.Time)))))) (same-small bytes word h)

pub type_is : (simple : Ty) (t : Lexeme) → IsTypeWord simple t → type_of_word t.bytes ≡ simple
unfolding type_of_word type_word
type_is ty.Bool t h = type_small t.bytes (codes "BOOL") h.bytes
type_is ty.Byte t h = type_small t.bytes (codes "BYTE") h.bytes
type_is ty.Word t h = type_small t.bytes (codes "WORD") h.bytes
type_is ty.Dword t h = type_small t.bytes (codes "DWORD") h.bytes
type_is ty.Int t h = type_small t.bytes (codes "INT") h.bytes
type_is ty.Dint t h = type_small t.bytes (codes "DINT") h.bytes
type_is ty.Time t h = type_small t.bytes (codes "TIME") h.bytes

pub simple_type : (t : Sure) → t.kind ≡ n.simple_type → IsTypeWord (type_of_word t.lexeme.bytes) t.lexeme
simple_type t p =
    let x = by.is-simple-type t.lexeme (has t n.simple_type p) in
    subst (λ (z : Ty). IsTypeWord z t.lexeme) (sym (type_is x.0 t.lexeme x.1)) x.1

-- ---- sections

section_small : (bytes word : List ℕ) → str_eq_ignore_ascii_case bytes word ≡ true → section_of_word bytes ≡ section_of_word word
unfolding section_of_word
section_small bytes word h =
    ap (λ (z : List ℕ). cond (bytes_eq z (small (codes "VAR_INPUT"))) section.Input (cond (bytes_eq z (small (codes "VAR_OUTPUT"))) section.Output
    (cond (bytes_eq z (small (codes "VAR_IN_OUT"))) section.InOut (cond (bytes_eq z (small (codes "VAR"))) section.Static section.Temp))))
    (same-small bytes word h)

section_by : (t : Lexeme) → IsWord "VAR_INPUT" t ⊎ (IsWord "VAR_OUTPUT" t ⊎ (IsWord "VAR_IN_OUT" t ⊎ (IsWord "VAR" t ⊎ (IsWord "VAR_TEMP" t))))
    → SpellsSectionWord (section_of_word t.bytes) (t ∷ [])
unfolding section_of_word
section_by t (inl h) =
    subst (λ (z : Section). SpellsSectionWord z (t ∷ [])) (sym (section_small t.bytes (codes "VAR_INPUT") h.bytes)) (single t h)
section_by t (inr (inl h)) =
    subst (λ (z : Section). SpellsSectionWord z (t ∷ [])) (sym (section_small t.bytes (codes "VAR_OUTPUT") h.bytes)) (single t h)
section_by t (inr (inr (inl h))) =
    subst (λ (z : Section). SpellsSectionWord z (t ∷ [])) (sym (section_small t.bytes (codes "VAR_IN_OUT") h.bytes)) (single t h)
section_by t (inr (inr (inr (inl h)))) =
    subst (λ (z : Section). SpellsSectionWord z (t ∷ [])) (sym (section_small t.bytes (codes "VAR") h.bytes)) (single t h)
section_by t (inr (inr (inr (inr h)))) =
    subst (λ (z : Section). SpellsSectionWord z (t ∷ [])) (sym (section_small t.bytes (codes "VAR_TEMP") h.bytes)) (single t h)

pub section_word : (t : Sure) → t.kind ≡ n.section_word → SpellsSectionWord (section_of_word t.lexeme.bytes) (t.lexeme ∷ [])
section_word t p = section_by t.lexeme (by.is-section-word t.lexeme (has t n.section_word p))

-- the section of a word that opens one
pub section_is : (a : Section) (t : Lexeme) → SpellsSectionWord a (t ∷ []) → section_of_word t.bytes ≡ a
unfolding section_of_word
section_is section.Input t h =
    let e : t ≡ h.token = cc (h.alone) in
    section_small t.bytes (codes "VAR_INPUT") (subst (λ (z : Lexeme). str_eq_ignore_ascii_case z.bytes (codes "VAR_INPUT") ≡ true) (sym e) h.is.bytes)
section_is section.Output t h =
    let e : t ≡ h.token = cc (h.alone) in
    section_small t.bytes (codes "VAR_OUTPUT") (subst (λ (z : Lexeme). str_eq_ignore_ascii_case z.bytes (codes "VAR_OUTPUT") ≡ true) (sym e) h.is.bytes)
section_is section.InOut t h =
    let e : t ≡ h.token = cc (h.alone) in
    section_small t.bytes (codes "VAR_IN_OUT") (subst (λ (z : Lexeme). str_eq_ignore_ascii_case z.bytes (codes "VAR_IN_OUT") ≡ true) (sym e) h.is.bytes)
section_is section.Static t h =
    let e : t ≡ h.token = cc (h.alone) in
    section_small t.bytes (codes "VAR") (subst (λ (z : Lexeme). str_eq_ignore_ascii_case z.bytes (codes "VAR") ≡ true) (sym e) h.is.bytes)
section_is section.Temp t h =
    let e : t ≡ h.token = cc (h.alone) in
    section_small t.bytes (codes "VAR_TEMP") (subst (λ (z : Lexeme). str_eq_ignore_ascii_case z.bytes (codes "VAR_TEMP") ≡ true) (sym e) h.is.bytes)
section_is section.Const t h = absurd h
