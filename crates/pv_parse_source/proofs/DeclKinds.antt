-- What kind a token of declarations and blocks has by what it is, as derivations ask for it.
use Rattle.std.proofs.Common.{◌≡◌, false, List, [], ◌∷◌}
use Rattle.pv_word.specs.declared.types.Ty.{Ty}
use Rattle.pv_types.specs.declared.declaration.Section.{Section}
use Rattle.pv_types.specs.declared.declaration.Section.TheVariants as section
use Rattle.pv_tree.specs.Lexemes.{Lexeme, IsSign, IsWord}
use Rattle.pv_tree.specs.Declarations.{IsTypeWord, SpellsSectionWord}
use Rattle.pv_parse.specs.KindNumbers as n
use Rattle.pv_parse.proofs.ForCallers as of
use Rattle.pv_parse.proofs.ForCallers.{Serves, word_marks, sign_marks}

pub colon : (t : Lexeme) → IsSign ":" t → Serves n.colon t
colon t h = record { is = of.kind-colon t false h; plain = sign_marks ":" t h }

pub semicolon : (t : Lexeme) → IsSign ";" t → Serves n.semicolon t
semicolon t h = record { is = of.kind-semicolon t false h; plain = sign_marks ";" t h }

pub dots : (t : Lexeme) → IsSign ".." t → Serves n.dots t
dots t h = record { is = of.kind-dots t false h; plain = sign_marks ".." t h }

pub date_and_time : (t : Lexeme) → IsWord "DATE_AND_TIME" t → Serves n.date_and_time t
date_and_time t h = record { is = of.kind-date-and-time t h; plain = word_marks t h.kind }

pub void_word : (t : Lexeme) → IsWord "VOID" t → Serves n.void_word t
void_word t h = record { is = of.kind-void-word t h; plain = word_marks t h.kind }

pub array_word : (t : Lexeme) → IsWord "ARRAY" t → Serves n.array_word t
array_word t h = record { is = of.kind-array-word t h; plain = word_marks t h.kind }

pub of_word : (t : Lexeme) → IsWord "OF" t → Serves n.of_word t
of_word t h = record { is = of.kind-of-word t h; plain = word_marks t h.kind }

pub struct_word : (t : Lexeme) → IsWord "STRUCT" t → Serves n.struct_word t
struct_word t h = record { is = of.kind-struct-word t h; plain = word_marks t h.kind }

pub end_struct : (t : Lexeme) → IsWord "END_STRUCT" t → Serves n.end_struct t
end_struct t h = record { is = of.kind-end-struct t h; plain = word_marks t h.kind }

pub end_var : (t : Lexeme) → IsWord "END_VAR" t → Serves n.end_var t
end_var t h = record { is = of.kind-end-var t h; plain = word_marks t h.kind }

pub const_word : (t : Lexeme) → IsWord "CONST" t → Serves n.const_word t
const_word t h = record { is = of.kind-const-word t h; plain = word_marks t h.kind }

pub end_const : (t : Lexeme) → IsWord "END_CONST" t → Serves n.end_const t
end_const t h = record { is = of.kind-end-const t h; plain = word_marks t h.kind }

pub begin_word : (t : Lexeme) → IsWord "BEGIN" t → Serves n.begin_word t
begin_word t h = record { is = of.kind-begin-word t h; plain = word_marks t h.kind }

pub function_block : (t : Lexeme) → IsWord "FUNCTION_BLOCK" t → Serves n.function_block t
function_block t h = record { is = of.kind-function-block t h; plain = word_marks t h.kind }

pub end_function_block : (t : Lexeme) → IsWord "END_FUNCTION_BLOCK" t → Serves n.end_function_block t
end_function_block t h = record { is = of.kind-end-function-block t h; plain = word_marks t h.kind }

pub function_word : (t : Lexeme) → IsWord "FUNCTION" t → Serves n.function_word t
function_word t h = record { is = of.kind-function-word t h; plain = word_marks t h.kind }

pub end_function : (t : Lexeme) → IsWord "END_FUNCTION" t → Serves n.end_function t
end_function t h = record { is = of.kind-end-function t h; plain = word_marks t h.kind }

pub organization_block : (t : Lexeme) → IsWord "ORGANIZATION_BLOCK" t → Serves n.organization_block t
organization_block t h = record { is = of.kind-organization-block t h; plain = word_marks t h.kind }

pub end_organization_block : (t : Lexeme) → IsWord "END_ORGANIZATION_BLOCK" t → Serves n.end_organization_block t
end_organization_block t h = record { is = of.kind-end-organization-block t h; plain = word_marks t h.kind }

pub data_block : (t : Lexeme) → IsWord "DATA_BLOCK" t → Serves n.data_block t
data_block t h = record { is = of.kind-data-block t h; plain = word_marks t h.kind }

pub end_data_block : (t : Lexeme) → IsWord "END_DATA_BLOCK" t → Serves n.end_data_block t
end_data_block t h = record { is = of.kind-end-data-block t h; plain = word_marks t h.kind }

pub type_word : (t : Lexeme) → IsWord "TYPE" t → Serves n.type_word t
type_word t h = record { is = of.kind-type-word t h; plain = word_marks t h.kind }

pub end_type : (t : Lexeme) → IsWord "END_TYPE" t → Serves n.end_type t
end_type t h = record { is = of.kind-end-type t h; plain = word_marks t h.kind }

pub simple_type : (simple : Ty) (t : Lexeme) → IsTypeWord simple t → Serves n.simple_type t
simple_type simple t h = record { is = of.kind-type simple t h; plain = word_marks t h.kind }

-- the word of a section, as its one token
pub record Opens (a : Section) (ts : List Lexeme) : Type 0 where
  pub token : Lexeme
  pub alone : ts ≡ token ∷ []
  pub serves : Serves n.section_word token

pub section_word : (a : Section) (ts : List Lexeme) → SpellsSectionWord a ts → Opens a ts
section_word section.Input ts h =
    record { token = h.token; alone = h.alone; serves = record { is = of.kind-var-input h.token h.is; plain = word_marks h.token h.is.kind } }
section_word section.Output ts h =
    record { token = h.token; alone = h.alone; serves = record { is = of.kind-var-output h.token h.is; plain = word_marks h.token h.is.kind } }
section_word section.InOut ts h =
    record { token = h.token; alone = h.alone; serves = record { is = of.kind-var-in-out h.token h.is; plain = word_marks h.token h.is.kind } }
section_word section.Static ts h =
    record { token = h.token; alone = h.alone; serves = record { is = of.kind-var h.token h.is; plain = word_marks h.token h.is.kind } }
section_word section.Temp ts h =
    record { token = h.token; alone = h.alone; serves = record { is = of.kind-var-temp h.token h.is; plain = word_marks h.token h.is.kind } }
section_word section.Const ts h = absurd h
