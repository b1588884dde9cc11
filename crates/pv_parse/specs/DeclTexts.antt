-- What single tokens of declarations say, once the grammar let them stand where they do.
use Rattle.std.specs.Prelude.{ℕ, if◌then◌else◌, List, codes}
use Rattle.pv_word.specs.declared.types.Ty.{Ty}
use Rattle.pv_word.specs.declared.types.Ty.TheVariants as ty
use Rattle.pv_types.specs.declared.declaration.Section.{Section}
use Rattle.pv_types.specs.declared.declaration.Section.TheVariants as section
use Rattle.pv_parse.specs.TokenTexts.{is_text}

-- the simple type of a word
unfoldable pub type_of_word : List ℕ → Ty
type_of_word bytes =
    if is_text (codes "BOOL") bytes then ty.Bool
    else (if is_text (codes "BYTE") bytes then ty.Byte
    else (if is_text (codes "WORD") bytes then ty.Word
    else (if is_text (codes "DWORD") bytes then ty.Dword
    else (if is_text (codes "INT") bytes then ty.Int
    else (if is_text (codes "DINT") bytes then ty.Dint else ty.Time)))))

-- the section that a word opens
unfoldable pub section_of_word : List ℕ → Section
section_of_word bytes =
    if is_text (codes "VAR_INPUT") bytes then section.Input
    else (if is_text (codes "VAR_OUTPUT") bytes then section.Output
    else (if is_text (codes "VAR_IN_OUT") bytes then section.InOut
    else (if is_text (codes "VAR") bytes then section.Static else section.Temp)))
