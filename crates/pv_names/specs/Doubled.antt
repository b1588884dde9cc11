-- Parts of a block's variables, and what is found of them where a name stands twice.
use Rattle.std.specs.Prelude.{◌≡◌, ℕ, List, Bool as Truth, ◌&&◌, if◌then◌else◌, None}
use Rattle.pv_types.specs.Tree.{VarTree}
use Rattle.pv_types.specs.View.{name_of, section_of}
use Rattle.pv_types.specs.declared.declaration.Section.{Section}
use Rattle.pv_tree.specs.Scopes.{has_key, is_of_instance}
use Rattle.pv_tree.specs.Callees.{is_param}
use Rattle.pv_names.specs.Firsts.{number_in, first_number}
use Rattle.pv_names.specs.declared.firsts.Firsts.{Firsts}
use Rattle.pv_names.specs.declared.doubled.Part.{Part}
use Rattle.pv_names.specs.declared.doubled.Part.TheVariants.{Params, Fields}
use Rattle.pv_names.specs.declared.doubled.Doubled.{Doubled}

-- whether variables of a section are of a part
abbrev pub is_of : Part → Section → Truth
is_of Params section = is_param section
is_of Fields section = is_of_instance section

-- a variable of the part that has this name
abbrev pub is_sought : Part → List ℕ → VarTree → Truth
is_sought part key v = is_of part (section_of v) && has_key key (name_of v)

-- the table of a part
abbrev pub table : Doubled → Part → Firsts
table d Params = d.params
table d Fields = d.fields

-- the first of each part is found, or none where the first of a name is the only one
abbrev pub FindsDoubled : Doubled → Truth → List VarTree → Type 0
FindsDoubled d unique vars = (part : Part) (key : List ℕ)
    → number_in (table d part) key ≡ (if unique then None else first_number (is_sought part key) vars)
