-- Looking into a JSON value. Of a member that stands twice the last one counts, so an object has each name once, in the order of the
-- names' bytes; texts are lists of UTF-8 bytes.
use Rattle.std.specs.Prelude.{ℕ, ℤ, List, [], ◌∷◌, length, bytes_eq, Bool, is_some, nat_le, Option, option_and_then, option_map, unwrap_or}
use Rattle.std.specs.List.{list_any}
use Rattle.serde_json.specs.Data.{Data, Items, no_items, item, Members, no_members, member}
use Rattle.serde_json.specs.Find.{get, as_str, as_array, as_object, as_number, as_integer}
use Rattle.pv_case.specs.declared.case.TheConstants.{MAX_TEXT}

abbrev pub list_of : Items → List Data
list_of no_items = []
list_of (item d ds) = d ∷ list_of ds

abbrev pub pairs_of : Members → List (List ℕ × Data)
pairs_of no_members = []
pairs_of (member key d ms) = (key, d) ∷ pairs_of ms

-- an array's items, and an object's members
abbrev pub items_in : Data → Option (List Data)
items_in d = option_map list_of (as_array d)

abbrev pub pairs_in : Data → Option (List (List ℕ × Data))
pairs_in d = option_map pairs_of (as_object d)

abbrev pub is_list : Data → Bool
is_list d = is_some (as_array d)

abbrev pub is_object : Data → Bool
is_object d = is_some (as_object d)

abbrev pub is_text : Data → Bool
is_text d = is_some (as_str d)

-- an integer that 64 bits hold, with a sign or without; one with a point or an exponent is none
abbrev pub integer_of : Data → Option ℤ
integer_of d = option_and_then as_integer (as_number d)

-- ---- members

abbrev pub has : Data → List ℕ → Bool
has d key = is_some (get key d)

abbrev pub text_at : Data → List ℕ → Option (List ℕ)
text_at d key = option_and_then as_str (get key d)

-- the member's text, or the empty one where it has none
abbrev pub text_in : Data → List ℕ → List ℕ
text_in d key = unwrap_or (text_at d key) []

abbrev pub integer_at : Data → List ℕ → Option ℤ
integer_at d key = option_and_then integer_of (get key d)

abbrev pub items_at : Data → List ℕ → Option (List Data)
items_at d key = option_and_then items_in (get key d)

abbrev pub pairs_at : Data → List ℕ → Option (List (List ℕ × Data))
pairs_at d key = option_and_then pairs_in (get key d)

-- ---- tests

-- a text within the limit
abbrev pub is_short : List ℕ → Bool
is_short text = nat_le (length text) MAX_TEXT

-- one of these texts
abbrev pub is_among : List (List ℕ) → List ℕ → Bool
is_among texts text = list_any (bytes_eq text) texts
