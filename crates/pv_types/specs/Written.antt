-- What a name keeps of its text beside its key.
use Rattle.std.specs.Prelude.{ℕ, Bool, true, false, List}
use Rattle.pv_types.specs.declared.written.Written.{Written}
use Rattle.pv_types.specs.declared.written.Written.TheVariants as w

-- the text of this key that is written so
abbrev pub spelled_by : List ℕ → Written → List ℕ
spelled_by key w.Same = key
spelled_by key w.SamePair = key
spelled_by key (w.Other text) = text.value
spelled_by key (w.OtherPair text) = text.value

-- whether it is written in two words
abbrev pub is_pair : Written → Bool
is_pair w.Same = false
is_pair w.SamePair = true
is_pair (w.Other text) = false
is_pair (w.OtherPair text) = true
