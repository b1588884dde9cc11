-- The function that a word is: whatever the case of its letters, each function's word is its own alone.
use Rattle.std.proofs.Common.{◌≡◌, ℕ, zero, suc, ◌<◌, length, cond, List, [], ◌∷◌, refl, ap, subst, ◌∙◌, arith}
use Rattle.std.specs.Prelude.{slice_index_or}
use Rattle.std.specs.Str.{bytes_eq}
use Rattle.pv_word.specs.declared.types.Ty.{Ty}
use Rattle.pv_word.specs.declared.types.Ty.TheVariants as ty
use Rattle.pv_tree.specs.declared.expr.StdFunction.{StdFunction}
use Rattle.pv_tree.specs.declared.expr.StdFunction.TheVariants as function
use Rattle.pv_tree.specs.Lexemes.{Lexeme}
use Rattle.pv_tree.specs.Words.{function_word, type_word, targets_of, IsFunction}
use Rattle.pv_tree.specs.Expressions.{IsOfFunction}
use Rattle.pv_parse.specs.TokenTexts.{FunctionEntry, function_among, function_entries, functions, function_of}
use Rattle.pv_parse.proofs.CaseBlind.{small, same-small}

among_small : (es : List FunctionEntry) (a b : List ℕ) → small a ≡ small b → function_among es a ≡ function_among es b
among_small [] a b e = refl
among_small (x ∷ xs) a b e =
    ap (λ (z : List ℕ). cond (bytes_eq z (small x.0)) x.1 (function_among xs a)) e
    ∙ ap (λ (z : StdFunction). cond (bytes_eq (small b) (small x.0)) x.1 z) (among_small xs a b e)

of_small : (a b : List ℕ) → small a ≡ small b → function_of a ≡ function_of b
unfolding function_of
of_small a b e = among_small (function_entries functions) a b e

-- each conversion that there is, by its place among those of its type
found_at : (from : Ty) (i : ℕ) (d : Ty) → i < length (targets_of from)
    → function_of (function_word (function.Convert from (slice_index_or (targets_of from) i d))) ≡ function.Convert from (slice_index_or (targets_of from) i d)
unfolding function_of function_word type_word
found_at ty.Bool (zero) d h = refl
found_at ty.Bool (suc zero) d h = refl
found_at ty.Bool (suc (suc zero)) d h = refl
found_at ty.Bool (suc (suc (suc i))) d h = absurd (omega arith)
found_at ty.Byte (zero) d h = refl
found_at ty.Byte (suc zero) d h = refl
found_at ty.Byte (suc (suc zero)) d h = refl
found_at ty.Byte (suc (suc (suc zero))) d h = refl
found_at ty.Byte (suc (suc (suc (suc zero)))) d h = refl
found_at ty.Byte (suc (suc (suc (suc (suc i))))) d h = absurd (omega arith)
found_at ty.Word (zero) d h = refl
found_at ty.Word (suc zero) d h = refl
found_at ty.Word (suc (suc zero)) d h = refl
found_at ty.Word (suc (suc (suc zero))) d h = refl
found_at ty.Word (suc (suc (suc (suc zero)))) d h = refl
found_at ty.Word (suc (suc (suc (suc (suc i))))) d h = absurd (omega arith)
found_at ty.Dword (zero) d h = refl
found_at ty.Dword (suc zero) d h = refl
found_at ty.Dword (suc (suc zero)) d h = refl
found_at ty.Dword (suc (suc (suc zero))) d h = refl
found_at ty.Dword (suc (suc (suc (suc zero)))) d h = refl
found_at ty.Dword (suc (suc (suc (suc (suc i))))) d h = absurd (omega arith)
found_at ty.Int (zero) d h = refl
found_at ty.Int (suc zero) d h = refl
found_at ty.Int (suc (suc zero)) d h = refl
found_at ty.Int (suc (suc (suc zero))) d h = refl
found_at ty.Int (suc (suc (suc (suc i)))) d h = absurd (omega arith)
found_at ty.Dint (zero) d h = refl
found_at ty.Dint (suc zero) d h = refl
found_at ty.Dint (suc (suc zero)) d h = refl
found_at ty.Dint (suc (suc (suc zero))) d h = refl
found_at ty.Dint (suc (suc (suc (suc i)))) d h = absurd (omega arith)
found_at ty.Time (zero) d h = refl
found_at ty.Time (suc i) d h = absurd (omega arith)

found : (f : StdFunction) → IsFunction f → function_of (function_word f) ≡ f
unfolding function_of function_word type_word
found (function.Convert from into) h =
    subst (λ (z : Ty). function_of (function_word (function.Convert from z)) ≡ function.Convert from z) h.2 (found_at from h.0 into h.1)
found function.Abs h = refl
found function.Min h = refl
found function.Max h = refl
found function.Limit h = refl
found function.Sel h = refl
found function.Shl h = refl
found function.Shr h = refl

pub function_is : (f : StdFunction) (t : Lexeme) → IsOfFunction f t → function_of t.bytes ≡ f
function_is f t h = of_small t.bytes (function_word f) (same-small t.bytes (function_word f) h.bytes) ∙ found f h.is_one
