-- Laws of lists of entries.
-- A test that a clause names (`IsTrue (is_failing ..)`) is a small function with `result ≡ is_failing ..`. With `contains` written
-- out in the caller the search stopped at its limits at every exit. An `if .. else ..` whose result is matched afterwards loses
-- its facts at the join: put the choice into a function (`copy_at_call`). A method of an `impl` may have exact clauses of its own
-- in place of its trait's: the check derives the trait's clauses from them. What needs the range of a field (`never_falls`,
-- `counted`) has to be a clause of its own, and the field has to be read before the branch (`let faults = self.faults;`). A
-- newtype over a `Vec` with a model (its list of bytes) takes its comparisons and `Hash` from `Rattle.std.specs.Cmp.Lexicographic`
-- (`nat_list_eq_equiv`, `texts_po`, `nat_list_cmp_total`, `texts_ties`) and `bytes_eq-Decides`, one line a law.
use Rattle.std.proofs.Common.{◌≡◌, ◌≢◌, ℕ, ◌<◌, List, [], ◌∷◌, ◌++◌, length, get_or, set, Some, None, Vec, refl, sym, ◌∙◌, ap, arith}
use Rattle.std.proofs.lemmas.Slice.Eq.{bytes_eq-Decides}
use Rattle.std.proofs.lemmas.Grind.{common_steps}
use Rattle.std.specs.declared.alloc.Global.{Global}
use Rattle.pv_edge.specs.Files.{Puts}
use Rattle.pv_edge.specs.Entries.{entries, file_at, put, index_of}

-- what the first entry of a name holds is what the name holds
pub at-index : (files : List (List ℕ × Vec ℕ Global)) (name : List ℕ) (d : List ℕ × Vec ℕ Global) → index_of files name < length files → file_at (entries files) name ≡ Some (get_or files (index_of files name) d).1.items
at-index [] name d h = absurd (omega arith)
at-index (file ∷ files) name d h = grind (arith, common_steps, at-index files name d)

-- a name of no entry holds nothing
pub at-none : (files : List (List ℕ × Vec ℕ Global)) (name : List ℕ) → index_of files name ≡ length files → file_at (entries files) name ≡ None
at-none [] name h = refl
at-none (file ∷ files) name h = grind (arith, common_steps, at-none files name)

-- writing over the first entry of a name
pub put-at : (files : List (List ℕ × Vec ℕ Global)) (name : List ℕ) (v : Vec ℕ Global) (d : List ℕ × Vec ℕ Global) → index_of files name < length files → entries (set files (index_of files name) ((get_or files (index_of files name) d).0, v)) ≡ put name v.items (entries files)
put-at [] name v d h = absurd (omega arith)
put-at (file ∷ files) name v d h = grind (arith, common_steps, put-at files name v d)

-- writing behind entries of other names
pub put-end : (files : List (List ℕ × Vec ℕ Global)) (name : List ℕ) (v : Vec ℕ Global) → index_of files name ≡ length files → entries (files ++ (name, v) ∷ []) ≡ put name v.items (entries files)
put-end [] name v h = refl
put-end (file ∷ files) name v h = grind (arith, common_steps, put-end files name v)

put-here : (name bytes : List ℕ) (files : List (List ℕ × List ℕ)) → file_at (put name bytes files) name ≡ Some bytes
put-here name bytes [] = grind (arith, common_steps, bytes_eq-Decides name name)
put-here name bytes (file ∷ files) = grind (arith, common_steps, put-here name bytes files)

put-others : (name bytes : List ℕ) (files : List (List ℕ × List ℕ)) (other : List ℕ) → other ≢ name → file_at (put name bytes files) other ≡ file_at files other
put-others name bytes [] other h = grind (arith, common_steps, bytes_eq-Decides name other)
put-others name bytes (file ∷ files) other h = grind (arith, common_steps, put-others name bytes files other h, bytes_eq-Decides file.0 other, bytes_eq-Decides file.0 name)

-- a list of entries is written as the map that it stands for
pub put-puts : (name bytes : List ℕ) (files : List (List ℕ × List ℕ)) → Puts name bytes (file_at files) (file_at (put name bytes files))
put-puts name bytes files = record { here = put-here name bytes files; others = put-others name bytes files }

-- the entry that was found is the one that counts
pub at-found : (files : List (List ℕ × Vec ℕ Global)) (name : List ℕ) (i : ℕ) (d : List ℕ × Vec ℕ Global) → i ≡ index_of files name → i < length files → file_at (entries files) name ≡ Some (get_or files i d).1.items
at-found files name i d e h =
    let h' : index_of files name < length files = omega arith in
    at-index files name d h' ∙ ap (λ k. Some (get_or files k d).1.items) (sym e)
