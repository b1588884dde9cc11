-- Sources read one behind the other.
use Rattle.std.proofs.Common.{◌≡◌, ◌≤◌, ◌<◌, ◌+◌, ℕ, suc, List, [], ◌∷◌, ◌++◌, length, map, get_or, take, drop, refl, ap, sym, subst, ◌∙◌, arith, inl, inr, Option}
use Rattle.std.specs.Prelude.{flat_map, string_bytes, Result, Ok, Err, IfErr}
use Rattle.std.specs.Result.{IsErrAnd}
use Rattle.std.proofs.lemmas.List.{take_more, drop_more, take-append-drop, map-append, length-map, append-nil, length-take}
use Rattle.std.proofs.lemmas.Grind.{flat_map-append}
use Rattle.pv_edge.specs.Files.{FileMap}
use Rattle.pv_tree.specs.Tree.{BlockTree}
use Rattle.pv_tree.specs.View.{block_trees}
use Rattle.pv_case.specs.declared.case.Source.{Source}
use Rattle.pv_case.specs.declared.case.TheConstants.{MAX_SOURCES}
use Rattle.pv_case.specs.Cases.{SourceData, source_data}
use Rattle.pv_command_load.specs.declared.source.SourceStop.{SourceStop}
use Rattle.pv_command_load.specs.declared.sources.Sources.{Sources as Kept}
use Rattle.pv_command_load.specs.Positions.{FileText}
use Rattle.pv_command_load.specs.Held.{Holds}
use Rattle.pv_command_load.specs.Refusals.{SourceRefusal}
use Rattle.pv_command_load.specs.Sources.{ReadSource, ReadsAs, HoldsSource, HoldSources, AtOne, IsAsked, IsRefused}
use Rattle.pv_command_load.specs.Stopped.{Stopped, unread, refused, no_memory, StopsAt}
use Rattle.pv_command_load.specs.Stops.{text_tree, source_stopped}
use Rattle.pv_command_load.specs.declared.position.SourceText.{SourceText}
use Rattle.pv_command_load.specs.Passing.{source_named}
use Rattle.pv_command_load.specs.Gathered.{HasSources, HasOneMore, StopsAtOne}

-- ---- along the sources

zero_more : (n : ℕ) → n + 0 ≡ n
zero_more n = omega arith

one_more : (n m : ℕ) → n + suc m ≡ n + 1 + m
one_more n m = omega arith

pub more_held : (told : Option FileMap) (number : ℕ) (sources : List SourceData) (read : List ReadSource) (source : SourceData) (one : ReadSource)
    → HoldSources told number sources read → HoldsSource told (number + length sources) source one
    → HoldSources told number (sources ++ source ∷ []) (read ++ one ∷ [])
more_held told number [] [] source one h is = (subst (λ n. HoldsSource told n source one) (zero_more number) is, tt)
more_held told number [] (r ∷ read) source one h is = absurd h
more_held told number (s ∷ sources) [] source one h is = absurd h
more_held told number (s ∷ sources) (r ∷ read) source one h is = (
  h.0,
  more_held told (number + 1) sources read source one h.1
      (subst (λ n. HoldsSource told n source one) (one_more number (length sources)) is),
)

pub at_one : (Is : ℕ → SourceData → Type 0) (told : Option FileMap) (number : ℕ) (sources : List SourceData) (read : List ReadSource)
    (source : SourceData) (back : List SourceData) → HoldSources told number sources read → Is (number + length sources) source
    → AtOne Is told number (sources ++ source ∷ back)
at_one Is told number [] [] source back h is = inl (subst (λ n. Is n source) (zero_more number) is)
at_one Is told number [] (r ∷ read) source back h is = absurd h
at_one Is told number (s ∷ sources) [] source back h is = absurd h
at_one Is told number (s ∷ sources) (r ∷ read) source back h is =
    inr (
      (r, h.0),
      at_one Is told (number + 1) sources read source back h.1
          (subst (λ n. Is n source) (one_more number (length sources)) is),
    )

as_many : (told : Option FileMap) (number : ℕ) (sources : List SourceData) (read : List ReadSource) → HoldSources told number sources read
    → length read ≡ length sources
as_many told number [] [] h = refl
as_many told number [] (r ∷ read) h = absurd h
as_many told number (s ∷ sources) [] h = absurd h
as_many told number (s ∷ sources) (r ∷ read) h = omega (arith, as_many told (number + 1) sources read h.1)

-- as many texts are kept as there are sources
pub many_texts : (told : Option FileMap) (sources : List SourceData) (kept : Kept) → HasSources told sources kept
    → length kept.texts.items ≡ 0 + length sources
many_texts told sources kept has =
    let same = sym (length-map kept.texts.items text_tree) ∙ ap (λ (xs : List FileText). length xs) has.texts
    ∙ length-map has.read (λ (s : ReadSource). s.text) ∙ as_many told 0 sources has.read has.held in
    omega (arith, same)

-- so there is room for one more
pub few_texts : (told : Option FileMap) (items list : List Source) (k : ℕ) (kept : Kept) → list ≡ items → k < length list
    → length items ≤ MAX_SOURCES → HasSources told (map source_data (take k list)) kept → length kept.texts.items < MAX_SOURCES
few_texts told items list k kept same short few has =
    omega (
      arith,
      short,
      few,
      ap (λ (xs : List Source). length xs) same,
      many_texts told (map source_data (take k list)) kept has,
      length-map (take k list) source_data,
      length-take k list,
    )

-- ---- in the loop, where so many are read

front_is : (list : List Source) (k : ℕ) (x : Source) → k < length list → x ≡ get_or list k x
    → map source_data (take (k + 1) list) ≡ map source_data (take k list) ++ source_data x ∷ []
front_is list k x short e =
    ap (map source_data) (take_more list k x short) ∙ map-append source_data (take k list) (get_or list k x ∷ [])
    ∙ ap (λ (y : Source). map source_data (take k list) ++ source_data y ∷ []) (sym e)

whole_is : (list : List Source) (k : ℕ) (x : Source) → k < length list → x ≡ get_or list k x
    → map source_data list ≡ map source_data (take k list) ++ source_data x ∷ map source_data (drop (k + 1) list)
whole_is list k x short e =
    ap (map source_data) (sym (take-append-drop k list) ∙ ap (λ (ys : List Source). take k list ++ ys) (drop_more list k x short))
    ∙ map-append source_data (take k list) (get_or list k x ∷ drop (k + 1) list)
    ∙ ap (λ (y : Source). map source_data (take k list) ++ source_data y ∷ map source_data (drop (k + 1) list)) (sym e)

pub none_yet : (told : Option FileMap) (kept : Kept) → kept.texts.items ≡ [] → kept.blocks.list.items ≡ [] → HasSources told [] kept
none_yet told kept t b = record { read = []; held = tt; texts = ap (map text_tree) t; blocks = ap block_trees b }

pub one_behind : (told : Option FileMap) (list : List Source) (k : ℕ) (x : Source) (old new : Kept) → k < length list → x ≡ get_or list k x
    → HasSources told (map source_data (take k list)) old → HasOneMore told (length old.texts.items) (source_data x) old new
    → HasSources told (map source_data (take (k + 1) list)) new
one_behind told list k x old new short e has more =
    let front = map source_data (take k list) in
    let Held : List SourceData → Type 0 = λ ss. HoldSources told 0 ss (has.read ++ more.read ∷ []) in
    record {
      read = has.read ++ more.read ∷ [];
      held = subst Held (sym (front_is list k x short e)) (more_held told 0 front has.read (source_data x) more.read has.held
          (subst (λ n. HoldsSource told n (source_data x) more.read) (many_texts told front old has) more.held));
      texts = more.texts ∙ ap (λ (ts : List FileText). ts ++ more.read.text ∷ []) has.texts
          ∙ sym (map-append (λ (s : ReadSource). s.text) has.read (more.read ∷ []));
      blocks = more.blocks ∙ ap (λ (bs : List BlockTree). bs ++ more.read.blocks) has.blocks ∙ last_blocks has.read more.read;
    }
  where
    last_blocks : (read : List ReadSource) (one : ReadSource)
        → flat_map (λ (s : ReadSource). s.blocks) read ++ one.blocks ≡ flat_map (λ (s : ReadSource). s.blocks) (read ++ one ∷ [])
    last_blocks read one =
        sym (flat_map-append (λ (s : ReadSource). s.blocks) read (one ∷ []) ∙ ap (λ (bs : List BlockTree). flat_map (λ (s : ReadSource). s.blocks) read ++ bs) (append-nil one.blocks))

placed : (told : Option FileMap) (list : List Source) (k : ℕ) (x : Source) (kept : Kept) (Is : ℕ → SourceData → Type 0) → k < length list
    → x ≡ get_or list k x → HasSources told (map source_data (take k list)) kept → Is (length kept.texts.items) (source_data x)
    → AtOne Is told 0 (map source_data list)
placed told list k x kept Is short e has h =
    let front = map source_data (take k list) in
    subst (AtOne Is told 0) (sym (whole_is list k x short e)) (at_one Is told 0 front has.read (source_data x)
    (map source_data (drop (k + 1) list)) has.held (subst (λ n. Is n (source_data x)) (many_texts told front kept has) h))

-- why it stops at the next one
pub among : (told : Option FileMap) (list : List Source) (k : ℕ) (x : Source) (kept : Kept) (stopped : Stopped SourceRefusal)
    → k < length list → x ≡ get_or list k x → HasSources told (map source_data (take k list)) kept
    → StopsAt (λ name. IsAsked name (length kept.texts.items) (source_data x))
    (λ refusal. IsRefused told refusal (length kept.texts.items) (source_data x)) stopped
    → StopsAt (λ name. AtOne (IsAsked name) told 0 (map source_data list))
    (λ refusal. AtOne (IsRefused told refusal) told 0 (map source_data list)) stopped
among told list k x kept (unread name) short e has h = placed told list k x kept (IsAsked name) short e has h
among told list k x kept (refused r) short e has h = placed told list k x kept (IsRefused told r) short e has h
among told list k x kept no_memory short e has h = tt

-- the same of the files as they are told now, and of the case's sources
pub stops_there : (told now : Option FileMap) (items list : List Source) (k : ℕ) (x : Source) (kept : Kept) (stop : SourceStop) → list ≡ items
    → now ≡ told → k < length list → x ≡ get_or list k x → HasSources told (map source_data (take k list)) kept
    → StopsAtOne now (length kept.texts.items) (source_data x) stop
    → StopsAt (λ name. AtOne (IsAsked name) told 0 (map source_data items))
    (λ refusal. AtOne (IsRefused told refusal) told 0 (map source_data items)) (source_stopped stop)
stops_there told now items list k x kept stop same here short e has h =
    let P : List Source → Type 0 = λ xs. StopsAt (λ name. AtOne (IsAsked name) told 0 (map source_data xs))
    (λ refusal. AtOne (IsRefused told refusal) told 0 (map source_data xs)) (source_stopped stop) in
    let moved : StopsAtOne told (length kept.texts.items) (source_data x) stop =
    subst (λ t. StopsAtOne t (length kept.texts.items) (source_data x) stop) here h in
    subst P same (among told list k x kept (source_stopped stop) short e has moved)

pub more_there : (told now : Option FileMap) (list : List Source) (k : ℕ) (x : Source) (old new : Kept) → now ≡ told → k < length list
    → x ≡ get_or list k x → HasSources told (map source_data (take k list)) old
    → HasOneMore now (length old.texts.items) (source_data x) old new → HasSources told (map source_data (take (k + 1) list)) new
more_there told now list k x old new here short e has more =
    one_behind told list k x old new short e has (subst (λ t. HasOneMore t (length old.texts.items) (source_data x) old new) here more)

-- a stop that is passed on
pub passed_on : {T : Type 0} (P : SourceStop → Type 0) (r : Result T SourceStop) (stop : SourceStop) → IsErrAnd r (λ e. e ≡ stop) → P stop
    → IfErr r P
passed_on P (Ok value) stop is h = tt
passed_on P (Err e) stop is h = subst P (sym is) h

-- ---- the source that is put behind the others

pub put_behind : (told : Option FileMap) (n m : ℕ) (source : Source) (text : SourceText) (blocks : List BlockTree) (old new : Kept) → n ≡ m
    → string_bytes text.file ≡ string_bytes source.file → Holds told (string_bytes source.file) text.bytes.items
    → ReadsAs n (source_named text source.language) text.bytes.items blocks
    → map text_tree new.texts.items ≡ map text_tree old.texts.items ++ text_tree text ∷ []
    → block_trees new.blocks.list.items ≡ block_trees old.blocks.list.items ++ blocks
    → HasOneMore told m (source_data source) old new
put_behind told n m source text blocks old new count named held reads texts added =
    let same : source_named text source.language ≡ source_data source =
    ap (λ (file : List ℕ). record { file = file; language = source.language }) named in
    record {
      read = record { text = text_tree text; blocks = blocks };
      held = record {
        named = named;
        held = held;
        reads = subst (λ k. ReadsAs k (source_data source) text.bytes.items blocks) count
            (subst (λ s. ReadsAs n s text.bytes.items blocks) same reads);
      };
      texts = texts;
      blocks = added;
    }
