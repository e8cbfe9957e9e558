-- Going on with a build says one thing of the bytes.
use Rattle.std.specs.Prelude.{◌≡◌, ℕ, suc, ◌<◌, ◌≤◌, Option, Some, None, List, ◌++◌, length, take, drop, slice_get, get_or}
use Rattle.std.proofs.Common.{refl, sym, ◌∙◌, ap, subst, inl, inr, arith}
use Rattle.std.proofs.lemmas.Bool.{cases_order}
use Rattle.std.proofs.lemmas.List.{length-take, get_or-take, take-append-drop, take-append-le, length-append, get_or_append_left}
use Rattle.std.proofs.lemmas.Option.{slice_get_within, slice_get_read, slice_get-get_or, get_or_from_slice_get}
use Rattle.column_order.specs.Columns.{ColumnList}
use Rattle.table_model.specs.Conversion.{Converts}
use Rattle.table_model.specs.ListedSpan.{count_of}
use Rattle.table_model.specs.ReducedRows.{IsUnbroken, BreaksFirst}
use Rattle.table_model.specs.Faults.{IsNotInvertible, IsFirstWithout}
use Rattle.table_model.proofs.FirstFaults.{not_invertible_unique, not_invertible_word, first_break, first_without_unique}
use Rattle.page_codec.specs.declared.params.Params.{Params}
use Rattle.file_model.specs.TableOf.{IsTableOf}
use Rattle.page_codec.specs.declared.parts.ForwardEntry.{ForwardEntry}
use Rattle.page_codec.specs.declared.page.Page.{Page}
use Rattle.page_codec.specs.declared.page.Page.TheVariants.{Done}
use Rattle.page_file.specs.Files.{IsForeign, ReadsAs}
use Rattle.page_file.specs.Notes.{params_of}
use Rattle.file_model.specs.Resuming.{entries_of, kept_of, AllSuit, Suits, IsResumed}
use Rattle.file_model.specs.Builds.{Figures, Answer, work_from, GoesOn, FitsAt, HasParams, IsOurs, AreFigures, IsWorked, ResumeEnds}
use Rattle.file_model.specs.Builds.Answer.{Exists, Foreign, BadPage, Other, Misfit, NoInverseWord, NotForward, NoInverseRelation, DiffersAt, Built}
use Rattle.file_model.proofs.ParamColumns.{same_columns}
use Rattle.page_file.proofs.Reading.{sealed_unique, bad_page_unique, not_both}
use Rattle.file_model.proofs.TrueRows.{sums_table}
use Rattle.file_model.proofs.KeptPages.{entries_of-append}
use Rattle.file_model.proofs.Keeping.{one_resumed}

stage : Answer → ℕ
stage (Exists n) = 0
stage (Foreign n) = 0
stage (BadPage i) = 1
stage (Other q) = 2
stage (Misfit i) = 3
stage (NoInverseWord r u) = 4
stage (NotForward i) = 5
stage (NoInverseRelation r n) = 6
stage (DiffersAt i) = 7
stage (Built figures) = 8

-- the first entries suit where all do
suit_front : (m : ℕ) (es fs : List ForwardEntry) → AllSuit m (es ++ fs) → AllSuit m es
suit_front m es fs h i e at =
    let l : i < length es = slice_get_within es i e at in
    let there : slice_get (es ++ fs) i ≡ Some e = slice_get_read (es ++ fs) (length (es ++ fs)) i e refl (omega (arith, l, length-append es fs))
    (sym (get_or_append_left es fs e i l ∙ get_or_from_slice_get es i e e at)) in
    subst (λ xs. Suits m xs e) (take-append-le i es fs (omega (arith, l))) (h i e there)

pub suit_first : (m : ℕ) (pages : List Page) (k : ℕ) → AllSuit m (entries_of pages) → AllSuit m (entries_of (take k pages))
suit_first m pages k h = suit_front m (entries_of (take k pages)) (entries_of (drop k pages))
    (subst (AllSuit m) (sym (sym (entries_of-append (take k pages) (drop k pages)) ∙ ap entries_of (take-append-drop k pages))) h)

-- where the first pages are the sealed ones, none differs
none_differs : (sealed pages : List Page) → take (length sealed) pages ≡ sealed → (i : ℕ) → i < length sealed → slice_get sealed i ≡ slice_get pages i
none_differs sealed pages e i l =
    let d : Page = Done 0 in
    let long : length sealed ≤ length pages = omega (arith, ap length e, length-take (length sealed) pages) in
    slice_get-get_or sealed i d l ∙ ap (λ ps. Some (get_or ps i d)) (sym e) ∙ ap Some (get_or-take (length sealed) pages i d l)
    ∙ sym (slice_get-get_or pages i d (omega (arith, l, long)))

unfoldable pub unwrapped : Params → Option Params → Params
unwrapped d None = d
unwrapped d (Some q) = q

module _ (params : Params) (bytes : List ℕ) where
  abbrev Ends : Answer → Type 0
  Ends a = ResumeEnds params bytes a

  abbrev Reads : List Page → Type 0
  Reads s = ReadsAs s bytes

  one_sealed : (s t : List Page) → Reads s → Reads t → s ≡ t
  one_sealed s t a b = sealed_unique s t bytes a.sealed b.sealed

  -- the tests in their order
  record Passes (k : ℕ) : Type 0 where
    known : 0 < k → ¬ (IsForeign bytes)
    read : 1 < k → (s : List Page) × Reads s
    params_are : 2 < k → (s : List Page) → Reads s → HasParams params s
    fit : 3 < k → (s : List Page) → Reads s → (i : ℕ) → i < length s → FitsAt params s i
    converts : 4 < k → (columns : ColumnList) → IsTableOf params columns → Converts params.modulus columns
    suit : 5 < k → (s : List Page) → Reads s → AllSuit params.modulus (entries_of s)
    unbroken : 6 < k → (s : List Page) → Reads s → (columns : ColumnList) → IsTableOf params columns
        → IsUnbroken params.modulus columns ((work_from params columns s).sums) (count_of columns)
    same : 7 < k → (s pages : List Page) → Reads s → IsResumed params s pages → take (length s) pages ≡ s

  -- what our sealed pages pass
  ours_pass : (k : ℕ) (s : List Page) → k ≤ 4 → IsOurs params bytes s → Passes k
  ours_pass k s l o = record {
    known = λ _. let reads = o.reads in reads.known;
    read = λ _. (s, o.reads);
    params_are = λ _ t h. subst (HasParams params) (one_sealed s t o.reads h) o.params_are;
    fit = λ _ t h. subst (λ x. (i : ℕ) → i < length x → FitsAt params x i) (one_sealed s t o.reads h) o.fit;
    converts = λ x. absurd (omega arith);
    suit = λ x. absurd (omega arith);
    unbroken = λ x. absurd (omega arith);
    same = λ x. absurd (omega arith);
  }

  converts_too : (columns : ColumnList) → IsTableOf params columns → Converts params.modulus columns → (others : ColumnList) → IsTableOf params others
      → Converts params.modulus others
  converts_too columns of c others at = subst (Converts params.modulus) (same_columns params columns others of at) c

  unbroken_too : (s t : List Page) → s ≡ t → (columns others : ColumnList) → columns ≡ others
      → IsUnbroken params.modulus columns ((work_from params columns s).sums) (count_of columns)
      → IsUnbroken params.modulus others ((work_from params others t).sums) (count_of others)
  unbroken_too s t e columns others f h = subst (λ c. IsUnbroken params.modulus c ((work_from params c t).sums) (count_of c)) f
      (subst (λ x. IsUnbroken params.modulus columns ((work_from params columns x).sums) (count_of columns)) e h)

  -- our pages from which the work goes on
  going_pass : (k n : ℕ) (s : List Page) (columns : ColumnList) → k ≤ 6 → IsOurs params bytes s → GoesOn params columns s n → Passes k
  going_pass k n s columns l o g = let b = ours_pass 4 s (omega arith) o in record {
    known = λ _. let reads = o.reads in reads.known;
    read = λ _. (s, o.reads);
    params_are = λ _. b.params_are (omega arith);
    fit = λ _. b.fit (omega arith);
    converts = λ _ others at. converts_too columns g.are_columns g.converts others at;
    suit = λ _ t h. subst (λ x. AllSuit params.modulus (entries_of x)) (one_sealed s t o.reads h) g.suit;
    unbroken = λ x. absurd (omega arith);
    same = λ x. absurd (omega arith);
  }

  going_on_pass : (k : ℕ) (s : List Page) (columns : ColumnList) → k ≤ 7 → IsOurs params bytes s → GoesOn params columns s (count_of columns) → Passes k
  going_on_pass k s columns l o g = let b = going_pass 6 (count_of columns) s columns (omega arith) o g in record {
    known = λ _. let reads = o.reads in reads.known;
    read = λ _. (s, o.reads);
    params_are = λ _. b.params_are (omega arith);
    fit = λ _. b.fit (omega arith);
    converts = λ _. b.converts (omega arith);
    suit = λ _. b.suit (omega arith);
    unbroken = λ _ t h others at. unbroken_too s t (one_sealed s t o.reads h) columns others (same_columns params columns others g.are_columns at) g.unbroken;
    same = λ x. absurd (omega arith);
  }

  known_pass : ¬ (IsForeign bytes) → Passes 1
  known_pass known = record {
    known = λ _. known;
    read = λ l. absurd (omega arith);
    params_are = λ l. absurd (omega arith);
    fit = λ l. absurd (omega arith);
    converts = λ l. absurd (omega arith);
    suit = λ l. absurd (omega arith);
    unbroken = λ l. absurd (omega arith);
    same = λ l. absurd (omega arith);
  }

  read_pass : (s : List Page) → Reads s → Passes 2
  read_pass s r = record {
    known = λ _. r.known;
    read = λ _. (s, r);
    params_are = λ l. absurd (omega arith);
    fit = λ l. absurd (omega arith);
    converts = λ l. absurd (omega arith);
    suit = λ l. absurd (omega arith);
    unbroken = λ l. absurd (omega arith);
    same = λ l. absurd (omega arith);
  }

  header_pass : (s : List Page) → Reads s → HasParams params s → Passes 3
  header_pass s r has = record {
    known = λ _. r.known;
    read = λ _. (s, r);
    params_are = λ _ t h. subst (HasParams params) (one_sealed s t r h) has;
    fit = λ l. absurd (omega arith);
    converts = λ l. absurd (omega arith);
    suit = λ l. absurd (omega arith);
    unbroken = λ l. absurd (omega arith);
    same = λ l. absurd (omega arith);
  }

  converting_pass : (s : List Page) (columns : ColumnList) → IsOurs params bytes s → IsTableOf params columns → Converts params.modulus columns → Passes 5
  converting_pass s columns ours of c = let b = ours_pass 4 s (omega arith) ours in record {
    known = λ _. b.known (omega arith);
    read = λ _. b.read (omega arith);
    params_are = λ _. b.params_are (omega arith);
    fit = λ _. b.fit (omega arith);
    converts = λ _ others at. converts_too columns of c others at;
    suit = λ l. absurd (omega arith);
    unbroken = λ l. absurd (omega arith);
    same = λ l. absurd (omega arith);
  }

  same_pages_too : (s t pages others : List Page) → s ≡ t → IsResumed params s pages → IsResumed params t others → take (length s) pages ≡ s
      → take (length t) others ≡ t
  same_pages_too s t pages others at a b e =
      let moved : IsResumed params t pages = subst (λ x. IsResumed params x pages) at a in
      let one : pages ≡ others = one_resumed params t pages others moved b in
      subst (λ x. take (length x) others ≡ x) at (subst (λ x. take (length s) x ≡ s) one e)

  built_pass : (s pages : List Page) (columns : ColumnList) → IsWorked params bytes columns s pages → take (length s) pages ≡ s → Passes 8
  built_pass s pages columns w e =
      let ours = w.ours in
      let b = going_on_pass 7 s columns (omega arith) ours w.goes_on in
      record {
        known = λ _. b.known (omega arith);
        read = λ _. b.read (omega arith);
        params_are = λ _. b.params_are (omega arith);
        fit = λ _. b.fit (omega arith);
        converts = λ _. b.converts (omega arith);
        suit = λ _. b.suit (omega arith);
        unbroken = λ _. b.unbroken (omega arith);
        same = λ _ t others h r. same_pages_too s t pages others (one_sealed s t ours.reads h) w.resumed r e;
      }

  passes : (a : Answer) → Ends a → Passes (stage a)
  unfolding stage
  passes (Exists n) h = absurd h
  passes (Foreign n) h = record {
    known = λ l. absurd (omega arith);
    read = λ l. absurd (omega arith);
    params_are = λ l. absurd (omega arith);
    fit = λ l. absurd (omega arith);
    converts = λ l. absurd (omega arith);
    suit = λ l. absurd (omega arith);
    unbroken = λ l. absurd (omega arith);
    same = λ l. absurd (omega arith);
  }
  passes (BadPage i) h = known_pass h.0
  passes (Other q) (s, r, at, other) = read_pass s r
  passes (Misfit i) (s, r, has, first) = header_pass s r has
  passes (NoInverseWord r u) (s, columns, ours, of, is) = ours_pass 4 s (omega arith) ours
  passes (NotForward i) (s, columns, ours, of, c, is) = converting_pass s columns ours of c
  passes (NoInverseRelation r n) (s, columns, ours, on, few, breaks) = going_pass 6 n s columns (omega arith) ours on
  passes (DiffersAt i) (s, pages, columns, w, is) = going_on_pass 7 s columns (omega arith) w.ours w.goes_on
  passes (Built figures) (s, pages, columns, w, e, told) = built_pass s pages columns w e

  -- what passes the tests behind that of an answer does not have it
  fails : (a : Answer) → Ends a → (k : ℕ) → stage a < k → k ≤ 8 → Passes k → ⊥
  unfolding stage
  fails (Exists n) h k l b p = h
  fails (Foreign n) h k l b p = p.known (omega arith) h.0
  fails (BadPage i) h k l b p = let (s, is) = p.read (omega arith) in not_both s i bytes is.sealed h.1
  fails (Other q) (s, r, at, other) k l b p = other (p.params_are (omega arith) s r q at)
  fails (Misfit i) (s, r, has, first) k l b p = first.lacks (p.fit (omega arith) s r i first.below)
  fails (NoInverseWord r u) (s, columns, ours, of, is) k l b p = not_invertible_word params.modulus columns u r is (p.converts (omega arith) columns of)
  fails (NotForward i) (s, columns, ours, of, c, is) k l b p = is.lacks (suit_first params.modulus s (suc i) (p.suit (omega arith) s ours.reads))
  fails (NoInverseRelation r n) (s, columns, ours, on, few, breaks) k l b p =
      p.unbroken (omega arith) s ours.reads columns on.are_columns n few r breaks.0
  fails (DiffersAt i) (s, pages, columns, w, is) k l b p =
      let ours = w.ours in is.lacks (none_differs s pages (p.same (omega arith) s pages ours.reads w.resumed) i is.below)
  fails (Built figures) h k l b p = absurd (omega arith)

  bounded : (a : Answer) → stage a ≤ 8
  unfolding stage
  bounded (Exists n) = omega arith
  bounded (Foreign n) = omega arith
  bounded (BadPage i) = omega arith
  bounded (Other q) = omega arith
  bounded (Misfit i) = omega arith
  bounded (NoInverseWord r u) = omega arith
  bounded (NotForward i) = omega arith
  bounded (NoInverseRelation r n) = omega arith
  bounded (DiffersAt i) = omega arith
  bounded (Built figures) = omega arith

  one_stage : (a b : Answer) → Ends a → Ends b → stage a ≡ stage b
  one_stage a b ha hb = elim (cases_order (stage a) (stage b)) [
    | inl e ↦ e
    | inr o ↦ elim o [
      | inl l ↦ absurd (fails a ha (stage b) l (bounded b) (passes b hb))
      | inr l ↦ absurd (fails b hb (stage a) l (bounded a) (passes a ha))
    ]
  ]

  -- the pages of two ways to the end are the same, and so are the columns
  same_work : (s ps t qs : List Page) (c d : ColumnList) → IsWorked params bytes c s ps → IsWorked params bytes d t qs → (s ≡ t) × (ps ≡ qs) × (c ≡ d)
  same_work s ps t qs c d w v =
      let a = w.ours in let b = v.ours in let g = w.goes_on in let h = v.goes_on in
      let same : s ≡ t = one_sealed s t a.reads b.reads in
      (same, one_resumed params t ps qs (subst (λ x. IsResumed params x ps) same w.resumed) v.resumed, same_columns params c d g.are_columns h.are_columns)

  same_figures : (columns : ColumnList) (s ps : List Page) (f g : Figures) → AreFigures columns s ps f → AreFigures columns s ps g → f ≡ g
  same_figures columns s ps f g a b =
      let relations : f.relations ≡ g.relations = a.relations ∙ sym b.relations in
      let rows : f.rows ≡ g.rows = a.rows ∙ sym b.rows in
      let offered : f.offered ≡ g.offered = a.offered ∙ sym b.offered in
      let pages : f.pages ≡ g.pages = a.pages ∙ sym b.pages in
      λ i. record { relations = relations i; rows = rows i; offered = offered i; pages = pages i }

  agree : (a b : Answer) → stage a ≡ stage b → Ends a → Ends b → a ≡ b
  unfolding stage unwrapped
  agree (Exists n) b e ha hb = absurd ha
  agree (Foreign n) (Exists k) e ha hb = absurd hb
  agree (Foreign n) (Foreign k) e ha hb = ap Foreign (sym ha.1 ∙ hb.1)
  agree (BadPage i) (BadPage k) e ha hb = ap BadPage (bad_page_unique i k bytes ha.1 hb.1)
  agree (Other q) (Other r) e (s, is, at, os) (t, it, place, ot) =
      let both : Some q ≡ Some r = sym at ∙ ap params_of (one_sealed s t is it) ∙ place in
      ap Other (ap (λ (o : Option Params). unwrapped q o) both)
  agree (Misfit i) (Misfit k) e (s, is, ps, fs) (t, it, pt, ft) =
      ap Misfit (first_without_unique (FitsAt params t) (length t) i k
      (subst (λ x. IsFirstWithout (FitsAt params x) (length x) i) (one_sealed s t is it) fs) ft)
  agree (NoInverseWord r u) (NoInverseWord q v) e (s, cs, os, ofs, is) (t, ct, ot, oft, it) =
      let moved : IsNotInvertible params.modulus ct u r = subst (λ c. IsNotInvertible params.modulus c u r) (same_columns params cs ct ofs oft) is in
      let w : (u ≡ v) × (r ≡ q) = not_invertible_unique params.modulus ct u v r q moved it in
      λ i. NoInverseWord (w.1 i) (w.0 i)
  agree (NotForward i) (NotForward k) e (s, cs, os, ofs, c, is) (t, ct, ot, oft, d, it) =
      ap NotForward (first_without_unique (λ j. AllSuit params.modulus (entries_of (take (suc j) t))) (length t) i k
      (subst (λ x. IsFirstWithout (λ j. AllSuit params.modulus (entries_of (take (suc j) x))) (length x) i) (one_sealed s t os.reads ot.reads) is) it)
  agree (NoInverseRelation r n) (NoInverseRelation q k) e (s, cs, os, gs, ls, bs) (t, ct, ot, gt, lt, bt) =
      let m : ℕ = params.modulus in
      let of = gt.are_columns in
      let moved : BreaksFirst m ct ((work_from params ct t).sums) n r =
      subst (λ x. BreaksFirst m ct ((work_from params ct x).sums) n r) (one_sealed s t os.reads ot.reads)
      (subst (λ c. BreaksFirst m c ((work_from params c s).sums) n r) (same_columns params cs ct gs.are_columns gt.are_columns) bs) in
      let w : (n ≡ k) × (r ≡ q) =
      first_break m ct of.table ((work_from params ct t).sums) (sums_table m ct of.table gt.converts (kept_of t)) gt.converts n k r q moved bt in
      λ i. NoInverseRelation (w.1 i) (w.0 i)
  agree (DiffersAt i) (DiffersAt k) e (s, ps, cs, w, is) (t, pt, ct, v, it) =
      let (same, pages, columns) = same_work s ps t pt cs ct w v in
      ap DiffersAt (first_without_unique (λ j. slice_get t j ≡ slice_get pt j) (length t) i k
      (subst (λ x. IsFirstWithout (λ j. slice_get x j ≡ slice_get pt j) (length x) i) same
      (subst (λ y. IsFirstWithout (λ j. slice_get s j ≡ slice_get y j) (length s) i) pages is)) it)
  agree (Built f) (Built g) e (s, ps, cs, w, es, fs) (t, pt, ct, v, et, ft) =
      let (same, pages, columns) = same_work s ps t pt cs ct w v in
      ap Built (same_figures ct t pt f g (subst (λ c. AreFigures c t pt f) columns (subst (λ y. AreFigures cs t y f) pages
      (subst (λ x. AreFigures cs x ps f) same fs))) ft)
  agree a b e ha hb = absurd (omega (arith, e))

  pub one_answer : (a b : Answer) → Ends a → Ends b → a ≡ b
  one_answer a b ha hb = agree a b (one_stage a b ha hb) ha hb
