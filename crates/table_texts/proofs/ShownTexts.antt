-- The texts of parameters and of rows, as they are written piece by piece.
use Rattle.std.proofs.Common.{◌≡◌, ℕ, ◌+◌, ◌-◌, ◌<◌, ◌≤◌, ◌≢◌, Bool, true, false, List, [], ◌∷◌, ◌++◌, length, map, drop, get_or, slice_get, Option, Some, refl, sym, ap, subst, ◌∙◌, add-one, append_assoc, append-nil, arith}
use Rattle.std.specs.Prelude.{All, Result, Ok, Err, OnOk, is_ok, if◌then◌else◌, codes}
use Rattle.std.specs.List.{AllByRecursion}
use Rattle.std.proofs.Math.Seq.{drop-cons}
use Rattle.std.proofs.lemmas.Option.{get_or_from_slice_get}
use Rattle.std.proofs.lemmas.List.Elements.{All-head, All-tail, All-cons, All-nil, All-weaker}
use Rattle.zeta_model.specs.declared.Letter.{Letter}
use Rattle.zeta_model.specs.Indices.{word_text}
use Rattle.sparse_rows.specs.Entries.{IsRow, IsBelow}
use Rattle.zeta_model.specs.Words.{ends_with_y}
use Rattle.zeta_model.proofs.WordLemmas.{admissible-ends}
use Rattle.column_order.specs.Columns.{ColumnList, column_count}
use Rattle.column_order.specs.Ranks.{rank_of}
use Rattle.column_order.proofs.ColumnLists.{length-columns}
use Rattle.page_codec.specs.declared.params.Params.{Params}
use Rattle.page_codec.specs.declared.page.Page.{Page}
use Rattle.page_codec.specs.declared.page.Page.TheVariants.{Header, Forward, Final, Done}
use Rattle.page_codec.specs.Bounds.{Chain, IsPreferable, IsRowData, IsFinalEntry, IsPage}
use Rattle.page_codec.specs.Places.{AreBelow, FinalInTable, FitsPlace}
use Rattle.file_model.specs.TableOf.{IsTableOf}
use Rattle.page_codec.proofs.KnownRows.{row_increases}
use Rattle.page_codec.specs.declared.parts.FinalEntry.{FinalEntry}
use Rattle.page_rows.specs.Written.{written, AreResidues}
use Rattle.poly_print.specs.Polynomials.{monomial_text, row_text}
use Rattle.poly_print.proofs.TextLemmas.{behind_text, join-cons}
use Rattle.whole_runs.specs.FileTexts.{preferred_text, negated, row_line, row_lines}
use Rattle.table_texts.specs.Texts.{word_gap, IsShowable, CanShow}

-- what is still to be written of preferred words, the first of all or others
abbrev pub words_left : Bool → List (List Letter) → List ℕ
words_left true words = preferred_text words
words_left false words = behind_text 43 (map word_text words)

pub words_left-none : (first : Bool) → words_left first [] ≡ []
words_left-none true = refl
words_left-none false = refl

words_left-cons : (first : Bool) (u : List Letter) (us : List (List Letter))
    → words_left first (u ∷ us) ≡ word_gap first ++ (word_text u ++ words_left false us)
words_left-cons true u us = ap (λ text. 32 ∷ text) (join-cons 43 (word_text u) (map word_text us))
words_left-cons false u us = refl

-- one more is written
pub word_written : (first : Bool) (u : List Letter) (us : List (List Letter)) (out gone new whole : List ℕ) → gone ≡ out ++ word_gap first
    → new ≡ gone ++ word_text u → out ++ words_left first (u ∷ us) ≡ whole → new ++ words_left false us ≡ whole
word_written first u us out gone new whole a b h =
    ap (λ text. text ++ words_left false us) (b ∙ ap (λ text. text ++ word_text u) a)
    ∙ append_assoc (out ++ word_gap first) (word_text u) (words_left false us)
    ∙ append_assoc out (word_gap first) (word_text u ++ words_left false us)
    ∙ ap (λ text. out ++ text) (sym (words_left-cons first u us)) ∙ h

-- the elements from a place on begin with the one there
pub drop-next : {A : Type 0} (xs : List A) (i : ℕ) (d : A) → i < length xs → d ≡ get_or xs i d → drop i xs ≡ d ∷ drop (i + 1) xs
drop-next xs i d below is = drop-cons xs i d below ∙ (λ j. sym is j ∷ drop (sym (add-one i) j) xs)

pub drop-at : {A : Type 0} (xs : List A) (i : ℕ) (d : A) → i < length xs → slice_get xs i ≡ Some d → drop i xs ≡ d ∷ drop (i + 1) xs
drop-at xs i d below at = drop-next xs i d below (sym (get_or_from_slice_get xs i d d at))

-- one more row is written
pub line_written : (m : ℕ) (columns : List (List (List Letter))) (e : FinalEntry) (es : List FinalEntry) (out new whole : List ℕ)
    → new ≡ out ++ row_line m columns e.row → out ++ row_lines m columns (e ∷ es) ≡ whole → new ++ row_lines m columns es ≡ whole
line_written m columns e es out new whole is h =
    ap (λ text. text ++ row_lines m columns es) is ∙ append_assoc out (row_line m columns e.row) (row_lines m columns es) ∙ h

-- the negative of residues is one of residues
row_from : (low start : ℕ) (es : List (ℕ × ℕ)) → start ≤ low → IsRow (λ k. k) 0 low es → IsRow (λ k. k) 0 start es
row_from low start [] less r = tt
row_from low start (e ∷ es) less r = (omega (arith, r.0), r.1, r.2)

negated-row : (m low : ℕ) (es : List (ℕ × ℕ)) → IsRow (λ k. k) 0 low es → All (λ e. e.1 < m) es → IsRow (λ k. k) 0 low (negated m es)
negated-row m low [] r below = tt
negated-row m low (e ∷ es) r below =
    let P : ℕ × ℕ → Type 0 = λ e. e.1 < m in
    let first : e.1 < m = All-head P e es below in
    (r.0, (λ zero. absurd (omega (arith, first, zero))), negated-row m (e.0 + 1) es r.2 (All-tail P e es below))

negated-small : (m low : ℕ) (es : List (ℕ × ℕ)) → IsRow (λ k. k) 0 low es → All (λ e. e.1 < m) es → All (λ e. e.1 < m) (negated m es)
negated-small m low [] r below = All-nil (λ (e : ℕ × ℕ). e.1 < m)
negated-small m low (e ∷ es) r below =
    let P : ℕ × ℕ → Type 0 = λ e. e.1 < m in
    let first : e.1 < m = All-head P e es below in
    let some : e.1 ≢ 0 = r.1 in
    All-cons P (e.0, m - e.1) (negated m es) (omega arith) (negated-small m (e.0 + 1) es r.2 (All-tail P e es below))

pub negated-residues : (m : ℕ) (es : List (ℕ × ℕ)) → AreResidues (λ k. k) m es → AreResidues (λ k. k) m (negated m es)
negated-residues m es is = record { increasing = negated-row m 0 es is.increasing is.below; below = negated-small m 0 es is.increasing is.below }

-- so are those behind the first
pub residues_behind : (m : ℕ) (e : ℕ × ℕ) (es : List (ℕ × ℕ)) → AreResidues (λ k. k) m (e ∷ es) → AreResidues (λ k. k) m es
residues_behind m e es is = let r = is.increasing in
    record { increasing = row_from (e.0 + 1) 0 es (omega arith) r.2; below = All-tail (λ (e : ℕ × ℕ). e.1 < m) e es is.below }

pub negated-below : (m high : ℕ) (es : List (ℕ × ℕ)) → IsBelow (λ k. k) high es → IsBelow (λ k. k) high (negated m es)
negated-below m high [] below = tt
negated-below m high (e ∷ es) below = (below.0, negated-below m high es below.1)

-- one more is negated
pub negated-next : (m : ℕ) (e : ℕ × ℕ) (es done new whole : List (ℕ × ℕ)) → new ≡ done ++ (e.0, m - e.1) ∷ [] → done ++ negated m (e ∷ es) ≡ whole
    → new ++ negated m es ≡ whole
negated-next m e es done new whole is h =
    ap (λ xs. xs ++ negated m es) is ∙ append_assoc done ((e.0, m - e.1) ∷ []) (negated m es) ∙ h

module _ {E : Type 0} (value : E → ℕ) where
  pub written_below : (high : ℕ) (row : List (ℕ × E)) → IsBelow (λ k. k) high (written value row) → IsBelow (λ k. k) high row
  written_below high [] below = tt
  written_below high (e ∷ es) below = (below.0, written_below high es below.1)

  -- a row that is written as a negative has its bound
  pub negative_below : (m high : ℕ) (row : List (ℕ × E)) (es : List (ℕ × ℕ)) → written value row ≡ negated m es → IsBelow (λ k. k) high es
      → IsBelow (λ k. k) high row
  negative_below m high row es is below = written_below high row (subst (IsBelow (λ k. k) high) (sym is) (negated-below m high es below))

-- the row of a page
module _ (n m : ℕ) where
  abbrev Bounded : ℕ × ℕ → Type 0
  Bounded e = (e.0 < n) × (e.1 < m)

  pub row_residues : (row : List (ℕ × ℕ)) → IsRowData row → AreBelow n m row → AreResidues (λ k. k) m row
  row_residues row is below = record { increasing = row_increases row is; below = All-weaker Bounded (λ e. e.1 < m) (λ e b. b.1) row below }

  pub row_below : (row : List (ℕ × ℕ)) → AreBelow n m row → IsBelow (λ k. k) n row
  row_below [] below = tt
  row_below (e ∷ es) below = ((All-head Bounded e es below).0, row_below es (All-tail Bounded e es below))

-- preferred words end with y
pub preferred_end : (w d : ℕ) (before : Option (List Letter)) (words : List (List Letter))
    → Chain (λ before u. IsPreferable w d before u) (λ before u. Some u) before words → AllByRecursion (λ u. ends_with_y u ≡ true) words
preferred_end w d before [] chain = tt
preferred_end w d before (u ∷ us) chain = let first = chain.0 in (admissible-ends u first.admissible, preferred_end w d (Some u) us chain.1)

-- all are negated
pub negated-end : (m : ℕ) (rest done whole : List (ℕ × ℕ)) → length rest ≡ 0 → done ++ negated m rest ≡ whole → done ≡ whole
negated-end m [] done whole none h = sym (append-nil done) ∙ h
negated-end m (e ∷ es) done whole none h = absurd (omega arith)

-- where a text is written at the end of another, unless memory was wanting
pub on_ok_from : {T E : Type 0} (r : Result T E) (new done whole old : List ℕ) → done ≡ whole → new ≡ (if is_ok r then done else old)
    → OnOk r (new ≡ whole)
on_ok_from (Ok x) new done whole old same e = e ∙ same
on_ok_from (Err x) new done whole old same e = tt

-- the line of a row, from its pieces
pub row_line-pieces : (m : ℕ) (columns : List (List (List Letter))) (row : List (ℕ × ℕ)) (e : ℕ × ℕ) (es : List (ℕ × ℕ)) (p : List (List Letter))
    (text out a b c : List ℕ) → row ≡ e ∷ es → get_or columns e.0 [] ≡ p → a ≡ out ++ monomial_text p → b ≡ a ++ codes " = " → c ≡ b ++ text
    → text ≡ row_text columns (negated m es) → c ++ 10 ∷ [] ≡ out ++ row_line m columns row
row_line-pieces m columns row e es p text out a b c begins same is_a is_b is_c is_text =
    ap (λ t. t ++ 10 ∷ []) (is_c ∙ ap (λ t. t ++ text) (is_b ∙ ap (λ t. t ++ codes " = ") is_a))
    ∙ append_assoc ((out ++ monomial_text p) ++ codes " = ") text (10 ∷ [])
    ∙ append_assoc (out ++ monomial_text p) (codes " = ") (text ++ 10 ∷ [])
    ∙ append_assoc out (monomial_text p) (codes " = " ++ (text ++ 10 ∷ []))
    ∙ (λ i. out ++ (monomial_text (sym same i) ++ (codes " = " ++ (is_text i ++ 10 ∷ []))))
    ∙ ap (λ r. out ++ row_line m columns r) (sym begins)

-- the rows of a page that fits its place
module _ (params : Params) (n : ℕ) where
  all_showable : (count : ℕ) (entries : List FinalEntry) → count ≡ column_count params.weight params.depth
      → Chain (λ (s : Unit {0}) e. IsFinalEntry e) (λ s e. s) tt entries → AllByRecursion (FinalInTable params n) entries
      → AllByRecursion (IsShowable count params.modulus) entries
  all_showable count [] same are fit = tt
  all_showable count (e ∷ es) same are fit =
      let first : IsFinalEntry e = are.0 in
      let inside : FinalInTable params n e = fit.0 in
      (record { pairs = first.row; below = subst (λ k. AreBelow k params.modulus e.row) (sym same) inside.row }, all_showable count es same are.1 fit.1)

  pub can_show : (count : ℕ) (before : List Page) (page : Page) → count ≡ column_count params.weight params.depth → IsPage page
      → FitsPlace params n before page → CanShow count params.modulus page
  can_show count before (Header p) same is fits = tt
  can_show count before (Forward p) same is fits = tt
  can_show count before (Final p) same is fits = all_showable count p.entries same is.entries fits.entries
  can_show count before (Done rows) same is fits = tt

-- the columns of parameters are as many
pub columns_are : (params : Params) (columns : ColumnList) → IsTableOf params columns → length columns.list ≡ column_count params.weight params.depth
columns_are params columns of =
    let t = of.table in
    let limits = t.limits in
    length-columns (rank_of columns.preference) columns.weight columns.depth columns.list limits.least limits.most limits.some t.whole
    ∙ (λ i. column_count (of.weight i) (of.depth i))
