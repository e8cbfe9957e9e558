-- Work that goes on from the first pages of parameters has the pages of the parameters.
use Rattle.std.specs.Prelude.{◌≡◌, ℕ, zero, suc, ◌+◌, ◌-◌, ◌*◌, ◌/◌, ◌<◌, Some, List, [], ◌∷◌, ◌++◌, length, take, get_or, min}
use Rattle.std.proofs.Common.{refl, sym, ◌∙◌, ap, subst, inl, inr, arith}
use Rattle.std.specs.List.{AllByRecursion}
use Rattle.std.proofs.lemmas.Bool.{cases_lt}
use Rattle.std.proofs.lemmas.List.{length-take, get_or-take, take-append-le, take_all, append-nil}
use Rattle.std.proofs.Math.Seq.{take-append-add}
use Rattle.std.proofs.lemmas.Option.{slice_get_read, get_or_from_slice_get}
use Rattle.column_order.specs.Columns.{ColumnList}
use Rattle.table_model.specs.Conversion.{IsTable, Converts}
use Rattle.table_model.specs.ListedSpan.{values_of, count_of}
use Rattle.table_model.specs.ReducedRows.{IsBrokenAt}
use Rattle.page_codec.specs.declared.params.Params.{Params}
use Rattle.file_model.specs.TableOf.{IsTableOf}
use Rattle.page_codec.specs.declared.page.Page.{Page}
use Rattle.file_model.specs.Pages.{IsForwardBlock, AreForwardPages, AreFinalPages, ArePages, listed_work, forward_page, final_page}
use Rattle.page_codec.specs.declared.page.Page.TheVariants.{Header, Done}
use Rattle.file_model.specs.Pages.ArePages.{none, begun, whole}
use Rattle.file_model.specs.Resuming.{Kept, entries_of_page, blocks_of_page, entries_of, blocks_of, row_in, combination_in, kept_of, resumed_work, IsResumed}
use Rattle.file_model.specs.Prefixes.{IsPages}
use Rattle.file_model.proofs.ListPlaces.{all_from_places, all_append, all_take}
use Rattle.file_model.proofs.OnePages.{pages_unique}
use Rattle.file_model.proofs.ParamColumns.{same_columns}
use Rattle.file_model.proofs.TrueRows.{IsTrueKept, is_resumed_work}
use Rattle.file_model.proofs.SamePages.{pages_to}
use Rattle.file_model.proofs.KeptPages.{FromBlock, entries_of-append, blocks_of-append, blocks_are, kept_is_true}

-- pages that keep nothing
abbrev pub IsPlain : Page → Type 0
IsPlain p = (entries_of_page p ≡ []) × (blocks_of_page p ≡ 0)

pub plain_entries : (ps : List Page) → AllByRecursion IsPlain ps → entries_of ps ≡ []
plain_entries [] h = refl
plain_entries (p ∷ ps) h = (λ i. h.0.0 i ++ entries_of ps) ∙ plain_entries ps h.1

pub plain_blocks : (ps : List Page) → AllByRecursion IsPlain ps → blocks_of ps ≡ 0
plain_blocks [] h = refl
plain_blocks (p ∷ ps) h = omega (arith, h.0.1, plain_blocks ps h.1)

module _ (m : ℕ) (columns : ColumnList) (table : IsTable m columns) (converts : Converts m columns) where
  abbrev Unbroken : ℕ → Type 0
  Unbroken b = (k : ℕ) → k < 64 * b → k < count_of columns → (residue : ℕ) → ¬ (IsBrokenAt m columns (values_of m columns) k residue)

  -- the first forward pages are forward pages
  first_blocks : (n j : ℕ) (fs : List Page) → AreForwardPages m columns (listed_work m columns) n fs → FromBlock m columns (listed_work m columns) 0 (take j fs)
  first_blocks n j fs h k l =
      let long : length (take j fs) ≡ min j (length fs) = length-take j fs in
      let (es, at, is) = h.each k (omega (arith, l, long, h.as_many)) in
      let zero_more : k ≡ 0 + k = omega arith in
      let page : Page = forward_page (64 * k) es in
      let there : get_or (take j fs) k page ≡ page = get_or-take j fs k page (omega (arith, l, long)) ∙ get_or_from_slice_get fs k page page at in (
        es,
        slice_get_read (take j fs) (length (take j fs)) k page refl l (sym there) ∙ ap (λ x. Some (forward_page (64 * x) es)) zero_more,
        subst (λ x. IsForwardBlock m columns (listed_work m columns) x es) zero_more is,
      )

  -- pages that keep what these forward pages keep
  keeps : (pages fs : List Page) → FromBlock m columns (listed_work m columns) 0 fs → Unbroken (length fs) → entries_of pages ≡ entries_of fs
      → blocks_of pages ≡ blocks_of fs → IsTrueKept m columns (kept_of pages)
  keeps pages fs h un e b =
      let blocks : blocks_of pages ≡ length fs = b ∙ blocks_are m columns table converts 0 fs h in
      let same : kept_of pages ≡ record { below = 64 * length fs; rows = row_in (entries_of fs); combinations = combination_in (entries_of fs) } =
      λ i. record { below = 64 * blocks i; rows = row_in (e i); combinations = combination_in (e i) } in
      subst (IsTrueKept m columns) (sym same) (kept_is_true m columns table converts fs h un)

  -- the header, some of the forward pages, and some of the pages behind them
  keeps_first : (n : ℕ) (params : Params) (fs tail : List Page) → AreForwardPages m columns (listed_work m columns) n fs → AllByRecursion IsPlain tail
      → Unbroken n → (k : ℕ) → IsTrueKept m columns (kept_of (take k (Header params ∷ (fs ++ tail))))
  keeps_first n params fs tail h plain un zero = keeps [] [] (λ k l. absurd (omega arith)) (λ k l. absurd (omega arith)) refl refl
  keeps_first n params fs tail h plain un (suc j) = elim (cases_lt (length fs) j) [
    | inr few ↦
        let part : take j (fs ++ tail) ≡ take j fs = take-append-le j fs tail few in
        keeps (Header params ∷ take j (fs ++ tail)) (take j fs) (first_blocks n j fs h) (λ k l. un k (omega (arith, l, length-take j fs, h.as_many)))
        (ap entries_of part) (ap (λ ps. 0 + blocks_of ps) part ∙ omega arith)
    | inl many ↦
        let i : ℕ = j - length fs in
        let size : j ≡ length fs + i = omega (arith, many) in
        let part : take j (fs ++ tail) ≡ fs ++ take i tail = ap (λ x. take x (fs ++ tail)) size ∙ take-append-add fs tail i in
        let rest : AllByRecursion IsPlain (take i tail) = all_take IsPlain i tail plain in
        let all : take (length fs) fs ≡ fs = take_all (length fs) fs (omega arith) in
        keeps (Header params ∷ take j (fs ++ tail)) fs (subst (FromBlock m columns (listed_work m columns) 0) all (first_blocks n (length fs) fs h))
        (λ k l. un k (omega (arith, l, h.as_many)))
        (ap entries_of part ∙ entries_of-append fs (take i tail) ∙ ap (λ es. entries_of fs ++ es) (plain_entries (take i tail) rest)
        ∙ append-nil (entries_of fs))
        (omega (arith, ap blocks_of part, blocks_of-append fs (take i tail), plain_blocks (take i tail) rest))
  ]

pub final_plain : (m : ℕ) (columns : ColumnList) (count : ℕ) (rows : ℕ → ℕ → ℕ) (gs : List Page)
    → AreFinalPages m columns (listed_work m columns) count rows gs
    → AllByRecursion IsPlain gs
final_plain m columns count rows gs h = all_from_places IsPlain gs (λ k l. let (es, at, is) = h.each k l in (final_page (64 * k) es, at, (refl, refl)))

-- what the first k pages of the parameters keep is true
pub first_pages_keep : (params : Params) (columns : ColumnList) → IsTableOf params columns → (ps : List Page)
    → ArePages params columns (listed_work params.modulus columns) ps → (k : ℕ) → Converts params.modulus columns
    → IsTrueKept params.modulus columns (kept_of (take k ps))
first_pages_keep params columns of ps (none a x) k c = absurd (a c)
first_pages_keep params columns of ps (begun c n r l b f hf x) k d =
    let m : ℕ = params.modulus in
    let same : ps ≡ Header params ∷ (f ++ []) = x ∙ ap (λ qs. Header params ∷ qs) (sym (append-nil f)) in
    subst (λ qs. IsTrueKept m columns (kept_of (take k qs))) (sym same)
    (keeps_first m columns of.table c (n / 64) params f [] hf tt (λ i li few residue. b.1 i (omega (arith, li)) residue) k)
first_pages_keep params columns of ps (whole c un count lead rows h f g hf hg x) k d =
    let m : ℕ = params.modulus in
    subst (λ qs. IsTrueKept m columns (kept_of (take k qs))) (sym x)
    (keeps_first m columns of.table c ((count_of columns + 63) / 64) params f (g ++ Done count ∷ []) hf
    (all_append IsPlain g (Done count ∷ []) (final_plain m columns count rows g hg) ((refl, refl), tt)) (λ i li few residue. un i few residue) k)

-- work that goes on from the first pages has all the pages
pub resumed_pages : (params : Params) (pages : List Page) → IsPages params pages → (k : ℕ) → IsResumed params (take k pages) pages
resumed_pages params pages h k = record {
  columns = h.columns;
  are_columns = h.are_columns;
  are_pages = pages_to params h.columns h.are_columns (kept_of (take k pages))
      (first_pages_keep params h.columns h.are_columns pages h.are_pages k) pages h.are_pages;
}

-- work that goes on from pages has one list of pages
pub one_resumed : (params : Params) (sealed ps qs : List Page) → IsResumed params sealed ps → IsResumed params sealed qs → ps ≡ qs
one_resumed params sealed ps qs a b =
    let m : ℕ = params.modulus in
    let kept : Kept = kept_of sealed in
    let e : a.columns ≡ b.columns = same_columns params a.columns b.columns a.are_columns b.are_columns in
    let moved : ArePages params b.columns (resumed_work m b.columns kept) ps = subst (λ c. ArePages params c (resumed_work m c kept) ps) e a.are_pages in
    one b.columns b.are_columns moved b.are_pages
  where
    one : (columns : ColumnList) → IsTableOf params columns → ArePages params columns (resumed_work params.modulus columns (kept_of sealed)) ps
        → ArePages params columns (resumed_work params.modulus columns (kept_of sealed)) qs → ps ≡ qs
    one columns of (none x e) (none y f) = e ∙ sym f
    one columns of (none x e) (begun c n r l b f hf y) = absurd (x c)
    one columns of (none x e) (whole c un count lead rows h f g hf hg y) = absurd (x c)
    one columns of (begun c n r l b f hf y) q = pages_unique params columns (resumed_work params.modulus columns (kept_of sealed))
        (is_resumed_work params.modulus columns of.table c (kept_of sealed)) of ps qs (begun c n r l b f hf y) q
    one columns of (whole c un count lead rows h f g hf hg y) q =
        pages_unique params columns (resumed_work params.modulus columns (kept_of sealed))
        (is_resumed_work params.modulus columns of.table c (kept_of sealed)) of ps qs (whole c un count lead rows h f g hf hg y) q

-- so the pages of the parameters are those that work gives which goes on from the first of them
pub resumed_is : (params : Params) (pages others : List Page) (k : ℕ) → IsPages params pages → IsResumed params (take k pages) others → others ≡ pages
resumed_is params pages others k h r = one_resumed params (take k pages) others pages r (resumed_pages params pages h k)
