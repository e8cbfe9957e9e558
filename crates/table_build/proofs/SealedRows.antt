-- The forward pages of a work: the page of a block, the entry of a number, and what is recorded beside it.
use Rattle.std.specs.Prelude.{◌≡◌, ℕ, zero, suc, ◌+◌, ◌*◌, ◌/◌, ◌%◌, ◌<◌, ◌≤◌, Some, List, [], ◌∷◌, ◌++◌, length, take, slice_get, get_or}
use Rattle.std.proofs.Common.{refl, sym, ◌∙◌, ap, subst, inl, inr, arith}
use Rattle.std.proofs.lemmas.Bool.{cases_lt}
use Rattle.std.proofs.lemmas.List.{length-append, append-nil, get_or_append_left}
use Rattle.std.proofs.lemmas.Option.{slice_get_within, get_or_from_slice_get}
use Rattle.zeta_model.proofs.ModularLemmas.{same-mod}
use Rattle.column_order.specs.Columns.{ColumnList}
use Rattle.column_order.proofs.Distinct.{Contains-from_map}
use Rattle.table_model.specs.Conversion.{Converts}
use Rattle.table_model.specs.ListedSpan.{count_of}
use Rattle.table_model.specs.ReducedRows.{IsAccepted, IsBrokenAt, IsForwardRow}
use Rattle.page_codec.specs.declared.params.Params.{Params}
use Rattle.page_codec.specs.declared.parts.ForwardEntry.{ForwardEntry}
use Rattle.page_codec.specs.declared.page.Page.{Page}
use Rattle.page_codec.specs.declared.page.Page.TheVariants.{Header, Done}
use Rattle.page_codec.specs.Places.{block_count}
use Rattle.file_model.specs.TableOf.{IsTableOf}
use Rattle.file_model.specs.Pages.{Work, IsWork, Pairs, pairs_of, IsWritten, IsRecorded, IsForwardBlock, AreForwardPages, ArePages, forward_page}
use Rattle.file_model.specs.Pages.ArePages.{none, begun, whole}
use Rattle.file_model.specs.Resuming.{combination_in}
use Rattle.file_model.proofs.KeptPages.{Found, found}
use Rattle.file_model.proofs.ListPlaces.{place_of}
use Rattle.file_model.proofs.Recorded.{recorded_more}
use Rattle.table_build.specs.Inner.{entries_on, sealed_combination}
use Rattle.file_model.proofs.Recorded.{recorded_same}

-- what stands among the first k
pub taken : {A : Type 0} (k i : ℕ) (xs : List A) → i < k → slice_get (take k xs) i ≡ slice_get xs i
taken zero i xs l = absurd (omega arith)
taken (suc k) i [] l = refl
taken (suc k) zero (x ∷ xs) l = refl
taken (suc k) (suc i) (x ∷ xs) l = taken k i xs (omega arith)

pub recorded_written : (m : ℕ) (columns : ColumnList) (work : Work) (n : ℕ) (p : ℕ → ℕ) (row combination : Pairs)
    → IsWritten m columns work n p row combination → IsRecorded m columns work n p (pairs_of combination)
recorded_written m columns work n p row combination w = let c = w.is_written in record {
  coefficients = w.coefficients;
  is_combination = w.is_combination;
  written = λ q. sym (same-mod m (work.beside w.coefficients q)) ∙ ap (λ x. x % m) (c.residues q);
}

pub recorded_later : (m : ℕ) (columns : ColumnList) (work : Work) (n k : ℕ) (p g : ℕ → ℕ) → n ≤ k → IsRecorded m columns work n p g
    → IsRecorded m columns work k p g
recorded_later m columns work n zero p g l r = subst (λ x. IsRecorded m columns work x p g) (let e : n ≡ zero = omega (arith, l) in e) r
recorded_later m columns work n (suc k) p g l r = elim (cases_lt n (suc k)) [
  | inl less ↦ recorded_more m columns work k p g (recorded_later m columns work n k p g (omega (arith, less)) r)
  | inr high ↦ subst (λ x. IsRecorded m columns work x p g) (let e : n ≡ suc k = omega (arith, l, high) in e) r
]

module _ (params : Params) (columns : ColumnList) (work : Work) (is_work : IsWork params.modulus columns work) (of : IsTableOf params columns)
    (converts : Converts params.modulus columns) (pages : List Page) where
  abbrev m : ℕ
  m = params.modulus

  -- the work is not broken in the blocks up to b
  abbrev pub UpTo : ℕ → Type 0
  UpTo b = (k : ℕ) → k < 64 * b + 64 → k < count_of columns → (residue : ℕ) → ¬ (IsBrokenAt m columns work.sums k residue)

  -- the page of a block stands at its place
  abbrev pub HasBlock : ℕ → Type 0
  HasBlock b = (entries : List ForwardEntry) × (slice_get pages (suc b) ≡ Some (forward_page (64 * b) entries)) × IsForwardBlock m columns work b entries

  among : (n b : ℕ) (f tail : List Page) → AreForwardPages m columns work n f → b < n → pages ≡ Header params ∷ (f ++ tail) → HasBlock b
  among n b f tail h l is =
      let (es, at, block) = h.each b l in
      let page : Page = forward_page (64 * b) es in
      let inside : b < length f = slice_get_within f b page at in
      let there : get_or (f ++ tail) b page ≡ page = get_or_append_left f tail page b inside ∙ get_or_from_slice_get f b page page at in
      let placed : slice_get (f ++ tail) b ≡ Some page = place_of (f ++ tail) b page (omega (arith, inside, length-append f tail)) there in
      (es, ap (λ ps. slice_get ps (suc b)) is ∙ placed, block)

  pub block_of : ArePages params columns work pages → (b : ℕ) → 64 * b < count_of columns → UpTo b → HasBlock b
  block_of (none a x) b few un = absurd (a converts)
  block_of (begun c n r l breaks f hf x) b few un = elim (cases_lt n (64 * b + 64)) [
    | inl low ↦ absurd (un n low l r breaks.0)
    | inr high ↦ among (n / 64) b f [] hf (omega (arith, high)) (x ∙ ap (λ qs. Header params ∷ qs) (sym (append-nil f)))
  ]
  block_of (whole c all count lead rows hr f g hf hg x) b few un =
      among (block_count (count_of columns)) b f (g ++ Done count ∷ []) hf (omega (arith, few)) x

  -- the entry of an accepted number of a block
  pub record IsEntryAt (n : ℕ) (es : List ForwardEntry) : Type 0 where
    pub entry : ForwardEntry
    pub place : ℕ
    pub at : slice_get es place ≡ Some entry
    pub number_is : entry.number ≡ n
    pub combination_is : (k : ℕ) → combination_in es n k ≡ pairs_of entry.combination k

  entry_at : (b n : ℕ) (es : List ForwardEntry) → IsForwardBlock m columns work b es → IsAccepted m columns work.sums n → 64 * b ≤ n → n < 64 * b + 64
      → n < count_of columns → Found es n → IsEntryAt n es
  entry_at b n es block accepted low high few (inl (e, (i, l, at), is, row, combination)) = record {
    entry = e;
    place = i;
    at = place_of es i e l at;
    number_is = is;
    combination_is = combination;
  }
  entry_at b n es block accepted low high few (inr (nowhere, row, combination)) =
      let (e, c, is) = Contains-from_map (λ (e : ForwardEntry). e.number) es n ((block.whole n).1 (accepted, low, high, few)) in
      absurd (nowhere e c is)

  -- beside a forward row stands what is recorded for it
  pub sealed_recorded : ArePages params columns work pages → (k n : ℕ) (p : ℕ → ℕ) → 1 + n / 64 < k → UpTo (n / 64) → IsAccepted m columns work.sums n
      → n < count_of columns → IsForwardRow m columns work.sums n p → IsRecorded m columns work (suc n) p (sealed_combination (take k pages) n)
  sealed_recorded are k n p inside un accepted few forward =
      let b : ℕ = n / 64 in
      let (es, stands, block) = block_of are b (omega (arith, few)) un in
      let there = entry_at b n es block accepted (omega arith) (omega arith) few (found es n) in
      let e : ForwardEntry = there.entry in
      let own : IsForwardRow m columns work.sums e.number p = subst (λ x. IsForwardRow m columns work.sums x p) (sym there.number_is) forward in
      let written : IsWritten m columns work (suc n) p e.row e.combination =
      subst (λ x. IsWritten m columns work (suc x) p e.row e.combination) there.number_is (block.rows there.place e there.at p own) in
      let place : slice_get (take k pages) (1 + b) ≡ Some (forward_page (64 * b) es) =
      taken k (1 + b) pages inside ∙ ap (slice_get pages) (let z : 1 + b ≡ suc b = omega arith in z) ∙ stands in
      recorded_same m columns work (suc n) p p (pairs_of e.combination) (sealed_combination (take k pages) n) (λ q. refl)
      (λ q. ap (λ x. x % m) (sym (ap (λ page. combination_in (entries_on page) n q) place ∙ there.combination_is q)))
      (recorded_written m columns work (suc n) p e.row e.combination written)
