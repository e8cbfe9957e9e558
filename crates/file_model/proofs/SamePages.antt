-- Work that goes on from true rows has the pages of the work on the listed relations.
use Rattle.std.specs.Prelude.{◌≡◌, ℕ, suc, ◌+◌, ◌*◌, ◌/◌, ◌<◌, ◌≤◌, Some, List, slice_get}
use Rattle.std.proofs.Common.{subst, inl, inr, arith}
use Rattle.std.specs.List.{Contains}
use Rattle.std.proofs.lemmas.Bool.{cases_lt}
use Rattle.std.proofs.lemmas.List.Elements.{Contains-get_or}
use Rattle.std.proofs.lemmas.Option.{slice_get_within, get_or_from_slice_get}
use Rattle.zeta_model.specs.Sums.{Sum}
use Rattle.column_order.specs.Columns.{ColumnList}
use Rattle.zeta_model.proofs.ListLemmas.{contains-map}
use Rattle.table_model.specs.Conversion.{IsTable, Converts}
use Rattle.table_model.specs.ListedSpan.{count_of}
use Rattle.table_model.specs.ReducedRows.{IsUnbroken}
use Rattle.page_codec.specs.declared.params.Params.{Params}
use Rattle.file_model.specs.TableOf.{IsTableOf}
use Rattle.page_codec.specs.declared.parts.ForwardEntry.{ForwardEntry}
use Rattle.page_codec.specs.declared.page.Page.{Page}
use Rattle.file_model.specs.Pages.{Work, IsForwardBlock, AreForwardPages, AreFinalPages, ArePages, listed_work, numbers_of}
use Rattle.file_model.specs.Pages.ArePages.{none, begun, whole}
use Rattle.file_model.specs.Resuming.{Kept, resumed_work}
use Rattle.file_model.proofs.TrueRows.{IsTrueKept, vals, work}
use Rattle.file_model.proofs.SameWork.{rows_to, accepted_to, accepted_from, forward_from, broken_to, unbroken_to}
use Rattle.file_model.proofs.SameCombinations.{written_to}

-- the number of an entry stands among the numbers
pub number_stands : (es : List ForwardEntry) (i : ℕ) (e : ForwardEntry) → slice_get es i ≡ Some e → Contains (numbers_of es) e.number
number_stands es i e at = contains-map (λ (f : ForwardEntry). f.number) es e
    (subst (Contains es) (get_or_from_slice_get es i e e at) (Contains-get_or es i e (slice_get_within es i e at)))

module _ (m : ℕ) (columns : ColumnList) (table : IsTable m columns) (converts : Converts m columns) (kept : Kept) (true : IsTrueKept m columns kept) where
  abbrev V : ℕ → Sum
  V = vals m columns table converts kept

  abbrev W : Work
  W = work m columns table converts kept

  forward_page_to : (n b : ℕ) → IsUnbroken m columns V n → ((j : ℕ) → j < 64 * b + 64 → j < count_of columns → j < n) → (es : List ForwardEntry)
      → IsForwardBlock m columns (listed_work m columns) b es → IsForwardBlock m columns W b es
  forward_page_to n b un low es h = record {
    increasing = h.increasing;
    whole = λ k. (
      λ c. let (is, from, to, few) = (h.whole k).0 c in (accepted_to m columns table converts kept true k is, from, to, few),
      λ (is, from, to, few). (h.whole k).1 (accepted_from m columns table converts kept true k is, from, to, few),
    );
    rows = λ i e at p g.
        let (is, from, to, few) = (h.whole e.number).0 (number_stands es i e at) in
        let below : e.number < n = low e.number to few in
        written_to m columns table converts kept true (suc e.number) (omega (arith, few)) (λ k l. un k (omega (arith, below))) p e.row e.combination
        (h.rows i e at p (forward_from m columns table converts kept true e.number p g));
  }

  forward_pages_to : (n k : ℕ) → IsUnbroken m columns V n → ((b j : ℕ) → b < k → j < 64 * b + 64 → j < count_of columns → j < n) → (ps : List Page)
      → AreForwardPages m columns (listed_work m columns) k ps → AreForwardPages m columns W k ps
  forward_pages_to n k un low ps h = record {
    as_many = h.as_many;
    each = λ b l. let (es, at, is) = h.each b l in
        (es, at, forward_page_to n b un (λ j. low b j l) es is);
  }

  final_pages_to : IsUnbroken m columns V (count_of columns) → (count : ℕ) (rows : ℕ → ℕ → ℕ) (ps : List Page)
      → AreFinalPages m columns (listed_work m columns) count rows ps → AreFinalPages m columns W count rows ps
  final_pages_to un count rows ps h = record {
    as_many = h.as_many;
    each = λ i l. let (es, at, is) = h.each i l in (
      es,
      at,
      record {
        as_many = is.as_many;
        rows_are = λ j e place. written_to m columns table converts kept true (count_of columns) (omega arith) un (rows (64 * i + j)) e.row e.combination
            (is.rows_are j e place);
      },
    );
  }

pub pages_to : (params : Params) (columns : ColumnList) → IsTableOf params columns → (kept : Kept)
    → (Converts params.modulus columns → IsTrueKept params.modulus columns kept) → (ps : List Page)
    → ArePages params columns (listed_work params.modulus columns) ps → ArePages params columns (resumed_work params.modulus columns kept) ps
pages_to params columns of kept true ps (none a x) = none a x
pages_to params columns of kept true ps (begun c n r l b f hf x) =
    let m : ℕ = params.modulus in
    let t : IsTrueKept m columns kept = true c in
    let high : kept.below ≤ n = elim (cases_lt n kept.below) [
      | inl low ↦ absurd (t.unbroken n low r b.0)
      | inr h ↦ h
    ] in
    begun c n r l (broken_to m columns of.table c kept t n r high b.0, unbroken_to m columns of.table c kept t n b.1) f
    (forward_pages_to m columns of.table c kept t n (n / 64) b.1 (λ b j lb lj _. omega arith) f hf) x
pages_to params columns of kept true ps (whole c un count lead rows h f g hf hg x) =
    let m : ℕ = params.modulus in
    let t : IsTrueKept m columns kept = true c in
    whole c (unbroken_to m columns of.table c kept t (count_of columns) un) count lead rows
    (rows_to m columns of.table c kept t (count_of columns) count lead rows h) f g
    (forward_pages_to m columns of.table c kept t (count_of columns) ((count_of columns + 63) / 64) un (λ b j lb lj ln. ln) f hf)
    (final_pages_to m columns of.table c kept t un count rows g hg) x
