-- A forward page has one list of entries.
use Rattle.std.specs.Prelude.{◌≡◌, ℕ, suc, ◌+◌, ◌*◌, ◌<◌, List, length, map, get_or, slice_get, Some}
use Rattle.std.proofs.Common.{refl, sym, ap, subst, ◌∙◌, arith}
use Rattle.std.specs.List.{Contains}
use Rattle.std.specs.Ordering.{nat_cmp}
use Rattle.std.specs.Cmp.{IsTotalOrder, tied_itself}
use Rattle.std.specs.declared.cmp.Ordering.TheVariants.{Less, Equal}
use Rattle.std.proofs.lemmas.Cmp.{nat_cmp_total}
use Rattle.std.proofs.Math.ListN.{get_or-map}
use Rattle.std.proofs.lemmas.List.{same_lists, length-map}
use Rattle.std.proofs.lemmas.List.Elements.{Contains-get_or}
use Rattle.std.proofs.lemmas.Option.{slice_get-get_or}
use Rattle.column_order.specs.Columns.{ColumnList}
use Rattle.column_order.proofs.Distinct.{same_sorted}
use Rattle.zeta_model.proofs.ListLemmas.{contains-map}
use Rattle.table_model.specs.Conversion.{IsTable, Converts}
use Rattle.table_model.specs.ListedSpan.{count_of}
use Rattle.table_model.specs.ReducedRows.{IsForwardRow, IsAccepted, IsUnbroken}
use Rattle.table_model.proofs.ForwardRowLaws.{accepted_has_forward_row}
use Rattle.page_codec.specs.declared.parts.ForwardEntry.{ForwardEntry}
use Rattle.file_model.specs.Pages.{Work, IsWork, IsWritten, IsForwardBlock}
use Rattle.file_model.proofs.WrittenRows.{written_unique}

nat_irreflexive : (x : ℕ) → ¬ (nat_cmp x x ≡ Less)
nat_irreflexive x e = let i : nat_cmp x x ≡ Equal = tied_itself nat_cmp_total x in let n : Equal ≡ Less = sym i ∙ e in cc

module _ (m : ℕ) (columns : ColumnList) (work : Work) (is_work : IsWork m columns work) (table : IsTable m columns) (converts : Converts m columns) (b n : ℕ)
    (whole : IsUnbroken m columns work.sums n) where
  same_entry : (es fs : List ForwardEntry) → IsForwardBlock m columns work b es → IsForwardBlock m columns work b fs → (e f : ForwardEntry) (k : ℕ)
      → slice_get es k ≡ Some e → slice_get fs k ≡ Some f → e.number ≡ f.number → e.number < n → IsAccepted m columns work.sums e.number → e ≡ f
  same_entry es fs he hf e f k ae af same below accepted =
      let (p, forward) = accepted_has_forward_row m columns table work.sums is_work.sums converts e.number (whole e.number below) accepted in
      let we : IsWritten m columns work (suc e.number) p e.row e.combination = he.rows k e ae p forward in
      let wf : IsWritten m columns work (suc f.number) p f.row f.combination =
      hf.rows k f af p (subst (λ x. IsForwardRow m columns work.sums x p) same forward) in
      let r : (e.row ≡ f.row) × (e.combination ≡ f.combination) =
      written_unique m columns work is_work table converts (suc e.number) (λ j l. whole j (omega arith)) p p e.row f.row e.combination f.combination
      (λ j. refl) we (subst (λ x. IsWritten m columns work (suc x) p f.row f.combination) (sym same) wf) in
      λ i. record { number = same i; row = r.0 i; combination = r.1 i }

  -- the page of a block that lies below n
  pub forward_page_unique : ((j : ℕ) → j < 64 * b + 64 → j < count_of columns → j < n) → (es fs : List ForwardEntry) → IsForwardBlock m columns work b es
      → IsForwardBlock m columns work b fs → es ≡ fs
  forward_page_unique low es fs he hf =
      let number : ForwardEntry → ℕ = λ e. e.number in
      let t : IsTotalOrder nat_cmp = nat_cmp_total in
      let numbers : map number es ≡ map number fs =
      same_sorted nat_cmp nat_irreflexive t.trans (map number es) (map number fs) he.increasing hf.increasing (λ x c. (hf.whole x).1 ((he.whole x).0 c))
      (λ x c. (he.whole x).1 ((hf.whole x).0 c)) in
      let lengths : length es ≡ length fs = omega (arith, ap length numbers, length-map es number, length-map fs number) in
      same_lists es fs lengths (λ k d l.
      let e : ForwardEntry = get_or es k d in
      let f : ForwardEntry = get_or fs k d in
      let same : e.number ≡ f.number = sym (get_or-map number es k d) ∙ ap (λ xs. get_or xs k (number d)) numbers ∙ get_or-map number fs k d in
      let held : Contains (map number es) (number e) = contains-map number es e (Contains-get_or es k d l) in
      let facts = (he.whole (number e)).0 held in
      same_entry es fs he hf e f k (slice_get-get_or es k d l) (slice_get-get_or fs k d (omega arith)) same (low (number e) facts.2 facts.3) facts.0)
