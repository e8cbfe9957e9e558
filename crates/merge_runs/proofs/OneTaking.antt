-- Files are taken in one way, and the first that is refused is one, for one cause.
use Rattle.std.specs.Prelude.{◌≡◌, ℕ, suc, List, [], ◌∷◌, ◌++◌, length}
use Rattle.std.proofs.Common.{refl, sym, ◌∙◌, ap, subst, inl, inr, arith}
use Rattle.column_order.specs.Columns.{ColumnList}
use Rattle.page_codec.specs.declared.params.Params.{Params}
use Rattle.table_model.specs.Conversion.{Converts}
use Rattle.table_model.specs.Faults.{Verdict}
use Rattle.table_model.specs.Faults.Verdict.{Whole, NoInverse, BadRow, NotReduced, Missing}
use Rattle.file_model.specs.TableOf.{IsTableOf}
use Rattle.share_model.specs.declared.share.Share.{Share}
use Rattle.share_model.specs.Shares.{IsFoundOf, share_lead, share_row, share_combination}
use Rattle.share_file.proofs.Shares.{one_share}
use Rattle.merge_program.specs.declared.words.TableWords.{TableWords}
use Rattle.merge_runs.specs.Files.{AreOfShare, AreUnreadable}
use Rattle.merge_runs.specs.Taking.{Belongs, IsCounted, Takes, TakesAll, Why, IsFault, IsRefused}
use Rattle.merge_runs.specs.Taking.Takes.{counts, repeats}
use Rattle.merge_runs.specs.Taking.Why.{Unreadable, Other, Found}
use Rattle.merge_runs.proofs.OneVerdict.{verdict_once}

-- the bytes are those of one share
pub file_share : (file : List ℕ) (s t : Share) → AreOfShare file s → AreOfShare file t → s ≡ t
file_share file s t x y = one_share s t x.is_share y.is_share (sym x.spelling ∙ y.spelling)

pub readable : (file : List ℕ) (s : Share) → AreOfShare file s → ¬ (AreUnreadable file)
readable file s is (inl many) = let few = is.few in omega arith
readable file s is (inr none) = none s is.is_share is.spelling

-- what is taken, or is refused for its rows, is a result or is none
fault_is_none : (v : Verdict) → IsFault v → v ≡ Whole → ⊥
fault_is_none Whole f e = f
fault_is_none (NoInverse u r) f e = f
fault_is_none (BadRow i) f e = cc
fault_is_none (NotReduced i) f e = cc
fault_is_none (Missing n rest) f e = cc

module _ (merge : TableWords) (columns : ColumnList) (of : IsTableOf merge.params columns) (converts : Converts merge.params.modulus columns) where
  found_once : (s : Share) → Belongs merge s → (v w : Verdict) → IsFoundOf s v → IsFoundOf s w → v ≡ w
  found_once s belongs v w x y =
      let here : IsTableOf s.params columns = subst (λ (p : Params). IsTableOf p columns) (sym belongs.params) of in
      let has : Converts s.params.modulus columns = subst (λ (p : Params). Converts p.modulus columns) (sym belongs.params) converts in
      verdict_once s.params.modulus columns here.table has s.id.index s.id.of (length s.rows) (share_lead s) (share_row s) (share_combination s) v w
      (x columns here) (y columns here)

  -- a file is taken in one way
  pub takes_once : (counted : List Share) (file : List ℕ) (v w : List Share) → Takes merge counted file v → Takes merge counted file w → v ≡ w
  takes_once counted file v w (counts s is belongs new whole x) (counts t other its fresh result y) =
      x ∙ ap (λ (a : Share). counted ++ a ∷ []) (file_share file s t is other) ∙ sym y
  takes_once counted file v w (counts s is belongs new whole x) (repeats t other its there y) =
      absurd (new (subst (λ (a : Share). IsCounted counted a.id.index) (file_share file t s other is) there))
  takes_once counted file v w (repeats s is belongs there x) (counts t other its fresh result y) =
      absurd (fresh (subst (λ (a : Share). IsCounted counted a.id.index) (file_share file s t is other) there))
  takes_once counted file v w (repeats s is belongs there x) (repeats t other its again y) = x ∙ sym y

  -- and is then not refused
  pub not_refused : (counted : List Share) (file : List ℕ) (v : List Share) → Takes merge counted file v → (why : Why)
      → ¬ (IsRefused merge counted file why)
  not_refused counted file v (counts s is belongs new whole x) Unreadable y = readable file s is y
  not_refused counted file v (repeats s is belongs there x) Unreadable y = readable file s is y
  not_refused counted file v (counts s is belongs new whole x) Other (t, other, strange) =
      strange (subst (Belongs merge) (file_share file s t is other) belongs)
  not_refused counted file v (repeats s is belongs there x) Other (t, other, strange) =
      strange (subst (Belongs merge) (file_share file s t is other) belongs)
  not_refused counted file v (counts s is belongs new whole x) (Found verdict) (t, other, its, fresh, found, fault) =
      fault_is_none verdict fault (found_once t its verdict Whole found (subst (λ a. IsFoundOf a Whole) (file_share file s t is other) whole))
  not_refused counted file v (repeats s is belongs there x) (Found verdict) (t, other, its, fresh, found, fault) =
      fresh (subst (λ (a : Share). IsCounted counted a.id.index) (file_share file s t is other) there)

  -- a file is refused for one cause
  pub refused_once : (counted : List Share) (file : List ℕ) (a b : Why) → IsRefused merge counted file a → IsRefused merge counted file b → a ≡ b
  refused_once counted file Unreadable Unreadable x y = refl
  refused_once counted file Unreadable Other x (t, is, strange) = absurd (readable file t is x)
  refused_once counted file Unreadable (Found w) x (t, is, its, fresh, found, fault) = absurd (readable file t is x)
  refused_once counted file Other Unreadable (s, is, strange) y = absurd (readable file s is y)
  refused_once counted file Other Other x y = refl
  refused_once counted file Other (Found w) (s, is, strange) (t, other, its, fresh, found, fault) =
      absurd (strange (subst (Belongs merge) (file_share file t s other is) its))
  refused_once counted file (Found v) Unreadable (s, is, belongs, new, found, fault) y = absurd (readable file s is y)
  refused_once counted file (Found v) Other (s, is, belongs, new, found, fault) (t, other, strange) =
      absurd (strange (subst (Belongs merge) (file_share file s t is other) belongs))
  refused_once counted file (Found v) (Found w) (s, is, belongs, new, found, fault) (t, other, its, fresh, judged, wrong) =
      ap Found (found_once s belongs v w found (subst (λ a. IsFoundOf a w) (file_share file t s other is) judged))

  pub takes_all_once : (counted : List Share) (files : List (List ℕ)) (v w : List Share) → TakesAll merge counted files v → TakesAll merge counted files w
      → v ≡ w
  takes_all_once counted [] v w x y = x ∙ sym y
  takes_all_once counted (file ∷ files) v w (a, first, x) (b, other, y) =
      let same : b ≡ a = takes_once counted file b a other first in
      takes_all_once a files v w x (subst (λ c. TakesAll merge c files w) same y)

  -- files behind one that is refused are not taken
  pub not_all : (counted : List Share) (front : List (List ℕ)) (file : List ℕ) (rest : List (List ℕ)) (new all : List Share) (why : Why)
      → TakesAll merge counted front new → IsRefused merge new file why → ¬ (TakesAll merge counted (front ++ file ∷ rest) all)
  not_all counted [] file rest new all why x refused (a, first, y) =
      not_refused counted file a first why (subst (λ c. IsRefused merge c file why) x refused)
  not_all counted (next ∷ front) file rest new all why (a, first, x) refused (b, other, y) =
      let same : b ≡ a = takes_once counted next b a other first in
      not_all a front file rest new all why x refused (subst (λ c. TakesAll merge c (front ++ file ∷ rest) all) same y)

  -- the first file that is refused is one
  pub first_once : (counted : List Share) (front others : List (List ℕ)) (file other : List ℕ) (rest behind : List (List ℕ)) (new fresh : List Share)
      (a b : Why) → front ++ file ∷ rest ≡ others ++ other ∷ behind → TakesAll merge counted front new → IsRefused merge new file a
      → TakesAll merge counted others fresh → IsRefused merge fresh other b → (length front ≡ length others) × (a ≡ b)
  first_once counted [] [] file other rest behind new fresh a b e x refused y wrong =
      let same : file ≡ other = cc in (
        refl,
        refused_once counted file a b (subst (λ c. IsRefused merge c file a) x refused)
            (subst (λ f. IsRefused merge counted f b) (sym same) (subst (λ c. IsRefused merge c other b) y wrong)),
      )
  first_once counted [] (next ∷ others) file other rest behind new fresh a b e x refused (c, taken, y) wrong =
      let same : file ≡ next = cc in
      absurd (not_refused counted next c taken a (subst (λ f. IsRefused merge counted f a) same (subst (λ d. IsRefused merge d file a) x refused)))
  first_once counted (next ∷ front) [] file other rest behind new fresh a b e (c, taken, x) refused y wrong =
      let same : next ≡ other = cc in
      absurd (not_refused counted next c taken b (subst (λ f. IsRefused merge counted f b) (sym same) (subst (λ d. IsRefused merge d other b) y wrong)))
  first_once counted (next ∷ front) (also ∷ others) file other rest behind new fresh a b e (c, taken, x) refused (d, again, y) wrong =
      let same : also ≡ next = cc in
      let tails : front ++ file ∷ rest ≡ others ++ other ∷ behind = cc in
      let next_same : d ≡ c = takes_once counted next d c (subst (λ f. Takes merge counted f d) same again) taken in
      let later : (length front ≡ length others) × (a ≡ b) = first_once c front others file other rest behind new fresh a b tails x refused
      (subst (λ s. TakesAll merge s others fresh) next_same y) wrong in
      (ap suc later.0, later.1)
