-- Where a monomial stands in a list that is in lead order.
use Rattle.std.proofs.Common.{◌≡◌, ℕ, ◌<◌, ◌≤◌, inl, inr, Some, List, [], length, get_or, slice_get, sym, ap, subst, ◌∙◌, arith}
use Rattle.std.proofs.lemmas.List.{length-map}
use Rattle.std.proofs.lemmas.List.Elements.{All-get_or}
use Rattle.std.proofs.lemmas.Bool.{cases_order}
use Rattle.std.proofs.lemmas.Option.{slice_get_within, get_or_from_slice_get, slice_get-get_or, slice_get-map}
use Rattle.std.proofs.lemmas.Map.Keys.{Less-from_sorted}
use Rattle.std.specs.List.{Contains}
use Rattle.std.specs.Option.{option_map}
use Rattle.std.specs.List.Sorted.{IsStrictlySortedBy}
use Rattle.std.specs.declared.cmp.Ordering.{Ordering}
use Rattle.std.specs.declared.cmp.Ordering.TheVariants.{Less, Equal, Greater}
use Rattle.std.specs.Ordering.{ordering_reverse}
use Rattle.std.specs.Cmp.{IsTotalOrder}
use Rattle.zeta_model.specs.declared.Letter.{Letter}
use Rattle.zeta_model.specs.Words.{depth_of}
use Rattle.lyndon_words.specs.Lyndon.{joined}
use Rattle.lyndon_words.specs.Monomials.{IsMonomial}
use Rattle.column_order.specs.declared.lead_order.Standing.{Standing}
use Rattle.column_order.specs.Columns.{IsColumnList}
use Rattle.column_order.proofs.ColumnLists.{standing_cmp-stands}
use Rattle.column_order.specs.declared.column.Column.{Column}
use Rattle.column_order.specs.LeadOrder.{lead_cmp}
use Rattle.column_order.specs.Inner.{IsStanding, HasStanding, AreColumns, standing_cmp, monomials_of}
use Rattle.column_order.proofs.LeadLaws.{lead_cmp_total, lead_cmp-IsAntisymmetric, Leads-irreflexive}

pub place_of : (ps : List (List (List Letter))) (p : List (List Letter)) → Contains ps p → (i : ℕ) × (i < length ps) × (slice_get ps i ≡ Some p)
place_of ps p c = (c.0, c.1, slice_get-get_or ps c.0 p c.1 ∙ ap Some c.2)

pub Contains-from_place : (ps : List (List (List Letter))) (p : List (List Letter)) (i : ℕ) → slice_get ps i ≡ Some p → Contains ps p
Contains-from_place ps p i e = (i, slice_get_within ps i p e, get_or_from_slice_get ps i p p e)

pub words_held : (xs ys : List (List Letter)) (i : ℕ) (w : List Letter) → xs ≡ ys → slice_get xs i ≡ Some w → Contains ys w
words_held xs ys i w e h = subst (λ t. Contains t w) e (i, slice_get_within xs i w h, get_or_from_slice_get xs i w w h)

pub word_held_at : (xs : List (List Letter)) (i : ℕ) (w : List Letter) → slice_get xs i ≡ Some w → Contains xs w
word_held_at xs i w h = (i, slice_get_within xs i w h, get_or_from_slice_get xs i w w h)

pub monomial_at : (es : List Column) (i : ℕ) (c : Column) → i < length es → c ≡ get_or es i c → slice_get (monomials_of es) i ≡ Some c.monomial
monomial_at es i c h e = slice_get-map (λ (c : Column). c.monomial) es i
    ∙ ap (option_map (λ (c : Column). c.monomial)) (slice_get-get_or es i c h ∙ ap Some (sym e))

earlier : (f : List Letter → ℕ) (ps : List (List (List Letter))) (i j : ℕ) (p q : List (List Letter)) → IsStrictlySortedBy (lead_cmp f) ps
    → slice_get ps i ≡ Some p → slice_get ps j ≡ Some q → i < j → lead_cmp f p q ≡ Less
earlier f ps i j p q s a b h =
    (λ k. lead_cmp f (sym (get_or_from_slice_get ps i p [] a) k) (sym (get_or_from_slice_get ps j q [] b) k))
    ∙ Less-from_sorted (lead_cmp f) ps i j [] s h (slice_get_within ps j q b)

same_at : (ps : List (List (List Letter))) (i j : ℕ) (p q : List (List Letter)) → slice_get ps i ≡ Some p → slice_get ps j ≡ Some q → i ≡ j → p ≡ q
same_at ps i j p q a b e = let s : Some p ≡ Some q = sym a ∙ ap (slice_get ps) e ∙ b in cc

-- p stands at i, and q at j comes before it
pub later_place : (f : List Letter → ℕ) (ps : List (List (List Letter))) (i j : ℕ) (p q : List (List Letter)) → IsStrictlySortedBy (lead_cmp f) ps
    → slice_get ps i ≡ Some p → slice_get ps j ≡ Some q → lead_cmp f q p ≡ Less → j < i
later_place f ps i j p q s a b l = elim (cases_order i j) [
  | inl e ↦ let same : p ≡ q = same_at ps i j p q a b e in absurd (Leads-irreflexive f p (subst (λ t. lead_cmp f t p ≡ Less) (sym same) l))
  | inr r ↦ elim r [
    | inl h ↦ let o : IsTotalOrder (lead_cmp f) = lead_cmp_total f in absurd (Leads-irreflexive f p (o.trans p q p (earlier f ps i j p q s a b h) l))
    | inr h ↦ h
  ]
]

-- p stands at i, and q at j comes behind it
pub earlier_place : (f : List Letter → ℕ) (ps : List (List (List Letter))) (i j : ℕ) (p q : List (List Letter)) → IsStrictlySortedBy (lead_cmp f) ps
    → slice_get ps i ≡ Some p → slice_get ps j ≡ Some q → lead_cmp f q p ≡ Greater → i < j
earlier_place f ps i j p q s a b g =
    let o : IsTotalOrder (lead_cmp f) = lead_cmp_total f in
    later_place f ps j i q p s b a (o.antisymm p q ∙ ap ordering_reverse g)

-- a monomial has one place
pub one_place : (f : List Letter → ℕ) (ps : List (List (List Letter))) (i j : ℕ) (p : List (List Letter)) → IsStrictlySortedBy (lead_cmp f) ps
    → slice_get ps i ≡ Some p → slice_get ps j ≡ Some p → i ≡ j
one_place f ps i j p s a b = elim (cases_order i j) [
  | inl e ↦ e
  | inr r ↦ elim r [
    | inl h ↦ absurd (Leads-irreflexive f p (earlier f ps i j p p s a b h))
    | inr h ↦ absurd (Leads-irreflexive f p (earlier f ps j i p p s b a h))
  ]
]

-- the list of a weight and a depth holds a column at a place
pub column_place : (f : List Letter → ℕ) (w d : ℕ) (es : List Column) (p : List (List Letter)) → AreColumns f w d es → IsMonomial p → length (joined p) ≡ w
    → depth_of (joined p) ≤ d → (i : ℕ) × (i < length es) × (slice_get (monomials_of es) i ≡ Some p)
column_place f w d es p a m e h =
    let l : IsColumnList f w d (monomials_of es) = a.list in
    let r : (i : ℕ) × (i < length (monomials_of es)) × (slice_get (monomials_of es) i ≡ Some p) =
    place_of (monomials_of es) p ((l.whole p).1 (record { monomial = m; weight = e; depth = h })) in
    (r.0, omega (arith, r.1, length-map es (λ (c : Column). c.monomial)), r.2)

-- the column q at place j, compared with p
pub record Compares (f : List Letter → ℕ) (es : List Column) (j : ℕ) (p : List (List Letter)) (o : Ordering) : Type 0 where
  pub sorted : IsStrictlySortedBy (lead_cmp f) (monomials_of es)
  pub column : Column
  pub there : slice_get (monomials_of es) j ≡ Some column.monomial
  pub order : lead_cmp f column.monomial p ≡ o

pub compares : (f g : List Letter → ℕ) (w d : ℕ) (es : List Column) (j : ℕ) (c : Column) (p : List (List Letter)) (t : Standing) (o r : Ordering)
    → AreColumns f w d es → j < length es → c ≡ get_or es j c → IsStanding g p t → g ≡ f → r ≡ standing_cmp c.monomial c.standing p t → r ≡ o
    → Compares f es j p o
compares f g w d es j c p t o r a h e s same is known =
    let l : IsColumnList f w d (monomials_of es) = a.list in
    let stood : HasStanding f c = subst (HasStanding f) (sym e) (All-get_or (HasStanding f) es j c h a.stood) in
    record {
      sorted = l.in_order;
      column = c;
      there = monomial_at es j c h e;
      order = sym (standing_cmp-stands f c.monomial p c.standing t stood.standing (subst (λ (k : List Letter → ℕ). IsStanding k p t) same s)) ∙ sym is
          ∙ known;
    }

pub place_behind : (f : List Letter → ℕ) (es : List Column) (i j : ℕ) (p : List (List Letter)) → Compares f es j p Less
    → slice_get (monomials_of es) i ≡ Some p → j < i
place_behind f es i j p c e = let q : Column = c.column in later_place f (monomials_of es) i j p q.monomial c.sorted e c.there c.order

pub place_before : (f : List Letter → ℕ) (es : List Column) (i j : ℕ) (p : List (List Letter)) → Compares f es j p Greater
    → slice_get (monomials_of es) i ≡ Some p → i < j
place_before f es i j p c e = let q : Column = c.column in earlier_place f (monomials_of es) i j p q.monomial c.sorted e c.there c.order

pub place_here : (f : List Letter → ℕ) (es : List Column) (j : ℕ) (p : List (List Letter)) → Compares f es j p Equal
    → slice_get (monomials_of es) j ≡ Some p
place_here f es j p c = let q : Column = c.column in c.there ∙ ap Some (lead_cmp-IsAntisymmetric f q.monomial p c.order)
