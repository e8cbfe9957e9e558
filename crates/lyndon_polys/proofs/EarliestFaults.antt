-- The first word whose coefficient has no inverse, among the words of the first columns.
use Rattle.std.specs.Prelude.{◌≡◌, ℕ, ◌+◌, ◌%◌, ◌<◌, ◌≤◌, Bool, true, false, cond, Option, Some, None, IfSome, IfNone, List, length}
use Rattle.std.proofs.Common.{refl, sym, ◌∙◌, ap, subst, inl, inr, arith, mod-eq_of_lt}
use Rattle.std.proofs.lemmas.Bool.{cases_eq}
use Rattle.std.proofs.lemmas.Cmp.{tied_itself}
use Rattle.std.specs.Cmp.{IsTotalOrder}
use Rattle.std.specs.Ordering.{is_lt}
use Rattle.std.specs.declared.cmp.Ordering.{Ordering}
use Rattle.std.specs.declared.cmp.Ordering.TheVariants.{Less, Equal, Greater}
use Rattle.zeta_model.specs.declared.Letter.{Letter}
use Rattle.zeta_model.specs.Modular.{Same}
use Rattle.zeta_model.specs.Words.{word_cmp}
use Rattle.zeta_model.proofs.WordOrder.{word_cmp_total}
use Rattle.lyndon_words.specs.Lyndon.{IsBefore, IsFactors, joined}
use Rattle.lyndon_words.proofs.OneWay.{IsFactors-unique}
use Rattle.column_order.specs.Columns.{ColumnList}
use Rattle.zeta_model.specs.Inverses.{HasInverse}
use Rattle.leading_word.proofs.Leading.{no_inverse-leading}
use Rattle.zeta_model.proofs.ModularLemmas.{same-mod}
use Rattle.table_model.specs.MonomialWords.{column_at, words_of_monomial}
use Rattle.table_model.specs.Conversion.{IsTable, IsTableWord, ConvertsAt, Converts}
use Rattle.table_model.specs.Faults.{IsReached, IsNotInvertible}
use Rattle.table_model.proofs.Inverses.{same-HasInverse}
use Rattle.table_model.proofs.TableColumns.{word_at, column_of_word, factors_at, word_of_table}
use Rattle.lyndon_polys.specs.Inner.{leading, ConvertBefore, IsFirstFault, earlier_fault}

abbrev Word : Type 0
Word = List Letter

pub not_before_itself : (u : Word) → ¬ (IsBefore u u)
not_before_itself u b = let e : word_cmp u u ≡ Equal = tied_itself word_cmp_total u in let f : Less ≡ Equal = sym b ∙ e in cc

pub before_through : (u v w : Word) → IsBefore u v → IsBefore v w → IsBefore u w
before_through u v w a b = let o : IsTotalOrder word_cmp = word_cmp_total in o.trans u v w a b

less_is : (o : Ordering) → is_lt o ≡ true → o ≡ Less
less_is Less e = refl
less_is Equal e = cc
less_is Greater e = cc

pub before_by_test : (u v : Word) → is_lt (word_cmp u v) ≡ true → IsBefore u v
before_by_test u v e = less_is (word_cmp u v) e

pub not_before_by_test : (u v : Word) → is_lt (word_cmp u v) ≡ false → ¬ (IsBefore u v)
not_before_by_test u v e b = let f : true ≡ false = ap is_lt (sym b) ∙ e in cc

module _ (m : ℕ) (columns : ColumnList) where
  -- what is known of the first i columns
  abbrev pub Found : ℕ → Option (ℕ × Word) → Type 0
  Found i None = (j : ℕ) → j < i → HasInverse m (leading (column_at columns.list j))
  Found i (Some f) = IsFirstFault m columns i f.1 f.0

  pub found_none : Found 0 None
  found_none j l = absurd (omega arith)

  -- one column more
  one_more : (i : ℕ) (u : Word) → ConvertBefore m columns i u
      → (IsBefore (joined (column_at columns.list i)) u → HasInverse m (leading (column_at columns.list i))) → ConvertBefore m columns (i + 1) u
  one_more i u before here j l b = elim (cases_eq j i) [
    | inl e ↦ subst (λ k. HasInverse m (leading (column_at columns.list k))) (sym e)
        (here (subst (λ k. IsBefore (joined (column_at columns.list k)) u) e b))
    | inr ne ↦ before j (omega arith) b
  ]

  kept_fault : (i : ℕ) (u : Word) (residue : ℕ) → IsFirstFault m columns i u residue
      → (IsBefore (joined (column_at columns.list i)) u → HasInverse m (leading (column_at columns.list i))) → IsFirstFault m columns (i + 1) u residue
  kept_fault i u residue f here = record {
    col = f.col;
    below = omega (arith, f.below);
    word = f.word;
    told = f.told;
    small = f.small;
    none =
        f.none;
    earlier = one_more i u f.earlier here;
  }

  pub found_unit : (i : ℕ) (first : Option (ℕ × Word)) → HasInverse m (leading (column_at columns.list i)) → Found i first → Found (i + 1) first
  found_unit i None unit found = λ j l. elim (cases_eq j i) [
    | inl e ↦ subst (λ k. HasInverse m (leading (column_at columns.list k))) (sym e) unit
    | inr ne ↦ found j (omega arith)
  ]
  found_unit i (Some f) unit found = kept_fault i f.1 f.0 found (λ _. unit)

  pub found_fault : (i residue : ℕ) (first : Option (ℕ × Word)) → Same m (leading (column_at columns.list i)) residue → residue < m
      → ¬ (HasInverse m residue) → Found i first
      → Found (i + 1) (earlier_fault first residue (joined (column_at columns.list i)))
  found_fault i residue None told small none found = record {
    col = i;
    below = omega arith;
    word = refl;
    told = told;
    small = small;
    none = none;
    earlier = one_more i (joined (column_at columns.list i)) (λ j l b. found j l) (λ b. absurd (not_before_itself (joined (column_at columns.list i)) b));
  }
  found_fault i residue (Some f) told small none found = by (is_lt (word_cmp w f.1)) refl
    where
      w : Word
      w = joined (column_at columns.list i)

      by : (b : Bool) → is_lt (word_cmp w f.1) ≡ b → Found (i + 1) (cond b (Some (residue, w)) (Some f))
      by true e = record {
        col = i;
        below = omega arith;
        word = refl;
        told = told;
        small = small;
        none = none;
        earlier = one_more i w (λ j l b. let g : ConvertBefore m columns i f.1 = found.earlier in
            g j l (before_through (joined (column_at columns.list j)) w f.1 b (before_by_test w f.1 e))) (λ b. absurd (not_before_itself w b));
      }
      by false e = kept_fault i f.1 f.0 found (λ b. absurd (not_before_by_test w f.1 e b))

  module _ (table : IsTable m columns) where
    converts_at : (j : ℕ) → j < length columns.list → HasInverse m (leading (column_at columns.list j)) → ConvertsAt m (word_at m columns table j)
    converts_at j l unit p f =
        let same : column_at columns.list j ≡ p =
        IsFactors-unique (word_at m columns table j) (column_at columns.list j) p (factors_at m columns table j l) f in
        subst (λ q. HasInverse m (words_of_monomial q (word_at m columns table j))) same unit

    pub found_all : Found (length columns.list) None → Converts m columns
    found_all found u is =
        let (col, l, e) = column_of_word m columns table u is in
        subst (ConvertsAt m) e (converts_at col l (found col l))

    pub found_first : (f : ℕ × Word) → Found (length columns.list) (Some f) → IsNotInvertible m columns f.1 f.0
    found_first f found = record {
      reached = record {
        word = subst (IsTableWord columns.weight columns.depth) found.word (word_of_table m columns table found.col found.below);
        earlier = λ t is b.
            let (col, l, e) = column_of_word m columns table t is in
            let g : ConvertBefore m columns (length columns.list) f.1 = found.earlier in
            subst (ConvertsAt m) e (converts_at col l (g col l (subst (λ v. IsBefore v f.1) (sym e) b)));
      };
      factors = column_at columns.list found.col;
      are_factors = subst (λ v. IsFactors v (column_at columns.list found.col)) found.word (factors_at m columns table found.col found.below);
      told = ap (λ v. words_of_monomial (column_at columns.list found.col) v % m) (sym found.word) ∙ found.told ∙ mod-eq_of_lt found.small;
      none = found.none;
    }

    pub found_some : (first : Option (ℕ × Word)) (i : ℕ) → i ≡ length columns.list → Found i first → IfSome first (λ f. IsNotInvertible m columns f.1 f.0)
    found_some None i e found = tt
    found_some (Some f) i e found = found_first f (subst (λ k. Found k (Some f)) e found)

    pub found_no : (first : Option (ℕ × Word)) (i : ℕ) → i ≡ length columns.list → Found i first → IfNone first (Converts m columns)
    found_no None i e found = found_all (subst (λ k. Found k None) e found)
    found_no (Some f) i e found = tt

    -- then some number from 2 to the weight has no inverse
    pub number_without : (u : Word) (residue : ℕ) → IsNotInvertible m columns u residue → (n : ℕ) × (2 ≤ n) × (n ≤ columns.weight) × ¬ (HasInverse m n)
    unfolding words_of_monomial
    number_without u residue fault =
        let r : IsReached m columns u = fault.reached in
        let is : IsTableWord columns.weight columns.depth u = r.word in
        let (n, least, most, none) = no_inverse-leading m u fault.factors (omega (arith, table.modulus)) fault.are_factors
        (λ unit. fault.none (subst (HasInverse m) fault.told
        (same-HasInverse m (words_of_monomial fault.factors u) (words_of_monomial fault.factors u % m)
        (sym (same-mod m (words_of_monomial fault.factors u))) unit))) in
        (n, least, omega (arith, most, is.weight), none)
