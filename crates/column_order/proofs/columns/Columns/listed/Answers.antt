use Rattle.std.proofs.Common.{length, sym, ap, subst, ◌∙◌, arith}
use Rattle.std.proofs.lemmas.List.{length-map}
use Rattle.std.specs.List.{Contains}
use Rattle.std.specs.List.Sorted.{IsStrictlySortedBy}
use Rattle.zeta_model.specs.Words.{word_cmp}
use Rattle.column_order.specs.declared.column.Column.{Column}
use Rattle.column_order.specs.Ranks.{rank_of}
use Rattle.column_order.specs.Columns.{HasLimits}
use Rattle.column_order.specs.Inner.{AreColumns, ArePlaces, column_words, monomials_of}
use Rattle.column_order.proofs.ColumnLists.{from_words, into_words, length-columns}
use Rattle.zeta_model.proofs.WordListLaws.{admissible_within-increases}
use Rattle.column_order.proofs.columns.Columns.listed.Goals as goal

pub places_of-requires-clause-increasing : goal.places_of-requires-clause-increasing
places_of-requires-clause-increasing g c =
    subst (IsStrictlySortedBy word_cmp) (sym (c.as_slice-2.ensures.value ∙ c.in_ok-words.ensures)) (admissible_within-increases c.args.w c.args.d)

pub places_of-requires-clause-known : goal.places_of-requires-clause-known
places_of-requires-clause-known g c = λ u h.
    let columns : AreColumns (rank_of c.args.rule.now.preference) c.args.w c.args.d c.in_ok-columns.columns.items = c.in_ok-columns.ensures in
    let limits : HasLimits c.args.w c.args.d = c.requires.limits in
    subst (λ t. Contains t u) (sym (c.as_slice-2.ensures.value ∙ c.in_ok-words.ensures))
    (into_words (rank_of c.args.rule.now.preference) c.args.w c.args.d (monomials_of c.in_ok-columns.columns.items) limits.least columns.list u
    (subst (λ t. Contains (column_words t) u) c.as_slice-3.ensures.value h))

pub places_of-requires-clause-found : goal.places_of-requires-clause-found
places_of-requires-clause-found g c = λ u h.
    let columns : AreColumns (rank_of c.args.rule.now.preference) c.args.w c.args.d c.in_ok-columns.columns.items = c.in_ok-columns.ensures in
    let limits : HasLimits c.args.w c.args.d = c.requires.limits in
    subst (λ t. Contains (column_words t) u) (sym c.as_slice-3.ensures.value)
    (from_words (rank_of c.args.rule.now.preference) c.args.w c.args.d (monomials_of c.in_ok-columns.columns.items) limits.most columns.list u
    (subst (λ t. Contains t u) (c.as_slice-2.ensures.value ∙ c.in_ok-words.ensures) h))

pub places_of-requires-clause-few : goal.places_of-requires-clause-few
places_of-requires-clause-few g c =
    let columns : AreColumns (rank_of c.args.rule.now.preference) c.args.w c.args.d c.in_ok-columns.columns.items = c.in_ok-columns.ensures in
    let limits : HasLimits c.args.w c.args.d = c.requires.limits in
    omega (
      arith,
      ap length c.as_slice-3.ensures.value,
      length-map c.in_ok-columns.columns.items (λ (e : Column). e.monomial),
      length-columns (rank_of c.args.rule.now.preference) c.args.w c.args.d
          (monomials_of c.in_ok-columns.columns.items) limits.least limits.most limits.some columns.list,
      c.requires.few,
    )

pub invariant_of-result : goal.invariant_of-result
invariant_of-result g c =
    let columns : AreColumns (rank_of c.args.rule.now.preference) c.args.w c.args.d c.in_ok-columns.columns.items = c.in_ok-columns.ensures in
    let limits : HasLimits c.args.w c.args.d = c.requires.limits in
    record {
      columns = subst (λ p. AreColumns (rank_of p) c.args.w c.args.d c.in_ok-columns.columns.items) (sym c.preference.ensures) columns;
      limits = limits;
      few = omega (
        arith,
        length-map c.in_ok-columns.columns.items (λ (e : Column). e.monomial),
        length-columns (rank_of c.args.rule.now.preference) c.args.w c.args.d
            (monomials_of c.in_ok-columns.columns.items) limits.least limits.most limits.some columns.list,
        c.requires.few,
      );
      words_are = c.in_ok-words.ensures;
      places_are = subst (λ t. ArePlaces c.in_ok-words.words.items (column_words t) c.in_ok-places.places.items) c.as_slice-3.ensures.value
          (subst (λ t. ArePlaces t (column_words c.as_slice-3.result.now) c.in_ok-places.places.items) c.as_slice-2.ensures.value c.in_ok-places.ensures);
    }
