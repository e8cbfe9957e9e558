use Rattle.std.proofs.Common.{◌≡◌, ◌-◌, ◌<◌, [], length, true, get_or, inl, inr, sym, ◌∙◌, ap, subst, arith, rules}
use Rattle.std.proofs.lemmas.List.{get_or_default}
use Rattle.sparse_rows.specs.Entries.{IsRow}
use Rattle.echelon.specs.Lists.{entries_of, lead_of, row_at, lead_at}
use Rattle.echelon.proofs.FoundRows.{nonzero}
use Rattle.echelon.proofs.Leads.{true_or_false, lead_of-first}
use Rattle.echelon.proofs.RowLemmas.{entry_at_lead, first_in}
use Rattle.echelon.proofs.reduced_rows.is_reduced_at.Goals as goal
use Rattle.echelon.proofs.reduced_rows.is_reduced_at.Goals.{else-i-gt0-via-then-i-gt0+else-from-lead_column, else-i-gt0-via-else-i-gt0}

pub value-requires : goal.value-requires
value-requires g c =
    let ring = c.args.ring.now in
    let first = c.index-entries-0.result in
    let row_is : c.index-rows-i.result ≡ get_or c.args.rows.now c.args.i [] =
    c.index-rows-i.is ∙ get_or_default c.args.rows.now c.args.i c.index-rows-i.result [] c.requires.inside in
    let entries_is : c.entries-entries.result.now ≡ get_or c.args.rows.now c.args.i [] = c.entries-entries.ensures.entries ∙ row_is in
    let some : 0 < length c.entries-entries.result.now = search rules in
    subst (λ p. g.R.Ring.has ring p.1 ≡ true) (sym (c.index-entries-0.is ∙ ap (λ es. get_or es 0 first) entries_is))
    (first_in (g.R.Ring.has ring) (get_or c.args.rows.now c.args.i []) first (c.requires.in_ring c.args.i c.requires.inside)
    (subst (λ es. 0 < length es) entries_is some))

pub returns-then-value-ne1-clause-not_reduced : goal.returns-then-value-ne1-clause-not_reduced
returns-then-value-ne1-clause-not_reduced g c =
    let value = g.R.Ring.value c.args.ring.now in
    let first = c.index-entries-0.result in
    let rows = c.args.rows.now in
    let row_is : c.index-rows-i.result ≡ get_or rows c.args.i [] =
    c.index-rows-i.is ∙ get_or_default rows c.args.i c.index-rows-i.result [] c.requires.inside in
    let entries_is : c.entries-entries.result.now ≡ get_or rows c.args.i [] = c.entries-entries.ensures.entries ∙ row_is in
    let some : 0 < length c.entries-entries.result.now = search rules in
    let here : row_at value rows c.args.i (lead_at rows c.args.i) ≡ value first.1 =
    entry_at_lead value g.R.Ring.zero (get_or rows c.args.i []) first (subst (IsRow (λ k. k) g.R.Ring.zero 0) row_is c.entries-entries.ensures.row)
    (subst (λ es. 0 < length es) entries_is some)
    ∙ ap (λ es. value (get_or es 0 first).1) (sym entries_is) ∙ ap (λ p. value p.1) (sym c.index-entries-0.is) in
    λ _. inr (inl (λ one. absurd (omega (arith, here, one, c.value.ensures))))

pub returns-then-not-is_zero-clause-not_reduced : goal.returns-then-not-is_zero-clause-not_reduced
returns-then-not-is_zero-clause-not_reduced g c =
    let ring = c.args.ring.now in
    let value = g.R.Ring.value ring in
    let first = c.index-entries-0.result in
    let rows = c.args.rows.now in
    let row_is : c.index-rows-i.result ≡ get_or rows c.args.i [] =
    c.index-rows-i.is ∙ get_or_default rows c.args.i c.index-rows-i.result [] c.requires.inside in
    let entries_is : c.entries-entries.result.now ≡ get_or rows c.args.i [] = c.entries-entries.ensures.entries ∙ row_is in
    let some : 0 < length c.entries-entries.result.now = search rules in
    let column : first.0 ≡ lead_at rows c.args.i =
    ap (λ p. p.0) c.index-entries-0.is ∙ lead_of-first c.entries-entries.result.now first some ∙ ap lead_of entries_is in
    let inside : c.loop-k.k < length rows = omega (arith, c.loop-k-test.true) in
    let other_is : c.index-rows-k.result ≡ get_or rows c.loop-k.k [] = c.index-rows-k.is ∙ get_or_default rows c.loop-k.k c.index-rows-k.result [] inside in
    let entry : value c.entry.result ≡ row_at value rows c.loop-k.k (lead_at rows c.args.i) =
    c.entry.ensures.value ∙ (λ j. entries_of value (other_is j) (column j)) in
    λ _. inr (inr (inr (
      c.loop-k.k,
      inside,
      search rules,
      λ none.
          nonzero (g.R.Ring.modulus ring) (g.R.Ring.has ring) value g.R.Ring.zero (g.met.R.Ring.has_zero ring) (g.met.R.Ring.value_zero ring)
          (g.met.R.Ring.value_injective ring) (g.met.R.Ring.value_below ring) (g.met.R.Ring.modulus_from ring) c.entry.result c.entry.ensures.has
          (λ e. true_or_false c.is_zero.result (c.is_zero.ensures.1 e) c.if-not-is_zero.true) (entry ∙ none),
    )))

pub returns-clause-reduced : goal.returns-clause-reduced
returns-clause-reduced g c =
    let ring = c.args.ring.now in
    let value = g.R.Ring.value ring in
    let first = c.index-entries-0.result in
    let rows = c.args.rows.now in
    let row_is : c.index-rows-i.result ≡ get_or rows c.args.i [] =
    c.index-rows-i.is ∙ get_or_default rows c.args.i c.index-rows-i.result [] c.requires.inside in
    let entries_is : c.entries-entries.result.now ≡ get_or rows c.args.i [] = c.entries-entries.ensures.entries ∙ row_is in
    let some : 0 < length c.entries-entries.result.now = search rules in
    let some_row : 0 < length (get_or rows c.args.i []) = subst (λ es. 0 < length es) entries_is some in
    let is_row : IsRow (λ k. k) g.R.Ring.zero 0 (get_or rows c.args.i []) = subst (IsRow (λ k. k) g.R.Ring.zero 0) row_is c.entries-entries.ensures.row in
    let column : first.0 ≡ lead_at rows c.args.i =
    ap (λ p. p.0) c.index-entries-0.is ∙ lead_of-first c.entries-entries.result.now first some ∙ ap lead_of entries_is in
    let here : row_at value rows c.args.i (lead_at rows c.args.i) ≡ value first.1 =
    entry_at_lead value g.R.Ring.zero (get_or rows c.args.i []) first is_row some_row
    ∙ ap (λ es. value (get_or es 0 first).1) (sym entries_is) ∙ ap (λ p. value p.1) (sym c.index-entries-0.is) in
    λ _. record {
      some = some_row;
      is_row = is_row;
      one = omega (arith, here, c.value.ensures, c.if-value-ne1.false);
      rising = λ h. elim c.else-i-gt0.branch [
        | else-i-gt0-via-then-i-gt0+else-from-lead_column w ↦
            let early : c.args.i - 1 < length rows = omega (arith, c.requires.inside) in
            let before_is : w.index-rows-i-then-i-gt0.result ≡ get_or rows (c.args.i - 1) [] =
            w.index-rows-i-then-i-gt0.is ∙ get_or_default rows (c.args.i - 1) w.index-rows-i-then-i-gt0.result [] early in
            let before : w.lead_column.result ≡ lead_at rows (c.args.i - 1) = w.lead_column.ensures ∙ ap lead_of before_is in
            omega (arith, before, column, w.from.ensures, w.if-from-lead_column.false)
        | else-i-gt0-via-else-i-gt0 w ↦ absurd (omega (arith, h, w.if-i-gt0.false))
      ];
      clear = λ k h ne. c.loop-k.invariant k (omega (arith, c.loop-k-test.false)) ne;
    }
