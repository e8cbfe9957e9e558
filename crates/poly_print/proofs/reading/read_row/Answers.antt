use Rattle.std.proofs.Common.{◌≡◌, ℕ, ◌<◌, ◌^◌, ◌%◌, List, [], length, get_or, ap, sym, subst, ◌∙◌, arith, ◌+◌, Bool}
use Rattle.zeta_model.specs.declared.Letter.{Letter}
use Rattle.std.proofs.lemmas.Option.{get_or_from_slice_get}
use Rattle.sparse_rows.specs.Entries.{IsBelow, AllIn}
use Rattle.sparse_rows.proofs.EntryLemmas.{IsBelow-append, AllIn-append, below_more}
use Rattle.poly_print.specs.Polynomials.{monomial_text}
use Rattle.poly_print.specs.Inner.{HasNoPlus}
use Rattle.poly_print.proofs.RowTexts.{HaveTexts, monomial_is_free}
use Rattle.poly_print.proofs.TextLaws.{have_texts}
use Rattle.poly_print.proofs.ReadRows.{Left, left-taken, left-missing, left-end}
use Rattle.poly_print.proofs.reading.read_row.Goals as goal
use Rattle.poly_print.proofs.reading.read_row.Goals.{in-Some+then-not-is_zero+in_ok-push, in-Some+else-not-is_zero, in_default}

pub term_at-requires : goal.term_at-requires
term_at-requires g c =
    let columns = c.args.columns.now in
    let texts : HaveTexts columns.list = have_texts columns (omega
    (arith, c.weight.ensures.weight, c.weight.ensures.least)) c.len-col-end.ensures.columns in
    let col = c.loop-col.col in
    let at : get_or columns.list col [] ≡ c.at.result.now = get_or_from_slice_get columns.list col c.at.result.now [] c.at.ensures.at in
    let free : HasNoPlus (monomial_text (get_or columns.list col [])) =
    monomial_is_free columns.list texts (get_or columns.list col []) (texts.each col (omega
    (arith, c.loop-col-test.true, c.len-col-end.ensures.length))) in
    let same : monomial_text (get_or columns.list col []) ≡ c.as_bytes.result.now = ap monomial_text at ∙ sym c.in_ok-monomial.ensures
    ∙ sym c.as_bytes.ensures.value in
    subst HasNoPlus same free

moved : {E : Type 0} (none : E) (has : E → Bool) (value : E
    → ℕ) (columns : List (List (List Letter))) (p row row' : List (ℕ × E)) (rest rest' : List ℕ) (col : ℕ) → row' ≡ row → rest' ≡ rest
    → Left none has value columns p row rest col → Left none has value columns p row' rest' col
moved none has value columns p row row' rest rest' col e f l =
    subst (λ r. Left none has value columns p r rest' col) (sym e) (subst (λ r. Left none has value columns p row r col) (sym f) l)

wide : (m : ℕ) → m < 2 ^ 63 → m < 2 ^ 64
wide m h = omega arith

pub loop-col-preserved : goal.loop-col-preserved
loop-col-preserved g c =
    let ring = c.args.ring.now in
    let m = g.R.Ring.modulus ring in
    let none = g.R.Ring.zero in
    let has = g.R.Ring.has ring in
    let value = g.R.Ring.value ring in
    let columns = c.args.columns.now in
    let texts : HaveTexts columns.list = have_texts columns (omega
    (arith, c.weight.ensures.weight, c.weight.ensures.least)) c.len-col-end.ensures.columns in
    let l = c.loop-col in
    let within : l.col < length columns.list = omega (arith, c.loop-col-test.true, c.len-col-end.ensures.length) in
    let at : get_or columns.list l.col [] ≡ c.at.result.now = get_or_from_slice_get columns.list l.col c.at.result.now [] c.at.ensures.at in
    let same : monomial_text (get_or columns.list l.col []) ≡ c.as_bytes.result.now = ap monomial_text at ∙ sym c.in_ok-monomial.ensures
    ∙ sym c.as_bytes.ensures.value in
    let small = wide m (g.met.R.Ring.modulus_below ring) in
    elim c.match-term_at.branch [
      | in-Some+then-not-is_zero+in_ok-push w ↦
          let a = w.of-element.result in
          let row = w.row-is ∙ w.in_ok-push.ensures.ok in
          let taken = left-taken none has value m small (g.met.R.Ring.value_zero ring) (g.met.R.Ring.has_zero ring) (g.met.R.Ring.value_below ring)
          (g.met.R.Ring.value_injective ring) columns.list texts l.col within l.rest.now w.in-Some.behind.now w.in-Some.residue w.in-Some.ensures.begins
          (λ s text tail t. let f = w.in-Some.ensures.some s text tail t in (
            f.0
                ∙ sym same,
            f.1,
            f.2,
          )) a w.of-element.ensures.has (w.of-element.ensures.value ∙ ap (λ n. n % m) w.from.ensures) in
          record {
            below = subst (IsBelow (λ c. c) (l.col + 1)) (sym row) (IsBelow-append (λ c. c) (l.col + 1) l.col a l.row l.invariant.below (omega arith));
            in_ring = subst (AllIn has) (sym row) (AllIn-append (λ c. c) has l.col a l.row l.invariant.in_ring w.of-element.ensures.has);
            left = λ p t. moved none has value columns.list p _ _ _ _ (l.col + 1) row (ap (λ b. b.now) w.rest-is) (taken p l.row (l.invariant.left p t)).1;
          }
      | in-Some+else-not-is_zero w ↦
          let a = w.of-element.result in
          let zero : a ≡ none = w.is_zero.ensures.0 w.if-not-is_zero.false in
          let taken = left-taken none has value m small (g.met.R.Ring.value_zero ring) (g.met.R.Ring.has_zero ring) (g.met.R.Ring.value_below ring)
          (g.met.R.Ring.value_injective ring) columns.list texts l.col within l.rest.now w.in-Some.behind.now w.in-Some.residue w.in-Some.ensures.begins
          (λ s text tail t. let f = w.in-Some.ensures.some s text tail t in (
            f.0
                ∙ sym same,
            f.1,
            f.2,
          )) a w.of-element.ensures.has (w.of-element.ensures.value ∙ ap (λ n. n % m) w.from.ensures) in
          record {
            below = subst (IsBelow (λ c. c) (l.col + 1)) (sym w.row-is) (below_more (λ c. c) l.col (l.col + 1) l.row (omega arith) l.invariant.below);
            in_ring = subst (AllIn has) (sym w.row-is) l.invariant.in_ring;
            left = λ p t. absurd ((taken p l.row (l.invariant.left p t)).0 zero);
          }
      | in_default w ↦
          record {
            below = subst (IsBelow (λ c. c) (l.col + 1)) (sym w.row-is) (below_more (λ c. c) l.col (l.col + 1) l.row (omega arith) l.invariant.below);
            in_ring = subst (AllIn has) (sym w.row-is) l.invariant.in_ring;
            left = λ p t. moved none has value columns.list p _ _ _ _ (l.col + 1) w.row-is (ap (λ b. b.now) w.rest-is)
                (left-missing none has value m small (g.met.R.Ring.value_zero ring) (g.met.R.Ring.has_zero ring) (g.met.R.Ring.value_below ring)
                (g.met.R.Ring.value_injective ring) columns.list texts l.col l.rest.now
                (λ s text tail f e. w.in_default.ensures.none s text tail f (e ∙ same)) p l.row (l.invariant.left p t));
          }
    ]

pub returns-clause-only : goal.returns-clause-only
returns-clause-only g c = λ p t.
    let ring = c.args.ring.now in
    let m = g.R.Ring.modulus ring in
    let columns = c.args.columns.now in
    let texts : HaveTexts columns.list = have_texts columns (omega
    (arith, c.weight.ensures.weight, c.weight.ensures.least)) c.len-col-end.ensures.columns in
    left-end g.R.Ring.zero (g.R.Ring.has ring) (g.R.Ring.value ring) m (wide m (g.met.R.Ring.modulus_below ring)) (g.met.R.Ring.value_zero ring)
    (g.met.R.Ring.has_zero ring) (g.met.R.Ring.value_below ring) (g.met.R.Ring.value_injective ring) columns.list texts
    p c.loop-col.row c.loop-col.rest.now c.loop-col.col (omega (arith, c.loop-col-test.false, c.len-col-end.ensures.length)) (c.loop-col.invariant.left p t)
