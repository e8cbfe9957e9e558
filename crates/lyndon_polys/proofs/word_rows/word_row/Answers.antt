use Rattle.std.proofs.Common.{◌≡◌, ◌+◌, ◌<◌, ◌++◌, [], ◌∷◌, length, slice_get, Some, sym, ◌∙◌, ap, subst, arith}
use Rattle.std.specs.Prelude.{Contains}
use Rattle.std.specs.Map.{keys_of}
use Rattle.std.proofs.lemmas.Option.{slice_get_within}
use Rattle.zeta_model.specs.Modular.{Same}
use Rattle.sparse_rows.specs.Entries.{IsBelow}
use Rattle.table_model.specs.Conversion.{IsCols}
use Rattle.lyndon_polys.specs.Tables.{entries_of}
use Rattle.lyndon_polys.proofs.LesserWords.{left_words}
use Rattle.lyndon_polys.proofs.PlacedWords.{no_fault, as_column, opposite_of, made_row}
use Rattle.lyndon_polys.proofs.word_rows.word_row.Goals as goal

pub unreachable-requires : goal.unreachable-requires
unreachable-requires g c =
    no_fault (g.R.Ring.modulus c.args.ring.now) c.args.columns.now c.args.word c.requires.word c.factors-p.result c.factors-p.ensures.factors
    c.requires.converts
    c.in-Err.field-0 c.in-Err.ensures.residue c.in-Err.ensures.none

pub overflow_cast-col : goal.overflow_cast-col
overflow_cast-col g c =
    let placed : slice_get c.args.columns.now.list c.in-Some.col ≡ Some c.factors-p.result = (c.place.ensures.place c.in-Some.col).0 c.in-Some.is in
    let within : c.in-Some.col < length c.args.columns.now.list = slice_get_within c.args.columns.now.list c.in-Some.col c.factors-p.result placed in
    omega (arith, within, c.requires.few)

pub row_of_sum-requires-clause-start_below : goal.row_of_sum-requires-clause-start_below
row_of_sum-requires-clause-start_below g c =
    let ring = c.args.ring.now in
    let started : c.deref.result.now ≡ (c.in-Some.col, c.in-Ok.inverse) ∷ [] =
    c.deref.ensures.value ∙ c.in_ok-push.ensures.items ∙ ap (λ xs. xs ++ (c.in-Some.col, c.in-Ok.inverse) ∷ []) c.in_ok-start.ensures.items in
    let placed : slice_get c.args.columns.now.list c.in-Some.col ≡ Some c.factors-p.result = (c.place.ensures.place c.in-Some.col).0 c.in-Some.is in
    subst (IsBelow (λ k. k) (length c.args.columns.now.list)) (sym started)
    (slice_get_within c.args.columns.now.list c.in-Some.col c.factors-p.result placed, tt)

pub row_of_sum-requires-clause-known : goal.row_of_sum-requires-clause-known
row_of_sum-requires-clause-known g c =
    let ring = c.args.ring.now in
    let m = g.R.Ring.modulus ring in
    let r = g.met.R.Ring in
    let f = c.factors-p.ensures.factors in
    left_words m (omega (arith, r.modulus_from ring)) g.R.Ring.zero (g.R.Ring.has ring) (g.R.Ring.value ring) (r.has_zero ring) (r.value_zero ring)
    (r.value_injective ring) (r.value_below ring)
    c.in_ok-lesser.lesser c.in_ok-lesser.ensures.sum.terms c.in_ok-lesser.ensures.sum.in_ring c.factors-p.result c.args.word f.whole
    c.in_ok-lesser.ensures.value
    c.args.columns.now.weight c.args.columns.now.depth c.requires.table.limits.least
    (as_column m c.args.columns.now c.args.word c.requires.word c.factors-p.result f c.factors-p.ensures.monomial) f
    (Contains (keys_of c.args.rows.now)) c.requires.lesser

pub returns : goal.returns
returns g c =
    let ring = c.args.ring.now in
    let started : c.deref.result.now ≡ (c.in-Some.col, c.in-Ok.inverse) ∷ [] =
    c.deref.ensures.value ∙ c.in_ok-push.ensures.items ∙ ap (λ xs. xs ++ (c.in-Some.col, c.in-Ok.inverse) ∷ []) c.in_ok-start.ensures.items in
    let placed : slice_get c.args.columns.now.list c.in-Some.col ≡ Some c.factors-p.result = (c.place.ensures.place c.in-Some.col).0 c.in-Some.is in
    let m = g.R.Ring.modulus ring in
    let value = g.R.Ring.value ring in
    let r = g.met.R.Ring in
    let inverse = c.in-Ok.inverse in
    let opposite : Same m (value inverse + value c.neg.result) 0 =
    opposite_of m (value inverse) (value c.neg.result) (omega (arith, r.modulus_from ring)) (r.value_below ring inverse c.in-Ok.ensures.has)
    (ap value c.neg.ensures ∙ r.value_neg ring inverse c.in-Ok.ensures.has) in
    made_row m (omega (arith, r.modulus_from ring)) g.R.Ring.zero (g.R.Ring.has ring) value (r.has_zero ring) (r.value_zero ring) (r.value_injective ring)
    (r.value_below ring)
    c.in_ok-lesser.lesser c.in_ok-lesser.ensures.sum.terms c.in_ok-lesser.ensures.sum.in_ring c.factors-p.result c.args.word
    c.factors-p.ensures.factors.whole c.in_ok-lesser.ensures.value
    c.args.columns.now c.in-Some.col inverse (value c.neg.result) c.in_ok-row.row placed c.in-Ok.ensures.inverse opposite
    (λ s h. c.in_ok-row.ensures.row s (subst (λ es. IsCols m c.args.columns.now s (entries_of value es)) (sym started) h))
