use Rattle.std.proofs.Common.{◌+◌, ◌-◌, ◌*◌, ◌%◌, ◌<◌, length, sym, ap, ◌∙◌, arith}
use Rattle.std.proofs.lemmas.Bool.{eqb-true, eq-eqb}
use Rattle.word_sums.specs.Terms.{coefficient_of}
use Rattle.table_model.specs.MonomialWords.{words_of_row, sum_combination}
use Rattle.cert_checker.specs.Certified.{residues_at, named_values}
use Rattle.cert_checker.proofs.Certifying.{certified, left-same}
use Rattle.cert_checker.proofs.row_check.check_row.Goals as goal

pub returns : goal.returns
returns g c =
    let ring = c.args.ring.now in
    let r = g.met.R.Ring in
    let m = g.R.Ring.modulus ring in
    let value = g.R.Ring.value ring in
    let pos : 0 < m = omega (arith, r.modulus_from ring) in
    let row = words_of_row c.args.columns.now.list (residues_at c.args.row.now) in
    let combination = sum_combination (length c.args.names.now) (named_values m c.args.names.now) (residues_at c.args.combination.now) in
    let both = certified m pos g.R.Ring.zero (g.R.Ring.has ring) value (r.value_below ring) (r.has_zero ring) (r.value_zero ring) (r.value_injective ring)
    c.take_values.new.sum row combination c.in_ok-take_values.ensures.sum
    (λ t. left-same m pos (coefficient_of value c.take_values.new.sum t) (coefficient_of value c.new-sum.result t) (row t) (combination t)
    (ap (λ es. coefficient_of value es t) c.new-sum.ensures) (coefficient_of value c.add_columns.new.sum t)
    (c.in_ok-add_columns.ensures.ok t ∙ ap (λ es. (coefficient_of value c.new-sum.result t + words_of_row c.args.columns.now.list (residues_at es) t) % m)
    c.as_slice.ensures)
    (c.in_ok-take_values.ensures.ok t ∙ ap (λ es. (coefficient_of value c.add_columns.new.sum t + (m - 1) * sum_combination (length c.args.names.now)
    (named_values m c.args.names.now) (residues_at es) t) % m) c.as_slice-2.ensures)) in (
      λ none. both.0 (sym c.len.ensures.len ∙ eqb-true c.len.result 0 none),
      λ is. eq-eqb c.len.result 0 (c.len.ensures.len ∙ both.1 is),
    )
