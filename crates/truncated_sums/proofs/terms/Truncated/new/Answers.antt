use Rattle.std.proofs.Common.{◌≡◌, ℕ, ◌+◌, ◌*◌, ◌%◌, ◌<◌, ◌≤◌, true, [], ◌∷◌, length, sym, ap, subst, ◌∙◌, arith, length-append}
use Rattle.std.specs.Prelude.{All}
use Rattle.std.proofs.Math.Nat.{mod-eq_of_lt}
use Rattle.std.proofs.lemmas.Nat.{mul-mod_first}
use Rattle.truncated_sums.specs.Inverses.{inverse_of, IsFirstWithout}
use Rattle.truncated_sums.specs.Running.{AreInverses}
use Rattle.truncated_sums.proofs.RunningSums.{all_push}
use Rattle.truncated_sums.proofs.InverseOf.{inverse_step, inverses_push, have_next}
use Rattle.truncated_sums.proofs.terms.Truncated.new.Goals as goal

pub returns-in-None-clause-no_inverse : goal.returns-in-None-clause-no_inverse
returns-in-None-clause-no_inverse g c = λ value term e.
    let m : ℕ = g.R.Ring.modulus c.args.ring in
    let at : ℕ = c.loop-term.term in
    let from : 3 ≤ m = g.met.R.Ring.modulus_from c.args.ring in
    let large : 1 < m = omega arith in
    let residue : c.value.result ≡ at % m = c.value.ensures ∙ c.of-value.ensures.value in
    let first : IsFirstWithout m c.args.n c.value.result at = record {
      least = omega arith;
      within = omega arith;
      residue = residue;
      none = λ found. c.in-None.ensures.none found.0 (ap (λ r. r * found.0 % m) c.of-value.ensures.value ∙ mul-mod_first at found.0 m ∙ found.1
          ∙ mod-eq_of_lt large);
      before = c.loop-term.invariant.have;
    } in
    let same_value : c.value.result ≡ value = cc in
    let same_term : at ≡ term = cc in
    subst (λ v. IsFirstWithout m c.args.n v term) same_value (subst (λ t. IsFirstWithout m c.args.n c.value.result t) same_term first)

pub loop-term-preserved : goal.loop-term-preserved
loop-term-preserved g c =
    let ring = c.args.ring in
    let m : ℕ = g.R.Ring.modulus ring in
    let large : 3 ≤ m = g.met.R.Ring.modulus_from ring in
    let many : 1 < m = omega arith in
    let kept = c.loop-term.invariant in
    let term : ℕ = c.loop-term.term in
    let items = c.loop-term.inverses.items in
    let b = c.in-Some.inverse in
    let a = c.of-value.result in
    let has_b : g.R.Ring.has ring b ≡ true = c.in-Some.ensures.inverse.0 in
    let product : g.R.Ring.value ring a * g.R.Ring.value ring b % m ≡ 1 =
    sym (g.met.R.Ring.value_mul ring a b c.of-value.ensures.has has_b) ∙ ap (g.R.Ring.value ring) c.in-Some.ensures.inverse.1 ∙ g.met.R.Ring.value_one ring in
    let below : g.R.Ring.value ring b < m = g.met.R.Ring.value_below ring b has_b in
    let is = inverse_step m term (g.R.Ring.value ring a) (g.R.Ring.value ring b) (omega arith) c.of-value.ensures.value product below in
    let value : g.R.Ring.value ring b ≡ inverse_of m term % m = sym (mod-eq_of_lt below) ∙ ap (λ x. x % m) (sym is.0) in
    let pushed = c.in-Ok.ensures.items in
    record {
      count = ap (λ l. length l + 1) pushed ∙ ap (λ n. n + 1) (length-append items (b ∷ []) ∙ kept.count);
      in_ring = subst (All (λ e. g.R.Ring.has ring e ≡ true)) (sym pushed) (all_push (λ e. g.R.Ring.has ring e ≡ true) items b kept.in_ring has_b);
      values = subst (AreInverses m (g.R.Ring.value ring) (inverse_of m)) (sym pushed) (inverses_push m (g.R.Ring.value ring) (inverse_of m) items b term kept.count value kept.values);
      have = have_next m term (g.R.Ring.value ring b, is.1 ∙ sym (mod-eq_of_lt many)) kept.have;
    }
