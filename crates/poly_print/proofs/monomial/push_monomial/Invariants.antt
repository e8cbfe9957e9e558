use Rattle.std.proofs.Common.{◌≡◌, ◌≤◌, ◌++◌, true, map, drop, string_bytes}
use Rattle.zeta_model.specs.Words.{ends_with_y}
use Rattle.poly_print.specs.Polynomials.{monomial_text, power_text, powers_from}
use Rattle.poly_print.proofs.TextLemmas.{rest_text}
use Rattle.poly_print.proofs.monomial.push_monomial.Given as goal

abbrev pub invariant-loop-i : goal.invariant-loop-i
invariant-loop-i l = record {
  text : string_bytes l.text ++ rest_text 42 l.first (map power_text (powers_from l.word l.power (drop l.i l.p)))
      ≡ string_bytes l.initial.text ++ monomial_text l.p;
  small : l.power ≤ l.i;
  ends : ends_with_y l.word ≡ true;
}
