use Rattle.std.proofs.Common.{◌≡◌, ◌*◌, ◌%◌, ◌^◌, sym, ap, ◌∙◌, arith}
use Rattle.std.proofs.lemmas.Nat.{mul-mod}
use Rattle.odd_residues.proofs.odd_mod.OddMod.new.Goals as goal

pub invariant_of-result : goal.invariant_of-result
invariant_of-result c =
    let m = c.args.m in
    let same : c.in_ok-plain.plain.modulus ≡ m = c.in_ok-plain.ensures.ok in
    let one : c.of-one.result ≡ 2 ^ 64 % m = c.of-one.ensures.value ∙ ap (λ t. 2 ^ 64 % t) same in
    record {
      from = omega (arith, c.in_ok-plain.plain.from);
      below = omega (arith, c.in_ok-plain.plain.below);
      odd = omega arith;
      negated_is = c.negated_inverse.ensures;
      one_is = one;
      square_is = c.mul.ensures ∙ ap (λ t. c.of-one.result * c.of-one.result % t) same ∙ ap (λ t. t * t % m) one ∙ sym (mul-mod (2 ^ 64) (2 ^ 64) m);
      plain_is = same;
    }
