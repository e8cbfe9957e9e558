use Rattle.std.proofs.Common.{◌≡◌, ℕ, ◌<◌, ◌≤◌, ◌==◌, ◌↔◌, Some, Result, Err, List, [], length, get_or, sum, All, ap, arith}
use Rattle.std.specs.List.{position}
use Rattle.std.specs.Result.{IsErrOf}
use Rattle.std.proofs.lemmas.Bool.{eqb-true}
use Rattle.std.proofs.lemmas.List.Quantifiers.{position-Some}
use Rattle.zeta_model.specs.declared.Letter.{Letter}
use Rattle.word_letters.specs.declared.fault.IndexFault.{IndexFault}
use Rattle.word_letters.specs.declared.fault.IndexFault.TheVariants.{EmptyIndex, ZeroIndex, TooLong}
use Rattle.zeta_expr.proofs.powers.word_of.Goals as goal

not_zero : (ks : List ℕ) (i : ℕ) → position (λ k. k == 0) ks ≡ Some i → All (λ k. 0 < k) ks → ⊥
not_zero ks i e a =
    let p = position-Some (λ k. k == 0) ks i 0 e in
    let z : get_or ks i 0 ≡ 0 = eqb-true _ _ p.1 in
    absurd (omega (arith, a i 0 p.0))

refused : (ks : List ℕ) (r : Result (List Letter) IndexFault) (e : IndexFault) → r ≡ Err e → (IsErrOf r EmptyIndex ↔ (ks ≡ [])) → ((i : ℕ)
    → IsErrOf r (ZeroIndex i) ↔ (position (λ k. k == 0) ks ≡ Some i)) → ((n : ℕ) → IsErrOf r (TooLong n) ↔ (All (λ k. 0 < k) ks × (n
    ≡ sum ks) × (24 < n))) → 0 < length ks → All (λ k. 0 < k) ks → sum ks ≤ 24 → ⊥
refused ks r EmptyIndex e p q s some a l = let z : length ks ≡ 0 = ap length (p.0 e) in absurd (omega arith)
refused ks r (ZeroIndex i) e p q s some a l = not_zero ks i ((q i).0 e) a
refused ks r (TooLong n) e p q s some a l = let h = (s n).0 e in let x = h.1 in let y = h.2 in absurd (omega arith)

pub unreachable-requires : goal.unreachable-requires
unreachable-requires c =
    refused c.args.index.now c.from_index.result c.in-Err.field-0 c.in-Err.is c.from_index.ensures.empty_index c.from_index.ensures.zero_index
    c.from_index.ensures.too_long c.requires.some c.requires.positive c.requires.fits
