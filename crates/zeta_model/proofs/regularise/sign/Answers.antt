use Rattle.std.proofs.Common.{◌≡◌, ℕ, zero, suc, ◌-◌, ◌%◌, ◌≢◌, refl, arith}
use Rattle.zeta_model.specs.Regularise.{sign_of}
use Rattle.zeta_model.proofs.regularise.sign.Goals as goal

sign_of-even : (m j : ℕ) → j % 2 ≡ 0 → 1 ≡ sign_of m j
sign_of-even m zero e = refl
sign_of-even m (suc zero) e = absurd (omega arith)
sign_of-even m (suc (suc j)) e = sign_of-even m j (omega arith)

sign_of-odd : (m j : ℕ) → j % 2 ≢ 0 → m - 1 ≡ sign_of m j
sign_of-odd m zero e = absurd (e refl)
sign_of-odd m (suc zero) e = refl
sign_of-odd m (suc (suc j)) e = sign_of-odd m j (omega arith)

pub returns-then-j-eq0 : goal.returns-then-j-eq0
returns-then-j-eq0 c = sign_of-even c.args.m c.args.j c.if-j-eq0.true

pub returns-else-j-eq0 : goal.returns-else-j-eq0
returns-else-j-eq0 c = sign_of-odd c.args.m c.args.j c.if-j-eq0.false
