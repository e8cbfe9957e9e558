use Rattle.std.proofs.Common.{◌<◌, ◌%◌, [], length, ap, sym, ◌∙◌, arith}
use Rattle.std.proofs.Math.Nat.{zero-mod}
use Rattle.std.proofs.lemmas.Grind.{common_steps}
use Rattle.zeta_model.specs.Regularise.{reg_behind}
use Rattle.zeta_model.proofs.RegularBehind.{reg_behind-nothing, reg_behind-empty}
use Rattle.zeta_model.proofs.regularise.only_y.Goals as goal
use Rattle.zeta_model.proofs.regularise.only_y.Goals.{else-j-eq0-via-then-j-eq0+else-is_empty, else-j-eq0-via-else-j-eq0}

pub returns-else-j-eq0 : goal.returns-else-j-eq0
returns-else-j-eq0 c =
    elim c.else-j-eq0.branch [
      | else-j-eq0-via-then-j-eq0+else-is_empty w ↦
          let some : 0 < length c.args.t.now = grind (arith, common_steps, w.is_empty.ensures, w.if-is_empty.false) in
          let none = ap (λ j. reg_behind c.args.m j [] c.args.t.now) w.if-j-eq0.true ∙ reg_behind-empty c.args.m c.args.t.now some in
          sym (ap (λ n. n % c.args.m) none ∙ zero-mod c.args.m)
      | else-j-eq0-via-else-j-eq0 w ↦
          let none = reg_behind-nothing c.args.m c.args.j c.args.t.now (omega (arith, w.if-j-eq0.false)) in
          sym (ap (λ n. n % c.args.m) none ∙ zero-mod c.args.m)
    ]
