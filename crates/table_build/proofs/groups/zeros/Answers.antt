use Rattle.std.proofs.Common.{◌≡◌, [], ◌∷◌, ◌++◌, get_or, ◌∙◌, ap, arith}
use Rattle.table_build.proofs.SealSteps.{zeros_more}
use Rattle.table_build.proofs.groups.zeros.Goals as goal

pub loop-alloc-preserved : goal.loop-alloc-preserved
loop-alloc-preserved g c =
    let xs = c.loop-alloc.zeros.items in
    let pushed : c.push.new.self.items ≡ xs ++ [] ∷ [] = c.in_ok-push.ensures.items ∙ ap (λ r. xs ++ r ∷ []) c.zero.ensures in
    record {
      few = omega (arith, c.in_ok-push.ensures.len, c.loop-alloc-test.true);
      zero = λ i. ap (λ ys. get_or ys i []) pushed ∙ zeros_more xs c.loop-alloc.invariant.zero i;
    }
