use Rattle.std.proofs.Common.{◌≡◌, ◌++◌, map, take, Some}
use Rattle.zeta_model.specs.Product.{behind}
use Rattle.zeta_model.proofs.product.add_behind.Given as goal

abbrev pub invariant-loop-tail : goal.invariant-loop-tail
invariant-loop-tail l = l.words ≡ l.initial.words ++ behind (Some l.front) (map (λ w. w.items) (take l.tail-index l.tail-items))
