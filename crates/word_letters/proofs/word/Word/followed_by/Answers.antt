use Rattle.std.proofs.Common.{◌+◌, ◌≤◌, length, refl, arith}
use Rattle.word_letters.proofs.Packings.{letters-append-lt, IsPacked-append, word_of-append}
use Rattle.word_letters.proofs.word.Word.followed_by.Goals as goal
use Rattle.word_letters.proofs.word.Word.followed_by.Goals.{After-weight}

fits : (c : After-weight) → c.weight-front.result + c.weight.result ≤ 24
fits c = omega (arith, c.requires, c.weight-front.ensures.length, c.weight.ensures.length)

pub overflow_mul-result : goal.overflow_mul-result
overflow_mul-result c =
    omega (
      arith,
      letters-append-lt _ _ c.args.self c.args.v
          c.self.invariant c.v.invariant c.self.view_is c.v.view_is
          c.weight-front.result (length c.args.v) c.weight-front.ensures.length refl (omega (arith, c.requires, c.weight-front.ensures.length)),
    )

pub overflow_add-result-2 : goal.overflow_add-result-2
overflow_add-result-2 c =
    omega (
      arith,
      letters-append-lt _ _ c.args.self c.args.v
          c.self.invariant c.v.invariant c.self.view_is c.v.view_is
          c.weight-front.result c.weight.result c.weight-front.ensures.length c.weight.ensures.length (fits c),
    )

pub invariant_of-result : goal.invariant_of-result
invariant_of-result c =
    IsPacked-append _ _ c.args.self c.args.v
    c.self.invariant c.v.invariant c.self.view_is c.v.view_is
    c.weight-front.result c.weight.result c.weight-front.ensures.length c.weight.ensures.length (fits c)

pub returns : goal.returns
returns c =
    word_of-append _ _ c.args.self c.args.v
    c.self.invariant c.v.invariant c.self.view_is c.v.view_is
    c.weight-front.result c.weight.result c.weight-front.ensures.length c.weight.ensures.length (fits c)
