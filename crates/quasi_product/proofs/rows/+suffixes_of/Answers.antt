use Rattle.std.proofs.Common.{◌≡◌, ◌++◌, [], ◌∷◌, length, ap, ◌∙◌, arith}
use Rattle.quasi_product.specs.Inner.{IsHead}
use Rattle.quasi_product.specs.declared.rows.Suffix.{Suffix}
use Rattle.quasi_product.proofs.RowLemmas.{AreSuffixes-empty, AreSuffixes-push, last-push, within-push, nothing}
use Rattle.quasi_product.proofs.rows.+suffixes_of.Goals as goal

pub returns-then-weight-eq0 : goal.returns-then-weight-eq0
returns-then-weight-eq0 g t c =
    let s : Suffix = record { word = c.args.w; letter = c.args.w } in
    let all : c.push.new.self.items ≡ s ∷ [] = c.in_ok-push.ensures.items ∙ ap (λ xs. xs ++ s ∷ []) c.new-suffixes.ensures.items in
    record {
      suffixes = AreSuffixes-empty g.L.Letters.alphabet s c.push.new.self.items all
          (nothing c.args.w (omega (arith, c.weight.ensures.length, c.if-weight-eq0.true)));
      within = within-push [] c.push.new.self.items s 0 (length c.args.w) all (λ k d h. absurd (omega arith)) (omega arith) (omega arith);
      last = λ d. last-push [] c.push.new.self.items s d all;
    }

pub returns : goal.returns
returns g t c =
    let s : Suffix = record { word = c.args.w; letter = c.cut-letter.result.0 } in
    let head : IsHead g.L.Letters.alphabet s =
    record {
      covers = c.requires.covers;
      some = omega (arith, c.weight.ensures.length, c.if-weight-eq0.false);
      letter =
          c.cut-letter.ensures.letter;
      first = c.cut-letter.ensures.first;
    } in
    record {
      suffixes = AreSuffixes-push g.L.Letters.alphabet c.in_ok-suffixes.suffixes.items c.push-2.new.self.items s c.in_ok-push-2.ensures.items
          c.in_ok-suffixes.ensures.suffixes head (λ d. c.in_ok-suffixes.ensures.last d ∙ c.cut-letter.ensures.rest);
      within = within-push c.in_ok-suffixes.suffixes.items c.push-2.new.self.items s (length c.cut-letter.result.1)
          (length c.args.w) c.in_ok-push-2.ensures.items c.in_ok-suffixes.ensures.within (omega (arith, c.cut-letter.ensures.weights)) (omega arith);
      last = λ d. last-push c.in_ok-suffixes.suffixes.items c.push-2.new.self.items s d c.in_ok-push-2.ensures.items;
    }
