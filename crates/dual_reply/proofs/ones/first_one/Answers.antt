use Rattle.std.proofs.Common.{◌≡◌, ℕ, suc, ◌+◌, ◌<◌, Bool, false, cond, eqb, Option, Some, None, List}
use Rattle.std.proofs.Common.{◌∷◌, length, drop, get_or, refl, sym, ap, ◌∙◌, add-one, arith}
use Rattle.std.specs.Prelude.{not, ◌&&◌, ◌||◌, option_map}
use Rattle.std.proofs.Math.Seq.{drop-cons}
use Rattle.std.proofs.lemmas.List.{take_rest}
use Rattle.line_tokens.specs.Tokens.{is_blank}
use Rattle.dual_reply.specs.Refusals.{begins_with_digit}
use Rattle.dual_reply.specs.Inner.{first_one}
use Rattle.dual_reply.proofs.ones.first_one.Goals as goal

one_further : (i : ℕ) (o : Option ℕ) → option_map (λ n. n + (i + 1)) o ≡ option_map (λ n. n + i) (option_map suc o)
one_further i None = refl
one_further i (Some n) = let e : n + (i + 1) ≡ suc n + i = omega arith in ap Some e

step : (opened next : Bool) (line : List ℕ) (i : ℕ) (whole : Option ℕ) → i < length line
    → (eqb (get_or line i 0) 49 && not (begins_with_digit (drop (i + 1) line)) && opened) ≡ false
    → next ≡ (eqb (get_or line i 0) 40 || (is_blank (get_or line i 0) && opened))
    → option_map (λ n. n + i) (first_one opened (drop i line)) ≡ whole
    → option_map (λ n. n + (i + 1)) (first_one next (drop (i + 1) line)) ≡ whole
step opened next line i whole h e f w =
    let b = get_or line i 0 in
    let rest = drop (i + 1) line in
    let head : drop i line ≡ b ∷ rest = drop-cons line i 0 h ∙ ap (λ j. b ∷ drop j line) (sym (add-one i)) in
    let there = first_one (eqb b 40 || (is_blank b && opened)) rest in
    ap (λ o. option_map (λ n. n + (i + 1)) (first_one o rest)) f
    ∙ one_further i there
    ∙ ap (λ t. option_map (λ n. n + i) (cond t (Some 0) (option_map suc there))) (sym e)
    ∙ ap (λ l. option_map (λ n. n + i) (first_one opened l)) (sym head)
    ∙ w

pub loop-at-preserved : goal.loop-at-preserved
loop-at-preserved c =
    let line = c.args.line.now in
    let i = c.loop-at.at in
    step c.loop-at.opened c.opens-opened.result line i (first_one false line) c.loop-at-test.true
    (ap (λ l. eqb (get_or line i 0) 49 && not (begins_with_digit l) && c.loop-at.opened) (sym (take_rest line (i + 1)))
    ∙ sym c.is_one_here.ensures ∙ c.if-is_one_here.false)
    c.opens-opened.ensures c.loop-at.invariant
