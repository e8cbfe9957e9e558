use Rattle.std.proofs.Common.{◌≡◌, ◌<◌, ◌%◌, ◌+◌, ◌-◌, length, take, drop, refl, ap, sym, ◌∙◌, arith}
use Rattle.std.proofs.lemmas.List.{take_all, length-drop}
use Rattle.zeta_model.proofs.RegularBehind.{reg_of-all_y, reg_of-places}
use Rattle.zeta_model.proofs.regularise.reg_coefficient.Goals as goal

pub returns-then-j-w : goal.returns-then-j-w
returns-then-j-w c = c.only_y.ensures
    ∙ ap (λ n. n % c.args.m) (sym (reg_of-all_y c.args.m c.leading_y-j.result c.args.w.now c.args.t.now c.leading_y-j.ensures.front c.if-j-w.true))

pub returns : goal.returns
returns c =
    let within = c.leading_y-j.ensures.within in
    let other = c.if-j-w.false in
    let inside : c.leading_y-j.result < length c.args.w.now = omega arith in
    let behind : take (length c.args.w.now - (c.leading_y-j.result + 1)) (drop (c.leading_y-j.result + 1) c.args.w.now)
    ≡ drop (c.leading_y-j.result + 1) c.args.w.now = take_all _ _ (omega (arith, length-drop (c.leading_y-j.result + 1) c.args.w.now)) in
    c.times.ensures ∙ ap (λ n. n % c.args.m)
    (reg_of-places c.args.m c.leading_y-j.result c.sign.result c.count.result c.args.w.now c.args.t.now
    (take c.leading_y-j.result c.args.w.now) _ c.in_ok-words.words c.leading_y-j.ensures.front c.leading_y-j.ensures.stops inside c.sign.ensures c.count.ensures c.in_ok-words.ensures refl behind)
