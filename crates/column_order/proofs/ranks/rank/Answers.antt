use Rattle.std.proofs.Common.{◌≡◌, ◌+◌, true, false, cond, sym, ap, ◌∙◌}
use Rattle.column_order.specs.Ranks.{is_among, mode_rank}
use Rattle.column_order.proofs.Preferring.{among-contained, among-not}
use Rattle.column_order.proofs.ranks.rank.Goals as goal

pub returns-then-contains-clause-rank : goal.returns-then-contains-clause-rank
returns-then-contains-clause-rank c =
    let known : is_among c.args.preference.now.words c.args.w ≡ true =
    among-contained c.args.preference.now.words c.args.w (c.contains.ensures.0 c.if-contains.true) in
    ap (λ b. cond b 0 (1 + mode_rank c.args.preference.now.mode c.args.w)) (sym known)

pub returns-clause-rank : goal.returns-clause-rank
returns-clause-rank c =
    let known : is_among c.args.preference.now.words c.args.w ≡ false =
    among-not c.args.preference.now.words c.args.w (λ h. let both : true ≡ false = sym (c.contains.ensures.1 h) ∙ c.if-contains.false in cc) in
    ap (λ n. 1 + n) c.mode_rank.ensures.rank ∙ ap (λ b. cond b 0 (1 + mode_rank c.args.preference.now.mode c.args.w)) (sym known)
