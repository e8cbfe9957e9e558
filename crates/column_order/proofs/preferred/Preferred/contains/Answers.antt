use Rattle.std.proofs.Common.{◌≡◌, sym, ap, ◌∙◌}
use Rattle.column_order.specs.Ranks.{is_among}
use Rattle.column_order.proofs.Preferring.{among-contained, contained-among}
use Rattle.column_order.proofs.preferred.Preferred.contains.Goals as goal

pub returns : goal.returns
returns c =
    let value : c.contains.result ≡ is_among c.args.self.now c.args.w = c.contains.ensures.value ∙ ap (λ words. is_among words c.args.w) c.self.view_is in
    (λ t. contained-among c.args.self.now c.args.w (sym value ∙ t), λ h. value ∙ among-contained c.args.self.now c.args.w h)
