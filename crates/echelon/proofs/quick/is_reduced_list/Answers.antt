use Rattle.std.proofs.Common.{◌≡◌, ◌<◌, sym, rules}
use Rattle.echelon.proofs.QuickPlaces.{leads_rising}
use Rattle.echelon.proofs.quick.is_reduced_list.Goals as goal

pub lead_columns_are_clear-requires : goal.lead_columns_are_clear-requires
lead_columns_are_clear-requires g c =
    record { rising = leads_rising (g.R.Ring.value c.args.ring.now) g.R.Ring.zero c.args.rows.now (c.all_lead.ensures.leads (search rules)) }

pub returns : goal.returns
returns g c = record {
  reduced = λ clear i h.
      let leads = c.all_lead.ensures.leads (search rules) i h in
      record {
        some = leads.some;
        is_row = leads.is_row;
        one = leads.one;
        rising = leads.rising;
        clear = λ k l ne. c.lead_columns_are_clear.ensures.clear clear (g.R.Ring.value c.args.ring.now) k l i h (λ e. ne (sym e));
      };
}
