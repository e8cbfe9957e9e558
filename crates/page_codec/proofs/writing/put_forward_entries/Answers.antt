use Rattle.std.proofs.Common.{subst, sym}
use Rattle.page_codec.specs.Spelling.{forward_entry}
use Rattle.page_codec.specs.Inner.{HasRoom, IsShort}
use Rattle.page_codec.proofs.Appending.{room_next, wrote_next}
use Rattle.page_codec.proofs.Chains.{item_has}
use Rattle.page_codec.proofs.writing.put_forward_entries.Goals as goal

pub put_forward_entry-requires : goal.put_forward_entry-requires
put_forward_entry-requires c =
    let short = item_has (λ e. IsShort e.row e.combination) c.args.entries.now c.loop-entry.entry-index c.entry-item.result c.loop-entry-test.true
    c.entry-item.is c.requires.short in
    record {
      row = short.0;
      combination = short.1;
      room =
          subst (λ e. HasRoom c.loop-entry.out (forward_entry e)) (sym c.entry-item.is)
          (room_next forward_entry c.args.entries.now c.loop-entry.entry-index c.entry-item.result c.args.out.now c.loop-entry.out c.requires.room
          c.loop-entry.invariant c.loop-entry-test.true);
    }

pub loop-entry-preserved : goal.loop-entry-preserved
loop-entry-preserved c =
    wrote_next forward_entry c.args.entries.now c.loop-entry.entry-index c.entry-item.result c.args.out.now c.loop-entry.out c.put_forward_entry.new.out
    c.loop-entry.invariant c.put_forward_entry.ensures c.loop-entry-test.true c.entry-item.is
