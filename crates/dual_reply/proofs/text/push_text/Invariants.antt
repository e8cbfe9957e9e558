use Rattle.std.proofs.Common.{◌≡◌, ◌++◌, length, map, take, drop}
use Rattle.dual_reply.specs.Reply.{entry_text}
use Rattle.dual_reply.proofs.TextLemmas.{rest_text}
use Rattle.dual_reply.proofs.text.push_text.Given as goal

abbrev pub invariant-loop-entry : goal.invariant-loop-entry
invariant-loop-entry l = record {
  text : l.out.items ++ rest_text 43 l.first (map entry_text (drop l.entry-index l.entries))
      ≡ l.initial.out.items ++ rest_text 43 l.initial.first (map entry_text l.entries);
  kept : take (length l.initial.out.items) l.out.items ≡ l.initial.out.items;
}
