use Rattle.std.proofs.Common.{◌≡◌, ◌+◌, ◌≤◌, ◌++◌, length, map, take, drop}
use Rattle.std.specs.Fmt.{decimal}
use Rattle.zeta_model.specs.Indices.{index_from, index_of}
use Rattle.dual_reply.proofs.TextLemmas.{rest_text}
use Rattle.dual_reply.proofs.text.push_index.Given as goal

abbrev pub invariant-loop-i : goal.invariant-loop-i
invariant-loop-i l = record {
  text : l.out.items ++ rest_text 44 l.first (map decimal (index_from l.run (drop l.i l.word)))
      ≡ l.initial.out.items ++ rest_text 44 l.initial.first (map decimal (index_of l.word));
  small : l.run ≤ l.i + 1;
  kept : take (length l.initial.out.items) l.out.items ≡ l.initial.out.items;
}
