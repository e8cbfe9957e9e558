use Rattle.std.proofs.Common.{◌≡◌, ◌≤◌, map, take}
use Rattle.zeta_model.specs.Sums.{sum_of}
use Rattle.zeta_model.proofs.word_list.WordList.count.Given as goal

-- the places among the words that were seen, and no more of them than words
abbrev pub invariant-loop-other : goal.invariant-loop-other
invariant-loop-other l = record {
  counted : l.places ≡ sum_of (map (λ w. w.items) (take l.other-index l.other-items)) l.word;
  bounded : l.places ≤ l.other-index;
}
