use Rattle.std.proofs.Common.{◌≡◌, ◌++◌, ℕ, length, drop, string_bytes, true}
use Rattle.sparse_rows.specs.Entries.{IsBelow, AllIn}
use Rattle.fraction_print.specs.FractionTexts.{Coefficient, AreCoefficients}
use Rattle.fraction_print.proofs.TermSteps.{rest_terms}
use Rattle.fraction_print.proofs.row.push_fractions.Given as goal

abbrev pub invariant-loop-entry : goal.invariant-loop-entry
invariant-loop-entry g l = record {
  text : (f : ℕ → Coefficient) → AreCoefficients (g.R.Ring.modulus l.ring) f
      → string_bytes l.text ++ rest_terms (g.R.Ring.value l.ring) (g.R.Ring.has l.ring) l.columns.list l.first f (drop l.entry-index l.entries)
      ≡ string_bytes l.initial.text ++ rest_terms (g.R.Ring.value l.ring) (g.R.Ring.has l.ring) l.columns.list true f l.entries;
  below : IsBelow (λ col. col) (length l.columns.list) (drop l.entry-index l.entries);
  in_ring : AllIn (g.R.Ring.has l.ring) (drop l.entry-index l.entries);
}
