-- The list of a sum's terms in the order in which they are printed.
use Rattle.std.specs.Prelude.{ℕ, ◌<◌, List, length}
use Rattle.std.specs.List.{AllByRecursion}
use Rattle.std.specs.List.Sorted.{IsStrictlySortedBy}
use Rattle.std.specs.Map.{keys_of}
use Rattle.std.specs.declared.cmp.Ordering.{Ordering}
use Rattle.std.specs.Ordering.{nat_cmp, on, then_cmp}
use Rattle.zeta_model.specs.declared.Letter.{Letter}
use Rattle.zeta_model.specs.Words.{word_cmp}
use Rattle.zeta_model.specs.Sums.{SameSum}
use Rattle.word_sums.specs.Terms.{coefficient_of}
use Rattle.dual_reply.specs.Sums.{folded_sum}
use Rattle.dual_reply.specs.declared.words.Signed.{Signed}

-- a word with its residue
abbrev pub Entry : Type 0
Entry = List Letter × ℕ

-- by weight, and then by the order of words
abbrev pub listing_cmp : List Letter → List Letter → Ordering
listing_cmp = then_cmp (on length nat_cmp) word_cmp

-- the words increase, the residues are from 1 to m - 1, and they are the coefficients of the folded sum
pub record IsListing (m : ℕ) (terms : List Signed) (es : List Entry) : Type 0 where
  pub increasing : IsStrictlySortedBy listing_cmp (keys_of es)
  pub residues : AllByRecursion (λ e. (0 < e.1) × (e.1 < m)) es
  pub coefficients : SameSum m (coefficient_of (λ a. a) es) (folded_sum m terms)
