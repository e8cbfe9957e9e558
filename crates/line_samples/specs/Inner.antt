-- What the steps of a sample keep. No public clause cites these, so a reader need not believe them.
use Rattle.std.specs.Prelude.{◌≡◌, ℕ, List, length, Vec}
use Rattle.std.specs.List.{list_any}
use Rattle.std.specs.HashSet.{HashSet}
use Rattle.std.specs.Str.{bytes_eq}
use Rattle.std.specs.declared.alloc.Global.{Global}
use Rattle.std.specs.declared.hash.FoldHasher.{FoldHasher}
use Rattle.std.specs.declared.hash.BuildHasherDefault.{BuildHasherDefault}
use Rattle.line_samples.specs.Counts.{zero_count, distinct_count, term_count}

abbrev pub Texts : Type 0
Texts = HashSet (Vec ℕ Global) (BuildHasherDefault FoldHasher)

-- what was counted of the replies so far
pub record IsTallyOf (replies : List (List ℕ)) (seen : Texts) (zero terms : ℕ) : Type 0 where
  pub zero_is : zero ≡ zero_count replies
  pub terms_is : terms ≡ term_count replies
  pub distinct_is : length seen.keys ≡ distinct_count replies
  pub seen_is : (q : List ℕ) → list_any (λ v. bytes_eq q v.items) seen.keys ≡ list_any (bytes_eq q) replies
