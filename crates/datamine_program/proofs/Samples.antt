-- How many lines a sample has, and its line from its counts.
use Rattle.std.proofs.Common.{◌≡◌, ℕ, zero, suc, ◌+◌, ◌-◌, ◌<◌, ◌≤◌, List, length, refl, sym, ap, ◌∙◌, arith}
use Rattle.std.specs.Prelude.{◌*◌, ◌%◌, map}
use Rattle.std.proofs.lemmas.List.{length-map}
use Rattle.zeta_model.specs.declared.Letter.{Letter}
use Rattle.zeta_model.specs.WordLists.{binomial, binomial_sum, admissible_within}
use Rattle.zeta_model.proofs.WordListLaws.{length-admissible_within}
use Rattle.page_codec.specs.declared.params.Params.{Params}
use Rattle.line_samples.specs.Samples.{lines_from, sample_lines, terms_drawn, state_after}
use Rattle.line_samples.specs.Counts.{zero_count, distinct_count, term_count}
use Rattle.whole_runs.specs.Texts.{sample_line}
use Rattle.datamine_program.specs.Inner.{counts_text, IsSampleText}

length-lines_from : (words : List (List Letter)) (k s : ℕ) → length (lines_from words k s) ≡ k
length-lines_from words zero s = refl
length-lines_from words (suc k) s = ap suc (length-lines_from words k (state_after (1 + 2 * terms_drawn s) s))

length-sample : (reply : List ℕ → List ℕ) (words : List (List Letter)) (seed k : ℕ) → length (map reply (sample_lines words seed k)) ≡ k
length-sample reply words seed k = length-map (sample_lines words seed k) reply ∙ length-lines_from words k (seed % 65537)

sample_line-counts : (rows columns number zeros distinct terms : ℕ) (reply : List ℕ → List ℕ) (words : List (List Letter)) (seed : ℕ)
    → zeros ≡ zero_count (map reply (sample_lines words seed number))
    → distinct ≡ distinct_count (map reply (sample_lines words seed number))
    → terms ≡ term_count (map reply (sample_lines words seed number))
    → counts_text rows columns number zeros distinct terms ≡ sample_line rows columns (map reply (sample_lines words seed number))
sample_line-counts rows columns number zeros distinct terms reply words seed z d t =
    let n = sym (length-sample reply words seed number) in
    λ i. counts_text rows columns (n i) (z i) (d i) (t i)

-- the line of what was counted is that of the sample
pub is_sample_text : (params : Params) (rows columns number zeros distinct terms : ℕ) (reply : List ℕ → List ℕ) (words : List (List Letter)) (seed : ℕ)
    → words ≡ admissible_within params.weight params.depth
    → zeros ≡ zero_count (map reply (sample_lines words seed number))
    → distinct ≡ distinct_count (map reply (sample_lines words seed number))
    → terms ≡ term_count (map reply (sample_lines words seed number))
    → (text : List ℕ) → text ≡ counts_text rows columns number zeros distinct terms → IsSampleText params seed number rows columns reply text
is_sample_text params rows columns number zeros distinct terms reply words seed all z d t text is =
    is ∙ sample_line-counts rows columns number zeros distinct terms reply words seed z d t
    ∙ ap (λ ws. sample_line rows columns (map reply (sample_lines ws seed number))) all

binomial_sum-some : (n d : ℕ) → 0 < binomial_sum n (suc d)
unfolding binomial binomial_sum
binomial_sum-some n zero = omega arith
binomial_sum-some n (suc d) = omega (arith, binomial_sum-some n d)

-- a table has words
pub some_words : (w d : ℕ) → 2 ≤ w → 1 ≤ d → 0 < length (admissible_within w d)
some_words w zero least some = absurd (omega arith)
some_words w (suc d) least some = omega (arith, length-admissible_within w (suc d) least, binomial_sum-some (w - 2) d)
