-- Lines, from the pieces that are put at their end.
use Rattle.std.proofs.Common.{◌≡◌, ℕ, List, [], ◌∷◌, ◌++◌, ap, ◌∙◌, append_assoc}
use Rattle.std.specs.Prelude.{codes, decimal}
use Rattle.zeta_model.specs.declared.Letter.{Letter}
use Rattle.zeta_model.specs.Indices.{word_text}
use Rattle.whole_runs.specs.Texts.{word_line}
use Rattle.merge_runs.specs.Lines.{bad_row_line, not_reduced_line, leaves_line}

-- two numbers, each behind a text, and a third text
two_pieces : (first second third : List ℕ) (a b c : ℕ) (none begun at whole : List ℕ) → c ≡ b → none ≡ [] → begun ≡ none ++ (first ++ decimal a)
    → at ≡ begun ++ (second ++ decimal c) → whole ≡ at ++ third → whole ≡ first ++ (decimal a ++ (second ++ (decimal b ++ third)))
two_pieces first second third a b c none begun at whole same z is_begun is_at is_whole =
    let begins : begun ≡ first ++ decimal a = is_begun ∙ ap (λ t. t ++ (first ++ decimal a)) z in
    is_whole ∙ ap (λ t. t ++ third) (is_at ∙ (λ i. begins i ++ (second ++ decimal (same i))))
    ∙ append_assoc (first ++ decimal a) (second ++ decimal b) third
    ∙ append_assoc first (decimal a) ((second ++ decimal b) ++ third)
    ∙ ap (λ t. first ++ (decimal a ++ t)) (append_assoc second (decimal b) third)

pub bad_row_pieces : (file i number : ℕ) (none begun at whole : List ℕ) → number ≡ i → none ≡ [] → begun ≡ none ++ (codes "not a share: file " ++ decimal file)
    → at ≡ begun ++ (codes " row " ++ decimal number) → whole ≡ at ++ (codes " is not its combination" ++ 10 ∷ []) → whole ≡ bad_row_line file i
bad_row_pieces file i number = two_pieces (codes "not a share: file ") (codes " row ") (codes " is not its combination" ++ 10 ∷ []) file i number

pub not_reduced_pieces : (file i number : ℕ) (none begun at whole : List ℕ) → number ≡ i → none ≡ []
    → begun ≡ none ++ (codes "not a share: file " ++ decimal file) → at ≡ begun ++ (codes " row " ++ decimal number)
    → whole ≡ at ++ (codes " is not reduced" ++ 10 ∷ []) → whole ≡ not_reduced_line file i
not_reduced_pieces file i number = two_pieces (codes "not a share: file ") (codes " row ") (codes " is not reduced" ++ 10 ∷ []) file i number

pub leaves_pieces : (file n number : ℕ) (text none begun at leaves left whole : List ℕ) → number ≡ n → none ≡ []
    → begun ≡ none ++ (codes "not a share: file " ++ decimal file) → at ≡ begun ++ (codes " relation " ++ decimal number)
    → leaves ≡ at ++ codes " leaves " → left ≡ leaves ++ text → whole ≡ left ++ 10 ∷ [] → whole ≡ leaves_line file n text
leaves_pieces file n number text none begun at leaves left whole same z is_begun is_at is_leaves is_left is_whole =
    let parts : leaves ≡ codes "not a share: file " ++ (decimal file ++ (codes " relation " ++ (decimal n ++ codes " leaves "))) =
    two_pieces (codes "not a share: file ") (codes " relation ") (codes " leaves ") file n number none begun at leaves same z is_begun is_at is_leaves in
    let first : List ℕ = codes "not a share: file " in
    let second : List ℕ = codes " relation " in
    let third : List ℕ = codes " leaves " in
    is_whole ∙ ap (λ t. t ++ 10 ∷ []) (is_left ∙ ap (λ t. t ++ text) parts)
    ∙ append_assoc (first ++ (decimal file ++ (second ++ (decimal n ++ third)))) text (10 ∷ [])
    ∙ append_assoc first (decimal file ++ (second ++ (decimal n ++ third))) (text ++ 10 ∷ [])
    ∙ ap (λ t. first ++ t) (append_assoc (decimal file) (second ++ (decimal n ++ third)) (text ++ 10 ∷ []))
    ∙ ap (λ t. first ++ (decimal file ++ t)) (append_assoc second (decimal n ++ third) (text ++ 10 ∷ []))
    ∙ ap (λ t. first ++ (decimal file ++ (second ++ t))) (append_assoc (decimal n) third (text ++ 10 ∷ []))

pub word_pieces : (value : ℕ) (word : List Letter) (none begun at left whole : List ℕ) → none ≡ [] → begun ≡ none ++ (codes "no inverse: " ++ decimal value)
    → at ≡ begun ++ codes " at word " → left ≡ at ++ word_text word → whole ≡ left ++ 10 ∷ [] → whole ≡ word_line value word
word_pieces value word none begun at left whole z is_begun is_at is_left is_whole =
    let first : List ℕ = codes "no inverse: " in
    let second : List ℕ = codes " at word " in
    let text : List ℕ = word_text word in
    let begins : begun ≡ first ++ decimal value = is_begun ∙ ap (λ t. t ++ (first ++ decimal value)) z in
    is_whole ∙ ap (λ t. t ++ 10 ∷ []) (is_left ∙ ap (λ t. t ++ text) (is_at ∙ ap (λ t. t ++ second) begins))
    ∙ append_assoc ((first ++ decimal value) ++ second) text (10 ∷ [])
    ∙ append_assoc (first ++ decimal value) second (text ++ 10 ∷ [])
    ∙ append_assoc first (decimal value) (second ++ (text ++ 10 ∷ []))
