-- The text of a row is spelled by the tokens of its terms.
use Rattle.std.proofs.Common.{◌≡◌, ℕ, ◌<◌, Bool, true, false, List, [], ◌∷◌, ◌++◌, length, map, get_or, refl, sym, ap, subst, ◌∙◌, append_assoc, arith}
use Rattle.std.specs.Prelude.{◌==◌, if◌then◌else◌, codes}
use Rattle.std.specs.List.{AllByRecursion, join_with_byte}
use Rattle.std.specs.Fmt.{decimal}
use Rattle.zeta_model.specs.declared.Letter.{Letter}
use Rattle.zeta_model.specs.Indices.{index_of}
use Rattle.line_tokens.specs.declared.marks.Mark.TheVariants.{Plus, Star, Caret, Open, Close, Comma, Letter as LetterMark}
use Rattle.line_tokens.specs.Tokens.{Token, mark, run, spelling, IsSpelled}
use Rattle.line_tokens.specs.Runs.{more_numbers, zeta_tokens}
use Rattle.zeta_expr.specs.Grammar.{WrittenFactor, number, zeta, power, WrittenTerm, factor_tokens, more_factors, term_tokens, more_terms, line_tokens}
use Rattle.poly_print.specs.Polynomials.{powers_of, power_text, term_text, row_text}
use Rattle.poly_print.proofs.TextLemmas.{behind_text, join-cons}

-- a zeta by the digits of its numbers, to a power
abbrev pub written_zeta : List (List ℕ) → ℕ → WrittenFactor
written_zeta [] k = number []
written_zeta (d ∷ ds) k = if k == 1 then zeta d ds else power d ds (decimal k)

abbrev pub written_power : List Letter × ℕ → WrittenFactor
written_power p = written_zeta (map decimal (index_of p.0)) p.1

abbrev pub written_term : List (List (List Letter)) → ℕ × ℕ → WrittenTerm
written_term columns e = record { negative = false; first = number (decimal e.1); more = map written_power (powers_of (get_or columns e.0 [])) }

pub put : (token : Token) (tokens : List Token) (rest : List ℕ) → IsSpelled tokens rest → IsSpelled (token ∷ tokens) (spelling token ++ rest)
put token tokens rest h = ([], rest, tt, refl, h)

spelled_numbers : (ds : List (List ℕ)) (tokens : List Token) (rest : List ℕ) → IsSpelled tokens rest
    → IsSpelled (more_numbers ds tokens) (behind_text 44 ds ++ 41 ∷ rest)
spelled_numbers [] tokens rest h = put (mark Close) tokens rest h
spelled_numbers (d ∷ ds) tokens rest h =
    subst (λ bytes. IsSpelled (more_numbers (d ∷ ds) tokens) (44 ∷ bytes)) (sym (append_assoc d (behind_text 44 ds) (41 ∷ rest)))
    (put (mark Comma) (run d ∷ more_numbers ds tokens) (d ++ (behind_text 44 ds ++ 41 ∷ rest)) (put (run d) (more_numbers ds tokens)
    (behind_text 44 ds ++ 41 ∷ rest) (spelled_numbers ds tokens rest h)))

-- the text of an index by the digits of its numbers
abbrev index_bytes : List (List ℕ) → List ℕ
index_bytes ds = codes "z(" ++ join_with_byte 44 ds ++ codes ")"

spelled_zeta : (d : List ℕ) (ds : List (List ℕ)) (tokens : List Token) (rest : List ℕ) → IsSpelled tokens rest
    → IsSpelled (zeta_tokens d ds tokens) (index_bytes (d ∷ ds) ++ rest)
spelled_zeta d ds tokens rest h =
    let same : (join_with_byte 44 (d ∷ ds) ++ 41 ∷ []) ++ rest ≡ d ++ (behind_text 44 ds ++ 41 ∷ rest) =
    append_assoc (join_with_byte 44 (d ∷ ds)) (41 ∷ []) rest ∙ ap (λ j. j ++ 41 ∷ rest) (join-cons 44 d ds)
    ∙ append_assoc d (behind_text 44 ds) (41 ∷ rest) in
    subst (λ bytes. IsSpelled (zeta_tokens d ds tokens) (122 ∷ 40 ∷ bytes)) (sym same)
    (put (mark LetterMark) (mark Open ∷ run d ∷ more_numbers ds tokens) _ (put (mark Open) (run d ∷ more_numbers ds tokens) _ (put (run d)
    (more_numbers ds tokens) _ (spelled_numbers ds tokens rest h))))

spelled_by : (d : List ℕ) (ds : List (List ℕ)) (k : ℕ) (b : Bool) (tokens : List Token) (rest : List ℕ) → IsSpelled tokens rest
    → IsSpelled (factor_tokens (if b then zeta d ds else power d ds (decimal k)) tokens) ((if b then index_bytes (d ∷ ds) else index_bytes (d ∷ ds) ++
    (codes "^" ++ decimal k)) ++ rest)
spelled_by d ds k true tokens rest h = spelled_zeta d ds tokens rest h
spelled_by d ds k false tokens rest h =
    subst (IsSpelled (zeta_tokens d ds (mark Caret ∷ run (decimal k) ∷ tokens))) (sym (append_assoc (index_bytes (d ∷ ds)) (94 ∷ decimal k) rest))
    (spelled_zeta d ds (mark Caret ∷ run (decimal k) ∷ tokens) (94 ∷ (decimal k ++ rest)) (put (mark Caret) (run (decimal k) ∷ tokens) (decimal k ++ rest)
    (put (run (decimal k)) tokens rest h)))

-- a power of a word that has some number
spelled_power : (p : List Letter × ℕ) (tokens : List Token) (rest : List ℕ) → 0 < length (index_of p.0) → IsSpelled tokens rest
    → IsSpelled (factor_tokens (written_power p) tokens) (power_text p ++ rest)
spelled_power p tokens rest s h = go (index_of p.0) s
  where
    go : (ks : List ℕ) → 0 < length ks → IsSpelled (factor_tokens (written_zeta (map decimal ks) p.1) tokens) ((if p.1 == 1 then index_bytes
        (map decimal ks) else index_bytes (map decimal ks) ++ (codes "^" ++ decimal p.1)) ++ rest)
    go [] s = absurd (omega arith)
    go (k ∷ ks) s = spelled_by (decimal k) (map decimal ks) p.1 (p.1 == 1) tokens rest h

abbrev pub HaveNumbers : List (List Letter × ℕ) → Type 0
HaveNumbers ps = AllByRecursion (λ p. 0 < length (index_of p.0)) ps

pub spelled_factors : (ps : List (List Letter × ℕ)) (tokens : List Token) (rest : List ℕ) → HaveNumbers ps → IsSpelled tokens rest
    → IsSpelled (more_factors (map written_power ps) tokens) (behind_text 42 (map power_text ps) ++ rest)
spelled_factors [] tokens rest s h = h
spelled_factors (p ∷ ps) tokens rest s h =
    let behind = behind_text 42 (map power_text ps) in
    subst (λ bytes. IsSpelled (more_factors (map written_power (p ∷ ps)) tokens) (42 ∷ bytes)) (sym (append_assoc (power_text p) behind rest))
    (put (mark Star) (factor_tokens (written_power p) (more_factors (map written_power ps) tokens)) (power_text p ++ (behind ++ rest))
    (spelled_power p (more_factors (map written_power ps) tokens) (behind ++ rest) s.0 (spelled_factors ps tokens rest s.1 h)))

pub starred_join : (ps : List (List Letter × ℕ)) → 0 < length ps → 42 ∷ join_with_byte 42 (map power_text ps) ≡ behind_text 42 (map power_text ps)
starred_join [] h = absurd (omega arith)
starred_join (p ∷ ps) h = ap (λ bytes. 42 ∷ bytes) (join-cons 42 (power_text p) (map power_text ps))

-- a column that is spelled: some powers, each of a word with some number
pub record IsSpelledColumn (p : List (List Letter)) : Type 0 where
  pub some : 0 < length (powers_of p)
  pub numbers : HaveNumbers (powers_of p)

module _ (columns : List (List (List Letter))) where
  spelled_term : (e : ℕ × ℕ) (tokens : List Token) (rest : List ℕ) → IsSpelledColumn (get_or columns e.0 []) → IsSpelled tokens rest
      → IsSpelled (term_tokens (written_term columns e) tokens) (term_text columns e ++ rest)
  spelled_term e tokens rest c h =
      let ps = powers_of (get_or columns e.0 []) in
      let behind = behind_text 42 (map power_text ps) in
      subst (IsSpelled (term_tokens (written_term columns e) tokens)) (sym (append_assoc (decimal e.1) behind rest)
      ∙ ap (λ bytes. (decimal e.1 ++ bytes) ++ rest) (sym (starred_join ps c.some)))
      (put (run (decimal e.1)) (more_factors (map written_power ps) tokens) (behind ++ rest) (spelled_factors ps tokens rest c.numbers h))

  spelled_terms : (es : List (ℕ × ℕ)) → AllByRecursion (λ e. IsSpelledColumn (get_or columns e.0 [])) es
      → IsSpelled (more_terms (map (written_term columns) es)) (behind_text 43 (map (term_text columns) es))
  spelled_terms [] c = tt
  spelled_terms (e ∷ es) c = put (mark Plus) (term_tokens (written_term columns e) (more_terms (map (written_term columns) es))) _ (spelled_term e
      (more_terms (map (written_term columns) es)) (behind_text 43 (map (term_text columns) es)) c.0 (spelled_terms es c.1))

  -- the text of some pairs is spelled by their terms, without a first sign
  pub spelled_row : (e : ℕ × ℕ) (es : List (ℕ × ℕ)) → AllByRecursion (λ e. IsSpelledColumn (get_or columns e.0 [])) (e ∷ es)
      → IsSpelled (line_tokens false (written_term columns e) (map (written_term columns) es)) (row_text columns (e ∷ es))
  spelled_row e es c =
      subst (IsSpelled (line_tokens false (written_term columns e) (map (written_term columns) es))) (sym (join-cons 43 (term_text columns e) (map
      (term_text columns) es)))
      (spelled_term e (more_terms (map (written_term columns) es)) (behind_text 43 (map (term_text columns) es)) c.0 (spelled_terms es c.1))
