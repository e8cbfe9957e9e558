-- The zetas of a monomial's text mean the words of the monomial.
use Rattle.std.proofs.Common.{◌≡◌, ℕ, zero, suc, ◌+◌, ◌*◌, Bool, true, false, List, [], ◌∷◌, ◌++◌, length, map, refl, sym, ap, ◌∙◌, append-nil, arith}
use Rattle.std.specs.Prelude.{if◌then◌else◌, None}
use Rattle.std.specs.List.{flat_map, AllByRecursion}
use Rattle.std.proofs.lemmas.List.Concat.{flat_map-cons}
use Rattle.zeta_model.specs.declared.Letter.{Letter}
use Rattle.zeta_model.specs.declared.Letter.TheVariants.{X, Y}
use Rattle.zeta_model.specs.Words.{begins_with_x, ends_with_y}
use Rattle.zeta_model.specs.Indices.{index_of}
use Rattle.zeta_model.specs.Alphabets.{shuffle_of, shuffle_alphabet}
use Rattle.zeta_model.specs.Product.{total, SameWords}
use Rattle.zeta_model.specs.Sums.{same_word, single, sum_of, continued}
use Rattle.zeta_model.proofs.ProductLaws.{prod_commutes}
use Rattle.zeta_model.proofs.ShuffleLetters.{shuffle_laws}
use Rattle.zeta_model.proofs.Totals.{total-flat_map}
use Rattle.word_letters.specs.Order.{same_words}
use Rattle.word_letters.proofs.IndexLemmas.{word_of_index-index_of, has_index-ends}
use Rattle.zeta_expr.specs.declared.expr.Factor.TheVariants.{Number}
use Rattle.zeta_expr.specs.Meaning.{Terms, reg_terms, zeta_terms, times, times_power, times_zetas, product_in, term_sum}
use Rattle.poly_print.specs.Polynomials.{powers_from, powers_of}
use Rattle.leading_word.specs.Shuffles.{shuffled_with}
use Rattle.table_model.specs.MonomialWords.{words_of_monomial}
use Rattle.poly_lines.specs.Lines.{power_factor}

abbrev pub Word : Type 0
Word = List Letter

abbrev pub IsAdmissible : Word → Type 0
IsAdmissible u = (begins_with_x u ≡ true) × (ends_with_y u ≡ true)

-- words that stand once each
abbrev once : List Word → Terms
once ws = map (λ w. (1, w)) ws

-- u shuffled into each of the words
abbrev into : Word → List Word → List Word
into u ws = flat_map (λ w. shuffle_of u w) ws

once-append : (us vs : List Word) → once us ++ once vs ≡ once (us ++ vs)
once-append [] vs = refl
once-append (u ∷ us) vs = ap (λ r. (1, u) ∷ r) (once-append us vs)

-- one word shuffled into words that stand once
inner : (u : Word) (ws : List Word) → flat_map (λ (d : ℕ × Word). map (λ t. (1 * d.0, t)) (shuffle_of u d.1)) (once ws) ≡ once (into u ws)
inner u [] = refl
inner u (w ∷ ws) =
    flat_map-cons (λ (d : ℕ × Word). map (λ t. (1 * d.0, t)) (shuffle_of u d.1)) (1, w) (once ws)
    ∙ ap (λ r. once (shuffle_of u w) ++ r) (inner u ws)
    ∙ once-append (shuffle_of u w) (into u ws)
    ∙ ap once (sym (flat_map-cons (λ v. shuffle_of u v) w ws))

times-once : (u : Word) (ws : List Word) → times ((1, u) ∷ []) (once ws) ≡ once (into u ws)
times-once u ws =
    flat_map-cons (λ (c : ℕ × Word). flat_map (λ (d : ℕ × Word). map (λ t. (c.0 * d.0, t)) (shuffle_of c.1 d.1)) (once ws)) (1, u) []
    ∙ append-nil _
    ∙ inner u ws

-- an admissible word is its own regularisation
reg_one : (m : ℕ) (u : Word) → begins_with_x u ≡ true → reg_terms m 0 u ≡ (1, u) ∷ []
reg_one m [] h = cc
reg_one m (X ∷ u) h = refl
reg_one m (Y ∷ u) h = cc

zeta_one : (m : ℕ) (u : Word) → IsAdmissible u → zeta_terms m (index_of u) ≡ (1, u) ∷ []
zeta_one m u h = ap (reg_terms m 0) (word_of_index-index_of u (has_index-ends u h.1)) ∙ reg_one m u h.0

-- u shuffled into the words so often
into_often : Word → ℕ → List Word → List Word
into_often u zero ws = ws
into_often u (suc k) ws = into u (into_often u k ws)

power-once : (m : ℕ) (u : Word) (k : ℕ) (ws : List Word) → IsAdmissible u → times_power m (index_of u) k (once ws) ≡ once (into_often u k ws)
unfolding into_often
power-once m u zero ws h = refl
power-once m u (suc k) ws h = (λ i. times (zeta_one m u h i) (power-once m u k ws h i)) ∙ times-once u (into_often u k ws)

into_all : List (Word × ℕ) → List Word → List Word
into_all [] ws = ws
into_all (p ∷ ps) ws = into_all ps (into_often p.0 p.1 ws)

zetas-once : (m : ℕ) (ps : List (Word × ℕ)) (ws : List Word) → AllByRecursion (λ p. IsAdmissible p.0) ps → times_zetas m (map power_factor ps) (once ws)
    ≡ once (into_all ps ws)
unfolding into_all
zetas-once m [] ws h = refl
zetas-once m (p ∷ ps) ws h = ap (times_zetas m (map power_factor ps)) (power-once m p.0 p.1 ws h.0) ∙ zetas-once m ps (into_often p.0 p.1 ws) h.1

-- each of the factors shuffled into the words, one after the other
into_each : List Word → List Word → List Word
into_each [] ws = ws
into_each (u ∷ us) ws = into_each us (into u ws)

into_more : (u : Word) (k : ℕ) (ws : List Word) → into_often u (k + 1) ws ≡ into u (into_often u k ws)
unfolding into_often
into_more u k ws = let e : k + 1 ≡ suc k = omega arith in ap (λ n. into_often u n ws) e

powers_by : (u v : Word) (k : ℕ) (vs ws : List Word) (b : Bool) → same_word u v ≡ b
    → into_all (powers_from u (k + 1) vs) ws ≡ into_each vs (into_often u (k + 1) ws)
    → into_all (powers_from v 1 vs) (into_often u k ws) ≡ into_each vs (into_often v 1 (into_often u k ws))
    → into_all (if b then powers_from u (k + 1) vs else (u, k) ∷ powers_from v 1 vs) ws ≡ into_each (v ∷ vs) (into_often u k ws)
unfolding into_all into_often into_each
powers_by u v k vs ws true h same other = same ∙ ap (into_each vs) (into_more u k ws)
    ∙ ap (λ w. into_each vs (into w (into_often u k ws))) (same_words u v h)
powers_by u v k vs ws false h same other = other

powers-each : (u : Word) (k : ℕ) (us ws : List Word) → into_all (powers_from u k us) ws ≡ into_each us (into_often u k ws)
unfolding into_all into_often into_each
powers-each u k [] ws = refl
powers-each u k (v ∷ vs) ws = powers_by u v k vs ws (same_word u v) refl (powers-each u (k + 1) vs ws) (powers-each v 1 vs (into_often u k ws))

all-each : (us ws : List Word) → into_all (powers_of us) ws ≡ into_each us ws
unfolding into_all into_often into_each
all-each [] ws = refl
all-each (u ∷ us) ws = powers-each u 1 us ws

total_alike : (f g : Word → ℕ) (ws : List Word) → ((w : Word) → f w ≡ g w) → total f ws ≡ total g ws
total_alike f g [] h = refl
total_alike f g (w ∷ ws) h = λ i. h w i + total_alike f g ws h i

commutes : (u w : Word) → SameWords (shuffle_of u w) (shuffle_of w u)
commutes u w = prod_commutes (length u + length w) shuffle_alphabet (shuffle_laws (length u + length w)) u w refl refl (omega arith)

-- the order in which two words are shuffled does not count
into-with : (u : Word) (vs ws : List Word) → SameWords vs ws → SameWords (into u vs) (flat_map (λ t. shuffle_of t u) ws)
into-with u vs ws h = λ f.
    total-flat_map f (λ w. shuffle_of u w) vs
    ∙ h (λ w. total f (shuffle_of u w))
    ∙ total_alike (λ w. total f (shuffle_of u w)) (λ w. total f (shuffle_of w u)) ws (λ w. commutes u w f)
    ∙ sym (total-flat_map f (λ t. shuffle_of t u) ws)

each-with : (us vs ws : List Word) → SameWords vs ws → SameWords (into_each us vs) (shuffled_with ws us)
unfolding into_each
each-with [] vs ws h = h
each-with (u ∷ us) vs ws h = each-with us (into u vs) (flat_map (λ t. shuffle_of t u) ws) (into-with u vs ws h)

once-sum : (ws : List Word) (t : Word) → continued single (once ws) t ≡ sum_of ws t
once-sum [] t = refl
once-sum (w ∷ ws) t = let h = once-sum ws t in omega arith

powers-admissible : (u : Word) (k : ℕ) (us : List Word) → IsAdmissible u → AllByRecursion IsAdmissible us
    → AllByRecursion (λ p. IsAdmissible p.0) (powers_from u k us)
powers-admissible u k [] h a = (h, tt)
powers-admissible u k (v ∷ vs) h a = by (same_word u v) (powers-admissible u (k + 1) vs h a.1) (powers-admissible v 1 vs a.0 a.1)
  where
    by : (b : Bool) → AllByRecursion (λ p. IsAdmissible p.0) (powers_from u (k + 1) vs) → AllByRecursion (λ p. IsAdmissible p.0) (powers_from v 1 vs)
        → AllByRecursion (λ p. IsAdmissible p.0) (if b then powers_from u (k + 1) vs else (u, k) ∷ powers_from v 1 vs)
    by true x y = x
    by false x y = (h, y)

pub all-admissible : (us : List Word) → AllByRecursion IsAdmissible us → AllByRecursion (λ p. IsAdmissible p.0) (powers_of us)
all-admissible [] a = tt
all-admissible (u ∷ us) a = powers-admissible u 1 us a.0 a.1

-- the zetas of a monomial's text mean its words
pub zetas-words : (m : ℕ) (p : List Word) (t : Word) → AllByRecursion IsAdmissible p
    → continued single (times_zetas m (map power_factor (powers_of p)) ((1, []) ∷ [])) t ≡ words_of_monomial p t
unfolding words_of_monomial
zetas-words m p t a =
    ap (λ ws. continued single ws t) (zetas-once m (powers_of p) ([] ∷ []) (all-admissible p a) ∙ ap once (all-each p ([] ∷ [])))
    ∙ once-sum (into_each p ([] ∷ [])) t
    ∙ each-with p ([] ∷ []) ([] ∷ []) (λ f. refl) (λ w. single w t)

powers-number : (m : ℕ) (ps : List (Word × ℕ)) → product_in m (map power_factor ps) ≡ 1
powers-number m [] = refl
powers-number m (p ∷ ps) = let h = powers-number m ps in omega arith

-- a term means its residue times the words of its monomial
pub term-words : (m r : ℕ) (p : List Word) (t : Word) → AllByRecursion IsAdmissible p
    → term_sum m (record { negative = false; factors = Number r None ∷ map power_factor (powers_of p) }) t ≡ r * words_of_monomial p t
term-words m r p t a =
    let one : 1 * (r * 1) ≡ r = omega arith in
    (λ i. 1 * (r * powers-number m (powers_of p) i) * zetas-words m p t a i) ∙ ap (λ n. n * words_of_monomial p t) one
