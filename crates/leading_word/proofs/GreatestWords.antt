-- The greatest word of the shuffle of Lyndon words that do not increase, and the number of its places.
use Rattle.std.proofs.Common.{◌≡◌, ◌+◌, ◌*◌, ◌<◌, List, [], ◌∷◌, ◌++◌, length, refl, sym, ap, subst, ◌∙◌, arith, append_assoc}
use Rattle.std.specs.List.{flat_map}
use Rattle.std.proofs.lemmas.List.{append-nil}
use Rattle.zeta_model.specs.declared.Letter.{Letter}
use Rattle.zeta_model.specs.Alphabets.{shuffle_of}
use Rattle.zeta_model.specs.Sums.{sum_of}
use Rattle.lyndon_words.specs.Lyndon.{IsLyndon, AllLyndon, IsAtLeast, Falls, joined}
use Rattle.leading_word.specs.Shuffles.{shuffled_with, words_of, factorials_of}
use Rattle.leading_word.proofs.AtMosts.{AtMost}
use Rattle.leading_word.proofs.Mixes.{Under}
use Rattle.leading_word.proofs.Ways.{ways, single-itself}
use Rattle.leading_word.proofs.LastFactor.{NoneBefore, under-joined, ways-last}
use Rattle.leading_word.proofs.OneFactorMore.{IsGreatest, greatest-more}
use Rattle.leading_word.proofs.Factorials.{factorials_of-push}

abbrev Word : Type 0
Word = List Letter

joined-push : (us : List Word) (u : Word) → joined (us ++ u ∷ []) ≡ joined us ++ u
joined-push [] u = append-nil u
joined-push (a ∷ us) u = ap (λ t. a ++ t) (joined-push us u) ∙ sym (append_assoc a (joined us) u)

-- the words up to one of a list that does not increase
at_least-front : (a : Word) (us vs : List Word) → IsAtLeast a (us ++ vs) → IsAtLeast a us
at_least-front a [] vs h = tt
at_least-front a (u ∷ us) vs h = (h.0, at_least-front a us vs h.1)

at_least-one : (a : Word) (us : List Word) (u : Word) (vs : List Word) → IsAtLeast a (us ++ u ∷ vs) → IsAtLeast a (u ∷ [])
at_least-one a [] u vs h = (h.0, tt)
at_least-one a (b ∷ us) u vs h = at_least-one a us u vs h.1

falls-front : (us vs : List Word) → Falls (us ++ vs) → Falls us
falls-front [] vs f = tt
falls-front (u ∷ us) vs f = (at_least-front u us vs f.0, falls-front us vs f.1)

pub none_before : (us : List Word) (u : Word) (vs : List Word) → Falls (us ++ u ∷ vs) → NoneBefore u us
none_before [] u vs f = tt
none_before (a ∷ us) u vs f = ((at_least-one a us u vs f.0).0, none_before us u vs f.1)

lyndon-front : (us vs : List Word) → AllLyndon (us ++ vs) → AllLyndon us
lyndon-front [] vs al = tt
lyndon-front (u ∷ us) vs al = (al.0, lyndon-front us vs al.1)

lyndon-one : (us : List Word) (u : Word) (vs : List Word) → AllLyndon (us ++ u ∷ vs) → IsLyndon u
lyndon-one [] u vs al = al.0
lyndon-one (a ∷ us) u vs al = lyndon-one us u vs al.1

greatest-shuffled_with : (done us ws : List Word) → AllLyndon (done ++ us) → Falls (done ++ us) → IsGreatest ws (joined done) (factorials_of done)
    → IsGreatest (shuffled_with ws us) (joined (done ++ us)) (factorials_of (done ++ us))
greatest-shuffled_with done [] ws al f g = subst (λ t. IsGreatest ws (joined t) (factorials_of t)) (sym (append-nil done)) g
greatest-shuffled_with done (u ∷ us) ws al f g =
    let join : (done ++ u ∷ []) ++ us ≡ done ++ u ∷ us = append_assoc done (u ∷ []) us in
    let under : Under u (joined done) = under-joined u done (lyndon-front done (u ∷ us) al) (none_before done u us f) in
    let last : ways (joined done) u (joined done ++ u) ≡ sum_of done u + 1 =
    ways-last u (lyndon-one done u us al) done (lyndon-front done (u ∷ us) al) (falls-front done (u ∷ us) f) (none_before done u us f) in
    let more : IsGreatest (flat_map (λ w. shuffle_of w u) ws) (joined done ++ u) (factorials_of done * (sum_of done u + 1)) =
    greatest-more u (joined done) under ws (factorials_of done) (sum_of done u + 1) g last in
    let next : IsGreatest (flat_map (λ w. shuffle_of w u) ws) (joined (done ++ u ∷ [])) (factorials_of (done ++ u ∷ [])) =
    subst (λ t. IsGreatest (flat_map (λ w. shuffle_of w u) ws) t (factorials_of (done ++ u ∷ []))) (sym (joined-push done u))
    (subst (IsGreatest (flat_map (λ w. shuffle_of w u) ws) (joined done ++ u)) (sym (factorials_of-push done u)) more) in
    subst (λ t. IsGreatest (shuffled_with (flat_map (λ w. shuffle_of w u) ws) us) (joined t) (factorials_of t)) join
    (greatest-shuffled_with (done ++ u ∷ []) us (flat_map (λ w. shuffle_of w u) ws) (subst AllLyndon (sym join) al) (subst Falls (sym join) f) next)

pub greatest-words_of : (us : List Word) → AllLyndon us → Falls us → IsGreatest (words_of us) (joined us) (factorials_of us)
greatest-words_of us al f = greatest-shuffled_with [] us ([] ∷ []) al f
    (record { most = λ v h. only v h; weight = λ v h. ap length (empty v h); count = single-itself [] })
  where
    empty : (v : Word) → 0 < sum_of ([] ∷ []) v → v ≡ []
    empty [] h = refl
    empty (x ∷ v) h = absurd (omega arith)

    only : (v : Word) → 0 < sum_of ([] ∷ []) v → AtMost v []
    only v h = subst (λ t. AtMost t []) (sym (empty v h)) tt
