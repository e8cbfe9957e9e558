-- A factor that is put into two lists leaves the order of the lists as it is, and in which order factors are put does not matter.
use Rattle.std.proofs.Common.{◌≡◌, Bool, true, false, cond, List, [], ◌∷◌, refl, sym, ap, ◌∙◌}
use Rattle.std.specs.declared.cmp.Ordering.{Ordering}
use Rattle.std.specs.declared.cmp.Ordering.TheVariants.{Less, Equal, Greater}
use Rattle.std.specs.Ordering.{is_lt, is_gt, ordering_then, ordering_reverse}
use Rattle.std.specs.Cmp.{IsTotalOrder, alike_right, tied_itself}
use Rattle.std.specs.Cmp.Lexicographic.{slice_cmp}
use Rattle.std.proofs.lemmas.Cmp.{lists_total}
use Rattle.zeta_model.specs.declared.Letter.{Letter}
use Rattle.zeta_model.specs.Words.{word_cmp}
use Rattle.zeta_model.proofs.WordOrder.{word_cmp_total, word_cmp-IsAntisymmetric}
use Rattle.lyndon_words.specs.Lyndon.{IsAtLeast, Falls}
use Rattle.lyndon_words.specs.Monomials.{put, product_of}
use Rattle.lyndon_words.proofs.Suffixes.{is_lt-Less}

itself : (w : List Letter) → word_cmp w w ≡ Equal
itself w = tied_itself word_cmp_total w

put-less : (w u : List Letter) (us : List (List Letter)) → is_lt (word_cmp u w) ≡ true → put w (u ∷ us) ≡ w ∷ u ∷ us
put-less w u us e = ap (λ b. cond b (w ∷ u ∷ us) (u ∷ put w us)) e

put-behind : (w u : List Letter) (us : List (List Letter)) → is_lt (word_cmp u w) ≡ false → put w (u ∷ us) ≡ u ∷ put w us
put-behind w u us e = ap (λ b. cond b (w ∷ u ∷ us) (u ∷ put w us)) e

-- a before w, and b not before w
less_through : (a w b : List Letter) → word_cmp a w ≡ Less → is_lt (word_cmp b w) ≡ false → word_cmp a b ≡ Less
less_through a w b p n = go (word_cmp b w) refl n
  where
    go : (o : Ordering) → word_cmp b w ≡ o → is_lt o ≡ false → word_cmp a b ≡ Less
    go Less e n = cc
    go Equal e n = alike_right word_cmp_total b w a e ∙ p
    go Greater e n = word_cmp_total.trans a w b p (word_cmp_total.antisymm w b ∙ ap ordering_reverse e)

not_greater : (w b : List Letter) → is_lt (word_cmp b w) ≡ false → is_gt (word_cmp w b) ≡ false
not_greater w b n = go (word_cmp b w) refl n
  where
    go : (o : Ordering) → word_cmp b w ≡ o → is_lt o ≡ false → is_gt (word_cmp w b) ≡ false
    go Less e n = cc
    go Equal e n = ap is_gt (word_cmp_total.antisymm w b ∙ ap ordering_reverse e)
    go Greater e n = ap is_gt (word_cmp_total.antisymm w b ∙ ap ordering_reverse e)

then-Less : (o r : Ordering) → is_gt o ≡ false → r ≡ Less → ordering_then o r ≡ Less
then-Less Less r h e = refl
then-Less Equal r h e = e
then-Less Greater r h e = cc

-- a list that begins with a word before w is before any list into which w was put
before_put : (a w : List Letter) (es bs : List (List Letter)) → word_cmp a w ≡ Less → slice_cmp word_cmp (a ∷ es) (put w bs) ≡ Less
before_put a w es [] p = ap (λ o. ordering_then o (slice_cmp word_cmp es [])) p
before_put a w es (b ∷ bs) p = go (is_lt (word_cmp b w)) refl
  where
    go : (s : Bool) → is_lt (word_cmp b w) ≡ s → slice_cmp word_cmp (a ∷ es) (put w (b ∷ bs)) ≡ Less
    go true s = ap (slice_cmp word_cmp (a ∷ es)) (put-less w b bs s) ∙ ap (λ o. ordering_then o (slice_cmp word_cmp es (b ∷ bs))) p
    go false s = ap (slice_cmp word_cmp (a ∷ es)) (put-behind w b bs s)
        ∙ ap (λ o. ordering_then o (slice_cmp word_cmp es (put w bs))) (less_through a w b p s)

empty_before_put : (w : List Letter) (bs : List (List Letter)) → slice_cmp word_cmp [] (put w bs) ≡ Less
empty_before_put w [] = refl
empty_before_put w (b ∷ bs) = go (is_lt (word_cmp b w)) refl
  where
    go : (s : Bool) → is_lt (word_cmp b w) ≡ s → slice_cmp word_cmp [] (put w (b ∷ bs)) ≡ Less
    go true s = ap (slice_cmp word_cmp []) (put-less w b bs s)
    go false s = ap (slice_cmp word_cmp []) (put-behind w b bs s)

alone_before_put : (w b : List Letter) (bs : List (List Letter)) → slice_cmp word_cmp (put w []) (put w (b ∷ bs)) ≡ Less
alone_before_put w b bs = go (is_lt (word_cmp b w)) refl
  where
    go : (s : Bool) → is_lt (word_cmp b w) ≡ s → slice_cmp word_cmp (w ∷ []) (put w (b ∷ bs)) ≡ Less
    go true s = ap (slice_cmp word_cmp (w ∷ [])) (put-less w b bs s) ∙ ap (λ o. ordering_then o (slice_cmp word_cmp [] (b ∷ bs))) (itself w)
    go false s = ap (slice_cmp word_cmp (w ∷ [])) (put-behind w b bs s)
        ∙ then-Less (word_cmp w b) (slice_cmp word_cmp [] (put w bs)) (not_greater w b s) (empty_before_put w bs)

-- the first list begins with a word before w, the second with one that is not
put_before_put : (w a b : List Letter) (es bs : List (List Letter)) → is_lt (word_cmp a w) ≡ true → is_lt (word_cmp b w) ≡ false
    → slice_cmp word_cmp (put w (a ∷ es)) (put w (b ∷ bs)) ≡ Less
put_before_put w a b es bs s t =
    (λ i. slice_cmp word_cmp (put-less w a es s i) (put-behind w b bs t i))
    ∙ then-Less (word_cmp w b) (slice_cmp word_cmp (a ∷ es) (put w bs)) (not_greater w b t) (before_put a w es bs (is_lt-Less (word_cmp a w) s))

turned : (p q : List (List Letter)) → slice_cmp word_cmp q p ≡ Less → slice_cmp word_cmp p q ≡ Greater
turned p q e = let o : IsTotalOrder (slice_cmp word_cmp) = lists_total word_cmp_total in o.antisymm p q ∙ ap ordering_reverse e

pub slice_cmp-put : (w : List Letter) (p q : List (List Letter)) → slice_cmp word_cmp (put w p) (put w q) ≡ slice_cmp word_cmp p q
slice_cmp-put w [] [] = ap (λ o. ordering_then o Equal) (itself w)
slice_cmp-put w [] (b ∷ bs) = alone_before_put w b bs
slice_cmp-put w (a ∷ es) [] = turned (put w (a ∷ es)) (put w []) (alone_before_put w a es)
slice_cmp-put w (a ∷ es) (b ∷ bs) = go (slice_cmp-put w es bs) (is_lt (word_cmp a w)) (is_lt (word_cmp b w)) refl refl
  where
    go : slice_cmp word_cmp (put w es) (put w bs) ≡ slice_cmp word_cmp es bs → (s t : Bool) → is_lt (word_cmp a w) ≡ s → is_lt (word_cmp b w) ≡ t
        → slice_cmp word_cmp (put w (a ∷ es)) (put w (b ∷ bs)) ≡ ordering_then (word_cmp a b) (slice_cmp word_cmp es bs)
    go again true true s t =
        (λ i. slice_cmp word_cmp (put-less w a es s i) (put-less w b bs t i))
        ∙ ap (λ o. ordering_then o (ordering_then (word_cmp a b) (slice_cmp word_cmp es bs))) (itself w)
    go again true false s t =
        put_before_put w a b es bs s t ∙ sym (ap (λ o. ordering_then o (slice_cmp word_cmp es bs)) (less_through a w b (is_lt-Less (word_cmp a w) s) t))
    go again false true s t =
        let less : word_cmp b a ≡ Less = less_through b w a (is_lt-Less (word_cmp b w) t) s in
        turned (put w (a ∷ es)) (put w (b ∷ bs)) (put_before_put w b a bs es t s)
        ∙ sym (ap (λ o. ordering_then o (slice_cmp word_cmp es bs)) (word_cmp_total.antisymm a b ∙ ap ordering_reverse less))
    go again false false s t =
        (λ i. slice_cmp word_cmp (put-behind w a es s i) (put-behind w b bs t i)) ∙ ap (ordering_then (word_cmp a b)) again

-- v before w: both may be put in either order
put-put_less : (v w : List Letter) (us : List (List Letter)) → word_cmp v w ≡ Less → put w (put v us) ≡ put v (put w us)
put-put_less v w [] p =
    let back : is_lt (word_cmp w v) ≡ false = ap is_lt (word_cmp_total.antisymm w v ∙ ap ordering_reverse p) in
    put-less w v [] (ap is_lt p) ∙ sym (put-behind v w [] back)
put-put_less v w (u ∷ us) p = go (put-put_less v w us p) (is_lt (word_cmp u w)) (is_lt (word_cmp u v)) refl refl
  where
    back : is_lt (word_cmp w v) ≡ false
    back = ap is_lt (word_cmp_total.antisymm w v ∙ ap ordering_reverse p)

    go : put w (put v us) ≡ put v (put w us) → (s t : Bool) → is_lt (word_cmp u w) ≡ s → is_lt (word_cmp u v) ≡ t
        → put w (put v (u ∷ us)) ≡ put v (put w (u ∷ us))
    go again true true s t =
        ap (put w) (put-less v u us t) ∙ put-less w v (u ∷ us) (ap is_lt p)
        ∙ sym (ap (put v) (put-less w u us s) ∙ put-behind v w (u ∷ us) back ∙ ap (λ t. w ∷ t) (put-less v u us t))
    go again true false s t =
        ap (put w) (put-behind v u us t) ∙ put-less w u (put v us) s
        ∙ sym (ap (put v) (put-less w u us s) ∙ put-behind v w (u ∷ us) back ∙ ap (λ t. w ∷ t) (put-behind v u us t))
    go again false true s t = let e : is_lt (word_cmp u w) ≡ true = ap is_lt (word_cmp_total.trans u v w (is_lt-Less (word_cmp u v) t) p) in cc
    go again false false s t =
        ap (put w) (put-behind v u us t) ∙ put-behind w u (put v us) s ∙ ap (λ t. u ∷ t) again
        ∙ sym (ap (put v) (put-behind w u us s) ∙ put-behind v u (put w us) t)

put-put : (v w : List Letter) (us : List (List Letter)) → put w (put v us) ≡ put v (put w us)
put-put v w us = go (word_cmp v w) refl
  where
    go : (o : Ordering) → word_cmp v w ≡ o → put w (put v us) ≡ put v (put w us)
    go Less e = put-put_less v w us e
    go Equal e = let same : v ≡ w = word_cmp-IsAntisymmetric v w e in λ i. put (sym same i) (put (same i) us)
    go Greater e = sym (put-put_less w v us (word_cmp_total.antisymm w v ∙ ap ordering_reverse e))

product_of-put : (w : List Letter) (a b : List (List Letter)) → product_of a (put w b) ≡ put w (product_of a b)
product_of-put w [] b = refl
product_of-put w (v ∷ a) b = ap (product_of a) (put-put w v b) ∙ product_of-put w a (put v b)

-- the greatest word of a list that does not increase is put in front
put-first : (w : List Letter) (us : List (List Letter)) → IsAtLeast w us → Falls us → put w us ≡ w ∷ us
put-first w [] a f = refl
put-first w (u ∷ us) a f = go (put-first w us a.1 f.1) (word_cmp u w) refl
  where
    go : put w us ≡ w ∷ us → (o : Ordering) → word_cmp u w ≡ o → put w (u ∷ us) ≡ w ∷ u ∷ us
    go again Less e = put-less w u us (ap is_lt e)
    go again Equal e =
        let same : u ≡ w = word_cmp-IsAntisymmetric u w e in
        put-behind w u us (ap is_lt e) ∙ ap (λ t. u ∷ t) again ∙ (λ i. same i ∷ sym same i ∷ us)
    go again Greater e = absurd (a.0 (word_cmp_total.antisymm w u ∙ ap ordering_reverse e))

product_of-nothing : (a : List (List Letter)) → Falls a → product_of a [] ≡ a
product_of-nothing [] f = refl
product_of-nothing (w ∷ a) f = product_of-put w a [] ∙ ap (put w) (product_of-nothing a f.1) ∙ put-first w a f.0 f.1

pub product_of-comm : (a b : List (List Letter)) → Falls a → Falls b → product_of a b ≡ product_of b a
product_of-comm a [] f g = product_of-nothing a f
product_of-comm a (v ∷ b) f g =
    ap (product_of a) (sym (put-first v b g.0 g.1)) ∙ product_of-put v a b ∙ ap (put v) (product_of-comm a b f g.1) ∙ sym (product_of-put v b a)
