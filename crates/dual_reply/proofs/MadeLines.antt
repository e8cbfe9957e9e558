-- The tokens of a line lead from the start to an end, and what is made of them.
use Rattle.std.proofs.Common.{◌≡◌, ℕ, Bool, true, false, cond, Option, Some, None, List, [], ◌∷◌, ◌++◌}
use Rattle.std.proofs.Common.{map, sum, refl, sym, ap, subst, ◌∙◌, append_assoc, append-nil}
use Rattle.std.specs.List.{AllByRecursion}
use Rattle.line_tokens.specs.Tokens.{Token, run, value_of}
use Rattle.line_tokens.specs.Machine.{take_tokens}
use Rattle.line_tokens.specs.Runs.{IsIndexNumber, more_numbers, zeta_tokens}
use Rattle.line_tokens.proofs.RunForms.{is_run-index}
use Rattle.dual_reply.specs.Grammar.{WrittenZeta, IsZeta, sign_token, more_zetas, line_tokens, IsSigned, Term, term_of}
use Rattle.dual_reply.specs.Inner.{DraftForm, is_index, with_zeta, maker, start, earlier}
use Rattle.dual_reply.specs.Places.{places}
use Rattle.dual_reply.specs.Sums.{signed_of}
use Rattle.dual_reply.specs.declared.place.Place.{Place}
use Rattle.dual_reply.specs.declared.place.Place.TheVariants.{Start, BeforeZeta, BeforeIndex, AfterIndex, AfterZeta}
use Rattle.dual_reply.specs.declared.words.Signed.{Signed}
use Rattle.dual_reply.proofs.HeavyTerms.{is_light, lights, heavies}
use Rattle.dual_reply.proofs.IndexNumbers.{is_index-written}

abbrev Tokens : Type 0
Tokens = List Token

-- from a place on the tokens lead to an end, with these words and this weight
abbrev pub Makes : Place → ℕ → DraftForm → Tokens → List Signed → Option ℕ → Type 0
Makes p n d tokens terms heavy = (out : DraftForm) × (take_tokens places maker p n d tokens ≡ Some out) × (out.terms ≡ terms) × (out.heavy ≡ heavy)

abbrev with_index : List ℕ → DraftForm → DraftForm
with_index ks d = with_zeta (record d { index = ks })

module _ (rest : Tokens) (terms : List Signed) (heavy : Option ℕ) where
  run_made : (n : ℕ) (d : DraftForm) (digits : List ℕ) (tokens : Tokens) → IsIndexNumber digits → Makes AfterIndex (value_of digits) d tokens terms heavy
      → Makes BeforeIndex n d (run digits ∷ tokens) terms heavy
  run_made n d digits tokens h m =
      (m.0, ap (λ t. cond t (take_tokens places maker AfterIndex (value_of digits) d tokens) None) (is_run-index digits h) ∙ m.1, m.2, m.3)

  numbers_made : (ks : List (List ℕ)) (n : ℕ) (d : DraftForm) → AllByRecursion IsIndexNumber ks
      → ((m : ℕ) → Makes AfterZeta m (with_index (d.index ++ n ∷ map value_of ks) d) rest terms heavy) → Makes AfterIndex n d (more_numbers ks rest) terms heavy
  numbers_made [] n d h then' = then' n
  numbers_made (k ∷ ks) n d h then' =
      let e = record d { index = d.index ++ n ∷ [] } in
      let next = λ (j : ℕ). subst (λ w. Makes AfterZeta j (with_index w d) rest terms heavy)
      (sym (append_assoc d.index (n ∷ []) (value_of k ∷ map value_of ks))) (then' j) in
      run_made n e k (more_numbers ks rest) h.0 (numbers_made ks (value_of k) e h.1 next)

  zeta_made : (z : WrittenZeta) (n : ℕ) (d : DraftForm) → IsZeta z
      → ((m : ℕ) → Makes AfterZeta m (with_index (map value_of (z.first ∷ z.more)) d) rest terms heavy)
      → Makes BeforeZeta n d (zeta_tokens z.first z.more rest) terms heavy
  zeta_made z n d h then' =
      let e = record d { index = [] } in
      run_made n e z.first (more_numbers z.more rest) h.0 (numbers_made z.more (value_of z.first) e h.1 then')

  sign_made : (negative : Bool) (n : ℕ) (d : DraftForm) (tokens : Tokens) → Makes BeforeZeta n (record d { negative = negative }) tokens terms heavy
      → Makes AfterZeta n d (sign_token negative ∷ tokens) terms heavy
  sign_made false n d tokens m = m
  sign_made true n d tokens m = m

  start_made : (negative : Bool) (n : ℕ) (d : DraftForm) (tokens : Tokens) → Makes BeforeZeta n (record d { negative = negative }) tokens terms heavy
      → Makes Start n d (sign_token negative ∷ tokens) terms heavy
  start_made false n d tokens m = m
  start_made true n d tokens m = m

-- what a zeta changes
module _ (d : DraftForm) (t : Term) (ts : List Term) where
  abbrev light_draft : DraftForm
  light_draft = record d { terms = d.terms ++ signed_of t ∷ []; negative = t.negative; index = t.index }

  abbrev heavy_draft : DraftForm
  heavy_draft = record d { heavy = earlier d.heavy (sum t.index); negative = t.negative; index = t.index }

  abbrev Keeps : DraftForm → Type 0
  Keeps e = (e.terms ++ lights ts ≡ d.terms ++ lights (t ∷ ts)) × (heavies e.heavy ts ≡ heavies d.heavy (t ∷ ts))

  kept_by_weight : (b : Bool) → is_light t ≡ b → Keeps (cond b light_draft heavy_draft)
  kept_by_weight true e = (
    append_assoc d.terms (signed_of t ∷ []) (lights ts) ∙ ap (λ b. d.terms ++ cond b (signed_of t ∷ lights ts) (lights ts)) (sym e),
    ap (λ b. heavies (cond b d.heavy (earlier d.heavy (sum t.index))) ts) (sym e),
  )
  kept_by_weight false e = (
    ap (λ b. d.terms ++ cond b (signed_of t ∷ lights ts) (lights ts)) (sym e),
    ap (λ b. heavies (cond b d.heavy (earlier d.heavy (sum t.index))) ts) (sym e),
  )

  zeta_kept : is_index t.index ≡ true → Keeps (with_index t.index (record d { negative = t.negative }))
  zeta_kept i =
      subst Keeps (ap (λ b. cond b (cond (is_light t) light_draft heavy_draft) (record d { negative = t.negative; index = t.index })) (sym i))
      (kept_by_weight (is_light t) refl)

behind_sign : (z : WrittenZeta) (zs : List WrittenZeta) (n : ℕ) (d : DraftForm) → AllByRecursion IsZeta (z ∷ zs)
    → ((m : ℕ) (e : DraftForm) → Makes AfterZeta m e (more_zetas zs) (e.terms ++ lights (map term_of zs)) (heavies e.heavy (map term_of zs)))
    → Makes BeforeZeta n (record d { negative = z.negative }) (zeta_tokens z.first z.more (more_zetas zs)) (d.terms ++ lights (map term_of (z ∷ zs)))
    (heavies d.heavy (map term_of (z ∷ zs)))
behind_sign z zs n d h made =
    let t = term_of z in
    let k = zeta_kept d t (map term_of zs) (is_index-written z.first z.more h.0) in
    let terms = d.terms ++ lights (map term_of (z ∷ zs)) in
    let heavy = heavies d.heavy (map term_of (z ∷ zs)) in
    zeta_made (more_zetas zs) terms heavy z n (record d { negative = z.negative }) h.0
    (λ m. let r = made m (with_index t.index (record d { negative = t.negative })) in (r.0, r.1, r.2 ∙ k.0, r.3 ∙ k.1))

zetas_made : (zs : List WrittenZeta) (n : ℕ) (d : DraftForm) → AllByRecursion IsZeta zs
    → Makes AfterZeta n d (more_zetas zs) (d.terms ++ lights (map term_of zs)) (heavies d.heavy (map term_of zs))
zetas_made [] n d h = (d, refl, sym (append-nil d.terms), refl)
zetas_made (z ∷ zs) n d h =
    sign_made [] (d.terms ++ lights (map term_of (z ∷ zs))) (heavies d.heavy (map term_of (z ∷ zs))) z.negative n d (zeta_tokens z.first z.more (more_zetas zs))
    (behind_sign z zs n d h (λ m e. zetas_made zs m e h.1))

pub line_made : (with_sign : Bool) (z : WrittenZeta) (zs : List WrittenZeta) → AllByRecursion IsZeta (z ∷ zs) → IsSigned with_sign z
    → Makes Start 0 start (line_tokens with_sign z zs) (lights (map term_of (z ∷ zs))) (heavies None (map term_of (z ∷ zs)))
line_made true z zs h s =
    start_made [] (lights (map term_of (z ∷ zs))) (heavies None (map term_of (z ∷ zs))) z.negative 0 start (zeta_tokens z.first z.more (more_zetas zs))
    (behind_sign z zs 0 start h (λ m e. zetas_made zs m e h.1))
line_made false z zs h s =
    subst (λ b. Makes BeforeZeta 0 (record start { negative = b }) (zeta_tokens z.first z.more (more_zetas zs)) (lights (map term_of (z ∷ zs)))
    (heavies None (map term_of (z ∷ zs)))) s (behind_sign z zs 0 start h (λ m e. zetas_made zs m e h.1))
