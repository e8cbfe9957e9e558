-- The tokens of a line lead from the start to an end, and what is made of them is what the line spells.
use Rattle.std.proofs.Common.{◌≡◌, ℕ, Bool, true, false, cond, Option, Some, None, List, [], ◌∷◌, ◌++◌, map, refl, sym, ap, subst, ◌∙◌, append_assoc, append-nil}
use Rattle.std.specs.Prelude.{option_and_then}
use Rattle.std.specs.List.{AllByRecursion}
use Rattle.line_tokens.specs.declared.marks.Mark.TheVariants.{Plus, Minus, Star, Slash, Caret}
use Rattle.line_tokens.specs.declared.spots.Run.{Run}
use Rattle.line_tokens.specs.Tokens.{Token, mark, run, value_of}
use Rattle.line_tokens.specs.Machine.{take_tokens, is_run}
use Rattle.zeta_expr.specs.declared.expr.Factor.{Factor}
use Rattle.zeta_expr.specs.declared.expr.Factor.TheVariants.{Number, Zeta}
use Rattle.zeta_expr.specs.declared.place.Place.{Place}
use Rattle.zeta_expr.specs.declared.place.Place.TheVariants.{Start, BeforeFactor, AfterTop, BeforeBottom, AfterBottom, BeforeIndex, AfterIndex, AfterZeta, BeforePower, AfterPower}
use Rattle.zeta_expr.specs.Forms.{TermForm}
use Rattle.zeta_expr.specs.Places.{places, after_mark, run_at, ends}
use Rattle.zeta_expr.specs.Drafts.{DraftForm, maker, with_factor, with_term, signed, start}
use Rattle.line_tokens.specs.Runs.{IsIndexNumber, more_numbers}
use Rattle.zeta_expr.specs.Grammar.{WrittenFactor, number, fraction, zeta, power, WrittenTerm, IsFactor, IsTerm, factor_tokens, more_factors, term_tokens, sign_token, more_terms, line_tokens, IsSigned}
use Rattle.zeta_expr.specs.Readings.{factor_of, term_of}
use Rattle.line_tokens.proofs.RunForms.{is_run-digits, is_run-index}

abbrev Tokens : Type 0
Tokens = List Token

abbrev Terms : Type 0
Terms = List TermForm

-- the terms that are made of tokens from a place on
abbrev pub Makes : Place → ℕ → DraftForm → Tokens → Terms → Type 0
Makes p n d tokens goal = (out : DraftForm) × (take_tokens places maker p n d tokens ≡ Some out) × (out.terms ≡ goal)

-- a place behind a factor, and the draft with it
pub record Behind (p : Place) (n : ℕ) (d : DraftForm) (terms : Terms) (negative : Bool) (factors : List Factor) : Type 0 where
  pub star : after_mark p Star ≡ Some BeforeFactor
  pub plus : after_mark p Plus ≡ Some BeforeFactor
  pub minus : after_mark p Minus ≡ Some BeforeFactor
  pub end : ends p ≡ true
  pub later : (b : Bool) → signed b p n d ≡ record (with_term (with_factor p n d)) { negative = b }
  pub terms_are : (with_factor p n d).terms ≡ terms
  pub negative_is : (with_factor p n d).negative ≡ negative
  pub factors_are : (with_factor p n d).factors ≡ factors

-- a draft between two factors
pub record Before (d : DraftForm) (terms : Terms) (negative : Bool) (factors : List Factor) : Type 0 where
  pub terms_are : d.terms ≡ terms
  pub negative_is : d.negative ≡ negative
  pub factors_are : d.factors ≡ factors

run_made : (p : Place) (r : Run Place) (n : ℕ) (d : DraftForm) (digits : List ℕ) (rest : Tokens) (goal : Terms) → run_at p ≡ Some r
    → is_run r.lowest r.more digits ≡ true → Makes r.next (value_of digits) d rest goal → Makes p n d (run digits ∷ rest) goal
run_made p r n d digits rest goal e t m = (
  m.0,
  ap (λ (o : Option (Run Place)). option_and_then (λ (r : Run Place). cond (is_run r.lowest r.more digits) (take_tokens places maker r.next
      (value_of digits) d rest) None) o) e
      ∙ ap (λ t. cond t (take_tokens places maker r.next (value_of digits) d rest) None) t ∙ m.1,
  m.2,
)

-- the numbers of an index behind the first, and the bracket
numbers_made : (ks : List (List ℕ)) (n : ℕ) (d : DraftForm) (rest : Tokens) (goal : Terms) → AllByRecursion IsIndexNumber ks → ((k : ℕ)
    → Makes AfterZeta k (record d { word = d.word ++ n ∷ map value_of ks }) rest goal) → Makes AfterIndex n d (more_numbers ks rest) goal
numbers_made [] n d rest goal h then' = then' n
numbers_made (k ∷ ks) n d rest goal h then' =
    let e = record d { word = d.word ++ n ∷ [] } in
    let next = λ (j : ℕ). subst (λ w. Makes AfterZeta j (record d {
      word =
          w;
    }) rest goal) (sym (append_assoc d.word (n ∷ []) (value_of k ∷ map value_of ks))) (then' j) in
    run_made BeforeIndex (record {
      lowest = 49;
      more = 2;
      next =
          AfterIndex;
    }) n e k (more_numbers ks rest) goal refl (is_run-index k h.0) (numbers_made ks (value_of k) e rest goal h.1 next)

-- what is behind a factor, by its draft
module _ (terms : Terms) (negative : Bool) (factors : List Factor) where
  behind_top : (n : ℕ) (d : DraftForm) → Before d terms negative factors → Behind AfterTop n d terms negative (factors ++ Number n None ∷ [])
  behind_top n d b = record {
    star = refl;
    plus = refl;
    minus = refl;
    end = refl;
    later = λ b. refl;
    terms_are = b.terms_are;
    negative_is =
        b.negative_is;
    factors_are = ap (λ f. f ++ Number n None ∷ []) b.factors_are;
  }

  behind_bottom : (n : ℕ) (d : DraftForm) → Before d terms negative factors → Behind AfterBottom n d terms negative (factors ++ Number d.top (Some n) ∷ [])
  behind_bottom n d b = record {
    star = refl;
    plus = refl;
    minus = refl;
    end = refl;
    later = λ b. refl;
    terms_are = b.terms_are;
    negative_is =
        b.negative_is;
    factors_are = ap (λ f. f ++ Number d.top (Some n) ∷ []) b.factors_are;
  }

  behind_zeta : (n : ℕ) (d : DraftForm) → Before d terms negative factors → Behind AfterZeta n d terms negative (factors ++ Zeta d.word 1 ∷ [])
  behind_zeta n d b = record {
    star = refl;
    plus = refl;
    minus = refl;
    end = refl;
    later = λ b. refl;
    terms_are = b.terms_are;
    negative_is =
        b.negative_is;
    factors_are = ap (λ f. f ++ Zeta d.word 1 ∷ []) b.factors_are;
  }

  behind_power : (n : ℕ) (d : DraftForm) → Before d terms negative factors → Behind AfterPower n d terms negative (factors ++ Zeta d.word n ∷ [])
  behind_power n d b = record {
    star = refl;
    plus = refl;
    minus = refl;
    end = refl;
    later = λ b. refl;
    terms_are = b.terms_are;
    negative_is =
        b.negative_is;
    factors_are = ap (λ f. f ++ Zeta d.word n ∷ []) b.factors_are;
  }

  abbrev pub Goes : WrittenFactor → Tokens → Terms → Type 0
  Goes f rest goal = (p : Place) (n : ℕ) (d : DraftForm) → Behind p n d terms negative (factors ++ factor_of f ∷ []) → Makes p n d rest goal

  zeta_made : (k : List ℕ) (ks : List (List ℕ)) (n : ℕ) (d : DraftForm) (rest : Tokens) (goal : Terms) → AllByRecursion IsIndexNumber (k ∷ ks) → ((m : ℕ)
      → Makes AfterZeta m (record d { word = map value_of (k ∷ ks) }) rest goal) → Makes BeforeIndex n (record d {
        word =
            [];
      }) (run k ∷ more_numbers ks rest) goal
  zeta_made k ks n d rest goal h then' =
      let e = record d { word = [] } in
      run_made BeforeIndex (record {
        lowest = 49;
        more = 2;
        next =
            AfterIndex;
      }) n e k (more_numbers ks rest) goal refl (is_run-index k h.0) (numbers_made ks (value_of k) e rest goal h.1 then')

  factor_made : (f : WrittenFactor) (n : ℕ) (d : DraftForm) (rest : Tokens) (goal : Terms) → IsFactor f → Before d terms negative factors
      → Goes f rest goal → Makes BeforeFactor n d (factor_tokens f rest) goal
  factor_made (number top) n d rest goal h b then' =
      run_made BeforeFactor (record {
        lowest = 48;
        more = 37;
        next =
            AfterTop;
      }) n d top rest goal refl (is_run-digits 37 top h) (then' AfterTop (value_of top) d (behind_top (value_of top) d b))
  factor_made (fraction top bottom) n d rest goal h b then' =
      let e = record d { top = value_of top } in
      let before : Before e terms negative factors = record { terms_are = b.terms_are; negative_is = b.negative_is; factors_are = b.factors_are } in
      run_made BeforeFactor (record {
        lowest = 48;
        more = 37;
        next =
            AfterTop;
      }) n d top (mark Slash ∷ run bottom ∷ rest) goal refl (is_run-digits 37 top h.0)
      (run_made BeforeBottom (record { lowest = 48; more = 37; next = AfterBottom }) (value_of top) e bottom rest goal refl (is_run-digits 37 bottom h.1)
      (then' AfterBottom (value_of bottom) e (behind_bottom (value_of bottom) e before)))
  factor_made (zeta k ks) n d rest goal h b then' =
      let e = record d { word = map value_of (k ∷ ks) } in
      let before : Before e terms negative factors = record { terms_are = b.terms_are; negative_is = b.negative_is; factors_are = b.factors_are } in
      zeta_made k ks n d rest goal h (λ m. then' AfterZeta m e (behind_zeta m e before))
  factor_made (power k ks p) n d rest goal h b then' =
      let e = record d { word = map value_of (k ∷ ks) } in
      let before : Before e terms negative factors = record { terms_are = b.terms_are; negative_is = b.negative_is; factors_are = b.factors_are } in
      zeta_made k ks n d (mark Caret ∷ run p ∷ rest) goal h.0
      (λ m. run_made BeforePower (record { lowest = 48; more = 1; next = AfterPower }) m e p rest goal refl (is_run-digits 1 p h.1)
      (then' AfterPower (value_of p) e (behind_power (value_of p) e before)))

-- what is made of tokens behind a factor
abbrev pub IsMade : Tokens → (List Factor → List Factor) → Terms → Type 0
IsMade tokens more last = (p : Place) (n : ℕ) (d : DraftForm) (terms : Terms) (negative : Bool) (factors : List Factor)
    → Behind p n d terms negative factors → Makes p n d tokens (terms ++ record { negative = negative; factors = more factors } ∷ last)

factors_made : (fs : List WrittenFactor) (tokens : Tokens) (last : Terms) → AllByRecursion IsFactor fs → IsMade tokens (λ f. f) last
    → IsMade (more_factors fs tokens) (λ f. f ++ map factor_of fs) last
factors_made [] tokens last h made p n d terms negative factors b =
    subst (λ f. Makes p n d tokens (terms ++ record {
      negative = negative;
      factors =
          f;
    } ∷ last)) (sym (append-nil factors)) (made p n d terms negative factors b)
factors_made (f ∷ fs) tokens last h made p n d terms negative factors b =
    let goal = terms ++ record { negative = negative; factors = factors ++ map factor_of (f ∷ fs) } ∷ last in
    let rest = more_factors fs tokens in
    let e = with_factor p n d in
    let before : Before e terms negative factors = record { terms_are = b.terms_are; negative_is = b.negative_is; factors_are = b.factors_are } in
    let next = λ (q : Place) (m : ℕ) (g : DraftForm) (c : Behind q m g terms negative (factors ++ factor_of f ∷ [])).
    subst (λ v. Makes q m g rest (terms ++ record { negative = negative; factors = v } ∷ last)) (append_assoc factors (factor_of f ∷ []) (map factor_of fs))
    (factors_made fs tokens last h.1 made q m g terms negative (factors ++ factor_of f ∷ []) c) in
    let m = factor_made terms negative factors f n e rest goal h.0 before next in
    (m.0, ap (λ o. option_and_then (λ q. take_tokens places maker q n e (factor_tokens f rest)) o) b.star ∙ m.1, m.2)

-- a term, where its sign has been read
term_made : (t : WrittenTerm) (tokens : Tokens) (last : Terms) → IsTerm t → IsMade tokens (λ f. f) last → (n : ℕ) (d : DraftForm) (terms : Terms)
    → Before d terms t.negative [] → Makes BeforeFactor n d (term_tokens t tokens) (terms ++ term_of t ∷ last)
term_made t tokens last h made n d terms b =
    factor_made terms t.negative [] t.first n d (more_factors t.more tokens) (terms ++ term_of t ∷ last) h.0 b
    (λ q m g c. factors_made t.more tokens last h.1 made q m g terms t.negative (factor_of t.first ∷ []) c)

sign_made : (negative : Bool) (p : Place) (n : ℕ) (d : DraftForm) (tokens : Tokens) (goal : Terms) → after_mark p Plus ≡ Some BeforeFactor
    → after_mark p Minus ≡ Some BeforeFactor → Makes BeforeFactor n (signed negative p n d) tokens goal → Makes p n d (sign_token negative ∷ tokens) goal
sign_made false p n d tokens goal plus minus m = (
  m.0,
  ap (λ o. option_and_then (λ q. take_tokens places maker q n (signed false p n d) tokens) o) plus
      ∙ m.1,
  m.2,
)
sign_made true p n d tokens goal plus minus m = (
  m.0,
  ap (λ o. option_and_then (λ q. take_tokens places maker q n (signed true p n d) tokens) o) minus
      ∙ m.1,
  m.2,
)

terms_made : (ts : List WrittenTerm) → AllByRecursion IsTerm ts → IsMade (more_terms ts) (λ f. f) (map term_of ts)
terms_made [] h p n d terms negative factors b = (
  with_term (with_factor p n d),
  ap (λ t. cond t (Some (with_term (with_factor p n d))) None) b.end,
  (λ i. b.terms_are i ++ record { negative = b.negative_is i; factors = b.factors_are i } ∷ []),
)
terms_made (t ∷ ts) h p n d terms negative factors b =
    let e = record (with_term (with_factor p n d)) { negative = t.negative } in
    let done = terms ++ record { negative = negative; factors = factors } ∷ [] in
    let before : Before e done t.negative [] = record {
      terms_are = (λ i. b.terms_are i ++ record {
        negative = b.negative_is i;
        factors =
            b.factors_are i;
      } ∷ []);
      negative_is = refl;
      factors_are = refl;
    } in
    let rest = term_tokens t (more_terms ts) in
    let m = term_made t (more_terms ts) (map term_of ts) h.0 (terms_made ts h.1) n e done before in
    let goal = terms ++ record { negative = negative; factors = factors } ∷ map term_of (t ∷ ts) in
    let same = subst (λ v. Makes BeforeFactor n e rest v) (append_assoc terms (record {
      negative = negative;
      factors =
          factors;
    } ∷ []) (map term_of (t ∷ ts))) m in
    sign_made t.negative p n d rest goal b.plus b.minus (subst (λ v. Makes BeforeFactor n v rest goal) (sym (b.later t.negative)) same)

-- the first term without its sign
bare_start : (f : WrittenFactor) (n : ℕ) (d : DraftForm) (rest : Tokens) (goal : Terms) → Makes BeforeFactor n d (factor_tokens f rest) goal
    → Makes Start n d (factor_tokens f rest) goal
bare_start (number top) n d rest goal m = m
bare_start (fraction top bottom) n d rest goal m = m
bare_start (zeta k ks) n d rest goal m = m
bare_start (power k ks p) n d rest goal m = m

pub line_made : (with_sign : Bool) (t : WrittenTerm) (ts : List WrittenTerm) → AllByRecursion IsTerm (t ∷ ts) → IsSigned with_sign t
    → Makes Start 0 start (line_tokens with_sign t ts) (map term_of (t ∷ ts))
line_made true t ts h s =
    let e = record start { negative = t.negative } in
    sign_made t.negative Start 0 start (term_tokens t (more_terms ts)) (map term_of (t ∷ ts)) refl refl
    (term_made t (more_terms ts) (map term_of ts) h.0 (terms_made ts h.1) 0 e [] (record { terms_are = refl; negative_is = refl; factors_are = refl }))
line_made false t ts h s =
    bare_start t.first 0 start (more_factors t.more (more_terms ts)) (map term_of (t ∷ ts))
    (term_made t (more_terms ts) (map term_of ts) h.0 (terms_made ts h.1) 0 start [] (record { terms_are = refl; negative_is = sym s; factors_are = refl }))
