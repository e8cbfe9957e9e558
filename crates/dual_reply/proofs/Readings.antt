-- Each line is accepted or has one refusal.
use Rattle.std.proofs.Common.{◌≡◌, ◌⊎◌, inl, inr, ℕ, ◌<◌, ◌≤◌, Bool, true, false, ltb, cond, Option, Some, None, List, [], ◌∷◌, length, map, get_or}
use Rattle.std.proofs.Common.{refl, sym, ap, subst, ◌∙◌, arith}
use Rattle.std.specs.Prelude.{Result, Ok, Err, is_some}
use Rattle.std.specs.List.{AllByRecursion}
use Rattle.std.proofs.lemmas.Bool.{lt-ltb, le-ltb, ltb-true, ltb-false, or_parts, or_from, false_from_ne_true}
use Rattle.line_tokens.specs.declared.spots.Spot.TheVariants.{Between}
use Rattle.line_tokens.specs.Machine.{passed, accepts}
use Rattle.line_tokens.specs.Prefixes.{Accepted, IsStop, LongestPrefix}
use Rattle.line_tokens.proofs.CompleteMachine.{is_some-read}
use Rattle.line_tokens.proofs.PrefixLemmas.{longest_passed, longest_is_one, stop_in_words}
use Rattle.dual_reply.specs.Grammar.{WrittenZeta, IsZeta, IsLine, Term, term_of, IsReading, IsAcceptedIndex, IsAccepted}
use Rattle.dual_reply.specs.Inner.{DraftForm, first_one, maker, start, weighed, judged, reading_made, reading_of}
use Rattle.dual_reply.specs.Places.{places}
use Rattle.dual_reply.specs.Refusals.{IsRefused}
use Rattle.dual_reply.specs.Sums.{signed_of}
use Rattle.dual_reply.specs.Tails.{tails}
use Rattle.dual_reply.specs.declared.place.Place.TheVariants.{Start}
use Rattle.dual_reply.specs.declared.refusal.Refusal.{Refusal}
use Rattle.dual_reply.specs.declared.refusal.Refusal.TheVariants.{LineTooLong, Syntax, NotAdmissible, WeightIs}
use Rattle.dual_reply.specs.declared.words.Signed.{Signed}
use Rattle.dual_reply.proofs.FirstOnes.{first_is_first, first_found}
use Rattle.dual_reply.proofs.HeavyTerms.{lights, heavies, AreLight, lights_all, none_heavy, first_heavy, Weighs, weighs}
use Rattle.dual_reply.proofs.IndexNumbers.{is_one, number_tells}
use Rattle.dual_reply.proofs.LineLemmas.{made_of_line, line_read, line_accepted, accepted_line, line_same, same_line}
use Rattle.dual_reply.proofs.OneTokens.{any_one, found_in_line}

abbrev pub Answer : Type 0
Answer = Result (List Signed) Refusal

-- the first number of each index is over 1
abbrev pub AreOver : List Term → Type 0
AreOver ts = AllByRecursion (λ t. 1 < get_or t.index 0 0) ts

over_from : (zs : List WrittenZeta) → AllByRecursion IsZeta zs → any_one zs ≡ false → AreOver (map term_of zs)
over_from [] h e = tt
over_from (z ∷ zs) h e = let p = or_parts (is_one z.first) (any_one zs) e in ((number_tells z.first h.0.0).over p.0, over_from zs h.1 p.1)

none_from : (zs : List WrittenZeta) → AllByRecursion IsZeta zs → AreOver (map term_of zs) → any_one zs ≡ false
none_from [] h o = refl
none_from (z ∷ zs) h o =
    let t = number_tells z.first h.0.0 in
    or_from (is_one z.first) (any_one zs) (false_from_ne_true (is_one z.first) (λ e. let f = t.one e in let g = o.0 in omega arith)) (none_from zs h.1 o.1)

-- the two tests of the indices of some terms
parts : (ts : List Term) → AllByRecursion (λ t. IsAcceptedIndex t.index) ts → AreOver ts × AreLight ts
parts [] h = (tt, tt)
parts (t ∷ ts) h = let r = parts ts h.1 in ((h.0.0, r.0), (h.0.1, r.1))

both : (ts : List Term) → AreOver ts → AreLight ts → AllByRecursion (λ t. IsAcceptedIndex t.index) ts
both [] o l = tt
both (t ∷ ts) o l = ((o.0, l.0), both ts o.1 l.1)

pub none_of : (o : Option ℕ) → is_some o ≡ false → o ≡ None
none_of None e = refl
none_of (Some n) e = cc

module _ (line : List ℕ) where
  abbrev short_answer : Answer
  short_answer = reading_made line (passed places (Between Start) line) (made_of_line line)

  pub too_long : 4096 < length line → reading_of line ≡ Err LineTooLong
  unfolding reading_of
  too_long h = ap (λ t. cond t (Err LineTooLong) short_answer) (lt-ltb 4096 (length line) h)

  within : length line ≤ 4096 → reading_of line ≡ short_answer
  unfolding reading_of
  within h = ap (λ t. cond t (Err LineTooLong) short_answer) (le-ltb 4096 (length line) h)

  -- a line of the grammar is judged by its terms
  pub judged_reading : (terms : List Term) → length line ≤ 4096 → IsReading terms line
      → reading_of line ≡ judged (first_one false line) (heavies None terms) (lights terms)
  judged_reading terms h r =
      let m = line_read r.0 r.1 r.2 line r.3 in
      within h ∙ ap (reading_made line (passed places (Between Start) line)) m.1
      ∙ (λ i. judged (first_one false line) (m.3 i) (m.2 i))
      ∙ ap (λ ts. judged (first_one false line) (heavies None ts) (lights ts)) (sym r.4)

  -- where no index begins with 1, the search finds none
  pub none_found : (terms : List Term) → IsReading terms line → AreOver terms → first_one false line ≡ None
  none_found terms r o =
      none_of (first_one false line)
      (found_in_line r.0 r.1 r.2 line r.3 ∙ none_from (r.1 ∷ r.2) r.3.formed (subst AreOver r.4 o))

  all_over : (terms : List Term) → IsReading terms line → first_one false line ≡ None → AreOver terms
  all_over terms r e =
      subst AreOver (sym r.4) (over_from (r.1 ∷ r.2) r.3.formed (sym (found_in_line r.0 r.1 r.2 line r.3) ∙ ap is_some e))

  weighed_reading : (terms : List Term) → length line ≤ 4096 → IsReading terms line → AreOver terms
      → reading_of line ≡ weighed (heavies None terms) (lights terms)
  weighed_reading terms h r o =
      judged_reading terms h r ∙ ap (λ one. judged one (heavies None terms) (lights terms)) (none_found terms r o)

  pub of_accepted : (terms : List Term) → IsAccepted terms line → reading_of line ≡ Ok (map signed_of terms)
  of_accepted terms a =
      let p = parts terms a.2 in
      weighed_reading terms a.0 a.1 p.0 ∙ ap (λ w. weighed w (lights terms)) (none_heavy terms p.1) ∙ ap (λ ts. Ok ts) (lights_all terms p.1)

  -- a line that is none of the grammar
  not_made : (IsLine line → ⊥) → made_of_line line ≡ None
  not_made n =
      elim (made_of_line line) as (λ o. made_of_line line ≡ o → o ≡ None) [
        | None ↦ λ e. refl
        | Some d ↦ λ e. absurd (n (accepted_line line (sym (is_some-read places maker line (Between Start) 0 start) ∙ ap is_some e)))
      ]
      refl

  pub of_made : (made : DraftForm) → length line ≤ 4096 → made_of_line line ≡ Some made → reading_of line ≡ judged (first_one false line) made.heavy made.terms
  of_made made h e = within h ∙ ap (reading_made line (passed places (Between Start) line)) e

  longest : LongestPrefix IsLine line (passed places (Between Start) line)
  longest = longest_passed places tails IsLine (Between Start) line_same line

  pub of_stop : (at : ℕ) → length line ≤ 4096 → IsStop IsLine line at → reading_of line ≡ Err (Syntax at)
  of_stop at h s =
      within h ∙ ap (reading_made line (passed places (Between Start) line)) (not_made s.0)
      ∙ ap (λ n. Err (Syntax n)) (longest_is_one IsLine line (passed places (Between Start) line) at longest s.1)

  pub of_stuck : (at : ℕ) → length line ≤ 4096 → IsStop (Accepted places Start) line at → reading_of line ≡ Err (Syntax at)
  of_stuck at h s = of_stop at h (stop_in_words (Accepted places Start) IsLine same_line line at s)

  pub of_refused : (refusal : Refusal) → IsRefused line refusal → reading_of line ≡ Err refusal
  of_refused LineTooLong h = too_long h
  of_refused (Syntax at) h = of_stop at h.0 h.1
  of_refused (NotAdmissible at) h =
      let l = h.1 in
      let terms = map term_of (l.1 ∷ l.2) in
      judged_reading terms h.0 (l.0, l.1, l.2, l.3, refl)
      ∙ ap (λ one. judged one (heavies None terms) (lights terms)) (first_found line at h.2)
  of_refused (WeightIs weight) h =
      let t = h.1 in
      weighed_reading t.0 h.0 t.1 t.2 ∙ ap (λ w. weighed w (lights t.0)) (first_heavy t.0 weight t.3)

  abbrev pub Decided : Type 0
  Decided = ((terms : List Term) × IsAccepted terms line) ⊎ ((refusal : Refusal) × IsRefused line refusal)

  by_weight : (terms : List Term) → length line ≤ 4096 → IsReading terms line → AreOver terms → (w : Option ℕ) → Weighs terms w → Decided
  by_weight terms h r o None w = inl (terms, (h, r, both terms o w))
  by_weight terms h r o (Some k) w = inr (WeightIs k, (h, (terms, r, o, w)))

  by_one : (terms : List Term) → length line ≤ 4096 → IsReading terms line → (one : Option ℕ) → first_one false line ≡ one → Decided
  by_one terms h r None e = by_weight terms h r (all_over terms r e) (heavies None terms) (weighs terms)
  by_one terms h r (Some at) e = inr (NotAdmissible at, (h, (r.0, r.1, r.2, r.3), first_is_first line at e))

  by_grammar : length line ≤ 4096 → (b : Bool) → accepts places (Between Start) line ≡ b → Decided
  by_grammar h true e =
      let l = accepted_line line e in
      by_one (map term_of (l.1 ∷ l.2)) h (l.0, l.1, l.2, l.3, refl) (first_one false line) refl
  by_grammar h false e =
      inr (Syntax (passed places (Between Start) line), (h, ((λ l. let f : false ≡ true = sym e ∙ line_accepted line l in cc), longest)))

  by_length : (b : Bool) → ltb 4096 (length line) ≡ b → Decided
  by_length true e = inr (LineTooLong, ltb-true 4096 (length line) e)
  by_length false e = by_grammar (ltb-false 4096 (length line) e) (accepts places (Between Start) line) refl

  pub decided : Decided
  decided = by_length (ltb 4096 (length line)) refl

  pub never_both : (terms : List Term) (refusal : Refusal) → IsAccepted terms line → IsRefused line refusal → ⊥
  never_both terms refusal a r =
      let e : ◌≡◌ {A = Answer} (Ok (map signed_of terms)) (Err refusal) = sym (of_accepted terms a) ∙ of_refused refusal r in
      cc

  pub one_refusal : (refusal other : Refusal) → IsRefused line refusal → IsRefused line other → refusal ≡ other
  one_refusal refusal other r s =
      let f : Answer → Refusal = λ a. elim a [ Ok ts ↦ refusal | Err x ↦ x ] in
      ap f (sym (of_refused refusal r) ∙ of_refused other s)
