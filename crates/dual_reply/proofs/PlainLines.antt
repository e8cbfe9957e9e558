-- Where all words of a line are admissible no index begins with 1.
use Rattle.std.proofs.Common.{◌≡◌, ℕ, zero, suc, ◌<◌, true, false, Some, None, List, [], ◌∷◌, ◌++◌, map, refl, sym, ap, subst, ◌∙◌, arith}
use Rattle.std.specs.Prelude.{is_some, not}
use Rattle.std.specs.List.{AllByRecursion, list_all}
use Rattle.std.proofs.lemmas.Bool.{and_parts, not-true}
use Rattle.zeta_model.specs.declared.Letter.{Letter}
use Rattle.zeta_model.specs.Words.{is_admissible, begins_with_x, ends_with_y}
use Rattle.zeta_model.specs.Indices.{z_word, word_of_index}
use Rattle.word_letters.proofs.IndexLemmas.{word_of_index-cons}
use Rattle.line_tokens.specs.declared.spots.Spot.TheVariants.{Between}
use Rattle.line_tokens.specs.Tokens.{value_of}
use Rattle.line_tokens.proofs.CompleteMachine.{is_some-read}
use Rattle.dual_reply.specs.Grammar.{WrittenZeta, IsZeta, term_of}
use Rattle.dual_reply.specs.Inner.{DraftForm, is_plain, first_one, maker, start}
use Rattle.dual_reply.specs.Places.{places}
use Rattle.dual_reply.specs.Sums.{signed_of}
use Rattle.dual_reply.specs.declared.place.Place.TheVariants.{Start}
use Rattle.dual_reply.specs.declared.words.Signed.{Signed}
use Rattle.dual_reply.proofs.HeavyTerms.{heavies, AreLight, lights_all, Weighs, weighs}
use Rattle.dual_reply.proofs.IndexNumbers.{number_tells}
use Rattle.dual_reply.proofs.LineLemmas.{made_of_line, line_read, accepted_line}
use Rattle.dual_reply.proofs.Readings.{AreOver, none_of, none_found}

over_one : (k : ℕ) (w : List Letter) → 0 < k → begins_with_x (z_word k ++ w) ≡ true → 1 < k
over_one zero w p e = absurd (omega arith)
over_one (suc zero) w p e = cc
over_one (suc (suc k)) w p e = omega arith

abbrev are_admissible : List Signed → Type 0
are_admissible ss = list_all (λ s. is_admissible s.word) ss ≡ true

all_over_one : (zs : List WrittenZeta) → AllByRecursion IsZeta zs → are_admissible (map signed_of (map term_of zs)) → AreOver (map term_of zs)
all_over_one [] h e = tt
all_over_one (z ∷ zs) h e =
    let k = value_of z.first in
    let ks = map value_of z.more in
    let w = word_of_index (k ∷ ks) in
    let p = and_parts (is_admissible w) (list_all (λ s. is_admissible s.word) (map signed_of (map term_of zs))) e in
    let x = (and_parts (begins_with_x w) (ends_with_y w) p.0).0 in
    (over_one k (word_of_index ks) (number_tells z.first h.0.0).positive (sym (ap begins_with_x (word_of_index-cons k ks)) ∙ x), all_over_one zs h.1 p.1)

pub plain_none : (line : List ℕ) (d : DraftForm) → made_of_line line ≡ Some d → is_plain d ≡ true → None ≡ first_one false line
plain_none line d e p =
    let l = accepted_line line (sym (is_some-read places maker line (Between Start) 0 start) ∙ ap is_some e) in
    let m = line_read l.0 l.1 l.2 line l.3 in
    let same : d ≡ m.0 = let g : Some d ≡ Some m.0 = sym e ∙ m.1 in cc in
    let ts = map term_of (l.1 ∷ l.2) in
    let q = and_parts (not (is_some d.heavy)) (list_all (λ s. is_admissible s.word) d.terms) p in
    let none : heavies None ts ≡ None =
    sym m.3 ∙ ap (λ (f : DraftForm). f.heavy) (sym same) ∙ none_of d.heavy (not-true (is_some d.heavy) q.0) in
    let light : AreLight ts = subst (Weighs ts) none (weighs ts) in
    let all : d.terms ≡ map signed_of ts = ap (λ (f : DraftForm). f.terms) same ∙ m.2 ∙ lights_all ts light in
    sym (none_found line ts (l.0, l.1, l.2, l.3, refl) (all_over_one (l.1 ∷ l.2) l.3.formed (subst are_admissible all q.1)))
