-- Lines that are written piece by piece.
use Rattle.std.proofs.Common.{◌≡◌, ℕ, Bool, true, false, List, [], ◌∷◌, ◌++◌, length, refl, sym, ap, ◌∙◌, arith, append_assoc}
use Rattle.std.specs.Prelude.{codes, decimal}
use Rattle.zeta_model.specs.declared.Letter.{Letter}
use Rattle.zeta_model.specs.Indices.{index_of}
use Rattle.word_letters.specs.Inner.{part_text}
use Rattle.word_letters.proofs.IndexTexts.{text_from, text_from-cons}
use Rattle.page_codec.specs.declared.fault.ParamFault.TheVariants.{NotBelow}
use Rattle.whole_runs.specs.Texts.{param_line, word_line}
use Rattle.written_lines.specs.Inner.{numbers_text, at_word}

pub not_below_line : (w m : ℕ)
    → codes "bad parameter: weight " ++ (decimal w ++ (codes " not below modulus " ++ (decimal m ++ 10 ∷ []))) ≡ param_line (NotBelow w m)
not_below_line w m = ap (λ l. codes "bad parameter: weight " ++ l) (sym (append_assoc (decimal w) (codes " not below modulus " ++ decimal m) (10 ∷ [])))

-- the numbers, what closes them, and the byte 10
numbers_text-from : (b : Bool) (ks : List ℕ) → numbers_text b ks ≡ (text_from b ks ++ codes ")") ++ 10 ∷ []
numbers_text-from true [] = refl
numbers_text-from false [] = refl
numbers_text-from b (k ∷ ks) =
    ap (λ l. part_text b k ++ l) (numbers_text-from false ks ∙ append_assoc (text_from false ks) (codes ")") (10 ∷ []))
    ∙ sym (append_assoc (part_text b k) (text_from false ks) (codes ")" ++ 10 ∷ []))
    ∙ ap (λ l. l ++ (codes ")" ++ 10 ∷ [])) (sym (text_from-cons b k ks))
    ∙ sym (append_assoc (text_from b (k ∷ ks)) (codes ")") (10 ∷ []))

-- the line of a word, from its two pieces
pub word_line-pieces : (value : ℕ) (word : List Letter) → (codes "no inverse: " ++ decimal value) ++ at_word word ≡ word_line value word
word_line-pieces value word =
    append_assoc (codes "no inverse: ") (decimal value) (at_word word)
    ∙ ap (λ l. codes "no inverse: " ++ (decimal value ++ (codes " at word z(" ++ l))) (numbers_text-from true (index_of word))

-- no number is left of a word without letters
pub numbers_text-end : (b : Bool) (word : List Letter) → length word ≡ 0 → numbers_text b (index_of word) ≡ codes ")" ++ 10 ∷ []
numbers_text-end b [] e = refl
numbers_text-end b (a ∷ word) e = absurd (omega arith)

-- the first number, and those of the word behind it
pub numbers_text-next : (b : Bool) (k : ℕ) (word rest : List Letter) → index_of word ≡ k ∷ index_of rest
    → part_text b k ++ numbers_text false (index_of rest) ≡ numbers_text b (index_of word)
numbers_text-next b k word rest e = sym (ap (numbers_text b) e)
