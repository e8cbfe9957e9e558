-- Weight 3, depth 2, modulo 5: the columns are z(2,1) and z(3), and relation 0 is Reg(1, xy) with the value xxy - xyy.
use Rattle.std.specs.Prelude.{◌≡◌, ℕ, ◌%◌, List, [], ◌∷◌}
use Rattle.std.proofs.Common.{refl, arith}
use Rattle.zeta_model.specs.declared.Letter.{Letter}
use Rattle.zeta_model.specs.declared.Letter.TheVariants.{X, Y}
use Rattle.relation_list.specs.declared.names.Direct.TheVariants.{Reg, Dual}
use Rattle.relation_list.specs.declared.names.RelName.TheVariants.{Plain}
use Rattle.zeta_model.specs.WordLists.{all_words}
use Rattle.relation_list.specs.Listings.{fins, regs, duals, prods, listing_of}
use Rattle.table_model.specs.MonomialWords.{words_of_monomial, words_of_row}
use Rattle.table_model.specs.ListedSpan.{relation_count, listed_value}

xxy : List Letter
xxy = X ∷ X ∷ Y ∷ []

xyy : List Letter
xyy = X ∷ Y ∷ Y ∷ []

the_listing : listing_of 3 2 ≡ Plain (Reg 1 (X ∷ Y ∷ [])) ∷ Plain (Dual (X ∷ X ∷ Y ∷ [])) ∷ []
unfolding listing_of fins regs duals prods all_words
the_listing = refl

two_relations : relation_count 3 2 ≡ 2
unfolding relation_count listing_of fins regs duals prods all_words
two_relations = refl

value_at_xxy : listed_value 5 3 2 0 xxy % 5 ≡ 1
unfolding listed_value listing_of fins regs duals prods all_words xxy
value_at_xxy = refl

value_at_xyy : listed_value 5 3 2 0 xyy % 5 ≡ 4
unfolding listed_value listing_of fins regs duals prods all_words xyy
value_at_xyy = refl

-- the row 4*z(2,1)+1*z(3) of relation 0
row_at_xxy : (row : ℕ → ℕ) → words_of_row ((xyy ∷ []) ∷ (xxy ∷ []) ∷ []) row xxy ≡ row 1
unfolding words_of_monomial xxy xyy
row_at_xxy row = omega arith

-- in the shuffle of z(2) with itself xyxy stands twice and xxyy four times
square_of_z2 : words_of_monomial ((X ∷ Y ∷ []) ∷ (X ∷ Y ∷ []) ∷ []) (X ∷ Y ∷ X ∷ Y ∷ []) ≡ 2
unfolding words_of_monomial
square_of_z2 = refl

square_of_z2_less : words_of_monomial ((X ∷ Y ∷ []) ∷ (X ∷ Y ∷ []) ∷ []) (X ∷ X ∷ Y ∷ Y ∷ []) ≡ 4
unfolding words_of_monomial
square_of_z2_less = refl
