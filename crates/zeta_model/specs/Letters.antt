-- Which letters a product takes.
use Rattle.zeta_model.specs.declared.product.Letters.{Letters}
use Rattle.zeta_model.specs.declared.product.Letters.TheVariants.{Shuffle, Stuffle}
use Rattle.zeta_model.specs.Product.{Alphabet}
use Rattle.zeta_model.specs.Alphabets.{shuffle_alphabet, stuffle_alphabet}

abbrev pub alphabet_of : Letters → Alphabet
alphabet_of Shuffle = shuffle_alphabet
alphabet_of Stuffle = stuffle_alphabet
