-- What is said of a file in which a table is to be built, or with which a build goes on, is one thing.
use Rattle.std.specs.Prelude.{◌≡◌, ℕ, List, [], ◌∷◌, codes}
use Rattle.std.proofs.Common.{sym, ◌∙◌, ap}
use Rattle.page_codec.specs.declared.params.Params.{Params}
use Rattle.file_model.specs.Builds.{Answer, BuildEnds}
use Rattle.file_model.proofs.OneAnswer.{one_answer}
use Rattle.whole_runs.specs.FileWorks.{told_work, IsBuild, IsResume}
use Rattle.whole_runs.specs.Works.{Work}

one_end : (params : Params) (bytes : List ℕ) (a b : Answer) → BuildEnds params bytes a → BuildEnds params bytes b → a ≡ b
one_end params [] a b x y = one_answer params [] a b x y
one_end params (byte ∷ bytes) a b x y = x ∙ sym y

pub one_build : (params : Params) (bytes : List ℕ) (v w : Work) → IsBuild params bytes v → IsBuild params bytes w → v ≡ w
one_build params bytes v w x y = x.told ∙ ap (told_work (codes "built")) (one_end params bytes x.answer y.answer x.ends y.ends) ∙ sym y.told

pub one_resume : (params : Params) (bytes : List ℕ) (v w : Work) → IsResume params bytes v → IsResume params bytes w → v ≡ w
one_resume params bytes v w x y =
    x.told ∙ ap (told_work (codes "resumed")) (one_answer params bytes x.answer y.answer x.ends y.ends) ∙ sym y.told
