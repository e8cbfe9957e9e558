-- What the bytes of a file that were read are.
use Rattle.std.specs.Prelude.{◌≡◌, ◌≢◌, ℕ, zero, suc, ◌<◌, ◌≤◌, List, [], ◌∷◌, length, Option, Some, None, IfSome, IfNone}
use Rattle.std.proofs.Common.{refl, ap, inl, inr, arith}
use Rattle.outside_io.specs.Traces.{Trace}
use Rattle.share_model.specs.declared.share.Share.{Share}
use Rattle.share_model.specs.Shares.{IsShare}
use Rattle.share_file.specs.Spelling.{share_spelling}
use Rattle.merge_runs.specs.Files.{share_limit}
use Rattle.merge_runs.specs.Inner.{HoldsShare}

zeros : ℕ → List ℕ
zeros zero = []
zeros (suc n) = 0 ∷ zeros n

length-zeros : (n : ℕ) → length (zeros n) ≡ n
unfolding zeros
length-zeros zero = refl
length-zeros (suc n) = ap suc (length-zeros n)

-- more bytes than a share may have
pub too_long : (told : Option Trace) (n : ℕ) → share_limit < n → IfSome told (λ t. n ≡ length t.now.contents) → HoldsShare told None
too_long None n many is = record { bytes = zeros n; is_told = tt; reads = inl (omega (arith, length-zeros n)) }
too_long (Some t) n many is = record { bytes = t.now.contents; is_told = refl; reads = inl (omega (arith, is)) }

-- bytes that were decoded
pub decoded : (told : Option Trace) (bytes : List ℕ) (found : Option Share) → length bytes ≤ share_limit → IfSome told (λ t. bytes ≡ t.now.contents)
    → IfSome found (λ s. IsShare s × (bytes ≡ share_spelling s)) → IfNone found ((s : Share) → IsShare s → bytes ≢ share_spelling s)
    → HoldsShare told found
decoded told bytes (Some s) few is some none =
    record { bytes = bytes; is_told = is; reads = record { few = few; is_share = some.0; spelling = some.1 } }
decoded told bytes None few is some none = record { bytes = bytes; is_told = is; reads = inr none }
