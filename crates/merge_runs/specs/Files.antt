-- What the bytes of a file are: the one spelling of a share, or of none.
use Rattle.std.specs.Prelude.{◌≡◌, ◌≢◌, ◌⊎◌, ℕ, ◌<◌, ◌≤◌, List, length, Option, Some, None}
use Rattle.share_model.specs.declared.share.Share.{Share}
use Rattle.share_model.specs.Shares.{IsShare}
use Rattle.share_file.specs.Spelling.{share_spelling}

-- the most bytes that a share may have
abbrev pub share_limit : ℕ
share_limit = 100663296

-- the bytes are those of the share
pub record AreOfShare (bytes : List ℕ) (share : Share) : Type 0 where
  pub few : length bytes ≤ share_limit
  pub is_share : IsShare share
  pub spelling : bytes ≡ share_spelling share

-- they are too many, or those of no share
abbrev pub AreUnreadable : List ℕ → Type 0
AreUnreadable bytes = (share_limit < length bytes) ⊎ ((share : Share) → IsShare share → bytes ≢ share_spelling share)

abbrev pub ReadAs : List ℕ → Option Share → Type 0
ReadAs bytes (Some share) = AreOfShare bytes share
ReadAs bytes None = AreUnreadable bytes
