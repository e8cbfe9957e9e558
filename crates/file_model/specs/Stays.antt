-- What holds of every image of a disk that tells its moments.
use Rattle.std.specs.Prelude.{ℕ, Option, List}
use Rattle.outside_io.specs.Traces.{Trace}
use Rattle.page_file.specs.Stays.{AllImages, Passes}

-- where every image has P at first, every image has it at each moment since
abbrev pub Stays : (List ℕ → Type 0) → Option Trace → Option Trace → Type 0
Stays P old new = Passes (λ t image. AllImages P t.now → P image) old new
