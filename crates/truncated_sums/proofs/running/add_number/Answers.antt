use Rattle.std.proofs.Common.{◌≡◌, ℕ, ◌+◌, ◌*◌, ◌%◌, ◌^◌, ◌<◌, true, length, get_or, refl, ap, ◌∙◌, arith}
use Rattle.std.proofs.lemmas.List.Elements.{All-set}
use Rattle.std.proofs.lemmas.List.{get_or_read}
use Rattle.truncated_sums.proofs.RunningSums.{gains_next, rest_step}
use Rattle.truncated_sums.proofs.running.add_number.Goals as goal

pub loop-j-preserved : goal.loop-j-preserved
loop-j-preserved g c =
    let ring = c.args.ring.now in
    let kept = c.loop-j.invariant in
    let now = c.loop-j.sums in
    let j = c.loop-j.j in
    let m = g.R.Ring.modulus ring in
    let value = g.R.Ring.value ring in
    let a = c.args.inverse in
    let p = c.power.result in
    let x = c.index-sums-j-in-loop-j.result in
    let y = c.index-sums-j.result in
    let k : ℕ = get_or c.args.index.now j 0 in
    let here : j < length now = omega arith in
    let next : j + 1 < length now = omega arith in
    let has_x : g.R.Ring.has ring x ≡ true = ap (g.R.Ring.has ring) c.index-sums-j-in-loop-j.is ∙ kept.in_ring j x here in
    let has_y : g.R.Ring.has ring y ≡ true = ap (g.R.Ring.has ring) c.index-sums-j.is ∙ kept.in_ring (j + 1) y next in
    let has_p : g.R.Ring.has ring p ≡ true = c.power.ensures.has in
    let has_product : g.R.Ring.has ring c.mul-gained.result ≡ true = ap (g.R.Ring.has ring) c.mul-gained.ensures
    ∙ g.met.R.Ring.has_mul ring p y has_p has_y in
    let product : value c.mul-gained.result ≡ value p * value y % m = ap value c.mul-gained.ensures ∙ g.met.R.Ring.value_mul ring p y has_p has_y in
    let has_sum : g.R.Ring.has ring c.add.result ≡ true = ap (g.R.Ring.has ring) c.add.ensures
    ∙ g.met.R.Ring.has_add ring x c.mul-gained.result has_x has_product in
    let sum : value c.add.result ≡ (value x + value c.mul-gained.result) % m = ap value c.add.ensures
    ∙ g.met.R.Ring.value_add ring x c.mul-gained.result has_x has_product in
    let whole : value c.add.result ≡ (value x + value a ^ k * value y) % m = rest_step m (value x) (value y) (value p) (value a ^ k) (value c.mul-gained.result) (value c.add.result) sum product c.power.ensures.value in
    record {
      in_ring = All-set (λ e. g.R.Ring.has ring e ≡ true) now j c.add.result has_sum kept.in_ring;
      gains = gains_next m value a c.add.result k c.args.index.now j c.args.sums.now now here refl
          (λ d. whole ∙ (λ t. (value (get_or_read now j x here c.index-sums-j-in-loop-j.is d t) + value a ^ k * value (get_or_read now (j + 1) y next c.index-sums-j.is d t)) % m))
          kept.gains;
    }
