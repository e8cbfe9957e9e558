use Rattle.std.proofs.Common.{◌≡◌, ◌∙◌, ◌+◌, ◌-◌, ◌++◌, List, ℕ, length, take, drop, replicate, ap, arith, length-append, length-drop}
use Rattle.std.specs.Prelude.{vec_len}
use Rattle.std.proofs.lemmas.List.{length-take-le, take_all, length-replicate}
use Rattle.table_migration.proofs.Taking.{read_behind}
use Rattle.table_migration.proofs.reading.take_on.Goals as goal

pub returns-clause-ok : goal.returns-clause-ok
returns-clause-ok g c =
    let bytes : List ℕ = c.args.buffer.now.items in
    let all = c.args.buffer.now.ok.0 in
    let have : c.len-have.result ≡ length bytes = omega (arith, all, c.len-have.ensures) in
    let value = c.deref_mut.ensures.value in
    let room : List ℕ = replicate ((c.len-have.result + c.args.wanted) - vec_len c.args.buffer.now) 0 in
    let wide : length room ≡ c.args.wanted = length-replicate _ 0 ∙ omega (arith, c.len-have.ensures) in
    let whole : c.deref_mut.result.now ≡ bytes ++ room =
    value ∙ c.in_ok-resize.ensures.items ∙ ap (λ l. l ++ room) (take_all (c.len-have.result + c.args.wanted) bytes (omega (arith, have))) in
    let long : length c.deref_mut.result.now ≡ length bytes + c.args.wanted = ap length whole ∙ length-append bytes room ∙ ap (λ k. length bytes + k) wide in
    let size : length c.fill.new.buf ≡ c.args.wanted =
    c.fill.ensures.same_length ∙ length-take-le (length c.deref_mut.result.now - c.len-have.result) (drop c.len-have.result c.deref_mut.result.now)
    (omega (arith, length-drop c.len-have.result c.deref_mut.result.now)) ∙ omega (arith, long, have) in
    let ys = c.fill.new.buf in
    let n = c.in_ok-count.count in
    let bound = c.in_ok-count.ensures.bound in
    let len = c.in_ok-resize.ensures.len in
    let exact = length-take-le n ys bound in
    record {
      bytes = take n ys;
      after_is = read_behind bytes room c.deref_mut.result.now ys c.truncate.new.self.items _ c.len-have.result _ n c.resize.new.self.len have whole
          (omega (arith, len, size, bound)) bound c.truncate.ensures.items;
      few = omega (arith, exact, size, bound);
      taken = c.in_ok-count.ensures.bytes;
      end = λ less. c.in_ok-count.ensures.end (omega (arith, exact, size, less));
    }
