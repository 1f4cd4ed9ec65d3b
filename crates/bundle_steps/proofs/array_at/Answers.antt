-- `array_at` meets its contract.
use mathlib.Core.Path.{◌≡◌, sym, ◌∙◌, ap}
use mathlib.Core.Bool.{true}
use Prim.Native.Nat.{ℕ, ◌+◌, ◌-◌, ◌*◌, ◌≤◌}
use native.Mathlib.Omega.{arith}
use lib.ListN.{length, take, drop}
use Rattle.heads.specs.Heads.{head_of}
use Rattle.bundles.specs.Bundles.{entry_length}
use Rattle.bundles.specs.Steps.{stands_at}
use Rattle.bundles.proofs.Lengths.{entry_length_lem}
use Rattle.bundles.proofs.Steps.{ends_within, part_here, part_past}
use Rattle.bundle_steps.proofs.array_at.Goals as goal

pub returns-then-not-stands_at : goal.returns-then-not-stands_at
returns-then-not-stands_at c = sym (part_past _ _ (sym c.stands_at.ensures ∙ c.if-not-stands_at.true))

pub overflow_add-result : goal.overflow_add-result
overflow_add-result c =
    let N : ℕ = (head_of c.args.bytes.now).N in
    let standing : stands_at c.args.bytes.now c.args.at ≡ true = sym c.stands_at.ensures ∙ c.if-not-stands_at.false in
    let within : c.args.at + (2 + 4 * N) ≤ length c.args.bytes.now = omega (arith, ends_within _ _ standing, entry_length_lem N) in
    omega (arith, within)

pub overflow_add-result-2 : goal.overflow_add-result-2
overflow_add-result-2 c =
    let N : ℕ = (head_of c.args.bytes.now).N in
    let standing : stands_at c.args.bytes.now c.args.at ≡ true = sym c.stands_at.ensures ∙ c.if-not-stands_at.false in
    let within : c.args.at + (2 + 4 * N) ≤ length c.args.bytes.now = omega (arith, ends_within _ _ standing, entry_length_lem N) in
    let long : c.entry_length.result ≡ 2 + 4 * N = c.entry_length.ensures ∙ ap entry_length c.coefficient_count.ensures.0 ∙ entry_length_lem N in
    omega (arith, within, long)

pub slice_bounds-result-count : goal.slice_bounds-result-count
slice_bounds-result-count c =
    let N : ℕ = (head_of c.args.bytes.now).N in
    let long : c.entry_length.result ≡ 2 + 4 * N = c.entry_length.ensures ∙ ap entry_length c.coefficient_count.ensures.0 ∙ entry_length_lem N in
    omega (arith, long)

pub slice_bounds-result-start : goal.slice_bounds-result-start
slice_bounds-result-start c =
    let N : ℕ = (head_of c.args.bytes.now).N in
    let long : c.entry_length.result ≡ 2 + 4 * N = c.entry_length.ensures ∙ ap entry_length c.coefficient_count.ensures.0 ∙ entry_length_lem N in
    omega (arith, long)

pub slice_bounds-result-end-2 : goal.slice_bounds-result-end-2
slice_bounds-result-end-2 c =
    let N : ℕ = (head_of c.args.bytes.now).N in
    let standing : stands_at c.args.bytes.now c.args.at ≡ true = sym c.stands_at.ensures ∙ c.if-not-stands_at.false in
    let within : c.args.at + (2 + 4 * N) ≤ length c.args.bytes.now = omega (arith, ends_within _ _ standing, entry_length_lem N) in
    let long : c.entry_length.result ≡ 2 + 4 * N = c.entry_length.ensures ∙ ap entry_length c.coefficient_count.ensures.0 ∙ entry_length_lem N in
    omega (arith, within, long)

pub returns : goal.returns
returns c =
    let standing : stands_at c.args.bytes.now c.args.at ≡ true = sym c.stands_at.ensures ∙ c.if-not-stands_at.false in
    let N : ℕ = (head_of c.args.bytes.now).N in
    let long : c.entry_length.result ≡ 2 + 4 * N = c.entry_length.ensures ∙ ap entry_length c.coefficient_count.ensures.0 ∙ entry_length_lem N in
    let count : c.args.at + c.entry_length.result - (c.args.at + 2) ≡ 4 * N = omega (arith, long) in
    ap (λ (k : ℕ). take k (drop (c.args.at + 2) c.args.bytes.now)) count ∙ sym (part_here _ _ standing)
