-- `byte_of` meets its contract: a byte is four bits, and four more.
use mathlib.Core.Path.{◌≡◌, ◌∙◌, ap, ap₂}
use Prim.Native.Nat.{ℕ, ◌+◌, ◌*◌}
use native.Mathlib.Omega.{arith}
use Rattle.polynomials.specs.Polynomials.{coefficient}
use Rattle.packing.specs.Messages.{message_bit, byte}
use Rattle.message_unpacking.specs.Steps.{four_bits}
use Rattle.message_unpacking.proofs.messages.byte_of.Goals as goal

halves : (b : ℕ → ℕ) (j : ℕ) → 16 * four_bits b (8 * j) + four_bits b (8 * j + 4) ≡ byte b j
unfolding byte
halves b j = omega (arith, ap b {x = 8 * j + 4 + 1} {y = 8 * j + 5} (omega arith), ap b {x = 8 * j + 4 + 2} {y = 8 * j + 6} (omega arith), ap b {x = 8 * j + 4 + 3} {y = 8 * j + 7} (omega arith))

pub returns : goal.returns
returns c = ap₂ (λ (h l : ℕ). 16 * h + l) c.four_bits-high.ensures.0 c.four_bits-low.ensures.0 ∙ halves (message_bit c.args.n (coefficient c.args.m.now)) c.args.j
