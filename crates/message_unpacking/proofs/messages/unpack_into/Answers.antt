-- `unpack_into` meets its contract. The loop's invariant: the bytes that are written are right.
use mathlib.Core.Path.{◌∙◌}
use native.Mathlib.Omega.{arith}
use Rattle.polynomials.specs.Polynomials.{coefficient}
use Rattle.message_unpacking.proofs.Unpacked.{unpacked_by_bytes}
use Rattle.message_unpacking.proofs.messages.unpack_into.Goals as goal

pub returns : goal.returns
returns c = let h = c.loop-j.invariant in unpacked_by_bytes c.args.n (coefficient c.args.m.now) c.loop-j.message (h.long ∙ c.requires.2) (λ j p. h.new j (omega (arith, h.long, c.requires.2)))
