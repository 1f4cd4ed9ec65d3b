-- `seal_bits` meets its contract.
use mathlib.Core.Path.{◌≡◌, sym, ◌∙◌, ap}
use mathlib.Core.List.{List}
use Prim.Native.Nat.{ℕ}
use lib.ListN.{length}
use Rattle.refusals.proofs.Checks.{gives_same}
use Rattle.parameters.specs.Sets.{set_of}
use Rattle.packing.specs.Messages.{message_bytes, byte, listed}
use Rattle.etru.specs.Calls.{sealing}
use Rattle.short_messages.specs.ShortMessages.{padded_bit, padded}
use Rattle.short_scheme.proofs.Promises.{short_seals_as_padded}
use Rattle.short_sealing.proofs.seal_bits.Goals as goal

-- the bits of a message, where the room is right
bits_are : (N n : ℕ) (short : List ℕ) → n ≡ message_bytes N → listed n (byte (padded_bit short)) ≡ padded N short
unfolding padded
bits_are N n short e = ap (λ (k : ℕ). listed k (byte (padded_bit short))) e

pub returns : goal.returns
returns c = let p = set_of c.args.p in
    let room = length c.args.e.now in
    let bits = c.pad.ensures ∙ bits_are p.N (length c.args.bits.now) c.args.message.now c.requires.1 in
    gives_same c.args.e.now
    (short_seals_as_padded p c.args.h.now c.args.phi.now c.args.message.now room c.requires.0 ∙ ap (λ (m : List ℕ). sealing p c.args.h.now c.args.phi.now m room) (sym bits))
    c.seal.ensures
