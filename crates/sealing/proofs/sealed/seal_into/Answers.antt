-- `seal_into` meets its contract: 2φ × h is φ × h added to itself.
use mathlib.Core.Path.{◌≡◌, sym, ◌∙◌, ap, ap₂}
use mathlib.Core.List.{List}
use Prim.Native.Nat.{ℕ}
use lib.IntN.{ℤ}
use lib.ListN.{length}
use Rattle.eisenstein.specs.Values.{ℤ[ω], ◌+ω◌}
use Rattle.eisenstein.specs.Reduction.{mod_q}
use Rattle.parameters.specs.Sets.{ParameterSet, set_of}
use Rattle.polynomials.specs.Polynomials.{Polynomial, coefficient, array, convolution}
use Rattle.polynomials.proofs.Arrays.{array_same, array_length, coefficient-array}
use Rattle.polynomials.proofs.Promises.{convolution_commutes, convolution_adds}
use Rattle.packing.specs.Messages.{packed}
use Rattle.etru.specs.Scheme.{sealed}
use Rattle.etru.proofs.Passed.{Sealing, sealing_passed}
use Rattle.etru.proofs.Products.{product-formed}
use Rattle.sealing.proofs.sealed.seal_into.Goals as goal
use Rattle.sealing.proofs.sealed.seal_into.Goals.{Start}

doubled : (N : ℕ) (x y : Polynomial) (i : ℕ) → convolution N x y i +ω convolution N x y i ≡ convolution N (λ j. x j +ω x j) y i
doubled N x y i =
    ap₂ ◌+ω◌ (convolution_commutes N x y i) (convolution_commutes N x y i)
    ∙ sym (convolution_adds N y x x i)
    ∙ convolution_commutes N y (λ j. x j +ω x j) i

abbrev P : Start → ParameterSet
P s = set_of s.args.p

-- φ × h
abbrev product : Start → Polynomial
product s = convolution s.args.p.n (coefficient s.args.phi.now) (coefficient s.args.h.now)

ready : (s : Start) → Sealing (P s) s.args.h.now s.args.phi.now s.args.message.now (length s.args.e.now)
ready s = sealing_passed (P s) s.args.h.now s.args.phi.now s.args.message.now (length s.args.e.now) s.requires

pub invariant_of-add_message : goal.invariant_of-add_message
invariant_of-add_message c = record { passes = (ready (goal.at.invariant_of-add_message c).Start).accepted.checks }

pub add_message-requires : goal.add_message-requires
unfolding sealed
add_message-requires c =
    let product_is : c.multiply_units.new.out ≡ array c.args.p.n (product (goal.at.add_message-requires c).Start) = let k = ready (goal.at.add_message-requires c).Start in
    product-formed (P (goal.at.add_message-requires c).Start) k.accepted c.args.e.now k.φ_units k.h_ready k.room_is (array c.args.p.n (product (goal.at.add_message-requires c).Start)) c.multiply_units.ensures in
    ap length product_is ∙ array_length c.args.p.n (product (goal.at.add_message-requires c).Start)

pub returns : goal.returns
unfolding sealed
returns c =
    let product_is : c.multiply_units.new.out ≡ array c.args.p.n (product (goal.at.returns c).Start) = let k = ready (goal.at.returns c).Start in
    product-formed (P (goal.at.returns c).Start) k.accepted c.args.e.now k.φ_units k.h_ready k.room_is (array c.args.p.n (product (goal.at.returns c).Start)) c.multiply_units.ensures in
    c.add_message.ensures
    ∙ array_same c.args.p.n
    (λ i p.
    let e = ap (λ (l : List ℤ). coefficient l i) product_is ∙ coefficient-array c.args.p.n (product (goal.at.returns c).Start) i p in
    ap (λ (z : ℤ[ω]). mod_q (P (goal.at.returns c).Start).q (z +ω packed c.args.message.now i)) (ap₂ ◌+ω◌ e e ∙ doubled c.args.p.n (coefficient c.args.phi.now) (coefficient c.args.h.now) i))
