-- The promises of convolution, at the cyclic group.
use mathlib.Core.Path.{refl, sym, ◌∙◌, ap₂, subst}
use Rattle.eisenstein.specs.Values.{ℤ[ω], ◌+ω◌, Congruent}
use Rattle.polynomials.specs.Polynomials.{convolution}
use Rattle.polynomials.specs.Promises.{ConvolutionCommutes, ConvolutionAssociates, ConvolutionAdds, ConvolutionOne, ConvolutionSingle, ConvolutionCongruent, ConvolutionNorm}
use Rattle.polynomials.proofs.Convolutions.{conv_same, conv_congruent, conv_add_right, conv_single, conv_assoc, conv_unit_left, conv_comm}
use Rattle.polynomials.proofs.Cyclic.{cyclic, cyclic_comm}
use Rattle.polynomials.proofs.Eisenstein.{ring, modulo, sum_is, convolution-is, one-is}
use Rattle.polynomials.proofs.Members.{convolution-within}

pub convolution_commutes : ConvolutionCommutes
convolution_commutes N x y i = convolution-is N x y i ∙ conv_comm ring (cyclic N) (cyclic_comm N) x y i ∙ sym (convolution-is N y x i)

pub convolution_associates : ConvolutionAssociates
convolution_associates N x y z i =
    convolution-is N (convolution N x y) z i
    ∙ conv_same ring (cyclic N) (λ j _. convolution-is N x y j) (λ k _. refl) i
    ∙ conv_assoc ring (cyclic N) x y z i
    ∙ sym (conv_same ring (cyclic N) (λ j _. refl) (λ k _. convolution-is N y z k) i)
    ∙ sym (convolution-is N x (convolution N y z) i)

pub convolution_adds : ConvolutionAdds
convolution_adds N x y z i =
    convolution-is N x (λ k. y k +ω z k) i
    ∙ conv_add_right ring (cyclic N) x y z i
    ∙ sym (ap₂ ◌+ω◌ (convolution-is N x y i) (convolution-is N x z i))

pub convolution-one : ConvolutionOne
convolution-one N x i l =
    convolution-is N _ x i ∙ conv_same ring (cyclic N) (λ j _. one-is j) (λ k _. refl) i ∙ conv_unit_left ring (cyclic N) x i l

pub convolution_single : ConvolutionSingle
convolution_single N x y i l = convolution-is N x y i ∙ conv_single ring (cyclic N) x y i l ∙ sym (sum_is N _)

pub convolution_congruent : ConvolutionCongruent
convolution_congruent N q x x' y y' p r i =
    subst (λ (u : ℤ[ω]). Congruent q u (convolution N x' y' i)) (sym (convolution-is N x y i))
    (subst (Congruent q _) (sym (convolution-is N x' y' i)) (conv_congruent ring (cyclic N) (modulo q) p r i))

pub convolution-norm : ConvolutionNorm
convolution-norm N t b x y h k i l = (convolution-within N t b x y h (λ j m. record { within = k j m }) i l).within
