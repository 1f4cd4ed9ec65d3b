-- The kinds of file (document 01, 'Files').
use Rattle.std.specs.Prelude.{◌≡◌, Bool, false, cond, ◌||◌, List, [], ◌∷◌, ℕ, ltb, eqb, length, Result, MatchResult}
use Rattle.refusals.specs.declared.Refusal.{Refusal}
use Rattle.array_sets.specs.declared.ArraySet.{ArraySet}
use Rattle.array_sets.specs.declared.ArraySet.TheVariants.{F, G, ReducedModulo2, ReducedModuloQ}
use Rattle.heads.specs.declared.kinds.Kind.{Kind}

-- "Kind 1, public: h. Kind 2, private: f, F2, Fq, g. Kind 3, sealed: e." The set of each array, in stored order.
-- Document 02, wish 4: "kind 5, laid out like kind 3".
unfoldable pub arrays_of : ℕ → List ArraySet
arrays_of kind =
    cond (eqb kind 1) (ReducedModuloQ ∷ [])
    (cond (eqb kind 2) (F ∷ ReducedModulo2 ∷ ReducedModuloQ ∷ G ∷ [])
    (cond (eqb kind 3) (ReducedModuloQ ∷ [])
    (cond (eqb kind 5) (ReducedModuloQ ∷ []) [])))

-- The kinds that are made of arrays alone are the numbers that have arrays.
abbrev pub made_of_arrays : ℕ → Bool
made_of_arrays kind = ltb 0 (length (arrays_of kind))

-- Document 02, wish 2: "Kind 4", one file for a round.
abbrev pub bundle_kind : ℕ
bundle_kind = 4

-- "Refusal 19 now admits each kind that this and later wishes add."
abbrev pub known_kind : ℕ → Bool
known_kind kind = made_of_arrays kind || eqb kind bundle_kind

-- The number of each kind.
abbrev pub number_of_kind : Kind → ℕ
number_of_kind Kind.Public = 1
number_of_kind Kind.Private = 2
number_of_kind Kind.Sealed = 3
number_of_kind Kind.Bundle = 4
number_of_kind Kind.Short = 5

-- The kind of a number, or refusal 19 where no kind has it.
abbrev pub KindOf : ℕ → Result Kind Refusal → Type 0
KindOf number r = MatchResult r (λ kind. number_of_kind kind ≡ number) (λ e. (e ≡ Refusal.KindNotWanted) × (known_kind number ≡ false))
