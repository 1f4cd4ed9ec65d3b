-- The number of each refusal, in the order of document 01's table ('Where each number is checked'), then those of document 02's wishes.
use Rattle.std.specs.Prelude.{ℕ, Result, Ok, Err}
use Rattle.refusals.specs.Outcomes.{Outcome, done, refused}
use Rattle.refusals.specs.declared.Refusal.{Refusal}

abbrev pub number_of : Refusal → ℕ
number_of Refusal.CoefficientCountOutOfRange = 1
number_of Refusal.ModulusPartOutOfRange = 2
number_of Refusal.ModulusPartsBothEven = 3
number_of Refusal.SOutOfRange = 4
number_of Refusal.TOutOfRange = 5
number_of Refusal.BoundNotBelowNorm = 6
number_of Refusal.WrongLength = 7
number_of Refusal.FNotInItsSet = 8
number_of Refusal.GNotInItsSet = 9
number_of Refusal.PhiNotInItsSet = 10
number_of Refusal.NotReducedModulo2 = 11
number_of Refusal.NotReducedModuloQ = 12
number_of Refusal.NotInverseModulo2 = 13
number_of Refusal.NotInverseModuloQ = 14
number_of Refusal.SpareBitSet = 15
number_of Refusal.HeadTooShort = 16
number_of Refusal.MarkNotEiz = 17
number_of Refusal.VersionNotOne = 18
number_of Refusal.KindNotWanted = 19
number_of Refusal.ParametersDiffer = 20
number_of Refusal.ModulusZero = 21
number_of Refusal.ValueOutOfRange = 22
number_of Refusal.PlaceOrUnitOutOfRange = 23
number_of Refusal.PlaceOccursTwice = 24
number_of Refusal.StopOccursTwice = 25
number_of Refusal.ShortMessageTooLong = 26
number_of Refusal.NotAShortMessage = 27

-- A result, as an outcome.
abbrev pub answered : {A : Type 0} → Result A Refusal → Outcome A
answered (Ok a) = done a
answered (Err r) = refused (number_of r)
