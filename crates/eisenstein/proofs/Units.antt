-- The product of units, by one test over all thirty-six products.
use Prim.Native.Nat.{◌+◌, ◌%◌}
use lib.Dec.{T}
use Rattle.integers.proofs.Tests.{every, every_at}
use Rattle.eisenstein.specs.Values.{unit, ◌*ω◌, same, same_ℤ}
use Rattle.eisenstein.specs.Promises.{UnitsMultiply}
use Rattle.eisenstein.proofs.Equality.{same_yes}

all_products : T (every (λ j. every (λ k. same (unit j *ω unit k) (unit ((j + k) % 6))) 6) 6)
unfolding same same_ℤ unit ◌*ω◌
all_products = tt

pub units_multiply : UnitsMultiply
units_multiply j k p q =
    same_yes (unit j *ω unit k) (unit ((j + k) % 6))
    (every_at (λ k. same (unit j *ω unit k) (unit ((j + k) % 6))) 6
    (every_at (λ j. every (λ k. same (unit j *ω unit k) (unit ((j + k) % 6))) 6) 6 all_products j p)
    k
    q)
